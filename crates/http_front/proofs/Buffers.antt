-- What a buffer holds after a read, and after bytes were let go.
use Rattle.std.proofs.Common.{◌≡◌, ℕ, ◌+◌, ◌-◌, ◌≤◌, List, take, drop, sym, ap, ◌∙◌, arith}
use Rattle.std.specs.Prelude.{slice_range}
use Rattle.std.proofs.lemmas.List.{drop-drop, drop-take}
use Rattle.funnel_io.specs.BufferReads.{ReadsBehind, ReadsOnce}
use Rattle.funnel_io.specs.Calls.{Read}
use Rattle.funnel_io.specs.Streams.{Incoming}
use Rattle.funnel_io.specs.declared.source.Got.{Got}
use Rattle.http_front.specs.Steps.{HasRead, IsInPlace}

-- the first bytes were let go
pub range_after : (xs : List ℕ) (start end count : ℕ) → start + count ≤ end → slice_range xs (start + count) end ≡ drop count (slice_range xs start end)
range_after xs start end count within =
    let whole : end - start ≡ count + (end - (start + count)) = omega arith in
    sym
    (ap (λ n. drop count (take n (drop start xs))) whole
    ∙ drop-take count (end - (start + count)) (drop start xs)
    ∙ ap (take (end - (start + count))) (drop-drop count start xs ∙ ap (λ k. drop k xs) (omega arith)))

-- a buffer was read into behind its bytes
module _ {S : Type 0} (incoming : S → Incoming) (gives : S → Read → S → Type 0) (answer : Got) (before after : S) (old : List ℕ) (start end : ℕ) (new : List ℕ) (end' may may' : ℕ)
    (reads : ReadsBehind incoming gives answer before after old end new end' may may') (place : IsInPlace old start end) where
  -- the places stay in order
  pub in_place_read : IsInPlace new start end'
  in_place_read = record {
    size = reads.size ∙ place.size;
    in_order = omega (arith, place.in_order, reads.moved);
    within = reads.within;
  }

-- what one read gave was read
pub read_once : {S : Type 0} (incoming : S → Incoming) (gives : S → Read → S → Type 0) (before after : S) (old new : List ℕ) (answer : Got) (may may' : ℕ)
    → ReadsOnce incoming gives before after old new answer may may' → HasRead (incoming before) (incoming after) old new may may'
read_once incoming gives before after old new answer may may' once = record {
  bytes = once.read.bytes;
  takes = once.takes;
  grown = once.grown;
  count = once.count;
}
