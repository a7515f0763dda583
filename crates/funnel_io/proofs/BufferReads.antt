-- What a buffer holds after a read behind its bytes.
use Rattle.std.proofs.Common.{◌≡◌, ℕ, ◌+◌, ◌-◌, ◌≤◌, min, List, [], ◌++◌, length, take, drop, refl, sym, ap, ◌∙◌, subst, arith, length-take}
use Rattle.std.specs.Prelude.{slice_range}
use Rattle.std.proofs.lemmas.List.{drop-append-le, take_at, take_min, take-take}
use Rattle.std.proofs.lemmas.Slice.{between_is}
use Rattle.std.proofs.Math.Seq.{take-add}
use Rattle.funnel_io.specs.Answers.{MatchGot, bytes_got}
use Rattle.funnel_io.specs.Calls.{Read}
use Rattle.funnel_io.specs.BufferReads.{ReadsBehind}
use Rattle.funnel_io.specs.Streams.{Incoming, Takes}
use Rattle.funnel_io.specs.declared.source.Got.{Got}
use Rattle.funnel_io.specs.declared.source.Got.TheVariants as got
use Rattle.funnel_io.proofs.Ranges.{range_front}

-- a buffer was lent as a slice, in which no byte before the end was changed
pub record IsLent (len : ℕ) (old lent new : List ℕ) (end : ℕ) : Type 0 where
  pub whole : lent ≡ old
  pub size : length lent ≡ len
  pub same_size : length new ≡ length lent
  pub kept : take end new ≡ take end lent

-- the buffer afterwards is what the slice was then
pub after_loan : (len : ℕ) (old lent new : List ℕ) (end : ℕ) → IsLent len old lent new end
    → take len (new ++ drop (length new) old) ≡ new
after_loan len old lent new end loan = take_at new (drop (length new) old) len (loan.same_size ∙ loan.size)

-- the bytes that a read gave are the first of those in its room
front_got : (answer : Got) (room : List ℕ) → take (length (bytes_got answer room)) room ≡ bytes_got answer room
front_got (got.Bytes n) room = ap (λ k. take k room) (length-take n room) ∙ take_min n room
front_got got.End room = refl
front_got got.Failed room = refl

-- one read was made into the buffer from its end on
pub reads_behind : {S : Type 0} (incoming : S → Incoming) (gives : S → Read → S → Type 0) (answer : Got) (before after : S)
    (len : ℕ) (old lent new : List ℕ) (end n end' may may' : ℕ)
    → IsLent len old lent new end → end' ≡ end + n → n ≡ length (bytes_got answer (drop end new)) → end + n ≤ length new → may' + n ≡ may
    → MatchGot answer (λ k. k ≡ length (bytes_got answer (drop end new))) (bytes_got answer (drop end new) ≡ []) (bytes_got answer (drop end new) ≡ [])
    → gives before (record { room = min may (length lent - end); answer = answer; bytes = bytes_got answer (drop end new) }) after
    → Takes (bytes_got answer (drop end new)) (incoming before) (incoming after)
    → ReadsBehind incoming gives answer before after old end (take len (new ++ drop (length new) old)) end' may may'
reads_behind incoming gives answer before after len old lent new end n end' may may' loan end_is n_is within count told step takes =
    let bytes : List ℕ = bytes_got answer (drop end new) in
    subst (λ (b : List ℕ). ReadsBehind incoming gives answer before after old end b end' may may') (sym (after_loan len old lent new end loan))
    (record {
      read = record { room = min may (length lent - end); answer = answer; bytes = bytes };
      answered = refl;
      told = told;
      step = step;
      room = ap (λ (xs : List ℕ). min may (length xs - end)) loan.whole;
      takes = takes;
      size = loan.same_size ∙ ap length loan.whole;
      within = omega (arith, end_is, within);
      moved = end_is ∙ ap (λ k. end + k) n_is;
      behind = ap (λ k. take k new) end_is ∙ (take-add end n new
          ∙ (ap (λ k. take end new ++ take k (drop end new)) n_is
          ∙ (ap (λ xs. take end new ++ xs) (front_got answer (drop end new))
          ∙ ap (λ xs. xs ++ bytes) (loan.kept ∙ ap (take end) loan.whole))));
      count = ap (λ k. may' + k) (sym n_is) ∙ count;
    })

-- ranges before the end stay
pub range_kept : (old new bytes : List ℕ) (start to end end' : ℕ) → take end' new ≡ take end old ++ bytes → end ≤ end' → end ≤ length old → to ≤ end
    → slice_range new start to ≡ slice_range old start to
range_kept old new bytes start to end end' behind further within before =
    let whole : length (take end old) ≡ end = omega (arith, length-take end old) in
    range_front new old start to end before (sym (take-take end end' new further) ∙ (ap (take end) behind ∙ take_at (take end old) bytes end whole))

-- and what was read stands behind what was there
pub range_grown : (old new bytes : List ℕ) (start end end' : ℕ) → take end' new ≡ take end old ++ bytes → start ≤ end → end ≤ length old
    → slice_range new start end' ≡ slice_range old start end ++ bytes
range_grown old new bytes start end end' behind in_order within =
    between_is new start end'
    ∙ (ap (drop start) behind
    ∙ (drop-append-le start (take end old) bytes (omega (arith, length-take end old))
    ∙ ap (λ xs. xs ++ bytes) (sym (between_is old start end))))
