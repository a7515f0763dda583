-- Ranges of a buffer, and the newlines in them.
use Rattle.std.proofs.Common.{◌≡◌, ◌≢◌, ℕ, suc, ◌+◌, ◌-◌, ◌<◌, ◌≤◌, Some, None, List, ◌∷◌, ◌++◌, length, get_or, take, drop, sym, ap, ◌∙◌, arith, length-take, length-drop, eq-eqb}
use Rattle.std.proofs.lemmas.Bool.{eqb-true}
use Rattle.std.specs.Prelude.{slice_range}
use Rattle.std.proofs.lemmas.List.{drop-drop, take-take, drop_more, get_or-take, get_or-drop}
use Rattle.std.proofs.lemmas.List.Elements.{All-from_get_or}
use Rattle.std.proofs.lemmas.Slice.{between_is}
use Rattle.std.proofs.Math.Seq.{take-add}
use Rattle.memchr.specs.Find.{IsFirstByte, is_byte}
use Rattle.funnel_io.specs.Lines.{HasNoNewline}

-- a range before a place reads only what is before it
pub range_front : (xs ys : List ℕ) (start to place : ℕ) → to ≤ place → take place xs ≡ take place ys
    → slice_range xs start to ≡ slice_range ys start to
range_front xs ys start to place before same =
    between_is xs start to
    ∙ (ap (drop start) (sym (take-take to place xs before) ∙ (ap (take to) same ∙ take-take to place ys before))
    ∙ sym (between_is ys start to))

-- a range, and then the bytes behind it
pub range_join : (xs : List ℕ) (start between n : ℕ) → start ≤ between
    → slice_range xs start (between + n) ≡ slice_range xs start between ++ take n (drop between xs)
range_join xs start between n in_order =
    let longer : (between + n) - start ≡ (between - start) + n = omega arith in
    let place : start + (between - start) ≡ between = omega arith in
    ap (λ k. take k (drop start xs)) longer
    ∙ (take-add (between - start) n (drop start xs)
    ∙ ap (λ rest. slice_range xs start between ++ take n rest)
    (drop-drop (between - start) start xs ∙ ap (λ k. drop k xs) place))

-- a range is cut at any place in it
pub range_cut : (xs : List ℕ) (start between to : ℕ) → start ≤ between → between ≤ to
    → slice_range xs start to ≡ slice_range xs start between ++ slice_range xs between to
range_cut xs start between to in_order within =
    let all : between + (to - between) ≡ to = omega arith in
    ap (slice_range xs start) (sym all) ∙ range_join xs start between (to - between) in_order

-- a range that is not empty begins with its first byte
pub range_first : (xs : List ℕ) (start to : ℕ) → start < to → to ≤ length xs
    → slice_range xs start to ≡ get_or xs start 0 ∷ slice_range xs (start + 1) to
range_first xs start to some within =
    let start_within : start < length xs = omega arith in
    let one_more : to - start ≡ suc (to - (start + 1)) = omega arith in
    ap (take (to - start)) (drop_more xs start 0 start_within)
    ∙ ap (λ k. take k (get_or xs start 0 ∷ drop (start + 1) xs)) one_more

-- the byte at a place of a range
pub get_or-range : (xs : List ℕ) (start to k : ℕ) → start + k < to
    → get_or (slice_range xs start to) k 0 ≡ get_or xs (start + k) 0
get_or-range xs start to k within =
    let below : k < to - start = omega arith in
    get_or-take (to - start) (drop start xs) k 0 below ∙ get_or-drop start xs k 0

-- the length of a range in the list
pub length-range : (xs : List ℕ) (start to : ℕ) → to ≤ length xs → length (slice_range xs start to) ≡ to - start
length-range xs start to within = omega (arith, length-take {A = ℕ}, length-drop {A = ℕ})

-- no newline is in what was searched in vain
pub none_found : (hay : List ℕ) → IsFirstByte (is_byte 10) hay None → HasNoNewline hay
none_found hay none =
    All-from_get_or (λ byte. byte ≢ 10) hay 0 (λ k within newline. none k (omega arith) within (eq-eqb (get_or hay k 0) 10 newline))

-- no newline stands before the first one
pub none_before : (hay : List ℕ) (at : ℕ) → IsFirstByte (is_byte 10) hay (Some at) → HasNoNewline (take at hay)
none_before hay at first =
    All-from_get_or (λ byte. byte ≢ 10) (take at hay) 0
    (λ k within newline.
    let below : k < at = omega (arith, length-take at hay) in
    first.0.before k (omega arith) below (eq-eqb (get_or hay k 0) 10 (sym (get_or-take at hay k 0 below) ∙ newline)))

-- the byte that was found
pub found_byte : (hay : List ℕ) (at : ℕ) → IsFirstByte (is_byte 10) hay (Some at) → get_or hay at 0 ≡ 10
found_byte hay at first = eqb-true (get_or hay at 0) 10 first.1
