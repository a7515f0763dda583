-- The words of a set in its buffer: how many there are, where each lies, and one more.
use Rattle.std.proofs.Common.{◌≡◌, ℕ, zero, suc, ◌+◌, ◌<◌, ◌≤◌, List, [], ◌∷◌, ◌++◌, length, get_or, drop, true, false, inl, inr, refl, sym, ap, ap₂, ◌∙◌, subst, arith}
use Rattle.std.proofs.lemmas.Bool.{both_ways, cases_lt, false_from_ne_true}
use Rattle.std.proofs.lemmas.Cmp.{nat_list_cmp_total, tied_itself}
use Rattle.std.proofs.lemmas.List.{get_or_default, length-append, take-append-le}
use Rattle.std.proofs.lemmas.Map.Keys.{Less-from_sorted}
use Rattle.std.proofs.lemmas.Map.Text.{is_eq-slice_cmp}
use Rattle.std.proofs.lemmas.Slice.{between_is, between_to_end}
use Rattle.std.proofs.Math.Seq.{drop-append_seam}
use Rattle.std.specs.Cmp.Lexicographic.{bytes_decides, slice_cmp}
use Rattle.std.specs.List.{list_any, slice_range}
use Rattle.std.specs.Ordering.{is_eq, nat_cmp, ordering_reverse}
use Rattle.std.specs.Str.{bytes_eq}
use Rattle.std.specs.declared.cmp.Ordering.TheVariants.{Less, Equal, Greater}
use Rattle.funnel_model.specs.Words.{IsRising}
use Rattle.funnel_model.specs.WordSets.{pieces, EndAt}
use Rattle.funnel_model.proofs.WordLemmas.{Contains-has}

-- there is a word for each end
pub length-pieces : (start : ℕ) (ends buffer : List ℕ) → length (pieces start ends buffer) ≡ length ends
length-pieces start [] buffer = refl
length-pieces start (end ∷ ends) buffer = ap suc (length-pieces end ends buffer)

-- the start is not behind the last end
pub start_within : (start : ℕ) (ends : List ℕ) (last : ℕ) → EndAt start ends last → start ≤ last
start_within start [] last is = omega arith
start_within start (end ∷ ends) last is = let later = start_within end ends last is.1 in omega (arith, later, is.0)

-- no end is behind the last one
pub end_within : (start : ℕ) (ends : List ℕ) (last k : ℕ) → EndAt start ends last → k < length ends → get_or ends k 0 ≤ last
end_within start [] last k is less = absurd (omega arith)
end_within start (end ∷ ends) last zero is less = start_within end ends last is.1
end_within start (end ∷ ends) last (suc k) is less = end_within end ends last k is.1 (omega arith)

-- the first end is not before the start
pub first_from : (start : ℕ) (ends : List ℕ) (last : ℕ) → EndAt start ends last → 0 < length ends → start ≤ get_or ends 0 0
first_from start [] last is less = absurd (omega arith)
first_from start (end ∷ ends) last is less = is.0

-- no end is before the one in front of it
pub next_from : (start : ℕ) (ends : List ℕ) (last k : ℕ) → EndAt start ends last → suc k < length ends → get_or ends k 0 ≤ get_or ends (suc k) 0
next_from start [] last k is less = absurd (omega arith)
next_from start (end ∷ ends) last zero is less = first_from end ends last is.1 (omega arith)
next_from start (end ∷ ends) last (suc k) is less = next_from end ends last k is.1 (omega arith)

-- the first word lies between the start and the first end
pub first_piece : (start : ℕ) (ends buffer d : List ℕ) → 0 < length ends → get_or (pieces start ends buffer) 0 d ≡ slice_range buffer start (get_or ends 0 0)
first_piece start [] buffer d less = absurd (omega arith)
first_piece start (end ∷ ends) buffer d less = refl

-- each later word lies between the end before and its own
pub next_piece : (start : ℕ) (ends buffer d : List ℕ) (k : ℕ) → suc k < length ends →
    get_or (pieces start ends buffer) (suc k) d ≡ slice_range buffer (get_or ends k 0) (get_or ends (suc k) 0)
next_piece start [] buffer d k less = absurd (omega arith)
next_piece start (end ∷ ends) buffer d zero less = first_piece end ends buffer d (omega arith)
next_piece start (end ∷ ends) buffer d (suc k) less = next_piece end ends buffer d k (omega arith)

-- what lies between two places stays where the buffer grows behind them
range_grows : (buffer more : List ℕ) (start end : ℕ) → end ≤ length buffer → slice_range (buffer ++ more) start end ≡ slice_range buffer start end
range_grows buffer more start end within =
    between_is (buffer ++ more) start end ∙ ap (drop start) (take-append-le end buffer more within) ∙ sym (between_is buffer start end)

-- the new word lies behind the buffer
range_new : (buffer more : List ℕ) → slice_range (buffer ++ more) (length buffer) (length (buffer ++ more)) ≡ more
range_new buffer more =
    between_to_end (buffer ++ more) (length buffer) (length (buffer ++ more)) (omega arith) ∙ drop-append_seam buffer more

-- one more word
pub pieces-push : (start : ℕ) (ends buffer word : List ℕ) → EndAt start ends (length buffer) →
    pieces start (ends ++ length (buffer ++ word) ∷ []) (buffer ++ word) ≡ pieces start ends buffer ++ word ∷ []
pieces-push start [] buffer word is = subst (λ (s : ℕ). slice_range (buffer ++ word) s (length (buffer ++ word)) ∷ [] ≡ word ∷ []) (sym is) (ap (λ (w : List ℕ). w ∷ []) (range_new buffer word))
pieces-push start (end ∷ ends) buffer word is =
    ap₂ (λ (w : List ℕ) (ws : List (List ℕ)). w ∷ ws) (range_grows buffer word start end (start_within end ends (length buffer) is.1)) (pieces-push end ends buffer word is.1)

-- its end is the last one
pub EndAt-push : (start : ℕ) (ends : List ℕ) (last more : ℕ) → EndAt start ends last → last ≤ more → EndAt start (ends ++ more ∷ []) more
EndAt-push start [] last more is order = (omega (arith, is), refl)
EndAt-push start (end ∷ ends) last more is order = (is.0, EndAt-push end ends last more is.1 order)

-- in rising words those up to one that is less than a word are less
pub less_up_to : (words : List (List ℕ)) (word d : List ℕ) (middle k : ℕ) → IsRising words → middle < length words →
    slice_cmp nat_cmp (get_or words middle d) word ≡ Less → k < middle + 1 → slice_cmp nat_cmp (get_or words k word) word ≡ Less
less_up_to words word d middle k rising inside less up =
    let at : slice_cmp nat_cmp (get_or words middle word) word ≡ Less = ap (λ (w : List ℕ). slice_cmp nat_cmp w word) (get_or_default words middle word d inside) ∙ less in
    elim (cases_lt k middle) [
      | inl before ↦ nat_list_cmp_total.trans (get_or words k word) (get_or words middle word) word (Less-from_sorted (slice_cmp nat_cmp) words k middle word rising before inside) at
      | inr not_before ↦ let same : k ≡ middle = omega arith in subst (λ (i : ℕ). slice_cmp nat_cmp (get_or words i word) word ≡ Less) (sym same) at
    ]

-- and those from one on that is greater are greater
pub greater_from : (words : List (List ℕ)) (word d : List ℕ) (middle k : ℕ) → IsRising words → middle < length words → k < length words →
    slice_cmp nat_cmp (get_or words middle d) word ≡ Greater → middle ≤ k → slice_cmp nat_cmp (get_or words k word) word ≡ Greater
greater_from words word d middle k rising inside within greater from =
    let at : slice_cmp nat_cmp (get_or words middle word) word ≡ Greater = ap (λ (w : List ℕ). slice_cmp nat_cmp w word) (get_or_default words middle word d inside) ∙ greater in
    elim (cases_lt middle k) [
      | inl behind ↦
          let above : slice_cmp nat_cmp word (get_or words k word) ≡ Less =
          nat_list_cmp_total.trans word (get_or words middle word) (get_or words k word) (nat_list_cmp_total.antisymm word (get_or words middle word) ∙ ap ordering_reverse at)
          (Less-from_sorted (slice_cmp nat_cmp) words middle k word rising behind within) in
          nat_list_cmp_total.antisymm (get_or words k word) word ∙ ap ordering_reverse above
      | inr not_behind ↦ let same : k ≡ middle = omega arith in subst (λ (i : ℕ). slice_cmp nat_cmp (get_or words i word) word ≡ Greater) (sym same) at
    ]

-- a word that compares as equal is one of the words
pub word_found : (words : List (List ℕ)) (word d : List ℕ) (k : ℕ) → k < length words → slice_cmp nat_cmp (get_or words k d) word ≡ Equal → list_any (bytes_eq word) words ≡ true
word_found words word d k inside equal =
    let is : get_or words k d ≡ word = (bytes_decides (get_or words k d) word).0 (sym (is_eq-slice_cmp (get_or words k d) word) ∙ ap is_eq equal) in
    (Contains-has word words).0 (k, inside, get_or_default words k word d inside ∙ is)

-- where each word is less or greater, none is this one
pub word_not_found : (words : List (List ℕ)) (word : List ℕ) → ((k : ℕ) → k < length words → is_eq (slice_cmp nat_cmp (get_or words k word) word) ≡ false) →
    list_any (bytes_eq word) words ≡ false
word_not_found words word differ =
    false_from_ne_true (list_any (bytes_eq word) words) (λ has.
    let (k, inside, is) = (Contains-has word words).1 has in
    both_ways (is_eq (slice_cmp nat_cmp (get_or words k word) word)) (differ k inside)
    (ap (λ (w : List ℕ). is_eq (slice_cmp nat_cmp w word)) is ∙ ap is_eq (tied_itself nat_list_cmp_total word)))

-- what one more word makes of the ends and of the words
pub ends_with : (ends buffer word : List ℕ) (new_ends new_buffer : List ℕ) (end : ℕ) → EndAt 0 ends (length buffer) →
    new_buffer ≡ buffer ++ word → end ≡ length new_buffer → new_ends ≡ ends ++ end ∷ [] → EndAt 0 new_ends (length new_buffer)
ends_with ends buffer word new_ends new_buffer end is grown at pushed =
    let longer : length new_buffer ≡ length buffer + length word = ap (λ (bs : List ℕ). length bs) grown ∙ length-append buffer word in
    subst (λ (es : List ℕ). EndAt 0 es (length new_buffer)) (sym (pushed ∙ ap (λ (n : ℕ). ends ++ n ∷ []) at))
    (EndAt-push 0 ends (length buffer) (length new_buffer) is (omega (arith, longer)))

pub words_with : (ends buffer word : List ℕ) (words : List (List ℕ)) (new_ends new_buffer : List ℕ) (end : ℕ) → EndAt 0 ends (length buffer) →
    pieces 0 ends buffer ≡ words → new_buffer ≡ buffer ++ word → end ≡ length new_buffer → new_ends ≡ ends ++ end ∷ [] →
    pieces 0 new_ends new_buffer ≡ words ++ word ∷ []
words_with ends buffer word words new_ends new_buffer end is are grown at pushed =
    ap₂ (pieces 0) (pushed ∙ ap (λ (n : ℕ). ends ++ n ∷ []) (at ∙ ap (λ (bs : List ℕ). length bs) grown)) grown
    ∙ pieces-push 0 ends buffer word is
    ∙ ap (λ (ws : List (List ℕ)). ws ++ word ∷ []) are
