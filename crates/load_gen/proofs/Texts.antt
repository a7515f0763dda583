-- The bytes of the texts, and where each text lies.
use Rattle.std.proofs.Common.{◌≡◌, ℕ, zero, suc, ◌+◌, ◌-◌, ◌*◌, ◌/◌, ◌%◌, ◌^◌, ◌<◌, ◌≤◌, List, [], ◌∷◌, length, get_or, map, flat_map, decimal, refl, sym, ap, ◌∙◌, subst, arith, length-append}
use Rattle.std.specs.List.{range_with_len, slice_range}
use Rattle.std.specs.Str.{IsAscii, IsCharBoundary}
use Rattle.std.proofs.lemmas.Fmt.{IsAscii-decimal, length-decimal-le}
use Rattle.std.proofs.Math.Nat.{div-le_self, mul-le-mul_right}
use Rattle.std.proofs.lemmas.List.FromFn.{length-range_with_len}
use Rattle.std.proofs.lemmas.Nat.{mod_below}
use Rattle.std.proofs.lemmas.Str.{IsAscii-append}
use Rattle.std.proofs.lemmas.Str.Ascii.{IsAscii-cons, IsAscii-nil}
use Rattle.funnel_model.specs.WordSets.{pieces, EndAt}
use Rattle.funnel_model.proofs.WordSetLemmas.{next_from, next_piece}
use Rattle.load_gen.specs.Documents.{document, longest_text, name_of_document}
use Rattle.load_gen.specs.Generator.{next_words, number_in, state_after, word_at}

-- in a text of characters of one byte a character begins everywhere
pub boundary : (text : List ℕ) (i : ℕ) → IsAscii text → i ≤ length text → IsCharBoundary text i
boundary text i ascii inside = (inside, λ _ high. let low = ascii i in absurd (omega (arith, low, high)))

-- the end before an index that isn't 0 is not behind the end there
pub ordered : (ends : List ℕ) (last index : ℕ) → EndAt 0 ends last → 0 < index → index < length ends → get_or ends (index - 1) 0 ≤ get_or ends index 0
ordered ends last zero is some less = absurd (omega arith)
ordered ends last (suc k) is some less =
    let before : k ≡ suc k - 1 = omega arith in
    subst (λ (i : ℕ). get_or ends i 0 ≤ get_or ends (suc k) 0) before (next_from 0 ends last k is less)

-- the text at an index that isn't 0 lies between the two
pub later : (ends text d : List ℕ) (index : ℕ) → 0 < index → index < length ends →
    slice_range text (get_or ends (index - 1) 0) (get_or ends index 0) ≡ get_or (pieces 0 ends text) index d
later ends text d zero some less = absurd (omega arith)
later ends text d (suc k) some less =
    let before : suc k - 1 ≡ k = omega arith in
    ap (λ (i : ℕ). slice_range text (get_or ends i 0) (get_or ends (suc k) 0)) before ∙ sym (next_piece 0 ends text d k less)

-- a number of a word has at most 12 bits
number_in-below : (value : ℕ) → number_in value < 4096
number_in-below value =
    let part = mod_below value 4096 (omega arith) in
    let shifted = div-le_self (value % 4096) (2 ^ ((value / 4096) % 12)) in
    omega (arith, part, shifted)

-- and so at most 4 digits
pub drawn_short : (value : ℕ) → length (decimal (number_in value)) ≤ 4
drawn_short value = let few = number_in-below value in length-decimal-le 4 (number_in value) (omega arith) (omega (arith, few)) (omega (arith, few))

-- the words are ASCII
word_ascii : (state : ℕ) → IsAscii (32 ∷ word_at state)
word_ascii state =
    let few = number_in-below (state / 2 ^ 33) in
    IsAscii-cons 32 (word_at state) (omega arith)
    (IsAscii-cons 119 (decimal (number_in (state / 2 ^ 33))) (omega arith) (IsAscii-decimal (number_in (state / 2 ^ 33)) (omega (arith, few))))

words_ascii : (state : ℕ) (draws : List ℕ) → IsAscii (flat_map (λ word. 32 ∷ word) (map (λ draw. word_at (state_after state draw)) draws))
words_ascii state [] = IsAscii-nil
words_ascii state (draw ∷ draws) =
    IsAscii-append (32 ∷ word_at (state_after state draw)) (flat_map (λ word. 32 ∷ word) (map (λ draw. word_at (state_after state draw)) draws))
    (word_ascii (state_after state draw)) (words_ascii state draws)

-- each text is ASCII
pub document_ascii : (words seed i : ℕ) → i < 2 ^ 32 → IsAscii (document words seed i)
document_ascii words seed i few =
    IsAscii-append (name_of_document (i + 1)) (flat_map (λ word. 32 ∷ word) (next_words (state_after seed (i * words)) words))
    (IsAscii-cons 117 (decimal (i + 1)) (omega arith) (IsAscii-decimal (i + 1) (omega arith)))
    (words_ascii (state_after seed (i * words)) (range_with_len 1 words))

words_short : (state : ℕ) (draws : List ℕ) → length (flat_map (λ word. 32 ∷ word) (map (λ draw. word_at (state_after state draw)) draws)) ≤ 6 * length draws
words_short state [] = omega arith
words_short state (draw ∷ draws) =
    let others = words_short state draws in
    let digits = drawn_short (state_after state draw / 2 ^ 33) in
    let one : length (32 ∷ word_at (state_after state draw)) ≡ suc (suc (length (decimal (number_in (state_after state draw / 2 ^ 33))))) = refl in
    omega (
      arith,
      length-append (32 ∷ word_at (state_after state draw)) (flat_map (λ word. 32 ∷ word) (map (λ draw. word_at (state_after state draw)) draws)),
      one,
      digits,
      others,
    )

-- and has room
pub document_short : (words seed i : ℕ) → i < 4194304 → length (document words seed i) ≤ longest_text words
document_short words seed i few =
    let digits = length-decimal-le 7 (i + 1) (omega arith) (omega arith) (omega arith) in
    let name : length (name_of_document (i + 1)) ≡ suc (length (decimal (i + 1))) = refl in
    let drawn = words_short (state_after seed (i * words)) (range_with_len 1 words) in
    omega (
      arith,
      length-append (name_of_document (i + 1)) (flat_map (λ word. 32 ∷ word) (next_words (state_after seed (i * words)) words)),
      name,
      digits,
      drawn,
      length-range_with_len 1 words,
    )

-- the room for one text more
pub room_for_one : (i docs each : ℕ) → i < docs → i * each + each ≤ docs * each
room_for_one i docs each less =
    let more : i * each + each ≡ (i + 1) * each = omega arith in
    let most : (i + 1) * each ≤ docs * each = mul-le-mul_right each (omega (arith, less)) in
    omega (arith, more, most)
