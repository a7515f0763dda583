-- When a plain text meets a plain query, and which documents a name finds.
use Rattle.std.proofs.Common.{◌≡◌, ◌↔◌, ℕ, ◌+◌, ◌*◌, ◌/◌, ◌%◌, ◌<◌, ◌^◌, true, false, ◌||◌, ◌==◌, List, [], ◌∷◌, IsTrue, Contains, map, codes, decimal, nat_eq, refl, sym, ap, ap₂, ◌∙◌, arith, append-nil}
use Rattle.std.proofs.Math.Bool.{and-true, or-false}
use Rattle.std.proofs.Math.Nat.{div-le_self}
use Rattle.std.proofs.lemmas.Bool.{and_from, and_left, and_parts, or_from}
use Rattle.std.proofs.lemmas.Bool.Decides.{nat_tests, Decides-eqb, Decides-like, same_from_decides}
use Rattle.std.proofs.lemmas.Nat.{mod_below}
use Rattle.std.proofs.lemmas.Fmt.{decimal_injective, decimal_is_IsNumeral}
use Rattle.std.proofs.lemmas.Str.Parse.{digit_from_value}
use Rattle.std.proofs.lemmas.List.Elements.{All-cons, All-head, All-nil, All-tail}
use Rattle.std.proofs.lemmas.Slice.Eq.{bytes_eq-Decides}
use Rattle.std.specs.Int.{IsInRange}
use Rattle.std.specs.List.{list_all, list_any, range_with_len, starts_with}
use Rattle.std.specs.Str.{bytes_eq}
use Rattle.std.specs.Str.Parse.{AllDigits}
use Rattle.funnel_model.proofs.WordLemmas.{Contains-has}
use Rattle.funnel_model.specs.Words.{has_word, meets}
use Rattle.load_gen.specs.Documents.{document, name_of_document}
use Rattle.load_gen.specs.Generator.{next_words, number_in, state_after, word_at}
use Rattle.load_laws.specs.PlainTexts.{AllBeginWith, ArePieces, is_piece, is_plain, joined_by_spaces}
use Rattle.load_laws.proofs.PlainTexts.{words-spaced}

-- a plain text has a word where it is one of the pieces
pub has_word-spaced : (pieces : List (List ℕ)) (word : List ℕ) → ArePieces pieces → has_word (joined_by_spaces pieces) word ≡ list_any (bytes_eq word) pieces
has_word-spaced pieces word are = ap (list_any (bytes_eq word)) (words-spaced pieces are)

-- by membership
pub has_word-Contains : (pieces : List (List ℕ)) (word : List ℕ) → ArePieces pieces → IsTrue (has_word (joined_by_spaces pieces) word) ↔ Contains pieces word
has_word-Contains pieces word are = (
  λ has. (Contains-has word pieces).1 (sym (has_word-spaced pieces word are) ∙ has),
  λ held. has_word-spaced pieces word are ∙ (Contains-has word pieces).0 held,
)

-- a plain text meets a plain query where it has each of its pieces
pub meets-spaced : (pieces query : List (List ℕ)) → ArePieces pieces → ArePieces query
    → meets (joined_by_spaces pieces) (joined_by_spaces query) ≡ list_all (λ word. list_any (bytes_eq word) pieces) query
meets-spaced pieces query are asked =
    ap₂ (λ held wanted. list_all (λ word. list_any (bytes_eq word) held) wanted) (words-spaced pieces are) (words-spaced query asked)

-- a query of one piece
one_piece : (piece : List ℕ) → IsTrue (is_piece piece) → ArePieces (piece ∷ [])
one_piece piece is = All-cons (λ p. IsTrue (is_piece p)) piece [] is (All-nil (λ p. IsTrue (is_piece p)))

-- is met where it is one of the pieces
pub meets-piece : (pieces : List (List ℕ)) (piece : List ℕ) → ArePieces pieces → IsTrue (is_piece piece)
    → meets (joined_by_spaces pieces) piece ≡ list_any (bytes_eq piece) pieces
meets-piece pieces piece are is =
    ap (meets (joined_by_spaces pieces)) (sym (append-nil piece)) ∙ meets-spaced pieces (piece ∷ []) are (one_piece piece is) ∙ and-true (list_any (bytes_eq piece) pieces)

-- digits are plain, so a letter and a number are a piece
digits_plain : (ds : List ℕ) → AllDigits 10 ds → IsTrue (list_all is_plain ds)
digits_plain [] digits = refl
digits_plain (d ∷ ds) digits = and_from (is_plain d) (list_all is_plain ds) (plain_digit d (digit_from_value d digits.0)) (digits_plain ds digits.1)
  where
    plain_digit : (c : ℕ) → IsInRange 48 57 c → is_plain c ≡ true
    plain_digit c within = grind (arith, nat_tests)

letter_and_number : (number : ℕ) → number < 2 ^ 64 → IsTrue (list_all is_plain (decimal number))
letter_and_number number small = digits_plain (decimal number) (decimal_is_IsNumeral number small).0.1

-- so is a name
name_is_piece : (id : ℕ) → id < 2 ^ 64 → IsTrue (is_piece (name_of_document id))
name_is_piece id small = letter_and_number id small

-- names are one where the numbers are one
same_name : (a b : ℕ) → a < 2 ^ 64 → b < 2 ^ 64 → bytes_eq (name_of_document a) (name_of_document b) ≡ (a == b)
same_name a b small_a small_b =
    let texts = bytes_eq-Decides (decimal a) (decimal b) in
    same_from_decides (bytes_eq (decimal a) (decimal b)) (a == b)
    (Decides-like (bytes_eq (decimal a) (decimal b)) (decimal_injective a b small_a small_b) (ap decimal) texts) (Decides-eqb a b)

-- no name begins with w
name_is_no_word : (a : ℕ) (pieces : List (List ℕ)) → AllBeginWith (codes "w") pieces → list_any (bytes_eq (name_of_document a)) pieces ≡ false
name_is_no_word a [] begin = refl
name_is_no_word a (piece ∷ pieces) begin =
    or_from (bytes_eq (name_of_document a) piece) (list_any (bytes_eq (name_of_document a)) pieces)
    (differs piece (All-head (λ p. IsTrue (starts_with nat_eq p (codes "w"))) piece pieces begin))
    (name_is_no_word a pieces (All-tail (λ p. IsTrue (starts_with nat_eq p (codes "w"))) piece pieces begin))
  where
    not_u : (c : ℕ) → nat_eq 119 c ≡ true → nat_eq 117 c ≡ false
    not_u c is_w = grind (arith, nat_tests)

    differs : (p : List ℕ) → IsTrue (starts_with nat_eq p (codes "w")) → bytes_eq (name_of_document a) p ≡ false
    differs [] starts = refl
    differs (c ∷ cs) starts = and_left (nat_eq 117 c) (bytes_eq (decimal a) cs) (not_u c (and_parts (nat_eq 119 c) true starts).0)

-- the query of a name is met by the text with that name, and by no text with another
pub meets-name : (a b : ℕ) (others : List (List ℕ)) → a < 2 ^ 64 → b < 2 ^ 64 → ArePieces others → AllBeginWith (codes "w") others
    → meets (joined_by_spaces (name_of_document b ∷ others)) (name_of_document a) ≡ (a == b)
meets-name a b others small_a small_b are begin =
    meets-piece (name_of_document b ∷ others) (name_of_document a) (All-cons (λ p. IsTrue (is_piece p)) (name_of_document b) others (name_is_piece b small_b) are) (name_is_piece a small_a)
    ∙ ap₂ (λ here later. here || later) (same_name a b small_a small_b) (name_is_no_word a others begin)
    ∙ or-false (a == b)

-- a drawn word has a small number
number_in-small : (value : ℕ) → number_in value < 2 ^ 64
number_in-small value =
    let part = mod_below value 4096 (omega arith) in
    let shifted = div-le_self (value % 4096) (2 ^ ((value / 4096) % 12)) in
    omega (arith, part, shifted)

-- drawn words are pieces, and begin with w
words_are_pieces : (state : ℕ) (draws : List ℕ) → ArePieces (map (λ draw. word_at (state_after state draw)) draws)
words_are_pieces state [] = All-nil (λ p. IsTrue (is_piece p))
words_are_pieces state (draw ∷ draws) =
    All-cons (λ p. IsTrue (is_piece p)) (word_at (state_after state draw)) (map (λ d. word_at (state_after state d)) draws)
    (letter_and_number (number_in (state_after state draw / 2 ^ 33)) (number_in-small (state_after state draw / 2 ^ 33))) (words_are_pieces state draws)

words_begin_with_w : (state : ℕ) (draws : List ℕ) → AllBeginWith (codes "w") (map (λ draw. word_at (state_after state draw)) draws)
words_begin_with_w state [] = All-nil (λ p. IsTrue (starts_with nat_eq p (codes "w")))
words_begin_with_w state (draw ∷ draws) =
    All-cons (λ p. IsTrue (starts_with nat_eq p (codes "w"))) (word_at (state_after state draw)) (map (λ d. word_at (state_after state d)) draws) refl
    (words_begin_with_w state draws)

-- so a generated text is found by the name of its own document alone
pub meets-document : (words seed i asked : ℕ) → i + 1 < 2 ^ 64 → asked < 2 ^ 64 → meets (document words seed i) (name_of_document asked) ≡ (asked == i + 1)
meets-document words seed i asked small small_asked =
    let start = state_after seed (i * words) in
    meets-name asked (i + 1) (next_words start words) small_asked small (words_are_pieces start (range_with_len 1 words))
    (words_begin_with_w start (range_with_len 1 words))
