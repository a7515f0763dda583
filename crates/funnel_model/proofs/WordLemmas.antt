-- Lists of words that have the same members: by membership, by a test, and when a text meets a query.
use Rattle.std.proofs.Common.{◌≡◌, ◌↔◌, ◌&&◌, ℕ, Bool, true, false, List, [], ◌∷◌, refl, sym, ap, ap₂, ◌∙◌, inl, inr}
use Rattle.std.proofs.lemmas.Bool.{true≢false, and_parts, and_from, or_left, or_right, or_cases}
use Rattle.std.proofs.lemmas.Cmp.{nat_list_eq_equiv}
use Rattle.std.proofs.lemmas.Map.Views.{Contains-from_any, list_any-from_Contains}
use Rattle.std.proofs.lemmas.Slice.Eq.{bytes_eq-Decides}
use Rattle.std.specs.List.{Contains, list_any, list_all}
use Rattle.std.specs.Str.{bytes_eq}
use Rattle.funnel_model.specs.Words.{has_word, meets, words}

-- two tests that hold of the same are one
pub one_test : (a b : Bool) → (a ≡ true → b ≡ true) → (b ≡ true → a ≡ true) → a ≡ b
one_test true true there back = refl
one_test true false there back = sym (there refl)
one_test false true there back = back refl
one_test false false there back = refl

-- words with the same bytes are one word
same_bytes : (x y : List ℕ) → bytes_eq x y ≡ true → x ≡ y
same_bytes x y e = (bytes_eq-Decides x y).0 e

-- a list has a word where one of its words has the bytes
pub Contains-has : (word : List ℕ) (xs : List (List ℕ)) → Contains xs word ↔ (list_any (bytes_eq word) xs ≡ true)
Contains-has word xs = (list_any-from_Contains nat_list_eq_equiv word xs, Contains-from_any same_bytes word xs)

-- lists that have the same words by the test have them by membership
pub Contains-same : (xs ys : List (List ℕ)) → ((word : List ℕ) → list_any (bytes_eq word) xs ≡ list_any (bytes_eq word) ys)
    → (word : List ℕ) → Contains xs word ↔ Contains ys word
Contains-same xs ys same word = (
  λ held. (Contains-has word ys).1 (sym (same word) ∙ (Contains-has word xs).0 held),
  λ held. (Contains-has word xs).1 (same word ∙ (Contains-has word ys).0 held),
)

-- lists that have the same words by membership have them by the test
pub has-same : (xs ys : List (List ℕ)) → ((word : List ℕ) → Contains xs word ↔ Contains ys word)
    → (word : List ℕ) → list_any (bytes_eq word) xs ≡ list_any (bytes_eq word) ys
has-same xs ys same word =
    one_test (list_any (bytes_eq word) xs) (list_any (bytes_eq word) ys)
    (λ has. (Contains-has word ys).0 ((same word).0 ((Contains-has word xs).1 has)))
    (λ has. (Contains-has word xs).0 ((same word).1 ((Contains-has word ys).1 has)))

-- a test that holds of each word of the list holds of all
pub list_all-from_each : (test : List ℕ → Bool) (xs : List (List ℕ))
    → ((word : List ℕ) → list_any (bytes_eq word) xs ≡ true → test word ≡ true) → list_all test xs ≡ true
list_all-from_each test [] each = refl
list_all-from_each test (x ∷ xs) each =
    and_from (test x) (list_all test xs)
    (each x (or_left (bytes_eq x x) (list_any (bytes_eq x) xs) (nat_list_eq_equiv.refl x)))
    (list_all-from_each test xs (λ word has. each word (or_right (bytes_eq word x) (list_any (bytes_eq word) xs) has)))

-- a test that holds of all words holds of each that the list has
pub each-from_list_all : (test : List ℕ → Bool) (xs : List (List ℕ)) → list_all test xs ≡ true
    → (word : List ℕ) → list_any (bytes_eq word) xs ≡ true → test word ≡ true
each-from_list_all test [] all word has = absurd (true≢false (sym has))
each-from_list_all test (x ∷ xs) all word has =
    let parts : (test x ≡ true) × (list_all test xs ≡ true) = and_parts (test x) (list_all test xs) all in
    elim (or_cases (bytes_eq word x) (list_any (bytes_eq word) xs) has) [
      | inl here ↦ ap test (same_bytes word x here) ∙ parts.0
      | inr later ↦ each-from_list_all test xs parts.1 word later
    ]

-- a test holds of all words of both lists or of neither, where they have the same words
pub list_all-same : (test : List ℕ → Bool) (xs ys : List (List ℕ))
    → ((word : List ℕ) → list_any (bytes_eq word) xs ≡ list_any (bytes_eq word) ys) → list_all test xs ≡ list_all test ys
list_all-same test xs ys same =
    one_test (list_all test xs) (list_all test ys)
    (λ all. list_all-from_each test ys (λ word has. each-from_list_all test xs all word (same word ∙ has)))
    (λ all. list_all-from_each test xs (λ word has. each-from_list_all test ys all word (sym (same word) ∙ has)))

-- tests that agree hold of all words together
pub list_all-agree : (p q : List ℕ → Bool) (xs : List (List ℕ)) → ((word : List ℕ) → p word ≡ q word) → list_all p xs ≡ list_all q xs
list_all-agree p q [] agree = refl
list_all-agree p q (x ∷ xs) agree = ap₂ (λ here later. here && later) (agree x) (list_all-agree p q xs agree)

-- the set of a text's words says whether the text has a word
pub has_word-set : (text : List ℕ) (set : List (List ℕ)) → ((word : List ℕ) → Contains set word ↔ Contains (words text) word)
    → (word : List ℕ) → list_any (bytes_eq word) set ≡ has_word text word
has_word-set text set same = has-same set (words text) same

-- the sets of words of a text and of a query say whether the text meets the query
pub meets-sets : (text query : List ℕ) (text_set query_set : List (List ℕ))
    → ((word : List ℕ) → Contains text_set word ↔ Contains (words text) word)
    → ((word : List ℕ) → Contains query_set word ↔ Contains (words query) word)
    → list_all (λ word. list_any (bytes_eq word) text_set) query_set ≡ meets text query
meets-sets text query text_set query_set of_text of_query =
    list_all-agree (λ word. list_any (bytes_eq word) text_set) (has_word text) query_set (has_word-set text text_set of_text)
    ∙ list_all-same (has_word text) query_set (words query) (has-same query_set (words query) of_query)
