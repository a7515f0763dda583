-- When a text is one folded word, by the set of its words.
use Rattle.std.proofs.Common.{◌≡◌, ◌↔◌, ◌∙◌, ℕ, Bool, true, false, List, [], ◌∷◌, refl, sym, ap, ap₂, inl, inr}
use Rattle.std.proofs.lemmas.Bool.{true≢false, and_parts, and_from, or_left, or_right, or_cases}
use Rattle.std.proofs.lemmas.Cmp.{nat_list_cmp_total, nat_list_eq_equiv, tied_itself}
use Rattle.std.proofs.lemmas.Slice.Eq.{bytes_eq-Decides}
use Rattle.std.specs.Cmp.Lexicographic.{slice_cmp}
use Rattle.std.specs.List.{Contains, list_any, list_all}
use Rattle.std.specs.List.Sorted.{IsStrictlySortedBy}
use Rattle.std.specs.Ordering.{nat_cmp}
use Rattle.std.specs.Str.{bytes_eq}
use Rattle.std.specs.declared.cmp.Ordering.TheVariants.{Less, Equal}
use Rattle.funnel_model.specs.Words.{IsRising, has_word, words}
use Rattle.funnel_model.proofs.WordLemmas.{has-same}
use Rattle.funnel_stats.specs.Faults.{is_word}

-- two tests that hold of the same are one
one_test : (a b : Bool) → (a ≡ true → b ≡ true) → (b ≡ true → a ≡ true) → a ≡ b
one_test true true there back = refl
one_test true false there back = sym (there refl)
one_test false true there back = back refl
one_test false false there back = refl

same_bytes : (x y : List ℕ) → bytes_eq x y ≡ true → x ≡ y
same_bytes x y e = (bytes_eq-Decides x y).0 e

-- words of which each is the text
each-from_all : (text : List ℕ) (xs : List (List ℕ)) → list_all (bytes_eq text) xs ≡ true
    → (word : List ℕ) → list_any (bytes_eq word) xs ≡ true → word ≡ text
each-from_all text [] all word has = absurd (true≢false (sym has))
each-from_all text (x ∷ xs) all word has =
    let parts = and_parts (bytes_eq text x) (list_all (bytes_eq text) xs) all in
    elim (or_cases (bytes_eq word x) (list_any (bytes_eq word) xs) has) [
      | inl here ↦ same_bytes word x here ∙ sym (same_bytes text x parts.0)
      | inr later ↦ each-from_all text xs parts.1 word later
    ]

all-from_each : (text : List ℕ) (xs : List (List ℕ)) → ((word : List ℕ) → list_any (bytes_eq word) xs ≡ true → word ≡ text)
    → list_all (bytes_eq text) xs ≡ true
all-from_each text [] each = refl
all-from_each text (x ∷ xs) each =
    and_from (bytes_eq text x) (list_all (bytes_eq text) xs)
    (ap (λ word. bytes_eq word x) (sym (each x (or_left (bytes_eq x x) (list_any (bytes_eq x) xs) (nat_list_eq_equiv.refl x)))) ∙ nat_list_eq_equiv.refl x)
    (all-from_each text xs (λ word has. each word (or_right (bytes_eq word x) (list_any (bytes_eq word) xs) has)))

-- no text is below itself
not_below_itself : (x y text : List ℕ) → x ≡ text → y ≡ text → slice_cmp nat_cmp x y ≡ Less → ⊥
not_below_itself x y text e f below =
    let same : Less ≡ Equal = sym below ∙ ap₂ (slice_cmp nat_cmp) e f ∙ tied_itself nat_list_cmp_total text in cc

-- a set in which each word is the text has it alone
alone-from_each : (text : List ℕ) (xs : List (List ℕ)) → IsRising xs
    → ((word : List ℕ) → list_any (bytes_eq word) xs ≡ true → word ≡ text) → list_any (bytes_eq text) xs ≡ true → xs ≡ text ∷ []
unfolding IsStrictlySortedBy
alone-from_each text [] rising each has = absurd (true≢false (sym has))
alone-from_each text (x ∷ []) rising each has = ap (λ word. word ∷ []) (each x (or_left (bytes_eq x x) false (nat_list_eq_equiv.refl x)))
alone-from_each text (x ∷ y ∷ xs) rising each has =
    let first = each x (or_left (bytes_eq x x) (list_any (bytes_eq x) (y ∷ xs)) (nat_list_eq_equiv.refl x)) in
    let second = each y (or_right (bytes_eq y x) (list_any (bytes_eq y) (y ∷ xs)) (or_left (bytes_eq y y) (list_any (bytes_eq y) xs) (nat_list_eq_equiv.refl y))) in
    absurd (not_below_itself x y text first second rising.0.0)

-- a set that has the words of a text is that text alone just where the text is one word
pub is_word-by : (text : List ℕ) (found : List (List ℕ)) (alone : Bool) → IsRising found
    → ((word : List ℕ) → Contains found word ↔ Contains (words text) word)
    → ((alone ≡ true) ↔ (found ≡ text ∷ [])) → alone ≡ is_word text
unfolding is_word
is_word-by text found alone rising members told =
    let same = has-same found (words text) members in
    one_test alone (is_word text)
    (λ yes.
    let one = told.0 yes in
    let each : (word : List ℕ) → list_any (bytes_eq word) (words text) ≡ true → word ≡ text =
    λ word has. each-from_all text (text ∷ []) (and_from (bytes_eq text text) true (nat_list_eq_equiv.refl text) refl) word
    (ap (list_any (bytes_eq word)) (sym one) ∙ same word ∙ has) in
    and_from (has_word text text) (list_all (bytes_eq text) (words text))
    (sym (same text) ∙ ap (list_any (bytes_eq text)) one ∙ or_left (bytes_eq text text) false (nat_list_eq_equiv.refl text))
    (all-from_each text (words text) each))
    (λ yes.
    let parts = and_parts (has_word text text) (list_all (bytes_eq text) (words text)) yes in
    told.1 (alone-from_each text found rising
    (λ word has. each-from_all text (words text) parts.1 word (sym (same word) ∙ has))
    (same text ∙ parts.0)))
