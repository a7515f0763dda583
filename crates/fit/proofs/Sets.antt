-- The set of a text's words, beside the words as they come in the text.
use Rattle.std.proofs.Common.{◌≡◌, ◌↔◌, ◌∙◌, ◌+◌, ◌≤◌, ℕ, Bool, true, false, cond, ◌||◌, List, [], ◌∷◌, ◌++◌, length, count_by, refl, sym, ap, arith}
use Rattle.std.proofs.lemmas.Cmp.{nat_list_eq_equiv}
use Rattle.std.proofs.lemmas.List.{length-map}
use Rattle.std.proofs.lemmas.List.Sums.{sum_by-cons, sum_by_push}
use Rattle.std.proofs.lemmas.Map.Keys.{IsDistinct-from_sorted}
use Rattle.std.proofs.lemmas.Map.Made.{length-le_from_is_member}
use Rattle.std.proofs.lemmas.Map.Text.{is_eq-slice_cmp}
use Rattle.std.specs.Cmp.Lexicographic.{slice_cmp}
use Rattle.std.specs.List.{AllByRecursion, Contains, IsDistinct, list_any}
use Rattle.std.specs.Ordering.{nat_cmp, eq_by_cmp}
use Rattle.std.specs.Str.{IsUtf8, bytes_eq}
use Rattle.unicode_segmentation.specs.Segments.{has_alphanumeric}
use Rattle.unicode_segmentation.specs.Word.{is_word_break, word_bounds, words as unicode_words}
use Rattle.unicode_segmentation.proofs.SegmentsLemmas.{length-segments, length-filter-le}
use Rattle.funnel_model.proofs.WordLemmas.{has-same}
use Rattle.funnel_model.specs.Words.{IsRising, folded, has_word, words}
use Rattle.fit.specs.Tallies.{count_of}

-- a test that answers the same tells the same keys apart
apart_too : {K : Type 0} (e f : K → K → Bool) → ((x y : K) → e x y ≡ f x y) → (x : K) (ys : List K) → AllByRecursion (λ y. e x y ≡ false) ys → AllByRecursion (λ y. f x y ≡ false) ys
apart_too e f same x [] apart = tt
apart_too e f same x (y ∷ ys) apart = (sym (same x y) ∙ apart.0, apart_too e f same x ys apart.1)

pub distinct_too : {K : Type 0} (e f : K → K → Bool) → ((x y : K) → e x y ≡ f x y) → (xs : List K) → IsDistinct e xs → IsDistinct f xs
unfolding IsDistinct
distinct_too e f same [] distinct = tt
distinct_too e f same (x ∷ xs) distinct = (apart_too e f same x xs distinct.0, distinct_too e f same xs distinct.1)

-- words that rise differ
pub distinct_from_rising : (set : List (List ℕ)) → IsRising set → IsDistinct bytes_eq set
distinct_from_rising set rising =
    distinct_too (eq_by_cmp (slice_cmp nat_cmp)) bytes_eq is_eq-slice_cmp set (IsDistinct-from_sorted (slice_cmp nat_cmp) set rising)

-- a word stands once in a list of words that differ, if it does
none_left : (word x : List ℕ) (xs : List (List ℕ)) → bytes_eq word x ≡ true → AllByRecursion (λ y. bytes_eq x y ≡ false) xs → count_by (bytes_eq word) xs ≡ 0
none_left word x [] is apart = refl
none_left word x (y ∷ ys) is apart =
    let other : bytes_eq word y ≡ false = nat_list_eq_equiv.congr word x y is ∙ apart.0 in
    omega (arith, sum_by-cons (λ (w : List ℕ). cond (bytes_eq word w) 1 0) y ys, ap (λ b. cond {A = ℕ} b 1 0) other, none_left word x ys is apart.1)

once-first : (word x : List ℕ) (xs : List (List ℕ)) (b : Bool) → bytes_eq word x ≡ b → AllByRecursion (λ y. bytes_eq x y ≡ false) xs
    → count_by (bytes_eq word) xs ≡ cond (list_any (bytes_eq word) xs) 1 0 → cond b 1 0 + count_by (bytes_eq word) xs ≡ cond (b || list_any (bytes_eq word) xs) 1 0
once-first word x xs true is apart later = omega (arith, none_left word x xs is apart)
once-first word x xs false is apart later = omega (arith, later)

pub counted_once : (word : List ℕ) (set : List (List ℕ)) → IsDistinct bytes_eq set → count_by (bytes_eq word) set ≡ cond (list_any (bytes_eq word) set) 1 0
unfolding IsDistinct
counted_once word [] distinct = refl
counted_once word (x ∷ xs) distinct =
    sum_by-cons (λ (w : List ℕ). cond (bytes_eq word w) 1 0) x xs ∙ once-first word x xs (bytes_eq word x) refl distinct.0 (counted_once word xs distinct.1)

-- a text has at most as many words as bytes
length-words : (text : List ℕ) → IsUtf8 text → length (words text) ≤ length text
length-words text utf8 =
    omega (arith, length-map (unicode_words text) folded, length-filter-le has_alphanumeric (word_bounds text), length-segments is_word_break text utf8)

module _ (text : List ℕ) (set : List (List ℕ)) (rising : IsRising set) (same : (word : List ℕ) → Contains set word ↔ Contains (words text) word) where
  pub length-set : IsUtf8 text → length set ≤ length text
  length-set utf8 =
      let few : length set ≤ length (words text) = length-le_from_is_member nat_list_eq_equiv set (words text) (distinct_from_rising set rising)
      (λ word has. sym (has-same set (words text) same word) ∙ has) in
      omega (arith, length-words text utf8)

  -- a word is counted where the text has it
  pub counted_of_text : (word : List ℕ) → count_by (bytes_eq word) set ≡ cond (has_word text word) 1 0
  counted_of_text word = counted_once word set (distinct_from_rising set rising) ∙ ap (λ b. cond b 1 0) (has-same set (words text) same word)

-- one more text
pub count_of-push : (texts : List (List ℕ)) (text word : List ℕ) → count_of (texts ++ text ∷ []) word ≡ count_of texts word + cond (has_word text word) 1 0
unfolding count_of
count_of-push texts text word = sum_by_push _ texts text
