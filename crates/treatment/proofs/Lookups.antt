-- What a binary search over the listed words, as they are stored, says of their list.
use Rattle.std.proofs.Common.{◌≡◌, ℕ, ◌+◌, ◌<◌, ◌≤◌, false, List, [], ◌∷◌, map, length, get_or, Some, None, ap, sym, subst, ◌∙◌, ⊎_elim, arith}
use Rattle.std.specs.Prelude.{All}
use Rattle.std.specs.List.{AllByRecursion}
use Rattle.std.specs.List.Sorted.{IsNonDecreasingBy, IsPartitionPoint, IsSortedBy}
use Rattle.std.specs.Ordering.{nat_cmp, is_eq, is_lt, ordering_index, ordering_reverse}
use Rattle.std.specs.Cmp.Lexicographic.{slice_cmp, bytes_decides}
use Rattle.std.specs.String.{string_bytes}
use Rattle.std.specs.declared.string.String.{String}
use Rattle.std.specs.declared.cmp.Ordering.TheVariants.{Less, Equal, Greater}
use Rattle.std.proofs.Math.ListN.{get_or-map}
use Rattle.std.proofs.lemmas.Bool.{cases_lt}
use Rattle.std.proofs.lemmas.Cmp.{nat_list_cmp_total}
use Rattle.std.proofs.lemmas.List.{length-map, get_or_default}
use Rattle.std.proofs.lemmas.List.Elements.{recursion_from_All}
use Rattle.std.proofs.lemmas.List.Sorted.{searchable_from_sorted}
use Rattle.std.proofs.lemmas.Map.Keys.{Less-from_sorted}
use Rattle.std.proofs.lemmas.Map.Text.{is_eq-slice_cmp}
use Rattle.funnel_model.specs.Listed.{IsInByteOrder, listed_count, listed_pair}
use Rattle.funnel_model.proofs.ListedLemmas.{listed_count-at, listed_count-none}

module _ {Z : Type 0} (entries : List (String Z × ℕ)) (words : List (List ℕ × ℕ)) (lists : map listed_pair entries ≡ words) where
  -- the entry at a place is the pair that is listed there
  entry_at : (i : ℕ) (d : String Z × ℕ) → get_or words i (listed_pair d) ≡ listed_pair (get_or entries i d)
  entry_at i d = ap (λ ws. get_or ws i (listed_pair d)) (sym lists) ∙ get_or-map listed_pair entries i d

  as_many : length words ≡ length entries
  as_many = ap length (sym lists) ∙ length-map entries listed_pair

  -- an entry that a loop reads, as it is listed
  pub item_at : (i : ℕ) (item : String Z × ℕ) → item ≡ get_or entries i item → get_or words i (listed_pair item) ≡ listed_pair item
  item_at i item is = entry_at i item ∙ ap listed_pair (sym is)

  -- the order of the words is that of the entries
  in_order : IsInByteOrder words → IsSortedBy (λ (a b : String Z × ℕ). is_lt (slice_cmp nat_cmp (string_bytes a.0) (string_bytes b.0))) entries
  in_order order k d low less =
      let key : List ℕ × ℕ → List ℕ = λ entry. entry.0 in
      let at : (i : ℕ) → get_or (map key words) i (string_bytes d.0) ≡ string_bytes (get_or entries i d).0 =
      λ i. get_or-map key words i (listed_pair d) ∙ ap key (entry_at i d) in
      let long : k + 1 < length (map key words) = omega (arith, length-map words key, as_many) in
      let rises : slice_cmp nat_cmp (get_or (map key words) k (string_bytes d.0)) (get_or (map key words) (k + 1) (string_bytes d.0)) ≡ Less =
      Less-from_sorted (slice_cmp nat_cmp) (map key words) k (k + 1) (string_bytes d.0) order (omega arith) long in
      let here : slice_cmp nat_cmp (string_bytes (get_or entries k d).0) (string_bytes (get_or entries (k + 1) d).0) ≡ Less =
      subst (λ x. slice_cmp nat_cmp x (string_bytes (get_or entries (k + 1) d).0) ≡ Less) (at k)
      (subst (λ y. slice_cmp nat_cmp (get_or (map key words) k (string_bytes d.0)) y ≡ Less) (at (k + 1)) rises) in
      ap is_lt (nat_list_cmp_total.antisymm (string_bytes (get_or entries (k + 1) d).0) (string_bytes (get_or entries k d).0) ∙ ap ordering_reverse here)

  pub searchable : (word : List ℕ) → IsInByteOrder words → IsNonDecreasingBy (λ (entry : String Z × ℕ). ordering_index (slice_cmp nat_cmp (string_bytes entry.0) word)) entries
  searchable word order = searchable_from_sorted nat_list_cmp_total (λ (entry : String Z × ℕ). string_bytes entry.0) entries word (in_order order)

  -- an entry that is equal to the word has the word's bytes
  same_word : (word : List ℕ) (i : ℕ) (d : String Z × ℕ) → slice_cmp nat_cmp (string_bytes (get_or entries i d).0) word ≡ Equal → string_bytes (get_or entries i d).0 ≡ word
  same_word word i d equal =
      let bytes : List ℕ = string_bytes (get_or entries i d).0 in
      (bytes_decides bytes word).0 (sym (is_eq-slice_cmp bytes word) ∙ ap is_eq equal)

  pub found : (word : List ℕ) (i : ℕ) (d : String Z × ℕ) → IsInByteOrder words → i < length entries → slice_cmp nat_cmp (string_bytes (get_or entries i d).0) word ≡ Equal → listed_count words word ≡ Some (get_or entries i d).1
  found word i d order less equal =
      listed_count-at words word i (listed_pair d) order (omega (arith, as_many)) (ap (λ p. p.0) (entry_at i d) ∙ same_word word i d equal)
      ∙ ap (λ p. Some p.1) (entry_at i d)

  pub found_at : (word : List ℕ) (i : ℕ) (d : String Z × ℕ) (e : List ℕ × ℕ) → i < length entries → slice_cmp nat_cmp (string_bytes (get_or entries i d).0) word ≡ Equal → get_or words i e ≡ (word, (get_or entries i d).1)
  found_at word i d e less equal =
      get_or_default words i e (listed_pair d) (omega (arith, as_many)) ∙ entry_at i d ∙ ap (λ w. (w, (get_or entries i d).1)) (same_word word i d equal)

  pub long_enough : (i : ℕ) → i < length entries → i < length words
  long_enough i less = omega (arith, as_many)

  pub all_passed : (i : ℕ) → length entries ≤ i → length words ≤ i
  all_passed i all = omega (arith, as_many)

-- each entry differs from the word
differ_each : {Z : Type 0} (word : List ℕ) (entries : List (String Z × ℕ)) → AllByRecursion (λ entry. is_eq (slice_cmp nat_cmp (string_bytes entry.0) word) ≡ false) entries → AllByRecursion (λ entry. is_eq (slice_cmp nat_cmp entry.0 word) ≡ false) (map listed_pair entries)
differ_each word [] h = tt
differ_each word (entry ∷ rest) h = (h.0, differ_each word rest h.1)

pub not_found : {Z : Type 0} (entries : List (String Z × ℕ)) (words : List (List ℕ × ℕ)) (word : List ℕ) (i : ℕ) → map listed_pair entries ≡ words → IsPartitionPoint (λ entry. slice_cmp nat_cmp (string_bytes entry.0) word ≡ Less) (λ entry. slice_cmp nat_cmp (string_bytes entry.0) word ≡ Greater) entries i → listed_count words word ≡ None
not_found entries words word i lists parts =
    let differ : All (λ entry. is_eq (slice_cmp nat_cmp (string_bytes entry.0) word) ≡ false) entries =
    λ k d less.
    ⊎_elim
    (λ (low : k < i). ap is_eq (parts.0 k d (omega arith) low))
    (λ (high : i ≤ k). ap is_eq (parts.1 k d high less))
    (cases_lt k i) in
    subst (λ ws. listed_count ws word ≡ None) lists
    (listed_count-none (map listed_pair entries) word (differ_each word entries (recursion_from_All _ entries differ)))
