-- The count of a word in a list of words in byte order.
use Rattle.std.proofs.Common.{◌≡◌, ℕ, zero, suc, ◌<◌, Bool, true, false, cond, List, [], ◌∷◌, map, length, get_or, Some, None, refl, ap, sym, ◌∙◌, subst, arith}
use Rattle.std.specs.Option.{option_map}
use Rattle.std.specs.List.{AllByRecursion}
use Rattle.std.specs.Ordering.{nat_cmp, is_eq}
use Rattle.std.specs.declared.cmp.Ordering.{Ordering}
use Rattle.std.specs.declared.cmp.Ordering.TheVariants.{Less}
use Rattle.std.specs.Cmp.Lexicographic.{slice_cmp}
use Rattle.std.specs.Str.{bytes_eq}
use Rattle.std.proofs.lemmas.Cmp.{tied_itself, nat_list_cmp_total}
use Rattle.std.proofs.lemmas.Map.Text.{is_eq-slice_cmp}
use Rattle.std.proofs.lemmas.Map.Keys.{sorted_head, sorted_tail}
use Rattle.funnel_model.specs.Listed.{IsInByteOrder, listed_count}

chosen : {X : Type 0} (b : Bool) (d : X) (x y : X) → b ≡ true → cond b x y ≡ x
chosen true d x y e = refl
chosen false d x y e = cc

passed : {X : Type 0} (b : Bool) (d : X) (x y : X) → b ≡ false → cond b x y ≡ y
passed true d x y e = cc
passed false d x y e = refl

pub same_bytes : (u w : List ℕ) → u ≡ w → bytes_eq u w ≡ true
same_bytes u w e =
    sym (is_eq-slice_cmp u w) ∙ ap (λ v. is_eq (slice_cmp nat_cmp u v)) (sym e) ∙ ap is_eq (tied_itself nat_list_cmp_total u)

pub other_bytes : (u w : List ℕ) (o : Ordering) → slice_cmp nat_cmp u w ≡ o → is_eq o ≡ false → bytes_eq u w ≡ false
other_bytes u w o is not = sym (is_eq-slice_cmp u w) ∙ ap is_eq is ∙ not

-- each word of a list that passes a test by recursion does
pub later : (P : List ℕ → Type 0) (entries : List (List ℕ × ℕ)) (i : ℕ) (d : List ℕ × ℕ) → AllByRecursion P (map (λ entry. entry.0) entries) → i < length entries → P (get_or entries i d).0
later P [] i d all less = absurd (omega arith)
later P (entry ∷ rest) zero d all less = all.0
later P (entry ∷ rest) (suc i) d all less = later P rest i d all.1 (omega arith)

-- the count of the word at a place is the count there
pub listed_count-at : (entries : List (List ℕ × ℕ)) (word : List ℕ) (i : ℕ) (d : List ℕ × ℕ) → IsInByteOrder entries → i < length entries → (get_or entries i d).0 ≡ word → listed_count entries word ≡ Some (get_or entries i d).1
unfolding listed_count
listed_count-at [] word i d order less is = absurd (omega arith)
listed_count-at (entry ∷ rest) word zero d order less is =
    ap (option_map (λ entry. entry.1)) (chosen _ (Some entry) (Some entry) _ (same_bytes entry.0 word is))
listed_count-at (entry ∷ rest) word (suc i) d order less is =
    let below : slice_cmp nat_cmp entry.0 word ≡ Less =
    subst (λ w. slice_cmp nat_cmp entry.0 w ≡ Less) is
    (later (λ w. slice_cmp nat_cmp entry.0 w ≡ Less) rest i d (sorted_head (slice_cmp nat_cmp) _ _ order) (omega arith)) in
    ap (option_map (λ entry. entry.1)) (passed _ (Some entry) (Some entry) _ (other_bytes entry.0 word Less below refl))
    ∙ listed_count-at rest word i d (sorted_tail (slice_cmp nat_cmp) _ _ order) (omega arith) is

-- a word that no entry has is not listed
pub listed_count-none : (entries : List (List ℕ × ℕ)) (word : List ℕ) → AllByRecursion (λ entry. is_eq (slice_cmp nat_cmp entry.0 word) ≡ false) entries → listed_count entries word ≡ None
unfolding listed_count
listed_count-none [] word differ = refl
listed_count-none (entry ∷ rest) word differ =
    ap (option_map (λ entry. entry.1)) (passed _ (Some entry) (Some entry) _ (other_bytes entry.0 word _ refl differ.0))
    ∙ listed_count-none rest word differ.1
