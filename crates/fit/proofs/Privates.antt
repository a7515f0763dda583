-- Up to which class listed words get a row of their own.
use Rattle.std.proofs.Common.{◌≡◌, ◌+◌, ◌<◌, ◌≤◌, ℕ, Bool, true, false, cond, nat_le, List, [], ◌∷◌, All, IsPermutation, String, Global, count_by, get_or, length, map, take, refl, sym, ap, ◌∙◌, subst, arith, inl, inr, leb-true}
use Rattle.std.proofs.lemmas.Bool.{and_parts, cases_eq, false_from_ne_true}
use Rattle.std.proofs.lemmas.List.{get_or-map, length-map}
use Rattle.std.proofs.lemmas.List.Elements.{All-get_or}
use Rattle.std.proofs.lemmas.List.Sorted.{sum_by-IsPermutation}
use Rattle.std.proofs.lemmas.List.Sums.{count_by-le-length, sum_by-cons, sum_by_more}
use Rattle.std.specs.Int.{from_bool}
use Rattle.std.specs.declared.cmp.Reverse.{Reverse}
use Rattle.funnel_model.specs.Configuration.{IsBetween}
use Rattle.funnel_model.specs.Treatment.{class_of_count}
use Rattle.fit.specs.Privates.{IsPrivateClass, count_up_to, is_up_to}
use Rattle.fit.specs.Steps.{ranked}

-- no word is of a class from 3 to 2
none_is : (documents p count : ℕ) → p ≤ 2 → is_up_to documents p count ≡ false
none_is documents p count low =
    let class = class_of_count count documents in
    false_from_ne_true (is_up_to documents p count)
    (λ is. let both = and_parts (nat_le 3 class) (nat_le class p) is in omega (arith, leb-true 3 class both.0, leb-true class p both.1, low))

none_up_to : (documents p : ℕ) (words : List (List ℕ × ℕ)) → p ≤ 2 → count_up_to documents p words ≡ 0
none_up_to documents p [] low = refl
none_up_to documents p (entry ∷ words) low =
    omega (
      arith,
      sum_by-cons (λ (e : List ℕ × ℕ). cond {A = ℕ} (is_up_to documents p e.1) 1 0) entry words,
      ap (λ b. cond {A = ℕ} b 1 0) (none_is documents p entry.1 low),
      none_up_to documents p words low,
    )

-- where there are too many, the class is 3 at least
pub more_than_two : (documents p : ℕ) (words : List (List ℕ × ℕ)) → 2 ≤ p → 512 < count_up_to documents p words → 3 ≤ p
more_than_two documents p words low many = elim (cases_eq p 2) [
  | inl is ↦ absurd (omega (arith, many, none_up_to documents p words (omega (arith, is))))
  | inr differs ↦ omega (arith, low, differs)
]

-- a class with few words is below one with too many
pub below : (documents p other : ℕ) (words : List (List ℕ × ℕ)) → 512 < count_up_to documents p words → count_up_to documents other words ≤ 512 → other ≤ p → other < p
below documents p other words many few most = elim (cases_eq other p) [
  | inl same ↦ absurd (omega (arith, many, subst (λ (n : ℕ). count_up_to documents n words ≤ 512) same few))
  | inr differs ↦ omega (arith, most, differs)
]

-- ---- one word after another

count-ranked : (documents p : ℕ) (es : List (Reverse ℕ × String Global)) → count_up_to documents p (map ranked es) ≡ count_by (λ e. is_up_to documents p e.0.0) es
count-ranked documents p [] = refl
count-ranked documents p (e ∷ es) =
    omega (
      arith,
      sum_by-cons (λ (entry : List ℕ × ℕ). cond {A = ℕ} (is_up_to documents p entry.1) 1 0) (ranked e) (map ranked es),
      sum_by-cons (λ (entry : Reverse ℕ × String Global). cond {A = ℕ} (is_up_to documents p entry.0.0) 1 0) e es,
      count-ranked documents p es,
    )

pub count-more : (documents p : ℕ) (es : List (Reverse ℕ × String Global)) (i : ℕ) (e : Reverse ℕ × String Global) (is : Bool) → i < length es → e ≡ get_or es i e
    → is ≡ is_up_to documents p e.0.0 → count_up_to documents p (map ranked (take (i + 1) es)) ≡ count_up_to documents p (map ranked (take i es)) + cond {A = ℕ} is 1 0
count-more documents p es i e is less at counts =
    let one : Reverse ℕ × String Global → ℕ = λ x. cond {A = ℕ} (is_up_to documents p x.0.0) 1 0 in
    let here : one (get_or es i e) ≡ cond {A = ℕ} is 1 0 = ap one (sym at) ∙ ap (λ b. cond {A = ℕ} b 1 0) (sym counts) in
    omega (arith, count-ranked documents p (take (i + 1) es), count-ranked documents p (take i es), sum_by_more one es i e less, here)

-- a `bool` as a number
pub from_is : (b : Bool) → from_bool b ≡ cond {A = ℕ} b 1 0
from_is true = refl
from_is false = refl

pub from_small : (b : Bool) → from_bool b ≤ 1
from_small true = omega arith
from_small false = omega arith

-- the count of a word of the list
pub between_at : (documents : ℕ) (es : List (Reverse ℕ × String Global)) (i : ℕ) (e : Reverse ℕ × String Global) → i < length es → e ≡ get_or es i e
    → All (λ entry. IsBetween 1 documents entry.1) (map ranked es) → IsBetween 1 documents e.0.0
between_at documents es i e less at all =
    let here : get_or (map ranked es) i (ranked e) ≡ ranked e = get_or-map ranked es i e (ranked e) less ∙ ap ranked (sym at) in
    subst (λ (entry : List ℕ × ℕ). IsBetween 1 documents entry.1) here
    (All-get_or (λ (entry : List ℕ × ℕ). IsBetween 1 documents entry.1) (map ranked es) i (ranked e) (omega (arith, less, length-map es ranked)) all)

-- there are not more than words
pub count-small : (documents p : ℕ) (es : List (Reverse ℕ × String Global)) → count_up_to documents p (map ranked es) ≤ length es
count-small documents p es = omega (arith, count-ranked documents p es, count_by-le-length (λ (e : Reverse ℕ × String Global). is_up_to documents p e.0.0) es)

-- ---- in any order

pub private_moved : (documents p : ℕ) (first listed : List (List ℕ × ℕ)) → IsPermutation first listed → IsPrivateClass documents first p → IsPrivateClass documents listed p
private_moved documents p first listed moved is =
    let same : (n : ℕ) → count_up_to documents n listed ≡ count_up_to documents n first =
    λ n. sum_by-IsPermutation (λ (entry : List ℕ × ℕ). cond {A = ℕ} (is_up_to documents n entry.1) 1 0) first listed moved in record {
      low = is.low;
      high = is.high;
      few = omega (arith, same p, is.few);
      greatest = λ other high few. is.greatest other high (omega (arith, same other, few));
    }
