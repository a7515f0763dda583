-- What the workers of a load leave live: lists of numbers that weigh the same in every way are permutations of each other.
use Rattle.std.proofs.Common.{◌≡◌, ℕ, ◌+◌, ◌-◌, ◌≤◌, ⊎_elim, Bool, true, false, cond, not, List, [], ◌∷◌, ◌++◌, map, filter, refl, sym, ap, ◌∙◌, subst, arith}
use Rattle.std.proofs.lemmas.Bool.{cases_eq, ne_eqb}
use Rattle.std.proofs.lemmas.List.{append-nil}
use Rattle.std.proofs.lemmas.List.Elements.{All-nil, All-weaker}
use Rattle.std.proofs.lemmas.List.Sorted.{IsPermutation-cons, IsPermutation-middle, IsPermutation-refl, IsPermutation-sym, IsPermutation-trans}
use Rattle.std.proofs.lemmas.List.Sums.{sum_by-append, sum_by-cons}
use Rattle.std.specs.List.{range_with_len, sum_by}
use Rattle.std.specs.List.Sorted.{IsPermutation}
use Rattle.funnel_model.specs.declared.event.Event.{Event}
use Rattle.funnel_model.specs.declared.reply.Reply.{Reply}
use Rattle.funnel_model.specs.History.{Document, live}
use Rattle.funnel_model.specs.Legal.{Limits}
use Rattle.load_gen.specs.Documents.{document}
use Rattle.load_gen.specs.Jobs.{is_deleted}
use Rattle.load_laws.specs.Workers.{AreLeft, HasRoomFor, IsLoaded}
use Rattle.load_laws.proofs.Balance.{by_number, is_number, number_is}
use Rattle.load_laws.proofs.FoundLive.{IsOfDocuments}
use Rattle.load_laws.proofs.JobCounts.{where_deleted}
use Rattle.load_laws.proofs.WorkersAnswered.{left_by_then, live_of_load}

-- a number that counts in a list stands in it
stands_in : (x : ℕ) (ys : List ℕ) → 1 ≤ sum_by (is_number x) ys → (before : List ℕ) × (after : List ℕ) × (ys ≡ before ++ x ∷ after)
stands_in x [] some = absurd (omega (arith, some))
stands_in x (y ∷ ys) some =
    let all = sum_by-cons (is_number x) y ys in
    ⊎_elim
    (λ same. ([], ys, ap (λ z. z ∷ ys) same))
    (λ other.
    let none : is_number x y ≡ 0 = ap (λ b. cond b 1 0) (ne_eqb y x other) in
    let rest = stands_in x ys (omega (arith, all, some, none)) in
    (y ∷ rest.0, rest.1, ap (λ (zs : List ℕ). y ∷ zs) rest.2))
    (cases_eq y x)

weightless : (ys : List ℕ) → sum_by (λ y. 1) ys ≡ 0 → [] ≡ ys
weightless [] none = refl
weightless (y ∷ ys) none = let all = sum_by-cons (λ (x : ℕ). 1) y ys in absurd (omega (arith, all, none))

-- lists that weigh the same in every way have the same elements, in some order
permuted : (xs ys : List ℕ) → ((v : ℕ → ℕ) → sum_by v xs ≡ sum_by v ys) → IsPermutation xs ys
permuted [] ys same = subst (IsPermutation []) (weightless ys (sym (same (λ y. 1)))) (IsPermutation-refl [])
permuted (x ∷ xs) ys same =
    let counted = sum_by-cons (is_number x) x xs in
    let one = number_is x in
    let all = same (is_number x) in
    let at = stands_in x ys (omega (arith, counted, one, all)) in
    let rest = permuted xs (at.0 ++ at.1) (λ v.
    let whole = same v in
    let first = sum_by-cons v x xs in
    let there = ap (sum_by v) at.2 ∙ sum_by-append v at.0 (x ∷ at.1) in
    let then = sum_by-cons v x at.1 in
    let both = sum_by-append v at.0 at.1 in
    omega (arith, whole, first, there, then, both)) in
    subst (IsPermutation (x ∷ xs)) (sym at.2)
    (IsPermutation-trans (x ∷ xs) (x ∷ (at.0 ++ at.1)) (at.0 ++ x ∷ at.1) (IsPermutation-cons x xs (at.0 ++ at.1) rest)
    (IsPermutation-sym (at.0 ++ x ∷ at.1) (x ∷ (at.0 ++ at.1)) (IsPermutation-middle at.0 x at.1)))

-- the numbers of documents weigh what these weigh by their numbers
numbers_weigh : (v : ℕ → ℕ) (ds : List Document) → sum_by v (map (λ d. d.id) ds) ≡ by_number v ds
numbers_weigh v [] = refl
numbers_weigh v (d ∷ ds) =
    sum_by-cons v d.id (map (λ (x : Document). x.id) ds) ∙ ap (λ n. v d.id + n) (numbers_weigh v ds) ∙ sym (sum_by-cons (λ (x : Document). v x.id) d ds)

-- the numbers that are left and those that are deleted weigh what all do
left_and_deleted : (v : ℕ → ℕ) (ids : List ℕ) → sum_by v (filter (λ id. not (is_deleted id)) ids) + sum_by (where_deleted v) ids ≡ sum_by v ids
left_and_deleted v [] = refl
left_and_deleted v (id ∷ ids) =
    by_test (is_deleted id) (left_and_deleted v ids) (sum_by-cons v id ids) (sum_by-cons (where_deleted v) id ids) (sum_by-cons v id (filter (λ x. not (is_deleted x)) ids))
  where
    left : List ℕ
    left = filter (λ x. not (is_deleted x)) ids

    by_test : (b : Bool) → sum_by v left + sum_by (where_deleted v) ids ≡ sum_by v ids → sum_by v (id ∷ ids) ≡ v id + sum_by v ids →
        sum_by (where_deleted v) (id ∷ ids) ≡ cond b (v id) 0 + sum_by (where_deleted v) ids → sum_by v (id ∷ left) ≡ v id + sum_by v left →
        sum_by v (cond (not b) (id ∷ left) left) + sum_by (where_deleted v) (id ∷ ids) ≡ sum_by v (id ∷ ids)
    by_test true rest all gone kept = omega (arith, rest, all, gone)
    by_test false rest all gone kept = omega (arith, rest, all, gone, kept)

-- once all have deleted, those are live that are not to be deleted
pub load_leaves : (limits : Limits) (docs words seed workers : ℕ) (history : List Event) (replies : ℕ → List Reply) →
    (loaded : IsLoaded limits docs words seed workers history replies) → HasRoomFor limits docs →
    AreLeft docs words seed (loaded.parts.adding ++ loaded.parts.deleting)
load_leaves limits docs words seed workers history replies loaded room =
    let p = loaded.parts in
    let h = p.adding ++ p.deleting in
    let ids = range_with_len 1 docs in
    record {
      numbers = permuted (map (λ d. d.id) (live h)) (filter (λ id. not (is_deleted id)) ids) (λ v.
          let live_is = numbers_weigh v (live h) in
          let left = left_by_then limits docs words seed workers history replies loaded room h p.querying [] p.whole (sym (append-nil h)) v in
          let told = left_and_deleted v ids in
          omega (arith, live_is, left, told));
      texts = All-weaker (IsOfDocuments docs words seed) (λ d. d.text ≡ document words seed (d.id - 1)) text_at (live h)
          (live_of_load limits docs words seed workers history replies loaded [] h p.querying p.whole (All-nil (IsOfDocuments docs words seed)));
    }
  where
    text_at : (d : Document) → IsOfDocuments docs words seed d → d.text ≡ document words seed (d.id - 1)
    text_at d is =
        let number = is.2 in
        let at : is.0 ≡ d.id - 1 = omega (arith, number) in
        is.3 ∙ ap (document words seed) at
