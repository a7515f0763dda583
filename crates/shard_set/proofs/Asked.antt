-- Shards that are asked in turn.
use Rattle.std.proofs.Common.{◌≡◌, ℕ, suc, ◌+◌, ◌<◌, ◌≤◌, List, [], ◌∷◌, ◌++◌, length, get_or, set, take, Result, Ok, Err, inl, inr, ⊎_elim, sym, refl, ap, ◌∙◌, subst, arith}
use Rattle.std.proofs.lemmas.Bool.{cases_eq, cases_lt}
use Rattle.std.proofs.lemmas.List.{append-nil, get_or-set_other, get_or-set_same, get_or_append_left, get_or_default, length-append, length-set, take-append-le, take_all}
use Rattle.std.proofs.lemmas.List.Concat.{flat_map-append}
use Rattle.std.proofs.Math.Seq.{get_or-append_seam}
use Rattle.std.specs.List.{filter_map}
use Rattle.commit_desk.specs.declared.answers.FindFault.{FindFault}
use Rattle.commit_desk.specs.declared.answers.FindFault.TheVariants as find
use Rattle.engine.specs.declared.querying.SearchFault.{SearchFault}
use Rattle.engine.specs.declared.querying.SearchFault.TheVariants as search
use Rattle.engine.specs.Passes.{PassView}
use Rattle.engine.specs.Solos.{SoloState, sole_pass}
use Rattle.funnel_model.specs.declared.event.Event.{Event}
use Rattle.funnel_model.specs.Expressions.{Tree, tree_of}
use Rattle.funnel_model.specs.Queries.{IsQuery}
use Rattle.funnel_model.proofs.QueryLemmas.{query-formed, query-shallow}
use Rattle.slice_rule.specs.Pools.{PoolId}
use Rattle.shard_set.specs.declared.home.Home.{Home}
use Rattle.shard_set.specs.Asking.{HasFound, IsFindFault, IsSearchFault, placed_all}
use Rattle.shard_set.specs.Calls.{AsksEach, AsksOrNot, FindsIn, OneRefuses, SearchesIn}
use Rattle.shard_set.specs.Merging.{placed}

-- what is written back to all elements of a list
pub written_back : {A : Type 0} (n : ℕ) (ys zs : List A) → n ≡ length ys → take n (ys ++ zs) ≡ ys
written_back n ys zs is = take-append-le n ys zs (omega (arith, is)) ∙ take_all n ys (omega (arith, is))

module _ {F : Type 0} (Call : SoloState → SoloState → Result (List ℕ) F → Type 0) (homes : List (ℕ × Home)) (before : List SoloState) where
  -- none is asked at first
  pub found_none : (items : List SoloState) (found : List (ℕ × ℕ)) → items ≡ before → found ≡ [] → HasFound Call homes before 0 items found
  found_none items found same none = record {
    count = ap length same;
    owns = [];
    owns_count = refl;
    asked = λ k d in'. absurd (omega arith);
    others = λ k d in'. ap (λ (ss : List SoloState). get_or ss k d) same;
    found_is = none;
  }

  module _ (i : ℕ) (items : List SoloState) (found : List (ℕ × ℕ)) (so_far : HasFound Call homes before i items found) (in' : i < length items) (e t : SoloState) where
    -- the shard that is asked now
    asked_now : (answer : Result (List ℕ) F) → Call (get_or items i e) t answer → (d : SoloState) → Call (get_or before i d) (get_or (set items i t) i d) answer
    asked_now answer call d =
        let was : get_or items i e ≡ get_or before i d = get_or_default items i e d in' ∙ so_far.others i d (omega arith) in
        subst (λ s. Call s (get_or (set items i t) i d) answer) was
        (subst (λ s. Call (get_or items i e) s answer) (sym (get_or-set_same items i t d in')) call)

    -- it found these
    pub found_more : (own : List ℕ) (more : List (ℕ × ℕ)) → Call (get_or items i e) t (Ok own) → more ≡ found ++ filter_map (placed homes) own →
        HasFound Call homes before (i + 1) (set items i t) more
    found_more own more call is =
        let owns_count = so_far.owns_count in
        record {
          count = length-set items i t ∙ so_far.count;
          owns = so_far.owns ++ own ∷ [];
          owns_count = omega (arith, length-append so_far.owns (own ∷ []), owns_count);
          asked = λ k d below. ⊎_elim
              (λ (same : k ≡ i).
              let last : get_or (so_far.owns ++ own ∷ []) i [] ≡ own = ap (λ n. get_or (so_far.owns ++ own ∷ []) n []) (sym owns_count) ∙ get_or-append_seam so_far.owns own [] [] in
              subst (λ n. Call (get_or before n d) (get_or (set items i t) n d) (Ok (get_or (so_far.owns ++ own ∷ []) n []))) (sym same)
              (subst (λ ids. Call (get_or before i d) (get_or (set items i t) i d) (Ok ids)) (sym last) (asked_now (Ok own) call d)))
              (λ (apart : k ≡ i → ⊥).
              let low : k < i = omega (arith, below, apart) in
              subst (λ ids. Call (get_or before k d) (get_or (set items i t) k d) (Ok ids)) (sym (get_or_append_left so_far.owns (own ∷ []) [] k (omega (arith, low, owns_count))))
              (subst (λ s. Call (get_or before k d) s (Ok (get_or so_far.owns k []))) (sym (get_or-set_other items i k t d apart)) (so_far.asked k d low)))
              (cases_eq k i);
          others = λ k d above. get_or-set_other items i k t d (λ same. absurd (omega (arith, same, above))) ∙ so_far.others k d (omega arith);
          found_is = is ∙ ap (λ (ps : List (ℕ × ℕ)). ps ++ filter_map (placed homes) own) so_far.found_is
              ∙ sym (flat_map-append (λ ids. filter_map (placed homes) ids) so_far.owns (own ∷ [])
              ∙ ap (λ (ps : List (ℕ × ℕ)). placed_all homes so_far.owns ++ ps) (append-nil (filter_map (placed homes) own)));
        }

    -- each was asked or wasn't
    pub asked_some : (answer : Result (List ℕ) F) → Call (get_or items i e) t answer → AsksEach (AsksOrNot Call) before (set items i t)
    asked_some answer call = record {
      count = length-set items i t ∙ so_far.count;
      asked = λ k d within. ⊎_elim
          (λ (same : k ≡ i). subst (λ n. AsksOrNot Call (get_or before n d) (get_or (set items i t) n d)) (sym same) (inr (answer, asked_now answer call d)))
          (λ (apart : k ≡ i → ⊥). ⊎_elim
          (λ (low : k < i).
          inr (Ok (get_or so_far.owns k []), subst (λ s. Call (get_or before k d) s (Ok (get_or so_far.owns k []))) (sym (get_or-set_other items i k t d apart)) (so_far.asked k d low)))
          (λ (high : i ≤ k). inl (get_or-set_other items i k t d apart ∙ so_far.others k d high))
          (cases_lt k i))
          (cases_eq k i);
    }

    -- and this one refused the call
    pub refused_now : (fault : F) → Call (get_or items i e) t (Err fault) → OneRefuses Call before (set items i t) fault
    refused_now fault call = record { shard = i; in_range = let count = so_far.count in omega (arith, count, in'); refuses = λ d. asked_now (Err fault) call d }

  -- all were asked
  pub asked_all : (items : List SoloState) (found : List (ℕ × ℕ)) → HasFound Call homes before (length before) items found →
      AsksEach (λ s t. (own : List ℕ) × Call s t (Ok own)) before items
  asked_all items found all = record { count = all.count; asked = λ k d within. (get_or all.owns k [], all.asked k d within) }

-- a find that a shard refused
pub find_fault : (query : List ℕ) (homes : List (ℕ × Home)) (before : List SoloState) (i : ℕ) (items : List SoloState) (found : List (ℕ × ℕ)) →
    HasFound (FindsIn query) homes before i items found → i < length items → (e t : SoloState) (fault : FindFault) → FindsIn query (get_or items i e) t (Err fault) →
    IsFindFault query before (set items i t) fault
find_fault query homes before i items found so_far in' e t (find.Spent n) call = (
  asked_some (FindsIn query) homes before i items found so_far in' e t (Err (find.Spent n)) call,
  refused_now (FindsIn query) homes before i items found so_far in' e t (find.Spent n) call,
)
find_fault query homes before i items found so_far in' e t find.Memory call = asked_some (FindsIn query) homes before i items found so_far in' e t (Err find.Memory) call

-- lists whose elements are the same
same_elements : (xs ys : List SoloState) → length xs ≡ length ys → ((k : ℕ) (d : SoloState) → k < length ys → get_or xs k d ≡ get_or ys k d) → xs ≡ ys
same_elements [] [] count same = refl
same_elements [] (y ∷ ys) count same = absurd (omega (arith, count))
same_elements (x ∷ xs) [] count same = absurd (omega (arith, count))
same_elements (x ∷ xs) (y ∷ ys) count same =
    ap (λ (s : SoloState). s ∷ xs) (same 0 x (omega arith))
    ∙ ap (λ (ss : List SoloState). y ∷ ss) (same_elements xs ys (omega (arith, count)) (λ k d in'. same (suc k) d (omega arith)))

-- a shard whose pool and pass are as before is as before
still : {s t : SoloState} → t.pool ≡ s.pool → sole_pass t ≡ sole_pass s → t ≡ s
still {s} {t} pool pass =
    let with_pool : PoolId → List Event → SoloState = λ p h. record { pool = p; history = h } in
    ap (λ p. with_pool p t.history) pool ∙ ap (with_pool s.pool) (ap (λ (v : PassView). v.front) pass)

-- a text that is none was refused by the first shard, and nothing was done
nothing_done : (text : List ℕ) (homes : List (ℕ × Home)) (before : List SoloState) (i : ℕ) (items : List SoloState) (found : List (ℕ × ℕ)) →
    HasFound (SearchesIn text) homes before i items found → i < length items → (e t : SoloState) → ((expr : Tree) → IsQuery text expr → ⊥) → t ≡ get_or items i e → set items i t ≡ before
nothing_done text homes before i items found so_far in' e t none same =
    same_elements (set items i t) before (length-set items i t ∙ so_far.count)
    (λ k d within. ⊎_elim
    (λ (here : k ≡ i).
    subst (λ n. get_or (set items i t) n d ≡ get_or before n d) (sym here)
    (get_or-set_same items i t d in' ∙ same ∙ get_or_default items i e d in' ∙ so_far.others i d (omega arith)))
    (λ (apart : k ≡ i → ⊥). get_or-set_other items i k t d apart ∙ so_far.others k d (first k))
    (cases_eq k i))
  where
    first : (k : ℕ) → i ≤ k
    first k = ⊎_elim (λ (some : 0 < i). let asked = so_far.asked 0 e some in let call = asked.call in absurd (none (tree_of call.0) call.1)) (λ (zero : i ≤ 0). omega (arith, zero)) (cases_lt 0 i)

-- a query that a shard refused
pub search_fault : (text : List ℕ) (homes : List (ℕ × Home)) (before : List SoloState) (i : ℕ) (items : List SoloState) (found : List (ℕ × ℕ)) →
    HasFound (SearchesIn text) homes before i items found → i < length items → (e t : SoloState) (fault : SearchFault) → SearchesIn text (get_or items i e) t (Err fault) →
    IsSearchFault text before (set items i t) fault
search_fault text homes before i items found so_far in' e t (search.Syntax at) call =
    (call.call.0, nothing_done text homes before i items found so_far in' e t (λ expr is. query-formed text expr at is call.call.0) (still call.pool (call.call.1)))
search_fault text homes before i items found so_far in' e t (search.Deep at) call =
    (call.call.0, nothing_done text homes before i items found so_far in' e t (λ expr is. query-shallow text expr at is call.call.0) (still call.pool (call.call.1)))
search_fault text homes before i items found so_far in' e t (search.Spent n) call = (
  asked_some (SearchesIn text) homes before i items found so_far in' e t (Err (search.Spent n)) call,
  refused_now (SearchesIn text) homes before i items found so_far in' e t (search.Spent n) call,
)
search_fault text homes before i items found so_far in' e t search.Memory call = asked_some (SearchesIn text) homes before i items found so_far in' e t (Err search.Memory) call
