-- The candidates and the layouts of a test's find.
use Rattle.std.proofs.Common.{◌≡◌, ℕ, ◌+◌, ◌<◌, List, [], ◌∷◌, ◌++◌, length, get_or, Option, Some, sym, ap, ◌∙◌, subst, arith, Contains}
use Rattle.std.proofs.lemmas.List.Elements.{Contains-append_left, Contains-push}
use Rattle.std.specs.Prelude.{option_to_list}
use Rattle.std.proofs.lemmas.List.FromFn.{get_or-map-range_with_len, length-map-range_with_len, map-range_with_len_more}
use Rattle.commit_desk.specs.declared.find_layouts.FindLayout.{FindLayout}
use Rattle.commit_desk.specs.Scans.{AreOfToken}
use Rattle.commit_desk_tests.specs.Tested.{IsLayoutOfPool, columns_up_to}
use Rattle.funnel_model.specs.declared.claim.Token.{Token}
use Rattle.funnel_model.specs.Legal.{Limits}
use Rattle.funnel_model.specs.Sizes.{columns_of_slice}
use Rattle.row_layout.specs.Layouts.{LayoutId}
use Rattle.slice_rule.specs.Pools.{PoolId}

abbrev column_of : ℕ → ℕ → ℕ × ℕ
column_of slice column = (slice, column)

-- the columns stand by their numbers
column_at : (slice end k : ℕ) (d : ℕ × ℕ) → k < end → get_or (columns_up_to slice end) k d ≡ (slice, k)
unfolding columns_up_to
column_at slice end k d below = get_or-map-range_with_len (column_of slice) 0 end k k d below (omega arith)

pub count : (slice end : ℕ) → length (columns_up_to slice end) ≡ end
unfolding columns_up_to
count slice end = length-map-range_with_len (column_of slice) 0 end

-- one more column
pub columns_push : (slice end : ℕ) → columns_up_to slice (end + 1) ≡ columns_up_to slice end ++ (slice, end) ∷ []
unfolding columns_up_to
columns_push slice end = map-range_with_len_more (column_of slice) 0 end end (omega arith)

-- the columns of a slice that a find may read are columns that it may read
pub columns_of_token : (layout : LayoutId) (pool : PoolId) (token : Token) (at end : ℕ) → IsLayoutOfPool layout pool → columns_of_slice layout.config ≡ end → Contains token.slices at →
    AreOfToken pool.limits.columns token (columns_up_to at end)
columns_of_token layout pool token at end laid columns_are may_read candidate has =
    let columns : pool.limits.columns ≡ end = ap (λ (l : Limits). l.columns) laid.limits ∙ columns_are in
    let all = count at end in
    let below : has.0 < end = omega (arith, has.1) in
    let is : (at, has.0) ≡ candidate = sym (column_at at end has.0 candidate below) ∙ has.2 in
    let column : has.0 ≡ candidate.1 = ap (λ (p : ℕ × ℕ). p.1) is in
    record { slice = subst (λ (s : ℕ). Contains token.slices s) (ap (λ (p : ℕ × ℕ). p.0) is) may_read; column = omega arith }

-- the others are still entries that were there
pub left : (before after : List FindLayout) (found : Option FindLayout) (entry : FindLayout) → before ≡ after ++ option_to_list found → Contains after entry → Contains before entry
left before after found entry was has = subst (λ (xs : List FindLayout). Contains xs entry) (sym was) (Contains-append_left after (option_to_list found) entry has)

-- an entry that was taken out was there
pub popped : (before after : List FindLayout) (found : Option FindLayout) (entry : FindLayout) → before ≡ after ++ option_to_list found → found ≡ Some entry → Contains before entry
popped before after found entry was is =
    subst (λ (xs : List FindLayout). Contains xs entry) (sym (was ∙ ap (λ (o : Option FindLayout). after ++ option_to_list o) is)) (Contains-push after entry)
