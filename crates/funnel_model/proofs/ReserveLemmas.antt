-- How many columns of an engine are spare and ready, and that it is full where none is ready.
use Rattle.std.proofs.Common.{◌≡◌, ℕ, zero, suc, ◌+◌, ◌<◌, ◌≤◌, ⊎_elim, Bool, true, false, cond, not, List, [], ◌∷◌, length, map, slice_index, sym, refl, ap, ◌∙◌, subst, arith, inl, inr}
use Rattle.std.proofs.lemmas.Bool.{both_ways, cases_lt, cases_order, true_from_ne_false}
use Rattle.std.proofs.lemmas.List.FromFn.{get_or-map-range_with_len, length-map-range_with_len}
use Rattle.std.proofs.lemmas.List.Sums.{sum_by-cons}
use Rattle.std.specs.List.{count_by, range_with_len, sum}
use Rattle.std.specs.Prelude.{◌⊎◌, ◌↔◌}
use Rattle.funnel_model.specs.declared.event.Event.{Event}
use Rattle.funnel_model.specs.Blocks.{IsHeld}
use Rattle.funnel_model.specs.History.{Document}
use Rattle.funnel_model.specs.Legal.{Limits, CanClear, IsBlocked, IsFull, IsLegal}
use Rattle.funnel_model.specs.Reserve.{CanBeEmptied, HoldsColumns, HasReadyColumns, HasReadyIn, IsSource, HasSpareColumns, HasSpareIn, IsTotal, unclaimed_in}
use Rattle.funnel_model.specs.Slices.{ColumnState, Deleted, Dropped, Live, Pending, Unclaimed, IsFilled, IsInState, IsInUse, IsRetired, is_claimed, is_clearing}
use Rattle.funnel_model.specs.Tokens.{IsGuarded}
use Rattle.funnel_model.proofs.ColumnStates.{state_of}
use Rattle.funnel_model.proofs.ColumnsKept.{kept}
use Rattle.funnel_model.proofs.Blocks.{least_below}
use Rattle.funnel_model.proofs.NumberLemmas.{one_count, retired_cases}
use Rattle.funnel_model.proofs.Progress.{guarded_cases, unclaimed_cases}
use Rattle.funnel_model.proofs.Ranges.{counted_more, none_counted}

last_fails : (m : ℕ) (b : Bool) → m + cond b 1 0 ≡ 0 → (m ≡ 0) × (b ≡ false)
last_fails m true is = absurd (omega arith)
last_fails m false is = (omega arith, refl)

-- and only there
none_by_count : (p : ℕ → Bool) (n : ℕ) → count_by p (range_with_len 0 n) ≡ 0 → (k : ℕ) → k < n → p k ≡ false
none_by_count p zero none k below = absurd (omega arith)
none_by_count p (suc n) none k below =
    let parts = last_fails (count_by p (range_with_len 0 n)) (p n) (sym (counted_more p n) ∙ none) in
    ⊎_elim
    (λ less. none_by_count p n parts.0 k less)
    (λ high. let same : n ≡ k = omega arith in subst (λ j. p j ≡ false) same parts.1)
    (cases_lt k n)

-- a filled slice has no unclaimed column, and one without an unclaimed column is filled
filled_has_none : (columns slice : ℕ) (history : List Event) → IsFilled columns slice history → unclaimed_in columns slice history ≡ 0
filled_has_none columns slice history filled =
    none_counted (λ column. not (is_claimed slice column history)) columns (λ column below. ap not (filled column below))

none_is_filled : (columns slice : ℕ) (history : List Event) → unclaimed_in columns slice history ≡ 0 → IsFilled columns slice history
none_is_filled columns slice history none column below =
    claimed' (is_claimed slice column history) (none_by_count (λ c. not (is_claimed slice c history)) columns none column below) where
      claimed' : (b : Bool) → not b ≡ false → b ≡ true
      claimed' true is = refl
      claimed' false is = cc

-- the sum of a number and more
sum-cons : (x : ℕ) (xs : List ℕ) → sum (x ∷ xs) ≡ x + sum xs
sum-cons x xs = sum_by-cons (λ (n : ℕ). n) x xs

-- lists of numbers that agree have one sum
sums_agree : (xs ys : List ℕ) → length xs ≡ length ys → ((k : ℕ) → k < length xs → slice_index xs k ≡ slice_index ys k) → sum xs ≡ sum ys
sums_agree [] [] count same = refl
sums_agree [] (y ∷ ys) count same = absurd (omega arith)
sums_agree (x ∷ xs) [] count same = absurd (omega arith)
sums_agree (x ∷ xs) (y ∷ ys) count same =
    let first : x ≡ y = same 0 (omega arith) in
    let rest = sums_agree xs ys (omega arith) (λ k below. same (suc k) (omega arith)) in
    omega (arith, sum-cons x xs, sum-cons y ys)

-- a sum is 0 exactly where each number is
zero_sum : (xs : List ℕ) → ((k : ℕ) → k < length xs → slice_index xs k ≡ 0) → sum xs ≡ 0
zero_sum [] zeros = refl
zero_sum (x ∷ xs) zeros =
    let first : x ≡ 0 = zeros 0 (omega arith) in
    let rest = zero_sum xs (λ k below. zeros (suc k) (omega arith)) in
    omega (arith, sum-cons x xs)

sum_zero : (xs : List ℕ) → sum xs ≡ 0 → (k : ℕ) → k < length xs → slice_index xs k ≡ 0
sum_zero [] none k below = absurd (omega arith)
sum_zero (x ∷ xs) none zero below = omega (arith, sum-cons x xs)
sum_zero (x ∷ xs) none (suc k) below = sum_zero xs (omega (arith, sum-cons x xs)) k (omega arith)

-- where each slice has a number there is a total, and where each has one alone the total is one
some_total : (P : ℕ → ℕ → Type 0) → ((slice : ℕ) → (n : ℕ) × P slice n) → (slices : ℕ) → (n : ℕ) × IsTotal slices P n
some_total P some slices =
    let number = λ (slice : ℕ). (some slice).0 in
    let numbers = map number (range_with_len 0 slices) in (
      sum numbers,
      record {
        numbers = numbers;
        count = length-map-range_with_len number 0 slices;
        each = λ slice below. subst (P slice) (sym (get_or-map-range_with_len number 0 slices slice slice 0 below (omega arith))) (some slice).1;
        adds_up = refl;
      },
    )

one_total : (P : ℕ → ℕ → Type 0) → ((slice m n : ℕ) → P slice m → P slice n → m ≡ n) → (slices m n : ℕ) → IsTotal slices P m → IsTotal slices P n → m ≡ n
one_total P one slices m n is also =
    is.adds_up ∙ sums_agree is.numbers also.numbers (is.count ∙ sym also.count)
    (λ slice below.
    let within : slice < slices = subst (λ k. slice < k) is.count below in
    one slice (slice_index is.numbers slice) (slice_index also.numbers slice) (is.each slice within) (also.each slice within))
    ∙ sym also.adds_up

-- in a legal history a slice is in use, or retired, or being cleared
use_cases : (limits : Limits) (history : List Event) → IsLegal limits history → (slice : ℕ) →
    IsInUse limits.columns slice history ⊎ (IsRetired limits.columns slice history ⊎ (is_clearing slice history ≡ true))
use_cases limits history legal slice =
    ⊎_elim
    (λ retired. inr (inl retired))
    (λ not_retired. by_clearing (is_clearing slice history) refl not_retired)
    (retired_cases limits history legal slice) where
      by_clearing : (b : Bool) → is_clearing slice history ≡ b → (IsRetired limits.columns slice history → ⊥) →
          IsInUse limits.columns slice history ⊎ (IsRetired limits.columns slice history ⊎ (is_clearing slice history ≡ true))
      by_clearing true clearing not_retired = inr (inr clearing)
      by_clearing false open' not_retired = inl (record { not_retired = not_retired; not_clearing = open' })

-- and not two of these
not_in_use : (columns slice : ℕ) (history : List Event) → IsInUse columns slice history →
    IsRetired columns slice history ⊎ (is_clearing slice history ≡ true) → ⊥
not_in_use columns slice history in_use gone =
    ⊎_elim (λ retired. in_use.not_retired retired) (λ clearing. both_ways (is_clearing slice history) in_use.not_clearing clearing) gone

-- so each slice has one number of spare columns
some_spare_in : (limits : Limits) (history : List Event) → IsLegal limits history → (slice : ℕ) → (n : ℕ) × HasSpareIn limits.columns history slice n
some_spare_in limits history legal slice =
    ⊎_elim
    (λ in_use. (unclaimed_in limits.columns slice history, inl (in_use, refl)))
    (λ gone. (limits.columns, inr (gone, refl)))
    (use_cases limits history legal slice)

pub one_spare_in : (columns : ℕ) (history : List Event) (slice m n : ℕ) → HasSpareIn columns history slice m → HasSpareIn columns history slice n → m ≡ n
one_spare_in columns history slice m n is also =
    ⊎_elim
    (λ here. ⊎_elim (λ there. here.1 ∙ sym there.1) (λ gone. absurd (not_in_use columns slice history here.0 gone.0)) also)
    (λ gone. ⊎_elim (λ there. absurd (not_in_use columns slice history there.0 gone.0)) (λ too. gone.1 ∙ sym too.1) also)
    is

-- and one of ready ones
some_ready_in : (limits : Limits) (history : List Event) → IsLegal limits history → (slice : ℕ) → (n : ℕ) × HasReadyIn limits.columns history slice n
some_ready_in limits history legal slice =
    ⊎_elim
    (λ in_use. (unclaimed_in limits.columns slice history, inl (in_use, refl)))
    (λ gone. ⊎_elim
    (λ retired. ⊎_elim
    (λ guarded. (0, inr (inr (inl guarded, refl))))
    (λ unguarded. (limits.columns, inr (inl (record { retired = retired; unguarded = unguarded }, refl))))
    (guarded_cases limits history legal slice))
    (λ clearing. (0, inr (inr (inr clearing, refl))))
    gone)
    (use_cases limits history legal slice)

-- a slice that is guarded or being cleared isn't in use, and can't be cleared
not_ready : (columns slice : ℕ) (history : List Event) → IsGuarded columns history slice ⊎ (is_clearing slice history ≡ true) →
    (IsInUse columns slice history → ⊥) × (CanClear columns history slice → ⊥)
not_ready columns slice history gone = (
  λ in_use. ⊎_elim (λ guarded. in_use.not_retired guarded.2.retired) (λ clearing. both_ways (is_clearing slice history) in_use.not_clearing clearing) gone,
  λ can. ⊎_elim (λ guarded. can.unguarded guarded) (λ clearing. both_ways (is_clearing slice history) can.retired.not_clearing clearing) gone,
)

pub one_ready_in : (columns : ℕ) (history : List Event) (slice m n : ℕ) → HasReadyIn columns history slice m → HasReadyIn columns history slice n → m ≡ n
one_ready_in columns history slice m n is also =
    ⊎_elim
    (λ used. ⊎_elim
    (λ too. used.1 ∙ sym too.1)
    (λ rest. ⊎_elim (λ can. absurd (used.0.not_retired can.0.retired)) (λ gone. absurd ((not_ready columns slice history gone.0).0 used.0)) rest)
    also)
    (λ other. ⊎_elim
    (λ can. ⊎_elim
    (λ used. absurd (used.0.not_retired can.0.retired))
    (λ rest. ⊎_elim (λ too. can.1 ∙ sym too.1) (λ gone. absurd ((not_ready columns slice history gone.0).1 can.0)) rest)
    also)
    (λ gone. ⊎_elim
    (λ used. absurd ((not_ready columns slice history gone.0).0 used.0))
    (λ rest. ⊎_elim (λ can. absurd ((not_ready columns slice history gone.0).1 can.0)) (λ too. gone.1 ∙ sym too.1) rest)
    also)
    other)
    is

-- an engine has one number of spare columns, and one of ready ones
pub some_spare : (limits : Limits) (history : List Event) → IsLegal limits history → (n : ℕ) × HasSpareColumns limits history n
some_spare limits history legal = some_total (HasSpareIn limits.columns history) (some_spare_in limits history legal) limits.slices

pub one_spare : (limits : Limits) (history : List Event) (m n : ℕ) → HasSpareColumns limits history m → HasSpareColumns limits history n → m ≡ n
one_spare limits history m n is also = one_total (HasSpareIn limits.columns history) (one_spare_in limits.columns history) limits.slices m n is also

pub some_ready : (limits : Limits) (history : List Event) → IsLegal limits history → (n : ℕ) × HasReadyColumns limits history n
some_ready limits history legal = some_total (HasReadyIn limits.columns history) (some_ready_in limits history legal) limits.slices

pub one_ready : (limits : Limits) (history : List Event) (m n : ℕ) → HasReadyColumns limits history m → HasReadyColumns limits history n → m ≡ n
one_ready limits history m n is also = one_total (HasReadyIn limits.columns history) (one_ready_in limits.columns history) limits.slices m n is also

-- a blocked slice has no ready column
blocked_has_none : (limits : Limits) (history : List Event) (slice n : ℕ) → IsBlocked limits.columns history slice → HasReadyIn limits.columns history slice n → n ≡ 0
blocked_has_none limits history slice n blocked is =
    ⊎_elim
    (λ used. ⊎_elim
    (λ filled. used.1 ∙ filled_has_none limits.columns slice history filled.0)
    (λ gone. absurd (not_in_use limits.columns slice history used.0 (⊎_elim (λ guarded. inl guarded.0) (λ clearing. inr clearing) gone)))
    blocked)
    (λ other. ⊎_elim
    (λ can. ⊎_elim
    (λ filled. absurd (filled.1 can.0.retired))
    (λ gone. absurd ((not_ready limits.columns slice history (⊎_elim (λ guarded. inl guarded.1) (λ clearing. inr clearing) gone)).1 can.0))
    blocked)
    (λ gone. gone.1)
    other)
    is

-- and one without a ready column is blocked
none_is_blocked : (limits : Limits) (history : List Event) (slice : ℕ) → 0 < limits.columns → HasReadyIn limits.columns history slice 0 →
    IsBlocked limits.columns history slice
none_is_blocked limits history slice some is =
    ⊎_elim
    (λ used. inl (none_is_filled limits.columns slice history (sym used.1), used.0.not_retired))
    (λ other. ⊎_elim
    (λ can. let none = can.1 in absurd (omega arith))
    (λ gone. ⊎_elim (λ guarded. inr (inl (guarded.2.retired, guarded))) (λ clearing. inr (inr clearing)) gone.0)
    other)
    is

-- an engine is full exactly where no column is ready
pub full_where_none_ready : (limits : Limits) (history : List Event) → IsLegal limits history → 0 < limits.columns →
    IsFull limits history ↔ HasReadyColumns limits history 0
full_where_none_ready limits history legal some = (
  λ full.
      let total = some_ready limits history legal in
      let none : total.0 ≡ 0 = total.1.adds_up ∙ zero_sum total.1.numbers (λ slice below.
      let within : slice < limits.slices = subst (λ k. slice < k) total.1.count below in
      blocked_has_none limits history slice (slice_index total.1.numbers slice) (full slice within) (total.1.each slice within)) in
      subst (HasReadyColumns limits history) none total.1,
  λ ready slice within.
      none_is_blocked limits history slice some
      (subst (HasReadyIn limits.columns history slice)
      (sum_zero ready.numbers (sym ready.adds_up) slice (subst (λ k. slice < k) (sym ready.count) within)) (ready.each slice within)),
)

-- the slice out of which documents are moved next is one
pub one_source : (limits : Limits) (history : List Event) (slice other held also : ℕ) → IsSource limits history slice held → IsSource limits history other also →
    slice ≡ other
one_source limits history slice other held also is is_too =
    let below = is.fewest other also is_too.in_range is_too.can in
    let above = is_too.fewest slice held is.in_range is.can in
    ⊎_elim
    (λ same. same)
    (λ order. ⊎_elim
    (λ less. let fewer = is_too.lowest slice held less is.can in absurd (omega arith))
    (λ more. let fewer = is.lowest other also more is_too.can in absurd (omega arith))
    order)
    (cases_order slice other)

-- a slice out of which documents may be moved holds one
pub emptied_holds : (columns : ℕ) (history : List Event) (slice held : ℕ) → CanBeEmptied columns history slice held → 1 ≤ held
emptied_holds columns history slice held can =
    let live_one = can.live in
    let holds = can.holds in
    let passes = (holds.tells live_one.0 live_one.3).1 (Live live_one.1 live_one.2, live_one.4, tt) in
    let count = holds.count in
    ⊎_elim
    (λ (none : held < 1). absurd (both_ways (holds.test live_one.0)
    (none_by_count holds.test columns (omega arith) live_one.0 live_one.3) passes))
    (λ (some : 1 ≤ held). some)
    (cases_lt held 1)

-- a slice holds one number of columns
pub one_held_count : (columns : ℕ) (history : List Event) (slice m n : ℕ) → HoldsColumns columns history slice m → HoldsColumns columns history slice n → m ≡ n
one_held_count columns history slice m n =
    one_count columns (λ column. (state : ColumnState) × IsInState history slice column state × IsHeld state) m n

-- so the slice out of which documents are moved next has one number of held columns
pub one_source_held : (limits : Limits) (history : List Event) (slice other held also : ℕ) → IsSource limits history slice held →
    IsSource limits history other also → held ≡ also
one_source_held limits history slice other held also is is_too =
    let same = one_source limits history slice other held also is is_too in
    one_held_count limits.columns history slice held also is.can.holds (subst (λ s. HoldsColumns limits.columns history s also) (sym same) is_too.can.holds)

-- whether a state is held
abbrev pub is_held_state : ColumnState → Bool
is_held_state (Live document since) = true
is_held_state (Pending pass) = true
is_held_state _ = false

held_by_test : (x : ColumnState) → is_held_state x ≡ true → IsHeld x
held_by_test (Live document since) is = tt
held_by_test (Pending pass) is = tt
held_by_test Unclaimed is = cc
held_by_test Dropped is = cc
held_by_test (Deleted document since until) is = cc

test_by_held : (x : ColumnState) → IsHeld x → is_held_state x ≡ true
test_by_held (Live document since) is = refl
test_by_held (Pending pass) is = refl
test_by_held Unclaimed is = absurd is
test_by_held Dropped is = absurd is
test_by_held (Deleted document since until) is = absurd is

-- the number of columns whose state, by their events, is held
abbrev pub held_in : ℕ → ℕ → List Event → ℕ
held_in columns slice history = count_by (λ column. is_held_state (state_of slice column history)) (range_with_len 0 columns)

-- in a legal history so many are held
pub holds_by_states : (limits : Limits) (history : List Event) (slice : ℕ) → IsLegal limits history →
    HoldsColumns limits.columns history slice (held_in limits.columns slice history)
holds_by_states limits history slice legal =
    let all = kept limits history legal in
    record {
      test = λ column. is_held_state (state_of slice column history);
      tells = λ column in'. (
        λ is. (state_of slice column history, all.holds slice column, held_by_test (state_of slice column history) is),
        λ held. test_by_held (state_of slice column history) (subst IsHeld (all.only slice column held.0 held.1) held.2),
      );
      count = refl;
    }

-- so documents may be moved out of a filled slice where the state of one column is live and fewer are held than there are
pub emptied_by_states : (limits : Limits) (history : List Event) (slice column : ℕ) (document : Document) (since : ℕ) → IsLegal limits history →
    IsFilled limits.columns slice history → column < limits.columns → state_of slice column history ≡ Live document since →
    held_in limits.columns slice history < limits.columns → CanBeEmptied limits.columns history slice (held_in limits.columns slice history)
emptied_by_states limits history slice column document since legal filled in' live few = record {
  filled = filled;
  live = (column, document, since, in', subst (IsInState history slice column) live ((kept limits history legal).holds slice column));
  holds = holds_by_states limits history slice legal;
  fewer = few;
}

-- each slice has a number of held columns
pub some_held_count : (limits : Limits) (history : List Event) (slice : ℕ) → IsLegal limits history → (n : ℕ) × HoldsColumns limits.columns history slice n
some_held_count limits history slice legal = (held_in limits.columns slice history, holds_by_states limits history slice legal)

-- a state is live or not
live_cases : (x : ColumnState) → ((d : Document) × (since : ℕ) × (x ≡ Live d since)) ⊎ ((d : Document) (since : ℕ) → x ≡ Live d since → ⊥)
live_cases (Live d since) = inl (d, since, refl)
live_cases Unclaimed = inr (λ d since is. cc)
live_cases (Pending pass) = inr (λ d since is. cc)
live_cases Dropped = inr (λ d since is. cc)
live_cases (Deleted e at until) = inr (λ d since is. cc)

-- a column is live
abbrev IsLive : List Event → ℕ → ℕ → Type 0
IsLive history slice column = (d : Document) × (since : ℕ) × IsInState history slice column (Live d since)

live_or_not : (limits : Limits) (history : List Event) → IsLegal limits history → (slice column : ℕ) → IsLive history slice column ⊎ (IsLive history slice column → ⊥)
live_or_not limits history legal slice column =
    let all = kept limits history legal in
    ⊎_elim
    (λ is. inl (is.0, is.1, subst (IsInState history slice column) is.2 (all.holds slice column)))
    (λ is_not. inr (λ other. is_not other.0 other.1 (sym (all.only slice column (Live other.0 other.1) other.2))))
    (live_cases (state_of slice column history))

-- in a legal history documents may be moved out of a slice or not
emptied_cases : (limits : Limits) (history : List Event) → IsLegal limits history → (slice : ℕ) →
    ((held : ℕ) × CanBeEmptied limits.columns history slice held) ⊎ ((held : ℕ) → CanBeEmptied limits.columns history slice held → ⊥)
emptied_cases limits history legal slice =
    let holds = some_held_count limits history slice legal in
    ⊎_elim
    (λ room. inr (λ held can. both_ways (is_claimed slice room.0 history) room.2 (can.filled room.0 room.1)))
    (λ full. ⊎_elim
    (λ live_one. ⊎_elim
    (λ (few : holds.0 < limits.columns). inl (
      holds.0,
      record {
        filled = λ column in'. true_from_ne_false (is_claimed slice column history) (λ free. full (column, in', free));
        live = (live_one.0, live_one.2.0, live_one.2.1, live_one.1, live_one.2.2);
        holds = holds.1;
        fewer = few;
      },
    ))
    (λ (many : limits.columns ≤ holds.0). inr (λ held can.
    let same = one_held_count limits.columns history slice held holds.0 can.holds holds.1 in
    let fewer = can.fewer in
    absurd (omega (arith, same))))
    (cases_lt holds.0 limits.columns))
    (λ none. inr (λ held can. none can.live.0 can.live.3 (can.live.1, can.live.2, can.live.4)))
    (least_below (IsLive history slice) (live_or_not limits history legal slice) limits.columns))
    (unclaimed_cases limits history legal slice)

-- of the slices below a number one is the source, or documents may be moved out of none of them
source_below : (limits : Limits) (history : List Event) → IsLegal limits history → (n : ℕ) →
    ((slice : ℕ) × (held : ℕ) × IsSource (record limits { slices = n }) history slice held)
    ⊎ ((slice held : ℕ) → slice < n → CanBeEmptied limits.columns history slice held → ⊥)
source_below limits history legal zero = inr (λ slice held below can. absurd (omega arith))
source_below limits history legal (suc n) =
    ⊎_elim
    (λ best. ⊎_elim
    (λ last. by_count best.0 best.1 best.2 last.0 last.1)
    (λ no_last. inl (best.0, best.1, keep best.0 best.1 best.2 (λ number can. absurd (no_last number can))))
    (emptied_cases limits history legal n))
    (λ none. ⊎_elim
    (λ last. inl (
      n,
      last.0,
      record {
        in_range = omega arith;
        can = last.1;
        fewest = λ other number in' can. ⊎_elim
            (λ (less : other < n). absurd (none other number less can))
            (λ (high : n ≤ other).
            let same : other ≡ n = omega arith in
            let one = one_held_count limits.columns history n last.0 number last.1.holds (subst (λ s. CanBeEmptied limits.columns history s number) same can).holds in
            omega arith)
            (cases_lt other n);
        lowest = λ lower number below can. absurd (none lower number below can);
      },
    ))
    (λ no_last. inr (λ slice held below can. ⊎_elim
    (λ (less : slice < n). none slice held less can)
    (λ (high : n ≤ slice).
    let same : slice ≡ n = omega arith in
    no_last held (subst (λ s. CanBeEmptied limits.columns history s held) same can))
    (cases_lt slice n)))
    (emptied_cases limits history legal n))
    (source_below limits history legal n) where
      keep : (slice held : ℕ) → IsSource (record limits { slices = n }) history slice held →
          ((number : ℕ) → CanBeEmptied limits.columns history n number → held ≤ number) → IsSource (record limits { slices = suc n }) history slice held
      keep slice held best few =
          let in' = best.in_range in
          record {
            in_range = omega arith;
            can = best.can;
            fewest = λ other number below can. ⊎_elim
                (λ (less : other < n). best.fewest other number less can)
                (λ (high : n ≤ other).
                let same : other ≡ n = omega arith in
                few number (subst (λ s. CanBeEmptied limits.columns history s number) same can))
                (cases_lt other n);
            lowest = best.lowest;
          }

      by_count : (slice held : ℕ) → IsSource (record limits { slices = n }) history slice held → (last : ℕ) → CanBeEmptied limits.columns history n last →
          ((s : ℕ) × (h : ℕ) × IsSource (record limits { slices = suc n }) history s h)
          ⊎ ((s h : ℕ) → s < suc n → CanBeEmptied limits.columns history s h → ⊥)
      by_count slice held best last can_last =
          let only : (number : ℕ) → CanBeEmptied limits.columns history n number → last ≡ number =
          λ number can. one_held_count limits.columns history n last number can_last.holds can.holds in
          ⊎_elim
          (λ (fewer : last < held). inl (
            n,
            last,
            record {
              in_range = omega arith;
              can = can_last;
              fewest = λ other number below can. ⊎_elim
                  (λ (less : other < n). let more = best.fewest other number less can in omega arith)
                  (λ (high : n ≤ other).
                  let same : other ≡ n = omega arith in
                  let one = only number (subst (λ s. CanBeEmptied limits.columns history s number) same can) in
                  omega arith)
                  (cases_lt other n);
              lowest = λ lower number below can. let more = best.fewest lower number below can in omega arith;
            },
          ))
          (λ (more : held ≤ last). inl (slice, held, keep slice held best (λ number can. let one = only number can in omega arith)))
          (cases_lt last held)

-- in a legal history one slice is the source, or documents may be moved out of none
pub some_source : (limits : Limits) (history : List Event) → IsLegal limits history →
    ((slice : ℕ) × (held : ℕ) × IsSource limits history slice held)
    ⊎ ((slice held : ℕ) → slice < limits.slices → CanBeEmptied limits.columns history slice held → ⊥)
some_source limits history legal = source_below limits history legal limits.slices
