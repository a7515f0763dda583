-- An idle pass can begin any call: what may follow a legal history.
use Rattle.std.proofs.Common.{◌≡◌, ℕ, ◌<◌, ◌≤◌, ⊎_elim, Bool, true, false, List, length, None, Some, refl, subst, sym, arith, inl, inr}
use Rattle.std.proofs.lemmas.Bool.{both_ways, cases_lt, true_from_ne_false}
use Rattle.std.specs.List.{All}
use Rattle.std.specs.Option.{IfSome}
use Rattle.std.specs.Prelude.{◌⊎◌}
use Rattle.funnel_model.specs.declared.bit_list.Bit.{Bit}
use Rattle.funnel_model.specs.declared.call.Call.TheVariants as call
use Rattle.funnel_model.specs.declared.event.Event.{Event}
use Rattle.funnel_model.specs.declared.event.Event.TheVariants as event
use Rattle.funnel_model.specs.Events.{pass_of}
use Rattle.funnel_model.specs.History.{is_live, last_by}
use Rattle.funnel_model.specs.Legal.{Limits, IsBlocked, CanClear, HasRoom, IsAllowed, IsFull, IsIdle, IsInSlice, IsLegal, MayFollow, NoneCanClear, awaited}
use Rattle.funnel_model.specs.Slices.{HasUnclaimed, claimed, is_claimed, is_clearing}
use Rattle.funnel_model.specs.Tokens.{Guards, IsGuarded}
use Rattle.funnel_model.proofs.Blocks.{guards_or_not, least_below}
use Rattle.funnel_model.proofs.Claims.{claimed_by_count, unclaimed_by_count}
use Rattle.funnel_model.proofs.Histories.{allowed_within}
use Rattle.funnel_model.proofs.NumberLemmas.{retired_cases}
use Rattle.funnel_model.proofs.Retirement.{retired_at_some}

-- a column of the slice is unclaimed or all are claimed
pub unclaimed_cases : (limits : Limits) (history : List Event) → IsLegal limits history → (slice : ℕ) →
    HasUnclaimed limits.columns slice history ⊎ (HasUnclaimed limits.columns slice history → ⊥)
unclaimed_cases limits history legal slice =
    let n = length (claimed slice history) in
    ⊎_elim
    (λ less. inl (n, less, unclaimed_by_count limits slice n history legal (omega arith)))
    (λ full. inr (λ left.
    let column = left.0 in
    let in' : column < limits.columns = left.1 in
    both_ways (is_claimed slice column history) left.2 (claimed_by_count limits slice column history legal (omega arith))))
    (cases_lt n limits.columns)

-- a slice has room or not
room_cases : (limits : Limits) (history : List Event) → IsLegal limits history → (slice : ℕ) →
    HasRoom limits.columns history slice ⊎ (HasRoom limits.columns history slice → ⊥)
room_cases limits history legal slice = by_clearing (is_clearing slice history) refl where
  by_clearing : (b : Bool) → is_clearing slice history ≡ b → HasRoom limits.columns history slice ⊎ (HasRoom limits.columns history slice → ⊥)
  by_clearing true clearing = inr (λ room. both_ways (is_clearing slice history) room.in_use.not_clearing clearing)
  by_clearing false open' =
      ⊎_elim
      (λ retired. inr (λ room. room.in_use.not_retired retired))
      (λ not_retired. ⊎_elim
      (λ unclaimed. inl (record { in_use = record { not_retired = not_retired; not_clearing = open' }; unclaimed = unclaimed }))
      (λ filled. inr (λ room. filled room.unclaimed))
      (unclaimed_cases limits history legal slice))
      (retired_cases limits history legal slice)

-- the pass of an open token is one of the engine's
guard_in_range : (limits : Limits) (history : List Event) (slice pass number : ℕ) → IsLegal limits history → Guards limits.columns history slice pass number →
    pass < limits.passes
guard_in_range limits history slice pass number legal guards =
    let token = guards.token in
    (allowed_within limits history token.earlier (event.Find pass token.query) token.later legal token.whole).pass

-- a slice is guarded or not
pub guarded_cases : (limits : Limits) (history : List Event) → IsLegal limits history → (slice : ℕ) →
    IsGuarded limits.columns history slice ⊎ (IsGuarded limits.columns history slice → ⊥)
guarded_cases limits history legal slice =
    ⊎_elim
    (λ (some : 0 < limits.columns). ⊎_elim
    (λ retired.
    let at = retired_at_some limits history slice legal some retired.over in
    ⊎_elim
    (λ found. inl (found.0, found.2.0, found.2.1))
    (λ none. inr (λ guarded. none guarded.0 (guard_in_range limits history slice guarded.0 guarded.1 legal guarded.2) (guarded.1, guarded.2)))
    (least_below (λ pass. (number : ℕ) × Guards limits.columns history slice pass number)
    (guards_or_not limits.columns slice at.0 history retired at.1) limits.passes))
    (λ not_retired. inr (λ guarded. not_retired guarded.2.retired))
    (retired_cases limits history legal slice))
    (λ (none : limits.columns ≤ 0). inr (λ guarded. guarded.2.at_event.not_before (λ column in'. absurd (omega arith))))
    (cases_lt 0 limits.columns)

-- it can be cleared or not
clear_cases : (limits : Limits) (history : List Event) → IsLegal limits history → (slice : ℕ) →
    CanClear limits.columns history slice ⊎ (CanClear limits.columns history slice → ⊥)
clear_cases limits history legal slice =
    ⊎_elim
    (λ retired. ⊎_elim
    (λ guarded. inr (λ can. can.unguarded guarded))
    (λ unguarded. inl (record { retired = retired; unguarded = unguarded }))
    (guarded_cases limits history legal slice))
    (λ not_retired. inr (λ can. not_retired can.retired))
    (retired_cases limits history legal slice)

-- the slices have room in one, one can be cleared, or each retired one is guarded
clear_or_guarded : (limits : Limits) (history : List Event) → IsLegal limits history →
    ((slice : ℕ) × (slice < limits.slices) × CanClear limits.columns history slice × ((lower : ℕ) → lower < slice → CanClear limits.columns history lower → ⊥))
    ⊎ NoneCanClear limits history
clear_or_guarded limits history legal =
    ⊎_elim
    (λ found. inl found)
    (λ none. inr (λ slice in' retired.
    ⊎_elim
    (λ guarded. guarded)
    (λ unguarded. absurd (none slice in' (record { retired = retired; unguarded = unguarded })))
    (guarded_cases limits history legal slice)))
    (least_below (CanClear limits.columns history) (clear_cases limits history legal) limits.slices)

-- where no slice has room and none can be cleared the engine is full
full_by : (limits : Limits) (history : List Event) → IsLegal limits history → ((slice : ℕ) → slice < limits.slices → HasRoom limits.columns history slice → ⊥) →
    NoneCanClear limits history → IsFull limits history
full_by limits history legal no_room none_can slice in' = by_clearing (is_clearing slice history) refl where
  by_clearing : (b : Bool) → is_clearing slice history ≡ b → IsBlocked limits.columns history slice
  by_clearing true clearing = inr (inr clearing)
  by_clearing false open' =
      ⊎_elim
      (λ retired. inr (inl (retired, none_can slice in' retired)))
      (λ not_retired. inl (
        (λ column within. true_from_ne_false (is_claimed slice column history) (λ unclaimed.
            no_room slice in' (record {
              in_use = record { not_retired = not_retired; not_clearing = open' };
              unclaimed = (column, within, unclaimed);
            }))),
        not_retired,
      ))
      (retired_cases limits history legal slice)

-- an event of a pass of the engine is allowed by its rule where none is awaited
pub allowed_by : (limits : Limits) (history : List Event) (e : Event) → pass_of e < limits.passes → awaited history ≡ None → MayFollow limits history e → IsAllowed limits history e
allowed_by limits history e in' none rule = record { pass = in'; at_once = subst (λ o. IfSome o (λ next. e ≡ next)) (sym none) tt; rule = rule }

module _ (limits : Limits) (history : List Event) (pass : ℕ) (legal : IsLegal limits history) (in' : pass < limits.passes) (none : awaited history ≡ None) where
  -- an idle pass takes a column or clears a slice, or the engine is full
  takes_or_clears : IsIdle pass history →
      ((slice : ℕ) × (column : ℕ) × IsAllowed limits history (event.Take pass slice column))
      ⊎ ((slice : ℕ) × IsAllowed limits history (event.Clear pass slice))
      ⊎ IsFull limits history
  takes_or_clears idle =
      ⊎_elim
      (λ found. inl (
        found.0,
        length (claimed found.0 history),
        allowed_by limits history (event.Take pass found.0 (length (claimed found.0 history))) in' none
            (inl (record { idle = idle; in_range = found.1; room = found.2; lowest = found.3; next = refl })),
      ))
      (λ no_room. ⊎_elim
      (λ found. inr (inl (
        found.0,
        allowed_by limits history (event.Clear pass found.0) in' none (record { idle = idle; in_range = found.1; can_clear = found.2; lowest = found.3 }),
      )))
      (λ none_can. inr (inr (full_by limits history legal no_room none_can)))
      (clear_or_guarded limits history legal))
      (least_below (HasRoom limits.columns history) (room_cases limits history legal) limits.slices)

  -- so its add and its put take a column, clear a slice or are refused
  pub add_begins : (id : ℕ) (text : List ℕ) → IsIdle pass history →
      ((slice : ℕ) × (column : ℕ) × IsAllowed limits history (event.Take pass slice column))
      ⊎ ((slice : ℕ) × IsAllowed limits history (event.Clear pass slice))
      ⊎ IsAllowed limits history (event.No pass (call.Add id text))
  add_begins id text idle =
      ⊎_elim
      (λ takes. inl takes)
      (λ rest. ⊎_elim
      (λ clears. inr (inl clears))
      (λ full. inr (inr (allowed_by limits history (event.No pass (call.Add id text)) in' none (record { idle = idle; refused = inr full }))))
      rest)
      (takes_or_clears idle)

  pub put_begins : (id : ℕ) (text : List ℕ) → IsIdle pass history →
      ((slice : ℕ) × (column : ℕ) × IsAllowed limits history (event.Take pass slice column))
      ⊎ ((slice : ℕ) × IsAllowed limits history (event.Clear pass slice))
      ⊎ IsAllowed limits history (event.No pass (call.Put id text))
  put_begins id text idle =
      ⊎_elim
      (λ takes. inl takes)
      (λ rest. ⊎_elim
      (λ clears. inr (inl clears))
      (λ full. inr (inr (allowed_by limits history (event.No pass (call.Put id text)) in' none (record { idle = idle; refused = full }))))
      rest)
      (takes_or_clears idle)

  -- its delete commits or is refused
  pub delete_begins : (id : ℕ) → IsIdle pass history →
      IsAllowed limits history (event.Del pass id) ⊎ IsAllowed limits history (event.No pass (call.Delete id))
  delete_begins id idle = by_live (is_live id history) refl where
    by_live : (b : Bool) → is_live id history ≡ b → IsAllowed limits history (event.Del pass id) ⊎ IsAllowed limits history (event.No pass (call.Delete id))
    by_live false absent = inr (allowed_by limits history (event.No pass (call.Delete id)) in' none (record { idle = idle; refused = absent }))
    by_live true present = inl (allowed_by limits history (event.Del pass id) in' none (record { idle = idle; present = present }))

  -- its recycle clears a slice or is refused
  pub recycle_begins : IsIdle pass history →
      ((slice : ℕ) × IsAllowed limits history (event.Clear pass slice)) ⊎ IsAllowed limits history (event.No pass call.Recycle)
  recycle_begins idle =
      ⊎_elim
      (λ found. inl (
        found.0,
        allowed_by limits history (event.Clear pass found.0) in' none (record { idle = idle; in_range = found.1; can_clear = found.2; lowest = found.3 }),
      ))
      (λ none_can. inr (allowed_by limits history (event.No pass call.Recycle) in' none (record { idle = idle; refused = none_can })))
      (clear_or_guarded limits history legal)

  -- and a pass that took a column adds a document there
  pub take_ends : (slice column id : ℕ) (text : List ℕ) (bits : List Bit) → last_by pass history ≡ Some (event.Take pass slice column) →
      All (λ b. IsInSlice limits.slice_words slice b.word) bits → All (λ (b : Bit). b.bit < 64) bits →
      IsAllowed limits history (event.Add pass id text slice column bits)
  take_ends slice column id text bits taken inside in_word =
      allowed_by limits history (event.Add pass id text slice column bits) in' none (record { taken = taken; inside = inside; in_word = in_word })
