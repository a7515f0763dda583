-- What the proofs on the engine of two slices of one column share: when a slice of it is over, can be cleared and is guarded, takes and
-- recycles, and one bit in a slice.
use Rattle.std.proofs.Common.{◌≡◌, ℕ, ◌+◌, ◌<◌, Bool, true, false, cond, List, [], ◌∷◌, ◌++◌, length, None, refl, subst, arith, inl}
use Rattle.std.proofs.lemmas.Bool.{both_ways}
use Rattle.std.proofs.lemmas.List.Elements.{All-cons, All-nil}
use Rattle.std.specs.List.{All, list_any}
use Rattle.funnel_model.specs.Blocks.{IsLowestGuard}
use Rattle.funnel_model.specs.declared.bit_list.Bit.{Bit}
use Rattle.funnel_model.specs.declared.event.Event.{Event}
use Rattle.funnel_model.specs.declared.event.Event.TheVariants as event
use Rattle.funnel_model.specs.Events.{opens}
use Rattle.funnel_model.specs.Legal.{CanClear, GoesOn, HasRoom, IsAllowed, IsIdle, IsInSlice, IsLegal, awaited}
use Rattle.funnel_model.specs.RecycleExample.{paired}
use Rattle.funnel_model.specs.Slices.{AllOver, IsOver, IsRetired, IsRetiredAt, claimed, is_claimed, is_clearing}
use Rattle.funnel_model.specs.Steps.{IsLowestGuarded}
use Rattle.funnel_model.specs.Tokens.{Guards, IsGuarded}
use Rattle.funnel_model.proofs.Columns.{in_its_state, one_state}
use Rattle.funnel_model.proofs.ColumnStates.{state_of}
use Rattle.funnel_model.proofs.ExampleLemmas.{filled_has_no_room, one_slice, room_unclaimed}
use Rattle.funnel_model.proofs.Histories.{legal_before}
use Rattle.funnel_model.proofs.NextEvents.{awaited-push}
use Rattle.funnel_model.proofs.Progress.{allowed_by}
use Rattle.funnel_model.proofs.Spans.{last_by-own}
use Rattle.funnel_model.proofs.SpareLemmas.{finds_last, token_finds_last}

-- in a legal history a slice is over exactly where the state is that its column's events compute
pub one_over : (history : List Event) (slice : ℕ) → IsLegal paired history → IsOver (state_of slice 0 history) → AllOver 1 slice history
one_over history slice legal over = one_slice _ (state_of slice 0 history, in_its_state paired history slice 0 legal, over)

one_not_over : (history : List Event) (slice : ℕ) → IsLegal paired history → (IsOver (state_of slice 0 history) → ⊥) → AllOver 1 slice history → ⊥
one_not_over history slice legal not_over over =
    let here = over 0 (omega arith) in
    not_over (subst IsOver (one_state paired history slice 0 here.0 (state_of slice 0 history) legal here.1 (in_its_state paired history slice 0 legal)) here.2)

pub one_not_retired : (history : List Event) (slice : ℕ) → IsLegal paired history → (IsOver (state_of slice 0 history) → ⊥) → IsRetired 1 slice history → ⊥
one_not_retired history slice legal not_over retired = one_not_over history slice legal not_over retired.over

-- it retires by an event by which its column comes to be over
pub retires_by : (before : List Event) (e : Event) (later : List Event) (slice : ℕ) → IsLegal paired (before ++ e ∷ []) →
    (IsOver (state_of slice 0 before) → ⊥) → IsOver (state_of slice 0 (before ++ e ∷ [])) → list_any (opens slice) (e ∷ later) ≡ false →
    IsRetiredAt 1 slice (before ++ e ∷ later) (length before + 1)
retires_by before e later slice legal not_over over stays = record {
  earlier = before;
  event = e;
  later = later;
  whole = refl;
  count = refl;
  stays = stays;
  not_before = one_not_over before slice (legal_before paired before (e ∷ []) legal) not_over;
  over = one_over (before ++ e ∷ []) slice legal over;
}

-- nobody guards a slice where the last find of each pass ended
pub no_guard : (history : List Event) (slice : ℕ) → ((pass : ℕ) → finds_last pass history ≡ false) → IsGuarded 1 history slice → ⊥
no_guard history slice none guarded =
    both_ways (finds_last guarded.0 history) (none guarded.0) (token_finds_last history guarded.0 guarded.1 guarded.2.token)

-- a find that began and ended is not open, for one pass and for each of two
pub ended : (b : Bool) → cond b false (cond b true false) ≡ false
ended true = refl
ended false = refl

pub both_ended : (b c : Bool) → cond b false (cond b true (cond c false (cond c true false))) ≡ false
both_ended true c = refl
both_ended false true = refl
both_ended false false = refl

-- a slice that is over can be cleared then
pub can_clear : (history : List Event) (slice : ℕ) → IsLegal paired history → IsOver (state_of slice 0 history) → is_clearing slice history ≡ false →
    ((pass : ℕ) → finds_last pass history ≡ false) → CanClear 1 history slice
can_clear history slice legal over not_clearing none = record {
  retired = record { over = one_over history slice legal over; not_clearing = not_clearing };
  unguarded = no_guard history slice none;
}

-- where pass 0 has no open find, pass 1 is the lowest that guards what it guards
pub lowest_guard : (history : List Event) (slice number : ℕ) → finds_last 0 history ≡ false → Guards 1 history slice 1 number →
    IsLowestGuard 1 history slice 1 number
lowest_guard history slice number none guards = record {
  guards = guards;
  lowest = one_slice _ (λ other also. both_ways (finds_last 0 history) none (token_finds_last history 0 other also.token));
}

-- and slice 0 is the lowest that is guarded
pub lowest_guarded : (history : List Event) (number : ℕ) → finds_last 0 history ≡ false → Guards 1 history 0 1 number → IsLowestGuarded paired history 0 1
lowest_guarded history number none guards = record {
  in_range = omega arith;
  retired = guards.retired;
  lowest = λ lower in'. absurd (omega arith);
  number = number;
  guard = lowest_guard history 0 number none guards;
}

-- a slice has no room where its column is claimed
pub no_room : (history : List Event) (slice : ℕ) → is_claimed slice 0 history ≡ true → HasRoom 1 history slice → ⊥
no_room history slice taken = filled_has_no_room 1 slice history (one_slice _ taken)

-- an idle pass 0 may take the column of slice 0 where it is unclaimed, and that of slice 1 where that of slice 0 is claimed
pub takes_first : (history : List Event) → IsLegal paired history → awaited history ≡ None → IsIdle 0 history →
    is_claimed 0 0 history ≡ false → is_clearing 0 history ≡ false → 0 ≡ length (claimed 0 history) → IsAllowed paired history (event.Take 0 0 0)
takes_first history legal none idle free not_clearing next =
    allowed_by paired history (event.Take 0 0 0) (omega arith) none (inl (record {
      idle = idle;
      in_range = omega arith;
      room = room_unclaimed paired history 0 0 legal (omega arith) free not_clearing;
      lowest = λ lower in'. absurd (omega arith);
      next = next;
    }))

pub takes_second : (history : List Event) → IsLegal paired history → awaited history ≡ None → IsIdle 0 history → is_claimed 0 0 history ≡ true →
    is_claimed 1 0 history ≡ false → is_clearing 1 history ≡ false → 0 ≡ length (claimed 1 history) → IsAllowed paired history (event.Take 0 1 0)
takes_second history legal none idle taken free not_clearing next =
    allowed_by paired history (event.Take 0 1 0) (omega arith) none (inl (record {
      idle = idle;
      in_range = omega arith;
      room = room_unclaimed paired history 1 0 legal (omega arith) free not_clearing;
      lowest = one_slice _ (no_room history 0 taken);
      next = next;
    }))

-- and recycles the lowest slice that can be cleared
pub recycles : (history : List Event) (slice : ℕ) → awaited history ≡ None → IsIdle 0 history → slice < 2 → CanClear 1 history slice →
    ((lower : ℕ) → lower < slice → CanClear 1 history lower → ⊥) → GoesOn paired history (event.Clear 0 slice ∷ event.Opened 0 slice true ∷ [])
recycles history slice none idle in' can lowest =
    let clear = event.Clear 0 slice in (
      allowed_by paired history clear (omega arith) none (record { idle = idle; in_range = in'; can_clear = can; lowest = lowest }),
      (
        allowed_by paired (history ++ clear ∷ []) (event.Opened 0 slice true) (omega arith) (awaited-push history clear)
            (record { cleared = last_by-own 0 history clear refl }),
        tt,
      ),
    )

-- one bit in a slice
pub one_bit : (slice : ℕ) (b : Bit) → IsInSlice 4 slice b.word → All (λ (x : Bit). IsInSlice 4 slice x.word) (b ∷ [])
one_bit slice b in' = All-cons (λ (x : Bit). IsInSlice 4 slice x.word) b [] in' (All-nil (λ (x : Bit). IsInSlice 4 slice x.word))

pub one_narrow : (b : Bit) → b.bit < 64 → All (λ (x : Bit). x.bit < 64) (b ∷ [])
one_narrow b in' = All-cons (λ (x : Bit). x.bit < 64) b [] in' (All-nil (λ (x : Bit). x.bit < 64))
