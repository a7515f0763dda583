-- A history for the tests: pass 1 clears a slice while pass 0 reads the other one.
use Rattle.std.specs.Prelude.{◌≡◌, ℕ, ◌+◌, zero, suc, List, [], ◌∷◌, ◌++◌}
use Rattle.funnel_model.specs.declared.bit_list.Bit.{Bit}
use Rattle.funnel_model.specs.declared.event.Event.{Event}
use Rattle.funnel_model.specs.declared.event.Event.TheVariants as event
use Rattle.funnel_model.specs.Legal.{Limits}
use Rattle.pool_tests.specs.Sizes.{sizes_of}
use Rattle.slice_rule.specs.Pools.{PoolId}
use Rattle.slice_rule.specs.Seats.{HasNoneOutstanding, HomeState, PassState}

-- two slices of one word
abbrev pub small : Limits
small = sizes_of 2 1

-- the one bit of the second document
abbrev pub tested_bit : Bit
tested_bit = record { word = 1; bit = 5 }

-- pass 1 adds document 4 in the first column of slice 0, and drops one of the same number in each of so many columns after it
unfoldable pub drops : ℕ → List Event
drops zero = event.Take 1 0 0 ∷ event.Add 1 4 [] 0 0 [] ∷ []
drops (suc k) = (drops k ++ event.Take 1 0 (k + 1) ∷ []) ++ event.Drop 1 4 [] 0 (k + 1) ∷ []

-- it adds document 5 in slice 1, deletes document 4, and clears slice 0, which retired by that
abbrev pub taken : List Event
taken = drops 63 ++ event.Take 1 1 0 ∷ []

abbrev pub added : List Event
added = taken ++ event.Add 1 5 [] 1 0 (tested_bit ∷ []) ∷ []

abbrev pub deleted : List Event
deleted = added ++ event.Del 1 4 ∷ []

abbrev pub clearing : List Event
clearing = deleted ++ event.Clear 1 0 ∷ []

-- pass 0 begins a find, which may read slice 1, and ends it
abbrev pub finding : List Event
finding = clearing ++ event.Find 0 [] ∷ []

abbrev pub ended : List Event
ended = finding ++ event.End 0 ∷ []

-- the home and the pass after the history, which the pass has seen whole
pub record AreAt (pool : PoolId) (pass : ℕ) (events : List Event) (home : HomeState) (seat : PassState) : Type 0 where
  pub sizes : pool.limits ≡ small
  pub home_pool : home.pool ≡ pool
  pub history : home.history ≡ events
  pub seat_pool : seat.pool ≡ pool
  pub number : seat.number ≡ pass
  pub front : seat.front ≡ events
  pub none_outstanding : HasNoneOutstanding seat
