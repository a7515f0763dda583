-- The history of two passes that write beside each other: what is allowed next, and what the find may read.
use Rattle.std.proofs.Common.{◌≡◌, ◌⊎◌, ◌↔◌, ⊎_elim, inl, inr, ℕ, ◌<◌, List, [], ◌∷◌, ◌++◌, refl, sym, ap, ◌∙◌, subst, arith}
use Rattle.std.specs.List.{Contains}
use Rattle.funnel_model.specs.declared.bit_list.Bit.{Bit}
use Rattle.slice_rule.specs.declared.view.Fact.{Fact}
use Rattle.slice_rule.specs.declared.view.Fact.TheVariants as fact
use Rattle.slice_rule.specs.Pools.{PoolId}
use Rattle.slice_rule.specs.Seats.{HoldsToken, PassState}
use Rattle.pool_tests.specs.Written.{KnowsJust}
use Rattle.funnel_model.specs.declared.event.Event.{Event}
use Rattle.funnel_model.specs.declared.event.Event.TheVariants as event
use Rattle.funnel_model.specs.Legal.{IsAllowed, IsLegal, Limits}
use Rattle.funnel_model.specs.Slices.{IsInUse, Live, Unclaimed}
use Rattle.funnel_model.proofs.Columns.{not_retired_by}

pub first_take : (limits : Limits) → 0 < limits.passes → 0 < limits.slices → 0 < limits.columns → IsAllowed limits [] (event.Take 0 0 0)
first_take limits passes slices columns = record {
  pass = passes;
  at_once = tt;
  rule = inl (record {
    idle = tt;
    in_range = slices;
    room = record {
      in_use = record { not_retired = not_retired_by limits [] 0 0 Unclaimed tt columns refl (λ over. over); not_clearing = refl };
      unclaimed = (0, columns, refl);
    };
    lowest = λ lower less room. absurd (omega arith);
    next = refl;
  });
}

pub second_take : (limits : Limits) → IsLegal limits (event.Take 0 0 0 ∷ []) → 1 < limits.passes → 0 < limits.slices → 1 < limits.columns → IsAllowed limits (event.Take 0 0 0 ∷ []) (event.Take 1 0 1)
second_take limits legal passes slices columns = record {
  pass = passes;
  at_once = tt;
  rule = inl (record {
    idle = tt;
    in_range = slices;
    room = record {
      in_use = record { not_retired = not_retired_by limits (event.Take 0 0 0 ∷ []) 0 1 Unclaimed legal columns refl (λ over. over); not_clearing = refl };
      unclaimed = (1, columns, refl);
    };
    lowest = λ lower less room. absurd (omega arith);
    next = refl;
  });
}

-- a pass that set just these bits has set each of them
pub set_just : (number : ℕ) (bits : List Bit) (own : List Fact) → KnowsJust number bits own → (b : Bit)
    → Contains bits b ↔ Contains own (fact.BitSet number b)
set_just number bits own has b = (
  λ in_bits. (has (fact.BitSet number b)).1 (inr (b, in_bits, refl)),
  λ in_own. ⊎_elim
      (λ none. let in' = none.1 in absurd (omega arith))
      (λ is. let same : b ≡ is.0 = let h = is.2 in cc in subst (Contains bits) (sym same) is.1)
      ((has (fact.BitSet number b)).0 in_own),
)

-- also where the number, the bits and the facts are known by other names
pub just_set : (number other : ℕ) (bits list : List Bit) (before own : List Fact) → other ≡ number → list ≡ bits → own ≡ before
    → KnowsJust number bits before → (b : Bit) → Contains list b ↔ Contains own (fact.BitSet other b)
just_set number other bits list before own numbers lists facts has b =
    subst (λ (n : ℕ). Contains list b ↔ Contains own (fact.BitSet n b)) (sym numbers)
    (subst (λ (bs : List Bit). Contains bs b ↔ Contains own (fact.BitSet number b)) (sym lists)
    (subst (λ (fs : List Fact). Contains bits b ↔ Contains fs (fact.BitSet number b)) (sym facts) (set_just number bits before has b)))

-- both took a column and added their document
abbrev pub two_adds : List ℕ → List Bit → List ℕ → List Bit → List Event
two_adds t bs u cs = event.Take 0 0 0 ∷ event.Take 1 0 1 ∷ event.Add 0 4 t 0 0 bs ∷ event.Add 1 5 u 0 1 cs ∷ []

module _ (t u query : List ℕ) (bs cs : List Bit) where
  -- the only slice is in use then
  first_in_use : (limits : Limits) → IsLegal limits (two_adds t bs u cs) → 0 < limits.columns → IsInUse limits.columns 0 (two_adds t bs u cs)
  first_in_use limits legal columns = record {
    not_retired = not_retired_by limits (two_adds t bs u cs) 0 0 (Live (record { id = 4; text = t; place = 1 }) 3) legal columns
        (record {
          later = event.Add 1 5 u 0 1 cs ∷ [];
          put = record { earlier = event.Take 0 0 0 ∷ event.Take 1 0 1 ∷ []; event = event.Add 0 4 t 0 0 bs; whole = refl; count = refl; puts = refl; lives = (0, omega arith, refl); stays = refl };
          not_taken_off = refl;
        })
        (λ over. over);
    not_clearing = refl;
  }

  only_first : (slices : ℕ) → slices ≡ 1 → (slice : ℕ) → slice < slices → slice ≡ 0
  only_first slices one slice small = omega arith

  module _ (limits : Limits) (legal : IsLegal limits (two_adds t bs u cs)) (one : limits.slices ≡ 1) (columns : 0 < limits.columns)
      (set : List ℕ) (has : (slice : ℕ) → Contains set slice ↔ ((slice ≡ 0) ⊎ Contains [] slice)) where
    is_first : (slice : ℕ) → Contains set slice → slice ≡ 0
    is_first slice in' = ⊎_elim (λ is. is) (λ none. let no = none.1 in absurd (omega arith)) ((has slice).0 in')

    slices_are : (slice : ℕ) → Contains set slice ↔ ((slice < limits.slices) × IsInUse limits.columns slice (two_adds t bs u cs))
    slices_are slice = (
      λ in'. let is = is_first slice in' in
          (omega (arith, is, one), subst (λ (s : ℕ). IsInUse limits.columns s (two_adds t bs u cs)) (sym is) (first_in_use limits legal columns)),
      λ in_use. (has slice).1 (inl (only_first limits.slices one slice in_use.0)),
    )

    -- pass 0 holds the token of a find that it begins then
    pub token_held : (seat : PassState) (pool : PoolId) (number : ℕ) → pool.limits ≡ limits → seat.pool ≡ pool → seat.number ≡ 0 → seat.front ≡ two_adds t bs u cs ++ event.Find 0 query ∷ [] → number ≡ 5
        → HoldsToken seat (record { place = 2; opened_at = number; slices = set })
    token_held seat pool number sizes same pass front is =
        let at_five : HoldsToken (record { pool = seat.pool; number = 0; front = two_adds t bs u cs ++ event.Find 0 query ∷ []; asked = seat.asked; own = seat.own; told = seat.told }) (record { place = 2; opened_at = 5; slices = set }) = record {
          begun = record { earlier = two_adds t bs u cs; query = query; later = []; whole = refl; count = refl; stays = refl };
          at_place = refl;
          slices = λ slice. subst (λ (l : Limits). Contains set slice ↔ ((slice < l.slices) × IsInUse l.columns slice (two_adds t bs u cs))) (sym (ap (λ (p : PoolId). p.limits) same ∙ sizes)) (slices_are slice);
        } in
        subst (λ (n : ℕ). HoldsToken seat (record { place = 2; opened_at = n; slices = set })) (sym is)
        (subst (λ (f : List Event). HoldsToken (record seat { front = f }) (record { place = 2; opened_at = 5; slices = set })) (sym front)
        (subst (λ (n : ℕ). HoldsToken (record { pool = seat.pool; number = n; front = two_adds t bs u cs ++ event.Find 0 query ∷ []; asked = seat.asked; own = seat.own; told = seat.told }) (record { place = 2; opened_at = 5; slices = set })) (sym pass) at_five))
