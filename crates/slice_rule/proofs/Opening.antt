-- The rule holds of a new pool.
use Rattle.std.proofs.Common.{◌≡◌, ℕ, ◌+◌, ◌<◌, ◌≤◌, [], ◌∷◌, ◌++◌, map, get_or, replicate, refl, ap, sym, ◌∙◌, subst, arith, ⊎_elim}
use Rattle.std.proofs.lemmas.Bool.{cases_lt}
use Rattle.std.proofs.lemmas.List.{get_or-drop, get_or-replicate, get_or_past, length-replicate}
use Rattle.std.proofs.lemmas.List.Elements.{All-nil}
use mathlib.Core.List.{map-append}
use Rattle.std.specs.List.{range_with_len}
use Rattle.funnel_model.proofs.Ranges.{range_more}
use Rattle.slice_rule.specs.Pools.{PoolId, ask_word, first_row, pool_words, row_words}
use Rattle.slice_rule.specs.Seats.{new_pass_state}
use mathlib.Core.Option.{some-ne-none}
use Rattle.atomic_table.specs.Table.{opening}
use Rattle.funnel_model.specs.declared.config.Config.{Config}
use Rattle.funnel_model.specs.Legal.{Limits}
use Rattle.slice_rule.specs.Rule.{CountsPasses, Fits, IsKept, IsTrueFact}
use Rattle.slice_rule.specs.Views.{home_at_start}
use Rattle.slice_rule.specs.Worlds.{World}
use Rattle.funnel_model.proofs.RowWords.{covers-start, fresh-start}
use Rattle.funnel_model.specs.RowWords.{IsSetIn}
use Rattle.funnel_model.specs.declared.bit_list.Bit.{Bit}
use Rattle.std.specs.Int.{IsBitSet}
use Rattle.slice_rule.proofs.Bits.{zero_has_none}
use Rattle.slice_rule.proofs.Seating.{each-snoc}

-- the world of a new pool
abbrev new_world : World
new_world = record { history = []; asked = λ _. []; seat = λ _. 0; home = 0; seated = 0 }

-- each word of zeros is zero
pub zeros : (n i : ℕ) → ◌≡◌ {A = ℕ} (get_or (replicate n 0) i 0) 0
zeros n i = ⊎_elim
    (λ (within : i < n). get_or-replicate n i 0 0 within)
    (λ (past : n ≤ i). let z : ℕ = 0 in get_or_past (replicate n z) i z (let l = length-replicate n z in omega arith))
    (cases_lt i n)

pub opens : (limits : Limits) (config : Config) → IsKept limits config (opening (replicate (pool_words limits) 0) [] (home_at_start limits config))
opens limits config =
    let n = pool_words limits in
    let none_set : (b : Bit) → IsSetIn (row_words limits (replicate n 0)) b → ⊥ = λ b set.
    zero_has_none b.bit (subst (λ (k : ℕ). IsBitSet k b.bit) (get_or-drop (first_row limits) (replicate n 0) b.word 0 ∙ zeros n (first_row limits + b.word)) set) in
    record {
      world = new_world;
      laid = (let z : ℕ = 0 in length-replicate n z);
      events = record { events = zeros n 0; few = omega arith; legal = tt };
      passes = subst (CountsPasses limits 0) (sym (zeros n 1)) (record { in_range = omega arith; no_more = omega arith; all_but_last = omega arith });
      asked = record {
        count = λ pass small. zeros n (ask_word pass);
        made = λ pass. record { begins = ([], refl); few = omega arith };
        none = λ pass above. refl;
      };
      covers = covers-start (row_words limits (replicate n 0));
      owners = record {
        claimed = λ slice column b set. absurd (none_set b set);
        among = λ slice column b e set. absurd (none_set b set);
      };
      fresh = fresh-start limits (row_words limits (replicate n 0)) (λ slice small word inside. get_or-drop (first_row limits) (replicate n 0) word 0 ∙ zeros n (first_row limits + word));
      given = record {
        home = record { view = home_at_start limits config; at = refl; kind = tt };
        passes = λ pass none. absurd (omega arith);
      };
      seats = each-snoc (Fits limits config new_world (replicate n 0)) [] (home_at_start limits config) (λ id v at. absurd (some-ne-none v (sym at)))
          (record {
            sizes = refl;
            front = ([], refl);
            met = ([], refl);
            own = All-nil (IsTrueFact limits new_world (row_words limits (replicate n 0)));
            told = All-nil (IsTrueFact limits new_world (row_words limits (replicate n 0)));
            role = record { one = refl; whole = refl; counts = zeros n 1; seated = refl };
            bits = tt;
          });
    }

-- the passes of a new pool with one more
pub new_passes_push : (pool : PoolId) (n : ℕ) → map (new_pass_state pool) (range_with_len 0 (n + 1)) ≡ map (new_pass_state pool) (range_with_len 0 n) ++ new_pass_state pool n ∷ []
new_passes_push pool n = ap (map (new_pass_state pool)) (range_more n) ∙ map-append (new_pass_state pool) (range_with_len 0 n) (n ∷ [])
