use Rattle.std.proofs.Common.{[], ◌∷◌, codes, refl, arith}
use Rattle.funnel_model.specs.declared.event.Event.TheVariants as event
use Rattle.funnel_model.specs.RecycleExample.{high_bit, low_bit}
use Rattle.funnel_model.proofs.MoveFacts.{gone_again, left_old, move_guarded, moved_new, retired_by_move, retired_by_void}
use Rattle.funnel_model.proofs.laws.examples.moves_retire_their_slice.Goals as goal

pub returns-clause-retired : goal.returns-clause-retired
returns-clause-retired c = (retired_by_move, move_guarded)

pub returns-clause-gone : goal.returns-clause-gone
returns-clause-gone c = gone_again

pub returns-clause-voided : goal.returns-clause-voided
returns-clause-voided c = (refl, retired_by_void)

pub returns-clause-again : goal.returns-clause-again
returns-clause-again c = (moved_new, left_old)

pub returns-clause-committed : goal.returns-clause-committed
returns-clause-committed c = (
  record {
    earlier = event.Take 0 0 0 ∷ [];
    event = event.Add 0 9 (codes "a cat") 0 0 (low_bit ∷ []);
    later = event.Find 1 (codes "A") ∷ event.Take 0 1 0 ∷ event.Move 0 9 1 0 (high_bit ∷ []) ∷ [];
    whole = refl;
    added = (0, omega arith, refl);
    stays = refl;
  },
  record {
    earlier = event.Take 0 0 0 ∷ event.Add 0 9 (codes "a cat") 0 0 (low_bit ∷ []) ∷ event.Find 1 (codes "A") ∷ event.Take 0 1 0 ∷ [];
    event = event.Move 0 9 1 0 (high_bit ∷ []);
    later = [];
    whole = refl;
    added = (0, omega arith, refl);
    stays = refl;
  },
)
