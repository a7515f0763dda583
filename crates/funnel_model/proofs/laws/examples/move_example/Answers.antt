use Rattle.std.proofs.Common.{ℕ, refl, arith, inl, inr}
use Rattle.caseless.proofs.Computing.{caseless}
use Rattle.unicode_segmentation.proofs.Computing.{unicode_segmentation}
use Rattle.funnel_model.specs.MoveExample.{moved}
use Rattle.funnel_model.specs.Slices.{IsInUse}
use Rattle.funnel_model.specs.Tokens.{MayRead}
use Rattle.funnel_model.proofs.MoveFacts.{move_guarded, moved_again_is_legal, new_column, old_column, open_find}
use Rattle.funnel_model.proofs.PairLemmas.{lowest_guarded}
use Rattle.funnel_model.proofs.SpareLemmas.{not_retired}
use Rattle.funnel_model.proofs.laws.examples.move_example.Goals as goal

pub returns-clause-legal : goal.returns-clause-legal
returns-clause-legal c = moved_again_is_legal

pub returns-clause-replies : goal.returns-clause-replies
unfolding unicode_segmentation caseless
returns-clause-replies c = inl (refl, inr (_, _, refl, refl, inr (_, _, refl, refl, inl (refl, inl (refl, inr (_, _, refl, lowest_guarded moved 3 refl move_guarded, inl (refl, inr (_, _, refl, refl, inl (refl, inl (refl, inr (_, _, refl, (refl, refl), inl (refl, inl (refl, inl (refl, inr (_, _, refl, (refl, refl), inr (_, _, refl, refl, inl (refl, inr (_, _, refl, refl, inl (refl, inr (_, _, refl, (refl, refl), inl (refl, inl (refl, refl))))))))))))))))))))))

pub returns-clause-old : goal.returns-clause-old
returns-clause-old c = (old_column, refl, refl)

pub returns-clause-new : goal.returns-clause-new
returns-clause-new c = (new_column, refl, refl)

-- the find may read a slice that was in use before it
may_read : (slice : ℕ) → IsInUse 1 slice open_find.earlier → MayRead 1 moved 1 slice
may_read slice in_use = record { number = 3; token = open_find; in_use = in_use }

pub returns-clause-read : goal.returns-clause-read
returns-clause-read c = (
  may_read 0 (record { not_retired = not_retired 1 0 0 _ (omega arith) refl refl; not_clearing = refl }),
  may_read 1 (record { not_retired = not_retired 1 1 0 _ (omega arith) refl refl; not_clearing = refl }),
)
