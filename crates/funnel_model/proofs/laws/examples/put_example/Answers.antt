use Rattle.std.proofs.Common.{[], codes, refl, inl, inr}
use Rattle.unicode_segmentation.proofs.Computing.{unicode_segmentation}
use Rattle.funnel_model.specs.declared.reply.Reply.TheVariants as reply
use Rattle.funnel_model.specs.Example.{first_added, small}
use Rattle.funnel_model.specs.PutExample.{replaced}
use Rattle.funnel_model.proofs.Columns.{in_its_state}
use Rattle.funnel_model.proofs.ColumnStates.{state_from, state_of}
use Rattle.funnel_model.proofs.PutFacts.{numbers_are_so, refused_after_is_legal, replaced_is_legal}
use Rattle.funnel_model.proofs.StepLemmas.{step_put}
use Rattle.funnel_model.proofs.laws.examples.put_example.Goals as goal

pub returns-clause-legal : goal.returns-clause-legal
returns-clause-legal c = refused_after_is_legal

pub returns-clause-replies : goal.returns-clause-replies
unfolding unicode_segmentation
returns-clause-replies c = inl (refl, inr (_, _, refl, refl, inl (refl, inr (_, _, refl, refl, inr (_, _, refl, refl, inl (refl, inr (_, _, refl, refl, inr (_, _, refl, refl, inr (_, _, refl, numbers_are_so, inr (_, _, refl, refl, refl))))))))))

pub returns-clause-old : goal.returns-clause-old
unfolding state_from state_of
returns-clause-old c = in_its_state small replaced 0 0 replaced_is_legal

pub returns-clause-new : goal.returns-clause-new
unfolding state_from state_of
returns-clause-new c = in_its_state small replaced 0 1 replaced_is_legal

pub returns-clause-step : goal.returns-clause-step
returns-clause-step c = step_put small 0 first_added 9 (codes "b") 0 1 [] (reply.Replaced 2) refl refl replaced_is_legal

pub returns-clause-cause : goal.returns-clause-cause
returns-clause-cause c = refl
