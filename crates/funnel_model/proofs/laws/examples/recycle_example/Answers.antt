use Rattle.std.proofs.Common.{true, [], ◌∷◌, ◌++◌, refl, inl, inr}
use Rattle.caseless.proofs.Computing.{caseless}
use Rattle.unicode_segmentation.proofs.Computing.{unicode_segmentation}
use Rattle.funnel_model.specs.declared.call.Call.TheVariants as call
use Rattle.funnel_model.specs.declared.event.Event.TheVariants as event
use Rattle.funnel_model.specs.declared.reply.Reply.TheVariants as reply
use Rattle.funnel_model.specs.RecycleExample.{both_recycled, guarded, paired, recycled}
use Rattle.funnel_model.proofs.Histories.{legal_before}
use Rattle.funnel_model.proofs.PairLemmas.{lowest_guarded}
use Rattle.funnel_model.proofs.RecycleFacts.{low_guarded, nothing_retired, together_is_legal}
use Rattle.funnel_model.proofs.StepLemmas.{step_made}
use Rattle.funnel_model.proofs.laws.examples.recycle_example.Goals as goal

pub returns-clause-legal : goal.returns-clause-legal
returns-clause-legal c = together_is_legal

pub returns-clause-replies : goal.returns-clause-replies
unfolding unicode_segmentation caseless
returns-clause-replies c = inr (_, _, refl, nothing_retired, inl (refl, inr (_, _, refl, refl, inl (refl, inr (_, _, refl, refl, inr (_, _, refl, refl, inr (_, _, refl, refl, inr (_, _, refl, refl, inr (_, _, refl, lowest_guarded guarded 6 refl low_guarded, inl (refl, inl (refl, inr (_, _, refl, (refl, refl), inr (_, _, refl, refl, inr (_, _, refl, refl, inr (_, _, refl, refl, inl (refl, inl (refl, inr (_, _, refl, (refl, refl), inr (_, _, refl, refl, refl)))))))))))))))))))

pub returns-clause-recycles : goal.returns-clause-recycles
returns-clause-recycles c =
    step_made paired 1 recycled (event.Clear 1 1 ∷ event.Take 0 0 0 ∷ []) (event.Opened 1 1 true) [] call.Recycle (reply.Recycled 1) refl refl refl refl refl refl refl
    (refl, refl) refl (legal_before paired both_recycled (event.Add 0 5 [] 0 0 [] ∷ []) together_is_legal) refl

pub returns-clause-adds : goal.returns-clause-adds
returns-clause-adds c =
    step_made paired 0 (recycled ++ event.Clear 1 1 ∷ []) (event.Take 0 0 0 ∷ event.Opened 1 1 true ∷ []) (event.Add 0 5 [] 0 0 []) [] (call.Add 5 []) (reply.Added 5)
    refl refl refl refl refl refl refl refl refl together_is_legal refl
