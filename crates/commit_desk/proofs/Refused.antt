-- What a refused recycle is told.
use Rattle.std.proofs.Common.{ℕ, List}
use Rattle.funnel_model.specs.declared.event.Event.{Event}
use Rattle.funnel_model.specs.Legal.{Limits, NoneCanClear}
use Rattle.commit_desk.specs.Answers.{AnswersClear, RefusesClear, TakesCalls}
use Rattle.std.specs.Prelude.{Err}
use Rattle.commit_desk.specs.declared.answers.ClearRefusal.{ClearRefusal}
use Rattle.commit_desk.specs.declared.answers.ClearRefusal.TheVariants as clear

-- a recycle that is refused where no slice can be cleared
pub clear_is_answered : (most : ℕ) (limits : Limits) (history : List Event) (pass : ℕ) (refusal : ClearRefusal) → TakesCalls most history → NoneCanClear limits history → RefusesClear limits history refusal →
    AnswersClear most limits history pass (Err refusal)
clear_is_answered most limits history pass clear.NoneRetired takes none is = (takes, none, is)
clear_is_answered most limits history pass (clear.Guarded slice guard opened_at) takes none is = (takes, none, is)
clear_is_answered most limits history pass (clear.Spent events) takes none is = absurd is
