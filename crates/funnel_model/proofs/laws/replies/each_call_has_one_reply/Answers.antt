use Rattle.std.proofs.Common.{◌∷◌, ◌++◌, refl}
use Rattle.funnel_model.proofs.Histories.{allowed_within, legal_before}
use Rattle.funnel_model.proofs.ReplyLemmas.{has_reply, one_reply, reply_has_call}
use Rattle.funnel_model.proofs.laws.replies.each_call_has_one_reply.Goals as goal

pub returns-clause-some : goal.returns-clause-some
returns-clause-some c limits before later e asked legal is =
    has_reply limits before e asked (legal_before limits before (e ∷ later) legal) (allowed_within limits (before ++ e ∷ later) before e later legal refl) is

pub returns-clause-one : goal.returns-clause-one
returns-clause-one c = one_reply

pub returns-clause-calls_alone : goal.returns-clause-calls_alone
returns-clause-calls_alone c = reply_has_call
