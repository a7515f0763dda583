use Rattle.std.proofs.Common.{◌∷◌, ◌++◌, refl}
use Rattle.funnel_model.proofs.Histories.{allowed_within}
use Rattle.funnel_model.proofs.ReplyLemmas.{absent_cause, full_cause, guarded_cause, none_retired_cause, present_cause, trimmed_cause}
use Rattle.funnel_model.proofs.laws.replies.refusals_have_their_cause.Goals as goal

pub returns-clause-present : goal.returns-clause-present
returns-clause-present c = present_cause

pub returns-clause-trimmed : goal.returns-clause-trimmed
returns-clause-trimmed c = trimmed_cause

pub returns-clause-full : goal.returns-clause-full
returns-clause-full c limits before later e legal is = full_cause limits before e (allowed_within limits (before ++ e ∷ later) before e later legal refl) is

pub returns-clause-absent : goal.returns-clause-absent
returns-clause-absent c limits before later e legal is = absent_cause limits before e (allowed_within limits (before ++ e ∷ later) before e later legal refl) is

pub returns-clause-none_retired : goal.returns-clause-none_retired
returns-clause-none_retired c = none_retired_cause

pub returns-clause-guarded : goal.returns-clause-guarded
returns-clause-guarded c limits before later e slice pass legal is =
    guarded_cause limits before e slice pass (allowed_within limits (before ++ e ∷ later) before e later legal refl) is
