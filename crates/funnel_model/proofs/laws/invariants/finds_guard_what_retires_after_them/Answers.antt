use Rattle.std.proofs.Common.{◌<◌, ℕ, subst}
use Rattle.funnel_model.proofs.Retirement.{retires_once}
use Rattle.funnel_model.proofs.laws.invariants.finds_guard_what_retires_after_them.Goals as goal

pub returns-clause-earlier : goal.returns-clause-earlier
returns-clause-earlier c columns history slice pass number retired_at token retired at before =
    record { token = token; retired = retired; retired_at = retired_at; at_event = at; before = before }

pub returns-clause-later : goal.returns-clause-later
returns-clause-later c columns history slice pass number retired_at guards at =
    subst (λ (n : ℕ). number < n) (retires_once columns slice guards.retired_at retired_at history guards.at_event at) guards.before

pub returns-clause-lowest : goal.returns-clause-lowest
returns-clause-lowest c limits history slice pass lower number is below guards = is.guard.lowest lower below number guards
