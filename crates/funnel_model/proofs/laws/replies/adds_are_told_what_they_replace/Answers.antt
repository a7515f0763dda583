use Rattle.std.proofs.Common.{◌+◌, ap, sym}
use Rattle.funnel_model.specs.History.{place}
use Rattle.funnel_model.specs.Steps.{place_told}
use Rattle.funnel_model.proofs.laws.replies.adds_are_told_what_they_replace.Goals as goal

pub returns-clause-replaced : goal.returns-clause-replaced
returns-clause-replaced c limits before pass id text slice column bits live = ap (λ b. place_told b (place before + 1)) (sym live)

pub returns-clause-added : goal.returns-clause-added
returns-clause-added c limits before pass id text slice column bits absent = ap (λ b. place_told b (place before + 1)) (sym absent)
