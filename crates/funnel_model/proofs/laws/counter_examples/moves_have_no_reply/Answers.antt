use Rattle.std.proofs.Common.{⊎_elim}
use Rattle.funnel_model.proofs.laws.counter_examples.moves_have_no_reply.Goals as goal

pub returns : goal.returns
returns c limits history pass id slice column bits given is = ⊎_elim (λ none. none) (λ none. none) is
