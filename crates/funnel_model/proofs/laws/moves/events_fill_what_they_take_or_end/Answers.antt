use Rattle.funnel_model.proofs.Fills.{bits_on-put, fills_by_kind}
use Rattle.funnel_model.proofs.laws.moves.events_fill_what_they_take_or_end.Goals as goal

pub returns-clause-fills : goal.returns-clause-fills
returns-clause-fills c = fills_by_kind

pub returns-clause-bits : goal.returns-clause-bits
returns-clause-bits c = bits_on-put
