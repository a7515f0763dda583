use Rattle.engine.proofs.laws.closed_engines_count_their_events.Goals as goal

pub returns : goal.returns
returns c closed is = is.events
