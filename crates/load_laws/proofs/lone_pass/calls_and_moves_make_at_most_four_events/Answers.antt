use Rattle.load_laws.proofs.EventCounts.{few_events_alone, few_events_of_calls}
use Rattle.load_laws.proofs.lone_pass.calls_and_moves_make_at_most_four_events.Goals as goal

pub returns : goal.returns
returns c = record { each = few_events_alone; calls = few_events_of_calls }
