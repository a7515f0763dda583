use Rattle.load_laws.proofs.Alone.{alone_by_others, front_is_whole}
use Rattle.load_laws.proofs.lone_pass.a_pass_is_alone_where_no_other_has_events.Goals as goal

pub returns : goal.returns
returns c = record { alone = alone_by_others; seen = front_is_whole }
