use Rattle.line_proto.proofs.Tunings.{by_call, by_fault, by_width}
use Rattle.line_proto.proofs.laws.tunings_are_answered_by_their_texts.Goals as goal

pub returns-clause-faulty : goal.returns-clause-faulty
returns-clause-faulty c caller before after text given fault is answers = by_fault caller before after text given answers fault is

pub returns-clause-wide : goal.returns-clause-wide
returns-clause-wide c caller before after text given config is wide answers = by_width caller before after text given answers config is wide

pub returns-clause-fits : goal.returns-clause-fits
returns-clause-fits c caller before after text given config is narrow answers = by_call caller before after text given answers config is narrow
