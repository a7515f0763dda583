use Rattle.std.proofs.Common.{◌≡◌, rules}
use Rattle.funnel_io.specs.declared.end.End.TheVariants as end_of
use Rattle.session.specs.declared.serving.TheConstants.{MOST_BYTES}
use Rattle.funnel.proofs.Turns.{stops_as, stops_to}
use Rattle.session.specs.Turns.{line_by_line}
use Rattle.funnel.specs.Turns.{reads_input, writes_output}
use Rattle.funnel.proofs.running.serve.Goals as goal

pub returns-clause-in_turns : goal.returns-clause-in_turns
returns-clause-in_turns g c =
    let reads = reads_input g.S.Source.read_gives in
    let writes = writes_output g.K.Sink.write_gives in
    let done : Type 0 = c.serve_session-end.result ≡ end_of.Done in
    stops_to line_by_line reads writes MOST_BYTES done (c.args.input.now, c.args.output.now) c.serve_session-end.new.conn.source.now _ c.serve_session-end.new.conn.sink.now _ (search rules) (search rules)
    (stops_as line_by_line _ _ reads writes (λ conn. (conn.source.now, conn.sink.now)) (λ x read y gives. gives) (λ x write y gives. gives) MOST_BYTES done _ _ c.serve_session-end.ensures.in_turns)
