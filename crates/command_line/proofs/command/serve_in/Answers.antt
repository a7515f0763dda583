use Rattle.std.proofs.Common.{◌≡◌, arith, subst, ◌∙◌, ap, sym, codes, is_some}
use Rattle.std.specs.Str.Parse.{ParsesUnsigned, ExplainsUnsignedError, HasUnsignedDigitsIfOk}
use Rattle.funnel_model.specs.declared.config.TheConstants.{MOST_PASSES}
use Rattle.command_line.specs.declared.command.TheConstants.{MOST_CONNECTIONS, MOST_IDLE, MOST_PORT}
use Rattle.clap.specs.Words.{found_of, rows_of}
use Rattle.command_line.specs.Commands.{IsServeInRange, serve_of}
use Rattle.command_line.specs.declared.command.ServeCommand.{ServeCommand}
use Rattle.command_line.proofs.Faultless.{some_is}
use Rattle.command_line.proofs.NumberLemmas.{flag_read, serve_in_range, serve_is, option_read}
use Rattle.command_line.proofs.command.serve_in.Goals as goal

pub unwrap-requires : goal.unwrap-requires
unwrap-requires c =
    let port = option_read (λ bs r. ParsesUnsigned 32 10 bs r × ExplainsUnsignedError 10 bs r × HasUnsignedDigitsIfOk bs r) 32 1 MOST_PORT (codes "port") (found_of c.args.found.now) c.get_one.result (omega arith) c.requires.port c.get_one.ensures.value (λ u x g. g.0) in
    ap is_some port

pub unwrap-requires-2 : goal.unwrap-requires-2
unwrap-requires-2 c =
    let workers = option_read (λ bs r. ParsesUnsigned 32 10 bs r × ExplainsUnsignedError 10 bs r × HasUnsignedDigitsIfOk bs r) 32 1 MOST_PASSES (codes "workers") (found_of c.args.found.now) c.get_one-2.result (omega arith) c.requires.workers c.get_one-2.ensures.value (λ u x g. g.0) in
    ap is_some workers

pub unwrap-requires-3 : goal.unwrap-requires-3
unwrap-requires-3 c =
    let connections = option_read (λ bs r. ParsesUnsigned 64 10 bs r × ExplainsUnsignedError 10 bs r × HasUnsignedDigitsIfOk bs r) 64 1 MOST_CONNECTIONS (codes "connections") (found_of c.args.found.now) c.get_one-3.result (omega arith) c.requires.connections c.get_one-3.ensures.value (λ u x g. g.0) in
    ap is_some connections

pub unwrap-requires-4 : goal.unwrap-requires-4
unwrap-requires-4 c =
    let idle = option_read (λ bs r. ParsesUnsigned 32 10 bs r × ExplainsUnsignedError 10 bs r × HasUnsignedDigitsIfOk bs r) 32 0 MOST_IDLE (codes "idle") (found_of c.args.found.now) c.get_one-4.result (omega arith) c.requires.idle c.get_one-4.ensures.value (λ u x g. g.0) in
    ap is_some idle

serve_read : (c : goal.After-get_flag-2) →
    ◌≡◌ {A = ServeCommand} (record { port = c.unwrap.result; workers = c.unwrap-2.result; connections = c.unwrap-3.result; idle = c.unwrap-4.result; one_port = c.get_flag.result; http = c.get_flag-2.result })
    (serve_of (rows_of (found_of c.args.found.now)))
serve_read c =
    let found = found_of c.args.found.now in
    let port = option_read (λ bs r. ParsesUnsigned 32 10 bs r × ExplainsUnsignedError 10 bs r × HasUnsignedDigitsIfOk bs r) 32 1 MOST_PORT (codes "port") found c.get_one.result (omega arith) c.requires.port c.get_one.ensures.value (λ u x g. g.0) in
    let workers = option_read (λ bs r. ParsesUnsigned 32 10 bs r × ExplainsUnsignedError 10 bs r × HasUnsignedDigitsIfOk bs r) 32 1 MOST_PASSES (codes "workers") found c.get_one-2.result (omega arith) c.requires.workers c.get_one-2.ensures.value (λ u x g. g.0) in
    let connections = option_read (λ bs r. ParsesUnsigned 64 10 bs r × ExplainsUnsignedError 10 bs r × HasUnsignedDigitsIfOk bs r) 64 1 MOST_CONNECTIONS (codes "connections") found c.get_one-3.result (omega arith) c.requires.connections c.get_one-3.ensures.value (λ u x g. g.0) in
    let idle = option_read (λ bs r. ParsesUnsigned 32 10 bs r × ExplainsUnsignedError 10 bs r × HasUnsignedDigitsIfOk bs r) 32 0 MOST_IDLE (codes "idle") found c.get_one-4.result (omega arith) c.requires.idle c.get_one-4.ensures.value (λ u x g. g.0) in
    let one_port = flag_read (codes "one-port") found c.get_flag.result c.requires.one_port c.get_flag.ensures.value c.get_flag.ensures.other in
    let http = flag_read (codes "http") found c.get_flag-2.result c.requires.http c.get_flag-2.ensures.value c.get_flag-2.ensures.other in
    serve_is (rows_of found) _ _ _ _ _ _ (some_is (sym c.unwrap.ensures ∙ port)) (some_is (sym c.unwrap-2.ensures ∙ workers)) (some_is (sym c.unwrap-3.ensures ∙ connections))
    (some_is (sym c.unwrap-4.ensures ∙ idle)) one_port http

pub returns-clause-serve : goal.returns-clause-serve
returns-clause-serve c = serve_read c

pub returns-clause-in_range : goal.returns-clause-in_range
returns-clause-in_range c = subst IsServeInRange (sym (serve_read c)) (serve_in_range (rows_of (found_of c.args.found.now)) c.requires)
