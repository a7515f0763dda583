use Rattle.std.proofs.Common.{◌≡◌, List, ◌++◌, length, take, drop, sym, ap, ◌∙◌, subst}
use Rattle.std.proofs.Math.Seq.{take-append_seam}
use Rattle.funnel.specs.Workers.{EndsOpenServeInTurns, EndsServeInTurns}
use Rattle.funnel.proofs.Endings.{served_where_left}
use Rattle.funnel.proofs.serving.serve_command.Goals as goal

pub returns-then-is_some-clause-ends : goal.returns-then-is_some-clause-ends
returns-then-is_some-clause-ends g c =
    let gate = g.G.Gate in
    let source = g.G.Conn.Source in
    let sink = g.G.Conn.Sink in
    let ended = c.serve_open-ended.result in
    let opened = c.open_all.new.gates in
    let came = c.args.gates.items in
    let as_many : c.args.gates.len ≡ length opened = c.args.gates.ok.0 ∙ sym (c.in-Open.ensures.count ∙ ap length c.deref_mut.ensures.value) in
    let back : take c.args.gates.len (opened ++ drop (length opened) came) ≡ opened =
    ap (λ n. take n (opened ++ drop (length opened) came)) as_many ∙ take-append_seam opened (drop (length opened) came) in
    let served = subst (λ (gates : List g.row.G.Denot). EndsOpenServeInTurns gate source sink c.args.config.now c.args.serve gates ended.gates.items ended.why ended.closed)
    back c.serve_open-ended.ensures.ends in
    subst (λ (gates : List g.row.G.Denot). EndsServeInTurns gate source sink c.args.config.now c.args.serve gates ended.gates.items ended.why ended.closed)
    c.deref_mut.ensures.value
    (served_where_left gate source sink c.args.config.now c.args.serve c.deref_mut.result.now opened
    ended.gates.items ended.why ended.closed (sym c.is_some.ensures ∙ c.if-is_some.true) c.in-Open.ensures.told c.in-Open.ensures.opened served)
