use Rattle.std.proofs.Common.{[], length, refl, inl, arith, sym, ap, ◌∙◌}
use Rattle.std.proofs.lemmas.List.FromFn.{length-map-range_with_len}
use Rattle.std.specs.List.{range_with_len}
use Rattle.std.specs.Prelude.{map}
use Rattle.engine.proofs.NewPasses.{new_numbers}
use Rattle.engine.specs.Passes.{new_pass}
use Rattle.funnel_server.specs.Loads.{IsCutShort, IsPut, front_at}
use Rattle.load_gen.specs.Documents.{documents}
use Rattle.funnel.proofs.Endings.{keeps_last}
use Rattle.funnel.proofs.LoadEnds.{HasClosed, ends_load, from_nothing, load_fits, on_fault, on_ok, part_of_load, whole_load}
use Rattle.funnel.proofs.LoadPasses.{AreUsedBy}
use Rattle.funnel.proofs.Opened.{opened_config, opened_counted, opened_limits, opened_passes}
use Rattle.funnel.proofs.Passes.{number_of}
use Rattle.funnel.specs.Runs.{limits_by}
use Rattle.funnel.proofs.workload.make_load.Goals as goal

pub run_load-passes-requires-clause-enough : goal.run_load-passes-requires-clause-enough
run_load-passes-requires-clause-enough g c κs within =
    let pool = g.N.PoolName.pool in
    let new = opened_passes pool c.args.blank c.args.config.now (sym c.requires.blank.named) c.requires.blank.made_with c.in-Ok-open.passes.items c.in-Ok-open.ensures.passes in
    let config_is = opened_config pool c.args.blank c.args.config.now (sym c.requires.blank.named) c.requires.blank.made_with in
    let fits = load_fits c.args.command c.args.config.now c.requires.load.fits in
    let count = ap length new ∙ length-map-range_with_len new_pass 0 pool.config.passes in
    omega (arith, fits.passes, count, ap (λ k. k.passes) config_is)

pub run_load-passes-requires-clause-numbers : goal.run_load-passes-requires-clause-numbers
run_load-passes-requires-clause-numbers g c κs within =
    let pool = g.N.PoolName.pool in
    let new = opened_passes pool c.args.blank c.args.config.now (sym c.requires.blank.named) c.requires.blank.made_with c.in-Ok-open.passes.items c.in-Ok-open.ensures.passes in
    ap (map number_of) new ∙ new_numbers 0 pool.config.passes
    ∙ ap (range_with_len 0) (sym (ap length new ∙ length-map-range_with_len new_pass 0 pool.config.passes))

pub returns-in-Ok-results-clause-ends : goal.returns-in-Ok-results-clause-ends
returns-in-Ok-results-clause-ends g c =
    let pool = g.N.PoolName.pool in
    let workers = c.args.command.workers in
    let before = c.in-Ok-open.passes.items in
    let after = c.run_load-passes.result.0.items in
    let config = c.args.config.now in
    let texts = documents c.args.command.docs c.args.command.words c.args.command.seed in
    let new = opened_passes pool c.args.blank c.args.config.now (sym c.requires.blank.named) c.requires.blank.made_with c.in-Ok-open.passes.items c.in-Ok-open.ensures.passes in
    let counted = opened_counted pool c.args.blank c.args.config.now (sym c.requires.blank.named) c.requires.blank.made_with c.requires.blank.limits in
    let limits_are = opened_limits pool c.args.blank c.args.config.now (sym c.requires.blank.named) c.requires.blank.limits in
    let config_is = opened_config pool c.args.blank c.args.config.now (sym c.requires.blank.named) c.requires.blank.made_with in
    let used : AreUsedBy pool c.args.command.workers c.in-Ok-open.passes.items c.run_load-passes.result.0.items =
    record { counted = counted; new = new; numbers = c.run_load-passes.ensures.numbers; others = c.run_load-passes.ensures.others } in
    let ended : HasClosed pool c.args.config.now c.args.command c.in-Ok-open.passes.items c.run_load-passes.result.0.items c.close-closed.result = record {
      limits = limits_are;
      config_is = config_is;
      some = c.requires.load.in_range.some_workers;
      few = c.requires.load.in_range.few_docs;
      fits = c.requires.load.fits;
      used = used;
      legal = c.close-closed.ensures.legal;
      caused = c.close-closed.ensures.caused;
      sound = c.close-closed.ensures.sound;
      ends = c.close-closed.ensures.passes;
    } in
    let did = from_nothing pool c.args.config.now c.args.command before after c.close-closed.result ended c.in-Ok.load c.run_load-passes.result.1 c.in-Ok.ensures
    c.run_load-passes.ensures.put in
    let put = on_ok (λ results. IsPut config (limits_by config) texts workers (λ _. []) (front_at after) results)
    (λ _. IsCutShort config (limits_by config) texts workers (λ _. []) (front_at after)) c.run_load-passes.result.1 c.in-Ok-results.results c.in-Ok-results.is did in
    ends_load c.args.config.now c.args.command (g.K.Sink.outgoing c.args.output.now) (g.K.Sink.outgoing c.tell.new.output) c.tell.result c.close-closed.result c.in-Ok-results.results
    (whole_load pool c.args.config.now c.args.command before after c.close-closed.result ended c.in-Ok-results.results put) c.tell.ensures.told

pub returns-clause-ends : goal.returns-clause-ends
returns-clause-ends g c =
    let pool = g.N.PoolName.pool in
    let workers = c.args.command.workers in
    let before = c.in-Ok-open.passes.items in
    let after = c.run_load-passes.result.0.items in
    let config = c.args.config.now in
    let texts = documents c.args.command.docs c.args.command.words c.args.command.seed in
    let new = opened_passes pool c.args.blank c.args.config.now (sym c.requires.blank.named) c.requires.blank.made_with c.in-Ok-open.passes.items c.in-Ok-open.ensures.passes in
    let counted = opened_counted pool c.args.blank c.args.config.now (sym c.requires.blank.named) c.requires.blank.made_with c.requires.blank.limits in
    let limits_are = opened_limits pool c.args.blank c.args.config.now (sym c.requires.blank.named) c.requires.blank.limits in
    let config_is = opened_config pool c.args.blank c.args.config.now (sym c.requires.blank.named) c.requires.blank.made_with in
    let used : AreUsedBy pool c.args.command.workers c.in-Ok-open.passes.items c.run_load-passes.result.0.items =
    record { counted = counted; new = new; numbers = c.run_load-passes.ensures.numbers; others = c.run_load-passes.ensures.others } in
    let ended : HasClosed pool c.args.config.now c.args.command c.in-Ok-open.passes.items c.run_load-passes.result.0.items c.close-closed.result = record {
      limits = limits_are;
      config_is = config_is;
      some = c.requires.load.in_range.some_workers;
      few = c.requires.load.in_range.few_docs;
      fits = c.requires.load.fits;
      used = used;
      legal = c.close-closed.ensures.legal;
      caused = c.close-closed.ensures.caused;
      sound = c.close-closed.ensures.sound;
      ends = c.close-closed.ensures.passes;
    } in
    let did = from_nothing pool c.args.config.now c.args.command before after c.close-closed.result ended c.in-Ok.load c.run_load-passes.result.1 c.in-Ok.ensures
    c.run_load-passes.ensures.put in
    let cut = on_fault (λ results. IsPut config (limits_by config) texts workers (λ _. []) (front_at after) results)
    (λ _. IsCutShort config (limits_by config) texts workers (λ _. []) (front_at after)) c.run_load-passes.result.1 c.in-Err.field-0 c.in-Err.is did in
    (refl, inl (part_of_load pool c.args.config.now c.args.command before after c.close-closed.result ended cut))

pub returns-in-Ok-results-clause-kept : goal.returns-in-Ok-results-clause-kept
returns-in-Ok-results-clause-kept g c =
    let pool = g.N.PoolName.pool in
    let limits_are = opened_limits pool c.args.blank c.args.config.now (sym c.requires.blank.named) c.requires.blank.limits in
    keeps_last pool c.args.config.now c.close-closed.result limits_are c.close-closed.ensures.base c.close-closed.ensures.commits c.close-closed.ensures.events

pub returns-clause-kept : goal.returns-clause-kept
returns-clause-kept g c =
    let pool = g.N.PoolName.pool in
    let limits_are = opened_limits pool c.args.blank c.args.config.now (sym c.requires.blank.named) c.requires.blank.limits in
    keeps_last pool c.args.config.now c.close-closed.result limits_are c.close-closed.ensures.base c.close-closed.ensures.commits c.close-closed.ensures.events
