use Rattle.std.proofs.Common.{◌≡◌, List, ◌++◌, length, map, reverse, sym, ap, ◌∙◌, subst, arith}
use Rattle.std.proofs.lemmas.List.{length-map, take_at}
use Rattle.engine.specs.Passes.{PassView}
use Rattle.funnel_server.specs.Loads.{front_at}
use Rattle.funnel_server.specs.Parts.{AreWorkers, LoaderState, passes_of}
use Rattle.funnel_server.proofs.LoadPasses.{are_workers, ends_along, front_before, nothing_put, same_numbers}
use Rattle.funnel_server.proofs.loads.run_load.Goals as goal

pub run_parts-results-requires-clause-workers : goal.run_parts-results-requires-clause-workers
run_parts-results-requires-clause-workers g c =
    λ _ _. subst (AreWorkers c.args.workers) (sym c.deref_mut.ensures.value)
    (are_workers c.args.workers c.equip.new.loaders.items (reverse c.equip.new.passes.items) c.args.passes.items c.equip.ensures.passes c.equip.ensures.count c.requires.numbers)

pub returns-clause-numbers : goal.returns-clause-numbers
returns-clause-numbers g c =
    let before = c.equip.new.loaders.items in
    let after = c.run_parts-results.new.loaders in
    let others = reverse c.equip.new.passes.items in
    let were = are_workers c.args.workers before others c.args.passes.items c.equip.ensures.passes c.equip.ensures.count c.requires.numbers in
    let all : length after ≡ c.equip.new.loaders.len = c.run_parts-results.ensures.workers.count ∙ sym c.equip.ensures.count ∙ sym c.equip.new.loaders.ok.0 in
    let back : c.take_back.new.passes.items ≡ passes_of after ++ others =
    c.take_back.ensures.passes ∙ ap (λ (ls : List LoaderState). passes_of ls ++ others) (take_at after _ c.equip.new.loaders.len all) in
    ap (map (λ (pass : PassView). pass.number)) back
    ∙ same_numbers c.args.workers before after others were c.run_parts-results.ensures.workers
    ∙ ap (map (λ (pass : PassView). pass.number)) c.equip.ensures.passes

pub returns-clause-put : goal.returns-clause-put
returns-clause-put g c =
    let workers = c.args.workers in
    let before = c.equip.new.loaders.items in
    let after = c.run_parts-results.new.loaders in
    let others = reverse c.equip.new.passes.items in
    let all : length after ≡ c.equip.new.loaders.len = c.run_parts-results.ensures.workers.count ∙ sym c.equip.ensures.count ∙ sym c.equip.new.loaders.ok.0 in
    let back : c.take_back.new.passes.items ≡ passes_of after ++ others =
    c.take_back.ensures.passes ∙ ap (λ (ls : List LoaderState). passes_of ls ++ others) (take_at after _ c.equip.new.loaders.len all) in
    let given = c.deref_mut.ensures.value in
    let many : length c.deref_mut.result.now ≡ workers = ap length given ∙ c.equip.ensures.count in
    ends_along g.N.PoolName.pool.config g.N.PoolName.pool.limits c.args.load.now workers (front_at (passes_of c.deref_mut.result.now)) (front_at (passes_of after)) (front_at c.args.passes.items)
    (front_at c.take_back.new.passes.items)
    (λ k small.
    sym (front_before (passes_of c.deref_mut.result.now) others k (omega (arith, small, many, length-map c.deref_mut.result.now (λ (l : LoaderState). l.pass))))
    ∙ ap (λ (ps : List PassView). front_at ps k) (ap (λ (ls : List LoaderState). passes_of ls ++ others) given ∙ c.equip.ensures.passes))
    (λ k small.
    sym (front_before (passes_of after) others k (omega (arith, small, c.run_parts-results.ensures.workers.count, length-map after (λ (l : LoaderState). l.pass))))
    ∙ ap (λ (ps : List PassView). front_at ps k) (sym back))
    c.run_parts-results.result c.run_parts-results.ensures.put

pub returns-in_default-clause-put : goal.returns-in_default-clause-put
returns-in_default-clause-put g c = nothing_put g.N.PoolName.pool.config g.N.PoolName.pool.limits c.args.load.now c.args.workers (front_at c.args.passes.items)
