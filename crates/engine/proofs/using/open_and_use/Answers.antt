use Rattle.std.proofs.Common.{◌≤◌, length, ap, sym, subst, ◌∙◌}
use Rattle.std.proofs.lemmas.List.FromFn.{length-map-range_with_len}
use Rattle.engine.specs.Passes.{new_pass}
use Rattle.engine.proofs.using.open_and_use.Goals as goal

pub run-requires-clause-some : goal.run-requires-clause-some
run-requires-clause-some g c =
    let count = ap length c.in_ok-engine.ensures.passes ∙ length-map-range_with_len new_pass 0 c.args.config.now.passes in
    subst (λ n. 1 ≤ n) (sym count) c.requires.valid.in_range.passes.0
