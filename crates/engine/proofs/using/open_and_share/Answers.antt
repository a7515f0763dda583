use Rattle.std.proofs.Common.{rules, ◌≡◌, length, ap, ◌∙◌, arith}
use Rattle.std.proofs.lemmas.List.FromFn.{length-map-range_with_len}
use Rattle.engine.specs.Passes.{new_pass}
use Rattle.engine.proofs.using.open_and_share.Goals as goal

pub returns : goal.returns
returns g c =
    let at_end : length c.loop-pass.pass-iterator.rest.items ≡ 0 = search (rules, c.in-None.ensures.steps) in
    let begun : length c.into_iter-pass-iterator.result.rest.items ≡ length c.in_ok-worked.worked.items = ap length c.into_iter-pass-iterator.ensures.into_iter_gives.0 in
    let passes : length c.in_ok-engine.passes.items ≡ c.args.config.now.passes =
    ap length c.in_ok-engine.ensures.passes ∙ length-map-range_with_len new_pass 0 c.args.config.now.passes in
    let each = c.in_ok-worked.ensures.each in
    record { outputs = omega (arith, c.loop-pass.invariant, at_end, begun, each, passes) }
