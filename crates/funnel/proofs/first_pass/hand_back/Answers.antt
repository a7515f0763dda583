use Rattle.std.proofs.Common.{◌≡◌, ◌++◌, ◌∷◌, [], ap, cond, not, ◌∙◌}
use Rattle.engine.specs.Passes.{PassView}
use Rattle.funnel.proofs.Passes.{only_first_used}
use Rattle.funnel.proofs.first_pass.hand_back.Goals as goal

pub returns : goal.returns
returns g c =
    let others = c.args.others.items in
    let pushed : c.push.new.self.items ≡ others ++ c.client.inside.pass ∷ [] =
    c.push.ensures.items ∙ ap (λ ok. cond ok (others ++ c.client.inside.pass ∷ []) others) (c.is_err.ensures.negation ∙ ap not c.if-is_err.false) in
    let back : c.push.new.self.items ≡ others ++ c.args.client ∷ [] = pushed ∙ ap (λ (p : PassView). others ++ p ∷ []) c.client.view_is in
    record { used = only_first_used g.N.PoolName.pool others c.push.new.self.items c.args.client c.requires.some c.requires.counted c.requires.new back c.requires.first }
