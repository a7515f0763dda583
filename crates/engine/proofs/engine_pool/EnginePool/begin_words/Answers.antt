use Rattle.std.proofs.Common.{ℕ, List, inl, refl, sym, subst}
use Rattle.engine.proofs.Finds.{scan_begun}
use Rattle.funnel_model.specs.Legal.{IsLegal}
use Rattle.funnel_model.specs.Words.{AreWordsOf}
use Rattle.slice_rule.specs.Pools.{PoolId}
use Rattle.engine.proofs.engine_pool.EnginePool.begin_words.Goals as goal

pub returns-in_default-clause-legal : goal.returns-in_default-clause-legal
returns-in_default-clause-legal g c = subst (λ (p : PoolId). IsLegal p.limits c.args.pass.now.front) c.requires.pass.seated.same c.number.ensures.legal

pub returns-in_default-clause-turns : goal.returns-in_default-clause-turns
returns-in_default-clause-turns g c = inl refl

pub returns-clause-begun : goal.returns-clause-begun
returns-clause-begun g c =
    let pass = c.args.pass.now in
    let began = c.in_ok-token.ensures in
    let search = c.of_words-search in
    scan_begun c.args.self.now.limits pass.number c.args.query.now pass.front c.args.self.now c.begin.new.pass c.in_ok-token.token search.result c.begin.new.layouts.entries.items began.number
    began.turns began.begun (subst (λ (set : List (List ℕ)). AreWordsOf set c.args.query.now) (sym search.ensures.words) c.in-Ok.ensures) search.ensures.residue
