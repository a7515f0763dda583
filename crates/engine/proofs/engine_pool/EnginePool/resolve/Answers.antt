use Rattle.std.proofs.Common.{List, ℕ, subst}
use Rattle.engine.specs.Finds.{FindsIn}
use Rattle.engine.proofs.engine_pool.EnginePool.resolve.Goals as goal

pub drop_find-requires : goal.drop_find-requires
drop_find-requires g c = record { at = c.requires.at; finding = c.requires.finding }

pub returns-in_default-clause-goes_on : goal.returns-in_default-clause-goes_on
returns-in_default-clause-goes_on g c = (c.drop_find.ensures.turn, c.drop_find.ensures.rests)

-- room for what the candidates give leaves what was found
pub returns-clause-found : goal.returns-clause-found
returns-clause-found g c =
    subst (λ (before : List (ℕ × ℕ)). FindsIn (g.J.Judge.test c.args.part.judge.now) c.args.pass.now c.args.token c.args.part.candidates.now before c.resolve_all.new.out.found) c.reserve.ensures.found
    c.resolve_all.ensures.found
