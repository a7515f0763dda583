use Rattle.std.proofs.Common.{ℕ, List, sym, subst}
use Rattle.slice_stages.specs.Sets.{AreAll}
use Rattle.slice_stages.specs.Stages.{IsUsed, StageTable}
use Rattle.slice_stages.proofs.stages.Stages.in_use.Goals as goal

pub returns : goal.returns
returns c =
    subst (λ (seen : List ℕ). AreAll IsUsed c.args.self.now seen) (sym c.copy.ensures)
    (subst (λ (x : StageTable). AreAll IsUsed x c.self.inside.in_use) c.self.view_is c.self.invariant.sets.used)
