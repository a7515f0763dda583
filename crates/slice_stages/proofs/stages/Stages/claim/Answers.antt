use Rattle.std.proofs.Common.{◌<◌, length, sym, ◌∙◌, subst, arith}
use Rattle.slice_stages.specs.Stages.{HasLeft, StageTable, stage_of}
use Rattle.slice_stages.proofs.Spare.{spare-claim}
use Rattle.slice_stages.proofs.SetLemmas.{sets-claim, sets-fill}
use Rattle.slice_stages.proofs.StageReads.{read_stage}
use Rattle.slice_stages.proofs.stages.Stages.claim.Goals as goal

pub invariant_of-self : goal.invariant_of-self
invariant_of-self c =
    let t : StageTable = record { columns = c.self.inside.columns; stages = c.self.inside.stages.items; mark = c.self.inside.mark } in
    let in' : c.args.slice < length t.stages = subst (λ (x : StageTable). c.args.slice < length x.stages) (sym c.self.view_is) c.requires.in_range in
    let is = read_stage t c.args.self.now c.args.slice c.index.result.now c.self.view_is in' c.index.ensures ∙ c.in-InUse.is in
    record {
      sets = sets-fill t c.self.inside.in_use c.self.inside.with_room c.self.inside.clearable c.self.inside.waiting c.args.slice c.self.invariant.sets in'
          c.in-InUse.claimed c.in-InUse.over c.remove.new.self is c.if-claimed-self.true c.remove.ensures;
      counted = spare-claim t c.args.slice c.self.inside.spare c.in-InUse.claimed c.in-InUse.over in' is (let last = c.if-claimed-self.true in omega arith) c.self.invariant.counted;
    }

pub invariant_of-self-else-claimed-self : goal.invariant_of-self-else-claimed-self
invariant_of-self-else-claimed-self c =
    let t : StageTable = record { columns = c.self.inside.columns; stages = c.self.inside.stages.items; mark = c.self.inside.mark } in
    let in' : c.args.slice < length t.stages = subst (λ (x : StageTable). c.args.slice < length x.stages) (sym c.self.view_is) c.requires.in_range in
    let is = read_stage t c.args.self.now c.args.slice c.index.result.now c.self.view_is in' c.index.ensures ∙ c.in-InUse.is in
    let left : c.in-InUse.claimed < t.columns = subst (HasLeft t.columns) is (subst (λ (x : StageTable). HasLeft x.columns (stage_of x c.args.slice)) (sym c.self.view_is) c.requires.left) in
    let apart = c.if-claimed-self.false in
    record {
      sets = sets-claim t c.self.inside.in_use c.self.inside.with_room c.self.inside.clearable c.self.inside.waiting c.args.slice c.self.invariant.sets in'
          c.in-InUse.claimed c.in-InUse.over is (omega arith);
      counted = spare-claim t c.args.slice c.self.inside.spare c.in-InUse.claimed c.in-InUse.over in' is left c.self.invariant.counted;
    }
