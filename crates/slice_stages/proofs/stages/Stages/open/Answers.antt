use Rattle.std.proofs.Common.{◌<◌, length, sym, ap, ◌∙◌, subst, arith}
use Rattle.slice_stages.specs.Stages.{StageTable, empty_stage, spare_in, stage_of}
use Rattle.slice_stages.proofs.Spare.{spare-same}
use Rattle.slice_stages.proofs.SetLemmas.{sets-open}
use Rattle.slice_stages.proofs.stages.Stages.open.Goals as goal

pub invariant_of-self : goal.invariant_of-self
invariant_of-self c =
    let t : StageTable = record { columns = c.self.inside.columns; stages = c.self.inside.stages.items; mark = c.self.inside.mark } in
    let in' : c.args.slice < length t.stages = subst (λ (x : StageTable). c.args.slice < length x.stages) (sym c.self.view_is) c.requires.in_range in
    let clearing = ap (λ (x : StageTable). stage_of x c.args.slice) c.self.view_is ∙ c.requires.clearing.1 in
    record {
      sets = sets-open t c.self.inside.in_use c.self.inside.with_room c.self.inside.clearable c.self.inside.waiting c.args.slice c.self.invariant.sets in' c.requires.clearing.0 c.add.new.self c.add-2.new.self
          clearing c.add.ensures c.add-2.ensures;
      counted = spare-same t c.args.slice c.self.inside.spare empty_stage in' (let was = ap (spare_in t.columns) clearing in omega (arith, was)) c.self.invariant.counted;
    }
