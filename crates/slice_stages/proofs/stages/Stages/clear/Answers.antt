use Rattle.std.proofs.Common.{◌<◌, length, sym, subst}
use Rattle.slice_stages.specs.Stages.{IsRetiredBy, StageTable, stage_of}
use Rattle.slice_stages.specs.declared.stage.Stage.TheVariants as stage
use Rattle.slice_stages.proofs.Spare.{all_spare, retired_unused, spare-same}
use Rattle.slice_stages.proofs.SetLemmas.{sets-clear}
use Rattle.slice_stages.proofs.stages.Stages.clear.Goals as goal

pub invariant_of-self : goal.invariant_of-self
invariant_of-self c =
    let t : StageTable = record { columns = c.self.inside.columns; stages = c.self.inside.stages.items; mark = c.self.inside.mark } in
    let in' : c.args.slice < length t.stages = subst (λ (x : StageTable). c.args.slice < length x.stages) (sym c.self.view_is) c.requires.in_range in
    let able = subst (λ (x : StageTable). IsRetiredBy x.mark (stage_of x c.args.slice)) (sym c.self.view_is) c.requires.clearable in
    record {
      sets = sets-clear t c.self.inside.in_use c.self.inside.with_room c.self.inside.clearable c.self.inside.waiting c.args.slice c.self.invariant.sets in' c.args.pass c.remove.new.self able c.remove.ensures;
      counted = spare-same t c.args.slice c.self.inside.spare (stage.Clearing c.args.pass) in' (sym (all_spare t.columns (stage_of t c.args.slice) (retired_unused t.mark (stage_of t c.args.slice) able))) c.self.invariant.counted;
    }
