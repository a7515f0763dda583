use Rattle.std.proofs.Common.{◌+◌, ◌<◌, length, sym, ap, ◌∙◌, subst, arith}
use Rattle.slice_stages.specs.Stages.{StageTable}
use Rattle.slice_stages.specs.declared.stage.Stage.TheVariants as stage
use Rattle.slice_stages.proofs.Spare.{spare-same}
use Rattle.slice_stages.proofs.SetLemmas.{sets-end}
use Rattle.slice_stages.proofs.StageReads.{read_stage}
use Rattle.std.proofs.lemmas.List.Elements.{All-get_or}
use Rattle.slice_stages.specs.Sets.{HasColumnsLeft}
use Rattle.slice_stages.specs.Stages.{empty_stage, spare_in}
use Rattle.slice_stages.proofs.stages.Stages.end_column.Goals as goal

pub invariant_of-self : goal.invariant_of-self
invariant_of-self c =
    let t : StageTable = record { columns = c.self.inside.columns; stages = c.self.inside.stages.items; mark = c.self.inside.mark } in
    let in' : c.args.slice < length t.stages = subst (λ (x : StageTable). c.args.slice < length x.stages) (sym c.self.view_is) c.requires.in_range in
    let is = read_stage t c.args.self.now c.args.slice c.index.result.now c.self.view_is in' c.index.ensures ∙ c.in-InUse.is in
    let within : c.in-InUse.over < t.columns = subst (HasColumnsLeft t.columns) is (All-get_or (HasColumnsLeft t.columns) t.stages c.args.slice empty_stage in' c.self.invariant.sets.within) in
    let apart = c.if-over-self.false in
    record {
      sets = sets-end t c.self.inside.in_use c.self.inside.with_room c.self.inside.clearable c.self.inside.waiting c.args.slice c.self.invariant.sets in' c.in-InUse.claimed c.in-InUse.over is (omega arith);
      counted = spare-same t c.args.slice c.self.inside.spare (stage.InUse c.in-InUse.claimed (c.in-InUse.over + 1)) in' (sym (ap (spare_in t.columns) is)) c.self.invariant.counted;
    }
