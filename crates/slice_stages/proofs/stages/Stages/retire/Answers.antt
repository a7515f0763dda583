use Rattle.std.proofs.Common.{◌+◌, ◌<◌, All, length, sym, ap, ◌∙◌, subst, arith}
use Rattle.slice_stages.specs.Stages.{IsUsed, RetiredBefore, StageTable, stage_of}
use Rattle.slice_stages.proofs.Spare.{few_spare, spare-retire}
use Rattle.slice_stages.proofs.SetLemmas.{sets-retire, used_not_waiting, waiting_few}
use Rattle.slice_stages.proofs.stages.Stages.retire.Goals as goal

pub unreachable-requires : goal.unreachable-requires
unreachable-requires c =
    let t : StageTable = record { columns = c.self.inside.columns; stages = c.self.inside.stages.items; mark = c.self.inside.mark } in
    let in' : c.args.slice < length t.stages = subst (λ (x : StageTable). c.args.slice < length x.stages) (sym c.self.view_is) c.requires.in_range in
    let is = ap (λ (x : StageTable). stage_of x c.args.slice) c.self.view_is ∙ c.requires.used.1 in
    let used = subst IsUsed (sym is) tt in
    let few = waiting_few t c.self.inside.waiting.items c.args.slice c.self.invariant.sets.queue in' (used_not_waiting t.mark (stage_of t c.args.slice) used) in
    let room = c.self.invariant.sets.room in
    let is_ok = c.in_default.ensures.variant.1 (omega arith) in
    cc

pub invariant_of-self : goal.invariant_of-self
invariant_of-self c =
    let t : StageTable = record { columns = c.self.inside.columns; stages = c.self.inside.stages.items; mark = c.self.inside.mark } in
    let in' : c.args.slice < length t.stages = subst (λ (x : StageTable). c.args.slice < length x.stages) (sym c.self.view_is) c.requires.in_range in
    let is = ap (λ (x : StageTable). stage_of x c.args.slice) c.self.view_is ∙ c.requires.used.1 in
    let used = subst IsUsed (sym is) tt in
    record {
      sets = sets-retire t c.self.inside.in_use c.self.inside.with_room c.self.inside.clearable c.self.inside.waiting c.args.slice c.self.invariant.sets in' c.args.event
          c.remove.new.self c.remove-2.new.self c.try_push_back.new.self used
          (subst (λ (x : StageTable). x.mark < c.args.event) (sym c.self.view_is) c.requires.later)
          (subst (λ (x : StageTable). All (RetiredBefore c.args.event) x.stages) (sym c.self.view_is) c.requires.last)
          c.remove.ensures c.remove-2.ensures c.in-Ok.ensures.ok;
      counted = ap (λ n. c.self.inside.spare + n) c.min.ensures ∙ spare-retire t c.args.slice c.self.inside.spare c.args.claimed c.requires.used.0 c.args.event in' is c.self.invariant.counted;
    }

pub overflow_add-self : goal.overflow_add-self
overflow_add-self c =
    let t : StageTable = record { columns = c.self.inside.columns; stages = c.self.inside.stages.items; mark = c.self.inside.mark } in
    let few = few_spare t c.self.inside.spare c.args.claimed c.min.result c.self.invariant.sets.few (let h = c.self.ranges.0 in omega arith) c.self.invariant.counted c.min.ensures in
    omega (arith, few)
