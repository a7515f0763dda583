use Rattle.std.proofs.Common.{◌<◌, length, sym, refl, ◌∙◌, subst, arith}
use Rattle.slice_stages.specs.Stages.{RetiredIn, StageTable, stage_of}
use Rattle.slice_stages.proofs.SetLemmas.{front_waits, none_until, none_wait, sets-move}
use Rattle.slice_stages.proofs.StageReads.{empty_is, waits_is_retired}
use Rattle.std.proofs.lemmas.List.{get_or_default}
use Rattle.slice_stages.specs.Sets.{IsWaiting}
use Rattle.slice_stages.specs.Stages.{empty_stage}
use Rattle.slice_stages.proofs.stages.Stages.look_once.Goals as goal

pub returns-in_default-clause-done : goal.returns-in_default-clause-done
returns-in_default-clause-done c _ =
    let t : StageTable = record { columns = c.self.inside.columns; stages = c.self.inside.stages.items; mark = c.self.inside.mark } in (
      refl,
      λ slice in' between.
          none_wait t c.self.inside.in_use c.self.inside.with_room c.self.inside.clearable c.self.inside.waiting c.self.invariant.sets c.args.mark (empty_is c.self.inside.waiting.items (sym c.front.ensures ∙ sym c.copied.ensures ∙ c.in_default.is)) slice
          (subst (λ (x : StageTable). slice < length x.stages) (sym c.self.view_is) in')
          (subst (λ (x : StageTable). RetiredIn x.mark c.args.mark (stage_of x slice)) (sym c.self.view_is) between),
    )

pub index-requires : goal.index-requires
index-requires c =
    let t : StageTable = record { columns = c.self.inside.columns; stages = c.self.inside.stages.items; mark = c.self.inside.mark } in
    let front = sym (c.front.ensures) ∙ sym c.copied.ensures ∙ c.in-Some.is in
    let here = front_waits t c.self.inside.in_use c.self.inside.with_room c.self.inside.clearable c.self.inside.waiting c.self.invariant.sets c.in-Some.slice front in
    omega (arith, here.0)

pub unreachable-requires : goal.unreachable-requires
unreachable-requires c =
    let t : StageTable = record { columns = c.self.inside.columns; stages = c.self.inside.stages.items; mark = c.self.inside.mark } in
    let front = sym (c.front.ensures) ∙ sym c.copied.ensures ∙ c.in-Some.is in
    let here = front_waits t c.self.inside.in_use c.self.inside.with_room c.self.inside.clearable c.self.inside.waiting c.self.invariant.sets c.in-Some.slice front in
    let is = get_or_default t.stages c.in-Some.slice empty_stage c.index.result.now here.0 ∙ sym c.index.ensures in
    waits_is_retired t.mark c.index.result.now (subst (IsWaiting t.mark) is here.1) c.in_default-index.not-Retired

pub returns-then-mark-at-clause-done : goal.returns-then-mark-at-clause-done
returns-then-mark-at-clause-done c _ =
    let t : StageTable = record { columns = c.self.inside.columns; stages = c.self.inside.stages.items; mark = c.self.inside.mark } in
    let front = sym (c.front.ensures) ∙ sym c.copied.ensures ∙ c.in-Some.is in
    let here = front_waits t c.self.inside.in_use c.self.inside.with_room c.self.inside.clearable c.self.inside.waiting c.self.invariant.sets c.in-Some.slice front in
    let is = get_or_default t.stages c.in-Some.slice empty_stage c.index.result.now here.0 ∙ sym c.index.ensures ∙ c.in-Retired.is in (
      refl,
      λ slice in' between.
          none_until t c.self.inside.in_use c.self.inside.with_room c.self.inside.clearable c.self.inside.waiting c.self.invariant.sets c.in-Some.slice c.in-Retired.at c.args.mark front is c.if-mark-at.true slice
          (subst (λ (x : StageTable). slice < length x.stages) (sym c.self.view_is) in')
          (subst (λ (x : StageTable). RetiredIn x.mark c.args.mark (stage_of x slice)) (sym c.self.view_is) between),
    )

pub add-requires : goal.add-requires
add-requires c =
    let t : StageTable = record { columns = c.self.inside.columns; stages = c.self.inside.stages.items; mark = c.self.inside.mark } in
    let front = sym (c.front.ensures) ∙ sym c.copied.ensures ∙ c.in-Some.is in
    let here = front_waits t c.self.inside.in_use c.self.inside.with_room c.self.inside.clearable c.self.inside.waiting c.self.invariant.sets c.in-Some.slice front in
    let few = c.self.invariant.sets.few in
    omega (arith, here.0)

pub invariant_of-self : goal.invariant_of-self
invariant_of-self c =
    let t : StageTable = record { columns = c.self.inside.columns; stages = c.self.inside.stages.items; mark = c.self.inside.mark } in
    let front = sym (c.front.ensures) ∙ sym c.copied.ensures ∙ c.in-Some.is in
    let here = front_waits t c.self.inside.in_use c.self.inside.with_room c.self.inside.clearable c.self.inside.waiting c.self.invariant.sets c.in-Some.slice front in
    let is = get_or_default t.stages c.in-Some.slice empty_stage c.index.result.now here.0 ∙ sym c.index.ensures ∙ c.in-Retired.is in
    record {
      sets = sets-move t c.self.inside.in_use c.self.inside.with_room c.self.inside.clearable c.self.inside.waiting c.self.invariant.sets c.in-Some.slice c.in-Retired.at c.add.new.self c.pop_front.new.self front is c.add.ensures c.pop_front.ensures.items;
      counted = c.self.invariant.counted;
    }

pub returns-clause-moved : goal.returns-clause-moved
returns-clause-moved c _ =
    let t : StageTable = record { columns = c.self.inside.columns; stages = c.self.inside.stages.items; mark = c.self.inside.mark } in
    let front = sym (c.front.ensures) ∙ sym c.copied.ensures ∙ c.in-Some.is in
    let here = front_waits t c.self.inside.in_use c.self.inside.with_room c.self.inside.clearable c.self.inside.waiting c.self.invariant.sets c.in-Some.slice front in
    let is = get_or_default t.stages c.in-Some.slice empty_stage c.index.result.now here.0 ∙ sym c.index.ensures ∙ c.in-Retired.is in
    let later : t.mark < c.in-Retired.at = subst (IsWaiting t.mark) is here.1 in
    subst (λ (x : StageTable). x.mark < c.in-Retired.at) c.self.view_is later
