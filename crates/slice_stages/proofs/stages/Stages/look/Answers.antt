use Rattle.std.proofs.Common.{◌≡◌, ◌<◌, ◌≤◌, length, sym, ap, refl, ◌∙◌, subst, arith}
use Rattle.slice_stages.specs.Stages.{RetiredIn, StageTable, stage_of}
use Rattle.slice_stages.proofs.SetLemmas.{sets-mark}
use Rattle.slice_stages.proofs.stages.Stages.look.Goals as goal

pub loop-init : goal.loop-init
loop-init c = (refl, c.requires)

pub look_once-requires : goal.look_once-requires
look_once-requires c = c.loop.invariant.1

pub loop-smaller : goal.loop-smaller
loop-smaller c = let moved = c.loop-test.ensures.moved refl in let within = c.loop-test.ensures.within in omega arith

pub loop-preserved : goal.loop-preserved
loop-preserved c = (c.look_once.ensures.same ∙ ap (λ (x : StageTable). record x { mark = c.look_once.new.self.mark }) c.loop.invariant.0, c.look_once.ensures.within)

pub invariant_of-self : goal.invariant_of-self
invariant_of-self c =
    let t : StageTable = record { columns = c.self.inside.columns; stages = c.self.inside.stages.items; mark = c.self.inside.mark } in
    let done = c.loop-test.ensures.done refl in
    let is : t ≡ c.look_once.new.self = c.self.view_is in
    let same : t ≡ c.loop.self = is ∙ c.look_once.ensures.same ∙ ap (λ n. record c.loop.self { mark = n }) done.0 in
    record {
      sets = sets-mark t c.self.inside.in_use c.self.inside.with_room c.self.inside.clearable c.self.inside.waiting c.self.invariant.sets c.args.mark
          (subst (λ (x : StageTable). x.mark ≤ c.args.mark) (sym same) c.loop.invariant.1)
          (λ slice in' between. done.1 slice (subst (λ (x : StageTable). slice < length x.stages) same in')
          (subst (λ (x : StageTable). RetiredIn x.mark c.args.mark (stage_of x slice)) same between));
      counted = c.self.invariant.counted;
    }

pub returns : goal.returns
returns c =
    let done = c.loop-test.ensures.done refl in
    ap (λ (x : StageTable). record x { mark = c.args.mark })
    (c.self.view_is ∙ c.look_once.ensures.same ∙ ap (λ (x : StageTable). record x { mark = c.look_once.new.self.mark }) c.loop.invariant.0)
