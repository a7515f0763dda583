use Rattle.std.proofs.Common.{ℕ, List, replicate, sym, ap, ◌∙◌, subst}
use Rattle.circular_buffer.specs.Buffer.{Buffer}
use Rattle.slice_stages.specs.Sets.{AreSets}
use Rattle.slice_stages.specs.declared.stage.Stage.{Stage}
use Rattle.slice_stages.specs.Stages.{empty_stage, spare_in}
use Rattle.std.specs.List.{sum_by}
use Rattle.slice_stages.proofs.Spare.{spare-new}
use Rattle.slice_stages.proofs.SetLemmas.{sets-new}
use Rattle.slice_stages.proofs.stages.Stages.new.Goals as goal

pub invariant_of-result : goal.invariant_of-result
invariant_of-result c =
    let stages = c.in_ok-vec.ensures.items_if_clones_equal (λ y is. is) in
    record {
      sets = subst (λ (xs : List Stage). AreSets (record { columns = c.args.columns; stages = xs; mark = 0 }) c.all_below.result c.all_below-2.result c.new.result c.in_ok-with_capacity.field-0) (sym stages)
          (subst (λ (q : Buffer ℕ). AreSets (record { columns = c.args.columns; stages = replicate c.args.slices empty_stage; mark = 0 }) c.all_below.result c.all_below-2.result c.new.result q) (sym (c.in_ok-with_capacity.ensures))
          (sets-new c.args.slices c.args.columns c.all_below.result c.all_below-2.result c.new.result c.requires.few c.requires.some c.all_below.ensures c.all_below-2.ensures c.new.ensures));
      counted = sym (ap (sum_by (spare_in c.args.columns)) stages ∙ spare-new c.args.columns c.args.slices);
    }

pub returns-clause-stages : goal.returns-clause-stages
returns-clause-stages c = c.in_ok-vec.ensures.items_if_clones_equal (λ y is. is)
