use Rattle.std.proofs.Common.{refl, arith, rules}
use Rattle.slice_rule.specs.declared.view.Fact.TheVariants as fact
use Rattle.slice_rule.specs.Views.{last_of}
use Rattle.slice_rule.proofs.OwnSteps as steps
use Rattle.slice_rule.proofs.Clearing.{clears_word}
use Rattle.slice_rule.proofs.pool.Pool.clear_word.Goals as goal

pub overflow_add-self-inside : goal.overflow_add-self-inside
overflow_add-self-inside c =
    let at = steps.at c.self.invariant c.self.view_is c.seat.invariant c.seat.view_is c.requires.pool in
    let fits = (steps.job_word at c.args.job.now c.args.word c.requires.job c.requires.inside).fits in
    omega arith

pub store-requires : goal.store-requires
store-requires c =
    let at = steps.at c.self.invariant c.self.view_is c.seat.invariant c.seat.view_is c.requires.pool in
    let job = c.args.job.now in (
      search rules,
      (steps.job_word at job c.args.word c.requires.job c.requires.inside).within,
      rw (c.self.invariant.row) (clears_word c.self.inside.table.shared.key.sizes c.self.inside.table.shared.key.config.shared.key c.self.inside.table.shared.table_id.slots c.seat.inside.seat.id c.seat.inside.seat.me
          c.seat.inside.number job.slice c.args.word (steps.sizes_are at) c.seat.invariant.role (steps.job_is at job c.requires.job)
          (steps.all_seen at c.requires.none_outstanding) (steps.inside_here at job.slice c.args.word c.requires.inside)),
    )

pub invariant_of-seat : goal.invariant_of-seat
invariant_of-seat c =
    let at = steps.at c.self.invariant c.self.view_is c.seat.invariant c.seat.view_is c.requires.pool in
    steps.own_seat at (fact.WordZero (last_of c.seat.inside.seat.me.0) c.args.word) refl (c.store.ensures.2 c.args.word (steps.there at c.args.word))

pub returns : goal.returns
returns c =
    let at = steps.at c.self.invariant c.self.view_is c.seat.invariant c.seat.view_is c.requires.pool in
    steps.own_view at (λ n. fact.WordZero n c.args.word) (steps.last_is at) c.store.ensures.0 (c.store.ensures.2 c.args.word (steps.there at c.args.word))
