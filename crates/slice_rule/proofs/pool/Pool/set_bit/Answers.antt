use Rattle.std.proofs.Common.{◌≡◌, ◌*◌, ◌%◌, ◌^◌, refl, arith, rules}
use Rattle.slice_rule.specs.declared.view.Fact.TheVariants as fact
use Rattle.slice_rule.specs.Views.{last_of}
use Rattle.slice_rule.proofs.OwnSteps as steps
use Rattle.slice_rule.proofs.Setting.{one_shifted, sets}
use Rattle.slice_rule.proofs.pool.Pool.set_bit.Goals as goal

pub overflow_add-self-inside : goal.overflow_add-self-inside
overflow_add-self-inside c =
    let at = steps.at c.self.invariant c.self.view_is c.seat.invariant c.seat.view_is c.requires.pool in
    let fits = (steps.claim_word at c.args.claim.now c.args.word c.requires.claim c.requires.inside).fits in
    omega arith

pub fetch_or-requires : goal.fetch_or-requires
fetch_or-requires c =
    let at = steps.at c.self.invariant c.self.view_is c.seat.invariant c.seat.view_is c.requires.pool in
    let claim = c.args.claim.now in
    let mask : 1 * 2 ^ c.args.bit % 2 ^ 64 ≡ 2 ^ c.args.bit = one_shifted c.args.bit c.requires.bit in (
      search rules,
      (steps.claim_word at claim c.args.word c.requires.claim c.requires.inside).within,
      rw (c.self.invariant.row, mask) (sets c.self.inside.table.shared.key.sizes c.self.inside.table.shared.key.config.shared.key c.self.inside.table.shared.table_id.slots c.seat.inside.seat.id c.seat.inside.seat.me
          c.seat.inside.number claim.slice claim.column c.args.word c.args.bit (steps.sizes_are at) c.seat.invariant.role (steps.claim_is at claim c.requires.claim)
          (steps.all_seen at c.requires.none_outstanding) (steps.inside_here at claim.slice c.args.word c.requires.inside)
          (steps.keeps_here at claim (record { word = c.args.word; bit = c.args.bit }) c.requires.owner)),
    )

pub invariant_of-seat : goal.invariant_of-seat
invariant_of-seat c =
    let at = steps.at c.self.invariant c.self.view_is c.seat.invariant c.seat.view_is c.requires.pool in
    steps.own_seat at (fact.BitSet (last_of c.seat.inside.seat.me.0) (record { word = c.args.word; bit = c.args.bit })) refl
    (c.fetch_or.ensures.2 c.args.word c.args.bit (steps.there at c.args.word) (one_shifted c.args.bit c.requires.bit))

pub returns : goal.returns
returns c =
    let at = steps.at c.self.invariant c.self.view_is c.seat.invariant c.seat.view_is c.requires.pool in
    steps.own_view at (λ n. fact.BitSet n (record { word = c.args.word; bit = c.args.bit })) (steps.last_is at) c.fetch_or.ensures.0
    (c.fetch_or.ensures.2 c.args.word c.args.bit (steps.there at c.args.word) (one_shifted c.args.bit c.requires.bit))
