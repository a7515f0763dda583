use Rattle.std.proofs.Common.{refl, ◌+◌, ◌<◌, rules, arith, ap, sym, ◌∙◌, subst}
use Rattle.slice_rule.specs.Pools.{PoolId}
use Rattle.slice_rule.specs.Tells.{Seated}
use Rattle.slice_rule.specs.Views.{numbered_role}
use Rattle.slice_rule.proofs.Numbering.{numbers, splits_pass}
use Rattle.slice_rule.proofs.pool.Pool.number_pass.Goals as goal

pub fetch_add-requires : goal.fetch_add-requires
fetch_add-requires c =
    let key = c.self.inside.table.shared.key.sizes in
    let in_range = subst (λ (p : PoolId). c.args.number < p.limits.passes) (sym c.self.view_is) c.requires.in_range in (
      search rules,
      search rules,
      numbers key c.self.inside.table.shared.key.config.shared.key c.self.inside.table.shared.table_id.slots c.args.home.now.id c.args.home.now.me c.args.number c.args.number (ap (λ (me : Seated). me.0.role) c.requires.home) refl in_range (omega (arith, c.ranges.number.fits)),
    )

pub split_seat-requires : goal.split_seat-requires
split_seat-requires c =
    let key = c.self.inside.table.shared.key.sizes in (
      search rules,
      search rules,
      splits_pass key c.self.inside.table.shared.key.config.shared.key c.fetch_add.new.seat.id c.fetch_add.new.seat.me.0 (c.args.number + 1) c.args.number
          (ap (λ (me : Seated). me.0.role) c.fetch_add.ensures.2 ∙ ap numbered_role (ap (λ (me : Seated). me.0.role) c.requires.home)) refl,
    )
