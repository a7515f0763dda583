use Rattle.std.proofs.Common.{◌≡◌, ◌↔◌, Contains, sym, ap, subst}
use Rattle.row_layout.specs.DocumentBits.{BitsState, in_order}
use Rattle.row_layout.proofs.InOrder.{in_order-has}
use Rattle.row_layout.proofs.bits.Bits.as_slice.Goals as goal

pub returns : goal.returns
returns c bit =
    let bits = c.self.inside.bits.items in
    let seen : c.args.self.now.bits ≡ in_order bits = sym (ap (λ (it : BitsState). it.bits) c.self.view_is) in
    let same = in_order-has bits bit in
    subst (λ held. Contains held bit ↔ Contains c.args.self.now.bits bit) (sym c.as_slice.ensures.value)
    (subst (λ held. Contains bits bit ↔ Contains held bit) (sym seen) (same.1, same.0))
