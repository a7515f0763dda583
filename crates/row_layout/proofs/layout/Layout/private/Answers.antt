use Rattle.std.proofs.Common.{rules, ◌*◌, ◌^◌, ◌<◌, ◌≤◌, length, sym, subst}
use Rattle.funnel_model.specs.Sizes.{private_words, words_of_slice}
use Rattle.row_layout.specs.Layouts.{LayoutId}
use Rattle.row_layout.proofs.Spans.{private-fits, slice-small}
use Rattle.row_layout.proofs.layout.Layout.private.Goals as goal

pub overflow_mul-result : goal.overflow_mul-result
overflow_mul-result c =
    let config = c.self.inside.config in
    let small : words_of_slice config ≤ 33554432 = slice-small config c.self.inside.room c.self.invariant.in_range c.self.invariant.fits c.self.invariant.small_pool in
    let fits : c.args.number * c.width_of-width.result < 2 ^ 32 = subst (λ w. c.args.number * w < 2 ^ 32) (sym c.width_of-width.ensures.value)
    (private-fits config small c.args.number (subst (λ (l : LayoutId). c.args.number < length (private_words l.config)) (sym c.self.view_is) c.requires)) in
    search rules
