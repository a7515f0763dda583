use Rattle.std.proofs.Common.{◌≡◌, length, sym, ◌∙◌, arith}
use Rattle.funnel_model.proofs.SliceSetLemmas.{first_is_lowest, first_used_is, none_used}
use Rattle.funnel_model.proofs.slice_set.SliceSet.lowest.Goals as goal

pub returns-in_default : goal.returns-in_default
returns-in_default c =
    let long : length c.self.inside.words ≡ 16 = omega arith in
    none_used c.self.inside.words c.args.self.now c.self.view_is long (sym c.first_used.ensures ∙ c.in_default.is)

pub lowest_bit-requires : goal.lowest_bit-requires
lowest_bit-requires c = (first_used_is c.self.inside.words c.in-Some.index (sym c.first_used.ensures ∙ c.in-Some.is)).1

pub returns : goal.returns
returns c =
    let long : length c.self.inside.words ≡ 16 = omega arith in
    first_is_lowest c.self.inside.words c.args.self.now c.in-Some.index c.lowest_bit.result c.self.view_is long (sym c.first_used.ensures ∙ c.in-Some.is) c.lowest_bit.ensures
