use Rattle.std.proofs.Common.{◌≡◌, length, arith}
use Rattle.funnel_model.proofs.SliceSetLemmas.{without_slice-contains}
use Rattle.funnel_model.proofs.slice_set.SliceSet.remove.Goals as goal

pub returns : goal.returns
returns c other =
    let long : length c.self.inside.words ≡ 16 = omega arith in
    without_slice-contains c.self.inside.words c.args.self.now c.args.slice other c.self.view_is c.requires long
