use Rattle.funnel_model.proofs.SliceSetLemmas.{asked-contains}
use Rattle.funnel_model.proofs.slice_set.SliceSet.has.Goals as goal

pub returns : goal.returns
returns c = asked-contains c.self.inside.words c.args.self.now c.args.slice c.self.view_is c.requires
