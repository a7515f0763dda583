-- The draws, the words and the numbers compute.
use Rattle.std.proofs.Common.{refl}
use Rattle.std.specs.Fmt.{digits}
use Rattle.caseless.proofs.Computing.{caseless}
use Rattle.unicode_segmentation.proofs.Computing.{unicode_segmentation}
use Rattle.load_laws.proofs.whole_load.example_replies.Goals as goal

pub returns-clause-small : goal.returns-clause-small
unfolding digits unicode_segmentation caseless
returns-clause-small c = refl

pub returns-clause-hundredth : goal.returns-clause-hundredth
returns-clause-hundredth c = refl

pub returns-clause-tenth : goal.returns-clause-tenth
returns-clause-tenth c = refl
