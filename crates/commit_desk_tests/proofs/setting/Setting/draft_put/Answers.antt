use Rattle.std.proofs.Common.{refl}
use Rattle.caseless.proofs.Computing.{caseless}
use Rattle.unicode_segmentation.proofs.Computing.{unicode_segmentation}
use Rattle.commit_desk_tests.proofs.setting.Setting.draft_put.Goals as goal

pub document-requires : goal.document-requires
unfolding caseless unicode_segmentation
document-requires g c = refl
