use Rattle.commit_desk.proofs.ScanTexts.{miss_none}
use Rattle.commit_desk.proofs.laws.scans_miss_none.Goals as goal

pub returns : goal.returns
returns c = miss_none
