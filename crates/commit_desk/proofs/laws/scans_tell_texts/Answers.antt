use Rattle.commit_desk.proofs.ScanTexts.{tell_texts}
use Rattle.commit_desk.proofs.laws.scans_tell_texts.Goals as goal

pub returns : goal.returns
returns c = tell_texts
