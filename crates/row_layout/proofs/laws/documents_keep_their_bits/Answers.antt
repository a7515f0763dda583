use Rattle.row_layout.proofs.Owners.{put_bits-kept}
use Rattle.row_layout.proofs.SoundHistories.{sound-place}
use Rattle.row_layout.proofs.laws.documents_keep_their_bits.Goals as goal

pub returns-clause-place : goal.returns-clause-place
returns-clause-place c = sound-place

pub returns-clause-documents : goal.returns-clause-documents
returns-clause-documents c = put_bits-kept
