use Rattle.load_gen.proofs.Texts.{document_short}
use Rattle.load_gen.proofs.laws.texts_fit_in_their_room.Goals as goal

pub returns : goal.returns
returns c = document_short
