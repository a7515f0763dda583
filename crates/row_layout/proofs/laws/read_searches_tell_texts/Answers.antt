use Rattle.row_layout.proofs.ReadSearches.{read-tells_texts}
use Rattle.row_layout.proofs.laws.read_searches_tell_texts.Goals as goal

pub returns : goal.returns
returns c = read-tells_texts
