use Rattle.load_laws.proofs.PlainQueries.{meets-document, meets-name}
use Rattle.load_laws.proofs.plain_texts.names_find_their_own_text.Goals as goal

pub returns : goal.returns
returns c = record { others = meets-name; document = meets-document }
