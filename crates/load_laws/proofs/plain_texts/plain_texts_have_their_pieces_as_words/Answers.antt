use Rattle.load_laws.proofs.PlainTexts.{words-spaced}
use Rattle.load_laws.proofs.PlainQueries.{has_word-Contains, meets-spaced}
use Rattle.load_laws.proofs.plain_texts.plain_texts_have_their_pieces_as_words.Goals as goal

pub returns : goal.returns
returns c = record { words = words-spaced; has = has_word-Contains; meets = meets-spaced }
