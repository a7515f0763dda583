use Rattle.commit_desk.proofs.ExactWords.{read_tells_words}
use Rattle.commit_desk.proofs.laws.read_bits_tell_words.Goals as goal

pub returns : goal.returns
returns c = read_tells_words
