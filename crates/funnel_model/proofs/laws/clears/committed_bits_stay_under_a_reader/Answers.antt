use Rattle.funnel_model.proofs.RowWords.{committed_in_slice, committed_in_word, committed_not_clearing, reader_sees}
use Rattle.funnel_model.proofs.laws.clears.committed_bits_stay_under_a_reader.Goals as goal

pub returns-clause-in_slice : goal.returns-clause-in_slice
returns-clause-in_slice c = committed_in_slice

pub returns-clause-in_word : goal.returns-clause-in_word
returns-clause-in_word c = committed_in_word

pub returns-clause-not_clearing : goal.returns-clause-not_clearing
returns-clause-not_clearing c = committed_not_clearing

pub returns-clause-stays : goal.returns-clause-stays
returns-clause-stays c = reader_sees
