use Rattle.rank_matcher.proofs.DocumentHits.{written-adds, written-documents, written-rows}
use Rattle.rank_matcher.proofs.laws.written_bits_are_found.Goals as goal

pub returns-clause-rows : goal.returns-clause-rows
returns-clause-rows c = written-rows

pub returns-clause-adds : goal.returns-clause-adds
returns-clause-adds c = written-adds

pub returns-clause-documents : goal.returns-clause-documents
returns-clause-documents c = written-documents
