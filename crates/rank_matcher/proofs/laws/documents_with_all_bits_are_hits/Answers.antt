use Rattle.rank_matcher.proofs.DocumentHits.{document-hits, text-hits}
use Rattle.rank_matcher.proofs.laws.documents_with_all_bits_are_hits.Goals as goal

pub returns-clause-documents : goal.returns-clause-documents
returns-clause-documents c = document-hits

pub returns-clause-texts : goal.returns-clause-texts
returns-clause-texts c = text-hits
