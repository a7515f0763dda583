use Rattle.row_layout.proofs.BitLemmas.{bits-of_part, bits-of_query}
use Rattle.row_layout.proofs.laws.documents_have_bits_of_parts.Goals as goal

pub returns-clause-part : goal.returns-clause-part
returns-clause-part c = bits-of_part

pub returns-clause-query : goal.returns-clause-query
returns-clause-query c = bits-of_query
