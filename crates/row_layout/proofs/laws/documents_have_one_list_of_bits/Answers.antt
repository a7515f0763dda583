use Rattle.row_layout.proofs.OneList.{one_list}
use Rattle.row_layout.proofs.laws.documents_have_one_list_of_bits.Goals as goal

pub returns : goal.returns
returns c = one_list
