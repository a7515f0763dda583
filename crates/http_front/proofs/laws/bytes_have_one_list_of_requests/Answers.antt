use Rattle.http_front.proofs.OnceLaws.{one_list}
use Rattle.http_front.proofs.laws.bytes_have_one_list_of_requests.Goals as goal

pub returns : goal.returns
returns c = one_list
