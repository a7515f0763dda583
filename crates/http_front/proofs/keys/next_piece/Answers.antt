use Rattle.std.proofs.Common.{arith}
use Rattle.http_front.proofs.PieceLaws.{first_piece}
use Rattle.http_front.proofs.keys.next_piece.Goals as goal

pub returns : goal.returns
returns c = first_piece c.args.text.now c.split_once.result (c.split_once.ensures.byte (omega arith) (λ w o finds. finds))
