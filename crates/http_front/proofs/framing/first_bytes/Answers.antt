use Rattle.std.proofs.Common.{sym, arith, take_all}
use Rattle.http_front.proofs.framing.first_bytes.Goals as goal

pub returns-then-bytes-lt-MAX_HEAD : goal.returns-then-bytes-lt-MAX_HEAD
returns-then-bytes-lt-MAX_HEAD c = sym (take_all 16384 c.args.bytes.now (omega (arith, c.if-bytes-lt-MAX_HEAD.true)))
