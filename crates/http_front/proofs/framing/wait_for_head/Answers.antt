use Rattle.std.proofs.Common.{inl, inr}
use Rattle.http_front.proofs.HeadLaws.{undecided_without_head}
use Rattle.http_front.proofs.framing.wait_for_head.Goals as goal

pub returns-then-bytes-lt-MAX_HEAD : goal.returns-then-bytes-lt-MAX_HEAD
returns-then-bytes-lt-MAX_HEAD c = undecided_without_head c.args.bytes.now c.requires.none c.requires.may c.if-bytes-lt-MAX_HEAD.true

pub returns-else-bytes-lt-MAX_HEAD : goal.returns-else-bytes-lt-MAX_HEAD
returns-else-bytes-lt-MAX_HEAD c = inr (inl (record { many = c.if-bytes-lt-MAX_HEAD.false; none = c.requires.none }))
