use Rattle.std.proofs.Common.{take}
use Rattle.httparse.specs.Grammar.{AllPass, is_uri_byte}
use Rattle.http_front.proofs.head_end.is_target.Given as goal

abbrev pub invariant-loop-byte : goal.invariant-loop-byte
invariant-loop-byte l = AllPass is_uri_byte (take l.byte-index l.bytes)
