use Rattle.std.proofs.Common.{◌≡◌, true, sym, ◌∙◌, subst, take_all}
use Rattle.std.proofs.lemmas.List.Elements.{All-more}
use Rattle.httparse.specs.Grammar.{AllPass, is_uri_byte}
use Rattle.http_front.proofs.head_end.is_target.Goals as goal

pub loop-byte-preserved : goal.loop-byte-preserved
loop-byte-preserved c = All-more (λ b. is_uri_byte b ≡ true) c.args.bytes.now c.loop-byte.byte-index 0 c.loop-byte-test.true c.loop-byte.invariant (sym c.is_uri_token.ensures ∙ c.if-not-is_uri_token.false)

pub returns : goal.returns
returns c = subst (AllPass is_uri_byte) (take_all c.loop-byte.byte-index c.args.bytes.now c.loop-byte-test.false) c.loop-byte.invariant
