use Rattle.std.proofs.Common.{◌+◌, ◌*◌, ◌∙◌, sym, ap, refl}
use Rattle.std.proofs.lemmas.List.{take_rest}
use Rattle.http_front.specs.Queries.{decoded, plain, put}
use Rattle.http_front.proofs.QueryLaws.{decoded-bad, decoded-good, decoded-short}
use Rattle.http_front.proofs.query.escaped_byte.Goals as goal

pub returns-then-bytes-lt3-clause-decoded : goal.returns-then-bytes-lt3-clause-decoded
returns-then-bytes-lt3-clause-decoded c = decoded-short c.args.bytes.now c.requires.some c.if-bytes-lt3.true c.requires.sign

pub returns-in_default-clause-decoded : goal.returns-in_default-clause-decoded
returns-in_default-clause-decoded c =
    decoded-bad c.args.bytes.now c.if-bytes-lt3.false c.requires.sign (rw (sym c.in_default.ensures.found) refl)

pub returns-in_default-parse_hex_digit-clause-decoded : goal.returns-in_default-parse_hex_digit-clause-decoded
returns-in_default-parse_hex_digit-clause-decoded c =
    decoded-bad c.args.bytes.now c.if-bytes-lt3.false c.requires.sign (rw (sym c.in-Some.ensures.found, sym c.in_default-parse_hex_digit.ensures.found) refl)

pub returns-clause-decoded : goal.returns-clause-decoded
returns-clause-decoded c =
    decoded-good c.args.bytes.now c.in-Some.high c.in-Some-parse_hex_digit.low c.if-bytes-lt3.false c.requires.sign c.in-Some.ensures.found c.in-Some-parse_hex_digit.ensures.found
    c.in-Some.ensures.value.0 c.in-Some-parse_hex_digit.ensures.value.0
    ∙ ap (λ t. put (c.in-Some.high * 16 + c.in-Some-parse_hex_digit.low) (decoded plain t)) (sym (take_rest c.args.bytes.now 3))
