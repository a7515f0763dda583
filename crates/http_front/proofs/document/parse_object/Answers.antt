use Rattle.http_front.specs.Tokens.{part_seen}
use Rattle.http_front.proofs.DocumentLaws.{no_first, no_second}
use Rattle.http_front.proofs.document.parse_object.Goals as goal

pub returns-in_default-parse_part : goal.returns-in_default-parse_part
returns-in_default-parse_part c =
    no_first c.args.reader.now c.next.new.self (rw c.in-Some-BeginObject.field-0-is at c.in-Some-BeginObject.ensures.value) c.in_default-parse_part.ensures

pub returns-in_default-parse_part-2 : goal.returns-in_default-parse_part-2
returns-in_default-parse_part-2 c =
    no_second c.args.reader.now c.next.new.self c.parse_part.new.reader (part_seen c.in-Some.first)
    (rw c.in-Some-BeginObject.field-0-is at c.in-Some-BeginObject.ensures.value) c.in-Some.ensures c.in_default-parse_part-2.ensures
