use Rattle.http_front.proofs.DocumentLaws.{no_part}
use Rattle.http_front.proofs.document.parse_text_object.Goals as goal

pub returns-in_default-parse_part : goal.returns-in_default-parse_part
returns-in_default-parse_part c =
    no_part c.args.reader.now c.next.new.self (rw c.in-Some-BeginObject.field-0-is at c.in-Some-BeginObject.ensures.value) c.in_default-parse_part.ensures
