use Rattle.std.proofs.Common.{map, take}
use Rattle.httparse.specs.Spans.{header_bytes}
use Rattle.http_front.specs.Heads.{values_named}
use Rattle.http_front.specs.Steps.{AreValues}
use Rattle.http_front.proofs.fields.field_values.Given as goal

abbrev pub invariant-loop-field : goal.invariant-loop-field
invariant-loop-field l = AreValues l.bytes l.found (values_named l.name (map (header_bytes l.bytes) (take l.field-index l.fields)))
