use Rattle.std.proofs.Common.{◌≡◌, false, map, take}
use Rattle.std.specs.List.{list_any}
use Rattle.httparse.specs.Spans.{header_bytes}
use Rattle.http_front.specs.Steps.{is_closing}
use Rattle.http_front.proofs.fields.asks_to_close.Given as goal

abbrev pub invariant-loop-field : goal.invariant-loop-field
invariant-loop-field l = list_any is_closing (map (header_bytes l.bytes) (take l.field-index l.fields)) ≡ false
