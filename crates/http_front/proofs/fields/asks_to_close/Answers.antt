use Rattle.std.proofs.Common.{sym, ◌∙◌}
use Rattle.http_front.proofs.FieldLaws.{closing_at, none_closing}
use Rattle.http_front.proofs.fields.asks_to_close.Goals as goal

pub returns-then-is_closing : goal.returns-then-is_closing
returns-then-is_closing c = closing_at c.args.bytes.now c.args.fields.now c.loop-field.field-index _ c.loop-field-test.true (sym c.is_closing.ensures ∙ c.if-is_closing.true)

pub returns : goal.returns
returns c = none_closing c.args.bytes.now c.args.fields.now c.loop-field.field-index c.loop-field-test.false c.loop-field.invariant
