use Rattle.std.proofs.Common.{sym, subst}
use Rattle.http_front.specs.Steps.{AreValues}
use Rattle.http_front.proofs.FieldLaws.{values_named-push}
use Rattle.http_front.proofs.fields.field_values.Goals as goal

pub loop-field-preserved : goal.loop-field-preserved
loop-field-preserved c =
    subst (AreValues c.args.bytes.now c.with_field-found.result)
    (sym (values_named-push c.args.name.now c.args.bytes.now c.args.fields.now c.loop-field.field-index _ c.loop-field-test.true))
    (c.with_field-found.ensures _ c.loop-field.invariant)
