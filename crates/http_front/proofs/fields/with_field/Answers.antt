use Rattle.std.proofs.Common.{◌++◌, ℕ, List, sym, ap, subst, ◌∙◌}
use Rattle.std.specs.Str.{str_eq_ignore_ascii_case}
use Rattle.httparse.specs.Spans.{header_bytes}
use Rattle.http_front.specs.Steps.{AreValues}
use Rattle.http_front.specs.declared.fields.Values.TheVariants as values
use Rattle.http_front.proofs.FieldLaws.{same_name, several}
use Rattle.http_front.proofs.OptionLaws.{tells_same}
use Rattle.http_front.proofs.fields.with_field.Goals as goal

pub returns-in-One : goal.returns-in-One
returns-in-One c = λ before are.
    let same = tells_same c.eq_ignore_ascii_case.result c.of.result.now c.args.name.now c.eq_ignore_ascii_case.ensures.test ∙ ap (λ n. str_eq_ignore_ascii_case n c.args.name.now) c.of.ensures in
    subst (λ (vs : List (List ℕ)). AreValues c.args.bytes.now values.Many (before ++ vs))
    (sym (same_name c.args.name.now (header_bytes c.args.bytes.now c.args.field.now) (sym same ∙ c.if-not-eq_ignore_ascii_case.false)))
    (several c.args.bytes.now c.args.found before (header_bytes c.args.bytes.now c.args.field.now).1 c.in-One.is are)
