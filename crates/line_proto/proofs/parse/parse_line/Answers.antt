use Rattle.std.proofs.Common.{◌≡◌, List, ℕ, Option, Some, None, MatchOption, sym, ap, subst, ◌∙◌}
use Rattle.std.specs.Str.{IsUtf8}
use Rattle.line_proto.specs.Forms.{Asked, asked_of_text, form_of}
use Rattle.line_proto.specs.Requests.{requested}
use Rattle.line_proto.proofs.Lines.{form_of-not_text, form_of-text}
use Rattle.line_proto.proofs.parse.parse_line.Goals as goal

pub returns-in_default : goal.returns-in_default
returns-in_default c =
    form_of-not_text c.args.line.now (subst (λ (bytes : List ℕ). ¬ (IsUtf8 bytes)) c.without_return.ensures c.in_default.ensures.cases.0)

pub returns : goal.returns
returns c =
    let text = subst IsUtf8 c.without_return.ensures c.in-Ok.ensures.cases.1 in
    let same : form_of c.args.line.now ≡ asked_of_text c.in-Ok.text.now =
    form_of-text c.args.line.now c.if-line-gt-MAX_LINE_LEN.false text ∙ ap asked_of_text (sym (c.in-Ok.ensures.cases.0 ∙ c.without_return.ensures)) in
    subst (λ (o : Option Asked). MatchOption c.parse_text.result (o ≡ None) (λ r. o ≡ Some (requested r))) (sym same) c.parse_text.ensures
