use Rattle.std.proofs.Common.{◌∙◌, List, MatchOption, ap, subst}
use Rattle.funnel_model.specs.declared.call.Call.TheVariants.{Add}
use Rattle.json.specs.Lex.{tokens}
use Rattle.json.specs.Token.{Token}
use Rattle.http_front.specs.Tokens.{AsksAdd, AsksNothing}
use Rattle.http_front.proofs.DocumentLaws.{no_text, read}
use Rattle.http_front.proofs.document.parse_document.Goals as goal

pub returns-in_default : goal.returns-in_default
returns-in_default c = no_text c.args.body.now c.in_default.ensures.cases.0

pub returns : goal.returns
returns c =
    read c.args.body.now c.parse_object.result c.in-Ok.ensures.cases.1
    (subst (λ (ts : List Token). MatchOption c.parse_object.result (AsksNothing ts) (λ d. AsksAdd ts (Add d.id d.text.now)))
    (c.in_ok-reader.ensures.ok ∙ ap tokens c.in-Ok.ensures.cases.0) c.parse_object.ensures)
