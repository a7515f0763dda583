use Rattle.std.proofs.Common.{◌∙◌, List, MatchOption, ap, subst}
use Rattle.json.specs.Lex.{tokens}
use Rattle.json.specs.Token.{Token}
use Rattle.http_front.specs.Tokens.{TellsNoText, TellsText}
use Rattle.http_front.proofs.DocumentLaws.{read_text, untold}
use Rattle.http_front.proofs.document.parse_text.Goals as goal

pub returns-in_default : goal.returns-in_default
returns-in_default c = untold c.args.body.now c.in_default.ensures.cases.0

pub returns : goal.returns
returns c =
    read_text c.args.body.now (λ t. t.now) c.parse_text_object.result c.in-Ok.ensures.cases.1
    (subst (λ (ts : List Token). MatchOption c.parse_text_object.result (TellsNoText ts) (λ t. TellsText ts t.now))
    (c.in_ok-reader.ensures.ok ∙ ap tokens c.in-Ok.ensures.cases.0) c.parse_text_object.ensures)
