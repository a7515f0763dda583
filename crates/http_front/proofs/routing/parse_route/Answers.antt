use Rattle.http_front.proofs.RouteLaws.{no_text, parsed}
use Rattle.http_front.proofs.routing.parse_route.Goals as goal

pub returns-in_default : goal.returns-in_default
returns-in_default c = no_text c.args.method.now c.args.target.now c.in_default.ensures.cases.0

pub returns : goal.returns
returns c =
    parsed c.args.method.now c.args.target.now c.in-Ok.target.now c.parse_text.result c.in-Ok.ensures.cases.0 c.in-Ok.ensures.cases.1 c.parse_text.ensures
