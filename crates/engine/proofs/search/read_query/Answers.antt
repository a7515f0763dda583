use Rattle.engine.proofs.Answered.{search_keeps}
use Rattle.funnel_model.specs.Expressions.{tree_of}
use Rattle.engine.proofs.search.read_query.Goals as goal

pub returns-clause-read : goal.returns-clause-read
returns-clause-read c =
    let expr = c.in_ok-expr.expr in
    let wanted = c.in_ok-wanted.wanted in (
      expr,
      c.in_ok-expr.ensures.query,
      record {
        required = c.in_ok-wanted.ensures.words;
        kept = search_keeps wanted.words wanted.residue.items (tree_of expr) c.in_ok-wanted.ensures.kept;
      },
    )
