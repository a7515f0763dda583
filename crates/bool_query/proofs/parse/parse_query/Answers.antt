use Rattle.std.proofs.Common.{◌≡◌, ◌∙◌, [], length, sym, subst, refl, arith}
use Rattle.std.proofs.lemmas.List.{drop_all}
use Rattle.std.proofs.lemmas.Result.{IfOk-weaker}
use Rattle.std.proofs.lemmas.Str.{IsCharBoundary-start}
use Rattle.funnel_model.specs.Queries.{IsMalformed}
use Rattle.funnel_model.specs.Expressions.{tree_of}
use Rattle.bool_query.proofs.FaultLemmas.{syntax-of}
use Rattle.bool_query.proofs.Progress.{read-query, read-cut}
use Rattle.bool_query.proofs.parse.parse_query.Goals as goal

pub returns-clause-query : goal.returns-clause-query
returns-clause-query c =
    IfOk-weaker c.finish.result _ _
    (λ expr whole. read-query c.args.text.now c.loop-at.at c.loop-at.parser (tree_of expr) c.loop-at.invariant.1
    (drop_all c.loop-at.at c.args.text.now c.loop-at-test.false) whole.0 whole.1)
    c.finish.ensures.query

pub returns-clause-syntax : goal.returns-clause-syntax
returns-clause-syntax c =
    let end : c.loop-at.at ≡ length c.args.text.now = omega (arith, c.loop-at.invariant.0) in
    syntax-of c.finish.result _ _
    (λ place refused. subst (IsMalformed c.args.text.now) (end ∙ sym refused.0)
    (read-cut c.args.text.now c.loop-at.at c.loop-at.parser c.loop-at.invariant.1 end
    (drop_all c.loop-at.at c.args.text.now c.loop-at-test.false) refused.1))
    c.finish.ensures.syntax

pub loop-at-init : goal.loop-at-init
loop-at-init c = (
  omega arith,
  record {
    boundary = IsCharBoundary-start c.args.text.now c.utf8.text;
    before = [];
    split = refl;
    spelling = [];
    reads = sym c.new-parser.ensures.nothing;
    same = refl;
    shallow = tt;
    counts = c.new-parser.ensures.counts;
  },
)
