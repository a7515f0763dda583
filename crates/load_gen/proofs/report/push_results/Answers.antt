-- The line of one more query, and that none is left in the end.
use Rattle.std.proofs.Common.{◌++◌, inl, inr, ap, ap₂, ◌∙◌}
use Rattle.load_gen.proofs.Lines.{line-push, lines-end, lines_left}
use Rattle.load_gen.proofs.report.push_results.Goals as goal

pub loop-query-init : goal.loop-query-init
loop-query-init c =
    let zipped = c.into_iter-query-iterator.ensures.into_iter_gives in
    ap₂ (λ qs rs. c.args.out.now.items ++ lines_left qs rs)
    (ap (λ z. z.a.rest.now) zipped ∙ ap (λ i. i.rest.now) c.zip-query-items.ensures.first ∙ c.iter.ensures.rest)
    (ap (λ z. z.b.rest.now) zipped ∙ c.zip-query-items.ensures.second.0)

pub loop-query-preserved : goal.loop-query-preserved
loop-query-preserved c =
    line-push _ _ c.as_bytes.result.now _ _ _ _ _ c.in-Some.query.now c.in-Some.field-0-1.now
    c.in_ok-push_result.ensures c.as_bytes.ensures.value c.in-Some.ensures.steps.0 c.in-Some.ensures.steps.1 c.loop-query.invariant

pub returns : goal.returns
returns c =
    elim c.in-None.ensures.steps [
      | inl no_query ↦ lines-end _ _ _ _ (inl no_query.1.0) c.loop-query.invariant
      | inr no_result ↦ lines-end _ _ _ _ (inr no_result.1.0) c.loop-query.invariant
    ]
