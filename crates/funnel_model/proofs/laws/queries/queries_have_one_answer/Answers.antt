use Rattle.funnel_model.proofs.QueryLemmas.{one-expression, one-deep, one-malformed, query-formed, query-shallow}
use Rattle.funnel_model.proofs.laws.queries.queries_have_one_answer.Goals as goal

pub returns-clause-one_expression : goal.returns-clause-one_expression
returns-clause-one_expression c = one-expression

pub returns-clause-one_deep : goal.returns-clause-one_deep
returns-clause-one_deep c = one-deep

pub returns-clause-one_malformed : goal.returns-clause-one_malformed
returns-clause-one_malformed c = one-malformed

pub returns-clause-not_both : goal.returns-clause-not_both
returns-clause-not_both c text expr at query = (query-formed text expr at query, query-shallow text expr at query)
