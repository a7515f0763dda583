use Rattle.std.proofs.Common.{filter}
use Rattle.funnel_model.specs.History.{Document, live}
use Rattle.funnel_model.specs.Words.{meets}
use Rattle.funnel_model.proofs.AnswerLemmas.{Contains-filter, Contains-map, kept_by_filter, answer_once}
use Rattle.funnel_model.proofs.laws.answers.Goals as goal

pub returns-clause-complete : goal.returns-clause-complete
returns-clause-complete c history query d is_live meets_query =
    Contains-map (λ (x : Document). x.id) (filter (λ x. meets x.text query) (live history)) d
    (Contains-filter (λ (x : Document). meets x.text query) (live history) d is_live meets_query)

pub returns-clause-sound : goal.returns-clause-sound
returns-clause-sound c history query id contained =
    kept_by_filter (λ (x : Document). x.id) (λ x. meets x.text query) (live history) id contained

pub returns-clause-once : goal.returns-clause-once
returns-clause-once c = answer_once
