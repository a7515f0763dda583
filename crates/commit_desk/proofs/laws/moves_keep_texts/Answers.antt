use Rattle.std.proofs.Common.{Contains, sym, subst}
use Rattle.funnel_model.specs.History.{Document, live}
use Rattle.funnel_model.proofs.LiveColumns.{live_column_is_live}
use Rattle.funnel_model.proofs.StepLemmas.{prefix_trans}
use Rattle.commit_desk.specs.Moving.{document_of}
use Rattle.commit_desk.proofs.MoveTurns.{same_document}
use Rattle.commit_desk.proofs.laws.moves_keep_texts.Goals as goal

pub returns : goal.returns
returns c limits history seat look legal goes_on held there =
    let seen = prefix_trans held.earlier seat.front history held.seen goes_on in
    let same = same_document limits held.earlier history look.slice look.column look.since (document_of look) there.0 legal seen held.live there.2 in
    subst (λ (d : Document). Contains (live history) d) (sym same) (live_column_is_live history look.slice look.column there.0 look.since there.2)
