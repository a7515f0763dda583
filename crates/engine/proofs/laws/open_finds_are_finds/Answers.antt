use Rattle.std.proofs.Common.{◌≡◌, [], ◌∷◌, ◌++◌, sym, subst, ◌∙◌}
use Rattle.funnel_model.specs.declared.event.Event.TheVariants as event
use Rattle.funnel_model.specs.Legal.{IsIdle}
use Rattle.engine.specs.Finds.{FindEnds, FoundTurns, IsBegunAt}
use Rattle.engine.proofs.Finds.{found_step}
use Rattle.engine.proofs.laws.open_finds_are_finds.Goals as goal

pub returns : goal.returns
returns c limits query ids before opened after told =
    let begun = told.begun in
    let at : IsBegunAt opened begun.earlier query = subst (λ n. opened.front ≡ begun.earlier ++ event.Find n query ∷ []) (sym told.call.number) begun.made in
    let turns : FoundTurns limits before.number query before.front after.front ids = record {
      turns = record { middle = opened.front; begun = begun; ended = subst (λ n. FindEnds n opened.front after.front) told.call.number told.ended };
      found = told.found begun.earlier query at;
    } in
    let same = told.calls.number ∙ told.call.number in
    record {
      step = found_step limits before.number query before.front after.front told.idle told.calls.legal (subst (λ n. IsIdle n after.front) same told.rests) ids turns;
      number = same;
    }
