use Rattle.std.proofs.Common.{[], ◌∷◌, List, ap, sym, ◌∙◌}
use Rattle.commit_desk.specs.Judging.{answer_where}
use Rattle.engine.proofs.FindParts.{found_is_answer}
use Rattle.engine.specs.Searches.{is_kept_by}
use Rattle.engine.proofs.OpenFinds.{begun_last}
use Rattle.funnel_model.specs.declared.event.Event.{Event}
use Rattle.funnel_model.specs.declared.event.Event.TheVariants as event
use Rattle.slice_recycler.proofs.Steps.{turn_grows}
use Rattle.engine.proofs.engine_pool.EnginePool.finish.Goals as goal

pub returns-clause-found : goal.returns-clause-found
returns-clause-found g c earlier query at =
    let pass = c.args.pass.now in
    let token = c.args.begun.token in
    let test = is_kept_by c.args.begun.search in
    let finding = c.requires.begun.finding in
    let begun = finding.holds.begun in
    let did = c.find_each.ensures in
    let after = c.find_each.new.pass.front in
    let same = begun_last pass token.opened_at earlier query at begun in
    c.into_ids.ensures
    ∙ found_is_answer test c.args.self.now pass token finding after did.legal
    (turn_grows {answers = λ history. Unit {0}} pass.number pass.front after (event.End pass.number ∷ []) did.ended) c.find_each.new.out.found c.sort.new.self.found c.in_ok-find_each.ensures.found c.sort.ensures.same
    c.sort.ensures.rising
    ∙ ap (λ (h : List Event). answer_where h test) (sym same.0)
