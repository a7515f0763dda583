-- The find that a pass has open.
use Rattle.std.proofs.Common.{◌≡◌, ℕ, ⊎_elim, List, sym, refl, ap, ◌∙◌}
use Rattle.std.proofs.lemmas.Bool.{both_ways, eq-eqb}
use Rattle.std.specs.List.{list_any}
use Rattle.funnel_model.specs.declared.event.Event.{Event}
use Rattle.funnel_model.specs.declared.event.Event.TheVariants as event
use Rattle.funnel_model.specs.Events.{finds_or_ends}
use Rattle.funnel_model.specs.Tokens.{HasToken}
use Rattle.funnel_model.proofs.Spans.{none_of_push, split_at_end}
use Rattle.slice_rule.specs.Seats.{PassState}
use Rattle.engine.specs.Passes.{view_of}
use Rattle.engine.specs.Finds.{IsBegunAt}

-- where the pass's last event began a find, this is the one that is open
pub begun_last : (pass : PassState) (number : ℕ) (earlier : List Event) (query : List ℕ) → IsBegunAt (view_of pass) earlier query → (begun : HasToken pass.front pass.number number) →
    (earlier ≡ begun.earlier) × (query ≡ begun.query)
begun_last pass number earlier query at begun =
    let e = event.Find pass.number query in
    let other = event.Find pass.number begun.query in
    ⊎_elim
    (λ end. let is : e ≡ other = end.2 in (end.1, cc is))
    (λ more. absurd (both_ways (finds_or_ends pass.number e)
    (none_of_push (finds_or_ends pass.number) more.0 e (ap (list_any (finds_or_ends pass.number)) (sym more.1) ∙ begun.stays)).1 (eq-eqb pass.number pass.number refl)))
    (split_at_end earlier begun.earlier begun.later e other (sym at ∙ begun.whole))
