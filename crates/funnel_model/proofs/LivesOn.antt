-- How a document stays live, and that a number has one live document.
use Rattle.std.proofs.Common.{◌≡◌, ◌≢◌, ℕ, ◌<◌, ⊎_elim, Bool, true, false, cond, not, filter, List, [], ◌∷◌, ◌++◌, get_or, Some, sym, refl, ap, ◌∙◌, subst, append_assoc}
use Rattle.std.proofs.lemmas.Bool.{both_ways, cases_order, eqb-true, or_cases, or_from, or_parts}
use Rattle.std.proofs.lemmas.List.{append-nil, get_or_default}
use Rattle.std.proofs.lemmas.List.Elements.{Contains-append_left}
use Rattle.std.specs.List.{AllPairs, Contains, find, list_any}
use Rattle.std.specs.Prelude.{◌==◌}
use Rattle.funnel_model.specs.declared.event.Event.{Event}
use Rattle.funnel_model.specs.declared.event.Event.TheVariants as event
use Rattle.funnel_model.specs.Events.{deletes_or_replaces, takes_off}
use Rattle.funnel_model.specs.History.{Document, live, place}
use Rattle.funnel_model.specs.Legal.{Limits, IsLegal}
use Rattle.funnel_model.proofs.AnswerLemmas.{Contains-cons, Contains-filter, contains_first}
use Rattle.funnel_model.proofs.LiveLemmas.{added_at, live-push, live_once, survives}

-- a number that is live has a live document, which is the one that is found
pub find_live : (id : ℕ) (documents : List Document) → list_any (λ d. d.id == id) documents ≡ true →
    (d : Document) × (find (λ (x : Document). x.id == id) documents ≡ Some d) × Contains documents d × (d.id ≡ id)
find_live id [] some = cc
find_live id (d ∷ ds) some = by_first (d.id == id) refl (λ later. find_live id ds later) where
  by_first : (b : Bool) → (d.id == id) ≡ b →
      (list_any (λ x. x.id == id) ds ≡ true → (x : Document) × (find (λ (y : Document). y.id == id) ds ≡ Some x) × Contains ds x × (x.id ≡ id)) →
      (x : Document) × (cond b (Some d) (find (λ (y : Document). y.id == id) ds) ≡ Some x) × Contains (d ∷ ds) x × (x.id ≡ id)
  by_first true is rest = (d, refl, contains_first d ds, eqb-true d.id id is)
  by_first false is rest =
      let found = rest (⊎_elim (λ here. absurd (both_ways (d.id == id) is here)) (λ later. later) (or_cases (d.id == id) (list_any (λ x. x.id == id) ds) some)) in
      (found.0, found.1, Contains-cons d ds found.0 found.2, found.3)

-- an event that deletes or replaces a document takes it off its column
ends_off : (id : ℕ) (e : Event) → takes_off id e ≡ false → deletes_or_replaces id e ≡ false
ends_off id (event.Del pass deleted) not_off = not_off
ends_off id (event.Add pass added text slice column bits) not_off = not_off
ends_off id _ not_off = refl

pub none_ends : (id : ℕ) (events : List Event) → list_any (takes_off id) events ≡ false → list_any (deletes_or_replaces id) events ≡ false
none_ends id [] none = refl
none_ends id (e ∷ later) none =
    let parts = or_parts (takes_off id e) (list_any (takes_off id) later) none in
    or_from (deletes_or_replaces id e) (list_any (deletes_or_replaces id) later) (ends_off id e parts.0) (none_ends id later parts.1)

-- a live document stays so with an event that neither deletes nor replaces it
pub lives-push : (history : List Event) (e : Event) (d : Document) → Contains (live history) d → deletes_or_replaces d.id e ≡ false → Contains (live (history ++ e ∷ [])) d
lives-push history e d contained kept =
    subst (λ (ds : List Document). Contains ds d) (sym (live-push history e))
    (Contains-append_left (filter (survives e) (live history)) (added_at (place history) e) d
    (Contains-filter (survives e) (live history) d contained (ap not kept)))

-- and with any number of them
pub lives-later : (history later : List Event) (d : Document) → Contains (live history) d → list_any (deletes_or_replaces d.id) later ≡ false →
    Contains (live (history ++ later)) d
lives-later history [] d contained kept = subst (λ h. Contains (live h) d) (sym (append-nil history)) contained
lives-later history (e ∷ later) d contained kept =
    let parts = or_parts (deletes_or_replaces d.id e) (list_any (deletes_or_replaces d.id) later) kept in
    subst (λ h. Contains (live h) d) (append_assoc history (e ∷ []) later)
    (lives-later (history ++ e ∷ []) later d (lives-push history e d contained parts.0) parts.1)

-- live documents with one number are one document
one_of_pairs : (ds : List Document) (d e : Document) → AllPairs (λ (x y : Document). x.id ≢ y.id) ds → Contains ds d → Contains ds e → d.id ≡ e.id → d ≡ e
one_of_pairs ds d e apart in_d in_e same =
    ⊎_elim
    (λ (at : in_d.0 ≡ in_e.0).
    sym in_d.2 ∙ get_or_default ds in_d.0 d e in_d.1 ∙ ap (λ k. get_or ds k e) at ∙ in_e.2)
    (λ order. ⊎_elim
    (λ (below : in_d.0 < in_e.0). absurd (apart in_d.0 in_e.0 d below in_e.1
    (ap (λ (x : Document). x.id) in_d.2 ∙ same ∙ ap (λ (x : Document). x.id) (sym in_e.2 ∙ get_or_default ds in_e.0 e d in_e.1))))
    (λ (above : in_e.0 < in_d.0). absurd (apart in_e.0 in_d.0 d above in_d.1
    (ap (λ (x : Document). x.id) (get_or_default ds in_e.0 d e in_e.1 ∙ in_e.2) ∙ sym same ∙ ap (λ (x : Document). x.id) (sym in_d.2))))
    order)
    (cases_order in_d.0 in_e.0)

-- in a legal history a number has one live document
pub one_live : (limits : Limits) (history : List Event) (d e : Document) → IsLegal limits history → Contains (live history) d → Contains (live history) e →
    d.id ≡ e.id → d ≡ e
one_live limits history d e legal in_d in_e same = one_of_pairs (live history) d e (live_once history) in_d in_e same
