-- Histories in which nothing is moved.
use Rattle.std.proofs.Common.{ℕ, ◌⊎◌, ⊎_elim, inl, inr, cond, Some, None, eq-eqb, ◌≡◌, true, false, refl, List, [], ◌∷◌, ◌++◌, sym, ap, ◌∙◌}
use Rattle.std.proofs.lemmas.Bool.{and_from, false≢true, or_parts}
use Rattle.std.proofs.lemmas.List.Folds.{list_any-append}
use Rattle.std.specs.List.{list_any}
use Rattle.std.specs.Option.{is_some}
use Rattle.std.specs.Prelude.{◌↔◌, ◌==◌, ◌&&◌}
use Rattle.funnel_model.specs.declared.event.Event.{Event}
use Rattle.funnel_model.specs.declared.event.Event.TheVariants as event
use Rattle.funnel_model.specs.Events.{call_of, drops_on, moves, put_on}
use Rattle.funnel_model.specs.History.{MovesNothing}
use Rattle.funnel_model.specs.Legal.{Limits, IsAllowed, IsLegal}
use Rattle.funnel_model.proofs.Histories.{holds_of_legal}
use Rattle.funnel_model.proofs.Spans.{none-push, none_of_push}

-- one more event
pub moves_nothing-push : (history : List Event) (e : Event) → MovesNothing (history ++ e ∷ []) ↔ (MovesNothing history × (moves e ≡ false))
moves_nothing-push history e = (none_of_push moves history e, λ both. none-push moves history e both.0 both.1)

-- nothing is moved in either part
pub moves_nothing-parts : (front rest : List Event) → MovesNothing (front ++ rest) → MovesNothing front × MovesNothing rest
moves_nothing-parts front rest still = or_parts (list_any moves front) (list_any moves rest) (sym (list_any-append moves front rest) ∙ still)

-- nor before an event, nor by it
pub moves_nothing-before : (history earlier : List Event) (e : Event) (later : List Event) → history ≡ earlier ++ e ∷ later → MovesNothing history →
    MovesNothing earlier × (moves e ≡ false)
moves_nothing-before history earlier e later whole still =
    let parts = moves_nothing-parts earlier (e ∷ later) (ap (list_any moves) (sym whole) ∙ still) in
    (parts.0, (or_parts (moves e) (list_any moves later) parts.1).0)

-- what holds of a history where it holds with one more event that moves nothing
pub holds_where_nothing_moves : (limits : Limits) (P : List Event → Type 0) → P [] →
    ((h : List Event) (e : Event) → P h → IsAllowed limits h e → moves e ≡ false → P (h ++ e ∷ [])) →
    (history : List Event) → IsLegal limits history → MovesNothing history → P history
holds_where_nothing_moves limits P start step =
    holds_of_legal limits (λ h. MovesNothing h → P h) (λ still. start)
    (λ h e legal before allowed still. let parts = (moves_nothing-push h e).0 still in step h e (before parts.0) allowed parts.1)

-- the event ends a claim of a column, and answers no call
abbrev EndsClaimAlone : Event → Type 0
EndsClaimAlone e =
    (call_of e ≡ None) × (slice : ℕ) × (column : ℕ) × ((is_some (put_on slice column e) ≡ true) ⊎ (drops_on slice column e ≡ true))

this_column : (slice column : ℕ) → (slice == slice && column == column) ≡ true
this_column slice column = and_from (slice == slice) (column == column) (eq-eqb slice slice refl) (eq-eqb column column refl)

-- the events that move something are of two kinds
ends_alone : (e : Event) → moves e ≡ true → EndsClaimAlone e
ends_alone (event.Move pass id slice column bits) is = (refl, slice, column, inl (ap (λ b. is_some (cond b (Some id) None)) (this_column slice column)))
ends_alone (event.Void pass slice column) is = (refl, slice, column, inr (this_column slice column))
ends_alone _ is = absurd (false≢true is)

-- and no other event is so
none_of_them : false ≡ true ⊎ false ≡ true → ⊥
none_of_them ends = ⊎_elim false≢true false≢true ends

alone_moves : (e : Event) → EndsClaimAlone e → moves e ≡ true
alone_moves (event.Move pass id slice column bits) is = refl
alone_moves (event.Void pass slice column) is = refl
alone_moves (event.Add pass id text slice column bits) is = let none = is.0 in cc
alone_moves (event.Drop pass id text slice column) is = let none = is.0 in cc
alone_moves (event.Take pass slice column) is = absurd (none_of_them is.3)
alone_moves (event.Del pass id) is = absurd (none_of_them is.3)
alone_moves (event.Find pass query) is = absurd (none_of_them is.3)
alone_moves (event.End pass) is = absurd (none_of_them is.3)
alone_moves (event.Clear pass slice) is = absurd (none_of_them is.3)
alone_moves (event.Opened pass slice alone) is = absurd (none_of_them is.3)
alone_moves (event.Tune pass config) is = absurd (none_of_them is.3)
alone_moves (event.No pass asked) is = absurd (none_of_them is.3)
alone_moves (event.Read pass asked) is = absurd (none_of_them is.3)

pub moves_by_kind : (e : Event) → (moves e ≡ true) ↔ EndsClaimAlone e
moves_by_kind e = (ends_alone e, alone_moves e)
