-- Documents that stand on a column: which event put them there, with one more event, and that none stands on a pending column.
use Rattle.std.proofs.Common.{◌≡◌, ℕ, ⊎_elim, inl, inr, Bool, true, false, cond, List, [], ◌∷◌, ◌++◌, Some, None, sym, refl, ap, ◌∙◌, subst, append_assoc}
use Rattle.std.proofs.lemmas.Bool.{both_ways, eqb-true, false_from_ne_true, false≢true, or_from, or_left, or_right}
use Rattle.std.proofs.lemmas.List.Folds.{list_any-append}
use Rattle.std.specs.List.{list_any}
use Rattle.std.specs.Option.{is_some}
use Rattle.std.specs.Prelude.{◌==◌, ◌&&◌, ◌⊎◌}
use Rattle.funnel_model.proofs.Clears.{not_clearing-push, not_filled_clearing}
use Rattle.funnel_model.proofs.Histories.{holds_of_legal}
use Rattle.funnel_model.proofs.LastEvents.{last_is_clearing, opens_is}
use Rattle.funnel_model.proofs.Spans.{in_span-push, none_of_push, not_empty, split_at_end}
use Rattle.funnel_model.specs.Events.{clears, fills, opens, pass_of, put_on}
use Rattle.funnel_model.specs.Legal.{IsAllowed, IsLegal, Limits}
use Rattle.funnel_model.specs.Slices.{IsPending, is_clearing, span}
use Rattle.funnel_model.specs.declared.event.Event.{Event}
use Rattle.funnel_model.specs.declared.event.Event.TheVariants as event
use Rattle.row_layout.specs.Owners.{StandsOn}

-- an event that puts a document on a column of a slice fills the slice, and neither opens nor clears one
pub record PutsThere (slice : ℕ) (e : Event) : Type 0 where
  pub fills_it : fills slice e ≡ true
  pub opens_none : (other : ℕ) → opens other e ≡ false
  pub clears_none : (other : ℕ) → clears other e ≡ false

both_of : (b c : Bool) (id : ℕ) → is_some (cond (b && c) (Some id) None) ≡ true → (b ≡ true) × (c ≡ true)
both_of true true id is = (refl, refl)
both_of true false id is = absurd (false≢true is)
both_of false c id is = absurd (false≢true is)

pub puts_there : (slice column : ℕ) (e : Event) → is_some (put_on slice column e) ≡ true → PutsThere slice e
puts_there slice column (event.Add pass id text s c bits) puts =
    record { fills_it = (both_of (s == slice) (c == column) id puts).0; opens_none = λ other. refl; clears_none = λ other. refl }
puts_there slice column (event.Move pass id s c bits) puts =
    record { fills_it = (both_of (s == slice) (c == column) id puts).0; opens_none = λ other. refl; clears_none = λ other. refl }
puts_there slice column _ puts = absurd (false≢true puts)

-- the column of such an event, where it is an add or a move
pub put_there : (s c slice column id : ℕ) → is_some (cond (s == slice && c == column) (Some id) None) ≡ true → (s ≡ slice) × (c ≡ column)
put_there s c slice column id puts = let is = both_of (s == slice) (c == column) id puts in (eqb-true s slice is.0, eqb-true c column is.1)

-- what stands on a column after one more event is that event, or it stood there before, and the event doesn't clear the slice
pub stands_before : (history : List Event) (e : Event) (slice column : ℕ) (x : Event) → StandsOn (history ++ e ∷ []) slice column x →
    ((e ≡ x) × (is_some (put_on slice column e) ≡ true)) ⊎ (StandsOn history slice column x × (clears slice e ≡ false))
stands_before history e slice column x is =
    ⊎_elim
    (λ end. inl (end.2, ap (λ y. is_some (put_on slice column y)) end.2 ∙ is.puts))
    (λ more.
    let kept = none_of_push (clears slice) more.0 e (ap (list_any (clears slice)) (sym more.1) ∙ is.stays) in
    inr (record { earlier = is.earlier; later = more.0; whole = more.2; puts = is.puts; stays = kept.0 }, kept.1))
    (split_at_end history is.earlier is.later e x is.whole)

-- it stands there while the slice isn't cleared
pub stands-later : (front later : List Event) (slice column : ℕ) (x : Event) → list_any (clears slice) later ≡ false → StandsOn front slice column x →
    StandsOn (front ++ later) slice column x
stands-later front later slice column x kept is = record {
  earlier = is.earlier;
  later = is.later ++ later;
  whole = ap (λ h. h ++ later) is.whole ∙ append_assoc is.earlier (x ∷ is.later) later;
  puts = is.puts;
  stays = list_any-append (clears slice) is.later later ∙ or_from (list_any (clears slice) is.later) (list_any (clears slice) later) is.stays kept;
}

-- whether the event puts a document on the column
abbrev puts_on : ℕ → ℕ → Event → Bool
puts_on slice column e = is_some (put_on slice column e)

-- the event that stands on a column was made since the slice was opened, and the slice isn't being cleared
abbrev AreSinceOpened : List Event → Type 0
AreSinceOpened history =
    (slice column : ℕ) (x : Event) → StandsOn history slice column x →
    (is_clearing slice history ≡ false) × (list_any (puts_on slice column) (span slice history) ≡ true)

since_opened-push : (limits : Limits) (history : List Event) (e : Event) → IsLegal limits history → AreSinceOpened history → IsAllowed limits history e →
    AreSinceOpened (history ++ e ∷ [])
since_opened-push limits history e legal before allowed slice column x is =
    ⊎_elim
    (λ now.
    let there = puts_there slice column e now.1 in
    let open' : is_clearing slice history ≡ false =
    false_from_ne_true (is_clearing slice history) (λ clearing.
    both_ways (fills slice e) (not_filled_clearing limits history e slice legal allowed clearing) there.fills_it) in (
      not_clearing-push history e slice false (there.opens_none slice) open' (there.clears_none slice),
      in_span-push (puts_on slice column) slice history e (there.opens_none slice) ∙ or_right (list_any (puts_on slice column) (span slice history)) (puts_on slice column e) now.1,
    ))
    (λ was.
    let old = before slice column x was.0 in
    let stays : opens slice e ≡ false =
    false_from_ne_true (opens slice e) (λ opened.
    let is = opens_is slice e opened in
    let open' : IsAllowed limits history (event.Opened (pass_of e) slice is.0) = subst (IsAllowed limits history) is.1 allowed in
    both_ways (is_clearing slice history) old.0 (last_is_clearing limits history (pass_of e) slice legal open'.rule.cleared)) in (
      not_clearing-push history e slice false stays old.0 was.1,
      in_span-push (puts_on slice column) slice history e stays ∙ or_left (list_any (puts_on slice column) (span slice history)) (puts_on slice column e) old.1,
    ))
    (stands_before history e slice column x is)

pub since_opened : (limits : Limits) (history : List Event) (slice column : ℕ) (x : Event) → IsLegal limits history → StandsOn history slice column x →
    (is_clearing slice history ≡ false) × (list_any (puts_on slice column) (span slice history) ≡ true)
since_opened limits history slice column x legal =
    holds_of_legal limits AreSinceOpened (λ s c y is. absurd (not_empty is.earlier is.later y (sym is.whole)))
    (λ h e is_legal before allowed. since_opened-push limits h e is_legal before allowed) history legal slice column x

-- so no document stands on a pending column
pub pending_has_none : (limits : Limits) (history : List Event) (slice column pass : ℕ) (x : Event) → IsLegal limits history →
    IsPending history slice column pass → StandsOn history slice column x → ⊥
pending_has_none limits history slice column pass x legal pending is =
    both_ways (list_any (puts_on slice column) (span slice history)) pending.not_put (since_opened limits history slice column x legal is).1
