-- How many documents a pass moved, event by event.
use Rattle.std.proofs.Common.{◌≡◌, ℕ, ◌+◌, ◌≤◌, Bool, true, false, cond, List, [], ◌∷◌, ◌++◌, refl, ap, ap₂, ◌∙◌, arith}
use Rattle.std.proofs.lemmas.Bool.{or_parts}
use Rattle.std.proofs.lemmas.List.Sums.{sum_by-append, sum_by-cons, sum_by_push}
use Rattle.std.specs.List.{list_any}
use Rattle.std.specs.Prelude.{◌==◌, ◌&&◌}
use Rattle.funnel_model.specs.declared.call.Call.{Call}
use Rattle.funnel_model.specs.declared.call.Call.TheVariants as call
use Rattle.funnel_model.specs.declared.event.Event.{Event}
use Rattle.funnel_model.specs.declared.reply.Reply.{Reply}
use Rattle.funnel_model.specs.Events.{moves, pass_of}
use Rattle.funnel_model.specs.History.{moved_by}
use Rattle.funnel_model.specs.Legal.{Limits}
use Rattle.funnel_model.specs.Steps.{Step, most_moves}

-- in two parts, one after the other
pub moved_by-append : (pass : ℕ) (xs ys : List Event) → moved_by pass (xs ++ ys) ≡ moved_by pass xs + moved_by pass ys
moved_by-append pass xs ys = sum_by-append (λ e. cond (pass_of e == pass && moves e) 1 0) xs ys

abbrev one_if : Bool → ℕ
one_if b = cond b 1 0

no_second : (first second : Bool) → second ≡ false → one_if (first && second) ≡ 0
no_second true second none = ap one_if none
no_second false second none = refl

no_first : (first second : Bool) → first ≡ false → one_if (first && second) ≡ 0
no_first true second none = cc
no_first false second none = refl

-- events that move nothing, and events of other passes
pub moved_by-still : (pass : ℕ) (events : List Event) → list_any moves events ≡ false → moved_by pass events ≡ 0
moved_by-still pass [] still = refl
moved_by-still pass (e ∷ later) still =
    let parts = or_parts (moves e) (list_any moves later) still in
    sum_by-cons (λ x. cond (pass_of x == pass && moves x) 1 0) e later
    ∙ ap₂ (λ m n. m + n) (no_second (pass_of e == pass) (moves e) parts.0) (moved_by-still pass later parts.1)

pub moved_by-others : (pass : ℕ) (events : List Event) → list_any (λ e. pass_of e == pass) events ≡ false → moved_by pass events ≡ 0
moved_by-others pass [] silent = refl
moved_by-others pass (e ∷ later) silent =
    let parts = or_parts (pass_of e == pass) (list_any (λ x. pass_of x == pass) later) silent in
    sum_by-cons (λ x. cond (pass_of x == pass && moves x) 1 0) e later
    ∙ ap₂ (λ m n. m + n) (no_first (pass_of e == pass) (moves e) parts.0) (moved_by-others pass later parts.1)

-- one more event
pub moved_by-push : (pass : ℕ) (history : List Event) (e : Event) → moved_by pass (history ++ e ∷ []) ≡ moved_by pass history + cond (pass_of e == pass && moves e) 1 0
moved_by-push pass history e = sum_by_push (λ x. cond (pass_of x == pass && moves x) 1 0) history e

-- an add and a put move few, and another call none
pub adds_move_few : (limits : Limits) (pass : ℕ) (before after : List Event) (id : ℕ) (text : List ℕ) (given : Reply) → Step limits pass before after (call.Add id text) given →
    moved_by pass after ≤ moved_by pass before + 16
adds_move_few limits pass before after id text given step = let few = step.few_moves in omega (arith, few)

pub puts_move_few : (limits : Limits) (pass : ℕ) (before after : List Event) (id : ℕ) (text : List ℕ) (given : Reply) → Step limits pass before after (call.Put id text) given →
    moved_by pass after ≤ moved_by pass before + 16
puts_move_few limits pass before after id text given step = let few = step.few_moves in omega (arith, few)

pub others_move_none : (limits : Limits) (pass : ℕ) (before after : List Event) (asked : Call) (given : Reply) →
    ((id : ℕ) (text : List ℕ) → (asked ≡ call.Add id text → ⊥) × (asked ≡ call.Put id text → ⊥)) →
    Step limits pass before after asked given → moved_by pass after ≤ moved_by pass before
others_move_none limits pass before after asked given neither step = let few = step.few_moves in let none = none_for asked neither in omega (arith, few, none) where
  none_for : (other : Call) → ((id : ℕ) (text : List ℕ) → (other ≡ call.Add id text → ⊥) × (other ≡ call.Put id text → ⊥)) → most_moves other ≡ 0
  none_for (call.Add id text) neither = absurd ((neither id text).0 refl)
  none_for (call.Put id text) neither = absurd ((neither id text).1 refl)
  none_for _ neither = refl
