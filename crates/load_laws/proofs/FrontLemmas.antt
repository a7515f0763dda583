-- A pass in a history and in the fronts of it after which the pass made no event.
use Rattle.std.proofs.Common.{◌≡◌, ℕ, ◌==◌, false, cond, List, [], ◌∷◌, ◌++◌, None, refl, sym, ap, ◌∙◌, subst, arith, append_assoc}
use Rattle.std.proofs.lemmas.Bool.{or_from, or_parts}
use Rattle.std.proofs.lemmas.List.{append-nil, append_cancel_left}
use Rattle.std.proofs.lemmas.List.Folds.{list_any-append}
use Rattle.std.specs.List.{cons_option, list_any}
use Rattle.std.specs.Option.{IfSome}
use mathlib.Core.List.{IsPrefix}
use Rattle.funnel_model.proofs.Clears.{last_by-front}
use Rattle.funnel_model.proofs.Moved.{moved_by-append, moved_by-others}
use Rattle.funnel_model.proofs.StepLemmas.{own-append}
use Rattle.funnel_model.specs.declared.event.Event.{Event}
use Rattle.funnel_model.specs.Events.{call_of, leaves_open, pass_of}
use Rattle.funnel_model.specs.History.{IsFrontOf, moved_by, own}
use Rattle.funnel_model.specs.Legal.{IsIdle}

-- events of other passes make no call of this one
no_call : (pass : ℕ) (later : List Event) → list_any (λ e. pass_of e == pass) later ≡ false → own pass later ≡ []
no_call pass [] silent = refl
no_call pass (e ∷ later) silent =
    let parts = or_parts (pass_of e == pass) (list_any (λ x. pass_of x == pass) later) silent in
    ap (λ b. cons_option (cond b (call_of e) None) (own pass later)) parts.0 ∙ no_call pass later parts.1

-- so the calls of a pass are those in a front of it
pub calls_in_front : (pass : ℕ) (front history : List Event) → IsFrontOf pass front history → own pass history ≡ own pass front
calls_in_front pass front history seen =
    ap (own pass) seen.whole ∙ own-append pass front seen.later
    ∙ ap (λ cs. own pass front ++ cs) (no_call pass seen.later seen.silent) ∙ append-nil (own pass front)

-- and so are its moves
pub moved_in_front : (pass : ℕ) (front history : List Event) → IsFrontOf pass front history → moved_by pass history ≡ moved_by pass front
moved_in_front pass front history seen =
    ap (moved_by pass) seen.whole
    ∙ omega (arith, moved_by-append pass front seen.later, moved_by-others pass seen.later seen.silent)

-- and it is idle if it was
pub idle_from_front : (pass : ℕ) (front history : List Event) → IsFrontOf pass front history → IsIdle pass front → IsIdle pass history
idle_from_front pass front history seen idle =
    subst (λ o. IfSome o (λ e. leaves_open e ≡ false)) (sym (last_by-front pass front history seen)) idle

-- a front of a front is one
pub front_trans : (pass : ℕ) (front middle history : List Event) → IsFrontOf pass front middle → IsFrontOf pass middle history →
    IsFrontOf pass front history
front_trans pass front middle history first second = record {
  later = first.later ++ second.later;
  whole = second.whole ∙ ap (λ (h : List Event). h ++ second.later) first.whole ∙ append_assoc front first.later second.later;
  silent =
      list_any-append (λ e. pass_of e == pass) first.later second.later
      ∙ or_from (list_any (λ e. pass_of e == pass) first.later) (list_any (λ e. pass_of e == pass) second.later) first.silent second.silent;
}

-- a front of a history is one of all that lies between
pub front_between : (pass : ℕ) (front middle history : List Event) → IsFrontOf pass front history → IsPrefix front middle → IsPrefix middle history →
    IsFrontOf pass front middle
front_between pass front middle history seen goes_on goes_further =
    let later : seen.later ≡ goes_on.0 ++ goes_further.0 =
    append_cancel_left front seen.later (goes_on.0 ++ goes_further.0)
    (sym seen.whole ∙ sym goes_further.1 ∙ ap (λ (h : List Event). h ++ goes_further.0) (sym goes_on.1)
    ∙ append_assoc front goes_on.0 goes_further.0) in
    record {
      later = goes_on.0;
      whole = sym goes_on.1;
      silent = (or_parts (list_any (λ e. pass_of e == pass) goes_on.0) (list_any (λ e. pass_of e == pass) goes_further.0)
          (sym (list_any-append (λ e. pass_of e == pass) goes_on.0 goes_further.0) ∙ ap (list_any (λ e. pass_of e == pass)) (sym later) ∙ seen.silent)).0;
    }
