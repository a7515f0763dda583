-- The current configuration and the treatment of a slice, event by event, and what a slice keeps while it is used.
use Rattle.std.proofs.Common.{◌≡◌, ℕ, ⊎_elim, Bool, true, false, cond, List, [], ◌∷◌, ◌++◌, Option, Some, None, sym, refl, ap, ◌∙◌, subst, append_assoc}
use Rattle.std.proofs.lemmas.Bool.{both_ways, false_from_ne_true, or_cases, or_parts}
use Rattle.std.proofs.lemmas.List.{append-nil}
use Rattle.std.proofs.lemmas.List.Folds.{list_any-append}
use Rattle.std.proofs.lemmas.List.Sums.{fold-append}
use Rattle.std.specs.List.{list_any}
use Rattle.std.specs.Option.{is_some}
use Rattle.std.specs.Prelude.{◌==◌, unwrap_or}
use Rattle.funnel_model.specs.declared.config.Config.{Config}
use Rattle.funnel_model.specs.declared.event.Event.{Event}
use Rattle.funnel_model.specs.declared.event.Event.TheVariants as event
use Rattle.funnel_model.specs.Events.{clears, pass_of, tuning_of}
use Rattle.funnel_model.specs.History.{IsFrontOf}
use Rattle.funnel_model.specs.Legal.{Limits, CanClear, IsAllowed, IsLegal}
use Rattle.funnel_model.specs.Slices.{Pending, IsInState, is_clearing, is_clearing_by}
use Rattle.funnel_model.specs.Tokens.{MayRead}
use Rattle.funnel_model.specs.Tunings.{current, current_and_treatment, treat}
use Rattle.funnel_model.proofs.Blocks.{by_is_clearing}
use Rattle.funnel_model.proofs.Clears.{clearing_stays, pending_not_retired, pending_stays, read_stays}
use Rattle.funnel_model.proofs.Histories.{allowed_within, legal_before}
use Rattle.funnel_model.proofs.LastEvents.{clears_is}
use Rattle.funnel_model.proofs.LiveLemmas.{by_push}
use Rattle.funnel_model.proofs.Spans.{none_of_push}

-- with one more event
pub current-push : (opening : Config) (history : List Event) (e : Event) → current opening (history ++ e ∷ []) ≡ unwrap_or (tuning_of e) (current opening history)
current-push opening history e = fold-append (λ last x. unwrap_or (tuning_of x) last) opening history (e ∷ [])

both-push : (opening : Config) (slice : ℕ) (history : List Event) (e : Event) →
    current_and_treatment opening slice (history ++ e ∷ [])
    ≡ (
      unwrap_or (tuning_of e) (current_and_treatment opening slice history).0,
      cond (clears slice e) (current_and_treatment opening slice history).0 (current_and_treatment opening slice history).1,
    )
both-push opening slice history e =
    fold-append (λ (both : Config × Config) x. (unwrap_or (tuning_of x) both.0, cond (clears slice x) both.0 both.1)) (opening, opening) history (e ∷ [])

-- the configuration that stands beside the treatment is the current one
current_is : (opening : Config) (slice : ℕ) (history : List Event) → (current_and_treatment opening slice history).0 ≡ current opening history
current_is opening slice =
    by_push (λ h. (current_and_treatment opening slice h).0 ≡ current opening h) refl
    (λ h e same. ap (λ (both : Config × Config). both.0) (both-push opening slice h e) ∙ ap (unwrap_or (tuning_of e)) same ∙ sym (current-push opening h e))

-- the treatment of a slice changes with a clear of it alone
pub treat-push : (opening : Config) (slice : ℕ) (history : List Event) (e : Event) →
    treat opening slice (history ++ e ∷ []) ≡ cond (clears slice e) (current opening history) (treat opening slice history)
treat-push opening slice history e =
    ap (λ (both : Config × Config). both.1) (both-push opening slice history e)
    ∙ ap (λ config. cond (clears slice e) config (treat opening slice history)) (current_is opening slice history)

-- so it stays with events that don't clear it
pub treat-later : (opening : Config) (slice : ℕ) (history later : List Event) → list_any (clears slice) later ≡ false →
    treat opening slice (history ++ later) ≡ treat opening slice history
treat-later opening slice history [] stays = ap (treat opening slice) (append-nil history)
treat-later opening slice history (e ∷ later) stays =
    let parts = or_parts (clears slice e) (list_any (clears slice) later) stays in
    ap (treat opening slice) (sym (append_assoc history (e ∷ []) later))
    ∙ treat-later opening slice (history ++ e ∷ []) later parts.1
    ∙ treat-push opening slice history e
    ∙ ap (λ b. cond b (current opening history) (treat opening slice history)) parts.0

-- the treatment is the configuration that was current when the slice was last cleared
pub treat_cleared : (opening : Config) (slice : ℕ) (earlier : List Event) (e : Event) (later : List Event) → clears slice e ≡ true →
    list_any (clears slice) later ≡ false → treat opening slice (earlier ++ e ∷ later) ≡ current opening earlier
treat_cleared opening slice earlier e later cleared stays =
    ap (treat opening slice) (sym (append_assoc earlier (e ∷ []) later))
    ∙ treat-later opening slice (earlier ++ e ∷ []) later stays
    ∙ treat-push opening slice earlier e
    ∙ ap (λ b. cond b (current opening earlier) (treat opening slice earlier)) cleared

-- the current configuration stays with events that give none
pub current-later : (opening : Config) (history later : List Event) → list_any (λ e. is_some (tuning_of e)) later ≡ false →
    current opening (history ++ later) ≡ current opening history
current-later opening history [] none = ap (current opening) (append-nil history)
current-later opening history (e ∷ later) none =
    let parts = or_parts (is_some (tuning_of e)) (list_any (λ x. is_some (tuning_of x)) later) none in
    ap (current opening) (sym (append_assoc history (e ∷ []) later))
    ∙ current-later opening (history ++ e ∷ []) later parts.1
    ∙ current-push opening history e
    ∙ silent (tuning_of e) (current opening history) parts.0 where
      silent : (o : Option Config) (last : Config) → is_some o ≡ false → unwrap_or o last ≡ last
      silent None last is = refl
      silent (Some config) last is = cc

pub current_tuned : (opening : Config) (earlier : List Event) (pass : ℕ) (config : Config) (later : List Event) →
    list_any (λ e. is_some (tuning_of e)) later ≡ false → current opening (earlier ++ event.Tune pass config ∷ later) ≡ config
current_tuned opening earlier pass config later none =
    let tune = event.Tune pass config in
    ap (current opening) (sym (append_assoc earlier (tune ∷ []) later))
    ∙ current-later opening (earlier ++ tune ∷ []) later none ∙ current-push opening earlier tune

-- while nothing was tuned each slice has the opening treatment
pub treat_untuned : (opening : Config) (slice : ℕ) (history : List Event) → list_any (λ e. is_some (tuning_of e)) history ≡ false →
    treat opening slice history ≡ opening
treat_untuned opening slice =
    by_push (λ h. list_any (λ e. is_some (tuning_of e)) h ≡ false → treat opening slice h ≡ opening) (λ none. refl)
    (λ h e before none.
    let parts = none_of_push (λ x. is_some (tuning_of x)) h e none in
    treat-push opening slice h e ∙ same (clears slice e) (current opening h) (treat opening slice h) (current-later opening [] h parts.0) (before parts.0)) where
      same : (b : Bool) (now was : Config) → now ≡ opening → was ≡ opening → cond b now was ≡ opening
      same true now was is_now is_was = is_now
      same false now was is_now is_was = is_was

-- where some element passes, the list is split at one that does
any_split : {A : Type 0} (test : A → Bool) (xs : List A) → list_any test xs ≡ true →
    (before : List A) × (x : A) × (after : List A) × (xs ≡ before ++ x ∷ after) × (test x ≡ true)
any_split test [] some = cc
any_split test (x ∷ xs) some =
    ⊎_elim
    (λ here. ([], x, xs, refl, here))
    (λ later. let found = any_split test xs later in (x ∷ found.0, found.1, found.2, ap (λ ys. x ∷ ys) found.3, found.4))
    (or_cases (test x) (list_any test xs) some)

-- a slice that can't be cleared while a pass makes no event isn't cleared meanwhile
none_cleared : (limits : Limits) (front history : List Event) (pass slice : ℕ) → IsLegal limits history → (goes : IsFrontOf pass front history) →
    ((h : List Event) → IsLegal limits h → IsFrontOf pass front h → CanClear limits.columns h slice → ⊥) → list_any (clears slice) goes.later ≡ false
none_cleared limits front history pass slice legal goes never =
    false_from_ne_true (list_any (clears slice) goes.later) (λ some.
    let split = any_split (clears slice) goes.later some in
    let before = split.0 in
    let e = split.1 in
    let whole : history ≡ (front ++ before) ++ e ∷ split.2 = goes.whole ∙ ap (λ xs. front ++ xs) split.3 ∙ sym (append_assoc front before (e ∷ split.2)) in
    let silent = or_parts (list_any (λ x. pass_of x == pass) before) (list_any (λ x. pass_of x == pass) (e ∷ split.2))
    (sym (list_any-append (λ x. pass_of x == pass) before (e ∷ split.2)) ∙ ap (list_any (λ x. pass_of x == pass)) (sym split.3) ∙ goes.silent) in
    let allowed = allowed_within limits history (front ++ before) e split.2 legal whole in
    never (front ++ before) (legal_before limits (front ++ before) (e ∷ split.2) (subst (IsLegal limits) whole legal))
    (record { later = before; whole = refl; silent = silent.0 })
    (subst (IsAllowed limits (front ++ before)) (clears_is slice e split.4) allowed).rule.can_clear)

-- the treatment of a slice stays while its pending column's pass makes no event
pub treat_pending : (limits : Limits) (opening : Config) (front history : List Event) (pass slice column : ℕ) → IsLegal limits history → IsFrontOf pass front history →
    IsInState front slice column (Pending pass) → treat opening slice history ≡ treat opening slice front
treat_pending limits opening front history pass slice column legal goes pending =
    ap (treat opening slice) goes.whole
    ∙ treat-later opening slice front goes.later
    (none_cleared limits front history pass slice legal goes (λ h is_legal so_far can.
    pending_not_retired limits h slice column pass is_legal (pending_stays limits front h pass slice column is_legal so_far pending) can.retired))

-- while the pass that clears it makes none
pub treat_clearing : (limits : Limits) (opening : Config) (front history : List Event) (pass slice : ℕ) → IsLegal limits history → IsFrontOf pass front history →
    is_clearing_by pass slice front ≡ true → treat opening slice history ≡ treat opening slice front
treat_clearing limits opening front history pass slice legal goes clearing =
    ap (treat opening slice) goes.whole
    ∙ treat-later opening slice front goes.later
    (none_cleared limits front history pass slice legal goes (λ h is_legal so_far can.
    both_ways (is_clearing slice h) can.retired.not_clearing
    (by_is_clearing pass slice h (clearing_stays limits front h pass slice is_legal so_far clearing))))

-- and while a pass whose find may read it makes none
pub treat_read : (limits : Limits) (opening : Config) (front history : List Event) (pass slice : ℕ) → IsLegal limits history → IsFrontOf pass front history →
    MayRead limits.columns front pass slice → treat opening slice history ≡ treat opening slice front
treat_read limits opening front history pass slice legal goes read =
    ap (treat opening slice) goes.whole ∙ treat-later opening slice front goes.later (read_stays limits front history pass slice legal goes read).0
