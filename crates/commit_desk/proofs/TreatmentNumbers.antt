-- The number of a slice's treatment, event by event.
use Rattle.std.proofs.Common.{◌≡◌, ℕ, ◌+◌, true, false, cond, List, [], ◌∷◌, ◌++◌, length, Option, Some, None, sym, refl, ap, ◌∙◌, append-nil}
use Rattle.std.proofs.lemmas.List.{length-append}
use Rattle.std.proofs.lemmas.List.Elements.{filter_map-append}
use Rattle.std.proofs.lemmas.List.Sums.{fold-append}
use Rattle.std.specs.List.{cons_option}
use Rattle.std.specs.Option.{option_map_or}
use Rattle.funnel_model.specs.declared.config.Config.{Config}
use Rattle.funnel_model.specs.declared.event.Event.{Event}
use Rattle.funnel_model.specs.Events.{clears, tuning_of}
use Rattle.funnel_model.specs.Tunings.{tunings}
use Rattle.funnel_model.proofs.LiveLemmas.{by_push}
use Rattle.commit_desk.specs.Layouts.{treatment_number, tunings_and_number}

both-push : (slice : ℕ) (history : List Event) (e : Event) →
    tunings_and_number slice (history ++ e ∷ [])
    ≡ (
      option_map_or (λ (config : Config). (tunings_and_number slice history).0 + 1) (tuning_of e) (tunings_and_number slice history).0,
      cond (clears slice e) (tunings_and_number slice history).0 (tunings_and_number slice history).1,
    )
both-push slice history e =
    fold-append (λ (both : ℕ × ℕ) x. (option_map_or (λ (config : Config). both.0 + 1) (tuning_of x) both.0, cond (clears slice x) both.0 both.1)) (0, 0) history (e ∷ [])

-- one more tuning, or none
more : (o : Option Config) (before : List Config) → length (before ++ cons_option o []) ≡ option_map_or (λ (config : Config). length before + 1) o (length before)
more None before = ap length (append-nil before)
more (Some config) before = length-append before (config ∷ [])

tunings-push : (history : List Event) (e : Event) →
    length (tunings (history ++ e ∷ [])) ≡ option_map_or (λ (config : Config). length (tunings history) + 1) (tuning_of e) (length (tunings history))
tunings-push history e = ap length (filter_map-append tuning_of history (e ∷ [])) ∙ more (tuning_of e) (tunings history)

count_is : (slice : ℕ) (history : List Event) → (tunings_and_number slice history).0 ≡ length (tunings history)
count_is slice =
    by_push (λ h. (tunings_and_number slice h).0 ≡ length (tunings h)) refl
    (λ h e same. ap (λ (both : ℕ × ℕ). both.0) (both-push slice h e)
    ∙ ap (λ n. option_map_or (λ (config : Config). n + 1) (tuning_of e) n) same ∙ sym (tunings-push h e))

-- the number changes with a Clear of the slice alone
number-push : (slice : ℕ) (history : List Event) (e : Event) →
    treatment_number slice (history ++ e ∷ []) ≡ cond (clears slice e) (length (tunings history)) (treatment_number slice history)
number-push slice history e =
    ap (λ (both : ℕ × ℕ). both.1) (both-push slice history e) ∙ ap (λ n. cond (clears slice e) n (treatment_number slice history)) (count_is slice history)

pub number-quiet : (slice : ℕ) (history : List Event) (e : Event) → clears slice e ≡ false → treatment_number slice (history ++ e ∷ []) ≡ treatment_number slice history
number-quiet slice history e quiet =
    number-push slice history e ∙ ap (λ b. cond b (length (tunings history)) (treatment_number slice history)) quiet

pub number-clear : (slice : ℕ) (history : List Event) (e : Event) → clears slice e ≡ true → treatment_number slice (history ++ e ∷ []) ≡ length (tunings history)
number-clear slice history e cleared =
    number-push slice history e ∙ ap (λ b. cond b (length (tunings history)) (treatment_number slice history)) cleared
