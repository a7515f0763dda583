-- What an event makes of the desk and of the pass, by what the pool tells.
use Rattle.std.proofs.Common.{◌≡◌, ℕ, ◌+◌, ◌<◌, List, [], ◌∷◌, ◌++◌, length, refl, sym, ap, ◌∙◌, subst}
use Rattle.std.proofs.lemmas.List.{length-append}
use Rattle.funnel_model.specs.declared.event.Event.{Event}
use Rattle.std.specs.List.{All}
use Rattle.funnel_model.specs.Events.{pass_of}
use Rattle.funnel_model.specs.Legal.{IsLegal}
use Rattle.slice_rule.specs.Pools.{PoolId}
use Rattle.slice_rule.proofs.Since.{number_is as last_is}
use Rattle.slice_rule.specs.Numbers.{last_number}
use Rattle.slice_rule.specs.Seats.{HasMade, HasNoneOutstanding, HomeState, IsSameHome, PassState, after_append, number_under}
use Rattle.commit_desk.specs.Desks.{DeskState, IsCaughtUp, IsUnwritten, Makes}
use Rattle.commit_desk.proofs.Turns.{makes_one}

-- a desk with this home
abbrev pub desk_at : HomeState → ℕ → DeskState
desk_at home limit = record { pool = home.pool; events_limit = limit; history = home.history }

-- the desk and the pass after one event, which is legal there
pub made_with : (before : DeskState) (home new : HomeState) (limit : ℕ) (seat next : PassState) (e : Event) → desk_at home limit ≡ before → IsCaughtUp before seat →
    IsSameHome (after_append home e) new → IsLegal new.pool.limits new.history → HasMade e seat next → Makes (e ∷ []) before (desk_at new limit) seat next
made_with before home new limit seat next e view caught same legal made =
    subst (λ (d : DeskState). Makes (e ∷ []) d (desk_at new limit) seat next) view
    (makes_one (desk_at home limit) (desk_at new limit) seat next e (subst (λ (d : DeskState). IsCaughtUp d seat) (sym view) caught) same.pool refl same.history legal made)

pub made_one : (before : DeskState) (home new : HomeState) (limit : ℕ) (seat next : PassState) (e : Event) → desk_at home limit ≡ before → IsCaughtUp before seat →
    IsSameHome (after_append home e) new → IsLegal home.pool.limits (home.history ++ e ∷ []) → HasMade e seat next → Makes (e ∷ []) before (desk_at new limit) seat next
made_one before home new limit seat next e view caught same legal =
    made_with before home new limit seat next e view caught same
    (subst (λ (h : List Event). IsLegal new.pool.limits h) (sym same.history) (subst (λ p. IsLegal p.limits (home.history ++ e ∷ [])) (sym same.pool) legal))

-- the number of the event
pub number_is : (home new : HomeState) (e : Event) (events : ℕ) → IsSameHome (after_append home e) new → events ≡ length new.history → events ≡ length home.history + 1
number_is home new e events same count = count ∙ ap length same.history ∙ length-append home.history (e ∷ [])

-- a pass that just claimed a column has set no bit there yet
pub unwritten : (next : PassState) (before : List Event) (e : Event) (events : ℕ) (history : List Event) → pass_of e ≡ next.number → next.front ≡ before ++ e ∷ [] →
    next.front ≡ history → events ≡ length history → All (λ f. number_under f < events) next.own → IsUnwritten next
unwritten next before e events history its made seen count nothing =
    let all : events ≡ length before + 1 = count ∙ ap length (sym seen ∙ made) ∙ length-append before (e ∷ []) in
    let last : last_number next.number next.front ≡ events = last_is next.number next.front events e (record { earlier = before; later = []; whole = made; count = all }) its refl in
    record {
      nothing = subst (λ n. All (λ f. number_under f < n) next.own) (sym last) nothing;
    }

-- a pass that made events has seen the whole history still
pub caught_after : (events : List Event) (before after : DeskState) (seat next : PassState) → IsCaughtUp before seat → Makes events before after seat next → HasNoneOutstanding next → IsCaughtUp after next
caught_after events before after seat next caught made none = record {
  seated = record { same = made.same ∙ caught.seated.same ∙ sym made.pool; none_outstanding = none };
  in_range = subst (λ (p : PoolId). next.number < p.limits.passes) (sym made.pool) (subst (λ n. n < before.pool.limits.passes) (sym made.number) caught.in_range);
  front = made.front;
}
