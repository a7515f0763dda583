-- What the checks of the calls tell of a history.
use Rattle.std.proofs.Common.{◌≡◌, ◌≤◌, Err, Some, ap, sym, refl, inl, inr, ℕ, Bool, true, false, List, length, ◌∙◌}
use Rattle.std.proofs.lemmas.Bool.{both_ways, false≢true}
use Rattle.std.proofs.Math.Nat.{lt_of_not-le}
use Rattle.std.specs.Option.{is_some}
use Rattle.std.specs.Prelude.{IsTrue}
use Rattle.funnel_model.specs.declared.event.Event.{Event}
use Rattle.funnel_model.specs.History.{is_live, live, live_place}
use Rattle.funnel_model.specs.Legal.{IsFull, IsRefused, Limits}
use Rattle.funnel_model.proofs.LiveLemmas.{is_live-from_place}
use Rattle.commit_desk.specs.declared.answers.CommitFault.{CommitFault}
use Rattle.commit_desk.specs.declared.answers.CommitFault.TheVariants as commit
use Rattle.commit_desk.specs.Answers.{AnswersCommit, IsPresent, TakesCalls, call_asked, in_the_way}

-- calls are taken where the history isn't found to be too long
pub takes_calls : (most : ℕ) (history : List Event) → (most ≤ length history → IsTrue false) → TakesCalls most history
takes_calls most history few = lt_of_not-le (λ long. false≢true (few long))

-- a number without a place is not live
pub absent_by_place : (history : List Event) (id : ℕ) → is_some (live_place id history) ≡ false → is_live id history ≡ false
absent_by_place history id none = is_live-from_place id (live history) ∙ none

-- and one with a place is
pub live_by_place : (history : List Event) (id : ℕ) → is_some (live_place id history) ≡ true → is_live id history ≡ true
live_by_place history id some = is_live-from_place id (live history) ∙ some

-- where nothing is in the way of a document, its number is not live, unless it replaces
pub absent_by_way : (history : List Event) (replaces : Bool) (id : ℕ) → is_some (in_the_way replaces id history) ≡ false → replaces ≡ false → is_live id history ≡ false
absent_by_way history true id none adds = absurd (both_ways true adds refl)
absent_by_way history false id none adds = absent_by_place history id none

-- what is in the way is live, and isn't replaced
pub present_in_way : (history : List Event) (replaces : Bool) (id added : ℕ) → Some added ≡ in_the_way replaces id history → IsPresent history id added × (replaces ≡ false)
present_in_way history true id added is = absurd (false≢true (sym (ap is_some is)))
present_in_way history false id added is = (record { live = sym is }, refl)

-- so it isn't in the way of a document that may enter
pub kept_out_in_way : {A : Type 0} (history : List Event) (replaces : Bool) (id : ℕ) → (replaces ≡ false → is_live id history ≡ false) → is_some (in_the_way replaces id history) ≡ true → A
kept_out_in_way history true id absent some = absurd (false≢true some)
kept_out_in_way history false id absent some = absurd (both_ways (is_live id history) (absent refl) (live_by_place history id some))

-- an add of a live number may be refused, and where the engine is full an add or a put
pub refused_present : (limits : Limits) (history : List Event) (replaces : Bool) (id added : ℕ) (text : List ℕ) → IsPresent history id added × (replaces ≡ false) →
    IsRefused limits history (call_asked replaces id text)
refused_present limits history true id added text is = absurd (both_ways true is.1 refl)
refused_present limits history false id added text is = inl (live_by_place history id (ap is_some is.0.live))

pub refused_full : (limits : Limits) (history : List Event) (replaces : Bool) (id : ℕ) (text : List ℕ) → IsFull limits history → IsRefused limits history (call_asked replaces id text)
refused_full limits history true id text full = full
refused_full limits history false id text full = inr full

-- a document that is not added at its commit has a number that is live
pub dropped_is_live : (history : List Event) (id : ℕ) (fault : CommitFault) → AnswersCommit history id (Err fault) → is_live id history ≡ true
dropped_is_live history id (commit.Present added) is = live_by_place history id (ap is_some is.live)
