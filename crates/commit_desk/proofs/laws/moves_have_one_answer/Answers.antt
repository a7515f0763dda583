use Rattle.std.proofs.Common.{◌≡◌, ℕ, List, length, sym, ◌∙◌, ap, ap₂, arith, subst, ⊎_elim}
use Rattle.std.proofs.lemmas.Bool.{cases_order}
use Rattle.funnel_model.specs.declared.claim.Claim.{Claim}
use Rattle.funnel_model.specs.declared.event.Event.{Event}
use Rattle.funnel_model.specs.History.{Document}
use Rattle.funnel_model.specs.Legal.{Limits, MayTake}
use Rattle.funnel_model.specs.Slices.{IsInState, Live, claimed}
use Rattle.funnel_model.proofs.Columns.{one_state}
use Rattle.funnel_model.proofs.ReserveLemmas.{one_held_count, one_ready, one_source}
use Rattle.commit_desk.specs.Laws.{NextLookIsOne, TakeOfMoveHasCause, TakeOfMoveIsOne}
use Rattle.commit_desk.specs.Moving.{HasRoomToEmpty, IsLowestFree, IsLowestLive, IsNamedAgain, IsNextToMove, LacksRoomToEmpty, LooksState}
use Rattle.commit_desk.proofs.laws.moves_have_one_answer.Goals as goal

-- the lowest column that no look names is one
one_free : (limits : Limits) (looks : LooksState) (history : List Event) (slice column at : ℕ) (document another : Document) (since from : ℕ) →
    IsLowestFree limits looks history slice column document since → IsLowestFree limits looks history slice at another from → column ≡ at
one_free limits looks history slice column at document another since from is is_too = ⊎_elim
    (λ same. same)
    (λ order. ⊎_elim
    (λ less. absurd (is_too.lowest column document since less is.free))
    (λ more. absurd (is.lowest at another from more is_too.free))
    order)
    (cases_order column at)

-- and so is the lowest that is live
one_live : (columns : ℕ) (history : List Event) (slice column at : ℕ) → IsLowestLive columns history slice column → IsLowestLive columns history slice at → column ≡ at
one_live columns history slice column at is is_too = ⊎_elim
    (λ same. same)
    (λ order. ⊎_elim
    (λ less. absurd (is_too.lowest column is.live.0 is.live.1 less is.live.2))
    (λ more. absurd (is.lowest at is_too.live.0 is_too.live.1 more is_too.live.2))
    order)
    (cases_order column at)

-- the next column of a slice is one
one_next : (limits : Limits) (looks : LooksState) (history : List Event) (slice column at : ℕ) (document another : Document) (since from : ℕ) →
    IsNextToMove limits looks history slice column document since → IsNextToMove limits looks history slice at another from → column ≡ at
one_next limits looks history slice column at document another since from is is_too = ⊎_elim
    (λ (free : IsLowestFree limits looks history slice column document since). ⊎_elim
    (λ free_too. one_free limits looks history slice column at document another since from free free_too)
    (λ (named : IsNamedAgain limits looks history slice at). absurd (named.none_free column document since free.free))
    is_too.next)
    (λ (named : IsNamedAgain limits looks history slice column). ⊎_elim
    (λ (free_too : IsLowestFree limits looks history slice at another from). absurd (named.none_free at another from free_too.free))
    (λ (named_too : IsNamedAgain limits looks history slice at). one_live limits.columns history slice column at named.lowest named_too.lowest)
    is_too.next)
    is.next

next_is_one : NextLookIsOne
next_is_one reserve most limits looks history replaces id slice column other at document another since from legal is is_too =
    let slices = one_source limits history slice other is.held is_too.held is.empties.source is_too.empties.source in
    let next_too : IsNextToMove limits looks history slice at another from =
    subst (λ s. IsNextToMove limits looks history s at another from) (sym slices) is_too.next in
    let columns = one_next limits looks history slice column at document another since from is.next next_too in
    let live_too : IsInState history slice column (Live another from) = subst (λ c. IsInState history slice c (Live another from)) (sym columns) next_too.live in
    let states = one_state limits history slice column (Live document since) (Live another from) legal is.next.live live_too in
    (slices, columns, cc, cc)

-- a slice in which a column may be taken is one
one_slice : (limits : Limits) (history : List Event) (pass slice column other at : ℕ) → MayTake limits history pass slice column → MayTake limits history pass other at →
    slice ≡ other
one_slice limits history pass slice column other at is is_too = ⊎_elim
    (λ same. same)
    (λ order. ⊎_elim
    (λ less. absurd (is_too.lowest slice less is.room))
    (λ more. absurd (is.lowest other more is_too.room))
    order)
    (cases_order slice other)

-- and so is the column
one_column : (limits : Limits) (history : List Event) (pass slice column other at : ℕ) → MayTake limits history pass slice column → MayTake limits history pass other at →
    column ≡ at
one_column limits history pass slice column other at is is_too =
    let slices = one_slice limits history pass slice column other at is is_too in
    is.next ∙ ap (λ s. length (claimed s history)) slices ∙ sym is_too.next

-- where there is room for all that is held of a slice, it isn't wanting
room_not_wanting : (limits : Limits) (history : List Event) (slice : ℕ) → HasRoomToEmpty limits history slice → LacksRoomToEmpty limits history slice → ⊥
room_not_wanting limits history slice has lacks =
    let held = one_held_count limits.columns history slice has.held lacks.held has.holds lacks.holds in
    let ready = one_ready limits history has.ready lacks.ready has.are_ready lacks.are_ready in
    let enough = has.enough in
    let fewer = lacks.fewer in
    omega (arith, held, ready, enough, fewer)

take_is_one : TakeOfMoveIsOne
take_is_one most limits history pass look taken other is is_too =
    let slices = one_slice limits history pass taken.claim.slice taken.claim.column other.claim.slice other.claim.column is.0.may is_too.0.may in
    let columns = one_column limits history pass taken.claim.slice taken.claim.column other.claim.slice other.claim.column is.0.may is_too.0.may in
    (ap₂ (λ s c. let k : Claim = record { slice = s; column = c } in k) slices columns, is.1 ∙ sym is_too.1)

-- where a column may be taken, it isn't said that none may
has_cause : TakeOfMoveHasCause
has_cause most limits history pass look doc refused some =
    let slice = some.0 in
    let column = some.1 in
    let may = some.2 in
    ⊎_elim
    (λ many. let takes = may.takes_calls in absurd (omega (arith, takes, many)))
    (λ others. ⊎_elim
    (λ gone. gone may.there)
    (λ others. ⊎_elim
    (λ no_room. no_room slice may.may.in_range may.may.room)
    (λ rest. ⊎_elim
    (λ its_own. may.other (one_slice limits history pass slice column look.slice its_own.0 may.may its_own.1))
    (λ lacks. room_not_wanting limits history look.slice may.room lacks)
    rest)
    others)
    others)
    refused.0

pub returns : goal.returns
returns c = (next_is_one, take_is_one, has_cause)
