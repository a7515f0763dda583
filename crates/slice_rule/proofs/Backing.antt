-- What a pass is ready for, the home knows once it was told.
use Rattle.std.proofs.Common.{◌≡◌, get_or, List, [], ◌∷◌, ◌++◌, sym, subst}
use Rattle.std.proofs.lemmas.List.Elements.{Contains-append_left, Contains-append_right, Contains-get_or}
use Rattle.std.specs.List.{Contains}
use Rattle.funnel_model.specs.declared.event.Event.{Event}
use Rattle.funnel_model.specs.declared.event.Event.TheVariants as event
use Rattle.funnel_model.specs.Events.{pass_of}
use Rattle.funnel_model.specs.Legal.{Limits}
use Rattle.slice_rule.specs.declared.view.Fact.{Fact}
use Rattle.slice_rule.specs.declared.view.Fact.TheVariants as fact
use Rattle.slice_rule.specs.Numbers.{last_number}
use Rattle.slice_rule.specs.Rule.{HasKnownBits}
use Rattle.slice_rule.specs.Seats.{IsBacked, IsReady, PassState, facts_of_pass}

-- what the pass did itself is among what it tells
own_told : (pass : PassState) (told : List Fact) (f : Fact) → Contains pass.own f → Contains (facts_of_pass pass ++ told) f
own_told pass told f has =
    Contains-append_left (facts_of_pass pass) told f
    (Contains-append_right (fact.Asked pass.number pass.asked ∷ []) (pass.own ++ pass.told) f (Contains-append_left pass.own pass.told f has))

pub ready_backs : (limits : Limits) (pass : PassState) (told : List Fact) (history : List Event) (e : Event) → pass.front ≡ history → IsReady limits pass e
    → IsBacked limits (facts_of_pass pass ++ told) history e
ready_backs limits pass told history (event.Add p id text slice column bits) same ready = λ k d small.
    let b = get_or bits k d in
    subst (λ (h : List Event). Contains (facts_of_pass pass ++ told) (fact.BitSet (last_number p h) b)) same
    (own_told pass told (fact.BitSet (last_number p pass.front) b) ((ready b).0 (Contains-get_or bits k d small)))
ready_backs limits pass told history (event.Move p id slice column bits) same ready = λ k d small.
    let b = get_or bits k d in
    subst (λ (h : List Event). Contains (facts_of_pass pass ++ told) (fact.BitSet (last_number p h) b)) same
    (own_told pass told (fact.BitSet (last_number p pass.front) b) ((ready b).0 (Contains-get_or bits k d small)))
ready_backs limits pass told history (event.Opened p slice alone) same ready = λ word inside.
    subst (λ (h : List Event). Contains (facts_of_pass pass ++ told) (fact.WordZero (last_number p h) word)) same
    (own_told pass told (fact.WordZero (last_number p pass.front) word) (ready word inside))
ready_backs limits pass told history (event.Take p t c) same ready = tt
ready_backs limits pass told history (event.Drop p id text t c) same ready = tt
ready_backs limits pass told history (event.Del p id) same ready = tt
ready_backs limits pass told history (event.Void p t c) same ready = tt
ready_backs limits pass told history (event.Find p query) same ready = tt
ready_backs limits pass told history (event.End p) same ready = tt
ready_backs limits pass told history (event.Clear p t) same ready = tt
ready_backs limits pass told history (event.Tune p config) same ready = tt
ready_backs limits pass told history (event.No p asked) same ready = tt
ready_backs limits pass told history (event.Read p asked) same ready = tt

-- an add or a move for which the pass is ready has each bit that it knows set
pub ready_known : (limits : Limits) (pass : PassState) (e : Event) → pass_of e ≡ pass.number → IsReady limits pass e → HasKnownBits (last_number pass.number pass.front) pass.own e
ready_known limits pass (event.Add p id text slice column bits) its ready = λ b has.
    (ready b).1 (subst (λ n. Contains pass.own (fact.BitSet (last_number n pass.front) b)) (sym its) has)
ready_known limits pass (event.Move p id slice column bits) its ready = λ b has.
    (ready b).1 (subst (λ n. Contains pass.own (fact.BitSet (last_number n pass.front) b)) (sym its) has)
ready_known limits pass (event.Opened p slice alone) its ready = tt
ready_known limits pass (event.Take p t c) its ready = tt
ready_known limits pass (event.Drop p id text t c) its ready = tt
ready_known limits pass (event.Del p id) its ready = tt
ready_known limits pass (event.Void p t c) its ready = tt
ready_known limits pass (event.Find p query) its ready = tt
ready_known limits pass (event.End p) its ready = tt
ready_known limits pass (event.Clear p t) its ready = tt
ready_known limits pass (event.Tune p config) its ready = tt
ready_known limits pass (event.No p asked) its ready = tt
ready_known limits pass (event.Read p asked) its ready = tt

-- asking changes nothing that an event is ready by
pub ready_same : (limits : Limits) (pass other : PassState) (e : Event) → other.front ≡ pass.front → other.own ≡ pass.own → IsReady limits pass e → IsReady limits other e
ready_same limits pass other (event.Add p id text slice column bits) front own ready = λ b. rw (front, own) (ready b)
ready_same limits pass other (event.Move p id slice column bits) front own ready = λ b. rw (front, own) (ready b)
ready_same limits pass other (event.Opened p slice alone) front own ready = λ word inside. rw (front, own) (ready word inside)
ready_same limits pass other (event.Take p t c) front own ready = tt
ready_same limits pass other (event.Drop p id text t c) front own ready = tt
ready_same limits pass other (event.Del p id) front own ready = tt
ready_same limits pass other (event.Void p t c) front own ready = tt
ready_same limits pass other (event.Find p query) front own ready = tt
ready_same limits pass other (event.End p) front own ready = tt
ready_same limits pass other (event.Clear p t) front own ready = tt
ready_same limits pass other (event.Tune p config) front own ready = tt
ready_same limits pass other (event.No p asked) front own ready = tt
ready_same limits pass other (event.Read p asked) front own ready = tt
