-- How the turns of a call at the desk make its step.
use Rattle.std.proofs.Common.{◌≡◌, ℕ, ◌+◌, ◌≤◌, Bool, true, false, cond, List, [], ◌∷◌, ◌++◌, length, Option, Some, None, sym, refl, ap, ◌∙◌, subst, append-nil, append_assoc, arith, inl, inr}
use Rattle.std.proofs.lemmas.Bool.{or_parts}
use Rattle.std.specs.List.{cons_option, list_any}
use Rattle.std.specs.Option.{is_some}
use Rattle.std.specs.Prelude.{IfSome, ◌==◌}
use mathlib.Core.List.{IsPrefix}
use Rattle.funnel_model.specs.declared.bit_list.Bit.{Bit}
use Rattle.funnel_model.specs.declared.call.Call.{Call}
use Rattle.funnel_model.specs.declared.call.Call.TheVariants as call
use Rattle.funnel_model.specs.declared.event.Event.{Event}
use Rattle.funnel_model.specs.declared.event.Event.TheVariants as event
use Rattle.funnel_model.specs.declared.reply.Reply.{Reply}
use Rattle.funnel_model.specs.declared.reply.Reply.TheVariants as reply
use Rattle.funnel_model.specs.Events.{call_of, leaves_open, moves, pass_of}
use Rattle.funnel_model.specs.History.{IsFrontOf, call_by, is_live, last_by, moved_by, own, place}
use Rattle.funnel_model.specs.Legal.{IsIdle, IsLegal, Limits}
use Rattle.funnel_model.specs.Steps.{AddsCall, AddsNone, FindsNoMemory, IsReply, Step, is_replaced, most_moves, place_told}
use Rattle.funnel_model.proofs.Clears.{last_by-front}
use Rattle.funnel_model.proofs.Spans.{last_by-own}
use Rattle.funnel_model.proofs.Moved.{moved_by-append, moved_by-others, moved_by-still}
use Rattle.funnel_model.proofs.StepLemmas.{own-append, prefix_trans, step_made_from, step_put_from}
use Rattle.slice_recycler.specs.Turns.{IsTurn}

-- events of other passes are no calls of the pass
pub own-others : (pass : ℕ) (events : List Event) → list_any (λ e. pass_of e == pass) events ≡ false → own pass events ≡ []
own-others pass [] silent = refl
own-others pass (e ∷ later) silent =
    let parts = or_parts (pass_of e == pass) (list_any (λ x. pass_of x == pass) later) silent in
    ap (λ b. cons_option (cond b (call_of e) None) (own pass later)) parts.0 ∙ own-others pass later parts.1

no_call : (o : Option Call) → is_some o ≡ false → o ≡ None
no_call None none = refl
no_call (Some asked) none = cc

one-unanswered : (pass : ℕ) (e : Event) (calls : List Call) → is_some (call_of e) ≡ false → cons_option (call_by pass e) calls ≡ calls
one-unanswered pass e calls none = by_pass (pass_of e == pass) where
  by_pass : (b : Bool) → cons_option (cond b (call_of e) None) calls ≡ calls
  by_pass true = ap (λ o. cons_option o calls) (no_call (call_of e) none)
  by_pass false = refl

-- and neither are events that answer no call; for given events this is `refl`
pub own-unanswered : (pass : ℕ) (events : List Event) → list_any (λ e. is_some (call_of e)) events ≡ false → own pass events ≡ []
own-unanswered pass [] none = refl
own-unanswered pass (e ∷ later) none =
    let parts = or_parts (is_some (call_of e)) (list_any (λ x. is_some (call_of x)) later) none in
    one-unanswered pass e (own pass later) parts.0 ∙ own-unanswered pass later parts.1

-- The history goes on over events that answer no call of the pass. The pass moves at most so many documents there.
pub record IsQuiet (pass most : ℕ) (before after : List Event) : Type 0 where
  pub more : List Event
  pub whole : after ≡ before ++ more
  pub none : own pass more ≡ []
  pub few : moved_by pass more ≤ most

pub quiet_none : (pass : ℕ) (history : List Event) → IsQuiet pass 0 history history
quiet_none pass history = record { more = []; whole = sym (append-nil history); none = refl; few = omega arith }

pub quiet_trans : (pass most others : ℕ) (before middle after : List Event) → IsQuiet pass most before middle → IsQuiet pass others middle after → IsQuiet pass (most + others) before after
quiet_trans pass most others before middle after first second = record {
  more = first.more ++ second.more;
  whole = second.whole ∙ ap (λ h. h ++ second.more) first.whole ∙ append_assoc before first.more second.more;
  none = own-append pass first.more second.more ∙ ap (λ cs. cs ++ own pass second.more) first.none ∙ second.none;
  few = omega (arith, moved_by-append pass first.more second.more, first.few, second.few);
}

-- a greater number serves too
pub quiet_weaker : (pass most greater : ℕ) (before after : List Event) → most ≤ greater → IsQuiet pass most before after → IsQuiet pass greater before after
quiet_weaker pass most greater before after within quiet = record { more = quiet.more; whole = quiet.whole; none = quiet.none; few = omega (arith, within, quiet.few) }

pub quiet_grows : (pass most : ℕ) (before after : List Event) → IsQuiet pass most before after → IsPrefix before after
quiet_grows pass most before after quiet = (quiet.more, sym quiet.whole)

pub quiet_adds_none : (pass most : ℕ) (before after : List Event) → IsQuiet pass most before after → AddsNone pass before after
quiet_adds_none pass most before after quiet =
    ap (own pass) quiet.whole ∙ own-append pass before quiet.more ∙ ap (λ cs. own pass before ++ cs) quiet.none ∙ append-nil (own pass before)

pub quiet_moves_few : (pass most : ℕ) (before after : List Event) → IsQuiet pass most before after → moved_by pass after ≤ moved_by pass before + most
quiet_moves_few pass most before after quiet =
    let parts = ap (moved_by pass) quiet.whole ∙ moved_by-append pass before quiet.more in
    let few = quiet.few in
    omega (arith, parts, few)

-- what others did since the pass saw the history last
pub quiet_front : (pass : ℕ) (before earlier : List Event) → IsFrontOf pass before earlier → IsQuiet pass 0 before earlier
quiet_front pass before earlier seen = record {
  more = seen.later;
  whole = seen.whole;
  none = own-others pass seen.later seen.silent;
  few = omega (arith, moved_by-others pass seen.later seen.silent);
}

-- The parts of a turn.
module _ {answers : List Event → Type 0} (pass : ℕ) (before after events : List Event) (turn : IsTurn pass before after answers events) where
  pub turn_grows : IsPrefix before after
  turn_grows = prefix_trans before turn.earlier after (quiet_grows pass 0 before turn.earlier (quiet_front pass before turn.earlier turn.seen)) (events, sym turn.made)

  -- a turn whose events answer no call, and move nothing
  pub quiet_turn : own pass events ≡ [] → list_any moves events ≡ false → IsQuiet pass 0 before after
  quiet_turn none still =
      quiet_trans pass 0 0 before turn.earlier after (quiet_front pass before turn.earlier turn.seen)
      (record { more = events; whole = turn.made; none = none; few = omega (arith, moved_by-still pass events still) })

-- A turn whose answer says something tells it.
pub turn_as : {answers tells : List Event → Type 0} (pass : ℕ) (before after events : List Event) → ((history : List Event) → answers history → tells history) →
    IsTurn pass before after answers events → IsTurn pass before after tells events
turn_as pass before after events says turn = record { earlier = turn.earlier; seen = turn.seen; answer = says turn.earlier turn.answer; made = turn.made }

-- A turn without an event leaves the last event of the pass as it was.
pub idle_still : {answers : List Event → Type 0} (pass : ℕ) (before after : List Event) → IsTurn pass before after answers [] → IsIdle pass before → IsIdle pass after
idle_still pass before after turn idle =
    let last = ap (last_by pass) (turn.made ∙ append-nil turn.earlier) ∙ last_by-front pass before turn.earlier turn.seen in
    subst (λ o. IfSome o (λ e. leaves_open e ≡ false)) (sym last) idle

-- A turn that ends with an event that leaves the pass idle does so.
pub idle_turn : {answers : List Event → Type 0} (pass : ℕ) (before after : List Event) (e : Event) → IsTurn pass before after answers (e ∷ []) → pass_of e ≡ pass → leaves_open e ≡ false → IsIdle pass after
idle_turn pass before after e turn mine shut =
    let last = ap (last_by pass) turn.made ∙ last_by-own pass turn.earlier e mine in
    subst (λ o. IfSome o (λ x. leaves_open x ≡ false)) (sym last) shut

-- A turn whose one event answers a call adds that call.
pub adds_call : {answers : List Event → Type 0} (pass : ℕ) (before after : List Event) (e : Event) (asked : Call) → IsTurn pass before after answers (e ∷ []) → call_by pass e ≡ Some asked →
    AddsCall pass before after asked
adds_call pass before after e asked turn call =
    ap (own pass) turn.made ∙ own-append pass turn.earlier (e ∷ [])
    ∙ ap (λ cs. cs ++ own pass (e ∷ [])) (quiet_adds_none pass 0 before turn.earlier (quiet_front pass before turn.earlier turn.seen))
    ∙ ap (λ o. own pass before ++ cons_option o []) call

-- A call goes on without an answer at first, then a turn's one event answers it, and then it goes on until the pass is idle.
pub step_made_within : {answers : List Event → Type 0} (limits : Limits) (pass : ℕ) (before middle after end : List Event) (e : Event) (asked : Call) (given : Reply) →
    IsIdle pass before → IsQuiet pass (most_moves asked) before middle → (turn : IsTurn pass middle after answers (e ∷ [])) → call_by pass e ≡ Some asked → moves e ≡ false →
    IsReply limits turn.earlier e given → is_replaced given ≡ false → IsQuiet pass 0 after end → IsLegal limits end → IsIdle pass end → Step limits pass before end asked given
step_made_within limits pass before middle after end e asked given idle first turn call unmoved replied replaces_none last legal idle_end =
    let most = most_moves asked in
    let led = quiet_trans pass most 0 before middle turn.earlier first (quiet_front pass middle turn.earlier turn.seen) in
    let few = quiet_moves_few pass (most + 0) before turn.earlier led in
    let still = last.few in
    let whole : end ≡ turn.earlier ++ e ∷ last.more = last.whole ∙ ap (λ h. h ++ last.more) turn.made ∙ append_assoc turn.earlier (e ∷ []) last.more in
    subst (λ (h : List Event). Step limits pass before h asked given) (sym whole)
    (step_made_from limits pass before turn.earlier e last.more asked given idle (quiet_grows pass (most + 0) before turn.earlier led) (quiet_adds_none pass (most + 0) before turn.earlier led)
    (omega (arith, few)) call unmoved last.none (omega (arith, still)) replied replaces_none (subst (IsLegal limits) whole legal) (subst (IsIdle pass) whole idle_end))

-- A call whose last turn has one event, which answers it: turns that answer nothing may come before it.
pub step_made_after : {answers : List Event → Type 0} (limits : Limits) (pass : ℕ) (before middle after : List Event) (e : Event) (asked : Call) (given : Reply) →
    IsIdle pass before → IsQuiet pass (most_moves asked) before middle → (turn : IsTurn pass middle after answers (e ∷ [])) → pass_of e ≡ pass → call_by pass e ≡ Some asked → moves e ≡ false → leaves_open e ≡ false →
    IsReply limits turn.earlier e given → is_replaced given ≡ false → IsLegal limits after → Step limits pass before after asked given
step_made_after limits pass before middle after e asked given idle first turn mine call unmoved shut replied replaces_none legal =
    step_made_within limits pass before middle after after e asked given idle first turn call unmoved replied replaces_none (quiet_none pass after) legal (idle_turn pass middle after e turn mine shut)

-- A call that is one turn with one event.
pub step_made_by_turn : {answers : List Event → Type 0} (limits : Limits) (pass : ℕ) (before after : List Event) (e : Event) (asked : Call) (given : Reply) →
    IsIdle pass before → (turn : IsTurn pass before after answers (e ∷ [])) → pass_of e ≡ pass → call_by pass e ≡ Some asked → moves e ≡ false → leaves_open e ≡ false →
    IsReply limits turn.earlier e given → is_replaced given ≡ false → IsLegal limits after → Step limits pass before after asked given
step_made_by_turn limits pass before after e asked given idle turn mine call unmoved shut replied replaces_none legal =
    step_made_after limits pass before before after e asked given idle (quiet_weaker pass 0 (most_moves asked) before before (omega arith) (quiet_none pass before)) turn mine call unmoved shut replied replaces_none legal

-- A put whose last turn adds its document: turns that answer nothing may come before it.
pub step_put_after : {answers : List Event → Type 0} (limits : Limits) (pass : ℕ) (before middle after : List Event) (id : ℕ) (text : List ℕ) (slice column : ℕ) (bits : List Bit) (given : Reply) →
    IsIdle pass before → IsQuiet pass (most_moves (call.Put id text)) before middle → (turn : IsTurn pass middle after answers (event.Add pass id text slice column bits ∷ [])) →
    given ≡ place_told (is_live id turn.earlier) (place turn.earlier + 1) → IsLegal limits after → Step limits pass before after (call.Put id text) given
step_put_after limits pass before middle after id text slice column bits given idle first turn told legal =
    let e = event.Add pass id text slice column bits in
    let most = most_moves (call.Put id text) in
    let led = quiet_trans pass most 0 before middle turn.earlier first (quiet_front pass middle turn.earlier turn.seen) in
    let few = quiet_moves_few pass (most + 0) before turn.earlier led in
    subst (λ (h : List Event). Step limits pass before h (call.Put id text) given) (sym turn.made)
    (step_put_from limits pass before turn.earlier id text slice column bits [] given idle (quiet_grows pass (most + 0) before turn.earlier led) (quiet_adds_none pass (most + 0) before turn.earlier led)
    (omega (arith, few)) refl refl told (subst (IsLegal limits) turn.made legal) (subst (IsIdle pass) turn.made (idle_turn pass middle after e turn refl refl)))

-- A call that came too late: its turn has no event, and it may have moved documents before.
pub step_spent_after : {answers : List Event → Type 0} (limits : Limits) (pass : ℕ) (before middle after : List Event) (asked : Call) →
    IsIdle pass before → IsIdle pass middle → IsQuiet pass (most_moves asked) before middle → (turn : IsTurn pass middle after answers []) → limits.events ≤ length turn.earlier → IsLegal limits after →
    Step limits pass before after asked reply.Spent
step_spent_after limits pass before middle after asked idle idle_middle first turn many legal =
    let most = most_moves asked in
    let quiet = quiet_trans pass most 0 before middle after first (quiet_turn pass middle after [] turn refl refl) in record {
      grows = quiet_grows pass (most + 0) before after quiet;
      legal = legal;
      idle_before = idle;
      idle_after = idle_still pass middle after turn idle_middle;
      few_moves = let few = quiet_moves_few pass (most + 0) before after quiet in omega (arith, few);
      outcome = inr (inr (inl (record {
        reply = refl;
        call = quiet_adds_none pass (most + 0) before after quiet;
        many = subst (λ (h : List Event). limits.events ≤ length h) (sym (turn.made ∙ append-nil turn.earlier)) many;
      })));
    }

pub step_spent_turn : {answers : List Event → Type 0} (limits : Limits) (pass : ℕ) (before after : List Event) (asked : Call) →
    IsIdle pass before → (turn : IsTurn pass before after answers []) → limits.events ≤ length turn.earlier → IsLegal limits after → Step limits pass before after asked reply.Spent
step_spent_turn limits pass before after asked idle turn many legal =
    step_spent_after limits pass before before after asked idle idle (quiet_weaker pass 0 (most_moves asked) before before (omega arith) (quiet_none pass before)) turn many legal

-- A call that found no memory: it led from front to front without an answer, or it had no turn at all.
pub step_lacks_memory : (limits : Limits) (pass : ℕ) (before after : List Event) (asked : Call) →
    IsIdle pass before → IsPrefix before after → moved_by pass after ≤ moved_by pass before + most_moves asked → FindsNoMemory pass before after asked → IsLegal limits after → IsIdle pass after →
    Step limits pass before after asked reply.Memory
step_lacks_memory limits pass before after asked idle grows few found legal idle_end = record {
  grows = grows;
  legal = legal;
  idle_before = idle;
  idle_after = idle_end;
  few_moves = few;
  outcome = inr (inl (record { reply = refl; call = found }));
}

module _ (limits : Limits) (pass : ℕ) (before after : List Event) (idle : IsIdle pass before) (legal : IsLegal limits after) (idle_end : IsIdle pass after) where
  -- an add may have moved documents before
  pub step_add_without_memory : (id : ℕ) (text : List ℕ) → IsQuiet pass (most_moves (call.Add id text)) before after → Step limits pass before after (call.Add id text) reply.Memory
  step_add_without_memory id text quiet =
      let most = most_moves (call.Add id text) in
      step_lacks_memory limits pass before after (call.Add id text) idle (quiet_grows pass most before after quiet) (quiet_moves_few pass most before after quiet) (quiet_adds_none pass most before after quiet) legal idle_end

  -- and so may a put
  pub step_put_without_memory : (id : ℕ) (text : List ℕ) → IsQuiet pass (most_moves (call.Put id text)) before after → Step limits pass before after (call.Put id text) reply.Memory
  step_put_without_memory id text quiet =
      let most = most_moves (call.Put id text) in
      step_lacks_memory limits pass before after (call.Put id text) idle (quiet_grows pass most before after quiet) (quiet_moves_few pass most before after quiet) (quiet_adds_none pass most before after quiet) legal idle_end

  module _ (quiet : IsQuiet pass 0 before after) where
    pub step_get_without_memory : (id : ℕ) → Step limits pass before after (call.Get id) reply.Memory
    step_get_without_memory id =
        step_lacks_memory limits pass before after (call.Get id) idle (quiet_grows pass 0 before after quiet) (quiet_moves_few pass 0 before after quiet) (inl (quiet_adds_none pass 0 before after quiet)) legal idle_end

    pub step_find_without_memory : (query : List ℕ) → Step limits pass before after (call.Find query) reply.Memory
    step_find_without_memory query =
        step_lacks_memory limits pass before after (call.Find query) idle (quiet_grows pass 0 before after quiet) (quiet_moves_few pass 0 before after quiet) (inl (quiet_adds_none pass 0 before after quiet)) legal idle_end

    pub step_journal_without_memory : (from : ℕ) → Step limits pass before after (call.Journal from) reply.Memory
    step_journal_without_memory from =
        step_lacks_memory limits pass before after (call.Journal from) idle (quiet_grows pass 0 before after quiet) (quiet_moves_few pass 0 before after quiet) (inl (quiet_adds_none pass 0 before after quiet)) legal idle_end

-- A find that began with a turn, and found no memory for its answer until the pass was idle.
pub step_found_without_memory : {answers : List Event → Type 0} (limits : Limits) (pass : ℕ) (before after end : List Event) (query : List ℕ) →
    IsIdle pass before → (turn : IsTurn pass before after answers (event.Find pass query ∷ [])) → call_by pass (event.Find pass query) ≡ Some (call.Find query) → IsQuiet pass 0 after end →
    IsLegal limits end → IsIdle pass end → Step limits pass before end (call.Find query) reply.Memory
step_found_without_memory limits pass before after end query idle turn calls last legal idle_end =
    let find = event.Find pass query in
    let began = quiet_moves_few pass 0 before turn.earlier (quiet_front pass before turn.earlier turn.seen) in
    let found = ap (moved_by pass) turn.made ∙ moved_by-append pass turn.earlier (find ∷ []) in
    let ended = quiet_moves_few pass 0 after end last in
    step_lacks_memory limits pass before end (call.Find query) idle
    (prefix_trans before after end (turn_grows pass before after (find ∷ []) turn) (quiet_grows pass 0 after end last))
    (omega (arith, began, found, ended, moved_by-still pass (find ∷ []) refl))
    (inr (quiet_adds_none pass 0 after end last ∙ adds_call pass before after find (call.Find query) turn calls)) legal idle_end
