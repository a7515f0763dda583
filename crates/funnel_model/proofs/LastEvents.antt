-- What the last events of the passes tell: who clears a slice, whose token is open, and what is awaited where one pass is alone.
use Rattle.std.proofs.Common.{◌≡◌, ℕ, ⊎_elim, Bool, true, false, cond, List, [], ◌∷◌, ◌++◌, Option, Some, None, sym, refl, ap, ◌∙◌, subst}
use Rattle.std.proofs.lemmas.Bool.{and_from, and_parts, both_ways, cases_eq, eq-eqb, eqb-true, false≢true, false_from_ne_true, or_cases, or_left, or_right}
use Rattle.std.proofs.lemmas.List.Elements.{All-head, All-tail}
use Rattle.std.specs.List.{All, fold, list_any}
use Rattle.std.specs.Option.{IfSome, option_and_then}
use Rattle.std.specs.Prelude.{◌==◌, ◌&&◌}
use Rattle.funnel_model.specs.declared.event.Event.{Event}
use Rattle.funnel_model.specs.declared.event.Event.TheVariants as event
use Rattle.funnel_model.specs.Events.{clears, finds_or_ends, leaves_open, next_after, opens, pass_of}
use Rattle.funnel_model.specs.History.{last_by}
use Rattle.funnel_model.specs.Legal.{Limits, IsAllowed, IsIdle, IsLegal, awaited}
use Rattle.funnel_model.specs.Slices.{is_clearing, is_clearing_by, span}
use Rattle.funnel_model.specs.Tokens.{HasToken, IsGuarded}
use Rattle.funnel_model.proofs.AnswerLemmas.{any_contained, contained_any}
use Rattle.funnel_model.proofs.Histories.{holds_of_legal}
use Rattle.funnel_model.proofs.NextEvents.{busy, last_by_before, next_of_clear, next_of_find}
use Rattle.funnel_model.proofs.Spans.{in_span-push, last_by-other, last_by-own, none_of_push, not_empty, span-opened, split_at_end}

-- an event that begins to clear a slice is a Clear of it
pub clears_is : (slice : ℕ) (e : Event) → clears slice e ≡ true → e ≡ event.Clear (pass_of e) slice
clears_is slice (event.Clear pass cleared) is = let s : cleared ≡ slice = eqb-true cleared slice is in cc
clears_is slice _ is = absurd (false≢true is)

-- an event that opens a slice is an Opened of it
pub opens_is : (slice : ℕ) (e : Event) → opens slice e ≡ true → (alone : Bool) × (e ≡ event.Opened (pass_of e) slice alone)
opens_is slice (event.Opened pass opened alone) is = let s : opened ≡ slice = eqb-true opened slice is in (alone, cc)
opens_is slice _ is = absurd (false≢true is)

-- a slice that is opened isn't being cleared
pub not_clearing_opened : (slice : ℕ) (history : List Event) (e : Event) → opens slice e ≡ true → is_clearing slice (history ++ e ∷ []) ≡ false
not_clearing_opened slice history e is = ap (list_any (clears slice)) (span-opened slice history e is)

-- a slice that is being cleared is so by some pass
pub clearing_by : (slice : ℕ) (history : List Event) → is_clearing slice history ≡ true → (pass : ℕ) × (is_clearing_by pass slice history ≡ true)
clearing_by slice history clearing =
    let by = contained_any (clears slice) (span slice history) clearing in (
      pass_of by.0,
      any_contained (λ e. pass_of e == pass_of by.0 && clears slice e) (span slice history) by.0 by.1
          (and_from (pass_of by.0 == pass_of by.0) (clears slice by.0) (eq-eqb (pass_of by.0) (pass_of by.0) refl) by.2),
    )

-- each pass that is clearing a slice has the Clear of it as its last event
abbrev HaveClearers : List Event → Type 0
HaveClearers history = (pass slice : ℕ) → is_clearing_by pass slice history ≡ true → last_by pass history ≡ Some (event.Clear pass slice)

-- the last event of a pass stays the Clear of a slice with an event that doesn't open the slice
clearer_stays : (limits : Limits) (history : List Event) (e : Event) (slice pass : ℕ) → IsAllowed limits history e → opens slice e ≡ false →
    last_by pass history ≡ Some (event.Clear pass slice) → last_by pass (history ++ e ∷ []) ≡ Some (event.Clear pass slice)
clearer_stays limits history e slice pass allowed stays last =
    ⊎_elim
    (λ own.
    let next = next_of_clear limits history e pass slice allowed (ap (λ p. last_by p history) own ∙ last) in
    absurd (both_ways (opens slice e) stays (ap (opens slice) next.1 ∙ eq-eqb slice slice refl)))
    (λ other. last_by-other pass history e other ∙ last)
    (cases_eq (pass_of e) pass)

-- a pass that clears a slice by an event has that event as its last
clears_now : (pass slice : ℕ) (history : List Event) (e : Event) → (pass_of e == pass && clears slice e) ≡ true →
    last_by pass (history ++ e ∷ []) ≡ Some (event.Clear pass slice)
clears_now pass slice history e is =
    let both = and_parts (pass_of e == pass) (clears slice e) is in
    let own = eqb-true (pass_of e) pass both.0 in
    last_by-own pass history e own ∙ ap Some (clears_is slice e both.1 ∙ ap (λ p. event.Clear p slice) own)

-- each pass that is clearing a slice has such a last event after an event that is allowed
clearers-push : (limits : Limits) (history : List Event) (e : Event) (pass slice : ℕ) → HaveClearers history → IsAllowed limits history e →
    (opened : Bool) → opens slice e ≡ opened → is_clearing_by pass slice (history ++ e ∷ []) ≡ true →
    last_by pass (history ++ e ∷ []) ≡ Some (event.Clear pass slice)
clearers-push limits history e pass slice before allowed true opened clearing =
    let test = λ (x : Event). pass_of x == pass && clears slice x in
    absurd (false≢true (sym (ap (list_any test) (span-opened slice history e opened)) ∙ clearing))
clearers-push limits history e pass slice before allowed false opened clearing =
    let test = λ (x : Event). pass_of x == pass && clears slice x in
    ⊎_elim
    (λ was. clearer_stays limits history e slice pass allowed opened (before pass slice was))
    (λ now. clears_now pass slice history e now)
    (or_cases (is_clearing_by pass slice history) (test e) (sym (in_span-push test slice history e opened) ∙ clearing))

-- a pass that is clearing a slice has made no event since its Clear of it
pub clearer_is_last : (limits : Limits) (history : List Event) (pass slice : ℕ) → IsLegal limits history → is_clearing_by pass slice history ≡ true →
    last_by pass history ≡ Some (event.Clear pass slice)
clearer_is_last limits history pass slice legal =
    holds_of_legal limits HaveClearers (λ p s is. absurd (false≢true is))
    (λ h e is_legal before allowed p s. clearers-push limits h e p s before allowed (opens s e) refl) history legal pass slice

-- a slice that is being cleared has a pass whose last event is the Clear of it
pub clearing_is_last : (limits : Limits) (history : List Event) (slice : ℕ) → IsLegal limits history → is_clearing slice history ≡ true →
    (pass : ℕ) × (last_by pass history ≡ Some (event.Clear pass slice))
clearing_is_last limits history slice legal clearing =
    let by = clearing_by slice history clearing in (by.0, clearer_is_last limits history by.0 slice legal by.1)

-- a pass whose last event is the Clear of a slice is clearing it, and no other pass is
record AreClearers (history : List Event) : Type 0 where
  clearing : (pass slice : ℕ) → last_by pass history ≡ Some (event.Clear pass slice) → is_clearing slice history ≡ true
  one : (pass other slice : ℕ) → last_by pass history ≡ Some (event.Clear pass slice) → last_by other history ≡ Some (event.Clear other slice) → pass ≡ other

-- a slice stays being cleared with an event of another pass than its clearer
clearing-push : (limits : Limits) (history : List Event) (e : Event) (pass slice : ℕ) → AreClearers history → IsAllowed limits history e →
    (pass_of e ≡ pass → ⊥) → last_by pass history ≡ Some (event.Clear pass slice) → (opened : Bool) → opens slice e ≡ opened →
    is_clearing slice (history ++ e ∷ []) ≡ true
clearing-push limits history e pass slice before allowed other last true opened =
    let is = opens_is slice e opened in
    let now : IsAllowed limits history (event.Opened (pass_of e) slice is.0) = subst (IsAllowed limits history) is.1 allowed in
    absurd (other (before.one (pass_of e) pass slice now.rule.cleared last))
clearing-push limits history e pass slice before allowed other last false opened =
    in_span-push (clears slice) slice history e opened ∙ or_left (is_clearing slice history) (clears slice e) (before.clearing pass slice last)

-- a slice is being cleared after the Clear of it
pub cleared_now : (slice pass : ℕ) (history : List Event) → is_clearing slice (history ++ event.Clear pass slice ∷ []) ≡ true
cleared_now slice pass history =
    in_span-push (clears slice) slice history (event.Clear pass slice) refl
    ∙ or_right (is_clearing slice history) (slice == slice) (eq-eqb slice slice refl)

-- a slice that is being cleared isn't cleared by another pass
not_again : (limits : Limits) (history : List Event) (e : Event) (pass other slice : ℕ) → AreClearers history → IsAllowed limits history e →
    e ≡ event.Clear pass slice → last_by other history ≡ Some (event.Clear other slice) → ⊥
not_again limits history e pass other slice before allowed is last =
    let now : IsAllowed limits history (event.Clear pass slice) = subst (IsAllowed limits history) is allowed in
    both_ways (is_clearing slice history) now.rule.can_clear.retired.not_clearing (before.clearing other slice last)

-- both stay with an event that is allowed
are_clearers-push : (limits : Limits) (history : List Event) (e : Event) → AreClearers history → IsAllowed limits history e → AreClearers (history ++ e ∷ [])
are_clearers-push limits history e before allowed = record {
  clearing = λ pass slice last.
      ⊎_elim
      (λ own. subst (λ x. is_clearing slice (history ++ x ∷ []) ≡ true) (sym own.1) (cleared_now slice pass history))
      (λ other. clearing-push limits history e pass slice before allowed other.0 other.1 (opens slice e) refl)
      (last_by_before pass history e (event.Clear pass slice) last);
  one = λ pass other slice last last_other.
      ⊎_elim
      (λ own. ⊎_elim
      (λ both. sym own.0 ∙ both.0)
      (λ apart. absurd (not_again limits history e pass other slice before allowed own.1 apart.1))
      (last_by_before other history e (event.Clear other slice) last_other))
      (λ before_it. ⊎_elim
      (λ own. absurd (not_again limits history e other pass slice before allowed own.1 before_it.1))
      (λ both. before.one pass other slice before_it.1 both.1)
      (last_by_before other history e (event.Clear other slice) last_other))
      (last_by_before pass history e (event.Clear pass slice) last);
}

-- both hold of each legal history
are_clearers : (limits : Limits) (history : List Event) → IsLegal limits history → AreClearers history
are_clearers limits =
    holds_of_legal limits AreClearers (record { clearing = λ pass slice last. cc; one = λ pass other slice last last_other. cc })
    (λ h e legal before allowed. are_clearers-push limits h e before allowed)

-- a pass whose last event is the Clear of a slice is clearing it
pub last_is_clearing : (limits : Limits) (history : List Event) (pass slice : ℕ) → IsLegal limits history →
    last_by pass history ≡ Some (event.Clear pass slice) → is_clearing slice history ≡ true
last_is_clearing limits history pass slice legal = (are_clearers limits history legal).clearing pass slice

-- and no other pass is
pub one_clearer : (limits : Limits) (history : List Event) (pass other slice : ℕ) → IsLegal limits history →
    last_by pass history ≡ Some (event.Clear pass slice) → last_by other history ≡ Some (event.Clear other slice) → pass ≡ other
one_clearer limits history pass other slice legal = (are_clearers limits history legal).one pass other slice

-- a pass whose last event is the Clear of a slice is the one that is clearing it
pub last_is_clearer : (limits : Limits) (history : List Event) (pass slice : ℕ) → IsLegal limits history →
    last_by pass history ≡ Some (event.Clear pass slice) → is_clearing_by pass slice history ≡ true
last_is_clearer limits history pass slice legal last =
    let by = clearing_by slice history (last_is_clearing limits history pass slice legal last) in
    let same = one_clearer limits history by.0 pass slice legal (clearer_is_last limits history by.0 slice legal by.1) last in
    subst (λ p. is_clearing_by p slice history ≡ true) same by.1

-- the last event of each pass whose token is open is its find
abbrev HaveFinds : List Event → Type 0
HaveFinds history = (pass number : ℕ) → HasToken history pass number → (query : List ℕ) × (last_by pass history ≡ Some (event.Find pass query))

-- the last event of a pass stays its find with an event that neither begins nor ends a find of it
find_stays : (limits : Limits) (history : List Event) (e : Event) (pass : ℕ) (query : List ℕ) → IsAllowed limits history e → finds_or_ends pass e ≡ false →
    last_by pass history ≡ Some (event.Find pass query) → last_by pass (history ++ e ∷ []) ≡ Some (event.Find pass query)
find_stays limits history e pass query allowed stays last =
    ⊎_elim
    (λ own.
    let next = next_of_find limits history e pass query allowed (ap (λ p. last_by p history) own ∙ last) in
    absurd (both_ways (finds_or_ends pass e) stays (ap (finds_or_ends pass) next ∙ eq-eqb pass pass refl)))
    (λ other. last_by-other pass history e other ∙ last)
    (cases_eq (pass_of e) pass)

-- the last events stay finds with an event that is allowed
finds-push : (limits : Limits) (history : List Event) (e : Event) → HaveFinds history → IsAllowed limits history e → HaveFinds (history ++ e ∷ [])
finds-push limits history e before allowed pass number token =
    ⊎_elim
    (λ end. (token.query, last_by-own pass history e (ap pass_of end.2) ∙ ap Some end.2))
    (λ more.
    let kept = none_of_push (finds_or_ends pass) more.0 e (ap (list_any (finds_or_ends pass)) (sym more.1) ∙ token.stays) in
    let find = before pass number (record {
      earlier = token.earlier;
      query = token.query;
      later = more.0;
      whole = more.2;
      count = token.count;
      stays = kept.0;
    }) in
    (find.0, find_stays limits history e pass find.0 allowed kept.1 find.1))
    (split_at_end history token.earlier token.later e (event.Find pass token.query) token.whole)

-- before the first event no token is open
no_tokens : (pass number : ℕ) → HasToken [] pass number → ⊥
no_tokens pass number token = not_empty token.earlier token.later (event.Find pass token.query) (sym token.whole)

-- a pass whose token is open has made no event since its find
pub token_is_last : (limits : Limits) (history : List Event) (pass number : ℕ) → IsLegal limits history → HasToken history pass number →
    (query : List ℕ) × (last_by pass history ≡ Some (event.Find pass query))
token_is_last limits history pass number legal =
    holds_of_legal limits HaveFinds (λ p n token. absurd (no_tokens p n token)) (λ h e is_legal before allowed. finds-push limits h e before allowed)
    history legal pass number

-- where all events are of one pass, the last of them all is its last, from any event on
alone_from : (pass : ℕ) (events : List Event) (last : Option Event) → All (λ e. pass_of e ≡ pass) events →
    fold (λ (_ : Option Event) e. next_after e) (option_and_then next_after last) events
    ≡ option_and_then next_after (fold (λ found e. cond (pass_of e == pass) (Some e) found) last events)
alone_from pass [] last alone = refl
alone_from pass (e ∷ later) last alone =
    let own = eq-eqb (pass_of e) pass (All-head (λ x. pass_of x ≡ pass) e later alone) in
    alone_from pass later (Some e) (All-tail (λ x. pass_of x ≡ pass) e later alone)
    ∙ ap (λ b. option_and_then next_after (fold (λ found x. cond (pass_of x == pass) (Some x) found) (cond b (Some e) last) later)) (sym own)

-- where all events are of one pass, its last event is the last of all
pub alone_awaits : (pass : ℕ) (history : List Event) → All (λ e. pass_of e ≡ pass) history →
    awaited history ≡ option_and_then next_after (last_by pass history)
alone_awaits pass history alone = alone_from pass history None alone

-- an event that leaves its pass idle asks for no other
idle_asks_nothing : (e : Event) → leaves_open e ≡ false → next_after e ≡ None
idle_asks_nothing (event.Opened pass slice true) idle = refl
idle_asks_nothing (event.Opened pass slice false) idle = cc
idle_asks_nothing _ idle = refl

-- the last event of an idle pass asks for no other
idle_option : (last : Option Event) → IfSome last (λ e. leaves_open e ≡ false) → option_and_then next_after last ≡ None
idle_option None idle = refl
idle_option (Some e) idle = idle_asks_nothing e idle

-- a pass that is alone and idle has no event that has to come next
pub idle_awaits_nothing : (pass : ℕ) (history : List Event) → All (λ e. pass_of e ≡ pass) history → IsIdle pass history → awaited history ≡ None
idle_awaits_nothing pass history alone idle = alone_awaits pass history alone ∙ idle_option (last_by pass history) idle

-- an event that is the last of a pass is an event of the history
last_from : (pass : ℕ) (P : Event → Type 0) (events : List Event) (last : Option Event) → All P events → IfSome last P →
    IfSome (fold (λ found e. cond (pass_of e == pass) (Some e) found) last events) P
last_from pass P [] last all holds = holds
last_from pass P (e ∷ later) last all holds =
    last_from pass P later (cond (pass_of e == pass) (Some e) last) (All-tail P e later all) (by_test (pass_of e == pass)) where
      by_test : (b : Bool) → IfSome (cond b (Some e) last) P
      by_test true = All-head P e later all
      by_test false = holds

-- what holds of each event holds of the last event of a pass
pub all_at_last : (pass : ℕ) (P : Event → Type 0) (history : List Event) (last : Event) → All P history → last_by pass history ≡ Some last → P last
all_at_last pass P history last all is = subst (λ o. IfSome o P) is (last_from pass P history None all tt)

-- where all events are of one idle pass, no pass is in the middle of a call
pub none_busy : (pass other : ℕ) (history : List Event) (last : Event) → All (λ e. pass_of e ≡ pass) history → IsIdle pass history →
    pass_of last ≡ other → last_by other history ≡ Some last → leaves_open last ≡ true → ⊥
none_busy pass other history last alone idle own is middle =
    let same = all_at_last other (λ e. pass_of e ≡ pass) history last alone is in
    busy pass history last (ap (λ p. last_by p history) (sym same ∙ own) ∙ is) middle idle

-- while a pass that is alone is idle, no slice is guarded
pub nothing_guards : (limits : Limits) (pass columns slice : ℕ) (history : List Event) → IsLegal limits history → All (λ e. pass_of e ≡ pass) history →
    IsIdle pass history → IsGuarded columns history slice → ⊥
nothing_guards limits pass columns slice history legal alone idle guarded =
    let find = token_is_last limits history guarded.0 guarded.1 legal guarded.2.token in
    none_busy pass guarded.0 history (event.Find guarded.0 find.0) alone idle refl find.1 refl

-- while a pass that is alone is idle, no slice is being cleared
pub nothing_clears : (limits : Limits) (pass slice : ℕ) (history : List Event) → IsLegal limits history → All (λ e. pass_of e ≡ pass) history →
    IsIdle pass history → is_clearing slice history ≡ false
nothing_clears limits pass slice history legal alone idle =
    false_from_ne_true (is_clearing slice history) (λ clearing.
    let by = clearing_is_last limits history slice legal clearing in
    none_busy pass by.0 history (event.Clear by.0 slice) alone idle refl by.1 refl)
