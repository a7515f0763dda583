-- What events are answered: each call has one reply, and refusals have their cause.
use Rattle.std.proofs.Common.{◌≡◌, ℕ, ◌+◌, ◌<◌, ◌≤◌, ⊎_elim, Bool, true, false, cond, List, [], ◌∷◌, ◌++◌, length, Option, Some, None, sym, refl, ap, ◌∙◌, subst, inl, inr, arith}
use Rattle.std.proofs.lemmas.Bool.{both_ways, lt-ltb, ltb-true}
use Rattle.std.proofs.lemmas.List.{length-append}
use Rattle.std.proofs.lemmas.List.Elements.{filter_map-append}
use Rattle.std.specs.Option.{is_some, option_map, option_map_or}
use Rattle.std.specs.Prelude.{◌⊎◌, nat_lt}
use Rattle.funnel_model.specs.declared.call.Call.{Call}
use Rattle.funnel_model.specs.declared.call.Call.TheVariants as call
use Rattle.funnel_model.specs.declared.commit.Commit.{Commit}
use Rattle.funnel_model.specs.declared.event.Event.{Event}
use Rattle.funnel_model.specs.declared.event.Event.TheVariants as event
use Rattle.funnel_model.specs.declared.reply.Reply.{Reply}
use Rattle.funnel_model.specs.declared.reply.Reply.TheVariants as reply
use Rattle.funnel_model.specs.Blocks.{IsLowestGuard}
use Rattle.funnel_model.specs.declared.config.Config.{Config}
use Rattle.funnel_model.specs.Events.{call_of, tuning_of}
use Rattle.funnel_model.specs.declared.stats.Stats.{Stats}
use Rattle.funnel_model.specs.History.{Document, answer, base, commits_after, document_with, is_live, live, live_place, place}
use Rattle.funnel_model.specs.Legal.{Limits, IsAllowed, IsFull, IsLegal, IsRefused, NoneCanClear}
use Rattle.funnel_model.specs.Slices.{IsRetired}
use Rattle.funnel_model.specs.Steps.{IsLowestGuarded, IsReply, IsReplyToRead, IsReplyToRecycle, IsReplyToRefused, IsReplyToStats, NoneRetired, place_told, text_told}
use Rattle.funnel_model.specs.Tunings.{tunings}
use Rattle.funnel_model.proofs.Blocks.{least_below, lowest_guard, one_guard, one_lowest}
use Rattle.funnel_model.proofs.LiveLemmas.{is_live-from_place}
use Rattle.funnel_model.proofs.NumberLemmas.{one_stats, retired_cases, some_stats}

-- a recycle that may be refused has a reply
recycle_reply : (limits : Limits) (history : List Event) → IsLegal limits history → NoneCanClear limits history →
    (given : Reply) × IsReplyToRecycle limits history given
recycle_reply limits history legal none_can =
    ⊎_elim
    (λ found.
    let in' = found.1 in
    let guard = lowest_guard limits.columns found.0 history (none_can found.0 in' found.2) in (
      reply.Guarded found.0 guard.0,
      record { in_range = in'; retired = found.2; lowest = found.3; number = guard.1; guard = guard.2 },
    ))
    (λ none. (reply.NothingRetired, none))
    (least_below (λ slice. IsRetired limits.columns slice history) (retired_cases limits history legal) limits.slices)

-- a call that may be refused has a reply
refused_reply : (limits : Limits) (history : List Event) (asked : Call) → IsLegal limits history → IsRefused limits history asked →
    (given : Reply) × IsReplyToRefused limits history asked given
refused_reply limits history (call.Add id text) legal refused =
    (option_map_or reply.Present (live_place id history) reply.Full, refl)
refused_reply limits history (call.Put id text) legal refused = (reply.Full, refl)
refused_reply limits history (call.Delete id) legal refused = (reply.Absent, refl)
refused_reply limits history call.Recycle legal refused = recycle_reply limits history legal refused
refused_reply limits history asked legal refused = absurd refused

-- a number is live where its add has a place, and is not where it has none
live_by : (id : ℕ) (history : List Event) (o : Option ℕ) → live_place id history ≡ o → is_live id history ≡ is_some o
live_by id history o is = is_live-from_place id (live history) ∙ ap is_some is

-- a dropped add has a reply, since its number is live
dropped_reply : (id : ℕ) (history : List Event) (o : Option ℕ) → live_place id history ≡ o → is_live id history ≡ true →
    (given : Reply) × (option_map reply.Present (live_place id history) ≡ Some given)
dropped_reply id history (Some place) is present = (reply.Present place, ap (option_map reply.Present) is)
dropped_reply id history None is present = absurd (both_ways (is_live id history) (live_by id history None is) present)

-- and it tells the place of that number's add
pub dropped_at : (o : Option ℕ) (given : Reply) → option_map reply.Present o ≡ Some given → (place : ℕ) × (o ≡ Some place) × (reply.Present place ≡ given)
dropped_at (Some place) given is = let same : reply.Present place ≡ given = cc in (place, refl, same)
dropped_at None given is = cc

-- each event that is allowed and answers a call has a reply
pub has_reply : (limits : Limits) (history : List Event) (e : Event) (asked : Call) → IsLegal limits history → IsAllowed limits history e →
    call_of e ≡ Some asked → (given : Reply) × IsReply limits history e given
has_reply limits history (event.Add pass id text slice column bits) asked legal allowed is =
    (place_told (is_live id history) (place history + 1), refl)
has_reply limits history (event.Drop pass id text slice column) asked legal allowed is =
    dropped_reply id history (live_place id history) refl allowed.rule.present
has_reply limits history (event.Del pass id) asked legal allowed is = (reply.Deleted (place history + 1), refl)
has_reply limits history (event.Find pass query) asked legal allowed is = (reply.Found (answer history query), refl)
has_reply limits history (event.Opened pass slice true) asked legal allowed is = (reply.Recycled slice, (refl, refl))
has_reply limits history (event.Opened pass slice false) asked legal allowed is = cc
has_reply limits history (event.No pass refused) asked legal allowed is = refused_reply limits history refused legal allowed.rule.refused
has_reply limits history (event.Tune pass config) asked legal allowed is = (reply.Tuned (length (tunings history) + 1), refl)
has_reply limits history (event.Read pass call.Place) asked legal allowed is = (reply.Place (place history), refl)
has_reply limits history (event.Read pass (call.Journal from)) asked legal allowed is = (
  cond (nat_lt from (base limits.commits history)) (reply.Trimmed (base limits.commits history)) (reply.Commits (commits_after history from)),
  refl,
)
has_reply limits history (event.Read pass (call.Get id)) asked legal allowed is = (text_told (document_with id history), refl)
has_reply limits history (event.Read pass call.Stats) asked legal allowed is =
    let some = some_stats limits history legal in (reply.Stats some.0, some.1)
has_reply limits history (event.Read pass _) asked legal allowed is = absurd allowed.rule.reads
has_reply limits history _ asked legal allowed is = cc

-- the lowest retired slice and its guard are one
one_guarded : (limits : Limits) (history : List Event) (slice other pass another : ℕ) → IsLowestGuarded limits history slice pass →
    IsLowestGuarded limits history other another → (slice ≡ other) × (pass ≡ another)
one_guarded limits history slice other pass another is is_too =
    let same = one_lowest (λ s. IsRetired limits.columns s history) slice other is.retired is_too.retired is.lowest is_too.lowest in (
      same,
      one_guard limits.columns history other pass another is.number is_too.number
          (subst (λ s. IsLowestGuard limits.columns history s pass is.number) same is.guard) is_too.guard,
    )

-- a refused recycle has one reply
one_recycle_reply : (limits : Limits) (history : List Event) (given other : Reply) → IsReplyToRecycle limits history given → IsReplyToRecycle limits history other →
    given ≡ other
one_recycle_reply limits history reply.NothingRetired reply.NothingRetired is also = refl
one_recycle_reply limits history reply.NothingRetired (reply.Guarded slice pass) is also = absurd (is slice also.in_range also.retired)
one_recycle_reply limits history (reply.Guarded slice pass) reply.NothingRetired is also = absurd (also slice is.in_range is.retired)
one_recycle_reply limits history (reply.Guarded slice pass) (reply.Guarded lower guard) is also =
    let same = one_guarded limits history slice lower pass guard is also in
    ap (λ s. reply.Guarded s pass) same.0 ∙ ap (reply.Guarded lower) same.1
one_recycle_reply limits history reply.NothingRetired other is also = absurd also
one_recycle_reply limits history (reply.Guarded slice pass) other is also = absurd also
one_recycle_reply limits history given other is also = absurd is

-- a refused call has one reply
one_refused_reply : (limits : Limits) (history : List Event) (asked : Call) (given other : Reply) → IsReplyToRefused limits history asked given →
    IsReplyToRefused limits history asked other → given ≡ other
one_refused_reply limits history (call.Add id text) given other is also = is ∙ sym also
one_refused_reply limits history (call.Put id text) given other is also = is ∙ sym also
one_refused_reply limits history (call.Delete id) given other is also = is ∙ sym also
one_refused_reply limits history call.Recycle given other is also = one_recycle_reply limits history given other is also
one_refused_reply limits history asked given other is also = absurd is

-- the numbers of the engine are told in one way
one_stats_reply : (limits : Limits) (history : List Event) (given other : Reply) → IsReplyToStats limits history given → IsReplyToStats limits history other → given ≡ other
one_stats_reply limits history (reply.Stats stats) (reply.Stats others) is also = ap reply.Stats (one_stats limits history stats others is also)
one_stats_reply limits history (reply.Stats stats) other is also = absurd also
one_stats_reply limits history given other is also = absurd is

-- an event has one reply
pub one_reply : (limits : Limits) (history : List Event) (e : Event) (given other : Reply) → IsReply limits history e given → IsReply limits history e other → given ≡ other
one_reply limits history (event.Add pass id text slice column bits) given other is also = is ∙ sym also
one_reply limits history (event.Drop pass id text slice column) given other is also = let same : Some given ≡ Some other = sym is ∙ also in cc
one_reply limits history (event.Del pass id) given other is also = is ∙ sym also
one_reply limits history (event.Find pass query) given other is also = is ∙ sym also
one_reply limits history (event.Opened pass slice alone) given other is also = is.1 ∙ sym also.1
one_reply limits history (event.No pass asked) given other is also = one_refused_reply limits history asked given other is also
one_reply limits history (event.Tune pass config) given other is also = is ∙ sym also
one_reply limits history (event.Read pass call.Place) given other is also = is ∙ sym also
one_reply limits history (event.Read pass (call.Journal from)) given other is also = is ∙ sym also
one_reply limits history (event.Read pass (call.Get id)) given other is also = is ∙ sym also
one_reply limits history (event.Read pass call.Stats) given other is also = one_stats_reply limits history given other is also
one_reply limits history (event.Read pass _) given other is also = absurd is
one_reply limits history _ given other is also = absurd is

-- an event with a reply answers a call
pub reply_has_call : (limits : Limits) (history : List Event) (e : Event) (given : Reply) → IsReply limits history e given → (asked : Call) × (call_of e ≡ Some asked)
reply_has_call limits history (event.Add pass id text slice column bits) given is = (call.Add id text, refl)
reply_has_call limits history (event.Drop pass id text slice column) given is = (call.Add id text, refl)
reply_has_call limits history (event.Del pass id) given is = (call.Delete id, refl)
reply_has_call limits history (event.Find pass query) given is = (call.Find query, refl)
reply_has_call limits history (event.Opened pass slice alone) given is = (call.Recycle, ap (λ b. cond b (Some call.Recycle) None) is.0)
reply_has_call limits history (event.No pass asked) given is = (asked, refl)
reply_has_call limits history (event.Tune pass config) given is = (call.Tune config, refl)
reply_has_call limits history (event.Read pass asked) given is = (asked, refl)
reply_has_call limits history _ given is = absurd is

-- whether a reply tells that a number is live
abbrev pub is_present : Reply → Bool
is_present (reply.Present place) = true
is_present _ = false

-- what the reply to a refused add tells
present_of : (o : Option ℕ) (other : Reply) (n : ℕ) → is_present other ≡ false → reply.Present n ≡ option_map_or reply.Present o other → o ≡ Some n
present_of (Some m) other n not_present is = let same : m ≡ n = cc in ap Some same
present_of None other n not_present is = let same = ap is_present is ∙ not_present in cc

full_of : (o : Option ℕ) → reply.Full ≡ option_map_or reply.Present o reply.Full → o ≡ None
full_of (Some m) is = cc
full_of None is = refl

-- what no reply to an add that is done, to a get or to stats is, no such event tells
not_placed : (test : Reply → Bool) (history : List Event) (id : ℕ) (given : Reply) → test given ≡ true →
    ((n : ℕ) → (test (reply.Added n) ≡ false) × (test (reply.Replaced n) ≡ false)) → given ≡ place_told (is_live id history) (place history + 1) → ⊥
not_placed test history id given so none is = both_ways (test given) (ap test is ∙ by (is_live id history) (place history + 1)) so where
  by : (b : Bool) (n : ℕ) → test (place_told b n) ≡ false
  by true n = (none n).1
  by false n = (none n).0

not_text : (test : Reply → Bool) (o : Option Document) (given : Reply) → test given ≡ true →
    ((n : ℕ) (text : List ℕ) → test (reply.Text n text) ≡ false) → test reply.Absent ≡ false → given ≡ text_told o → ⊥
not_text test (Some d) given so no_text not_absent is = both_ways (test given) (ap test is ∙ no_text d.place d.text) so
not_text test None given so no_text not_absent is = both_ways (test given) (ap test is ∙ not_absent) so

not_stats : (test : Reply → Bool) (limits : Limits) (history : List Event) (given : Reply) → test given ≡ true →
    ((stats : Stats) → test (reply.Stats stats) ≡ false) → IsReplyToStats limits history given → ⊥
not_stats test limits history (reply.Stats stats) so none is = both_ways (test (reply.Stats stats)) (none stats) so
not_stats test limits history given so none is = absurd is

-- whether a reply is one to a journal
abbrev pub answers_journal : Reply → Bool
answers_journal (reply.Trimmed n) = true
answers_journal (reply.Commits commits) = true
answers_journal _ = false

-- no other reply is given to a journal
not_journal : (limits : Limits) (history : List Event) (from : ℕ) (given : Reply) → answers_journal given ≡ false →
    IsReplyToRead limits history (call.Journal from) given → ⊥
not_journal limits history from given other is =
    both_ways (answers_journal given) other
    (ap answers_journal is ∙ told (nat_lt from (base limits.commits history)) (base limits.commits history) (commits_after history from)) where
      told : (b : Bool) (n : ℕ) (commits : List Commit) → answers_journal (cond b (reply.Trimmed n) (reply.Commits commits)) ≡ true
      told true n commits = refl
      told false n commits = refl

-- whether a reply is one of these
abbrev is_trimmed : Reply → Bool
is_trimmed (reply.Trimmed n) = true
is_trimmed _ = false

abbrev is_full : Reply → Bool
is_full reply.Full = true
is_full _ = false

abbrev is_absent : Reply → Bool
is_absent reply.Absent = true
is_absent _ = false

abbrev is_tuned : Reply → Bool
is_tuned (reply.Tuned n) = true
is_tuned _ = false

-- Present tells the place of the live document's add
pub present_cause : (limits : Limits) (history : List Event) (e : Event) (n : ℕ) → IsReply limits history e (reply.Present n) →
    (id : ℕ) × (text : List ℕ) × (call_of e ≡ Some (call.Add id text)) × (live_place id history ≡ Some n)
present_cause limits history (event.Drop pass id text slice column) n is =
    let at = dropped_at (live_place id history) (reply.Present n) is in
    let same : at.0 ≡ n = let told = at.2 in cc in (id, text, refl, at.1 ∙ ap Some same)
present_cause limits history (event.No pass (call.Add id text)) n is = (id, text, refl, present_of (live_place id history) reply.Full n refl is)
present_cause limits history (event.No pass (call.Put id text)) n is = cc
present_cause limits history (event.No pass (call.Delete id)) n is = cc
present_cause limits history (event.No pass _) n is = absurd is
present_cause limits history (event.Opened pass slice alone) n is = let same = is.1 in cc
present_cause limits history (event.Tune pass config) n is = cc
present_cause limits history (event.Read pass call.Place) n is = cc
present_cause limits history (event.Read pass (call.Journal from)) n is = absurd (not_journal limits history from (reply.Present n) refl is)
present_cause limits history (event.Read pass (call.Get id)) n is = absurd (not_text is_present (document_with id history) (reply.Present n) refl (λ k text. refl) refl is)
present_cause limits history (event.Read pass call.Stats) n is = absurd (not_stats is_present limits history (reply.Present n) refl (λ stats. refl) is)
present_cause limits history (event.Read pass _) n is = absurd is
present_cause limits history (event.Add pass id text slice column bits) n is = absurd (not_placed is_present history id (reply.Present n) refl (λ k. (refl, refl)) is)
present_cause limits history (event.Del pass id) n is = cc
present_cause limits history (event.Find pass query) n is = cc
present_cause limits history _ n is = absurd is

-- Trimmed tells how many commits the journal no longer keeps, and that one of them was asked for
pub trimmed_cause : (limits : Limits) (history : List Event) (e : Event) (n : ℕ) → IsReply limits history e (reply.Trimmed n) →
    (pass : ℕ) × (from : ℕ) × (e ≡ event.Read pass (call.Journal from)) × (from < n) × (n ≡ base limits.commits history)
trimmed_cause limits history (event.Read pass (call.Journal from)) n is =
    let same = told (nat_lt from (base limits.commits history)) refl is in (pass, from, refl, same.0, same.1) where
      told : (b : Bool) → nat_lt from (base limits.commits history) ≡ b →
          reply.Trimmed n ≡ cond b (reply.Trimmed (base limits.commits history)) (reply.Commits (commits_after history from)) →
          (from < n) × (n ≡ base limits.commits history)
      told true below same =
          let kept : n ≡ base limits.commits history = cc in
          (subst (λ m. from < m) (sym kept) (ltb-true from (base limits.commits history) below), kept)
      told false below same = cc
trimmed_cause limits history (event.Read pass call.Place) n is = cc
trimmed_cause limits history (event.Read pass (call.Get id)) n is = absurd (not_text is_trimmed (document_with id history) (reply.Trimmed n) refl (λ k text. refl) refl is)
trimmed_cause limits history (event.Read pass call.Stats) n is = absurd (not_stats is_trimmed limits history (reply.Trimmed n) refl (λ stats. refl) is)
trimmed_cause limits history (event.Read pass _) n is = absurd is
trimmed_cause limits history (event.No pass (call.Add id text)) n is = absurd (not_add (live_place id history) is) where
  not_add : (o : Option ℕ) → reply.Trimmed n ≡ option_map_or reply.Present o reply.Full → ⊥
  not_add (Some m) same = cc
  not_add None same = cc
trimmed_cause limits history (event.No pass (call.Put id text)) n is = cc
trimmed_cause limits history (event.No pass (call.Delete id)) n is = cc
trimmed_cause limits history (event.No pass call.Recycle) n is = absurd is
trimmed_cause limits history (event.No pass _) n is = absurd is
trimmed_cause limits history (event.Drop pass id text slice column) n is = let other = (dropped_at (live_place id history) (reply.Trimmed n) is).2 in cc
trimmed_cause limits history (event.Opened pass slice alone) n is = let same = is.1 in cc
trimmed_cause limits history (event.Tune pass config) n is = cc
trimmed_cause limits history (event.Add pass id text slice column bits) n is = absurd (not_placed is_trimmed history id (reply.Trimmed n) refl (λ k. (refl, refl)) is)
trimmed_cause limits history (event.Del pass id) n is = cc
trimmed_cause limits history (event.Find pass query) n is = cc
trimmed_cause limits history _ n is = absurd is

-- Full tells that the engine is
pub full_cause : (limits : Limits) (history : List Event) (e : Event) → IsAllowed limits history e → IsReply limits history e reply.Full → IsFull limits history
full_cause limits history (event.No pass (call.Add id text)) allowed is =
    let none = full_of (live_place id history) is in
    ⊎_elim (λ live'. absurd (both_ways (is_live id history) (live_by id history None none) live')) (λ full. full) allowed.rule.refused
full_cause limits history (event.No pass (call.Put id text)) allowed is = allowed.rule.refused
full_cause limits history (event.No pass (call.Delete id)) allowed is = cc
full_cause limits history (event.No pass _) allowed is = absurd is
full_cause limits history (event.Drop pass id text slice column) allowed is = let other = (dropped_at (live_place id history) reply.Full is).2 in cc
full_cause limits history (event.Opened pass slice alone) allowed is = let same = is.1 in cc
full_cause limits history (event.Tune pass config) allowed is = cc
full_cause limits history (event.Read pass call.Place) allowed is = cc
full_cause limits history (event.Read pass (call.Journal from)) allowed is = absurd (not_journal limits history from reply.Full refl is)
full_cause limits history (event.Read pass (call.Get id)) allowed is = absurd (not_text is_full (document_with id history) reply.Full refl (λ k text. refl) refl is)
full_cause limits history (event.Read pass call.Stats) allowed is = absurd (not_stats is_full limits history reply.Full refl (λ stats. refl) is)
full_cause limits history (event.Read pass _) allowed is = absurd is
full_cause limits history (event.Add pass id text slice column bits) allowed is = absurd (not_placed is_full history id reply.Full refl (λ k. (refl, refl)) is)
full_cause limits history (event.Del pass id) allowed is = cc
full_cause limits history (event.Find pass query) allowed is = cc
full_cause limits history _ allowed is = absurd is

-- a number whose document isn't found is not live
absent_of : (id : ℕ) (history : List Event) (o : Option Document) → document_with id history ≡ o → reply.Absent ≡ text_told o → is_live id history ≡ false
absent_of id history (Some d) found is = cc
absent_of id history None found is = live_by id history None (ap (option_map (λ (d : Document). d.place)) found)

-- Absent tells that the number of a delete or a get isn't live
pub absent_cause : (limits : Limits) (history : List Event) (e : Event) → IsAllowed limits history e → IsReply limits history e reply.Absent →
    (pass : ℕ) × (id : ℕ) × ((e ≡ event.No pass (call.Delete id)) ⊎ (e ≡ event.Read pass (call.Get id))) × (is_live id history ≡ false)
absent_cause limits history (event.No pass (call.Put id text)) allowed is = cc
absent_cause limits history (event.No pass (call.Delete id)) allowed is = (pass, id, inl refl, allowed.rule.refused)
absent_cause limits history (event.No pass (call.Add id text)) allowed is = absurd (not_add (live_place id history) is) where
  not_add : (o : Option ℕ) → reply.Absent ≡ option_map_or reply.Present o reply.Full → ⊥
  not_add (Some m) same = cc
  not_add None same = cc
absent_cause limits history (event.No pass _) allowed is = absurd is
absent_cause limits history (event.Drop pass id text slice column) allowed is = let other = (dropped_at (live_place id history) reply.Absent is).2 in cc
absent_cause limits history (event.Opened pass slice alone) allowed is = let same = is.1 in cc
absent_cause limits history (event.Tune pass config) allowed is = cc
absent_cause limits history (event.Read pass call.Place) allowed is = cc
absent_cause limits history (event.Read pass (call.Journal from)) allowed is = absurd (not_journal limits history from reply.Absent refl is)
absent_cause limits history (event.Read pass (call.Get id)) allowed is = (pass, id, inr refl, absent_of id history (document_with id history) refl is)
absent_cause limits history (event.Read pass call.Stats) allowed is = absurd (not_stats is_absent limits history reply.Absent refl (λ stats. refl) is)
absent_cause limits history (event.Read pass _) allowed is = absurd is
absent_cause limits history (event.Add pass id text slice column bits) allowed is = absurd (not_placed is_absent history id reply.Absent refl (λ k. (refl, refl)) is)
absent_cause limits history (event.Del pass id) allowed is = cc
absent_cause limits history (event.Find pass query) allowed is = cc
absent_cause limits history _ allowed is = absurd is

-- whether a reply is one to a refused recycle
abbrev pub refuses_recycle : Reply → Bool
refuses_recycle reply.NothingRetired = true
refuses_recycle (reply.Guarded slice pass) = true
refuses_recycle _ = false

-- it comes for a refused recycle alone
recycle_cause : (limits : Limits) (history : List Event) (e : Event) (given : Reply) → refuses_recycle given ≡ true → IsReply limits history e given →
    (pass : ℕ) × (e ≡ event.No pass call.Recycle) × IsReplyToRecycle limits history given
recycle_cause limits history (event.No pass call.Recycle) given refuses is = (pass, refl, is)
recycle_cause limits history (event.No pass (call.Add id text)) given refuses is =
    absurd (both_ways (refuses_recycle given) (ap refuses_recycle is ∙ not_add (live_place id history)) refuses) where
      not_add : (o : Option ℕ) → refuses_recycle (option_map_or reply.Present o reply.Full) ≡ false
      not_add (Some m) = refl
      not_add None = refl
recycle_cause limits history (event.No pass (call.Put id text)) given refuses is = absurd (both_ways (refuses_recycle given) (ap refuses_recycle is) refuses)
recycle_cause limits history (event.No pass (call.Delete id)) given refuses is = absurd (both_ways (refuses_recycle given) (ap refuses_recycle is) refuses)
recycle_cause limits history (event.No pass _) given refuses is = absurd is
recycle_cause limits history (event.Drop pass id text slice column) given refuses is =
    absurd (both_ways (refuses_recycle given) (ap refuses_recycle (sym (dropped_at (live_place id history) given is).2)) refuses)
recycle_cause limits history (event.Opened pass slice alone) given refuses is = absurd (both_ways (refuses_recycle given) (ap refuses_recycle is.1) refuses)
recycle_cause limits history (event.Tune pass config) given refuses is = absurd (both_ways (refuses_recycle given) (ap refuses_recycle is) refuses)
recycle_cause limits history (event.Read pass call.Place) given refuses is = absurd (both_ways (refuses_recycle given) (ap refuses_recycle is) refuses)
recycle_cause limits history (event.Read pass (call.Journal from)) given refuses is =
    absurd (not_journal limits history from given (other given refuses) is) where
      other : (reply : Reply) → refuses_recycle reply ≡ true → answers_journal reply ≡ false
      other reply.NothingRetired is' = refl
      other (reply.Guarded slice pass) is' = refl
      other _ is' = cc
recycle_cause limits history (event.Read pass (call.Get id)) given refuses is =
    absurd (not_text refuses_recycle (document_with id history) given refuses (λ k text. refl) refl is)
recycle_cause limits history (event.Read pass call.Stats) given refuses is = absurd (not_stats refuses_recycle limits history given refuses (λ stats. refl) is)
recycle_cause limits history (event.Read pass _) given refuses is = absurd is
recycle_cause limits history (event.Add pass id text slice column bits) given refuses is =
    absurd (not_placed refuses_recycle history id given refuses (λ k. (refl, refl)) is)
recycle_cause limits history (event.Del pass id) given refuses is = absurd (both_ways (refuses_recycle given) (ap refuses_recycle is) refuses)
recycle_cause limits history (event.Find pass query) given refuses is = absurd (both_ways (refuses_recycle given) (ap refuses_recycle is) refuses)
recycle_cause limits history _ given refuses is = absurd is

pub none_retired_cause : (limits : Limits) (history : List Event) (e : Event) → IsReply limits history e reply.NothingRetired → NoneRetired limits history
none_retired_cause limits history e is = (recycle_cause limits history e reply.NothingRetired refl is).2

pub guarded_cause : (limits : Limits) (history : List Event) (e : Event) (slice pass : ℕ) → IsAllowed limits history e → IsReply limits history e (reply.Guarded slice pass) →
    IsLowestGuarded limits history slice pass × NoneCanClear limits history
guarded_cause limits history e slice pass allowed is =
    let cause = recycle_cause limits history e (reply.Guarded slice pass) refl is in
    (cause.2, (subst (IsAllowed limits history) cause.1 allowed).rule.refused)

-- a journal from there on that the journal keeps has its commits
pub journal_read : (limits : Limits) (history : List Event) (from : ℕ) (read : List Commit) → base limits.commits history ≤ from → read ≡ commits_after history from →
    IsReplyToRead limits history (call.Journal from) (reply.Commits read)
journal_read limits history from read kept is = by_case (nat_lt from (base limits.commits history)) refl where
  by_case : (b : Bool) → nat_lt from (base limits.commits history) ≡ b →
      reply.Commits read ≡ cond b (reply.Trimmed (base limits.commits history)) (reply.Commits (commits_after history from))
  by_case true below = let less = ltb-true from (base limits.commits history) below in absurd (omega (arith, less, kept))
  by_case false above = ap reply.Commits is

-- and one from before it is told how many commits it no longer keeps
pub journal_trimmed : (limits : Limits) (history : List Event) (from n : ℕ) → from < base limits.commits history → n ≡ base limits.commits history →
    IsReplyToRead limits history (call.Journal from) (reply.Trimmed n)
journal_trimmed limits history from n less is =
    ap reply.Trimmed is
    ∙ sym (ap (λ b. cond b (reply.Trimmed (base limits.commits history)) (reply.Commits (commits_after history from))) (lt-ltb from (base limits.commits history) less))

-- Tuned tells how many tunings there were, with this one
pub tuned_cause : (limits : Limits) (history : List Event) (e : Event) (n : ℕ) → IsReply limits history e (reply.Tuned n) →
    (pass : ℕ) × (config : Config) × (e ≡ event.Tune pass config) × (n ≡ length (tunings (history ++ e ∷ [])))
tuned_cause limits history (event.Tune pass config) n is =
    let same : n ≡ length (tunings history) + 1 = cc in
    (pass, config, refl, same ∙ sym (ap length (filter_map-append tuning_of history (event.Tune pass config ∷ [])) ∙ length-append (tunings history) (config ∷ [])))
tuned_cause limits history (event.Read pass (call.Journal from)) n is = absurd (not_journal limits history from (reply.Tuned n) refl is)
tuned_cause limits history (event.Read pass call.Place) n is = cc
tuned_cause limits history (event.Read pass (call.Get id)) n is = absurd (not_text is_tuned (document_with id history) (reply.Tuned n) refl (λ k text. refl) refl is)
tuned_cause limits history (event.Read pass call.Stats) n is = absurd (not_stats is_tuned limits history (reply.Tuned n) refl (λ stats. refl) is)
tuned_cause limits history (event.Read pass _) n is = absurd is
tuned_cause limits history (event.No pass (call.Add id text)) n is = absurd (not_add (live_place id history) is) where
  not_add : (o : Option ℕ) → reply.Tuned n ≡ option_map_or reply.Present o reply.Full → ⊥
  not_add (Some m) same = cc
  not_add None same = cc
tuned_cause limits history (event.No pass (call.Put id text)) n is = cc
tuned_cause limits history (event.No pass (call.Delete id)) n is = cc
tuned_cause limits history (event.No pass call.Recycle) n is = absurd is
tuned_cause limits history (event.No pass _) n is = absurd is
tuned_cause limits history (event.Drop pass id text slice column) n is = let other = (dropped_at (live_place id history) (reply.Tuned n) is).2 in cc
tuned_cause limits history (event.Opened pass slice alone) n is = let same = is.1 in cc
tuned_cause limits history (event.Add pass id text slice column bits) n is = absurd (not_placed is_tuned history id (reply.Tuned n) refl (λ k. (refl, refl)) is)
tuned_cause limits history (event.Del pass id) n is = cc
tuned_cause limits history (event.Find pass query) n is = cc
tuned_cause limits history _ n is = absurd is
