-- What shards refuse, and what a set answers by them.
use Rattle.std.proofs.Common.{◌≡◌, ℕ, ◌+◌, ◌^◌, ◌<◌, ◌≤◌, true, false, cond, List, [], ◌∷◌, length, map, filter, get_or, Some, None, Result, Ok, Err, inr, sym, refl, ap, ◌∙◌, subst, arith, Contains}
use Rattle.std.proofs.lemmas.Bool.{both_ways, eq-eqb}
use Rattle.std.specs.List.{list_any}
use Rattle.std.specs.Map.{lookup}
use Rattle.std.specs.Option.{is_some, option_map}
use Rattle.std.specs.Prelude.{◌==◌, nat_eq}
use Rattle.bare_history.specs.Bare.{added, deleted, documents}
use Rattle.bare_history.specs.Lone.{made_by}
use Rattle.bare_history.proofs.BareLemmas.{bare_live}
use Rattle.bare_history.proofs.LoneCalls.{lone_absent, lone_present}
use Rattle.commit_desk.specs.Answers.{IsSpentAt}
use Rattle.commit_desk.specs.declared.answers.AddFault.{AddFault}
use Rattle.commit_desk.specs.declared.answers.AddFault.TheVariants as add
use Rattle.commit_desk.specs.declared.answers.DeleteFault.{DeleteFault}
use Rattle.commit_desk.specs.declared.answers.DeleteFault.TheVariants as delete
use Rattle.engine.specs.Engines.{ClosedState}
use Rattle.engine.specs.Replies.{reply_of_add, reply_of_delete}
use Rattle.engine.specs.Solos.{SoloState}
use Rattle.funnel_model.specs.declared.call.Call.TheVariants as call
use Rattle.funnel_model.specs.declared.event.Event.{Event}
use Rattle.funnel_model.specs.History.{Document, document_with, is_live, live, live_place}
use Rattle.funnel_model.proofs.AnswerLemmas.{Contains-filter, Contains-filtered, Contains-map, any_contained, contained_any}
use Rattle.funnel_model.proofs.LiveLemmas.{is_live-from_place}
use Rattle.shard_set.specs.declared.home.Home.{Home}
use Rattle.shard_set.specs.Calls.{AddsTo, AsksAdd, AsksOne, DeletesFrom, HasRoom, IsAdded, IsDeleted, RefusesAdd, RefusesDelete}
use Rattle.shard_set.specs.Parts.{AreCommits, distinct_words, shard_for, shard_of}
use Rattle.shard_set.specs.Sets.{HaveTheirParts, IsSet, SetState, StandsFor, home_of}
use Rattle.shard_set.proofs.Found.{find_contained, find_some}
use Rattle.shard_set.proofs.Lists.{list_any_of_map}
use Rattle.shard_set.proofs.Parts.{is_in, part_has}
use Rattle.shard_set.proofs.SetLemmas.{AreLone, Changed, absent-from, asked-add, asked-delete, changed-nothing, home-from, homes-added, homes-deleted, lone-changed, nothing, only_at, stands-more, stands-same}

-- whether a number is live, by numbers and texts alone
live_told : (id : ℕ) (history : List Event) → is_live id history ≡ list_any (λ (d : ℕ × List ℕ). d.0 == id) (documents history)
live_told id history = sym (list_any_of_map (λ (d : ℕ × List ℕ). d.0 == id) (λ (d : Document). (d.id, d.text)) (live history))

module _ (shards : List SoloState) (list : List Event) (commits : AreCommits list) (parts : HaveTheirParts shards list) (k : ℕ) (d : SoloState) (in' : k < length shards) where
  -- the documents of a shard are those of the list that go to it
  shard_has : documents (get_or shards k d).history ≡ filter (is_in (length shards) k) (documents list)
  shard_has =
      let history = (get_or shards k d).history in
      ap (λ (ds : List Document). map (λ (x : Document). (x.id, x.text)) ds) (bare_live history ∙ ap live (parts k d in'))
      ∙ part_has (length shards) k list commits

  -- so a number is live in the shard of its document
  pub live_there : (id : ℕ) (document : Document) → document_with id list ≡ Some document → k ≡ shard_of (length shards) document.text → is_live id (get_or shards k d).history ≡ true
  live_there id document is goes =
      let found = find_contained (λ (x : Document). x.id == id) (live list) document is in
      let told : Contains (documents list) (document.id, document.text) = Contains-map (λ (x : Document). (x.id, x.text)) (live list) document found.0 in
      let kept : Contains (filter (is_in (length shards) k) (documents list)) (document.id, document.text) =
      Contains-filter (is_in (length shards) k) (documents list) (document.id, document.text) told (eq-eqb (shard_of (length shards) document.text) k (sym goes)) in
      live_told id (get_or shards k d).history ∙ ap (list_any (λ (x : ℕ × List ℕ). x.0 == id)) shard_has
      ∙ any_contained (λ (x : ℕ × List ℕ). x.0 == id) (filter (is_in (length shards) k) (documents list)) (document.id, document.text) kept found.1

  -- and one that is not live in the list is not live in any
  pub absent_there : (id : ℕ) → is_live id list ≡ false → is_live id (get_or shards k d).history ≡ true → ⊥
  absent_there id absent present =
      let some = contained_any (λ (x : ℕ × List ℕ). x.0 == id) (filter (is_in (length shards) k) (documents list))
      (sym (live_told id (get_or shards k d).history ∙ ap (list_any (λ (x : ℕ × List ℕ). x.0 == id)) shard_has) ∙ present) in
      let kept = Contains-filtered (is_in (length shards) k) (documents list) some.0 some.1 in
      both_ways (is_live id list) absent (live_told id list ∙ any_contained (λ (x : ℕ × List ℕ). x.0 == id) (documents list) some.0 kept.0 some.2)

-- a number with a place is live
placed_live : (id n : ℕ) (history : List Event) → live_place id history ≡ Some n → is_live id history ≡ true
placed_live id n history is = is_live-from_place id (live history) ∙ ap is_some is

-- the set after a call of its shards
pub set-after : (shards after : List SoloState) (homes others : List (ℕ × Home)) (commits total : ℕ) (left : List ClosedState) (room : ℕ) (more : ℕ → List Event) (list : List Event) →
    IsSet (record { shards = shards; homes = homes; commits = commits }) left room → Changed shards after more →
    StandsFor (record { shards = after; homes = others; commits = total }) list → IsSet (record { shards = after; homes = others; commits = total }) left room
set-after shards after homes others commits total left room more list was changed stands = record {
  some = let some = was.some in let count = changed.count in omega arith;
  few = let few = was.few in let count = changed.count in omega arith;
  lone = lone-changed shards after more was.lone changed;
  list = list;
  stands = stands;
  none_left = was.none_left;
  room_for_each = let each = was.room_for_each in let count = changed.count in omega arith;
}

-- a refused call made nothing
refused_add : (id : ℕ) (text : List ℕ) (fault : AddFault) → made_by (call.Add id text) (reply_of_add (Err fault)) ≡ []
refused_add id text (add.Present n) = refl
refused_add id text (add.Full blocks) = refl
refused_add id text (add.Spent n) = refl
refused_add id text add.Memory = refl

refused_delete : (id : ℕ) (fault : DeleteFault) → made_by (call.Delete id) (reply_of_delete (Err fault)) ≡ []
refused_delete id delete.Absent = refl
refused_delete id (delete.Spent n) = refl

pub changed-refused_add : (id : ℕ) (text : List ℕ) (fault : AddFault) (shard : ℕ) (before after : List SoloState) → AreLone before →
    AsksOne (λ s t. AddsTo id text s t (Err fault)) shard before after → Changed before after nothing
changed-refused_add id text fault shard before after lone asks =
    changed-nothing before after shard
    (subst (λ (es : List Event). Changed before after (only_at shard es)) (refused_add id text fault) (asked-add id text (Err fault) shard before after lone asks))

pub changed-refused_delete : (id : ℕ) (fault : DeleteFault) (shard : ℕ) (before after : List SoloState) → AreLone before →
    AsksOne (λ s t. DeletesFrom id s t (Err fault)) shard before after → Changed before after nothing
changed-refused_delete id fault shard before after lone asks =
    changed-nothing before after shard
    (subst (λ (es : List Event). Changed before after (only_at shard es)) (refused_delete id fault) (asked-delete id (Err fault) shard before after lone asks))

-- the shard that a text's words give
pub shard_goes : (shards shard count words : ℕ) (text other : List ℕ) → shard ≡ shard_for count words → count ≡ shards → words ≡ distinct_words text → text ≡ other →
    shard ≡ shard_of shards other
shard_goes shards shard count words text other is counted told same =
    is ∙ ap (λ n. shard_for n words) counted ∙ ap (shard_for shards) (told ∙ ap distinct_words same)

-- the call of a document is that of its number and text
pub asks_that : (answer : Result ℕ AddFault) (shard : ℕ) (before after : List SoloState) (given id : ℕ) (words text : List ℕ) → given ≡ id → words ≡ text →
    AsksOne (λ s t. AddsTo given words s t answer) shard before after → AsksOne (λ s t. AddsTo id text s t answer) shard before after
asks_that answer shard before after given id words text same_id same_text asks =
    subst (λ w. AsksOne (λ s t. AddsTo id w s t answer) shard before after) same_text
    (subst (λ n. AsksOne (λ s t. AddsTo n words s t answer) shard before after) same_id asks)

-- one that came too late came late enough
pub late : (most n : ℕ) (history : List Event) → most ≡ 2 ^ 62 → IsSpentAt most history n → 2 ^ 62 ≤ n
late most n history is spent = let many = spent.many in let count = spent.count in omega (arith, is, many, count)

-- the state of a set of these
abbrev pub set_of : List SoloState → List (ℕ × Home) → ℕ → SetState
set_of shards homes commits = record { shards = shards; homes = homes; commits = commits }

-- one of some
pub any_of : (shards : List SoloState) (k : ℕ) → k < length shards → SoloState
any_of [] k in' = absurd (omega arith)
any_of (s ∷ shards) k in' = s

module _ (shards after : List SoloState) (homes others : List (ℕ × Home)) (commits : ℕ) (lone : AreLone shards) (few : commits < 2 ^ 62) where
  -- there is room in the list
  pub room_in : (list : List Event) → StandsFor (set_of shards homes commits) list → HasRoom list
  room_in list stands = let count = stands.count in omega (arith, few, count)

  module _ (id : ℕ) (list : List Event) (stands : StandsFor (set_of shards homes commits) list) where
    -- a delete that its document's shard refused
    pub delete_refused : (home : Home) (fault : DeleteFault) → lookup (nat_eq id) homes ≡ Some home → AsksOne (λ s t. DeletesFrom id s t (Err fault)) home.shard shards after →
        StandsFor (set_of after homes commits) list × RefusesDelete id list (set_of shards homes commits) (set_of after homes commits) fault
    delete_refused home fault at asks =
        (stands-same shards after homes homes commits list (changed-refused_delete id fault home.shard shards after lone asks) (λ q. refl) stands, of fault asks) where
          found : (d : Document) × (document_with id list ≡ Some d) × (home ≡ home_of (length shards) d)
          found = home-from (length shards) homes list id home stands.homes at

          goes : home.shard ≡ shard_of (length shards) found.0.text
          goes = ap (λ (h : Home). h.shard) found.2

          of : (f : DeleteFault) → AsksOne (λ s t. DeletesFrom id s t (Err f)) home.shard shards after → RefusesDelete id list (set_of shards homes commits) (set_of after homes commits) f
          of delete.Absent asked =
              let d = any_of shards home.shard asked.in_range in
              let before = get_or shards home.shard d in
              let calls = asked.asked d in
              let absent = lone_absent before.pool.limits before.history (get_or after home.shard d).history id (lone home.shard d asked.in_range).one_pass calls.call.step in
              absurd (both_ways (is_live id before.history) absent
              (live_there shards list stands.commits stands.parts home.shard d asked.in_range id found.0 found.1 goes))
          of (delete.Spent n) asked =
              let d = any_of shards home.shard asked.in_range in
              let calls = asked.asked d in
              inr (
                late (get_or shards home.shard d).pool.limits.events n calls.turn.earlier (lone home.shard d asked.in_range).last calls.turn.answer,
                record {
                  room = room_in list stands;
                  document = found.0;
                  live = found.1;
                  asks = subst (λ k. AsksOne (λ s t. DeletesFrom id s t (Err (delete.Spent n))) k shards after) goes asked;
                },
              )

    -- one that it made
    pub delete_made : (home : Home) (own : ℕ) → lookup (nat_eq id) homes ≡ Some home → AsksOne (λ s t. DeletesFrom id s t (Ok own)) home.shard shards after →
        ((q : ℕ) → lookup (nat_eq q) others ≡ cond (nat_eq id q) None (lookup (nat_eq q) homes)) →
        IsDeleted id list (set_of shards homes commits) (set_of after others (commits + 1)) (commits + 1)
    delete_made home own at asks update =
        let found = home-from (length shards) homes list id home stands.homes at in
        let goes : home.shard ≡ shard_of (length shards) found.0.text = ap (λ (h : Home). h.shard) found.2 in
        let present : is_live id list ≡ true = find_some (λ (d : Document). d.id == id) (live list) ∙ ap is_some found.1 in
        record {
          own = own;
          asked = record {
            room = room_in list stands;
            document = found.0;
            live = found.1;
            asks = subst (λ k. AsksOne (λ s t. DeletesFrom id s t (Ok own)) k shards after) goes asks;
          };
          place_is = ap (λ n. n + 1) stands.count;
          stands = stands-more shards after homes others commits home.shard list (deleted id) present
              (ap (option_map (λ (d : Document). shard_of (length shards) d.text)) found.1 ∙ ap Some (sym goes))
              (asked-delete id (Ok own) home.shard shards after lone asks) (homes-deleted (length shards) homes others list id stands.homes update) stands;
        }

    -- an add that its document's shard refused
    pub add_refused : (text : List ℕ) (shard : ℕ) (fault : AddFault) → lookup (nat_eq id) homes ≡ None → shard ≡ shard_of (length shards) text →
        ((q : ℕ) → lookup (nat_eq q) others ≡ lookup (nat_eq q) homes) → AsksOne (λ s t. AddsTo id text s t (Err fault)) shard shards after →
        StandsFor (set_of after others commits) list × RefusesAdd id text list (set_of shards homes commits) (set_of after others commits) fault
    add_refused text shard fault none goes same asks =
        (stands-same shards after homes others commits list (changed-refused_add id text fault shard shards after lone asks) same stands, of fault asks) where
          absent : is_live id list ≡ false
          absent = absent-from (length shards) homes list id stands.homes none

          as_asked : (f : AddFault) → AsksOne (λ s t. AddsTo id text s t (Err f)) shard shards after → AsksAdd id text list (set_of shards homes commits) (set_of after others commits) (Err f)
          as_asked f asked = record { room = room_in list stands; absent = absent; asks = subst (λ k. AsksOne (λ s t. AddsTo id text s t (Err f)) k shards after) goes asked }

          of : (f : AddFault) → AsksOne (λ s t. AddsTo id text s t (Err f)) shard shards after → RefusesAdd id text list (set_of shards homes commits) (set_of after others commits) f
          of (add.Present n) asked =
              let d = any_of shards shard asked.in_range in
              let before = get_or shards shard d in
              let calls = asked.asked d in
              let at = lone_present before.pool.limits before.history (get_or after shard d).history id n text (lone shard d asked.in_range).one_pass calls.call.step in
              absurd (absent_there shards list stands.commits stands.parts shard d asked.in_range id absent (placed_live id n before.history at))
          of (add.Full blocks) asked = as_asked (add.Full blocks) asked
          of (add.Spent n) asked =
              let d = any_of shards shard asked.in_range in
              let calls = asked.asked d in
              inr (late (get_or shards shard d).pool.limits.events n calls.turns.own.earlier (lone shard d asked.in_range).last calls.turns.own.answer, as_asked (add.Spent n) asked)
          of add.Memory asked = inr (as_asked add.Memory asked)

    -- one that it made
    pub add_made : (text : List ℕ) (shard own : ℕ) → lookup (nat_eq id) homes ≡ None → shard ≡ shard_of (length shards) text →
        AsksOne (λ s t. AddsTo id text s t (Ok own)) shard shards after →
        ((q : ℕ) → lookup (nat_eq q) others ≡ cond (nat_eq id q) (Some (record { shard = shard; place = commits + 1 })) (lookup (nat_eq q) homes)) →
        IsAdded id text list (set_of shards homes commits) (set_of after others (commits + 1)) (commits + 1)
    add_made text shard own none goes asks update =
        let absent = absent-from (length shards) homes list id stands.homes none in
        let home : ℕ → ℕ → Home = λ k n. record { shard = k; place = n + 1 } in
        let updated = λ (q : ℕ).
        update q
        ∙ ap (λ k. cond (nat_eq id q) (Some (home k commits)) (lookup (nat_eq q) homes)) goes
        ∙ ap (λ n. cond (nat_eq id q) (Some (home (shard_of (length shards) text) n)) (lookup (nat_eq q) homes)) stands.count in
        record {
          own = own;
          asked = record { room = room_in list stands; absent = absent; asks = subst (λ k. AsksOne (λ s t. AddsTo id text s t (Ok own)) k shards after) goes asks };
          place_is = ap (λ n. n + 1) stands.count;
          stands = stands-more shards after homes others commits shard list (added id text) absent (ap Some (sym goes))
              (asked-add id text (Ok own) shard shards after lone asks)
              (homes-added (length shards) homes others list id text stands.commits absent stands.homes updated) stands;
        }
