-- What the adds and deletes of a history say of it.
use Rattle.std.proofs.Common.{◌≡◌, ℕ, cond, ◌+◌, ◌≤◌, List, [], ◌∷◌, ◌++◌, ◌||◌, length, map, filter, take, Option, Some, None, sym, refl, ap, ◌∙◌, subst, append_assoc, arith}
use Rattle.std.proofs.lemmas.List.{take-append-le, take_all}
use Rattle.std.proofs.lemmas.List.Elements.{filter_map-append, All-contains, All-nil, All-weaker}
use Rattle.std.specs.List.{All, Contains, cons_option, list_any}
use Rattle.std.specs.Prelude.{option_to_list}
use mathlib.Core.List.{IsPrefix}
use Rattle.bare_history.specs.Bare.{IsAddedAtItsPlace, bare, bare_of, live_at}
use Rattle.funnel_model.specs.declared.event.Event.{Event}
use Rattle.funnel_model.specs.declared.event.Event.TheVariants as event
use Rattle.funnel_model.specs.Events.{added_by, commit_of, deletes_or_replaces}
use Rattle.funnel_model.specs.History.{Document, answer, commits, document_at, live, live_from, place}
use Rattle.funnel_model.specs.Words.{meets}
use Rattle.funnel_model.proofs.LiveLemmas.{by_push, live_all-push}

pub bare-append : (xs ys : List Event) → bare (xs ++ ys) ≡ bare xs ++ bare ys
bare-append xs ys = filter_map-append bare_of xs ys

pub bare_commits : (history : List Event) → commits history ≡ commits (bare history)
bare_commits [] = refl
bare_commits (event.Add pass id text slice column bits ∷ later) = ap (cons_option (commit_of (event.Add pass id text slice column bits))) (bare_commits later)
bare_commits (event.Del pass id ∷ later) = ap (cons_option (commit_of (event.Del pass id))) (bare_commits later)
bare_commits (_ ∷ later) = bare_commits later

pub bare_place : (history : List Event) → place history ≡ place (bare history)
bare_place history = ap length (bare_commits history)

-- each add and each delete is a commit
pub length-bare : (history : List Event) → length (bare history) ≡ place history
length-bare [] = refl
length-bare (event.Add pass id text slice column bits ∷ later) = let more = length-bare later in omega (arith, more)
length-bare (event.Del pass id ∷ later) = let more = length-bare later in omega (arith, more)
length-bare (_ ∷ later) = length-bare later

-- nothing else deletes or replaces a document
bare_ends : (id : ℕ) (later : List Event) → list_any (deletes_or_replaces id) later ≡ list_any (deletes_or_replaces id) (bare later)
bare_ends id [] = refl
bare_ends id (event.Add pass added text slice column bits ∷ later) = ap (λ b. deletes_or_replaces id (event.Add pass added text slice column bits) || b) (bare_ends id later)
bare_ends id (event.Del pass deleted ∷ later) = ap (λ b. deletes_or_replaces id (event.Del pass deleted) || b) (bare_ends id later)
bare_ends id (_ ∷ later) = bare_ends id later

document_at-bare : (before id : ℕ) (text : List ℕ) (later : List Event) → document_at before (Some (id, text)) later ≡ document_at before (Some (id, text)) (bare later)
document_at-bare before id text later =
    let added : Document = record { id = id; text = text; place = before + 1 } in
    ap (λ b. cond b None (Some added)) (bare_ends id later)

live_from-bare : (before : ℕ) (history : List Event) → live_from before history ≡ live_from before (bare history)
live_from-bare before [] = refl
live_from-bare before (event.Add pass id text slice column bits ∷ later) =
    ap (λ o. option_to_list o ++ live_from (before + 1) later) (document_at-bare before id text later)
    ∙ ap (λ ds. option_to_list (document_at before (Some (id, text)) (bare later)) ++ ds) (live_from-bare (before + 1) later)
live_from-bare before (event.Del pass id ∷ later) = live_from-bare (before + 1) later
live_from-bare before (_ ∷ later) =
    ap (λ n. live_from n later) (let same : before + 0 ≡ before = omega arith in same) ∙ live_from-bare before later

pub bare_live : (history : List Event) → live history ≡ live (bare history)
bare_live history = live_from-bare 0 history

pub bare_answer : (history : List Event) (query : List ℕ) → answer history query ≡ answer (bare history) query
bare_answer history query = ap (λ ds. map (λ (d : Document). d.id) (filter (λ (d : Document). meets d.text query) ds)) (bare_live history)

-- what was live after so many adds and deletes stays so
pub live_at_stays : (front history : List Event) (n : ℕ) → IsPrefix front history → n ≤ place front → live_at history n ≡ live_at front n
live_at_stays front history n (later, whole) few =
    let long = length-bare front in
    ap (λ (h : List Event). live (take n (bare h))) (sym whole)
    ∙ ap (λ (es : List Event). live (take n es)) (bare-append front later)
    ∙ ap live (take-append-le n (bare front) (bare later) (omega (arith, few, long)))

pub live_at_last : (history : List Event) → live_at history (place history) ≡ live history
live_at_last history =
    let long = length-bare history in
    ap live (take_all (place history) (bare history) (omega (arith, long))) ∙ sym (bare_live history)

-- a document that was added at its place is so with more events behind
added_before : (events more : List Event) (d : Document) → IsAddedAtItsPlace events d → IsAddedAtItsPlace (events ++ more) d
added_before events more d added =
    let add = event.Add 0 d.id d.text 0 0 [] in
    record {
      before = added.before;
      later = added.later ++ more;
      whole = ap (λ (es : List Event). es ++ more) added.whole ∙ append_assoc added.before (add ∷ added.later) more;
      place = added.place;
    }

-- and so is the document that an event adds
added_now : (history : List Event) (e : Event) (d : Document) → document_at (place history) (added_by e) [] ≡ Some d → IsAddedAtItsPlace (bare history ++ bare (e ∷ [])) d
added_now history (event.Add pass id text slice column bits) d is =
    let new : Document = record { id = id; text = text; place = place history + 1 } in
    let long = length-bare history in
    subst (IsAddedAtItsPlace (bare history ++ event.Add 0 id text 0 0 [] ∷ [])) (same new d is)
    (record { before = bare history; later = []; whole = refl; place = omega (arith, long) }) where
      same : (x y : Document) → ◌≡◌ {A = Option Document} (Some x) (Some y) → x ≡ y
      same x y is = cc
added_now history e d is = cc

pub live_added_at : (history : List Event) → All (IsAddedAtItsPlace (bare history)) (live history)
live_added_at = by_push (λ h. All (IsAddedAtItsPlace (bare h)) (live h)) (All-nil (IsAddedAtItsPlace [])) (λ history e added.
    let all : bare (history ++ e ∷ []) ≡ bare history ++ bare (e ∷ []) = bare-append history (e ∷ []) in
    live_all-push (IsAddedAtItsPlace (bare (history ++ e ∷ []))) history e
    (All-weaker (IsAddedAtItsPlace (bare history)) (IsAddedAtItsPlace (bare (history ++ e ∷ [])))
    (λ d was. subst (λ (es : List Event). IsAddedAtItsPlace es d) (sym all) (added_before (bare history) (bare (e ∷ [])) d was)) (live history) added)
    (λ d is. subst (λ (es : List Event). IsAddedAtItsPlace es d) (sym all) (added_now history e d is)))

pub live_is_added : (history : List Event) (d : Document) → Contains (live history) d → IsAddedAtItsPlace (bare history) d
live_is_added history d = All-contains (IsAddedAtItsPlace (bare history)) (live history) d (live_added_at history)
