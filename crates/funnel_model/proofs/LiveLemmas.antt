-- The live documents after one more event.
use Rattle.std.proofs.Common.{◌≡◌, ◌≢◌, ℕ, ◌+◌, ◌<◌, ◌≤◌, Bool, true, false, not, cond, ◌||◌, List, [], ◌∷◌, ◌++◌, length, map, filter, Option, Some, None, ⊎_elim, sym, refl, ap, ◌∙◌, subst, append_assoc, arith}
use Rattle.std.proofs.lemmas.List.{append-nil, length-append}
use Rattle.std.proofs.lemmas.List.Elements.{filter_map-append, filter-append, filter_passes, All-append, All-weaker, All-nil, All-cons, All-filter}
use Rattle.std.proofs.lemmas.List.Folds.{list_any-append}
use Rattle.std.proofs.lemmas.List.Kept.{AllPairs-filter}
use Rattle.std.proofs.lemmas.List.Quantifiers.{all_pairs_push}
use Rattle.std.specs.List.{cons_option, find, list_any, All, AllPairs}
use Rattle.std.specs.Prelude.{option_to_list}
use Rattle.std.specs.Option.{option_map, option_map_or, is_some}
use Rattle.funnel_model.specs.declared.bit_list.Bit.{Bit}
use Rattle.funnel_model.specs.declared.event.Event.{Event}
use Rattle.funnel_model.specs.declared.event.Event.TheVariants as event
use Rattle.funnel_model.specs.Events.{commit_of, added_by, deletes_or_replaces}
use Rattle.std.proofs.Math.Bool.{or-false}
use Rattle.std.proofs.lemmas.Bool.{both_ways, not-true, or_parts, eqb-false, eqb-true, eq-eqb}
use Rattle.std.proofs.lemmas.Bool.Decides.{eqb_tells}
use Rattle.std.specs.Prelude.{◌==◌}
use Rattle.funnel_model.specs.History.{Document, commits, place, document_at, live_from, live, is_live, live_place, answer}
use Rattle.funnel_model.specs.Words.{meets}

-- commits and places, for one more event
pub commits-append : (xs ys : List Event) → commits (xs ++ ys) ≡ commits xs ++ commits ys
commits-append xs ys = filter_map-append commit_of xs ys

pub place-append : (xs ys : List Event) → place (xs ++ ys) ≡ place xs + place ys
place-append xs ys = ap length (commits-append xs ys) ∙ length-append (commits xs) (commits ys)

-- whether a document stays live with an event
abbrev pub survives : Event → Document → Bool
survives e d = not (deletes_or_replaces d.id e)

-- the document that an event at this place adds
abbrev pub added_at : ℕ → Event → List Document
added_at before e = option_to_list (document_at before (added_by e) [])

kept_unless : {A : Type 0} (p : A → Bool) (x : A) (gone more : Bool) → p x ≡ not more →
    option_to_list (cond (gone || more) None (Some x)) ≡ filter p (option_to_list (cond gone None (Some x)))
kept_unless p x true more is = refl
kept_unless p x false true is = sym (ap (λ b. cond b (x ∷ []) []) is)
kept_unless p x false false is = sym (ap (λ b. cond b (x ∷ []) []) is)

-- whether a later event deletes or replaces a document, for one more event
survives_or : (id : ℕ) (e : Event) → not (deletes_or_replaces id e) ≡ not (list_any (deletes_or_replaces id) (e ∷ []))
survives_or id e = ap not (sym (or-false (deletes_or_replaces id e)))

document_at-push : (before : ℕ) (added : Option (ℕ × List ℕ)) (later : List Event) (e : Event) →
    option_to_list (document_at before added (later ++ e ∷ [])) ≡ filter (survives e) (option_to_list (document_at before added later))
document_at-push before None later e = refl
document_at-push before (Some added) later e =
    let d : Document = record { id = added.0; text = added.1; place = before + 1 } in
    ap (λ b. option_to_list (cond b None (Some d))) (list_any-append (deletes_or_replaces added.0) later (e ∷ []))
    ∙ kept_unless (survives e) d (list_any (deletes_or_replaces added.0) later) (list_any (deletes_or_replaces added.0) (e ∷ [])) (survives_or added.0 e)

pub live_from-push : (before : ℕ) (history : List Event) (e : Event) →
    live_from before (history ++ e ∷ []) ≡ filter (survives e) (live_from before history) ++ added_at (before + place history) e
live_from-push before [] e = append-nil _ ∙ ap (λ n. added_at n e) (let h : before ≡ before + place [] = omega arith in h)
live_from-push before (x ∷ xs) e =
    let first = option_to_list (document_at before (added_by x) xs) in
    let rest = live_from (before + place (x ∷ [])) xs in
    let at : before + place (x ∷ []) + place xs ≡ before + place (x ∷ xs) = omega (arith, place-append (x ∷ []) xs) in
    ap (λ ds. ds ++ live_from (before + place (x ∷ [])) (xs ++ e ∷ [])) (document_at-push before (added_by x) xs e)
    ∙ ap (λ ds. filter (survives e) first ++ ds) (live_from-push (before + place (x ∷ [])) xs e)
    ∙ sym (append_assoc (filter (survives e) first) (filter (survives e) rest) (added_at (before + place (x ∷ []) + place xs) e))
    ∙ ap (λ ds. ds ++ added_at (before + place (x ∷ []) + place xs) e) (sym (filter-append (survives e) first rest))
    ∙ ap (λ n. filter (survives e) (first ++ rest) ++ added_at n e) at

-- one more event takes away the document that it deletes or replaces, and puts the one that it adds to the end
pub live-push : (history : List Event) (e : Event) → live (history ++ e ∷ []) ≡ filter (survives e) (live history) ++ added_at (place history) e
live-push history e = live_from-push 0 history e ∙ ap (λ n. filter (survives e) (live history) ++ added_at n e) (let h : 0 + place history ≡ place history = omega arith in h)

-- what holds of the empty history, and stays with each event, holds of each history
pub by_push_from : (P : List Event → Type 0) → ((h : List Event) (e : Event) → P h → P (h ++ e ∷ [])) → (history later : List Event) → P history → P (history ++ later)
by_push_from P step history [] p = subst P (sym (append-nil history)) p
by_push_from P step history (x ∷ xs) p = subst P (append_assoc history (x ∷ []) xs) (by_push_from P step (history ++ x ∷ []) xs (step history x p))

pub by_push : (P : List Event → Type 0) → P [] → ((h : List Event) (e : Event) → P h → P (h ++ e ∷ [])) → (history : List Event) → P history
by_push P start step history = by_push_from P step [] history start

-- an event that adds a document is one commit
adds_one : (e : Event) (added : ℕ × List ℕ) → added_by e ≡ Some added → place (e ∷ []) ≡ 1
adds_one (event.Add pass id text slice column bits) added is = refl
adds_one e added is = cc

-- a document that an event adds: the event is one commit, and the document's place is the one after it
pub document_at-adds : (before : ℕ) (e : Event) (d : Document) → document_at before (added_by e) [] ≡ Some d → (place (e ∷ []) ≡ 1) × (d.place ≡ before + 1)
document_at-adds before (event.Add pass id text slice column bits) d is = (refl, ap (λ o. option_map_or (λ (x : Document). x.place) o (before + 1)) (sym is))
document_at-adds before e d is = cc

pairs_with : (R : Document → Document → Type 0) (ds : List Document) (o : Option Document) → AllPairs R ds → ((d : Document) → o ≡ Some d → All (λ x. R x d) ds) → AllPairs R (ds ++ option_to_list o)
pairs_with R ds None pairs each = subst (AllPairs R) (sym (append-nil ds)) pairs
pairs_with R ds (Some d) pairs each = all_pairs_push R ds d pairs (each d refl)

-- what holds of each two live documents stays, where it holds of each and the one that the event adds
pub live_pairs-push : (R : Document → Document → Type 0) (history : List Event) (e : Event) → AllPairs R (live history) →
    ((d : Document) → document_at (place history) (added_by e) [] ≡ Some d → All (λ x. R x d) (live history)) → AllPairs R (live (history ++ e ∷ []))
live_pairs-push R history e pairs each =
    subst (AllPairs R) (sym (live-push history e))
    (pairs_with R (filter (survives e) (live history)) (document_at (place history) (added_by e) [])
    (AllPairs-filter R (survives e) (live history) pairs)
    (λ d is. All-filter (survives e) (λ x. R x d) (live history) (each d is)))

all_with : (P : Document → Type 0) (ds : List Document) (o : Option Document) → All P ds → ((d : Document) → o ≡ Some d → P d) → All P (ds ++ option_to_list o)
all_with P ds None all each = subst (All P) (sym (append-nil ds)) all
all_with P ds (Some d) all each = All-append P ds (d ∷ []) all (All-cons P d [] (each d refl) (All-nil P))

-- what holds of each live document stays, where it holds of the one that the event adds
pub live_all-push : (P : Document → Type 0) (history : List Event) (e : Event) → All P (live history) →
    ((d : Document) → document_at (place history) (added_by e) [] ≡ Some d → P d) → All P (live (history ++ e ∷ []))
live_all-push P history e all each =
    subst (All P) (sym (live-push history e))
    (all_with P (filter (survives e) (live history)) (document_at (place history) (added_by e) []) (All-filter (survives e) P (live history) all) each)

-- the live documents stand by rising place, up to that of the history
record InOrder (history : List Event) : Type 0 where
  rising : AllPairs (λ (d e : Document). d.place < e.place) (live history)
  upto : All (λ (d : Document). d.place ≤ place history) (live history)

in_order-push : (history : List Event) (e : Event) → InOrder history → InOrder (history ++ e ∷ [])
in_order-push history e h = record {
  rising = live_pairs-push (λ (d e : Document). d.place < e.place) history e h.rising (λ d is.
      All-weaker (λ (x : Document). x.place ≤ place history) (λ (x : Document). x.place < d.place) (λ x le. let k = document_at-adds (place history) e d is in omega arith) (live history) h.upto);
  upto = live_all-push (λ (x : Document). x.place ≤ place (history ++ e ∷ [])) history e
      (All-weaker (λ (x : Document). x.place ≤ place history) (λ (x : Document). x.place ≤ place (history ++ e ∷ [])) (λ x le. let k = place-append history (e ∷ []) in omega arith) (live history) h.upto)
      (λ d is. let k = document_at-adds (place history) e d is in let l = place-append history (e ∷ []) in omega arith);
}

pub live_in_order : (history : List Event) → AllPairs (λ (d e : Document). d.place < e.place) (live history)
live_in_order history = (by_push InOrder (record { rising = λ i j d lt in'. absurd (omega arith); upto = All-nil (λ (x : Document). x.place ≤ 0) }) in_order-push history).rising

-- no document of the list has the number
pub none_with_id : (id : ℕ) (ds : List Document) → list_any (λ d. d.id == id) ds ≡ false → All (λ (d : Document). d.id ≢ id) ds
none_with_id id [] none = All-nil (λ (d : Document). d.id ≢ id)
none_with_id id (d ∷ ds) none =
    let parts = or_parts (d.id == id) (list_any (λ d. d.id == id) ds) none in
    All-cons (λ (d : Document). d.id ≢ id) d ds (eqb-false d.id id parts.0) (none_with_id id ds parts.1)

-- a document that an event adds has another number than those that stay live with it
survives_apart : (e : Event) (before : ℕ) (d x : Document) → document_at before (added_by e) [] ≡ Some d → survives e x ≡ true → x.id ≢ d.id
survives_apart (event.Add pass id text slice column bits) before d x is kept =
    λ same.
    let added : id ≡ d.id = ap (λ o. option_map_or (λ (y : Document). y.id) o id) is in
    both_ways (id == x.id) (not-true (id == x.id) kept) (eq-eqb id x.id (added ∙ sym same))
survives_apart e before d x is kept = cc

-- each number is live at most once
pub live_once : (history : List Event) → AllPairs (λ (d e : Document). d.id ≢ e.id) (live history)
live_once =
    by_push (λ h. AllPairs (λ (d e : Document). d.id ≢ e.id) (live h)) (λ i j d lt in'. absurd (omega arith))
    (λ h e once. subst (AllPairs (λ (d e : Document). d.id ≢ e.id)) (sym (live-push h e))
    (pairs_with (λ (d e : Document). d.id ≢ e.id) (filter (survives e) (live h)) (document_at (place h) (added_by e) [])
    (AllPairs-filter (λ (d e : Document). d.id ≢ e.id) (survives e) (live h) once)
    (λ d is. All-weaker (λ (x : Document). survives e x ≡ true) (λ (x : Document). x.id ≢ d.id)
    (λ x kept. survives_apart e (place h) d x is kept) (filter (survives e) (live h)) (filter_passes (survives e) (live h)))))

-- a test that always passes keeps the list
filter_all : {A : Type 0} (p : A → Bool) (xs : List A) → ((x : A) → p x ≡ true) → filter p xs ≡ xs
filter_all p [] all = refl
filter_all p (x ∷ xs) all = ap (λ b. cond b (x ∷ filter p xs) (filter p xs)) (all x) ∙ ap (λ ys. x ∷ ys) (filter_all p xs all)

-- an event that deletes and replaces nothing puts the document that it adds to the end
live-adds : (history : List Event) (e : Event) → ((id : ℕ) → deletes_or_replaces id e ≡ false) → live (history ++ e ∷ []) ≡ live history ++ added_at (place history) e
live-adds history e none =
    live-push history e ∙ ap (λ ds. ds ++ added_at (place history) e) (filter_all (survives e) (live history) (λ d. ap not (none d.id)))

-- an event that deletes, replaces and adds nothing leaves the live documents
pub live-silent : (history : List Event) (e : Event) → ((id : ℕ) → deletes_or_replaces id e ≡ false) → added_by e ≡ None → live (history ++ e ∷ []) ≡ live history
live-silent history e none adds =
    live-adds history e none ∙ ap (λ o. live history ++ option_to_list (document_at (place history) o [])) adds ∙ append-nil (live history)

-- nor does any event that is no commit
pub live-uncommitted : (history : List Event) (e : Event) → commit_of e ≡ None → live (history ++ e ∷ []) ≡ live history
live-uncommitted history (event.Add pass id text slice column bits) none = cc
live-uncommitted history (event.Del pass id) none = cc
live-uncommitted history e none = live-silent history e (λ i. refl) refl

pub commits-silent : (history : List Event) (e : Event) → commit_of e ≡ None → commits (history ++ e ∷ []) ≡ commits history
commits-silent history e none = commits-append history (e ∷ []) ∙ ap (λ o. commits history ++ cons_option o []) none ∙ append-nil (commits history)

not_equal : (a b : ℕ) → (a ≡ b → ⊥) → (a == b) ≡ false
not_equal a b ne = ⊎_elim (λ is. absurd (ne is.1)) (λ other. other.0) (eqb_tells a b)

-- the place of a document's add, for one more document whose number is new
pub live_place-adds : (id : ℕ) (documents : List Document) (d : Document) → list_any (λ x. x.id == d.id) documents ≡ false →
    option_map (λ (x : Document). x.place) (find (λ x. x.id == id) (documents ++ d ∷ [])) ≡ cond (d.id == id) (Some d.place) (option_map (λ (x : Document). x.place) (find (λ x. x.id == id) documents))
live_place-adds id [] d new = one (d.id == id) where
  one : (b : Bool) → option_map (λ (x : Document). x.place) (cond b (Some d) None) ≡ cond b (Some d.place) None
  one true = refl
  one false = refl
live_place-adds id (x ∷ xs) d new =
    let parts = or_parts (x.id == d.id) (list_any (λ y. y.id == d.id) xs) new in
    first (x.id == id) refl parts.0 (live_place-adds id xs d parts.1) where
      rest : Option ℕ
      rest = option_map (λ (y : Document). y.place) (find (λ y. y.id == id) xs)

      first : (b : Bool) → (x.id == id) ≡ b → (x.id == d.id) ≡ false →
          option_map (λ (y : Document). y.place) (find (λ y. y.id == id) (xs ++ d ∷ [])) ≡ cond (d.id == id) (Some d.place) rest →
          option_map (λ (y : Document). y.place) (cond b (Some x) (find (λ y. y.id == id) (xs ++ d ∷ []))) ≡ cond (d.id == id) (Some d.place) (option_map (λ (y : Document). y.place) (cond b (Some x) (find (λ y. y.id == id) xs)))
      first true is apart more =
          let other : (d.id == id) ≡ false = not_equal d.id id (λ same. eqb-false x.id d.id apart (eqb-true x.id id is ∙ sym same)) in
          sym (ap (λ b. cond b (Some d.place) (Some x.place)) other)
      first false is apart more = more

-- a number is live exactly where its add has a place
pub is_live-from_place : (id : ℕ) (documents : List Document) → list_any (λ d. d.id == id) documents ≡ is_some (option_map (λ (d : Document). d.place) (find (λ d. d.id == id) documents))
is_live-from_place id [] = refl
is_live-from_place id (d ∷ ds) = first (d.id == id) (is_live-from_place id ds) where
  first : (b : Bool) → list_any (λ x. x.id == id) ds ≡ is_some (option_map (λ (x : Document). x.place) (find (λ x. x.id == id) ds)) →
      (b || list_any (λ x. x.id == id) ds) ≡ is_some (option_map (λ (x : Document). x.place) (cond b (Some d) (find (λ x. x.id == id) ds)))
  first true more = refl
  first false more = more

-- a number that is not live has no place
pub no_place : (id : ℕ) (history : List Event) → is_live id history ≡ false → live_place id history ≡ None
no_place id history absent = none (live_place id history) (sym (is_live-from_place id (live history)) ∙ absent) where
  none : (place : Option ℕ) → is_some place ≡ false → place ≡ None
  none None is = refl
  none (Some n) is = cc

-- an answer, for one more event that deletes, replaces and adds nothing
pub answer-silent : (history : List Event) (e : Event) (query : List ℕ) → ((id : ℕ) → deletes_or_replaces id e ≡ false) → added_by e ≡ None → answer (history ++ e ∷ []) query ≡ answer history query
answer-silent history e query none adds = ap (λ ds. map (λ (d : Document). d.id) (filter (λ (d : Document). meets d.text query) ds)) (live-silent history e none adds)

-- two tests that agree keep the same elements
filter_same : {A : Type 0} (p q : A → Bool) (xs : List A) → ((x : A) → p x ≡ q x) → filter p xs ≡ filter q xs
filter_same p q [] same = refl
filter_same p q (x ∷ xs) same =
    ap (λ b. cond b (x ∷ filter p xs) (filter p xs)) (same x) ∙ ap (λ ys. cond (q x) (x ∷ ys) ys) (filter_same p q xs same)

-- two numbers in either order
equal_either : (a b : ℕ) → (a == b) ≡ (b == a)
equal_either a b = ⊎_elim (λ is. is.0 ∙ sym (eq-eqb b a (sym is.1))) (λ other. other.0 ∙ sym (not_equal b a (λ same. other.1 (sym same)))) (eqb_tells a b)

-- a delete takes away the document with its number
pub live-deletes : (history : List Event) (pass id : ℕ) → live (history ++ event.Del pass id ∷ []) ≡ filter (λ d. not (d.id == id)) (live history)
live-deletes history pass id =
    live-push history (event.Del pass id) ∙ append-nil (filter (survives (event.Del pass id)) (live history))
    ∙ filter_same (survives (event.Del pass id)) (λ d. not (d.id == id)) (live history) (λ d. ap not (equal_either id d.id))

-- an add puts its document to the end, and takes away the one with its number
pub live-add : (history : List Event) (pass id : ℕ) (text : List ℕ) (slice column : ℕ) (bits : List Bit) →
    live (history ++ event.Add pass id text slice column bits ∷ [])
    ≡ filter (λ d. not (d.id == id)) (live history) ++ record { id = id; text = text; place = place history + 1 } ∷ []
live-add history pass id text slice column bits =
    let add = event.Add pass id text slice column bits in
    live-push history add
    ∙ ap (λ ds. ds ++ added_at (place history) add) (filter_same (survives add) (λ d. not (d.id == id)) (live history) (λ d. ap not (equal_either id d.id)))

-- where no document has the number, all others are left
others_left : (id : ℕ) (ds : List Document) → list_any (λ d. d.id == id) ds ≡ false → filter (λ d. not (d.id == id)) ds ≡ ds
others_left id [] none = refl
others_left id (d ∷ ds) none =
    let parts = or_parts (d.id == id) (list_any (λ x. x.id == id) ds) none in
    ap (λ b. cond (not b) (d ∷ filter (λ x. not (x.id == id)) ds) (filter (λ x. not (x.id == id)) ds)) parts.0
    ∙ ap (λ xs. d ∷ xs) (others_left id ds parts.1)

-- so an add of a number that is not live leaves all others
pub live-added : (history : List Event) (pass id : ℕ) (text : List ℕ) (slice column : ℕ) (bits : List Bit) → is_live id history ≡ false →
    live (history ++ event.Add pass id text slice column bits ∷ []) ≡ live history ++ record { id = id; text = text; place = place history + 1 } ∷ []
live-added history pass id text slice column bits absent =
    let new : Document = record { id = id; text = text; place = place history + 1 } in
    live-add history pass id text slice column bits ∙ ap (λ ds. ds ++ new ∷ []) (others_left id (live history) absent)

-- the document with a number, where those with another number are left
find-without : (id other : ℕ) (documents : List Document) →
    find (λ d. d.id == other) (filter (λ d. not (d.id == id)) documents) ≡ cond (id == other) None (find (λ d. d.id == other) documents)
find-without id other [] = one (id == other) where
  one : (b : Bool) → find (λ (d : Document). d.id == other) [] ≡ cond b None (find (λ (d : Document). d.id == other) [])
  one true = refl
  one false = refl
find-without id other (d ∷ ds) = first (d.id == id) (d.id == other) refl refl (find-without id other ds) where
  first : (gone here : Bool) → (d.id == id) ≡ gone → (d.id == other) ≡ here →
      find (λ x. x.id == other) (filter (λ x. not (x.id == id)) ds) ≡ cond (id == other) None (find (λ x. x.id == other) ds) →
      find (λ x. x.id == other) (cond (not gone) (d ∷ filter (λ x. not (x.id == id)) ds) (filter (λ x. not (x.id == id)) ds))
      ≡ cond (id == other) None (cond here (Some d) (find (λ x. x.id == other) ds))
  first true true gone here more =
      let same : (id == other) ≡ true = eq-eqb id other (sym (eqb-true d.id id gone) ∙ eqb-true d.id other here) in
      more ∙ ap (λ b. cond b None (find (λ x. x.id == other) ds)) same ∙ sym (ap (λ b. cond b None (Some d)) same)
  first true false gone here more = more
  first false true gone here more =
      let apart : (id == other) ≡ false = not_equal id other (λ same. eqb-false d.id id gone (eqb-true d.id other here ∙ sym same)) in
      ap (λ b. cond b (Some d) (find (λ x. x.id == other) (filter (λ x. not (x.id == id)) ds))) here ∙ sym (ap (λ b. cond b None (Some d)) apart)
  first false false gone here more =
      ap (λ b. cond b (Some d) (find (λ x. x.id == other) (filter (λ x. not (x.id == id)) ds))) here ∙ more

-- the place of a document's add, and whether a number is live, after a delete
pub live_place-deletes : (history : List Event) (pass id other : ℕ) →
    live_place other (history ++ event.Del pass id ∷ []) ≡ cond (id == other) None (live_place other history)
live_place-deletes history pass id other =
    ap (λ ds. option_map (λ (d : Document). d.place) (find (λ d. d.id == other) ds)) (live-deletes history pass id)
    ∙ ap (option_map (λ (d : Document). d.place)) (find-without id other (live history))
    ∙ one (id == other) where
      one : (b : Bool) → option_map (λ (d : Document). d.place) (cond b None (find (λ d. d.id == other) (live history))) ≡ cond b None (live_place other history)
      one true = refl
      one false = refl

pub is_live-deletes : (history : List Event) (pass id other : ℕ) →
    is_live other (history ++ event.Del pass id ∷ []) ≡ cond (id == other) false (is_live other history)
is_live-deletes history pass id other =
    is_live-from_place other (live (history ++ event.Del pass id ∷ [])) ∙ ap is_some (live_place-deletes history pass id other)
    ∙ one (id == other) where
      one : (b : Bool) → is_some (cond b None (live_place other history)) ≡ cond b false (is_live other history)
      one true = refl
      one false = sym (is_live-from_place other (live history))

-- a number that was deleted is not live
pub is_live-deleted : (history : List Event) (pass id : ℕ) → is_live id (history ++ event.Del pass id ∷ []) ≡ false
is_live-deleted history pass id = is_live-deletes history pass id id ∙ ap (λ b. cond b false (is_live id history)) (eq-eqb id id refl)

pub live_place-deleted : (history : List Event) (pass id : ℕ) → live_place id (history ++ event.Del pass id ∷ []) ≡ None
live_place-deleted history pass id = live_place-deletes history pass id id ∙ ap (λ b. cond b None (live_place id history)) (eq-eqb id id refl)

-- a delete of another number leaves a number as it was
pub is_live-other : (history : List Event) (pass id other : ℕ) → id ≢ other → is_live other (history ++ event.Del pass id ∷ []) ≡ is_live other history
is_live-other history pass id other apart =
    is_live-deletes history pass id other ∙ ap (λ b. cond b false (is_live other history)) (not_equal id other apart)

pub live_place-other : (history : List Event) (pass id other : ℕ) → id ≢ other → live_place other (history ++ event.Del pass id ∷ []) ≡ live_place other history
live_place-other history pass id other apart =
    live_place-deletes history pass id other ∙ ap (λ b. cond b None (live_place other history)) (not_equal id other apart)
