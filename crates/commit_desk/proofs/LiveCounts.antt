-- How many documents are live, and what an event makes of that.
use Rattle.std.proofs.Common.{◌≡◌, ◌≢◌, ℕ, suc, ◌+◌, ◌<◌, ◌≤◌, Bool, true, false, not, cond, ◌||◌, List, [], ◌∷◌, ◌++◌, length, filter, get_or, Option, Some, None, option_to_list, refl, sym, ap, ◌∙◌, arith}
use Rattle.std.proofs.lemmas.Bool.{eqb-true, false_from_ne_true, or_from, or_parts}
use Rattle.std.proofs.lemmas.List.{length-append}
use Rattle.std.proofs.lemmas.List.Filters.{length-filter_both}
use Rattle.std.specs.List.{AllPairs, list_any}
use Rattle.std.specs.Prelude.{◌==◌}
use Rattle.funnel_model.specs.declared.bit_list.Bit.{Bit}
use Rattle.funnel_model.specs.declared.event.Event.{Event}
use Rattle.funnel_model.specs.declared.event.Event.TheVariants as event
use Rattle.funnel_model.specs.Events.{added_by}
use Rattle.funnel_model.specs.History.{Document, document_at, is_live, live, place}
use Rattle.funnel_model.proofs.LiveLemmas.{added_at, by_push, document_at-adds, live-add, live-added, live-deletes, live-push, live_once, place-append, survives}

-- where no document has the number, as many are left
none_left : (id : ℕ) (ds : List Document) → list_any (λ d. d.id == id) ds ≡ false → length (filter (λ d. not (d.id == id)) ds) ≡ length ds
none_left id [] none = refl
none_left id (d ∷ ds) none =
    let parts = or_parts (d.id == id) (list_any (λ x. x.id == id) ds) none in
    ap (λ b. length (cond (not b) (d ∷ filter (λ x. not (x.id == id)) ds) (filter (λ x. not (x.id == id)) ds))) parts.0 ∙ ap suc (none_left id ds parts.1)

-- documents whose numbers all differ from one have none that is equal to it
none_same : (number id : ℕ) → number ≡ id → (xs : List Document) → ((j : ℕ) (x : Document) → j < length xs → number ≢ (get_or xs j x).id) → list_any (λ x. x.id == id) xs ≡ false
none_same number id here [] apart = refl
none_same number id here (x ∷ xs) apart =
    or_from (x.id == id) (list_any (λ y. y.id == id) xs)
    (false_from_ne_true (x.id == id) (λ same. apart 0 x (omega arith) (here ∙ sym (eqb-true x.id id same))))
    (none_same number id here xs (λ j y in'. apart (suc j) y (omega (arith, in'))))

-- of documents with a number each, all but one are left without a number that one of them has
without_one : (id : ℕ) (ds : List Document) → AllPairs (λ (d e : Document). d.id ≢ e.id) ds → list_any (λ d. d.id == id) ds ≡ true →
    length (filter (λ d. not (d.id == id)) ds) + 1 ≡ length ds
without_one id [] once some = cc
without_one id (d ∷ ds) once some = by (d.id == id) refl some (without_one id ds (λ i j x lt in'. once (suc i) (suc j) x (omega (arith, lt)) (omega (arith, in')))) where
  others : d.id ≡ id → list_any (λ x. x.id == id) ds ≡ false
  others here = none_same d.id id here ds (λ j x in'. once 0 (suc j) x (omega arith) (omega (arith, in')))

  by : (b : Bool) → (d.id == id) ≡ b → (b || list_any (λ x. x.id == id) ds) ≡ true →
      (list_any (λ x. x.id == id) ds ≡ true → length (filter (λ x. not (x.id == id)) ds) + 1 ≡ length ds) →
      length (cond (not b) (d ∷ filter (λ x. not (x.id == id)) ds) (filter (λ x. not (x.id == id)) ds)) + 1 ≡ length (d ∷ ds)
  by true is some later = let all = none_left id ds (others (eqb-true d.id id is)) in omega (arith, all)
  by false is some later = let rest = later some in omega (arith, rest)

-- a delete of a live document leaves one fewer
pub count-deletes : (history : List Event) (pass id : ℕ) → is_live id history ≡ true → length (live (history ++ event.Del pass id ∷ [])) + 1 ≡ length (live history)
count-deletes history pass id lives = ap (λ ds. length ds + 1) (live-deletes history pass id) ∙ without_one id (live history) (live_once history) lives

-- an add of a number that is not live makes one more
pub count-added : (history : List Event) (pass id : ℕ) (text : List ℕ) (slice column : ℕ) (bits : List Bit) → is_live id history ≡ false →
    length (live (history ++ event.Add pass id text slice column bits ∷ [])) ≡ length (live history) + 1
count-added history pass id text slice column bits absent =
    let new : Document = record { id = id; text = text; place = place history + 1 } in
    ap length (live-added history pass id text slice column bits absent) ∙ length-append (live history) (new ∷ [])

-- and one in the place of a live one none
pub count-replaces : (history : List Event) (pass id : ℕ) (text : List ℕ) (slice column : ℕ) (bits : List Bit) → is_live id history ≡ true →
    length (live (history ++ event.Add pass id text slice column bits ∷ [])) ≡ length (live history)
count-replaces history pass id text slice column bits lives =
    let new : Document = record { id = id; text = text; place = place history + 1 } in
    ap length (live-add history pass id text slice column bits) ∙ length-append (filter (λ d. not (d.id == id)) (live history)) (new ∷ [])
    ∙ without_one id (live history) (live_once history) lives

-- where a number is live there is a document
pub some_live : (history : List Event) (id : ℕ) → is_live id history ≡ true → 1 ≤ length (live history)
some_live history id lives = let left = without_one id (live history) (live_once history) lives in omega (arith, left)

-- what passes a test is no more than all
filter_within : {X : Type 0} (p : X → Bool) (xs : List X) → length (filter p xs) ≤ length xs
filter_within p xs = let both = length-filter_both p (λ x. not (p x)) (λ x. refl) xs in omega (arith, both)

-- an event adds one document at most, and then it is a commit
added_once : (history : List Event) (e : Event) → length (added_at (place history) e) ≤ place (e ∷ [])
added_once history e = by (document_at (place history) (added_by e) []) refl where
  by : (o : Option Document) → document_at (place history) (added_by e) [] ≡ o → length (option_to_list o) ≤ place (e ∷ [])
  by None is = omega arith
  by (Some d) is = let one = (document_at-adds (place history) e d is).0 in omega (arith, one)

-- there are no more live documents than commits
pub live_within_place : (history : List Event) → length (live history) ≤ place history
live_within_place = by_push (λ h. length (live h) ≤ place h) (omega arith)
    (λ h e within.
    let left = filter_within (survives e) (live h) in
    let added = added_once h e in
    let all = ap length (live-push h e) ∙ length-append (filter (survives e) (live h)) (added_at (place h) e) in
    let grown = place-append h (e ∷ []) in
    omega (arith, within, left, added, all, grown))
