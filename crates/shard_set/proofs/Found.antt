-- The live document with a number.
use Rattle.std.proofs.Common.{◌≡◌, ◌≢◌, ℕ, zero, suc, ◌+◌, Bool, true, false, not, cond, List, [], ◌∷◌, ◌++◌, filter, Option, Some, None, sym, refl, ap, ◌∙◌, subst, arith, Contains}
use Rattle.std.proofs.lemmas.Bool.{eq-eqb, eqb-false, eqb-true, false_from_ne_true, or_parts}
use Rattle.std.proofs.lemmas.List.Elements.{All-weaker, All-contains_itself}
use Rattle.std.specs.List.{All, AllPairs, find, list_any}
use Rattle.std.specs.Option.{is_some}
use Rattle.std.specs.Prelude.{◌==◌, ◌||◌}
use Rattle.funnel_model.specs.declared.bit_list.Bit.{Bit}
use Rattle.funnel_model.specs.declared.event.Event.{Event}
use Rattle.funnel_model.specs.declared.event.Event.TheVariants as event
use Rattle.funnel_model.specs.History.{Document, document_with, is_live, live, place}
use Rattle.funnel_model.proofs.AnswerLemmas.{Contains-cons, contains_first}
use Rattle.funnel_model.proofs.LiveLemmas.{live-added, live-deletes, live_once}

-- what is found is contained, and passes
pub find_contained : {A : Type 0} (p : A → Bool) (xs : List A) (x : A) → find p xs ≡ Some x → Contains xs x × (p x ≡ true)
find_contained p [] x is = cc
find_contained {A} p (y ∷ ys) x is = of (find_contained p ys x) (p y) refl is where
  of : (find p ys ≡ Some x → Contains ys x × (p x ≡ true)) → (b : Bool) → p y ≡ b → cond b (Some y) (find p ys) ≡ Some x → Contains (y ∷ ys) x × (p x ≡ true)
  of later true passes at =
      let same : y ≡ x = cc in
      (subst (Contains (y ∷ ys)) same (contains_first y ys), ap p (sym same) ∙ passes)
  of later false passes at = let rest = later at in (Contains-cons y ys x rest.0, rest.1)

-- some element passes exactly where one is found
pub find_some : {A : Type 0} (p : A → Bool) (xs : List A) → list_any p xs ≡ is_some (find p xs)
find_some p [] = refl
find_some p (x ∷ xs) = of (find_some p xs) (p x) where
  of : list_any p xs ≡ is_some (find p xs) → (b : Bool) → (b || list_any p xs) ≡ is_some (cond b (Some x) (find p xs))
  of rest true = refl
  of rest false = rest

-- with one more document
find-adds : (id : ℕ) (ds : List Document) (d : Document) → list_any (λ x. x.id == d.id) ds ≡ false →
    find (λ x. x.id == id) (ds ++ d ∷ []) ≡ cond (d.id == id) (Some d) (find (λ x. x.id == id) ds)
find-adds id [] d new = refl
find-adds id (x ∷ xs) d new =
    let parts = or_parts (x.id == d.id) (list_any (λ y. y.id == d.id) xs) new in
    first (x.id == id) refl parts.0 (find-adds id xs d parts.1)
  where
    first : (b : Bool) → (x.id == id) ≡ b → (x.id == d.id) ≡ false →
        find (λ y. y.id == id) (xs ++ d ∷ []) ≡ cond (d.id == id) (Some d) (find (λ y. y.id == id) xs) →
        cond b (Some x) (find (λ y. y.id == id) (xs ++ d ∷ [])) ≡ cond (d.id == id) (Some d) (cond b (Some x) (find (λ y. y.id == id) xs))
    first true is apart more =
        let other : (d.id == id) ≡ false =
        false_from_ne_true (d.id == id) (λ same. eqb-false x.id d.id apart (eqb-true x.id id is ∙ sym (eqb-true d.id id same))) in
        sym (ap (λ b. cond b (Some d) (Some x)) other)
    first false is apart more = more

-- without those that have another number
find-without : (id other : ℕ) (ds : List Document) →
    find (λ d. d.id == other) (filter (λ d. not (d.id == id)) ds) ≡ cond (id == other) None (find (λ d. d.id == other) ds)
find-without id other [] = none (id == other) where
  none : (b : Bool) → find (λ (d : Document). d.id == other) [] ≡ cond b None (find (λ (d : Document). d.id == other) [])
  none true = refl
  none false = refl
find-without id other (d ∷ ds) = first (d.id == id) (d.id == other) refl refl (find-without id other ds) where
  first : (gone here : Bool) → (d.id == id) ≡ gone → (d.id == other) ≡ here →
      find (λ x. x.id == other) (filter (λ x. not (x.id == id)) ds) ≡ cond (id == other) None (find (λ x. x.id == other) ds) →
      find (λ x. x.id == other) (cond (not gone) (d ∷ filter (λ x. not (x.id == id)) ds) (filter (λ x. not (x.id == id)) ds))
      ≡ cond (id == other) None (cond here (Some d) (find (λ x. x.id == other) ds))
  first true true gone here more =
      let same : (id == other) ≡ true = eq-eqb id other (sym (eqb-true d.id id gone) ∙ eqb-true d.id other here) in
      more ∙ ap (λ b. cond b None (find (λ x. x.id == other) ds)) same ∙ sym (ap (λ b. cond b None (Some d)) same)
  first true false gone here more = more
  first false true gone here more =
      let apart : (id == other) ≡ false = false_from_ne_true (id == other) (λ same. eqb-false d.id id gone (eqb-true d.id other here ∙ sym (eqb-true id other same))) in
      ap (λ b. cond b (Some d) (find (λ x. x.id == other) (filter (λ x. not (x.id == id)) ds))) here ∙ sym (ap (λ b. cond b None (Some d)) apart)
  first false false gone here more =
      ap (λ b. cond b (Some d) (find (λ x. x.id == other) (filter (λ x. not (x.id == id)) ds))) here ∙ more

-- the document with a number, after an add of a number that was not live, and after a delete
pub document_with-added : (history : List Event) (pass id : ℕ) (text : List ℕ) (slice column : ℕ) (bits : List Bit) (other : ℕ) → is_live id history ≡ false →
    document_with other (history ++ event.Add pass id text slice column bits ∷ [])
    ≡ cond (id == other) (Some (record { id = id; text = text; place = place history + 1 })) (document_with other history)
document_with-added history pass id text slice column bits other absent =
    ap (find (λ (d : Document). d.id == other)) (live-added history pass id text slice column bits absent)
    ∙ find-adds other (live history) (record { id = id; text = text; place = place history + 1 }) absent

pub document_with-deleted : (history : List Event) (pass id other : ℕ) →
    document_with other (history ++ event.Del pass id ∷ []) ≡ cond (id == other) None (document_with other history)
document_with-deleted history pass id other =
    ap (find (λ (d : Document). d.id == other)) (live-deletes history pass id) ∙ find-without id other (live history)

-- a document is found by its number, where no other has it
found_once : (ds : List Document) (d : Document) → AllPairs (λ (x y : Document). x.id ≢ y.id) ds → Contains ds d → find (λ x. x.id == d.id) ds ≡ Some d
found_once [] d once (k, in', is) = absurd (omega arith)
found_once (x ∷ xs) d once (zero, in', is) = ap (λ b. cond b (Some x) (find (λ y. y.id == d.id) xs)) (eq-eqb x.id d.id (ap (λ (y : Document). y.id) is)) ∙ ap Some is
found_once (x ∷ xs) d once (suc k, in', is) =
    let apart : x.id ≢ d.id = λ same. once 0 (suc k) d (omega arith) in' (same ∙ sym (ap (λ (y : Document). y.id) is)) in
    ap (λ b. cond b (Some x) (find (λ y. y.id == d.id) xs)) (false_from_ne_true (x.id == d.id) (λ same. apart (eqb-true x.id d.id same)))
    ∙ found_once xs d (λ i j e lt in''. once (suc i) (suc j) e (omega arith) (omega arith)) (k, omega arith, is)

pub found_live : (history : List Event) (d : Document) → Contains (live history) d → document_with d.id history ≡ Some d
found_live history d has = found_once (live history) d (live_once history) has

-- so a live document with the number of another is that one
pub one_with_id : (history : List Event) (id : ℕ) (d : Document) → document_with id history ≡ Some d → All (λ (e : Document). (e.id == id) ≡ true → e ≡ d) (live history)
one_with_id history id d is =
    All-weaker (Contains (live history)) (λ (e : Document). (e.id == id) ≡ true → e ≡ d)
    (λ e has same.
    let one : Some e ≡ Some d = sym (found_live history e has) ∙ ap (λ n. document_with n history) (eqb-true e.id id same) ∙ is in
    inside e d one) (live history) (All-contains_itself (live history))
  where
    inside : (x y : Document) → ◌≡◌ {A = Option Document} (Some x) (Some y) → x ≡ y
    inside x y same = cc
