-- Which column a number has, and what a change of one entry makes of it.
use Rattle.std.proofs.Common.{◌≡◌, ℕ, zero, suc, ◌+◌, ◌*◌, ◌/◌, ◌%◌, ◌<◌, ◌≤◌, Bool, true, false, not, cond, eqb, ltb, List, [], ◌∷◌, length, get_or, set, Option, Some, None, refl, sym, ap, ◌∙◌, subst, ⊎_elim, arith}
use Rattle.std.specs.List.{position, position_or_len}
use Rattle.std.specs.Option.{option_map}
use Rattle.std.proofs.lemmas.Bool.{cases_eq, cond-true, cond-false, eq-eqb, eqb-true, ne_eqb, lt-ltb, le-ltb, cases_lt}
use Rattle.std.proofs.lemmas.List.{get_or-set_same, get_or-set_other}
use Rattle.std.proofs.lemmas.Nat.{div-mul-add, mod-mul-add}
use Rattle.document_store.specs.Entries.{Entries, column_of, has_id}

-- the entry there has the number; or no entry has it
abbrev pub IsAt : List (Option ℕ) → ℕ → Option ℕ → Type 0
IsAt entries id (Some i) = get_or entries i None ≡ Some id
IsAt entries id None = (i : ℕ) → get_or entries i None ≡ Some id → ⊥

-- no two entries have one number
abbrev pub Apart : List (Option ℕ) → Type 0
Apart entries = (i j id : ℕ) → get_or entries i None ≡ Some id → get_or entries j None ≡ Some id → i ≡ j

has-is : (o : Option ℕ) (id : ℕ) → has_id id o ≡ true → o ≡ Some id
has-is None id e = cc
has-is (Some n) id e = ap Some (eqb-true n id e)

has-same : (o : Option ℕ) (id : ℕ) → o ≡ Some id → has_id id o ≡ true
has-same o id e = subst (λ p. has_id id p ≡ true) (sym e) (eq-eqb id id refl)

position-cons : (p : Option ℕ → Bool) (x : Option ℕ) (xs : List (Option ℕ)) (b : Bool) → p x ≡ b →
    position p (x ∷ xs) ≡ cond b (Some 0) (option_map suc (position p xs))
position-cons p x xs b e = ap (λ c. cond (ltb (cond (not c) (1 + position_or_len p xs) 0) (suc (length xs))) (Some (cond (not c) (1 + position_or_len p xs) 0)) None) e ∙ by b where
  by : (b : Bool) → cond (ltb (cond (not b) (1 + position_or_len p xs) 0) (suc (length xs))) (Some (cond (not b) (1 + position_or_len p xs) 0)) None
      ≡ cond b (Some 0) (option_map suc (position p xs))
  by true = cond-true (ltb 0 (suc (length xs))) (Some 0) None (lt-ltb 0 (suc (length xs)) (omega arith))
  by false =
      let n = position_or_len p xs in
      ⊎_elim
      (λ (less : n < length xs).
      cond-true (ltb (1 + n) (suc (length xs))) (Some (1 + n)) None (lt-ltb (1 + n) (suc (length xs)) (omega arith))
      ∙ ap Some (let more : 1 + n ≡ suc n = omega arith in more)
      ∙ ap (option_map suc) (sym (cond-true (ltb n (length xs)) (Some n) None (lt-ltb n (length xs) less))))
      (λ (most : length xs ≤ n).
      cond-false (ltb (1 + n) (suc (length xs))) (Some (1 + n)) None (le-ltb (1 + n) (suc (length xs)) (omega arith))
      ∙ ap (option_map suc) (sym (cond-false (ltb n (length xs)) (Some n) None (le-ltb n (length xs) most))))
      (cases_lt n (length xs))

at-cons : (x : Option ℕ) (xs : List (Option ℕ)) (id : ℕ) (b : Bool) → has_id id x ≡ b → (o : Option ℕ) → IsAt xs id o →
    IsAt (x ∷ xs) id (cond b (Some 0) (option_map suc o))
at-cons x xs id true e o is = has-is x id e
at-cons x xs id false e (Some i) is = is
at-cons x xs id false e None is = λ i there. none i there where
  none : (i : ℕ) → get_or (x ∷ xs) i None ≡ Some id → ⊥
  none zero there = let same = has-same x id there in cc
  none (suc i) there = is i there

-- what `position` finds
pub at-position : (entries : List (Option ℕ)) (id : ℕ) → IsAt entries id (position (has_id id) entries)
at-position [] id = λ i there. cc
at-position (x ∷ xs) id =
    subst (IsAt (x ∷ xs) id) (sym (position-cons (has_id id) x xs (has_id id x) refl))
    (at-cons x xs id (has_id id x) refl (position (has_id id) xs) (at-position xs id))

at-same : (entries : List (Option ℕ)) (id : ℕ) (o p : Option ℕ) → Apart entries → IsAt entries id o → IsAt entries id p → o ≡ p
at-same entries id (Some i) (Some j) apart is there = ap Some (apart i j id is there)
at-same entries id (Some i) None apart is there = absurd (there i is)
at-same entries id None (Some j) apart is there = absurd (is j there)
at-same entries id None None apart is there = refl

-- a number is found where it is
pub position-at : (entries : List (Option ℕ)) (id : ℕ) (o : Option ℕ) → Apart entries → IsAt entries id o → position (has_id id) entries ≡ o
position-at entries id o apart is = at-same entries id (position (has_id id) entries) o apart (at-position entries id) is

abbrev pub num : Option ℕ → ℕ
num None = 0
num (Some n) = n

-- an entry gets a number that no entry had: where each number is
pub at-add : (entries : List (Option ℕ)) (i id other : ℕ) (o : Option ℕ) → i < length entries → get_or entries i None ≡ None →
    IsAt entries id None → IsAt entries other o → IsAt (set entries i (Some id)) other (cond (eqb other id) (Some i) o)
at-add entries i id other o within empty absent is =
    ⊎_elim
    (λ (same : other ≡ id).
    subst (IsAt next other) (sym (cond-true (eqb other id) (Some i) o (eq-eqb other id same)))
    (get_or-set_same entries i (Some id) None within ∙ ap Some (sym same)))
    (λ (differ : other ≡ id → ⊥). subst (IsAt next other) (sym (cond-false (eqb other id) (Some i) o (ne_eqb other id differ))) (kept differ o is))
    (cases_eq other id) where
      next : List (Option ℕ)
      next = set entries i (Some id)

      kept : (other ≡ id → ⊥) → (o : Option ℕ) → IsAt entries other o → IsAt next other o
      kept differ (Some j) is =
          let ne : j ≡ i → ⊥ = λ e. let none = subst (λ k. get_or entries k None ≡ None) (sym e) empty in let both = sym is ∙ none in cc in
          get_or-set_other entries i j (Some id) None ne ∙ is
      kept differ None is = λ k there.
          ⊎_elim
          (λ (same : k ≡ i). let here = subst (λ j. get_or next j None ≡ Some other) same there in differ (sym (ap num (sym (get_or-set_same entries i (Some id) None within) ∙ here))))
          (λ (ne : k ≡ i → ⊥). is k (sym (get_or-set_other entries i k (Some id) None ne) ∙ there))
          (cases_eq k i)

-- an entry loses its number: where each number is
pub at-remove : (entries : List (Option ℕ)) (i id other : ℕ) (o : Option ℕ) → Apart entries → i < length entries → get_or entries i None ≡ Some id →
    IsAt entries other o → IsAt (set entries i None) other (cond (eqb other id) None o)
at-remove entries i id other o apart within here is =
    ⊎_elim
    (λ (same : other ≡ id).
    subst (IsAt next other) (sym (cond-true (eqb other id) None o (eq-eqb other id same)))
    (λ k there.
    ⊎_elim
    (λ (at : k ≡ i). let gone = subst (λ j. get_or next j None ≡ Some other) at there in let both = sym (get_or-set_same entries i None None within) ∙ gone in cc)
    (λ (ne : k ≡ i → ⊥). ne (apart k i id (sym (get_or-set_other entries i k None None ne) ∙ there ∙ ap Some same) here))
    (cases_eq k i)))
    (λ (differ : other ≡ id → ⊥). subst (IsAt next other) (sym (cond-false (eqb other id) None o (ne_eqb other id differ))) (kept differ o is))
    (cases_eq other id) where
      next : List (Option ℕ)
      next = set entries i None

      kept : (other ≡ id → ⊥) → (o : Option ℕ) → IsAt entries other o → IsAt next other o
      kept differ (Some j) is =
          let ne : j ≡ i → ⊥ = λ e. let same = subst (λ k. get_or entries k None ≡ Some id) (sym e) here in differ (ap num (sym is ∙ same)) in
          get_or-set_other entries i j None None ne ∙ is
      kept differ None is = λ k there.
          ⊎_elim
          (λ (at : k ≡ i). let gone = subst (λ j. get_or next j None ≡ Some other) at there in let both = sym (get_or-set_same entries i None None within) ∙ gone in cc)
          (λ (ne : k ≡ i → ⊥). is k (sym (get_or-set_other entries i k None None ne) ∙ there))
          (cases_eq k i)

-- the slice and the column of an entry
abbrev pub column_at : ℕ → ℕ → ℕ × ℕ
column_at columns i = (i / columns, i % columns)

pub column_at-is : (columns slice column : ℕ) → column < columns → column_at columns (slice * columns + column) ≡ (slice, column)
column_at-is columns slice column within =
    ap (λ s. (s, (slice * columns + column) % columns)) (div-mul-add slice columns column within)
    ∙ ap (λ c. (slice, c)) (mod-mul-add slice columns column within)

unmapped : {X Y : Type 0} (f : X → Y) (o : Option X) → option_map f o ≡ None → o ≡ None
unmapped f None e = refl
unmapped f (Some x) e = cc

-- a number without a column has no entry
pub absent : (live : Entries) (id : ℕ) → column_of live id ≡ None → IsAt live.entries id None
absent live id none =
    subst (IsAt live.entries id) (unmapped (column_at live.columns) (position (has_id id) live.entries) none) (at-position live.entries id)

-- where no number has a column, the column's entry is empty
pub is-free : (live : Entries) (slice column : ℕ) → Apart live.entries → column < live.columns →
    ((other : ℕ) → column_of live other ≡ Some (slice, column) → ⊥) → get_or live.entries (slice * live.columns + column) None ≡ None
is-free live slice column apart within free = by (get_or live.entries i None) refl where
  i : ℕ
  i = slice * live.columns + column

  by : (o : Option ℕ) → get_or live.entries i None ≡ o → get_or live.entries i None ≡ None
  by None e = e
  by (Some n) e =
      absurd (free n (ap (option_map (column_at live.columns)) (position-at live.entries n (Some i) apart e) ∙ ap Some (column_at-is live.columns slice column within)))

-- the columns after an entry got a number
pub column_of-add : (old new : Entries) (id slice column : ℕ) → new.columns ≡ old.columns →
    new.entries ≡ set old.entries (slice * old.columns + column) (Some id) → Apart old.entries → Apart new.entries →
    slice * old.columns + column < length old.entries → column < old.columns →
    ((other : ℕ) → column_of old other ≡ Some (slice, column) → ⊥) → column_of old id ≡ None →
    (other : ℕ) → column_of new other ≡ cond (eqb other id) (Some (slice, column)) (column_of old other)
column_of-add old new id slice column same are apart after within in' free none other =
    let i = slice * old.columns + column in
    let f = option_map (column_at old.columns) in
    ap (λ k. option_map (column_at k) (position (has_id other) new.entries)) same
    ∙ ap f (position-at new.entries other (cond (eqb other id) (Some i) (position (has_id other) old.entries)) after
    (subst (λ es. IsAt es other (cond (eqb other id) (Some i) (position (has_id other) old.entries))) (sym are)
    (at-add old.entries i id other (position (has_id other) old.entries) within (is-free old slice column apart in' free) (absent old id none) (at-position old.entries other))))
    ∙ by (eqb other id) where
      by : (b : Bool) → option_map (column_at old.columns) (cond b (Some (slice * old.columns + column)) (position (has_id other) old.entries))
          ≡ cond b (Some (slice, column)) (column_of old other)
      by true = ap Some (column_at-is old.columns slice column in')
      by false = refl

-- the columns after an entry lost its number
pub column_of-remove : (old new : Entries) (id i : ℕ) → new.columns ≡ old.columns → new.entries ≡ set old.entries i None →
    Apart old.entries → Apart new.entries → i < length old.entries → get_or old.entries i None ≡ Some id →
    (other : ℕ) → column_of new other ≡ cond (eqb other id) None (column_of old other)
column_of-remove old new id i same are apart after within here other =
    let f = option_map (column_at old.columns) in
    ap (λ k. option_map (column_at k) (position (has_id other) new.entries)) same
    ∙ ap f (position-at new.entries other (cond (eqb other id) None (position (has_id other) old.entries)) after
    (subst (λ es. IsAt es other (cond (eqb other id) None (position (has_id other) old.entries))) (sym are)
    (at-remove old.entries i id other (position (has_id other) old.entries) apart within here (at-position old.entries other))))
    ∙ by (eqb other id) where
      by : (b : Bool) → option_map (column_at old.columns) (cond b None (position (has_id other) old.entries))
          ≡ cond b None (column_of old other)
      by true = refl
      by false = refl

-- where a number has no column, the columns are those without it
pub column_of-without : (live : Entries) (id : ℕ) → column_of live id ≡ None → (other : ℕ) →
    column_of live other ≡ cond (eqb other id) None (column_of live other)
column_of-without live id none other =
    ⊎_elim
    (λ (same : other ≡ id). ap (column_of live) same ∙ none ∙ sym (cond-true (eqb other id) None (column_of live other) (eq-eqb other id same)))
    (λ (differ : other ≡ id → ⊥). sym (cond-false (eqb other id) None (column_of live other) (ne_eqb other id differ)))
    (cases_eq other id)
