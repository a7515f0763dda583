-- A worker's walk over its share of a list, from each place that falls to it to the next.
use Rattle.std.proofs.Common.{◌≡◌, ℕ, zero, suc, ◌+◌, ◌-◌, ◌<◌, ◌≤◌, ◌%◌, ◌==◌, false, cond, List, [], ◌∷◌, ◌++◌, length, take, drop, filter, map, slice_set, Some, add-one, refl, sym, ap, ap₂, ◌∙◌, arith, inl, inr, drop-cons, eq-eqb}
use Rattle.std.specs.List.{enumerate_from, slice_get}
use Rattle.std.proofs.lemmas.Bool.{cases_lt, ne_eqb}
use Rattle.std.proofs.lemmas.List.{drop_all, drop-drop, get_or-set_same, length-set, length-take, length-take-le, map-append, take-set, take_all}
use Rattle.std.proofs.lemmas.List.Elements.{filter-append}
use Rattle.std.proofs.lemmas.Option.{get_or_from_slice_get, slice_get_read, slice_get_within}
use Rattle.std.proofs.Math.Nat.{add-mod_right, min-le_left, mod-add-mod, mod-eq_of_lt}
use Rattle.std.proofs.Math.Seq.{drop-length, take-add}
use Rattle.load_gen.specs.Jobs.{share}

-- those of the items, which stand at the places from n on, that fall to the worker
abbrev falling : {A : Type 0} → List A → ℕ → ℕ → ℕ → List (ℕ × A)
falling items workers worker n = filter (λ item. item.0 % workers == worker) (enumerate_from n items)

-- what a worker's share of the list has from a place on, and what it has before a place
abbrev pub share_from : {A : Type 0} → List A → ℕ → ℕ → ℕ → List (ℕ × A)
share_from items workers worker i = falling (drop i items) workers worker i

abbrev pub share_before : {A : Type 0} → List A → ℕ → ℕ → ℕ → List (ℕ × A)
share_before items workers worker i = falling (take i items) workers worker 0

-- what is left of a round, or what goes over it, is not what was there before
off_round : (workers worker k : ℕ) → worker < workers → 0 < k → k < workers → (worker + k) % workers ≡ worker → ⊥
off_round workers worker k within some few same =
    elim (cases_lt (worker + k) workers) [
      | inl below ↦ let is = mod-eq_of_lt below in omega (arith, is, same, some)
      | inr above ↦
          let rest : worker + k ≡ (worker + k - workers) + workers = omega (arith, above) in
          let is : (worker + k) % workers ≡ worker + k - workers =
          ap (λ n. n % workers) rest ∙ add-mod_right (worker + k - workers) workers ∙ mod-eq_of_lt (omega (arith, above, within, few)) in
          omega (arith, is, same, above, few)
    ]

-- no place before the first that falls to a worker falls to it
before_first : (workers worker p : ℕ) → worker < workers → p < worker → (p % workers == worker) ≡ false
before_first workers worker p within before =
    ne_eqb (p % workers) worker (λ same. let is = mod-eq_of_lt {n = p} {m = workers} (omega (arith, within, before)) in omega (arith, is, same, before))

-- and none between a place that falls to it and the next
between : (workers worker i p : ℕ) → i % workers ≡ worker → worker < workers → i < p → p < i + workers → (p % workers == worker) ≡ false
between workers worker i p falls within after before =
    ne_eqb (p % workers) worker (λ same.
    let k : i + (p - i) ≡ p = omega (arith, after) in
    off_round workers worker (p - i) within (omega (arith, after)) (omega (arith, after, before))
    (ap (λ n. (n + (p - i)) % workers) (sym falls) ∙ mod-add-mod i workers (p - i) ∙ ap (λ n. n % workers) k ∙ same))

-- what a list has from a place on
drop-at : {A : Type 0} (items : List A) (i : ℕ) (item : A) → slice_get items i ≡ Some item → drop i items ≡ item ∷ drop (i + 1) items
drop-at {A} items i item found =
    drop-cons items i item (slice_get_within items i item found)
    ∙ ap₂ (λ (x : A) (n : ℕ). x ∷ drop n items) (get_or_from_slice_get items i item item found) (sym (add-one i))

-- items that don't fall to the worker are passed by
passed_by : {A : Type 0} (items : List A) (n k workers worker : ℕ) → ((p : ℕ) → n ≤ p → p < n + k → (p % workers == worker) ≡ false) →
    falling items workers worker n ≡ falling (drop k items) workers worker (n + k)
passed_by items n zero workers worker others =
    let same : n ≡ n + 0 = omega arith in
    ap (λ m. falling items workers worker m) same
passed_by [] n (suc k) workers worker others = refl
passed_by (item ∷ items) n (suc k) workers worker others =
    let later : n + 1 + k ≡ n + suc k = omega arith in
    let rest = falling items workers worker (n + 1) in
    ap (λ b. cond b ((n, item) ∷ rest) rest) (others n (omega arith) (omega arith))
    ∙ passed_by items (n + 1) k workers worker (λ p from to. others p (omega (arith, from)) (omega (arith, to)))
    ∙ ap (λ m. falling (drop k items) workers worker m) later

-- of such items alone none is in the share
none_falls : {A : Type 0} (items : List A) (n workers worker : ℕ) → ((p : ℕ) → n ≤ p → p < n + length items → (p % workers == worker) ≡ false) →
    falling items workers worker n ≡ []
none_falls items n workers worker others =
    passed_by items n (length items) workers worker others
    ∙ ap (λ rest. falling rest workers worker (n + length items)) (drop-length items)

-- an item that falls to the worker is in its share
taken : {A : Type 0} (item : A) (rest : List (ℕ × A)) (i workers worker : ℕ) → i % workers ≡ worker → cond (i % workers == worker) ((i, item) ∷ rest) rest ≡ (i, item) ∷ rest
taken item rest i workers worker falls = ap (λ b. cond b ((i, item) ∷ rest) rest) (eq-eqb (i % workers) worker falls)

-- all of a share is from its first place on
pub share_from-begin : {A : Type 0} (items : List A) (workers worker : ℕ) → worker < workers → share items workers worker ≡ share_from items workers worker worker
share_from-begin items workers worker within =
    let first : 0 + worker ≡ worker = omega arith in
    passed_by items 0 worker workers worker (λ p from to. before_first workers worker p within (omega (arith, to)))
    ∙ ap (λ n. falling (drop worker items) workers worker n) first

-- the item at a place of the share, and then what is from the next place on
pub share_from-next : {A : Type 0} (items : List A) (workers worker i : ℕ) (item : A) → worker < workers → i % workers ≡ worker → slice_get items i ≡ Some item →
    share_from items workers worker i ≡ (i, item) ∷ share_from items workers worker (i + workers)
share_from-next items workers worker i item within falls found =
    let later = drop (i + 1) items in
    let next : i + 1 + (workers - 1) ≡ i + workers = omega (arith, within) in
    ap (λ rest. falling rest workers worker i) (drop-at items i item found)
    ∙ taken item (falling later workers worker (i + 1)) i workers worker falls
    ∙ ap (λ rest. (i, item) ∷ rest)
    (passed_by later (i + 1) (workers - 1) workers worker (λ p from to. between workers worker i p falls within (omega (arith, from)) (omega (arith, to, next)))
    ∙ ap (λ rest. falling rest workers worker (i + 1 + (workers - 1))) (drop-drop (workers - 1) (i + 1) items)
    ∙ ap (λ n. share_from items workers worker n) next)

-- behind the list there is nothing
pub share_from-end : {A : Type 0} (items : List A) (workers worker i : ℕ) → length items ≤ i → share_from items workers worker i ≡ []
share_from-end items workers worker i behind = ap (λ rest. falling rest workers worker i) (drop_all i items behind)

-- the first items are at most so many
take-at_most : {A : Type 0} (n : ℕ) (items : List A) → length (take n items) ≤ n
take-at_most n items = omega (arith, length-take n items, min-le_left n (length items))

-- before the first place there is nothing
pub share_before-begin : {A : Type 0} (items : List A) (workers worker : ℕ) → worker < workers → share_before items workers worker worker ≡ []
share_before-begin items workers worker within =
    none_falls (take worker items) 0 workers worker (λ p from to. before_first workers worker p within (omega (arith, to, take-at_most worker items)))

-- of two lists behind each other, the second is numbered on
enumerate_from-append : {A : Type 0} (n : ℕ) (items more : List A) → enumerate_from n (items ++ more) ≡ enumerate_from n items ++ enumerate_from (n + length items) more
enumerate_from-append n [] more = let same : n ≡ n + 0 = omega arith in ap (λ m. enumerate_from m more) same
enumerate_from-append n (item ∷ items) more =
    let later : n + 1 + length items ≡ n + suc (length items) = omega arith in
    ap (λ rest. (n, item) ∷ rest)
    (enumerate_from-append (n + 1) items more ∙ ap (λ m. enumerate_from (n + 1) items ++ enumerate_from m more) later)

-- of the items from a place of the share to the next, only the first falls to the worker
one_falls : {A : Type 0} (items : List A) (workers worker i : ℕ) (item : A) → worker < workers → i % workers ≡ worker → slice_get items i ≡ Some item →
    falling (take workers (drop i items)) workers worker i ≡ (i, item) ∷ []
one_falls items workers worker i item within falls found =
    let others = take (workers - 1) (drop (i + 1) items) in
    let round : workers ≡ suc (workers - 1) = omega (arith, within) in
    ap₂ (λ n rest. falling (take n rest) workers worker i) round (drop-at items i item found)
    ∙ taken item (falling others workers worker (i + 1)) i workers worker falls
    ∙ ap (λ rest. (i, item) ∷ rest)
    (none_falls others (i + 1) workers worker (λ p from to.
    between workers worker i p falls within (omega (arith, from)) (omega (arith, to, within, take-at_most (workers - 1) (drop (i + 1) items)))))

-- before the next place there is one item more
pub share_before-next : {A : Type 0} (items : List A) (workers worker i : ℕ) (item : A) → worker < workers → i % workers ≡ worker → slice_get items i ≡ Some item →
    share_before items workers worker (i + workers) ≡ share_before items workers worker i ++ (i, item) ∷ []
share_before-next items workers worker i item within falls found =
    let inside = slice_get_within items i item found in
    let place : 0 + length (take i items) ≡ i = omega (arith, length-take-le i items (omega (arith, inside))) in
    ap (λ first. falling first workers worker 0) (take-add i workers items)
    ∙ ap (filter (λ item. item.0 % workers == worker)) (enumerate_from-append 0 (take i items) (take workers (drop i items)))
    ∙ filter-append (λ item. item.0 % workers == worker) (enumerate_from 0 (take i items)) (enumerate_from (0 + length (take i items)) (take workers (drop i items)))
    ∙ ap (λ n. share_before items workers worker i ++ falling (take workers (drop i items)) workers worker n) place
    ∙ ap (λ more. share_before items workers worker i ++ more) (one_falls items workers worker i item within falls found)

-- all of a share is before the end of the list
pub share_before-end : {A : Type 0} (items : List A) (workers worker i : ℕ) → length items ≤ i → share_before items workers worker i ≡ share items workers worker
share_before-end items workers worker i behind = ap (λ all. falling all workers worker 0) (take_all i items behind)

-- an item that is set at a place of the share comes behind those before
pub share_before-set : {A : Type 0} (items : List A) (workers worker i : ℕ) (item : A) → worker < workers → i % workers ≡ worker → i < length items →
    map (λ item. item.1) (share_before (slice_set items i item) workers worker (i + workers)) ≡ map (λ item. item.1) (share_before items workers worker i) ++ item ∷ []
share_before-set items workers worker i item within falls inside =
    let new = slice_set items i item in
    let reach : i < length new = omega (arith, inside, length-set items i item) in
    let found : slice_get new i ≡ Some item = slice_get_read new (length new) i item refl reach (sym (get_or-set_same items i item item inside)) in
    ap (λ all. map (λ item. item.1) all) (share_before-next new workers worker i item within falls found)
    ∙ map-append (λ item. item.1) (share_before new workers worker i) ((i, item) ∷ [])
    ∙ ap (λ first. map (λ item. item.1) (falling first workers worker 0) ++ item ∷ []) (take-set items i item)
