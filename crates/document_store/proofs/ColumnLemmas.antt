-- What a table of trees says of the column of a number, and what an add and a removal make of it.
use Rattle.std.proofs.Common.{◌≡◌, ℕ, zero, suc, ◌+◌, ◌-◌, ◌*◌, ◌^◌, ◌<◌, ◌≤◌, ◌⊎◌, Bool, true, false, cond, eqb, ltb, List, map, length, get_or, set, replicate, Some, None, refl, sym, ap, ◌∙◌, subst, inl, inr, ⊎_elim, arith}
use Rattle.std.specs.Option.{option_map}
use Rattle.std.proofs.lemmas.Bool.{cases_Bool, cases_eq, cases_lt, cond-true, cond-false, lt-ltb, le-ltb}
use Rattle.std.proofs.lemmas.List.{get_or_default, get_or_past, get_or-replicate, get_or-set_same, get_or-set_other, length-map, length-replicate, length-set, map-set}
use Rattle.std.proofs.lemmas.Nat.{mul-add-lt}
use Rattle.std.proofs.Math.ListN.{get_or-map}
use Rattle.document_store.specs.declared.live_list.Entry.{Entry}
use Rattle.document_store.specs.Trees.{AreTrees, IsLive, IsPlaceOf, IsTree, bucket_of, entry_at, id_of, link_at, link_under, looked_from, no_entry, none, number_at, way}
use Rattle.document_store.specs.Entries.{Entries, IsShallow, column_of, has_id, steps}
use Rattle.document_store.proofs.TreeLemmas.{depth-below, end-before, number-lowest, tree-add, with-depth}
use Rattle.document_store.proofs.EntryLemmas.{Apart, absent, column_at, column_of-add, is-free, num, position-at}

-- what contracts see of a table
abbrev pub view : ℕ → ℕ → List ℕ → List Entry → Entries
view slices columns links entries = record { slices = slices; columns = columns; entries = map id_of entries; links = links }

-- what contracts see of an entry
pub view-at : (entries : List Entry) (x : ℕ) → get_or (map id_of entries) x None ≡ id_of (entry_at entries x)
view-at entries x = get_or-map id_of entries x no_entry

live-by : (e : Entry) (b : Bool) (n : ℕ) → cond b (Some e.id) None ≡ Some n → (b ≡ true) × (e.id ≡ n)
live-by e true n is = (refl, ap num is)
live-by e false n is = cc

-- an entry that has a number is live, and it is this number
pub live-is : (e : Entry) (n : ℕ) → id_of e ≡ Some n → (e.live ≡ true) × (e.id ≡ n)
live-is e n is = live-by e e.live n is

pub id_of-live : (e : Entry) → e.live ≡ true → id_of e ≡ Some e.id
id_of-live e live = cond-true e.live (Some e.id) None live

-- a tree whose entries and numbers are called otherwise
pub tree-as : (buckets count : ℕ) (behind number numbers depth : ℕ → ℕ) (IsIn IsNow : ℕ → Type 0) → ((x : ℕ) → numbers x ≡ number x) →
    ((x : ℕ) → IsIn x → IsNow x) → ((x : ℕ) → IsNow x → IsIn x) → IsTree buckets count behind number depth IsIn → IsTree buckets count behind numbers depth IsNow
tree-as buckets count behind number numbers depth IsIn IsNow same to from is = record {
  linked = λ l entry.
      let its = is.linked l entry in
      (to (behind l) its.0, ap (λ n. way behind buckets n (depth (behind l))) (same (behind l)) ∙ its.1);
  reached = λ x now. ap (λ n. behind (way behind buckets n (depth x))) (same x) ∙ is.reached x (from x now);
  within = λ x now. is.within x (from x now);
  shallow = λ x now. is.shallow x (from x now);
  past = is.past;
}

-- no entry is behind a link beyond those of the table
pub past-links : (buckets count : ℕ) (links : List ℕ) → length links ≡ buckets + 2 * count → count ≤ none →
    (x bit : ℕ) → count ≤ x → count ≤ link_at links (link_under buckets x bit)
past-links buckets count links size few x bit past =
    subst (λ y. count ≤ y) (sym (get_or_past links (link_under buckets x bit) none (omega (arith, size, past)))) few

-- what a search of the table gave
pub record IsSearch (buckets : ℕ) (links : List ℕ) (entries : List Entry) (id link at : ℕ) : Type 0 where
  pub place : IsPlaceOf buckets links entries id link
  pub inside : link < length links
  pub behind : at ≡ link_at links link

pub search-is : (buckets : ℕ) (links seen : List ℕ) (entries these : List Entry) (id link at : ℕ) → seen ≡ links → these ≡ entries →
    IsPlaceOf buckets seen these id link → link < length seen → at ≡ get_or links link at → IsSearch buckets links entries id link at
search-is buckets links seen entries these id link at links_are entries_are place inside here =
    let within : link < length links = subst (λ ls. link < length ls) links_are inside in
    record {
      place = subst (λ ls. IsPlaceOf buckets ls entries id link) links_are (subst (λ es. IsPlaceOf buckets seen es id link) entries_are place);
      inside = within;
      behind = here ∙ get_or_default links link at none within;
    }

module _ (slices columns buckets : ℕ) (links : List ℕ) (entries : List Entry) (is : AreTrees slices columns buckets links entries) where
  abbrev count : ℕ
  count = length entries

  abbrev behind : ℕ → ℕ
  behind = link_at links

  abbrev number : ℕ → ℕ
  number = number_at entries

  -- no two numbers that contracts see are one
  pub apart-view : Apart (map id_of entries)
  apart-view i j n at there =
      let first = live-is (entry_at entries i) n (sym (view-at entries i) ∙ at) in
      let second = live-is (entry_at entries j) n (sym (view-at entries j) ∙ there) in
      is.apart i j first.0 second.0 (first.1 ∙ sym second.1)

  steps-few : (id most k : ℕ) (has : ℕ → Bool) → looked_from behind has buckets count id most (way behind buckets id k) k ≤ 65 - k
  steps-few id zero k has = omega arith
  steps-few id (suc most) k has =
      let l = way behind buckets id k in
      let rest = looked_from behind has buckets count id most (way behind buckets id (suc k)) (suc k) in
      ⊎_elim
      (λ (entry : behind l < count).
      let shallow = depth-below buckets count behind number is.depth (IsLive entries) is.some is.tree id k entry in
      let fewer = steps-few id most (suc k) has in
      subst (λ n. n ≤ 65 - k) (sym (cond-true (ltb (behind l) count) (cond (has (behind l)) 1 (suc rest)) 0 (lt-ltb (behind l) count entry)))
      (⊎_elim
      (λ yes. subst (λ n. n ≤ 65 - k) (sym (cond-true (has (behind l)) 1 (suc rest) yes)) (omega (arith, shallow)))
      (λ no. subst (λ n. n ≤ 65 - k) (sym (cond-false (has (behind l)) 1 (suc rest) no)) (omega (arith, shallow, fewer)))
      (cases_Bool (has (behind l)))))
      (λ (out : count ≤ behind l).
      subst (λ n. n ≤ 65 - k) (sym (cond-false (ltb (behind l) count) (cond (has (behind l)) 1 (suc rest)) 0 (le-ltb (behind l) count out))) (omega arith))
      (cases_lt (behind l) count)

  -- a call looks at few entries
  pub shallow-view : IsShallow (view slices columns links entries)
  unfolding steps
  shallow-view id =
      subst (λ c. looked_from behind (λ x. has_id id (get_or (map id_of entries) x None)) (length links - 2 * c) c id c (bucket_of (length links - 2 * c) id) 0 ≤ 65) (sym (length-map entries id_of))
      (subst (λ b. looked_from behind (λ x. has_id id (get_or (map id_of entries) x None)) b count id count (bucket_of b id) 0 ≤ 65)
      (let size = is.size in let same : buckets ≡ length links - 2 * count = omega (arith, size) in same)
      (steps-few id count 0 (λ x. has_id id (get_or (map id_of entries) x None))))

  module _ (id link : ℕ) (small : id < 2 ^ 64) (place : IsPlaceOf buckets links entries id link) where
    -- the entry behind the link that a search gave has the number
    pub found-within : (behind link ≡ none → ⊥) → behind link < count
    found-within some = ⊎_elim (λ less. less) (λ out. absurd (some (is.ends link out))) (cases_lt (behind link) count)

    pub found-number : (behind link ≡ none → ⊥) → number (behind link) ≡ id
    found-number some =
        let entry = found-within some in
        ⊎_elim
        (λ (lowest : place.depth ≡ 64).
        let at : way behind buckets id 64 ≡ link = ap (way behind buckets id) (sym lowest) ∙ place.on_way in
        ap (λ l. number (behind l)) (sym at)
        ∙ number-lowest buckets count behind number is.depth (IsLive entries) is.some is.tree id small is.numbers (subst (λ l. behind l < count) (sym at) entry))
        (λ rest. ⊎_elim (λ (out : count ≤ behind link). absurd (omega (arith, entry, out))) (λ same. same) rest)
        place.stops

    pub found-live : (behind link ≡ none → ⊥) → IsLive entries (behind link)
    found-live some = (is.tree.linked link (found-within some)).0

    -- where no entry is behind it, none has the number
    pub none-has : behind link ≡ none → (x : ℕ) → IsLive entries x → number x ≡ id → ⊥
    none-has ends x live same =
        let few = is.few in
        let out : count ≤ behind (way behind buckets id place.depth) = subst (λ l. count ≤ behind l) (sym place.on_way) (omega (arith, ends, few)) in
        let its : behind (way behind buckets id (is.depth x)) ≡ x = ap (λ n. behind (way behind buckets n (is.depth x))) (sym same) ∙ is.tree.reached x live in
        let entry = is.tree.within x live in
        ⊎_elim
        (λ (less : is.depth x < place.depth). place.others (is.depth x) less (ap number its ∙ same))
        (λ (least : place.depth ≤ is.depth x).
        let past = end-before buckets count behind number is.depth (IsLive entries) is.some is.tree id place.depth (is.depth x) least out in
        omega (arith, past, its, entry))
        (cases_lt (is.depth x) place.depth)

    -- a number that is found has the column of its entry
    pub column-found : (behind link ≡ none → ⊥) → column_of (view slices columns links entries) id ≡ Some (column_at columns (behind link))
    column-found some =
        ap (option_map (column_at columns))
        (position-at (map id_of entries) id (Some (behind link)) apart-view
        (view-at entries (behind link) ∙ id_of-live (entry_at entries (behind link)) (found-live some) ∙ ap Some (found-number some)))

    -- a number that isn't found has none
    pub column-none : behind link ≡ none → column_of (view slices columns links entries) id ≡ None
    column-none ends =
        ap (option_map (column_at columns))
        (position-at (map id_of entries) id None apart-view
        (λ i there.
        let its = live-is (entry_at entries i) id (sym (view-at entries i) ∙ there) in
        none-has ends i its.0 its.1))

    -- where contracts see no column, no entry is behind the link
    pub ends-at : column_of (view slices columns links entries) id ≡ None → behind link ≡ none
    ends-at absent =
        ⊎_elim (λ yes. yes) (λ (no : behind link ≡ none → ⊥). let both = sym (column-found no) ∙ absent in cc) (cases_eq (behind link) none)

    -- an entry that is found is one of a column
    pub some-columns : (behind link ≡ none → ⊥) → 0 < columns
    some-columns some =
        by columns (subst (λ n. behind link < n) is.every_column (found-within some)) where
          by : (n : ℕ) → behind link < slices * n → 0 < n
          by zero less = absurd (omega (arith, less))
          by (suc n) less = omega arith

-- a number is added in a column that no number has
module _ (slices columns buckets : ℕ) (links : List ℕ) (entries : List Entry) (is : AreTrees slices columns buckets links entries) (id slice column link : ℕ)
    (small : id < 2 ^ 64) (place : IsPlaceOf buckets links entries id link) (inside : link < length links)
    (slice_in : slice < slices) (column_in : column < columns)
    (free : (other : ℕ) → column_of (view slices columns links entries) other ≡ Some (slice, column) → ⊥)
    (absent_before : column_of (view slices columns links entries) id ≡ None) where
  abbrev at : ℕ
  at = slice * columns + column

  abbrev added_entry : Entry
  added_entry = record { id = id; live = true }

  abbrev after : List Entry
  after = set entries at added_entry

  abbrev after_links : List ℕ
  after_links = set links link at

  at_in : at < length entries
  at_in = let less = mul-add-lt slice columns column slices slice_in column_in in let every = is.every_column in omega (arith, less, every)

  empty_there : get_or (map id_of entries) at None ≡ None
  empty_there = is-free (view slices columns links entries) slice column (apart-view slices columns buckets links entries is) column_in free

  not_live : IsLive entries at → ⊥
  not_live live = let both = sym (view-at entries at ∙ id_of-live (entry_at entries at) live) ∙ empty_there in cc

  here : entry_at after at ≡ added_entry
  here = get_or-set_same entries at added_entry no_entry at_in

  there : (x : ℕ) → (x ≡ at → ⊥) → entry_at after x ≡ entry_at entries x
  there x ne = get_or-set_other entries at x added_entry no_entry ne

  ends : link_at links link ≡ none
  ends = ends-at slices columns buckets links entries is id link small place absent_before

  others-number : (x : ℕ) → IsLive entries x → number_at entries x ≡ id → ⊥
  others-number x live same = absent (view slices columns links entries) id absent_before x (view-at entries x ∙ id_of-live (entry_at entries x) live ∙ ap Some same)

  was : (x : ℕ) → (x ≡ at → ⊥) → IsLive after x → IsLive entries x
  was x ne live = subst (λ e. e.live ≡ true) (there x ne) live

  size_after : length after_links ≡ buckets + 2 * length after
  size_after = length-set links link at ∙ is.size ∙ ap (λ n. buckets + 2 * n) (sym (length-set entries at added_entry))

  few_after : length after ≤ none
  few_after = subst (λ n. n ≤ none) (sym (length-set entries at added_entry)) is.few

  link_here : link_at after_links link ≡ at
  link_here = get_or-set_same links link at none inside

  link_there : (l : ℕ) → (l ≡ link → ⊥) → link_at after_links l ≡ link_at links l
  link_there l ne = get_or-set_other links link l at none ne

  abbrev Deeper : Type 0
  Deeper = (depth : ℕ → ℕ) × IsTree buckets (length after) (link_at after_links) (number_at after) depth (IsLive after)

  deeper : Deeper
  deeper =
      let few = is.few in
      let its = ends in
      let own = place.on_way in
      let tree = tree-add buckets (length entries) (link_at links) (number_at entries) is.depth (IsLive entries) is.some is.tree id place.depth at place.low at_in not_live
      (subst (λ l. length entries ≤ link_at links l) (sym own) (omega (arith, its, few)))
      place.entries_before (link_at after_links) (number_at after)
      (subst (λ l. link_at after_links l ≡ at) (sym own) link_here)
      (λ l ne. link_there l (λ same. ne (same ∙ sym own)))
      (ap (λ e. e.id) here) (λ x ne. ap (λ e. e.id) (there x ne))
      (past-links buckets (length entries) after_links (length-set links link at ∙ is.size) is.few) in (
        with-depth is.depth at place.depth,
        subst (λ n. IsTree buckets n (link_at after_links) (number_at after) (with-depth is.depth at place.depth) (IsLive after)) (sym (length-set entries at added_entry))
            (tree-as buckets (length entries) (link_at after_links) (number_at after) (number_at after) (with-depth is.depth at place.depth) (λ x. IsLive entries x ⊎ (x ≡ at)) (IsLive after) (λ x. refl)
            (λ x now. ⊎_elim
            (λ (live : IsLive entries x). subst (λ e. e.live ≡ true) (sym (there x (λ same. not_live (subst (IsLive entries) same live)))) live)
            (λ (same : x ≡ at). ap (λ y. (entry_at after y).live) same ∙ ap (λ e. e.live) here) now)
            (λ x live. ⊎_elim (λ (same : x ≡ at). inr same) (λ (ne : x ≡ at → ⊥). inl (was x ne live)) (cases_eq x at)) tree),
      )

  number-own : (x : ℕ) → x ≡ at → number_at after x ≡ id
  number-own x same = ap (number_at after) same ∙ ap (λ e. e.id) here

  number-other : (x : ℕ) → (x ≡ at → ⊥) → number_at after x ≡ number_at entries x
  number-other x ne = ap (λ e. e.id) (there x ne)

  pub add-keeps : AreTrees slices columns buckets after_links after
  add-keeps = record {
    every_column = length-set entries at added_entry ∙ is.every_column;
    few = few_after;
    some = is.some;
    size = size_after;
    ends = λ l out. ⊎_elim
        (λ (same : l ≡ link).
        let long = length-set entries at added_entry in let it = ap (link_at after_links) same ∙ link_here in let in' = at_in in absurd (omega (arith, out, it, in', long)))
        (λ (ne : l ≡ link → ⊥). link_there l ne ∙ is.ends l (subst (λ n. n ≤ link_at links l) (length-set entries at added_entry) (subst (λ y. length after ≤ y) (link_there l ne) out)))
        (cases_eq l link);
    numbers = λ x. ⊎_elim
        (λ (same : x ≡ at). subst (λ n. n < 2 ^ 64) (sym (number-own x same)) small)
        (λ (ne : x ≡ at → ⊥). subst (λ n. n < 2 ^ 64) (sym (number-other x ne)) (is.numbers x))
        (cases_eq x at);
    depth = deeper.0;
    tree = deeper.1;
    apart = λ x y live other same. ⊎_elim
        (λ (first : x ≡ at).
        ⊎_elim
        (λ (second : y ≡ at). first ∙ sym second)
        (λ (ne : y ≡ at → ⊥). absurd (others-number y (was y ne other) (sym (number-other y ne) ∙ sym same ∙ number-own x first)))
        (cases_eq y at))
        (λ (differ : x ≡ at → ⊥).
        ⊎_elim
        (λ (second : y ≡ at). absurd (others-number x (was x differ live) (sym (number-other x differ) ∙ same ∙ number-own y second)))
        (λ (ne : y ≡ at → ⊥). is.apart x y (was x differ live) (was y ne other) (sym (number-other x differ) ∙ same ∙ number-other y ne))
        (cases_eq y at))
        (cases_eq x at);
  }

  pub add-columns : (other : ℕ) → column_of (view slices columns after_links after) other ≡
      cond (eqb other id) (Some (slice, column)) (column_of (view slices columns links entries) other)
  add-columns =
      column_of-add (view slices columns links entries) (view slices columns after_links after) id slice column refl (map-set id_of entries at added_entry)
      (apart-view slices columns buckets links entries is) (apart-view slices columns buckets after_links after add-keeps)
      (subst (λ n. at < n) (sym (length-map entries id_of)) at_in) column_in free absent_before

-- no column has a number yet
module _ (slices columns buckets : ℕ) (links : List ℕ) (entries : List Entry) (some : 0 < buckets) (few : slices * columns ≤ none)
    (links_are : links ≡ replicate (buckets + 2 * (slices * columns)) none) (entries_are : entries ≡ replicate (slices * columns) no_entry) where
  all-none : (n x : ℕ) → get_or (replicate n no_entry) x no_entry ≡ no_entry
  all-none n x =
      ⊎_elim (λ (within : x < n). get_or-replicate n x no_entry no_entry within)
      (λ (out : n ≤ x). get_or_past (replicate n no_entry) x no_entry (let long = length-replicate n no_entry in omega (arith, long, out)))
      (cases_lt x n)

  none-at : (x : ℕ) → entry_at entries x ≡ no_entry
  none-at x = ap (λ es. get_or es x no_entry) entries_are ∙ all-none (slices * columns) x

  none-live : (x : ℕ) → IsLive entries x → ⊥
  none-live x live = let both = sym (ap (λ e. e.live) (none-at x)) ∙ live in cc

  links-none : (l : ℕ) → link_at links l ≡ none
  links-none l =
      let n = buckets + 2 * (slices * columns) in
      ap (λ ls. get_or ls l none) links_are
      ∙ ⊎_elim (λ (within : l < n). get_or-replicate n l none none within)
      (λ (out : n ≤ l). get_or_past (replicate n none) l none (let long = length-replicate n none in omega (arith, long, out)))
      (cases_lt l n)

  long : length entries ≡ slices * columns
  long = ap length entries_are ∙ length-replicate (slices * columns) no_entry

  few-here : length entries ≤ none
  few-here = subst (λ n. n ≤ none) (sym long) few

  pub new-keeps : AreTrees slices columns buckets links entries
  new-keeps = record {
    every_column = long;
    few = few-here;
    some = some;
    size = ap length links_are ∙ length-replicate (buckets + 2 * (slices * columns)) none ∙ ap (λ n. buckets + 2 * n) (sym long);
    ends = λ l out. links-none l;
    numbers = λ x. subst (λ e. e.id < 2 ^ 64) (sym (none-at x)) (omega arith);
    depth = λ x. 0;
    tree = record {
      linked = λ l entry. let its = links-none l in let at_most = few-here in absurd (omega (arith, entry, its, at_most));
      reached = λ x live. absurd (none-live x live);
      within = λ x live. absurd (none-live x live);
      shallow = λ x live. absurd (none-live x live);
      past = λ x bit out. subst (λ n. length entries ≤ n) (sym (links-none (link_under buckets x bit))) few-here;
    };
    apart = λ x y live other same. absurd (none-live x live);
  }

  pub new-empty : (id : ℕ) → column_of (view slices columns links entries) id ≡ None
  new-empty id =
      ap (option_map (column_at columns))
      (position-at (map id_of entries) id None (apart-view slices columns buckets links entries new-keeps)
      (λ i there. none-live i (live-is (entry_at entries i) id (sym (view-at entries i) ∙ there)).0))
