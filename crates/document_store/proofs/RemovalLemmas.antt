-- What the removal of a number makes of a table of trees.
use Rattle.std.proofs.Common.{◌≡◌, ℕ, ◌+◌, ◌*◌, ◌^◌, ◌<◌, ◌≤◌, ◌⊎◌, true, false, cond, eqb, List, length, ◌++◌, take, drop, get_or, set, Some, None, refl, sym, ap, ◌∙◌, subst, inl, inr, ⊎_elim, arith}
use Rattle.std.proofs.lemmas.Bool.{cases_eq, cases_lt}
use Rattle.std.proofs.lemmas.List.{get_or_default, get_or_past, get_or-set_same, get_or-set_other, length-map, length-set, map-set}
use Rattle.std.proofs.Math.Seq.{take-append_seam}
use Rattle.document_store.specs.declared.live_list.Entry.{Entry}
use Rattle.document_store.specs.Trees.{AreTrees, IsInPlace, IsLive, IsLowestUnder, IsPlaceOf, IsTree, entry_at, id_of, link_at, link_under, no_entry, none, number_at, way}
use Rattle.document_store.specs.Entries.{column_of}
use Rattle.document_store.proofs.TreeLemmas.{not-under, tree-put, tree-remove, under-deep, under-deeper, way-kept, way-same, with-depth}
use Rattle.document_store.proofs.EntryLemmas.{column_of-remove}
use Rattle.document_store.proofs.ColumnLemmas.{IsSearch, apart-view, found-live, found-number, found-within, id_of-live, past-links, tree-as, view, view-at}

-- the entry, live no more
abbrev pub unmarked : Entry → Entry
unmarked e = record { id = e.id; live = false }

-- whatever holds of the entries that were behind the links, of the new one and of none holds of those that are behind them now
in-place-all : (buckets : ℕ) (behind after : ℕ → ℕ) (link old new : ℕ) (P : ℕ → Type 0) → IsInPlace buckets behind after link old new →
    P new → P none → ((l : ℕ) → P (behind l)) → (l : ℕ) → P (after l)
in-place-all buckets behind after link old new P put at_new at_none before l =
    ⊎_elim (λ same. subst P (sym (ap after same ∙ put.here)) at_new) (λ ne.
    ⊎_elim (λ same. subst P (sym (ap after same ∙ put.low)) (before (link_under buckets old 0))) (λ ne0.
    ⊎_elim (λ same. subst P (sym (ap after same ∙ put.high)) (before (link_under buckets old 1))) (λ ne1.
    ⊎_elim (λ same. subst P (sym (ap after same ∙ put.old_low)) at_none) (λ ne2.
    ⊎_elim (λ same. subst P (sym (ap after same ∙ put.old_high)) at_none) (λ ne3.
    subst P (sym (put.same l ne ne0 ne1 ne2 ne3)) (before l))
    (cases_eq l (link_under buckets old 1))) (cases_eq l (link_under buckets old 0)))
    (cases_eq l (link_under buckets new 1))) (cases_eq l (link_under buckets new 0))) (cases_eq l link)

-- what a removal knows before it changes the table: where the number is, and the lowest link there
pub record IsRemoval (buckets : ℕ) (links : List ℕ) (entries : List Entry) (id link at low leaf : ℕ) : Type 0 where
  pub search : IsSearch buckets links entries id link at
  pub some : link_at links link ≡ none → ⊥
  pub lowest : IsLowestUnder buckets links entries link low
  pub leaf_is : leaf ≡ link_at links low

pub removal-is : (buckets : ℕ) (links seen : List ℕ) (entries these : List Entry) (id link at low leaf : ℕ) → IsSearch buckets links entries id link at → (at ≡ none → ⊥) →
    seen ≡ links → these ≡ entries → IsLowestUnder buckets seen these link low → low < length links → leaf ≡ get_or links low leaf →
    IsRemoval buckets links entries id link at low leaf
removal-is buckets links seen entries these id link at low leaf search some links_are entries_are lowest inside here = record {
  search = search;
  some = λ ends. some (search.behind ∙ ends);
  lowest = subst (λ ls. IsLowestUnder buckets ls entries link low) links_are (subst (λ es. IsLowestUnder buckets seen es link low) entries_are lowest);
  leaf_is = here ∙ get_or_default links low leaf none inside;
}

-- a slice of a whole list that was written is the list then
pub written : (n : ℕ) (new old : List ℕ) → length new ≡ length old → n ≡ length old → take n (new ++ drop (length new) old) ≡ new
written n new old same all =
    ap (λ k. take k (new ++ drop (length new) old)) (all ∙ sym same)
    ∙ take-append_seam new (drop (length new) old)

-- the entry that a removal marks
pub marked : (entries : List Entry) (at found : ℕ) (e : Entry) → found < length entries → at ≡ found → e ≡ get_or entries at e →
    set entries at (record { id = e.id; live = false }) ≡ set entries found (unmarked (entry_at entries found))
marked entries at found e within same here =
    let is : e ≡ entry_at entries found = here ∙ ap (λ k. get_or entries k e) same ∙ get_or_default entries found e no_entry within in
    ap (λ k. set entries k (unmarked e)) same ∙ ap (λ x. set entries found (unmarked x)) is

-- a link that leads to an entry is one of the table
pub inside-if : (slices columns buckets : ℕ) (links : List ℕ) (entries : List Entry) → AreTrees slices columns buckets links entries →
    (seen : List ℕ) (these : List Entry) (l : ℕ) → seen ≡ links → these ≡ entries → link_at seen l < length these → l < length links
inside-if slices columns buckets links entries is seen these l links_are entries_are entry =
    let its : link_at links l < length entries = subst (λ ls. link_at ls l < length entries) links_are (subst (λ es. link_at seen l < length es) entries_are entry) in
    ⊎_elim (λ less. less)
    (λ (past : length links ≤ l). let it = get_or_past links l none past in let few = is.few in absurd (omega (arith, it, few, its)))
    (cases_lt l (length links))

-- a number that was found is removed
module _ (slices columns buckets : ℕ) (links : List ℕ) (entries : List Entry) (is : AreTrees slices columns buckets links entries) (id link low : ℕ)
    (small : id < 2 ^ 64) (place : IsPlaceOf buckets links entries id link) (some : link_at links link ≡ none → ⊥)
    (lowest : IsLowestUnder buckets links entries link low) where
  abbrev at : ℕ
  at = link_at links link

  abbrev leaf : ℕ
  leaf = link_at links low

  abbrev left_links : List ℕ
  left_links = set links low none

  abbrev left_entries : List Entry
  left_entries = set entries at (unmarked (entry_at entries at))

  pub removed-in : at < length entries
  removed-in = found-within slices columns buckets links entries is id link small place some

  removed-live : IsLive entries at
  removed-live = found-live slices columns buckets links entries is id link small place some

  deep : (leaf < length entries) × (is.depth leaf ≡ lowest.steps + is.depth at) × (way (link_at links) buckets (number_at entries leaf) (is.depth at) ≡ link)
  deep = under-deep buckets (length entries) (link_at links) (number_at entries) is.depth (IsLive entries) is.some is.tree link at removed-live refl lowest.steps low lowest.under

  pub leaf-in : leaf < length entries
  leaf-in = deep.0

  leaf-live : IsLive entries leaf
  leaf-live = (is.tree.linked low leaf-in).0

  pub low-inside : low < length links
  low-inside = inside-if slices columns buckets links entries is links entries low refl refl leaf-in

  pub link-inside : link < length links
  link-inside = inside-if slices columns buckets links entries is links entries link refl refl removed-in

  leaf-none : (b : ℕ) → b < 2 → length entries ≤ link_at links (link_under buckets leaf b)
  leaf-none b bit =
      ⊎_elim
      (λ (most : lowest.steps ≡ 64).
      ⊎_elim
      (λ (entry : link_at links (link_under buckets leaf b) < length entries).
      let deeper = under-deeper buckets (length entries) (link_at links) (number_at entries) is.depth (IsLive entries) is.some is.tree leaf b bit entry in
      let shallow = is.tree.shallow (link_at links (link_under buckets leaf b)) (is.tree.linked (link_under buckets leaf b) entry).0 in
      let one = deeper.1 in
      let all = deep.1 in
      absurd (omega (arith, one, all, most, shallow)))
      (λ out. out)
      (cases_lt (link_at links (link_under buckets leaf b)) (length entries)))
      (λ stops. stops b bit)
      lowest.stops

  low-link : way (link_at links) buckets (number_at entries leaf) (is.depth leaf) ≡ low
  low-link = (is.tree.linked low leaf-in).1

  removed-link : way (link_at links) buckets (number_at entries at) (is.depth at) ≡ link
  removed-link = (is.tree.linked link removed-in).1

  pub leaf-other : (low ≡ link → ⊥) → at ≡ leaf → ⊥
  leaf-other other same = other (sym low-link ∙ ap (λ x. way (link_at links) buckets (number_at entries x) (is.depth x)) (sym same) ∙ removed-link)

  gone : link_at left_links low ≡ none
  gone = get_or-set_same links low none none low-inside

  there : (l : ℕ) → (l ≡ low → ⊥) → link_at left_links l ≡ link_at links l
  there l ne = get_or-set_other links low l none none ne

  size_left : length left_links ≡ buckets + 2 * length entries
  size_left = length-set links low none ∙ is.size

  -- the table without the leaf
  abbrev IsOff : ℕ → Type 0
  IsOff x = IsLive entries x × (x ≡ leaf → ⊥)

  without_leaf : IsTree buckets (length entries) (link_at left_links) (number_at entries) is.depth IsOff
  without_leaf =
      tree-remove buckets (length entries) (link_at links) (number_at entries) is.depth (IsLive entries) is.some is.tree low leaf leaf-live refl leaf-none
      (link_at left_links) (subst (λ n. length entries ≤ n) (sym gone) is.few) there (past-links buckets (length entries) left_links size_left is.few)

  -- the same links, and the other live entries
  record IsRest (after : List ℕ) : Type 0 where
    depth : ℕ → ℕ
    tree : IsTree buckets (length entries) (link_at after) (number_at entries) depth (λ x. IsLive entries x × (x ≡ at → ⊥))
    size : length after ≡ length links
    ends : (l : ℕ) → length entries ≤ link_at after l → link_at after l ≡ none

  left_ends : (l : ℕ) → length entries ≤ link_at left_links l → link_at left_links l ≡ none
  left_ends l out = ⊎_elim (λ same. ap (link_at left_links) same ∙ gone)
      (λ ne. there l ne ∙ is.ends l (subst (λ n. length entries ≤ n) (there l ne) out)) (cases_eq l low)

  -- the entry has none under it
  rest-alone : low ≡ link → IsRest left_links
  rest-alone same =
      let is_leaf : leaf ≡ at = ap (link_at links) same in
      record {
        depth = is.depth;
        tree = tree-as buckets (length entries) (link_at left_links) (number_at entries) (number_at entries) is.depth IsOff (λ x. IsLive entries x × (x ≡ at → ⊥)) (λ x. refl)
            (λ x off. (off.0, λ here. off.1 (here ∙ sym is_leaf))) (λ x off. (off.0, λ here. off.1 (here ∙ is_leaf))) without_leaf;
        size = length-set links low none;
        ends = left_ends;
      }

  pub link-still : (low ≡ link → ⊥) → link_at left_links link ≡ at
  link-still other = there link (λ same. other (sym same))

  -- the links that are asked of a leaf that is put in the place of another entry
  pub not-under-old : (b : ℕ) → b < 2 → link ≡ link_under buckets at b → ⊥
  not-under-old b bit same =
      not-under buckets (length entries) (link_at links) (number_at entries) is.depth (IsLive entries) is.some is.tree at b removed-live bit (sym (ap (link_at links) same))

  pub not-under-leaf : (b : ℕ) → b < 2 → link ≡ link_under buckets leaf b → ⊥
  not-under-leaf b bit same = let out = leaf-none b bit in let its = ap (link_at links) same in let within = removed-in in omega (arith, out, its, within)

  through : way (link_at left_links) buckets (number_at entries leaf) (is.depth at) ≡ link
  through =
      way-kept (link_at links) (link_at left_links) buckets (number_at entries leaf) (is.depth at)
      (λ d less. there (way (link_at links) buckets (number_at entries leaf) d) (λ same.
      let meet = (way-same buckets (length entries) (link_at links) (number_at entries) is.depth (IsLive entries) is.some is.tree d (is.depth leaf) (number_at entries leaf) (number_at entries leaf)
      (subst (λ l. link_at links l < length entries) (sym same) leaf-in) (same ∙ sym low-link)).0 in
      let all = deep.1 in
      omega (arith, less, meet, all)))
      ∙ deep.2

  -- the leaf has its place
  rest-put : (after : List ℕ) → (low ≡ link → ⊥) → length after ≡ length left_links → IsInPlace buckets (link_at left_links) (link_at after) link at leaf → IsRest after
  rest-put after other long put =
      let size : length after ≡ length links = long ∙ length-set links low none in
      let apart = leaf-other other in
      record {
        depth = with-depth is.depth leaf (is.depth at);
        tree = tree-as buckets (length entries) (link_at after) (number_at entries) (number_at entries) (with-depth is.depth leaf (is.depth at)) (λ x. (IsOff x × (x ≡ at → ⊥)) ⊎ (x ≡ leaf)) (λ x. IsLive entries x × (x ≡ at → ⊥)) (λ x. refl)
            (λ x now. ⊎_elim (λ off. (off.0.0, off.1)) (λ (same : x ≡ leaf). (subst (IsLive entries) (sym same) leaf-live, λ here. apart (sym here ∙ same))) now)
            (λ x left. ⊎_elim (λ (same : x ≡ leaf). inr same) (λ (ne : x ≡ leaf → ⊥). inl ((left.0, ne), left.1)) (cases_eq x leaf))
            (tree-put buckets (length entries) (link_at left_links) (number_at entries) is.depth IsOff is.some without_leaf link at leaf (removed-live, apart) (λ off. off.1 refl)
            leaf-in (link-still other) through (link_at after) put is.few (past-links buckets (length entries) after (size ∙ is.size) is.few));
        size = size;
        ends = in-place-all buckets (link_at left_links) (link_at after) link at leaf (λ x. length entries ≤ x → x ≡ none) put
            (λ out. let within = leaf-in in absurd (omega (arith, out, within))) (λ out. refl) left_ends;
      }

  here : entry_at left_entries at ≡ unmarked (entry_at entries at)
  here = get_or-set_same entries at (unmarked (entry_at entries at)) no_entry removed-in

  away : (x : ℕ) → (x ≡ at → ⊥) → entry_at left_entries x ≡ entry_at entries x
  away x ne = get_or-set_other entries at x (unmarked (entry_at entries at)) no_entry ne

  number-kept : (x : ℕ) → number_at left_entries x ≡ number_at entries x
  number-kept x = ⊎_elim (λ same. ap (number_at left_entries) same ∙ ap (λ e. e.id) here ∙ ap (number_at entries) (sym same)) (λ ne. ap (λ e. e.id) (away x ne)) (cases_eq x at)

  live-still : (x : ℕ) → IsLive left_entries x → IsLive entries x × (x ≡ at → ⊥)
  live-still x live =
      let ne : x ≡ at → ⊥ = λ same. let off = ap (λ y. (entry_at left_entries y).live) same ∙ ap (λ e. e.live) here in let both = sym live ∙ off in cc in
      (subst (λ e. e.live ≡ true) (away x ne) live, ne)

  still-live : (x : ℕ) → IsLive entries x × (x ≡ at → ⊥) → IsLive left_entries x
  still-live x left = subst (λ e. e.live ≡ true) (sym (away x left.1)) left.0

  kept_by : (after : List ℕ) → IsRest after → AreTrees slices columns buckets after left_entries
  kept_by after rest =
      let long = length-set entries at (unmarked (entry_at entries at)) in
      record {
        every_column = long ∙ is.every_column;
        few = subst (λ n. n ≤ none) (sym long) is.few;
        some = is.some;
        size = rest.size ∙ is.size ∙ ap (λ n. buckets + 2 * n) (sym long);
        ends = λ l out. rest.ends l (subst (λ n. n ≤ link_at after l) long out);
        numbers = λ x. subst (λ n. n < 2 ^ 64) (sym (number-kept x)) (is.numbers x);
        depth = rest.depth;
        tree = subst (λ n. IsTree buckets n (link_at after) (number_at left_entries) rest.depth (IsLive left_entries)) (sym long)
            (tree-as buckets (length entries) (link_at after) (number_at entries) (number_at left_entries) rest.depth (λ x. IsLive entries x × (x ≡ at → ⊥)) (IsLive left_entries)
            number-kept still-live live-still rest.tree);
        apart = λ x y live other same. is.apart x y (live-still x live).0 (live-still y other).0 (sym (number-kept x) ∙ same ∙ number-kept y);
      }

  columns_by : (after : List ℕ) → AreTrees slices columns buckets after left_entries → (other : ℕ) →
      column_of (view slices columns after left_entries) other ≡ cond (eqb other id) None (column_of (view slices columns links entries) other)
  columns_by after kept =
      column_of-remove (view slices columns links entries) (view slices columns after left_entries) id at refl (map-set id_of entries at (unmarked (entry_at entries at)))
      (apart-view slices columns buckets links entries is) (apart-view slices columns buckets after left_entries kept)
      (subst (λ n. at < n) (sym (length-map entries id_of)) removed-in)
      (view-at entries at ∙ id_of-live (entry_at entries at) removed-live ∙ ap Some (found-number slices columns buckets links entries is id link small place some))

  -- what a removal leaves: a table, in which the number has no column
  pub record IsLeft (after : List ℕ) (later : List Entry) : Type 0 where
    pub kept : AreTrees slices columns buckets after later
    pub columns_are : (other : ℕ) → column_of (view slices columns after later) other ≡ cond (eqb other id) None (column_of (view slices columns links entries) other)

  pub left-alone : low ≡ link → IsLeft left_links left_entries
  left-alone same = let kept = kept_by left_links (rest-alone same) in record { kept = kept; columns_are = columns_by left_links kept }

  pub left-put : (after : List ℕ) → (low ≡ link → ⊥) → length after ≡ length left_links → IsInPlace buckets (link_at left_links) (link_at after) link at leaf → IsLeft after left_entries
  left-put after other long put =
      let kept = kept_by after (rest-put after other long put) in record { kept = kept; columns_are = columns_by after kept }
