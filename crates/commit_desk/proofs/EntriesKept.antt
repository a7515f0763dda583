-- The entries of treatments: what they are when one was taken out or one more is there, and when a slice is renewed.
use Rattle.std.proofs.Common.{◌≡◌, ⊎_elim, ◌⊎◌, inl, inr, ℕ, ◌+◌, ◌-◌, ◌<◌, ◌≤◌, ◌↔◌, zero, suc, true, List, [], ◌∷◌, ◌++◌, length, map, set, get_or, eqb, swap_remove, AllPairs, Contains, Option, Some, None, sym, refl, ap, ◌∙◌, subst, arith, IsPermutation, eqb-true}
use Rattle.std.proofs.lemmas.Bool.{cases_eq}
use Rattle.std.proofs.lemmas.Bool.Decides.{Decides-eqb, leb_tells}
use Rattle.std.proofs.lemmas.List.{get_or-set_same, get_or-set_other, get_or-take, get_or_default, length-append, length-map}
use Rattle.std.proofs.lemmas.List.Elements.{Contains-append_left, Contains-get_or, Contains-push, Contains-push_cases}
use Rattle.std.proofs.lemmas.List.Quantifiers.{all_pairs_push}
use Rattle.std.proofs.lemmas.List.Sorted.{Contains-permutation, IsPermutation-swap_remove, length_permutation}
use Rattle.std.proofs.lemmas.Map.Made.{IsDistinct-from_AllPairs}
use Rattle.std.proofs.lemmas.Map.Steps.{length-le_from_distinct_below}
use Rattle.std.proofs.lemmas.Map.Views.{Contains-from_any}
use Rattle.std.specs.List.{list_any}
use Rattle.funnel_model.proofs.AnswerLemmas.{AllPairs-map}
use Rattle.funnel_model.specs.declared.config.TheConstants.{MOST_SLICES}
use Rattle.funnel_model.specs.SliceSets.{IsEmpty}
use Rattle.row_layout.proofs.Lists.{Contains-from_map}
use Rattle.row_layout.specs.Layouts.{LayoutId}
use Rattle.commit_desk.specs.declared.find_layouts.FindLayout.{FindLayout}
use Rattle.commit_desk.specs.Layouts.{AreFirst, IsCurrentOf, IsEntryOf, LayoutsState}
use Rattle.commit_desk.specs.Treatments.{AreApart, AreEntries, AreTreatments, EndsEntry, EndsNoEntry, HasCurrent, IsBesideWhereUnused, IsRenewed, IsTakenOut, TakesCurrent}

-- what is kept, by its parts
abbrev pub state : List FindLayout → Option LayoutId → ℕ → LayoutsState
state treatments next tunings = record { treatments = treatments; next = next; tunings = tunings }

apart-sym : (one other : FindLayout) → AreApart one other → AreApart other one
apart-sym one other is = record { numbers = λ same. is.numbers (sym same); slices = λ slice in_other in_one. is.slices slice in_one in_other }

-- the entries in two places are apart
apart_at : (xs : List FindLayout) → AllPairs AreApart xs → (i j : ℕ) (d : FindLayout) → i < length xs → j < length xs → (i ≡ j → ⊥) → AreApart (get_or xs i d) (get_or xs j d)
apart_at xs pairs i j d i_in j_in differ =
    ⊎_elim (λ below. pairs i j d below.1 j_in)
    (λ above. let more = above.1 in apart-sym (get_or xs j d) (get_or xs i d) (pairs j i d (omega (arith, more, differ)) i_in))
    (leb_tells (suc i) j)

-- two entries that are not apart are one
one_entry : (xs : List FindLayout) → AllPairs AreApart xs → (one other : FindLayout) → Contains xs one → Contains xs other → (AreApart one other → ⊥) → one ≡ other
one_entry xs pairs one other (i, i_in, i_is) (j, j_in, j_is) together =
    let at : get_or xs j one ≡ other = get_or_default xs j one other j_in ∙ j_is in
    ⊎_elim
    (λ (same : i ≡ j). sym i_is ∙ ap (λ k. get_or xs k one) same ∙ at)
    (λ (differ : i ≡ j → ⊥). absurd (together
    (subst (λ (e : FindLayout). AreApart e other) i_is (subst (AreApart (get_or xs i one)) at (apart_at xs pairs i j one i_in j_in differ)))))
    (cases_eq i j)

-- where an entry stood that is left when another was taken out: in its place, or at the end
record CameFrom (xs rest : List FindLayout) (place k : ℕ) (d : FindLayout) : Type 0 where
  pub from : ℕ
  pub in_range : from < length xs
  pub other : from ≡ place → ⊥
  pub is : get_or rest k d ≡ get_or xs from d
  pub moved : k ≡ place → from ≡ length xs - 1
  pub stayed : (k ≡ place → ⊥) → from ≡ k

cons_cases : (x : FindLayout) (xs : List FindLayout) (y : FindLayout) (k : ℕ) → k < length (x ∷ xs) → get_or (x ∷ xs) k y ≡ y → (x ≡ y) ⊎ Contains xs y
cons_cases x xs y zero below is = inl is
cons_cases x xs y (suc k) below is = inr (k, omega (arith, below), is)

module _ (xs : List FindLayout) (place : ℕ) (entry : FindLayout) (in' : place < length xs) (at : entry ≡ get_or xs place entry) where
  abbrev rest : List FindLayout
  rest = swap_remove xs place entry

  perm : IsPermutation xs (entry ∷ rest)
  perm = IsPermutation-swap_remove xs place entry in' at

  size : length rest + 1 ≡ length xs
  size = let long = length_permutation xs (entry ∷ rest) perm in omega (arith, long)

  came_from : (k : ℕ) (d : FindLayout) → k < length rest → CameFrom xs rest place k d
  came_from k d below =
      let last = get_or xs (length xs - 1) entry in
      let end : length xs - 1 < length xs = omega (arith, in') in
      let small : k < length xs - 1 = omega (arith, below, size) in
      ⊎_elim
      (λ (same : k ≡ place). record {
        from = length xs - 1;
        in_range = end;
        other = λ e. omega (arith, e, same, small);
        is = get_or-take (length xs - 1) (set xs place last) k d small ∙ ap (λ n. get_or (set xs place last) n d) same ∙ get_or-set_same xs place last d in'
            ∙ get_or_default xs (length xs - 1) entry d end;
        moved = λ s. refl;
        stayed = λ apart. absurd (apart same);
      })
      (λ (apart : k ≡ place → ⊥). record {
        from = k;
        in_range = omega (arith, small);
        other = apart;
        is = get_or-take (length xs - 1) (set xs place last) k d small ∙ get_or-set_other xs place k last d apart;
        moved = λ same. absurd (apart same);
        stayed = λ s. refl;
      })
      (cases_eq k place)

  differ_at : (i j : ℕ) (d : FindLayout) (a : CameFrom xs rest place i d) (b : CameFrom xs rest place j d) → i < j → j < length rest → a.from ≡ b.from → ⊥
  differ_at i j d a b less within same =
      ⊎_elim
      (λ (moved : i ≡ place).
      let x = a.moved moved in
      let y = b.stayed (λ (j_is : j ≡ place). omega (arith, j_is, moved, less)) in
      omega (arith, x, y, same, within, size))
      (λ (stayed : i ≡ place → ⊥).
      let x = a.stayed stayed in
      ⊎_elim
      (λ (j_moved : j ≡ place). let y = b.moved j_moved in omega (arith, x, y, same, less, within, size))
      (λ (j_stayed : j ≡ place → ⊥). let y = b.stayed j_stayed in omega (arith, x, y, same, less))
      (cases_eq j place))
      (cases_eq i place)

  rest_apart : AllPairs AreApart xs → AllPairs AreApart rest
  rest_apart pairs i j d less within =
      let a = came_from i d (omega (arith, less, within)) in
      let b = came_from j d within in
      subst (λ (e : FindLayout). AreApart e (get_or rest j d)) (sym a.is)
      (subst (AreApart (get_or xs a.from d)) (sym b.is) (apart_at xs pairs a.from b.from d a.in_range b.in_range (differ_at i j d a b less within)))

  rest_within : (other : FindLayout) → Contains rest other → Contains xs other
  rest_within other (k, below, is) =
      let c = came_from k other below in subst (Contains xs) (sym c.is ∙ is) (Contains-get_or xs c.from other c.in_range)

  rest_away : AllPairs AreApart xs → (other : FindLayout) → Contains rest other → AreApart other entry
  rest_away pairs other (k, below, is) =
      let c = came_from k other below in
      subst (λ (e : FindLayout). AreApart e entry) (sym c.is ∙ is)
      (subst (AreApart (get_or xs c.from other)) (get_or_default xs place other entry in' ∙ sym at) (apart_at xs pairs c.from place other c.in_range in' c.other))

-- an entry was taken out: the others are left
pub record IsOut (before : List FindLayout) (entry : FindLayout) (after : List FindLayout) : Type 0 where
  pub was : Contains before entry
  pub within : (other : FindLayout) → Contains after other → Contains before other
  pub others : (other : FindLayout) → Contains before other → (entry ≡ other) ⊎ Contains after other
  pub apart : AllPairs AreApart before → AllPairs AreApart after
  pub away : AllPairs AreApart before → (other : FindLayout) → Contains after other → AreApart other entry

is_out : (before : List FindLayout) (entry : FindLayout) (after : List FindLayout) → IsTakenOut before entry after → IsOut before entry after
is_out before entry after out =
    let left = rest before out.place entry out.in_range out.is in
    subst (IsOut before entry) (sym out.after_are) (record {
      was = (out.place, out.in_range, sym out.is);
      within = rest_within before out.place entry out.in_range out.is;
      others = λ other in'.
          let there = Contains-permutation before (entry ∷ left) other (perm before out.place entry out.in_range out.is) in' in
          cons_cases entry left other there.0 there.1 there.2;
      apart = rest_apart before out.place entry out.in_range out.is;
      away = rest_away before out.place entry out.in_range out.is;
    })

-- the entries that are left
entries-out : (room tunings : ℕ) (before : List FindLayout) (entry : FindLayout) (after : List FindLayout) → AreEntries room tunings before → IsOut before entry after →
    AreEntries room tunings after
entries-out room tunings before entry after is out = record {
  some = λ other in'. is.some other (out.within other in');
  within = λ other in'. is.within other (out.within other in');
  few = λ other in'. is.few other (out.within other in');
  upto = λ other in'. is.upto other (out.within other in');
  apart = out.apart is.apart;
}

-- what holds of each entry and of one more
each-push : (P : FindLayout → Type 0) (xs : List FindLayout) (x : FindLayout) → ((y : FindLayout) → Contains xs y → P y) → P x → (y : FindLayout) → Contains (xs ++ x ∷ []) y → P y
each-push P xs x all last y in' = ⊎_elim (λ before. all y before) (λ is_last. subst P is_last last) (Contains-push_cases xs x y in')

-- R holds of each two elements of a list with one more where it holds of each two before, and of each before with the last
pub pairs-push : {A : Type 0} (R : A → A → Type 0) (xs : List A) (x : A) → AllPairs R xs → ((y : A) → Contains xs y → R y x) → AllPairs R (xs ++ x ∷ [])
pairs-push R xs x pairs last = all_pairs_push R xs x pairs (λ k d below. last (get_or xs k d) (Contains-get_or xs k d below))

-- one more entry
entries-push : (room tunings : ℕ) (xs : List FindLayout) (x : FindLayout) → AreEntries room tunings xs → ((y : FindLayout) → Contains xs y → AreApart y x) →
    ((slice : ℕ) × Contains x.slices slice) → ((slice : ℕ) → Contains x.slices slice → slice < room) → ((slice : ℕ) → Contains x.slices slice → slice < MOST_SLICES) →
    x.number ≤ tunings → AreEntries room tunings (xs ++ x ∷ [])
entries-push room tunings xs x is apart some within few upto = record {
  some = each-push (λ (e : FindLayout). (slice : ℕ) × Contains e.slices slice) xs x is.some some;
  within = each-push (λ (e : FindLayout). (slice : ℕ) → Contains e.slices slice → slice < room) xs x is.within within;
  few = each-push (λ (e : FindLayout). (slice : ℕ) → Contains e.slices slice → slice < MOST_SLICES) xs x is.few few;
  upto = each-push (λ (e : FindLayout). e.number ≤ tunings) xs x is.upto upto;
  apart = pairs-push AreApart xs x is.apart apart;
}

-- the first slice of an entry
abbrev first : FindLayout → ℕ
first entry = get_or entry.slices 0 0

has_first : (entry : FindLayout) → ((slice : ℕ) × Contains entry.slices slice) → Contains entry.slices (first entry)
has_first entry some =
    let there = some.1 in
    let below = there.1 in
    Contains-get_or entry.slices 0 0 (omega (arith, below))

-- there is room for them, since each has a slice of its own
fits : (room tunings : ℕ) (xs : List FindLayout) → AreEntries room tunings xs → length xs ≤ room
fits room tunings xs is =
    let firsts = map first xs in
    let distinct : AllPairs (λ (a b : ℕ). a ≡ b → ⊥) firsts = AllPairs-map (λ (a b : ℕ). a ≡ b → ⊥) first xs first_differ in
    let below : (q : ℕ) → list_any (eqb q) firsts ≡ true → q < room = λ q found.
    let there = Contains-from_map first xs q (Contains-from_any eqb-true q firsts found) in
    subst (λ n. n < room) (sym there.2) (is.within there.0 there.1 (first there.0) (has_first there.0 (is.some there.0 there.1))) in
    subst (λ n. n ≤ room) (length-map xs first) (length-le_from_distinct_below firsts room (IsDistinct-from_AllPairs Decides-eqb firsts distinct) below) where
      first_differ : AllPairs (λ (a b : FindLayout). first a ≡ first b → ⊥) xs
      first_differ i j d less within same =
          let a = get_or xs i d in
          let b = get_or xs j d in
          let a_in = Contains-get_or xs i d (omega (arith, less, within)) in
          let b_in = Contains-get_or xs j d within in
          (is.apart i j d less within).slices (first a) (has_first a (is.some a a_in)) (subst (Contains b.slices) (sym same) (has_first b (is.some b b_in)))

-- the entry of the current treatment was taken out of the others, or is a new one without slices
pub record IsCurrentOut (room : ℕ) (kept : LayoutsState) (one : List FindLayout) (new : FindLayout) (two : List FindLayout) : Type 0 where
  pub number : new.number ≡ kept.tunings
  pub within : (other : FindLayout) → Contains two other → Contains one other
  pub others : (other : FindLayout) → Contains one other → (new ≡ other) ⊎ Contains two other
  pub away : (other : FindLayout) → Contains two other → AreApart other new
  pub among : (slice : ℕ) → Contains new.slices slice → Contains one new
  pub laid : IsCurrentOf kept new.layout
  pub entries : AreEntries room kept.tunings two

current_out : (room : ℕ) (treatments : List FindLayout) (next : Option LayoutId) (tunings : ℕ) → AreTreatments room (state treatments next tunings) →
    (old : FindLayout) (one : List FindLayout) → IsOut treatments old one → (new : FindLayout) (two : List FindLayout) → TakesCurrent one next tunings new two →
    IsCurrentOut room (state treatments next tunings) one new two
current_out room treatments None tunings is old one out new two takes =
    let left = is_out one new two takes.0 in
    let entries = entries-out room tunings treatments old one is.entries out in
    record {
      number = takes.1;
      within = left.within;
      others = left.others;
      away = left.away entries.apart;
      among = λ slice in'. left.was;
      laid = (new, out.within new left.was, takes.1, refl);
      entries = entries-out room tunings one new two entries left;
    }
current_out room treatments (Some layout) tunings is old one out new two takes =
    let founded = takes.1 in
    let entries = entries-out room tunings treatments old one is.entries out in
    let back : (other : FindLayout) → Contains two other → Contains one other = λ other. subst (λ (xs : List FindLayout). Contains xs other) takes.0 in
    record {
      number = founded.number_is;
      within = back;
      others = λ other in'. inr (subst (λ (xs : List FindLayout). Contains xs other) (sym takes.0) in');
      away = λ other in'. record {
        numbers = λ same. is.current other (out.within other (back other in')) (same ∙ founded.number_is);
        slices = λ slice had none. founded.none slice none;
      };
      among = λ slice none. absurd (founded.none slice none);
      laid = founded.layout_is;
      entries = subst (AreEntries room tunings) (sym takes.0) entries;
    }

-- the entry at the place of a slice's
pub entry_at : (kept seen : LayoutsState) → kept ≡ seen → (slice place : ℕ) → place < length seen.treatments → ((d : FindLayout) → Contains (get_or seen.treatments place d).slices slice) →
    (entry : FindLayout) → entry ≡ get_or kept.treatments place entry → IsEntryOf kept slice entry
entry_at kept seen same slice place below had entry is = record {
  among = (place, subst (λ (k : LayoutsState). place < length k.treatments) (sym same) below, sym is);
  has = subst (λ (e : FindLayout). Contains e.slices slice) (sym is)
      (subst (λ (k : LayoutsState). Contains (get_or k.treatments place entry).slices slice) (sym same) (had entry));
}

-- what was kept, and the entry that a slice left, which is not that of the current treatment
pub record IsLeft (kept : LayoutsState) (slice : ℕ) (old : FindLayout) (one : List FindLayout) : Type 0 where
  pub out : IsOut kept.treatments old one
  pub has : Contains old.slices slice
  pub older : old.number ≡ kept.tunings → ⊥

pub is_left : (kept seen : LayoutsState) → kept ≡ seen → (slice place : ℕ) → place < length seen.treatments → ((d : FindLayout) → Contains (get_or seen.treatments place d).slices slice) →
    (read : FindLayout) → read ≡ get_or kept.treatments place read → (read.number ≡ kept.tunings → ⊥) → (old : FindLayout) (one : List FindLayout) →
    old ≡ get_or kept.treatments place old → one ≡ swap_remove kept.treatments place old → IsLeft kept slice old one
is_left kept seen same slice place below had read at apart old one is after =
    let in' : place < length kept.treatments = subst (λ (k : LayoutsState). place < length k.treatments) (sym same) below in
    let read_is : old ≡ read = is ∙ get_or_default kept.treatments place old read in' ∙ sym at in
    record {
      out = is_out kept.treatments old one (record { place = place; in_range = in'; is = is; after_are = after });
      has = (entry_at kept seen same slice place below had old is).has;
      older = λ number. apart (ap (λ (e : FindLayout). e.number) (sym read_is) ∙ number);
    }

-- so the entry of the current treatment is among the others, where some slice has it
pub current_left : (treatments : List FindLayout) (next : Option LayoutId) (tunings slice : ℕ) (old : FindLayout) (one : List FindLayout) → HasCurrent treatments tunings next →
    IsLeft (state treatments next tunings) slice old one → next ≡ None → (entry : FindLayout) × Contains one entry × (entry.number ≡ tunings)
current_left treatments next tunings slice old one has left none =
    let found = subst (HasCurrent treatments tunings) none has in
    ⊎_elim
    (λ (same : old ≡ found.0). absurd (left.older (ap (λ (e : FindLayout). e.number) same ∙ found.2)))
    (λ (in_one : Contains one found.0). (found.0, in_one, found.2))
    (left.out.others found.0 found.1)

-- a slice leaves its entry, and comes into that of the current treatment
pub record IsMoved (room : ℕ) (kept : LayoutsState) (slice : ℕ) (old : FindLayout) (one : List FindLayout) (new : FindLayout) (two : List FindLayout) (more left : List ℕ) : Type 0 where
  pub is : AreTreatments room kept
  pub out : IsOut kept.treatments old one
  pub has : Contains old.slices slice
  pub older : old.number ≡ kept.tunings → ⊥
  pub current : IsCurrentOut room kept one new two
  pub more_are : (o : ℕ) → Contains more o ↔ ((o ≡ slice) ⊎ Contains new.slices o)
  pub left_are : (o : ℕ) → Contains left o ↔ ((o ≡ slice → ⊥) × Contains old.slices o)

pub is_moved : (room : ℕ) (treatments : List FindLayout) (next : Option LayoutId) (tunings slice : ℕ) (old : FindLayout) (one : List FindLayout) (new : FindLayout) (two : List FindLayout) (more left : List ℕ) →
    AreTreatments room (state treatments next tunings) → IsLeft (state treatments next tunings) slice old one → TakesCurrent one next tunings new two →
    ((o : ℕ) → Contains more o ↔ ((o ≡ slice) ⊎ Contains new.slices o)) → ((o : ℕ) → Contains left o ↔ ((o ≡ slice → ⊥) × Contains old.slices o)) →
    IsMoved room (state treatments next tunings) slice old one new two more left
is_moved room treatments next tunings slice old one new two more left is gone takes more_are left_are = record {
  is = is;
  out = gone.out;
  has = gone.has;
  older = gone.older;
  current = current_out room treatments next tunings is old one gone.out new two takes;
  more_are = more_are;
  left_are = left_are;
}

-- there is room for one more entry that fits
pub room_for : (room tunings : ℕ) (xs : List FindLayout) (x : FindLayout) → AreEntries room tunings (xs ++ x ∷ []) → length xs < room
room_for room tunings xs x is =
    let all = fits room tunings (xs ++ x ∷ []) is in
    let size = length-append xs (x ∷ []) in
    omega (arith, all, size)

module _ {room : ℕ} {kept : LayoutsState} {slice : ℕ} {old : FindLayout} {one : List FindLayout} {new : FindLayout} {two : List FindLayout} {more left : List ℕ}
    (m : IsMoved room kept slice old one new two more left) where
  abbrev pub joined : FindLayout
  joined = record new { slices = more }

  abbrev pub gone : FindLayout
  gone = record old { slices = left }

  abbrev pub with_joined : List FindLayout
  with_joined = two ++ joined ∷ []

  abbrev pub with_both : List FindLayout
  with_both = with_joined ++ gone ∷ []

  -- an entry that was not touched is apart from the one that the slice left
  away : (other : FindLayout) → Contains one other → AreApart other old
  away other in' = m.out.away m.is.entries.apart other in'

  -- the slices of the entry that the slice came into
  more_within : (P : ℕ → Type 0) → ((entry : FindLayout) → Contains kept.treatments entry → (o : ℕ) → Contains entry.slices o → P o) → (o : ℕ) → Contains more o → P o
  more_within P all o in' = ⊎_elim
      (λ (same : o ≡ slice). subst P (sym same) (all old m.out.was slice m.has))
      (λ (was : Contains new.slices o). all new (m.out.within new (m.current.among o was)) o was)
      ((m.more_are o).0 in')

  pub entries-joined : AreEntries room kept.tunings with_joined
  entries-joined = entries-push room kept.tunings two joined m.current.entries
      (λ other in'. record {
        numbers = (m.current.away other in').numbers;
        slices = λ o in_other in_joined. ⊎_elim
            (λ (same : o ≡ slice). (away other (m.current.within other in')).slices slice (subst (Contains other.slices) same in_other) m.has)
            (λ (was : Contains new.slices o). (m.current.away other in').slices o in_other was)
            ((m.more_are o).0 in_joined);
      })
      (slice, (m.more_are slice).1 (inl refl))
      (more_within (λ o. o < room) m.is.entries.within)
      (more_within (λ o. o < MOST_SLICES) m.is.entries.few)
      (let number = m.current.number in omega (arith, number))

  pub entries-both : ((o : ℕ) × Contains left o) → AreEntries room kept.tunings with_both
  entries-both some = entries-push room kept.tunings with_joined gone entries-joined
      (each-push (λ (e : FindLayout). AreApart e gone) two joined
      (λ other in'. record {
        numbers = (away other (m.current.within other in')).numbers;
        slices = λ o in_other in_gone. (away other (m.current.within other in')).slices o in_other ((m.left_are o).0 in_gone).1;
      })
      (record {
        numbers = λ same. m.older (sym same ∙ m.current.number);
        slices = λ o in_joined in_gone. ⊎_elim
            (λ (same : o ≡ slice). ((m.left_are o).0 in_gone).0 same)
            (λ (was : Contains new.slices o). (away new (m.current.among o was)).slices o was ((m.left_are o).0 in_gone).1)
            ((m.more_are o).0 in_joined);
      }))
      some
      (λ o in'. m.is.entries.within old m.out.was o ((m.left_are o).0 in').1)
      (λ o in'. m.is.entries.few old m.out.was o ((m.left_are o).0 in').1)
      (m.is.entries.upto old m.out.was)

  -- what is kept then, with these entries, under the names that a call has for them
  abbrev pub renewed : List FindLayout → LayoutsState
  renewed xs = state xs None kept.tunings

  pub treatments-then : {xs items : List FindLayout} {next : Option LayoutId} {room_now : ℕ} → room_now ≡ room → items ≡ xs → next ≡ None → AreEntries room kept.tunings xs →
      Contains xs joined → AreTreatments room_now (state items next kept.tunings)
  treatments-then {xs} {items} {next} {room_now} same items_are none entries in' =
      subst (λ n. AreTreatments n (state items next kept.tunings)) (sym same)
      (subst (λ (ys : List FindLayout). AreTreatments room (state ys next kept.tunings)) (sym items_are)
      (subst (λ (o : Option LayoutId). AreTreatments room (state xs o kept.tunings)) (sym none)
      (let is : AreTreatments room (renewed xs) = record { entries = entries; current = (joined, in', m.current.number) } in is)))

  pub renewed-then : {xs items : List FindLayout} {next : Option LayoutId} {seen : LayoutsState} → kept ≡ seen → items ≡ xs → next ≡ None → IsRenewed kept slice (renewed xs) →
      IsRenewed seen slice (state items next kept.tunings)
  renewed-then {xs} {items} {next} {seen} same items_are none is =
      subst (λ (k : LayoutsState). IsRenewed k slice (state items next kept.tunings)) same
      (subst (λ (ys : List FindLayout). IsRenewed kept slice (state ys next kept.tunings)) (sym items_are)
      (subst (λ (o : Option LayoutId). IsRenewed kept slice (state xs o kept.tunings)) (sym none) is))

  module _ (xs : List FindLayout) (cases : (e : FindLayout) → Contains xs e → Contains two e ⊎ ((joined ≡ e) ⊎ (gone ≡ e))) (stay : (e : FindLayout) → Contains two e → Contains xs e)
      (has_joined : Contains xs joined) (has_gone : (o : ℕ) → Contains left o → Contains xs gone) where
    -- the entry that has the slice is the one that it came into
    here : (e : FindLayout) → IsEntryOf (renewed xs) slice e → joined ≡ e
    here e in' = ⊎_elim
        (λ (in_two : Contains two e). absurd ((away e (m.current.within e in_two)).slices slice in'.has m.has))
        (λ (others : (joined ≡ e) ⊎ (gone ≡ e)). ⊎_elim (λ (same : joined ≡ e). same)
        (λ (is_gone : gone ≡ e). absurd (((m.left_are slice).0 (subst (λ (x : FindLayout). Contains x.slices slice) (sym is_gone) in'.has)).0 refl)) others)
        (cases e in'.among)

    -- and so is the one that has the number of the last tuning
    there : (e : FindLayout) → Contains xs e → e.number ≡ kept.tunings → joined ≡ e
    there e in' number = ⊎_elim
        (λ (in_two : Contains two e). absurd ((m.current.away e in_two).numbers (number ∙ sym m.current.number)))
        (λ (others : (joined ≡ e) ⊎ (gone ≡ e)). ⊎_elim (λ (same : joined ≡ e). same) (λ (is_gone : gone ≡ e). absurd (m.older (ap (λ (x : FindLayout). x.number) is_gone ∙ number))) others)
        (cases e in')

    entry_after : (o : ℕ) (e : FindLayout) → IsEntryOf kept o e → (entry : FindLayout) × IsEntryOf (renewed xs) o entry
    entry_after o e was = ⊎_elim
        (λ (same : o ≡ slice). (joined, record { among = has_joined; has = (m.more_are o).1 (inl same) }))
        (λ (apart : o ≡ slice → ⊥). ⊎_elim
        (λ (is_old : old ≡ e).
        let in_left = (m.left_are o).1 (apart, subst (λ (x : FindLayout). Contains x.slices o) (sym is_old) was.has) in
        (gone, record { among = has_gone o in_left; has = in_left }))
        (λ (in_one : Contains one e). ⊎_elim
        (λ (is_new : new ≡ e). (joined, record { among = has_joined; has = (m.more_are o).1 (inr (subst (λ (x : FindLayout). Contains x.slices o) (sym is_new) was.has)) }))
        (λ (in_two : Contains two e). (e, record { among = stay e in_two; has = was.has }))
        (m.current.others e in_one))
        (m.out.others e was.among))
        (cases_eq o slice)

    entry_before : (o : ℕ) → (o ≡ slice → ⊥) → (e : FindLayout) → IsEntryOf (renewed xs) o e →
        (before : FindLayout) × IsEntryOf kept o before × (e.number ≡ before.number) × (e.layout ≡ before.layout)
    entry_before o apart e in' = ⊎_elim
        (λ (in_two : Contains two e). (e, record { among = m.out.within e (m.current.within e in_two); has = in'.has }, refl, refl))
        (λ (others : (joined ≡ e) ⊎ (gone ≡ e)). ⊎_elim
        (λ (is_joined : joined ≡ e). ⊎_elim
        (λ (same : o ≡ slice). absurd (apart same))
        (λ (was : Contains new.slices o). (
          new,
          record { among = m.out.within new (m.current.among o was); has = was },
          ap (λ (x : FindLayout). x.number) (sym is_joined),
          ap (λ (x : FindLayout). x.layout) (sym is_joined),
        ))
        ((m.more_are o).0 (subst (λ (x : FindLayout). Contains x.slices o) (sym is_joined) in'.has)))
        (λ (is_gone : gone ≡ e). (
          old,
          record { among = m.out.was; has = ((m.left_are o).0 (subst (λ (x : FindLayout). Contains x.slices o) (sym is_gone) in'.has)).1 },
          ap (λ (x : FindLayout). x.number) (sym is_gone),
          ap (λ (x : FindLayout). x.layout) (sym is_gone),
        ))
        others)
        (cases e in'.among)

    is_renewed : IsRenewed kept slice (renewed xs)
    is_renewed = record {
      every = entry_after;
      number = λ e in'. ap (λ (x : FindLayout). x.number) (sym (here e in')) ∙ m.current.number;
      laid = λ e in'. subst (λ (x : FindLayout). IsCurrentOf kept x.layout) (here e in') m.current.laid;
      others = entry_before;
      current = λ layout found.
          subst (IsCurrentOf kept) (ap (λ (x : FindLayout). x.layout) (there found.0 found.1 found.2) ∙ sym found.3) m.current.laid;
      tunings_are = refl;
    }

  -- no other slice had the treatment that it left
  pub ends : IsEmpty left → EndsEntry kept slice old.layout
  ends none = record {
    entry = old;
    of_slice = record { among = m.out.was; has = m.has };
    older = m.older;
    alone = λ other same in' number.
        let is = one_entry kept.treatments m.is.entries.apart same old in'.among m.out.was (λ apart. apart.numbers number) in
        ⊎_elim
        (λ (is_slice : other ≡ slice). is_slice)
        (λ (differ : other ≡ slice → ⊥). absurd (none other ((m.left_are other).1 (differ, subst (λ (e : FindLayout). Contains e.slices other) is in'.has))))
        (cases_eq other slice);
    laid = refl;
  }

  -- some slice has it still
  pub ends_none : ((o : ℕ) × Contains left o) → EndsNoEntry kept slice
  ends_none some =
      let was = (m.left_are some.0).0 some.1 in record {
        entry = old;
        of_slice = record { among = m.out.was; has = m.has };
        still = inr (some.0, was.0, was.1);
      }

  -- no other slice was in the entry that it left
  pub renewed-joined : IsEmpty left → IsRenewed kept slice (renewed with_joined)
  renewed-joined none = is_renewed with_joined
      (λ e in'. ⊎_elim (λ in_two. inl in_two) (λ same. inr (inl same)) (Contains-push_cases two joined e in'))
      (λ e in'. Contains-append_left two (joined ∷ []) e in')
      (Contains-push two joined)
      (λ o in'. absurd (none o in'))

  -- some was
  pub renewed-both : IsRenewed kept slice (renewed with_both)
  renewed-both = is_renewed with_both
      (λ e in'. ⊎_elim
      (λ (in_joined : Contains with_joined e). ⊎_elim (λ in_two. inl in_two) (λ same. inr (inl same)) (Contains-push_cases two joined e in_joined))
      (λ is_gone. inr (inr is_gone))
      (Contains-push_cases with_joined gone e in'))
      (λ e in'. Contains-append_left with_joined (gone ∷ []) e (Contains-append_left two (joined ∷ []) e in'))
      (Contains-append_left with_joined (gone ∷ []) joined (Contains-push two joined))
      (λ o in'. Contains-push with_joined gone)

-- a slice that has the current treatment keeps it
pub renewed-same : (room : ℕ) (treatments : List FindLayout) (next : Option LayoutId) (tunings slice : ℕ) (entry : FindLayout) → AreTreatments room (state treatments next tunings) →
    Contains treatments entry → Contains entry.slices slice → entry.number ≡ tunings → IsRenewed (state treatments next tunings) slice (state treatments next tunings)
renewed-same room treatments None tunings slice entry is among has number =
    let same : (e : FindLayout) → IsEntryOf (state treatments None tunings) slice e → entry ≡ e =
    λ e in'. one_entry treatments is.entries.apart entry e among in'.among (λ apart. apart.slices slice has in'.has) in
    record {
      every = λ o e was. (e, was);
      number = λ e in'. ap (λ (x : FindLayout). x.number) (sym (same e in')) ∙ number;
      laid = λ e in'. (entry, among, number, ap (λ (x : FindLayout). x.layout) (sym (same e in')));
      others = λ o apart e in'. (e, in', refl, refl);
      current = λ layout found. found;
      tunings_are = refl;
    }
renewed-same room treatments (Some layout) tunings slice entry is among has number = absurd (is.current entry among number)

-- whether some slice has the current treatment
pub tells_current : (room : ℕ) (treatments : List FindLayout) (next : Option LayoutId) (tunings : ℕ) → AreTreatments room (state treatments next tunings) →
    IsBesideWhereUnused (state treatments next tunings) next
tells_current room treatments None tunings is =
    let entry = is.current in
    let some = is.entries.some entry.0 entry.1 in
    (some.0, entry.0, record { among = entry.1; has = some.1 }, entry.2)
tells_current room treatments (Some layout) tunings is = λ slice entry in' number. is.current entry in'.among number

-- after one more tuning no slice has the current treatment
pub treatments-tune : (room : ℕ) (treatments : List FindLayout) (next : Option LayoutId) (tunings : ℕ) (layout : LayoutId) → AreTreatments room (state treatments next tunings) →
    AreTreatments room (state treatments (Some layout) (tunings + 1))
treatments-tune room treatments next tunings layout is = record {
  entries = record {
    some = is.entries.some;
    within = is.entries.within;
    few = is.entries.few;
    upto = λ entry in'. let upto = is.entries.upto entry in' in omega (arith, upto);
    apart = is.entries.apart;
  };
  current = λ entry in' same. let upto = is.entries.upto entry in' in omega (arith, upto, same);
}

-- the only entry of a list
only : (entry other : FindLayout) → Contains (entry ∷ []) other → entry ≡ other
only entry other in' = ⊎_elim (λ same. same) (λ (none : Contains [] other). absurd (omega (arith, none.1))) (cons_cases entry [] other in'.0 in'.1 in'.2)

-- before any tuning all slices are in one entry
pub treatments-first : (room slices : ℕ) (items : List FindLayout) (entry : FindLayout) → items ≡ entry ∷ [] → slices ≤ room → 1 ≤ slices → slices ≤ MOST_SLICES → entry.number ≡ 0 →
    ((slice : ℕ) → Contains entry.slices slice ↔ (slice < slices)) → AreTreatments room (state items None 0)
treatments-first room slices items entry is fits_in some few number are =
    let within : (slice : ℕ) → Contains entry.slices slice → slice < slices = λ slice in'. (are slice).0 in' in
    subst (λ (xs : List FindLayout). AreTreatments room (state xs None 0)) (sym is) (record {
      entries = record {
        some = λ e in'. subst (λ (x : FindLayout). (slice : ℕ) × Contains x.slices slice) (only entry e in') (0, (are 0).1 some);
        within = λ e in' slice has.
            let below = within slice (subst (λ (x : FindLayout). Contains x.slices slice) (sym (only entry e in')) has) in omega (arith, below, fits_in);
        few = λ e in' slice has.
            let below = within slice (subst (λ (x : FindLayout). Contains x.slices slice) (sym (only entry e in')) has) in omega (arith, below, few);
        upto = λ e in'. let same = ap (λ (x : FindLayout). x.number) (only entry e in') in omega (arith, same, number);
        apart = λ i j d less below. absurd (omega (arith, less, below));
      };
      current = (entry, Contains-push [] entry, number);
    })

pub first-from : (slices : ℕ) (layout : LayoutId) (items : List FindLayout) (entry : FindLayout) → items ≡ entry ∷ [] → entry.number ≡ 0 → entry.layout ≡ layout →
    ((slice : ℕ) → Contains entry.slices slice ↔ (slice < slices)) → AreFirst slices layout (state items None 0)
first-from slices layout items entry is number laid are =
    subst (λ (xs : List FindLayout). AreFirst slices layout (state xs None 0)) (sym is) (record {
      every = λ slice below. (entry, record { among = Contains-push [] entry; has = (are slice).1 below });
      within = λ slice e in'. (are slice).0 (subst (λ (x : FindLayout). Contains x.slices slice) (sym (only entry e in'.among)) in'.has);
      number = λ e in'. ap (λ (x : FindLayout). x.number) (sym (only entry e in')) ∙ number;
      laid = λ e in'. ap (λ (x : FindLayout). x.layout) (sym (only entry e in')) ∙ laid;
      none_beside = refl;
      none_yet = refl;
    })
