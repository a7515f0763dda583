-- What the lists of columns become where one is kept for a pass, where a pass's find ends, and where the first is taken off.
use Rattle.std.proofs.Common.{◌≡◌, ◌≢◌, ◌⊎◌, ⊎_elim, inl, inr, ℕ, ◌+◌, ◌*◌, ◌<◌, ◌≤◌, Bool, cond, List, [], ◌∷◌, ◌++◌, length, get_or, set, map, replicate, refl, sym, ap, ◌∙◌, subst, arith}
use Rattle.std.specs.Prelude.{◌==◌, ◌↔◌, sum_by}
use Rattle.std.proofs.lemmas.Bool.{cases_eq, cases_lt}
use Rattle.std.proofs.lemmas.Bool.Decides.{eqb_tells}
use Rattle.std.proofs.lemmas.List.{ext_get_or, get_or-map, get_or-replicate, get_or-set_other, get_or-set_same, get_or_past, length-map, length-replicate, length-set, set-get_or}
use Rattle.std.proofs.lemmas.List.Folds.{sum_by-replicate}
use Rattle.std.proofs.lemmas.List.Sums.{get_or-le-sum_by, sum_by-set}
use Rattle.document_store.specs.Leaving.{AreLinked, IsLastOf, IsListFrom, LeavingState, TakesFirst, kept_for, last_link, last_with, leaving_by, link_of, list_from, no_link, times_in, times_on, with_ended, with_kept}
use Rattle.document_store.proofs.LinkLemmas.{first-link, list-append, list-begins, list-below, list-empty, list-read, list-set, list-short, one_or_none, times-append, times-cons, times-first}

module _ (links first last : List ℕ) (free : ℕ) (leaving : LeavingState) (are : AreLinked links first last free leaving) where
  short_links : length links ≤ last_link
  short_links = let h = are.few in omega (arith, h)

  pass_within : (pass : ℕ) → pass < length first → pass < length leaving.asked
  pass_within pass in' = let h = are.passes_are in omega (arith, h, in')

  -- a column is on a pass's list no more often than on all
  pub times-pass : (pass c : ℕ) → pass < length first → times_in c (kept_for leaving pass) ≤ times_on leaving c
  times-pass pass c in' = let h = get_or-le-sum_by (times_in c) leaving.asked pass [] (pass_within pass in') in omega (arith, h)

  pub once-pass : (pass : ℕ) → pass < length first → (c : ℕ) → times_in c (kept_for leaving pass) ≤ 1
  once-pass pass in' c = let h = times-pass pass c in' in let k = are.once c in omega (arith, h, k)

  pub once-free : (c : ℕ) → times_in c leaving.to_free ≤ 1
  once-free c = let k = are.once c in omega (arith, k)

  -- the lists are those that the links lay out
  pub leaving-read : leaving_by links first free ≡ leaving
  leaving-read =
      let asked : map (λ from. list_from links from (length links)) first ≡ leaving.asked =
      ext_get_or [] (map (λ from. list_from links from (length links)) first) leaving.asked (length-map first (λ from. list_from links from (length links)) ∙ sym are.passes_are)
      (λ pass in''.
      let in' : pass < length first = let h = length-map first (λ from. list_from links from (length links)) in omega (arith, h, in'') in
      get_or-map (λ from. list_from links from (length links)) first pass last_link [] in'
      ∙ list-read links (kept_for leaving pass) (length links) (get_or first pass last_link) short_links (list-short links (get_or first pass last_link) (kept_for leaving pass) (are.asked pass in') (once-pass pass in')) (are.asked pass in')) in
      let to_free : list_from links free (length links) ≡ leaving.to_free =
      list-read links leaving.to_free (length links) free short_links (list-short links free leaving.to_free are.to_free once-free) are.to_free in
      ap (λ (xs : List (List ℕ)). record { asked = xs; to_free = list_from links free (length links); columns = length links }) asked
      ∙ ap (λ (xs : List ℕ). record { asked = leaving.asked; to_free = xs; columns = length links }) to_free
      ∙ ap (λ n. record { asked = leaving.asked; to_free = leaving.to_free; columns = n }) (sym are.columns_are)

  -- one pass's list is another
  times-replaced : (pass c : ℕ) (xs : List ℕ) → pass < length first → sum_by (times_in c) (set leaving.asked pass xs) + times_in c (kept_for leaving pass) ≡ sum_by (times_in c) leaving.asked + times_in c xs
  times-replaced pass c xs in' = sum_by-set (times_in c) leaving.asked pass xs [] (pass_within pass in')

  kept-replaced : (pass : ℕ) (xs : List ℕ) → pass < length first → get_or (set leaving.asked pass xs) pass [] ≡ xs
  kept-replaced pass xs in' = get_or-set_same leaving.asked pass xs [] (pass_within pass in')

  kept-other : (pass other : ℕ) (xs : List ℕ) → other ≢ pass → get_or (set leaving.asked pass xs) other [] ≡ kept_for leaving other
  kept-other pass other xs apart = get_or-set_other leaving.asked pass other xs [] apart

  -- a column is kept for a pass
  module _ (pass c : ℕ) (in' : pass < length first) (below : c < length links) (none : times_on leaving c ≡ 0) (lasts : List ℕ)
      (now : ((get_or first pass last_link ≡ last_link) × (lasts ≡ set last pass c)) ⊎ ((get_or first pass last_link ≢ last_link) × (lasts ≡ last))) where
    abbrev from : ℕ
    from = get_or first pass last_link

    abbrev xs : List ℕ
    xs = kept_for leaving pass

    pub times-kept : (d : ℕ) → times_on (with_kept leaving pass c) d ≡ times_on leaving d + cond (d == c) 1 0
    times-kept d = let h = times-replaced pass d (c ∷ xs) in' in let k = times-cons d c xs in omega (arith, h, k)

    not_in : (other : ℕ) → other < length first → times_in c (kept_for leaving other) ≡ 0
    not_in other here = let h = times-pass other c here in omega (arith, h, none)

    not_free : times_in c leaving.to_free ≡ 0
    not_free = omega (arith, none)

    lasts_long : length lasts ≡ length first
    lasts_long = ⊎_elim (λ is. ap length is.1 ∙ length-set last pass c ∙ are.lasts_are) (λ is. ap length is.1 ∙ are.lasts_are) now

    asked-kept : (other : ℕ) → other < length (set first pass c) → IsListFrom (set links c from) (get_or (set first pass c) other last_link) (kept_for (with_kept leaving pass c) other)
    asked-kept other here' =
        let here : other < length first = omega (arith, here', length-set first pass c) in
        ⊎_elim
        (λ (same : other ≡ pass).
        let own : IsListFrom (set links c from) c (c ∷ xs) = (
          refl,
          omega (arith, below, length-set links c from),
          subst (λ n. IsListFrom (set links c from) n xs) (sym (get_or-set_same links c from last_link below)) (list-set links c from from xs (not_in pass in') (are.asked pass in')),
        ) in
        subst (λ n. IsListFrom (set links c from) (get_or (set first pass c) n last_link) (kept_for (with_kept leaving pass c) n)) (sym same)
        (subst (λ n. IsListFrom (set links c from) n (kept_for (with_kept leaving pass c) pass)) (sym (get_or-set_same first pass c last_link in'))
        (subst (IsListFrom (set links c from) c) (sym (kept-replaced pass (c ∷ xs) in')) own)))
        (λ (apart : other ≢ pass).
        subst (λ n. IsListFrom (set links c from) n (kept_for (with_kept leaving pass c) other)) (sym (get_or-set_other first pass other c last_link apart))
        (subst (IsListFrom (set links c from) (get_or first other last_link)) (sym (kept-other pass other (c ∷ xs) apart))
        (list-set links c from (get_or first other last_link) (kept_for leaving other) (not_in other here) (are.asked other here))))
        (cases_eq other pass)

    own_last : IsLastOf (c ∷ xs) (get_or lasts pass last_link)
    own_last =
        ⊎_elim
        (λ (is : (from ≡ last_link) × (lasts ≡ set last pass c)).
        let empty = list-empty links from xs short_links (are.asked pass in') is.0 in
        let one : get_or lasts pass last_link ≡ c =
        ap (λ (ls : List ℕ). get_or ls pass last_link) is.1 ∙ get_or-set_same last pass c last_link (let h = are.lasts_are in omega (arith, h, in')) in
        inr ([], ap (λ (ys : List ℕ). c ∷ ys) empty ∙ ap (λ n. n ∷ []) (sym one)))
        (λ (is : (from ≢ last_link) × (lasts ≡ last)).
        let begins = list-begins links from xs (are.asked pass in') is.0 in
        ⊎_elim
        (λ (none_there : xs ≡ []). absurd (nothing_begins from begins.later (sym begins.is ∙ none_there)))
        (λ (more : (front : List ℕ) × (xs ≡ front ++ get_or last pass last_link ∷ [])).
        inr (c ∷ more.0, ap (λ (ys : List ℕ). c ∷ ys) more.1 ∙ ap (λ (ls : List ℕ). (c ∷ more.0) ++ get_or ls pass last_link ∷ []) (sym is.1)))
        (are.ends pass in'))
        now
      where
        nothing_begins : (x : ℕ) (ys : List ℕ) → x ∷ ys ≡ [] → ⊥
        nothing_begins x ys is = cc

    ends-kept : (other : ℕ) → other < length (set first pass c) → IsLastOf (kept_for (with_kept leaving pass c) other) (get_or lasts other last_link)
    ends-kept other here' =
        let here : other < length first = omega (arith, here', length-set first pass c) in
        ⊎_elim
        (λ (same : other ≡ pass).
        subst (λ n. IsLastOf (kept_for (with_kept leaving pass c) n) (get_or lasts n last_link)) (sym same)
        (subst (λ (ys : List ℕ). IsLastOf ys (get_or lasts pass last_link)) (sym (kept-replaced pass (c ∷ xs) in')) own_last))
        (λ (apart : other ≢ pass).
        let still : get_or lasts other last_link ≡ get_or last other last_link =
        ⊎_elim (λ is. ap (λ (ls : List ℕ). get_or ls other last_link) is.1 ∙ get_or-set_other last pass other c last_link apart) (λ is. ap (λ (ls : List ℕ). get_or ls other last_link) is.1) now in
        subst (λ (ys : List ℕ). IsLastOf ys (get_or lasts other last_link)) (sym (kept-other pass other (c ∷ xs) apart))
        (subst (IsLastOf (kept_for leaving other)) (sym still) (are.ends other here)))
        (cases_eq other pass)

    nowhere-kept : (d : ℕ) → d < length (set links c from) → (link_of (set links c from) d ≡ no_link) ↔ (times_on (with_kept leaving pass c) d ≡ 0)
    nowhere-kept d here' =
        let here : d < length links = omega (arith, here', length-set links c from) in
        ⊎_elim
        (λ one.
        let linked : link_of (set links c from) d ≡ from = ap (λ n. link_of (set links c from) n) one.0 ∙ get_or-set_same links c from last_link below in (
          λ is. absurd (first-link links from xs are.few (are.asked pass in') (sym linked ∙ is)),
          λ zero. absurd (omega (arith, one.1, times-kept d, zero)),
        ))
        (λ other.
        let same : link_of (set links c from) d ≡ link_of links d = get_or-set_other links c d from last_link other.0 in
        let times : times_on (with_kept leaving pass c) d ≡ times_on leaving d = omega (arith, other.1, times-kept d) in (
          λ is. times ∙ (are.nowhere d here).0 (sym same ∙ is),
          λ zero. same ∙ (are.nowhere d here).1 (sym times ∙ zero),
        ))
        (one_or_none d c)

    pub linked-kept : AreLinked (set links c from) (set first pass c) lasts free (with_kept leaving pass c)
    linked-kept = record {
      few = omega (arith, are.few, length-set links c from);
      columns_are = are.columns_are ∙ sym (length-set links c from);
      passes_are = length-set leaving.asked pass (c ∷ xs) ∙ are.passes_are ∙ sym (length-set first pass c);
      lasts_are = lasts_long ∙ sym (length-set first pass c);
      asked = asked-kept;
      ends = ends-kept;
      to_free = list-set links c from free leaving.to_free not_free are.to_free;
      once = λ d.
          ⊎_elim
          (λ one. let zero : times_on leaving d ≡ 0 = ap (times_on leaving) one.0 ∙ none in omega (arith, one.1, times-kept d, zero))
          (λ other. let h = are.once d in omega (arith, other.1, times-kept d, h)) (one_or_none d c);
      nowhere = nowhere-kept;
    }

  -- the find of a pass ends, for which no column is kept
  pub ended-none : (pass : ℕ) → pass < length first → get_or first pass last_link ≡ last_link → with_ended leaving pass ≡ leaving
  ended-none pass in' last =
      let empty = list-empty links (get_or first pass last_link) (kept_for leaving pass) short_links (are.asked pass in') last in
      ap (λ (xs : List ℕ). record leaving { asked = set leaving.asked pass []; to_free = xs ++ leaving.to_free }) empty
      ∙ ap (λ (xs : List ℕ). record leaving { asked = set leaving.asked pass xs }) (sym empty)
      ∙ ap (λ (xs : List (List ℕ)). record leaving { asked = xs }) (set-get_or leaving.asked pass [])

  -- or one for which some are
  module _ (pass : ℕ) (in' : pass < length first) (some : get_or first pass last_link ≢ last_link) where
    abbrev begin : ℕ
    begin = get_or first pass last_link

    abbrev ys : List ℕ
    ys = kept_for leaving pass

    abbrev end : ℕ
    end = get_or last pass last_link

    -- they end with the last of them
    ends_so : (front : List ℕ) × (ys ≡ front ++ end ∷ [])
    ends_so =
        let begins = list-begins links begin ys (are.asked pass in') some in
        ⊎_elim (λ (none_there : ys ≡ []). absurd (nothing_begins begin begins.later (sym begins.is ∙ none_there))) (λ more. more) (are.ends pass in')
      where
        nothing_begins : (x : ℕ) (zs : List ℕ) → x ∷ zs ≡ [] → ⊥
        nothing_begins x zs is = cc

    times_end : times_in end ys ≡ times_in end ends_so.0 + 1
    times_end = ap (times_in end) ends_so.1 ∙ times-append end ends_so.0 (end ∷ []) ∙ ap (λ n. times_in end ends_so.0 + n) (times-first end [])

    -- so the last is on no other place
    alone : (times_in end ends_so.0 ≡ 0) × (times_in end leaving.to_free ≡ 0) × (sum_by (times_in end) (set leaving.asked pass []) ≡ 0)
    alone =
        let h = times-replaced pass end [] in' in
        let k = are.once end in
        let t = times_end in
        (omega (arith, h, k, t), omega (arith, h, k, t), omega (arith, h, k, t))

    pub last-below : end < length links
    last-below = list-below links begin ys (are.asked pass in') end (let t = times_end in omega (arith, t))

    not_in_other : (other : ℕ) → other < length first → other ≢ pass → times_in end (kept_for leaving other) ≡ 0
    not_in_other other here apart =
        let h = get_or-le-sum_by (times_in end) (set leaving.asked pass []) other [] (let l = length-set leaving.asked pass [] in let p = are.passes_are in omega (arith, l, p, here)) in
        let zero = alone.2 in
        let same : times_in end (get_or (set leaving.asked pass []) other []) ≡ times_in end (kept_for leaving other) = ap (times_in end) (kept-other pass other [] apart) in
        omega (arith, h, zero, same)

    times-ended : (d : ℕ) → times_on (with_ended leaving pass) d ≡ times_on leaving d
    times-ended d = let h = times-replaced pass d [] in' in let k = times-append d ys leaving.to_free in omega (arith, h, k)

    asked-ended : (other : ℕ) → other < length (set first pass last_link) → IsListFrom (set links end free) (get_or (set first pass last_link) other last_link) (kept_for (with_ended leaving pass) other)
    asked-ended other here' =
        let here : other < length first = omega (arith, here', length-set first pass last_link) in
        ⊎_elim
        (λ (same : other ≡ pass).
        subst (λ n. IsListFrom (set links end free) (get_or (set first pass last_link) n last_link) (kept_for (with_ended leaving pass) n)) (sym same)
        (subst (IsListFrom (set links end free) (get_or (set first pass last_link) pass last_link)) (sym (kept-replaced pass [] in')) (get_or-set_same first pass last_link last_link in')))
        (λ (apart : other ≢ pass).
        subst (λ n. IsListFrom (set links end free) n (kept_for (with_ended leaving pass) other)) (sym (get_or-set_other first pass other last_link last_link apart))
        (subst (IsListFrom (set links end free) (get_or first other last_link)) (sym (kept-other pass other [] apart))
        (list-set links end free (get_or first other last_link) (kept_for leaving other) (not_in_other other here apart) (are.asked other here))))
        (cases_eq other pass)

    ends-ended : (other : ℕ) → other < length (set first pass last_link) → IsLastOf (kept_for (with_ended leaving pass) other) (get_or last other last_link)
    ends-ended other here' =
        let here : other < length first = omega (arith, here', length-set first pass last_link) in
        ⊎_elim
        (λ (same : other ≡ pass). inl (ap (kept_for (with_ended leaving pass)) same ∙ kept-replaced pass [] in'))
        (λ (apart : other ≢ pass). subst (λ (zs : List ℕ). IsLastOf zs (get_or last other last_link)) (sym (kept-other pass other [] apart)) (are.ends other here))
        (cases_eq other pass)

    freed : IsListFrom (set links end free) begin (ys ++ leaving.to_free)
    freed =
        let so = ends_so in
        subst (λ (zs : List ℕ). IsListFrom (set links end free) begin (zs ++ leaving.to_free)) (sym so.1)
        (list-append links end free begin so.0 leaving.to_free alone.0 alone.1 (subst (IsListFrom links begin) so.1 (are.asked pass in')) are.to_free)

    nowhere-ended : (d : ℕ) → d < length (set links end free) → (link_of (set links end free) d ≡ no_link) ↔ (times_on (with_ended leaving pass) d ≡ 0)
    nowhere-ended d here' =
        let here : d < length links = omega (arith, here', length-set links end free) in
        ⊎_elim
        (λ one.
        let linked : link_of (set links end free) d ≡ free = ap (λ n. link_of (set links end free) n) one.0 ∙ get_or-set_same links end free last_link last-below in
        let there : 1 ≤ times_on leaving d =
        subst (λ n. 1 ≤ times_on leaving n) (sym one.0) (let h = times-pass pass end in' in let t = times_end in omega (arith, h, t)) in (
          λ is. absurd (first-link links free leaving.to_free are.few are.to_free (sym linked ∙ is)),
          λ zero. absurd (omega (arith, there, times-ended d, zero)),
        ))
        (λ other.
        let same : link_of (set links end free) d ≡ link_of links d = get_or-set_other links end d free last_link other.0 in (
          λ is. times-ended d ∙ (are.nowhere d here).0 (sym same ∙ is),
          λ zero. same ∙ (are.nowhere d here).1 (sym (times-ended d) ∙ zero),
        ))
        (one_or_none d end)

    pub linked-ended : AreLinked (set links end free) (set first pass last_link) last begin (with_ended leaving pass)
    linked-ended = record {
      few = omega (arith, are.few, length-set links end free);
      columns_are = are.columns_are ∙ sym (length-set links end free);
      passes_are = length-set leaving.asked pass [] ∙ are.passes_are ∙ sym (length-set first pass last_link);
      lasts_are = are.lasts_are ∙ sym (length-set first pass last_link);
      asked = asked-ended;
      ends = ends-ended;
      to_free = freed;
      once = λ d. let h = are.once d in omega (arith, h, times-ended d);
      nowhere = nowhere-ended;
    }

  -- none is to be freed
  pub free-none : free ≡ last_link → leaving.to_free ≡ []
  free-none is = list-empty links free leaving.to_free short_links are.to_free is

  -- the first that is to be freed is taken off
  module _ (more : free ≢ last_link) where
    abbrev later : List ℕ
    later = (list-begins links free leaving.to_free are.to_free more).later

    pub first-is : leaving.to_free ≡ free ∷ later
    first-is = (list-begins links free leaving.to_free are.to_free more).is

    pub first-below : free < length links
    first-below = (list-begins links free leaving.to_free are.to_free more).below

    abbrev left : LeavingState
    left = record leaving { to_free = later }

    times-left : (d : ℕ) → times_on leaving d ≡ times_on left d + cond (d == free) 1 0
    times-left d = let h = ap (times_in d) first-is ∙ times-cons d free later in omega (arith, h)

    pub none-left : times_on left free ≡ 0
    none-left =
        let k = are.once free in
        ⊎_elim (λ one. omega (arith, one.1, times-left free, k)) (λ apart. absurd (apart.0 refl)) (one_or_none free free)

    nowhere-left : (d : ℕ) → d < length (set links free no_link) → (link_of (set links free no_link) d ≡ no_link) ↔ (times_on left d ≡ 0)
    nowhere-left d here' =
        let here : d < length links = omega (arith, here', length-set links free no_link) in
        ⊎_elim
        (λ one. (
          λ is. ap (times_on left) one.0 ∙ none-left,
          λ zero. ap (λ n. link_of (set links free no_link) n) one.0 ∙ get_or-set_same links free no_link last_link first-below,
        ))
        (λ other.
        let same : link_of (set links free no_link) d ≡ link_of links d = get_or-set_other links free d no_link last_link other.0 in
        let times : times_on leaving d ≡ times_on left d = omega (arith, other.1, times-left d) in (
          λ is. sym times ∙ (are.nowhere d here).0 (sym same ∙ is),
          λ zero. same ∙ (are.nowhere d here).1 (times ∙ zero),
        ))
        (one_or_none d free)

    pub linked-left : AreLinked (set links free no_link) first last (link_of links free) left
    linked-left = record {
      few = omega (arith, are.few, length-set links free no_link);
      columns_are = are.columns_are ∙ sym (length-set links free no_link);
      passes_are = are.passes_are;
      lasts_are = are.lasts_are;
      asked = λ pass here.
          list-set links free no_link (get_or first pass last_link) (kept_for leaving pass)
          (let h = get_or-le-sum_by (times_in free) leaving.asked pass [] (pass_within pass here) in let k = none-left in omega (arith, h, k)) (are.asked pass here);
      ends = are.ends;
      to_free = list-set links free no_link (link_of links free) later (let k = none-left in omega (arith, k)) (list-begins links free leaving.to_free are.to_free more).rest;
      once = λ d. let h = are.once d in let k = times-left d in omega (arith, h, k);
      nowhere = nowhere-left;
    }

-- where no column is on a list, these are the lists
abbrev pub leaving_none : (passes columns : ℕ) → LeavingState
leaving_none passes columns = record { asked = replicate passes []; to_free = []; columns = columns }

-- no list of theirs has a column
pub kept-none : (passes columns pass : ℕ) → kept_for (leaving_none passes columns) pass ≡ []
kept-none passes columns pass =
    ⊎_elim (λ (below : pass < passes). get_or-replicate passes pass [] [] below)
    (λ (past : passes ≤ pass). get_or_past (replicate passes []) pass [] (let h = length-replicate {A = List ℕ} passes [] in omega (arith, h, past)))
    (cases_lt pass passes)

pub times-on-none : (passes columns c : ℕ) → times_on (leaving_none passes columns) c ≡ 0
times-on-none passes columns c = let h = sum_by-replicate (times_in c) passes [] in let k = mul_zero passes in omega (arith, h, k) where
  mul_zero : (n : ℕ) → n * 0 ≡ 0
  mul_zero n = omega arith

-- links of columns that are on no list lay them out
pub linked-none : (passes columns : ℕ) → columns ≤ no_link →
    AreLinked (replicate columns no_link) (replicate passes last_link) (replicate passes last_link) last_link (leaving_none passes columns)
linked-none passes columns few = record {
  few = let h = length-replicate columns no_link in omega (arith, h, few);
  columns_are = sym (length-replicate columns no_link);
  passes_are = length-replicate {A = List ℕ} passes [] ∙ sym (length-replicate passes last_link);
  lasts_are = refl;
  asked = λ pass below'.
      let below : pass < passes = let h = length-replicate passes last_link in omega (arith, h, below') in
      subst (IsListFrom (replicate columns no_link) (get_or (replicate passes last_link) pass last_link)) (sym (kept-none passes columns pass))
      (get_or-replicate passes pass last_link last_link below);
  ends = λ pass below. inl (kept-none passes columns pass);
  to_free = refl;
  once = λ c. let h = times-on-none passes columns c in omega (arith, h);
  nowhere = λ c below'.
      let below : c < columns = let h = length-replicate columns no_link in omega (arith, h, below') in
      (λ is. times-on-none passes columns c, λ zero. get_or-replicate columns c no_link last_link below);
}

pub leaving-new : (passes columns : ℕ) → columns ≤ no_link →
    leaving_by (replicate columns no_link) (replicate passes last_link) last_link ≡ leaving_none passes columns
leaving-new passes columns few =
    leaving-read (replicate columns no_link) (replicate passes last_link) (replicate passes last_link) last_link (leaving_none passes columns) (linked-none passes columns few)

pub linked-new : (links first last : List ℕ) (passes columns : ℕ) → columns ≤ no_link → links ≡ replicate columns no_link → first ≡ replicate passes last_link → last ≡ replicate passes last_link →
    AreLinked links first last last_link (leaving_by links first last_link)
linked-new links first last passes columns few links_are first_are last_are =
    subst (λ xs. AreLinked xs first last last_link (leaving_by xs first last_link)) (sym links_are)
    (subst (λ xs. AreLinked (replicate columns no_link) xs last last_link (leaving_by (replicate columns no_link) xs last_link)) (sym first_are)
    (subst (λ xs. AreLinked (replicate columns no_link) (replicate passes last_link) xs last_link (leaving_by (replicate columns no_link) (replicate passes last_link) last_link)) (sym last_are)
    (subst (AreLinked (replicate columns no_link) (replicate passes last_link) (replicate passes last_link) last_link) (sym (leaving-new passes columns few)) (linked-none passes columns few))))

pub leaving-begun : (links first : List ℕ) (passes columns : ℕ) → columns ≤ no_link → links ≡ replicate columns no_link → first ≡ replicate passes last_link →
    leaving_by links first last_link ≡ leaving_none passes columns
leaving-begun links first passes columns few links_are first_are =
    ap (λ xs. leaving_by xs first last_link) links_are ∙ ap (λ xs. leaving_by (replicate columns no_link) xs last_link) first_are ∙ leaving-new passes columns few

-- the last columns are those that were, or the pass's is the new one
lasts : (first column : ℕ) (last : List ℕ) (pass : ℕ) (now : List ℕ) → now ≡ set last pass (last_with first column (get_or last pass last_link)) →
    ((first ≡ last_link) × (now ≡ set last pass column)) ⊎ ((first ≢ last_link) × (now ≡ last))
lasts first column last pass now is =
    ⊎_elim
    (λ same. inl (same.1, is ∙ ap (λ (b : Bool). set last pass (cond b column (get_or last pass last_link))) same.0))
    (λ apart. inr (apart.1, is ∙ ap (λ (b : Bool). set last pass (cond b column (get_or last pass last_link))) apart.0 ∙ set-get_or last pass last_link))
    (eqb_tells first last_link)

module _ (links first last : List ℕ) (free : ℕ) (are : AreLinked links first last free (leaving_by links first free)) where
  abbrev were : LeavingState
  were = leaving_by links first free

  -- a pass that the lists are told to have has a first and a last column
  pub pass-first : (told : LeavingState) (pass : ℕ) → were ≡ told → pass < length told.asked → pass < length first
  pass-first told pass is in' = let long : length were.asked ≡ length told.asked = ap (λ (l : LeavingState). length l.asked) is in let h = are.passes_are in omega (arith, h, long, in')

  pub lasts-long : (pass : ℕ) → pass < length first → pass < length last
  lasts-long pass in' = let h = are.lasts_are in omega (arith, h, in')

  -- a column is kept for a pass
  module _ (pass c : ℕ) (in' : pass < length first) (below : c < length links) (none : times_on were c ≡ 0) (now : ℕ) (is : now ≡ last_with (get_or first pass last_link) c (get_or last pass last_link)) where
    linked_now : AreLinked (set links c (get_or first pass last_link)) (set first pass c) (set last pass now) free (with_kept were pass c)
    linked_now =
        linked-kept links first last free were are pass c in' below none (set last pass now)
        (lasts (get_or first pass last_link) c last pass (set last pass now) (ap (λ n. set last pass n) is))

    pub kept-view : leaving_by (set links c (get_or first pass last_link)) (set first pass c) free ≡ with_kept were pass c
    kept-view = leaving-read (set links c (get_or first pass last_link)) (set first pass c) (set last pass now) free (with_kept were pass c) linked_now

    pub kept-linked : AreLinked (set links c (get_or first pass last_link)) (set first pass c) (set last pass now) free (leaving_by (set links c (get_or first pass last_link)) (set first pass c) free)
    kept-linked = subst (AreLinked (set links c (get_or first pass last_link)) (set first pass c) (set last pass now) free) (sym kept-view) linked_now

  -- the find of a pass ends, for which some are kept
  module _ (pass : ℕ) (in' : pass < length first) (some : get_or first pass last_link ≢ last_link) where
    abbrev from_last : List ℕ
    from_last = set links (get_or last pass last_link) free

    pub ended-view : leaving_by from_last (set first pass last_link) (get_or first pass last_link) ≡ with_ended were pass
    ended-view =
        leaving-read from_last (set first pass last_link) last (get_or first pass last_link) (with_ended were pass) (linked-ended links first last free were are pass in' some)

    pub ended-linked : AreLinked from_last (set first pass last_link) last (get_or first pass last_link) (leaving_by from_last (set first pass last_link) (get_or first pass last_link))
    ended-linked =
        subst (AreLinked from_last (set first pass last_link) last (get_or first pass last_link)) (sym ended-view) (linked-ended links first last free were are pass in' some)

    pub ended-below : get_or last pass last_link < length links
    ended-below = last-below links first last free were are pass in' some

  -- the first that is to be freed is taken off
  module _ (more : free ≢ last_link) where
    abbrev without_first : List ℕ
    without_first = set links free no_link

    pub left-view : leaving_by without_first first (link_of links free) ≡ left links first last free were are more
    left-view = leaving-read without_first first last (link_of links free) (left links first last free were are more) (linked-left links first last free were are more)

    pub left-linked : AreLinked without_first first last (link_of links free) (leaving_by without_first first (link_of links free))
    left-linked = subst (AreLinked without_first first last (link_of links free)) (sym left-view) (linked-left links first last free were are more)

    pub takes-first : TakesFirst were free (leaving_by without_first first (link_of links free))
    takes-first = subst (TakesFirst were free) (sym left-view) (record { was = first-is links first last free were are more; asked = refl; columns = refl })

    pub taken-off : times_on (leaving_by without_first first (link_of links free)) free ≡ 0
    taken-off = subst (λ (l : LeavingState). times_on l free ≡ 0) (sym left-view) (none-left links first last free were are more)
