-- Trees of entries: where the ways of numbers lead, and what a change of links makes of them.
use Rattle.std.proofs.Common.{◌≡◌, ℕ, zero, suc, ◌+◌, ◌-◌, ◌<◌, ◌≤◌, ◌^◌, ◌⊎◌, cond, eqb, refl, sym, ap, ◌∙◌, subst, inl, inr, ⊎_elim, arith}
use Rattle.std.specs.Int.{bit_at}
use Rattle.std.proofs.lemmas.Bool.{cases_eq, cond-true, cond-false, eq-eqb, ne_eqb, cases_lt}
use Rattle.std.proofs.lemmas.Nat.{and_le_r}
use Rattle.std.proofs.lemmas.Nat.Bits.{bit_at-lt, same_from_bits_below}
use Rattle.document_store.specs.Trees.{IsInPlace, IsLinkOf, IsTree, IsUnder, bucket_of, link_under, mixed_number, none, way}

-- a bucket is one of so many
pub bucket-below : (buckets id : ℕ) → 0 < buckets → bucket_of buckets id < buckets
unfolding bucket_of
bucket-below buckets id some = let least = and_le_r (mixed_number id) (buckets - 1) in omega (arith, least)

-- the link under an entry is that of no bucket, and of no other entry or bit
pub under-same : (buckets p b q c : ℕ) → b < 2 → c < 2 → link_under buckets p b ≡ link_under buckets q c → (p ≡ q) × (b ≡ c)
under-same buckets p b q c first second same =
    let entry : p ≡ q = omega (arith, first, second, same) in
    (entry, omega (arith, entry, same))

-- one of the two links under an entry, or none of them
pub links-of : (buckets x link : ℕ) → IsLinkOf buckets x link ⊎ ((link ≡ link_under buckets x 0 → ⊥) × (link ≡ link_under buckets x 1 → ⊥))
links-of buckets x link =
    ⊎_elim
    (λ (low : link ≡ link_under buckets x 0). inl (0, omega arith, low))
    (λ (not_low : link ≡ link_under buckets x 0 → ⊥).
    ⊎_elim
    (λ (high : link ≡ link_under buckets x 1). inl (1, omega arith, high))
    (λ (not_high : link ≡ link_under buckets x 1 → ⊥). inr (not_low, not_high))
    (cases_eq link (link_under buckets x 1)))
    (cases_eq link (link_under buckets x 0))

-- one more step down
pub under-next : (behind : ℕ → ℕ) (buckets count first steps above link : ℕ) → IsUnder behind buckets count first steps above →
    IsLinkOf buckets (behind above) link → behind link < count → IsUnder behind buckets count first (steps + 1) link
under-next behind buckets count first steps above link under of entry =
    subst (λ n. IsUnder behind buckets count first n link) (let same : suc steps ≡ steps + 1 = omega arith in same) (above, under, of, entry)

-- links that are as before on a way keep it
pub way-kept : (behind after : ℕ → ℕ) (buckets id k : ℕ) →
    ((d : ℕ) → d < k → after (way behind buckets id d) ≡ behind (way behind buckets id d)) → way after buckets id k ≡ way behind buckets id k
way-kept behind after buckets id zero same = refl
way-kept behind after buckets id (suc k) same =
    ap (λ link. link_under buckets (after link) (bit_at id k)) (way-kept behind after buckets id k (λ d less. same d (omega (arith, less))))
    ∙ ap (λ x. link_under buckets x (bit_at id k)) (same k (omega arith))

module _ (buckets count : ℕ) (behind number depth : ℕ → ℕ) (IsIn : ℕ → Type 0) (some : 0 < buckets) (is : IsTree buckets count behind number depth IsIn) where
  -- the link before one that leads to an entry leads to one
  pub entry-before : (n k : ℕ) → behind (way behind buckets n (suc k)) < count → behind (way behind buckets n k) < count
  entry-before n k entry =
      ⊎_elim
      (λ (less : behind (way behind buckets n k) < count). less)
      (λ (out : count ≤ behind (way behind buckets n k)). let past = is.past (behind (way behind buckets n k)) (bit_at n k) out in absurd (omega (arith, past, entry)))
      (cases_lt (behind (way behind buckets n k)) count)

  -- where a way has come to an end, it leads to no entry further on
  pub past-end : (n k j : ℕ) → count ≤ behind (way behind buckets n k) → count ≤ behind (way behind buckets n (j + k))
  past-end n k zero out = subst (λ m. count ≤ behind (way behind buckets n m)) (let same : k ≡ 0 + k = omega arith in same) out
  past-end n k (suc j) out =
      subst (λ m. count ≤ behind (way behind buckets n m)) (let same : suc (j + k) ≡ suc j + k = omega arith in same)
      (is.past (behind (way behind buckets n (j + k))) (bit_at n (j + k)) (past-end n k j out))

  pub end-before : (n k d : ℕ) → k ≤ d → count ≤ behind (way behind buckets n k) → count ≤ behind (way behind buckets n d)
  end-before n k d most out = subst (λ m. count ≤ behind (way behind buckets n m)) (let same : (d - k) + k ≡ d = omega (arith, most) in same) (past-end n k (d - k) out)

  -- two ways that meet at an entry came there side by side
  pub way-same : (k j n m : ℕ) → behind (way behind buckets n k) < count → way behind buckets n k ≡ way behind buckets m j →
      (k ≡ j) × ((d : ℕ) → d < k → (bit_at n d ≡ bit_at m d) × (way behind buckets n d ≡ way behind buckets m d))
  way-same zero zero n m entry same = (refl, λ d less. absurd (omega (arith, less)))
  way-same zero (suc j) n m entry same = let below = bucket-below buckets n some in absurd (omega (arith, below, same))
  way-same (suc k) zero n m entry same = let below = bucket-below buckets m some in absurd (omega (arith, below, same))
  way-same (suc k) (suc j) n m entry same =
      let p = behind (way behind buckets n k) in
      let q = behind (way behind buckets m j) in
      let are = under-same buckets p (bit_at n k) q (bit_at m j) (bit_at-lt n k) (bit_at-lt m j) same in
      let within : p < count = entry-before n k entry in
      let first = (is.linked (way behind buckets n k) within).1 in
      let second = (is.linked (way behind buckets m j) (subst (λ x. x < count) are.0 within)).1 in
      let meet : way behind buckets n k ≡ way behind buckets m j = sym first ∙ ap (λ x. way behind buckets (number x) (depth x)) are.0 ∙ second in
      let rest = way-same k j n m within meet in
      let back : j ≡ k = sym rest.0 in (
        ap suc rest.0,
        λ d less. ⊎_elim
            (λ (last : d ≡ k).
            subst (λ i. (bit_at n i ≡ bit_at m i) × (way behind buckets n i ≡ way behind buckets m i)) (sym last)
            (are.1 ∙ ap (bit_at m) back, meet ∙ ap (way behind buckets m) back))
            (λ (other : d ≡ k → ⊥). rest.1 d (omega (arith, less, other))) (cases_eq d k),
      )

  -- an entry on a way stands at its depth, and its number has the way's bits before it
  pub depth-on : (n k : ℕ) → behind (way behind buckets n k) < count →
      (depth (behind (way behind buckets n k)) ≡ k) × ((d : ℕ) → d < k → bit_at (number (behind (way behind buckets n k))) d ≡ bit_at n d)
  depth-on n k entry =
      let x = behind (way behind buckets n k) in
      let its = (is.linked (way behind buckets n k) entry).1 in
      let same = way-same (depth x) k (number x) n (subst (λ l. behind l < count) (sym its) entry) its in
      (same.0, λ d less. (same.1 d (subst (λ m. d < m) (sym same.0) less)).0)

  pub depth-below : (n k : ℕ) → behind (way behind buckets n k) < count → k ≤ 64
  depth-below n k entry = subst (λ d. d ≤ 64) (depth-on n k entry).0 (is.shallow (behind (way behind buckets n k)) (is.linked (way behind buckets n k) entry).0)

  -- an entry at depth 64 has the number
  pub number-lowest : (n : ℕ) → n < 2 ^ 64 → ((x : ℕ) → number x < 2 ^ 64) → behind (way behind buckets n 64) < count → number (behind (way behind buckets n 64)) ≡ n
  number-lowest n small numbers entry =
      same_from_bits_below 64 (number (behind (way behind buckets n 64))) n (numbers (behind (way behind buckets n 64))) small (depth-on n 64 entry).1

  -- the link that leads to an entry is that of its number's way
  pub link-is : (link x : ℕ) → IsIn x → behind link ≡ x → way behind buckets (number x) (depth x) ≡ link
  link-is link x live here =
      subst (λ y. way behind buckets (number y) (depth y) ≡ link) here (is.linked link (subst (λ y. y < count) (sym here) (is.within x live))).1

  -- the entry behind a link under another one is deeper by one
  pub under-deeper : (p b : ℕ) → b < 2 → behind (link_under buckets p b) < count →
      (IsIn p) × (depth (behind (link_under buckets p b)) ≡ suc (depth p)) × (way behind buckets (number (behind (link_under buckets p b))) (depth p) ≡ way behind buckets (number p) (depth p))
  under-deeper p b bit entry =
      let y = behind (link_under buckets p b) in
      by (depth y) (is.linked (link_under buckets p b) entry).1 where
        by : (k : ℕ) → way behind buckets (number (behind (link_under buckets p b))) k ≡ link_under buckets p b →
            (IsIn p) × (k ≡ suc (depth p)) × (way behind buckets (number (behind (link_under buckets p b))) (depth p) ≡ way behind buckets (number p) (depth p))
        by zero same = let below = bucket-below buckets (number (behind (link_under buckets p b))) some in absurd (omega (arith, below, same))
        by (suc k) same =
            let n = number (behind (link_under buckets p b)) in
            let here = (under-same buckets (behind (way behind buckets n k)) (bit_at n k) p b (bit_at-lt n k) bit same).0 in
            let up = entry-before n k (subst (λ l. behind l < count) (sym same) entry) in
            let its = is.linked (way behind buckets n k) up in
            let at = (depth-on n k up).0 in
            let is_k : k ≡ depth p = sym at ∙ ap depth here in (
              subst IsIn here its.0,
              ap suc is_k,
              ap (way behind buckets n) (sym is_k) ∙ sym its.1 ∙ ap (λ x. way behind buckets (number x) (depth x)) here,
            )

  -- an entry isn't behind a link under itself
  pub not-under : (x b : ℕ) → IsIn x → b < 2 → behind (link_under buckets x b) ≡ x → ⊥
  not-under x b live bit here =
      let deeper = (under-deeper x b bit (subst (λ y. y < count) (sym here) (is.within x live))).1 in
      let deep = deeper in
      let same = ap depth here in
      omega (arith, deep, same)

  -- so many steps down
  pub under-deep : (first x : ℕ) → IsIn x → behind first ≡ x → (steps link : ℕ) → IsUnder behind buckets count first steps link →
      (behind link < count) × (depth (behind link) ≡ steps + depth x) × (way behind buckets (number (behind link)) (depth x) ≡ first)
  under-deep first x live here zero link under =
      let its : way behind buckets (number x) (depth x) ≡ first = link-is first x live here in (
        subst (λ l. behind l < count) (sym under) (subst (λ y. y < count) (sym here) (is.within x live)),
        ap (λ l. depth (behind l)) under ∙ ap depth here ∙ (let same : depth x ≡ 0 + depth x = omega arith in same),
        ap (λ l. way behind buckets (number (behind l)) (depth x)) under ∙ ap (λ y. way behind buckets (number y) (depth x)) here ∙ its,
      )
  under-deep first x live here (suc steps) link (above, under, (bit, small, same), entry) =
      let up = under-deep first x live here steps above under in
      let deeper = under-deeper (behind above) bit small (subst (λ l. behind l < count) same entry) in
      let p = behind above in
      let n = number (behind (link_under buckets p bit)) in
      let both = (way-same (depth p) (depth p) n (number p) (subst (λ l. behind l < count) (sym (deeper.2 ∙ (is.linked above up.0).1)) up.0) deeper.2).1 in
      let higher : way behind buckets n (depth x) ≡ way behind buckets (number p) (depth x) =
      ⊎_elim
      (λ (less : depth x < depth p). (both (depth x) less).1)
      (λ (least : depth p ≤ depth x). let deep = up.1 in let one : depth p ≡ depth x = omega (arith, deep, least) in
      subst (λ d. way behind buckets n d ≡ way behind buckets (number p) d) one deeper.2)
      (cases_lt (depth x) (depth p)) in (
        entry,
        ap (λ l. depth (behind l)) same ∙ deeper.1 ∙ ap suc up.1 ∙ (let one : suc (steps + depth x) ≡ suc steps + depth x = omega arith in one),
        ap (λ l. way behind buckets (number (behind l)) (depth x)) same ∙ higher ∙ up.2,
      )

-- the depths, with another one for one entry
abbrev pub with-depth : (depth : ℕ → ℕ) (at low x : ℕ) → ℕ
with-depth depth at low x = cond (eqb x at) low (depth x)

-- A number is added: its entry is put behind the last link of its way.
module _ (buckets count : ℕ) (behind number depth : ℕ → ℕ) (IsIn : ℕ → Type 0) (some : 0 < buckets) (is : IsTree buckets count behind number depth IsIn)
    (id low at : ℕ) (deep : low ≤ 64) (within : at < count) (new : IsIn at → ⊥) (out : count ≤ behind (way behind buckets id low))
    (before : (d : ℕ) → d < low → behind (way behind buckets id d) < count)
    (after numbers : ℕ → ℕ) (here : after (way behind buckets id low) ≡ at)
    (there : (l : ℕ) → (l ≡ way behind buckets id low → ⊥) → after l ≡ behind l)
    (its : numbers at ≡ id) (others : (x : ℕ) → (x ≡ at → ⊥) → numbers x ≡ number x)
    (past_after : (x bit : ℕ) → count ≤ x → count ≤ after (link_under buckets x bit)) where
  abbrev pub deeper : ℕ → ℕ
  deeper = with-depth depth at low

  abbrev pub IsAdded : ℕ → Type 0
  IsAdded x = IsIn x ⊎ (x ≡ at)

  deeper-at : deeper at ≡ low
  deeper-at = cond-true (eqb at at) low (depth at) (eq-eqb at at refl)

  deeper-other : (x : ℕ) → (x ≡ at → ⊥) → deeper x ≡ depth x
  deeper-other x ne = cond-false (eqb x at) low (depth x) (ne_eqb x at ne)

  apart-added : (x : ℕ) → IsIn x → x ≡ at → ⊥
  apart-added x live same = new (subst IsIn same live)

  added-way : way after buckets (numbers at) (deeper at) ≡ way behind buckets id low
  added-way = ap (λ d. way after buckets (numbers at) d) deeper-at ∙ ap (λ n. way after buckets n low) its
      ∙ way-kept behind after buckets id low (λ d less. there (way behind buckets id d)
      (λ same. let entry = before d less in let none = subst (λ l. count ≤ behind l) (sym same) out in omega (arith, entry, none)))

  kept-added : (x : ℕ) → IsIn x → way after buckets (numbers x) (deeper x) ≡ way behind buckets (number x) (depth x)
  kept-added x live =
      ap (λ d. way after buckets (numbers x) d) (deeper-other x (apart-added x live)) ∙ ap (λ n. way after buckets n (depth x)) (others x (apart-added x live))
      ∙ way-kept behind after buckets (number x) (depth x) (λ d less. there (way behind buckets (number x) d)
      (λ same.
      let ended = end-before buckets count behind number depth IsIn some is (number x) d (depth x) (omega (arith, less)) (subst (λ l. count ≤ behind l) (sym same) out) in
      let entry = subst (λ y. y < count) (sym (is.reached x live)) (is.within x live) in
      omega (arith, ended, entry)))

  pub tree-add : IsTree buckets count after numbers deeper IsAdded
  tree-add = record {
    linked = λ l entry. ⊎_elim
        (λ (same : l ≡ way behind buckets id low).
        let x_is : after l ≡ at = ap after same ∙ here in
        (inr x_is, ap (λ x. way after buckets (numbers x) (deeper x)) x_is ∙ added-way ∙ sym same))
        (λ (ne : l ≡ way behind buckets id low → ⊥).
        let old = is.linked l (subst (λ x. x < count) (there l ne) entry) in
        subst (λ x. IsAdded x × (way after buckets (numbers x) (deeper x) ≡ l)) (sym (there l ne)) (inl old.0, kept-added (behind l) old.0 ∙ old.1))
        (cases_eq l (way behind buckets id low));
    reached = λ x now. ⊎_elim
        (λ (live : IsIn x).
        ap after (kept-added x live) ∙ there (way behind buckets (number x) (depth x))
        (λ same. let entry = subst (λ y. y < count) (sym (is.reached x live)) (is.within x live) in
        let none = subst (λ l. count ≤ behind l) (sym same) out in omega (arith, entry, none)) ∙ is.reached x live)
        (λ (same : x ≡ at). ap (λ y. after (way after buckets (numbers y) (deeper y))) same ∙ ap after added-way ∙ here ∙ sym same) now;
    within = λ x now. ⊎_elim (λ live. is.within x live) (λ same. subst (λ y. y < count) (sym same) within) now;
    shallow = λ x now. ⊎_elim
        (λ live. subst (λ d. d ≤ 64) (sym (deeper-other x (apart-added x live))) (is.shallow x live))
        (λ same. subst (λ d. d ≤ 64) (sym (ap deeper same ∙ deeper-at)) deep) now;
    past = past_after;
  }

-- An entry without any under it is taken away.
module _ (buckets count : ℕ) (behind number depth : ℕ → ℕ) (IsIn : ℕ → Type 0) (some : 0 < buckets) (is : IsTree buckets count behind number depth IsIn)
    (link at : ℕ) (live : IsIn at) (here : behind link ≡ at) (leaf : (b : ℕ) → b < 2 → count ≤ behind (link_under buckets at b))
    (after : ℕ → ℕ) (gone : count ≤ after link) (there : (l : ℕ) → (l ≡ link → ⊥) → after l ≡ behind l)
    (past_after : (x bit : ℕ) → count ≤ x → count ≤ after (link_under buckets x bit)) where
  abbrev pub IsLeft : ℕ → Type 0
  IsLeft x = IsIn x × (x ≡ at → ⊥)

  leaf-link : way behind buckets (number at) (depth at) ≡ link
  leaf-link = link-is buckets count behind number depth IsIn some is link at live here

  off-leaf : (x : ℕ) → IsLeft x → (d : ℕ) → d ≤ depth x → way behind buckets (number x) d ≡ link → ⊥
  off-leaf x left d most same =
      ⊎_elim
      (λ (less : d < depth x).
      let ended = end-before buckets count behind number depth IsIn some is (number x) (suc d) (depth x) (omega (arith, less))
      (subst (λ y. count ≤ behind (link_under buckets y (bit_at (number x) d))) (sym (ap behind same ∙ here)) (leaf (bit_at (number x) d) (bit_at-lt (number x) d))) in
      let entry = subst (λ y. y < count) (sym (is.reached x left.0)) (is.within x left.0) in
      omega (arith, ended, entry))
      (λ (least : depth x ≤ d).
      let last : depth x ≡ d = omega (arith, most, least) in
      left.1 (sym (is.reached x left.0) ∙ ap (λ k. behind (way behind buckets (number x) k)) last ∙ ap behind same ∙ here))
      (cases_lt d (depth x))

  kept-left : (x : ℕ) → IsLeft x → way after buckets (number x) (depth x) ≡ way behind buckets (number x) (depth x)
  kept-left x left = way-kept behind after buckets (number x) (depth x) (λ d less. there (way behind buckets (number x) d) (off-leaf x left d (omega (arith, less))))

  pub tree-remove : IsTree buckets count after number depth IsLeft
  tree-remove = record {
    linked = λ l entry.
        let other : l ≡ link → ⊥ = λ same. let none = subst (λ k. count ≤ after k) (sym same) gone in omega (arith, entry, none) in
        let old = is.linked l (subst (λ x. x < count) (there l other) entry) in
        let left : IsLeft (behind l) = (old.0, λ same. other (sym old.1 ∙ ap (λ x. way behind buckets (number x) (depth x)) same ∙ leaf-link)) in
        subst (λ x. IsLeft x × (way after buckets (number x) (depth x) ≡ l)) (sym (there l other)) (left, kept-left (behind l) left ∙ old.1);
    reached = λ x left.
        ap after (kept-left x left) ∙ there (way behind buckets (number x) (depth x)) (off-leaf x left (depth x) (omega arith)) ∙ is.reached x left.0;
    within = λ x left. is.within x left.0;
    shallow = λ x left. is.shallow x left.0;
    past = past_after;
  }

-- An entry that is not in the tree is put in the place of another one, through which the way of its number goes.
module _ (buckets count : ℕ) (behind number depth : ℕ → ℕ) (IsIn : ℕ → Type 0) (some : 0 < buckets) (is : IsTree buckets count behind number depth IsIn)
    (link old new : ℕ) (live : IsIn old) (out : IsIn new → ⊥) (within : new < count) (here : behind link ≡ old)
    (through : way behind buckets (number new) (depth old) ≡ link) (after : ℕ → ℕ) (put : IsInPlace buckets behind after link old new)
    (none_past : count ≤ none)
    (past_after : (x bit : ℕ) → count ≤ x → count ≤ after (link_under buckets x bit)) where
  abbrev pub moved_depth : ℕ → ℕ
  moved_depth = with-depth depth new (depth old)

  abbrev pub IsPut : ℕ → Type 0
  IsPut x = (IsIn x × (x ≡ old → ⊥)) ⊎ (x ≡ new)

  old-link : way behind buckets (number old) (depth old) ≡ link
  old-link = link-is buckets count behind number depth IsIn some is link old live here

  depth-new : moved_depth new ≡ depth old
  depth-new = cond-true (eqb new new) (depth old) (depth new) (eq-eqb new new refl)

  depth-other : (x : ℕ) → IsIn x → moved_depth x ≡ depth x
  depth-other x in' = cond-false (eqb x new) (depth old) (depth x) (ne_eqb x new (λ same. out (subst IsIn same in')))

  -- the link isn't one under the old entry
  link-off : IsLinkOf buckets old link → ⊥
  link-off (b, bit, same) = not-under buckets count behind number depth IsIn some is old b live bit (ap behind (sym same) ∙ here)

  -- no way goes on from the new entry
  way-off : (n k : ℕ) → IsLinkOf buckets new (way behind buckets n k) → ⊥
  way-off n zero (b, bit, same) = let below = bucket-below buckets n some in omega (arith, below, same)
  way-off n (suc k) (b, bit, same) =
      let from = (under-same buckets (behind (way behind buckets n k)) (bit_at n k) new b (bit_at-lt n k) bit same).0 in
      out (subst IsIn from (is.linked (way behind buckets n k) (subst (λ x. x < count) (sym from) within)).0)

  -- only the link leads to the old entry
  only : (l : ℕ) → behind l ≡ old → l ≡ link
  only l leads = sym (link-is buckets count behind number depth IsIn some is l old live leads) ∙ old-link

  after-under : (b : ℕ) → b < 2 → after (link_under buckets new b) ≡ behind (link_under buckets old b)
  after-under zero bit = put.low
  after-under (suc zero) bit = put.high
  after-under (suc (suc b)) bit = absurd (omega (arith, bit))

  after-old : (b : ℕ) → b < 2 → after (link_under buckets old b) ≡ none
  after-old zero bit = put.old_low
  after-old (suc zero) bit = put.old_high
  after-old (suc (suc b)) bit = absurd (omega (arith, bit))

  -- where a link of a way has gone
  abbrev IsMoved : ℕ → ℕ → Type 0
  IsMoved l next = ((next ≡ l) × (IsLinkOf buckets old l → ⊥)) ⊎ ((b : ℕ) × (b < 2) × (l ≡ link_under buckets old b) × (next ≡ link_under buckets new b))

  after-same : (l : ℕ) → (IsLinkOf buckets old l → ⊥) → (IsLinkOf buckets new l → ⊥) → (l ≡ link → ⊥) → after l ≡ behind l
  after-same l not_old not_new other =
      put.same l other
      (λ low. not_new (0, omega arith, low)) (λ high. not_new (1, omega arith, high))
      (λ low. not_old (0, omega arith, low)) (λ high. not_old (1, omega arith, high))

  goes-on : (n k p next : ℕ) → (p ≡ old → ⊥) → behind (way behind buckets n k) ≡ p → after next ≡ p →
      IsMoved (way behind buckets n (suc k)) (link_under buckets (after next) (bit_at n k))
  goes-on n k p next other before now =
      inl (
        ap (λ x. link_under buckets x (bit_at n k)) (now ∙ sym before),
        λ (b, bit, same). other (sym before ∙ (under-same buckets (behind (way behind buckets n k)) (bit_at n k) old b (bit_at-lt n k) bit same).0),
      )

  way-moved : (n k : ℕ) → IsMoved (way behind buckets n k) (way after buckets n k)
  way-moved n zero = inl (refl, λ (b, bit, same). let below = bucket-below buckets n some in omega (arith, below, same))
  way-moved n (suc k) =
      let l = way behind buckets n k in
      ⊎_elim
      (λ (at : l ≡ link).
      ⊎_elim
      (λ stays. inr (
        bit_at n k,
        bit_at-lt n k,
        ap (λ x. link_under buckets x (bit_at n k)) (ap behind at ∙ here),
        ap (λ x. link_under buckets (after x) (bit_at n k)) (stays.0 ∙ at) ∙ ap (λ x. link_under buckets x (bit_at n k)) put.here,
      ))
      (λ (b, bit, same, next). absurd (link-off (b, bit, sym at ∙ same)))
      (way-moved n k))
      (λ (other : l ≡ link → ⊥).
      let not_old : behind l ≡ old → ⊥ = λ leads. other (only l leads) in
      ⊎_elim
      (λ stays. goes-on n k (behind l) (way after buckets n k) not_old refl (ap after stays.0 ∙ after-same l stays.1 (way-off n k) other))
      (λ (b, bit, same, next). goes-on n k (behind l) (way after buckets n k) not_old refl (ap after next ∙ after-under b bit ∙ ap behind (sym same)))
      (way-moved n k))
      (cases_eq l link)

  stays-at : (n k l : ℕ) → way behind buckets n k ≡ l → (IsLinkOf buckets old l → ⊥) → way after buckets n k ≡ l
  stays-at n k l is_l not_old =
      ⊎_elim
      (λ stays. stays.0 ∙ is_l)
      (λ (b, bit, same, next). absurd (not_old (b, bit, sym is_l ∙ same)))
      (way-moved n k)

  put-way : way after buckets (number new) (moved_depth new) ≡ link
  put-way = ap (way after buckets (number new)) depth-new ∙ stays-at (number new) (depth old) link through link-off

  -- an entry is behind the link to which that of its way has gone
  pub tree-put : IsTree buckets count after number moved_depth IsPut
  tree-put = record {
    linked = linked-after;
    reached = λ x now. ⊎_elim
        (λ its. reached-after x its.0 its.1)
        (λ (same : x ≡ new). ap (λ y. after (way after buckets (number y) (moved_depth y))) same ∙ ap after put-way ∙ put.here ∙ sym same) now;
    within = λ x now. ⊎_elim (λ its. is.within x its.0) (λ same. subst (λ y. y < count) (sym same) within) now;
    shallow = λ x now. ⊎_elim
        (λ its. subst (λ d. d ≤ 64) (sym (depth-other x its.0)) (is.shallow x its.0))
        (λ same. subst (λ d. d ≤ 64) (sym (ap moved_depth same ∙ depth-new)) (is.shallow old live)) now;
    past = past_after;
  } where
    reached-after : (x : ℕ) → IsIn x → (x ≡ old → ⊥) → after (way after buckets (number x) (moved_depth x)) ≡ x
    reached-after x in' other =
        let l = way behind buckets (number x) (depth x) in
        ap (λ d. after (way after buckets (number x) d)) (depth-other x in')
        ∙ ⊎_elim
        (λ stays.
        ap after stays.0
        ∙ after-same l stays.1 (way-off (number x) (depth x)) (λ same. other (sym (is.reached x in') ∙ ap behind same ∙ here))
        ∙ is.reached x in')
        (λ (b, bit, same, next). ap after next ∙ after-under b bit ∙ ap behind (sym same) ∙ is.reached x in')
        (way-moved (number x) (depth x))

    Shown : ℕ → ℕ → Type 0
    Shown l x = IsPut x × (way after buckets (number x) (moved_depth x) ≡ l)

    -- the entry that was behind a link, and is behind the one to which it has gone
    shown : (l next : ℕ) → behind l < count → (l ≡ link → ⊥) → IsMoved l next → (way after buckets (number (behind l)) (depth (behind l)) ≡ next) → Shown next (behind l)
    shown l next entry other moved at =
        let its = is.linked l entry in (
          inl (its.0, λ same. other (only l same)),
          ap (way after buckets (number (behind l))) (depth-other (behind l) its.0) ∙ at,
        )

    linked-after : (l : ℕ) → after l < count → Shown l (after l)
    linked-after l entry =
        ⊎_elim
        (λ (at : l ≡ link).
        let x_is = ap after at ∙ put.here in
        subst (Shown l) (sym x_is) (inr refl, put-way ∙ sym at))
        (λ (other : l ≡ link → ⊥).
        ⊎_elim
        (λ (b, bit, same).
        let none = ap after same ∙ after-old b bit in absurd (omega (arith, entry, none, none_past)))
        (λ not_old.
        let off_old : IsLinkOf buckets old l → ⊥ = none-of old l not_old in
        ⊎_elim
        (λ (b, bit, same).
        let from = ap after same ∙ after-under b bit in
        let before : behind (link_under buckets old b) < count = subst (λ x. x < count) from entry in
        let way_is = (is.linked (link_under buckets old b) before).1 in
        let moved_to = moved-under (number (behind (link_under buckets old b))) (depth (behind (link_under buckets old b))) b bit way_is in
        subst (Shown l) (sym from)
        (shown (link_under buckets old b) l before (λ at_link. link-off (b, bit, sym at_link)) (inr (b, bit, refl, same)) (moved_to ∙ sym same)))
        (λ not_new.
        let off_new : IsLinkOf buckets new l → ⊥ = none-of new l not_new in
        let same = after-same l off_old off_new other in
        let before : behind l < count = subst (λ x. x < count) same entry in
        subst (Shown l) (sym same)
        (shown l l before other (inl (refl, off_old)) (stays-at (number (behind l)) (depth (behind l)) l (is.linked l before).1 off_old)))
        (links-of buckets new l))
        (links-of buckets old l))
        (cases_eq l link) where
          none-of : (x l : ℕ) → (l ≡ link_under buckets x 0 → ⊥) × (l ≡ link_under buckets x 1 → ⊥) → IsLinkOf buckets x l → ⊥
          none-of x l nots (zero, bit, same) = nots.0 same
          none-of x l nots (suc zero, bit, same) = nots.1 same
          none-of x l nots (suc (suc b), bit, same) = omega (arith, bit)

          moved-under : (n k b : ℕ) → b < 2 → way behind buckets n k ≡ link_under buckets old b → way after buckets n k ≡ link_under buckets new b
          moved-under n k b bit way_is =
              ⊎_elim
              (λ stays. absurd (stays.1 (b, bit, way_is)))
              (λ (c, small, same, next). next ∙ ap (link_under buckets new) (under-same buckets old c old b small bit (sym same ∙ way_is)).1)
              (way-moved n k)
