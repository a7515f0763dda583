-- The sets and the queue after one slice has another stage, and after the mark moved.
use Rattle.std.proofs.Common.{◌≡◌, ◌≢◌, ◌↔◌, ◌⊎◌, ⊎_elim, ℕ, zero, suc, ◌+◌, ◌<◌, ◌≤◌, true, false, List, [], ◌∷◌, ◌++◌, length, get_or, replicate, drop, slice_get, Option, Some, None, All, Contains, MatchOption, sym, refl, ap, ◌∙◌, subst, inl, inr, arith}
use Rattle.std.proofs.lemmas.Bool.{cases_eq, eqb-true}
use Rattle.std.proofs.lemmas.Bool.Decides.{eqb_tells, leb_tells}
use Rattle.std.proofs.lemmas.List.{get_or-replicate, get_or-set_same, get_or-set_other, length-replicate, length-set}
use Rattle.std.proofs.lemmas.List.Elements.{All-get_or, All-replicate, All-set, Contains-get_or, Contains-push_cases, Contains-append_left, Contains-push}
use Rattle.std.proofs.lemmas.List.Quantifiers.{all_pairs_push}
use Rattle.std.proofs.lemmas.Map.Keys.{IsDistinct-cons, IsDistinct-from_apart}
use Rattle.std.proofs.lemmas.Map.Views.{Contains-from_any}
use Rattle.std.proofs.lemmas.Map.Steps.{length-le_from_distinct_below}
use Rattle.std.specs.List.{AllByRecursion, AllPairs, IsDistinct, list_any}
use Rattle.std.specs.Prelude.{◌==◌}
use Rattle.circular_buffer.specs.Buffer.{Buffer, buffer}
use Rattle.funnel_model.specs.SliceSets.{IsEmpty, IsLowestOf}
use Rattle.funnel_model.specs.declared.config.TheConstants.{MOST_SLICES}
use Rattle.slice_stages.specs.Sets.{AreAll, AreQueued, AreSets, IsBefore, IsWaiting, HasColumnsLeft}
use Rattle.slice_stages.specs.Stages.{HasLeft, IsRetiredBy, IsUsed, RetiredBefore, RetiredIn, HoldsOfNone, IsLowest, StageTable, empty_stage, stage_of, with_stage}
use Rattle.slice_stages.specs.declared.stage.Stage.{Stage}
use Rattle.slice_stages.specs.declared.stage.Stage.TheVariants as stage

-- the stage of the slice that changed, and of another
pub stage_of-same : (table : StageTable) (s : ℕ) (next : Stage) → s < length table.stages → stage_of (with_stage table s next) s ≡ next
stage_of-same table s next in' = get_or-set_same table.stages s next empty_stage in'

pub stage_of-other : (table : StageTable) (s o : ℕ) (next : Stage) → o ≢ s → stage_of (with_stage table s next) o ≡ stage_of table o
stage_of-other table s o next apart = get_or-set_other table.stages s o next empty_stage apart

module _ (holds : Stage → Type 0) (table : StageTable) (seen : List ℕ) (s : ℕ) (next : Stage) (in' : s < length table.stages) (are : AreAll holds table seen) where
  size : length (with_stage table s next).stages ≡ length table.stages
  size = length-set table.stages s next

  -- the slices apart from the one that changed are in the set as before
  apart_as_before : (remaining : List ℕ) (o : ℕ) → o ≢ s → Contains remaining o ↔ Contains seen o →
      Contains remaining o ↔ ((o < length (with_stage table s next).stages) × holds (stage_of (with_stage table s next) o))
  apart_as_before remaining o apart same = (
    λ has. let h = (are o).0 (same.0 has) in (omega (arith, h.0, size), subst holds (sym (stage_of-other table s o next apart)) h.1),
    λ is. same.1 ((are o).1 (omega (arith, is.0, size), subst holds (stage_of-other table s o next apart) is.1)),
  )

  -- it holds of the new stage, and the set has the slice too
  pub all-in : (remaining : List ℕ) → holds next → ((o : ℕ) → Contains remaining o ↔ ((o ≡ s) ⊎ Contains seen o)) → AreAll holds (with_stage table s next) remaining
  all-in remaining is more o =
      ⊎_elim
      (λ (same : o ≡ s). (
        λ has. (omega (arith, size), subst holds (sym (ap (stage_of (with_stage table s next)) same ∙ stage_of-same table s next in')) is),
        λ is'. (more o).1 (inl same),
      ))
      (λ (apart : o ≢ s). apart_as_before remaining o apart (
        λ has. ⊎_elim (λ same. absurd (apart same)) (λ had. had) ((more o).0 has),
        λ had. (more o).1 (inr had),
      ))
      (cases_eq o s)

  -- it doesn't, and the set hasn't
  pub all-out : (remaining : List ℕ) → (holds next → ⊥) → ((o : ℕ) → Contains remaining o ↔ ((o ≡ s → ⊥) × Contains seen o)) → AreAll holds (with_stage table s next) remaining
  all-out remaining not less o =
      ⊎_elim
      (λ (same : o ≡ s). (
        λ has. absurd (((less o).0 has).0 same),
        λ is'. absurd (not (subst holds (ap (stage_of (with_stage table s next)) same ∙ stage_of-same table s next in') is'.1)),
      ))
      (λ (apart : o ≢ s). apart_as_before remaining o apart (λ has. ((less o).0 has).1, λ had. (less o).1 (apart, had)))
      (cases_eq o s)

  -- it holds of the new stage exactly where it held of the old one
  pub all-same : holds next ↔ holds (stage_of table s) → AreAll holds (with_stage table s next) seen
  all-same same o =
      ⊎_elim
      (λ (here : o ≡ s).
      let now : stage_of (with_stage table s next) o ≡ next = ap (stage_of (with_stage table s next)) here ∙ stage_of-same table s next in' in
      let was : stage_of table s ≡ stage_of table o = ap (stage_of table) (sym here) in (
        λ has. let h = (are o).0 has in (omega (arith, h.0, size), subst holds (sym now) (same.1 (subst holds (sym was) h.1))),
        λ is'. (are o).1 (omega (arith, is'.0, size), subst holds was (same.0 (subst holds now is'.1))),
      ))
      (λ (apart : o ≢ s). apart_as_before seen o apart (λ x. x, λ x. x))
      (cases_eq o s)

-- where two tests agree of each slice, the set is that of both
pub all-as : (holds other : Stage → Type 0) (table next : StageTable) (seen : List ℕ) → AreAll holds table seen → next.stages ≡ table.stages →
    ((slice : ℕ) → slice < length table.stages → other (stage_of table slice) ↔ holds (stage_of table slice)) → AreAll other next seen
all-as holds other table next seen are same agree slice =
    let stage_is : stage_of next slice ≡ stage_of table slice = ap (λ (xs : List Stage). get_or xs slice empty_stage) same in
    let size : length next.stages ≡ length table.stages = ap length same in (
      λ has. let h = (are slice).0 has in (omega (arith, h.0), subst other (sym stage_is) ((agree slice h.0).1 h.1)),
      λ is. let in' : slice < length table.stages = omega (arith, is.0) in (are slice).1 (in', (agree slice in').0 (subst other stage_is is.1)),
    )

-- a slice isn't before itself
not_before_itself : (x : Stage) → IsBefore x x → ⊥
not_before_itself (stage.InUse claimed over) is = is
not_before_itself (stage.Retired at) is = omega (arith, is)
not_before_itself (stage.Clearing pass) is = is

-- the slices that wait are distinct
waiting_distinct : (table : StageTable) (waiting : List ℕ) → AreQueued table waiting → IsDistinct (λ x y. x == y) waiting
waiting_distinct table waiting are =
    IsDistinct-from_apart (λ x y. x == y) waiting
    (λ i j d less within. ⊎_elim
    (λ same. absurd (not_before_itself (stage_of table (get_or waiting i d))
    (subst (λ k. IsBefore (stage_of table (get_or waiting i d)) (stage_of table k)) (sym same.1) (are.order i j d less within))))
    (λ other. other.0)
    (eqb_tells (get_or waiting i d) (get_or waiting j d)))

-- what is in a list is its first item or in the rest
first_or_rest : (x : ℕ) (xs : List ℕ) (y : ℕ) → Contains (x ∷ xs) y → (x ≡ y) ⊎ Contains xs y
first_or_rest x xs y (zero, in', is) = inl is
first_or_rest x xs y (suc k, in', is) = inr (k, omega (arith, in'), is)

-- a number that a test finds is in the list
found_by_test : (x : ℕ) (xs : List ℕ) → list_any (λ y. x == y) xs ≡ true → Contains xs x
found_by_test x xs is = Contains-from_any (λ y z same. eqb-true y z same) x xs is

by_recursion : (P : ℕ → Type 0) (xs : List ℕ) → ((x : ℕ) → Contains xs x → P x) → AllByRecursion P xs
by_recursion P [] each = tt
by_recursion P (x ∷ xs) each = (each x (0, omega arith, refl), by_recursion P xs (λ y has. each y (suc has.0, omega (arith, has.1), has.2)))

-- a slice that doesn't wait leaves room for itself
pub waiting_few : (table : StageTable) (waiting : List ℕ) (s : ℕ) → AreQueued table waiting → s < length table.stages → (IsWaiting table.mark (stage_of table s) → ⊥) → length waiting < length table.stages
waiting_few table waiting s are in' not =
    let all : length (s ∷ waiting) ≤ length table.stages = length-le_from_distinct_below (s ∷ waiting) (length table.stages)
    (IsDistinct-cons (λ x y. x == y) s waiting
    (by_recursion (λ (y : ℕ). (s == y) ≡ false) waiting (λ y has. ⊎_elim
    (λ same. absurd (not (subst (λ k. IsWaiting table.mark (stage_of table k)) (sym same.1) ((are.all y).0 has).1)))
    (λ other. other.0)
    (eqb_tells s y)))
    (waiting_distinct table waiting are))
    (λ q has. ⊎_elim (λ (same : s ≡ q). omega arith) (λ (rest : Contains waiting q). ((are.all q).0 rest).0) (first_or_rest s waiting q (found_by_test q (s ∷ waiting) has))) in
    omega (arith, all)

-- the queue after a slice that didn't wait got another stage, in which it doesn't wait either
pub queue-same : (table : StageTable) (waiting : List ℕ) (s : ℕ) (next : Stage) → AreQueued table waiting → s < length table.stages → (IsWaiting table.mark (stage_of table s) → ⊥) →
    (IsWaiting table.mark next → ⊥) → AreQueued (with_stage table s next) waiting
queue-same table waiting s next are in' not not_next = record {
  all = all-same (IsWaiting table.mark) table waiting s next in' are.all (λ is. absurd (not_next is), λ is. absurd (not is));
  order = λ i j d less within.
      let at : (k : ℕ) → k < length waiting → stage_of (with_stage table s next) (get_or waiting k d) ≡ stage_of table (get_or waiting k d) = λ k below.
      stage_of-other table s (get_or waiting k d) next
      (λ same. not (subst (λ n. IsWaiting table.mark (stage_of table n)) same ((are.all (get_or waiting k d)).0 (Contains-get_or waiting k d below)).1)) in
      subst (λ x. IsBefore x (stage_of (with_stage table s next) (get_or waiting j d))) (sym (at i (omega arith)))
      (subst (IsBefore (stage_of table (get_or waiting i d))) (sym (at j within)) (are.order i j d less within));
}

waits_before : (mark event : ℕ) (x : Stage) → IsWaiting mark x → RetiredBefore event x → IsBefore x (stage.Retired event)
waits_before mark event (stage.InUse claimed over) waits before = absurd waits
waits_before mark event (stage.Retired at) waits before = before
waits_before mark event (stage.Clearing pass) waits before = absurd waits

-- the queue after a slice retired, later than all others
pub queue-retire : (table : StageTable) (waiting : List ℕ) (s event : ℕ) → AreQueued table waiting → s < length table.stages → (IsWaiting table.mark (stage_of table s) → ⊥) →
    table.mark < event → All (RetiredBefore event) table.stages → AreQueued (with_stage table s (stage.Retired event)) (waiting ++ s ∷ [])
queue-retire table waiting s event are in' not later last =
    let next = stage.Retired event in
    let apart : (o : ℕ) → Contains waiting o → o ≢ s = λ o has same. not (subst (λ n. IsWaiting table.mark (stage_of table n)) same ((are.all o).0 has).1) in
    record {
      all = all-in (IsWaiting table.mark) table waiting s next in' are.all (waiting ++ s ∷ []) later (λ o. (
        λ has. ⊎_elim (λ had. inr had) (λ (same : s ≡ o). inl (sym same)) (Contains-push_cases waiting s o has),
        λ is. ⊎_elim (λ (same : o ≡ s). subst (Contains (waiting ++ s ∷ [])) (sym same) (Contains-push waiting s)) (λ had. Contains-append_left waiting (s ∷ []) o had) is,
      ));
      order = all_pairs_push (λ slice other. IsBefore (stage_of (with_stage table s next) slice) (stage_of (with_stage table s next) other)) waiting s
          (λ i j d less within.
          let at : (k : ℕ) → k < length waiting → stage_of (with_stage table s next) (get_or waiting k d) ≡ stage_of table (get_or waiting k d) = λ k below.
          stage_of-other table s (get_or waiting k d) next (apart (get_or waiting k d) (Contains-get_or waiting k d below)) in
          subst (λ x. IsBefore x (stage_of (with_stage table s next) (get_or waiting j d))) (sym (at i (omega arith)))
          (subst (IsBefore (stage_of table (get_or waiting i d))) (sym (at j within)) (are.order i j d less within)))
          (λ k d below.
          let o = get_or waiting k d in
          let has = Contains-get_or waiting k d below in
          let is = (are.all o).0 has in
          subst (λ x. IsBefore x (stage_of (with_stage table s next) s)) (sym (stage_of-other table s o next (apart o has)))
          (subst (IsBefore (stage_of table o)) (sym (stage_of-same table s next in'))
          (waits_before table.mark event (stage_of table o) is.1 (All-get_or (RetiredBefore event) table.stages o empty_stage is.0 last))));
    }

pub used_not_waiting : (mark : ℕ) (x : Stage) → IsUsed x → IsWaiting mark x → ⊥
used_not_waiting mark (stage.InUse claimed over) used waits = waits
used_not_waiting mark (stage.Retired at) used waits = used
used_not_waiting mark (stage.Clearing pass) used waits = used

pub used_not_retired : (mark : ℕ) (x : Stage) → IsUsed x → IsRetiredBy mark x → ⊥
used_not_retired mark (stage.InUse claimed over) used retired = retired
used_not_retired mark (stage.Retired at) used retired = used
used_not_retired mark (stage.Clearing pass) used retired = used

pub left_not_retired : (columns mark : ℕ) (x : Stage) → HasLeft columns x → IsRetiredBy mark x → ⊥
left_not_retired columns mark (stage.InUse claimed over) left retired = retired
left_not_retired columns mark (stage.Retired at) left retired = left
left_not_retired columns mark (stage.Clearing pass) left retired = left

pub retired_not_waiting : (mark : ℕ) (x : Stage) → IsRetiredBy mark x → IsWaiting mark x → ⊥
retired_not_waiting mark (stage.InUse claimed over) retired waits = waits
retired_not_waiting mark (stage.Retired at) retired waits = omega (arith, retired, waits)
retired_not_waiting mark (stage.Clearing pass) retired waits = waits

-- what waits at a mark waits at a later one, unless it retired in between
waits_still : (mark later : ℕ) (x : Stage) → mark ≤ later → (RetiredIn mark later x → ⊥) → IsWaiting later x ↔ IsWaiting mark x
waits_still mark later (stage.InUse claimed over) more none = (λ w. w, λ w. w)
waits_still mark later (stage.Retired at) more none = (
  λ w. omega (arith, w, more),
  λ w. ⊎_elim (λ is. absurd (none (w, (let h = is.1 in omega arith)))) (λ not. let h = not.1 in omega arith) (leb_tells at later),
)
waits_still mark later (stage.Clearing pass) more none = (λ w. w, λ w. w)

-- the queue of a later mark, where no slice that waits retired up to it
pub queue-mark : (table next : StageTable) (waiting : List ℕ) → AreQueued table waiting → next.stages ≡ table.stages → table.mark ≤ next.mark →
    ((slice : ℕ) → slice < length table.stages → RetiredIn table.mark next.mark (stage_of table slice) → ⊥) → AreQueued next waiting
queue-mark table next waiting are same later none = record {
  all = all-as (IsWaiting table.mark) (IsWaiting next.mark) table next waiting are.all same (λ slice in'. waits_still table.mark next.mark (stage_of table slice) later (none slice in'));
  order = subst (λ (stages : List Stage). AllPairs (λ slice other. IsBefore (get_or stages slice empty_stage) (get_or stages other empty_stage)) waiting) (sym same) are.order;
}

module _ (table : StageTable) (in_use with_room clearable : List ℕ) (waiting : Buffer ℕ) (s : ℕ) (is : AreSets table in_use with_room clearable waiting) (in' : s < length table.stages) where
  few_now : (next : Stage) → length (with_stage table s next).stages ≤ MOST_SLICES
  few_now next = omega (arith, is.few, length-set table.stages s next)

  room_now : (next : Stage) → length (with_stage table s next).stages ≤ waiting.capacity
  room_now next = omega (arith, is.room, length-set table.stages s next)

  -- its next column was claimed, and another is left
  pub sets-claim : (claimed over : ℕ) → stage_of table s ≡ stage.InUse claimed over → claimed + 1 < table.columns → AreSets (with_stage table s (stage.InUse (claimed + 1) over)) in_use with_room clearable waiting
  sets-claim claimed over was left =
      let next = stage.InUse (claimed + 1) over in record {
        few = few_now next;
        some = is.some;
        within = All-set (HasColumnsLeft table.columns) table.stages s next (subst (HasColumnsLeft table.columns) was (All-get_or (HasColumnsLeft table.columns) table.stages s empty_stage in' is.within)) is.within;
        used = all-same IsUsed table in_use s next in' is.used (λ _. subst IsUsed (sym was) tt, λ _. tt);
        left = all-same (HasLeft table.columns) table with_room s next in' is.left (λ _. subst (HasLeft table.columns) (sym was) (omega (arith, left)), λ _. left);
        ready = all-same (IsRetiredBy table.mark) table clearable s next in' is.ready (λ x. absurd x, λ x. absurd (subst (IsRetiredBy table.mark) was x));
        queue = queue-same table waiting.items s next is.queue in' (subst (IsWaiting table.mark) was) (λ x. x);
        room = room_now next;
      }

  -- its last column was claimed
  pub sets-fill : (claimed over : ℕ) (remaining : List ℕ) → stage_of table s ≡ stage.InUse claimed over → claimed + 1 ≡ table.columns →
      ((o : ℕ) → Contains remaining o ↔ ((o ≡ s → ⊥) × Contains with_room o)) → AreSets (with_stage table s (stage.InUse (claimed + 1) over)) in_use remaining clearable waiting
  sets-fill claimed over remaining was all less =
      let next = stage.InUse (claimed + 1) over in record {
        few = few_now next;
        some = is.some;
        within = All-set (HasColumnsLeft table.columns) table.stages s next (subst (HasColumnsLeft table.columns) was (All-get_or (HasColumnsLeft table.columns) table.stages s empty_stage in' is.within)) is.within;
        used = all-same IsUsed table in_use s next in' is.used (λ _. subst IsUsed (sym was) tt, λ _. tt);
        left = all-out (HasLeft table.columns) table with_room s next in' is.left remaining (λ x. omega (arith, x)) less;
        ready = all-same (IsRetiredBy table.mark) table clearable s next in' is.ready (λ x. absurd x, λ x. absurd (subst (IsRetiredBy table.mark) was x));
        queue = queue-same table waiting.items s next is.queue in' (subst (IsWaiting table.mark) was) (λ x. x);
        room = room_now next;
      }

  -- one more of its columns is over, and not the last
  pub sets-end : (claimed over : ℕ) → stage_of table s ≡ stage.InUse claimed over → over + 1 < table.columns → AreSets (with_stage table s (stage.InUse claimed (over + 1))) in_use with_room clearable waiting
  sets-end claimed over was more =
      let next = stage.InUse claimed (over + 1) in record {
        few = few_now next;
        some = is.some;
        within = All-set (HasColumnsLeft table.columns) table.stages s next more is.within;
        used = all-same IsUsed table in_use s next in' is.used (λ _. subst IsUsed (sym was) tt, λ _. tt);
        left = all-same (HasLeft table.columns) table with_room s next in' is.left (λ x. subst (HasLeft table.columns) (sym was) x, λ x. subst (HasLeft table.columns) was x);
        ready = all-same (IsRetiredBy table.mark) table clearable s next in' is.ready (λ x. absurd x, λ x. absurd (subst (IsRetiredBy table.mark) was x));
        queue = queue-same table waiting.items s next is.queue in' (subst (IsWaiting table.mark) was) (λ x. x);
        room = room_now next;
      }

  -- it retired
  pub sets-retire : (event : ℕ) (used left : List ℕ) (queue : Buffer ℕ) → IsUsed (stage_of table s) → table.mark < event → All (RetiredBefore event) table.stages →
      ((o : ℕ) → Contains used o ↔ ((o ≡ s → ⊥) × Contains in_use o)) → ((o : ℕ) → Contains left o ↔ ((o ≡ s → ⊥) × Contains with_room o)) →
      queue ≡ buffer (waiting.items ++ s ∷ []) waiting.capacity → AreSets (with_stage table s (stage.Retired event)) used left clearable queue
  sets-retire event used left queue was later last less_used less_left queued =
      let next = stage.Retired event in
      let not_waiting = used_not_waiting table.mark (stage_of table s) was in
      subst (λ (q : Buffer ℕ). AreSets (with_stage table s next) used left clearable q) (sym queued)
      (record {
        few = few_now next;
        some = is.some;
        within = All-set (HasColumnsLeft table.columns) table.stages s next tt is.within;
        used = all-out IsUsed table in_use s next in' is.used used (λ x. x) less_used;
        left = all-out (HasLeft table.columns) table with_room s next in' is.left left (λ x. x) less_left;
        ready = all-same (IsRetiredBy table.mark) table clearable s next in' is.ready (λ x. absurd (omega (arith, x, later)), λ x. absurd (used_not_retired table.mark (stage_of table s) was x));
        queue = queue-retire table waiting.items s event is.queue in' not_waiting later last;
        room = room_now next;
      })

  -- a pass began to clear it
  pub sets-clear : (pass : ℕ) (remaining : List ℕ) → IsRetiredBy table.mark (stage_of table s) → ((o : ℕ) → Contains remaining o ↔ ((o ≡ s → ⊥) × Contains clearable o)) →
      AreSets (with_stage table s (stage.Clearing pass)) in_use with_room remaining waiting
  sets-clear pass remaining was less =
      let next = stage.Clearing pass in record {
        few = few_now next;
        some = is.some;
        within = All-set (HasColumnsLeft table.columns) table.stages s next tt is.within;
        used = all-same IsUsed table in_use s next in' is.used (λ x. absurd x, λ x. absurd (used_not_retired table.mark (stage_of table s) x was));
        left = all-same (HasLeft table.columns) table with_room s next in' is.left (λ x. absurd x, λ x. absurd (left_not_retired table.columns table.mark (stage_of table s) x was));
        ready = all-out (IsRetiredBy table.mark) table clearable s next in' is.ready remaining (λ x. x) less;
        queue = queue-same table waiting.items s next is.queue in' (retired_not_waiting table.mark (stage_of table s) was) (λ x. x);
        room = room_now next;
      }

  -- it was opened
  pub sets-open : (pass : ℕ) (used left : List ℕ) → stage_of table s ≡ stage.Clearing pass → ((o : ℕ) → Contains used o ↔ ((o ≡ s) ⊎ Contains in_use o)) →
      ((o : ℕ) → Contains left o ↔ ((o ≡ s) ⊎ Contains with_room o)) → AreSets (with_stage table s empty_stage) used left clearable waiting
  sets-open pass used left was more_used more_left = record {
    few = few_now empty_stage;
    some = is.some;
    within = All-set (HasColumnsLeft table.columns) table.stages s empty_stage is.some is.within;
    used = all-in IsUsed table in_use s empty_stage in' is.used used tt more_used;
    left = all-in (HasLeft table.columns) table with_room s empty_stage in' is.left left is.some more_left;
    ready = all-same (IsRetiredBy table.mark) table clearable s empty_stage in' is.ready (λ x. absurd x, λ x. absurd (subst (IsRetiredBy table.mark) was x));
    queue = queue-same table waiting.items s empty_stage is.queue in' (subst (IsWaiting table.mark) was) (λ x. x);
    room = room_now empty_stage;
  }

-- what retired after a mark waits at it
retired_in_waits : (low mark : ℕ) (x : Stage) → RetiredIn low mark x → IsWaiting low x
retired_in_waits low mark (stage.InUse claimed over) between = between
retired_in_waits low mark (stage.Retired when) between = between.0
retired_in_waits low mark (stage.Clearing pass) between = between

-- what retired up to a mark had retired up to an earlier one or in between
by_mark : (low mark : ℕ) (x : Stage) → low ≤ mark → IsRetiredBy mark x → IsRetiredBy low x ⊎ RetiredIn low mark x
by_mark low mark (stage.InUse claimed over) more retired = absurd retired
by_mark low mark (stage.Retired when) more retired = ⊎_elim (λ is. inl is.1) (λ not. inr ((let h = not.1 in omega arith), retired)) (leb_tells when low)
by_mark low mark (stage.Clearing pass) more retired = absurd retired

retired_longer : (low mark : ℕ) (x : Stage) → low ≤ mark → IsRetiredBy low x → IsRetiredBy mark x
retired_longer low mark (stage.InUse claimed over) more retired = retired
retired_longer low mark (stage.Retired when) more retired = omega (arith, retired)
retired_longer low mark (stage.Clearing pass) more retired = retired

waits_less : (low mark : ℕ) (x : Stage) → low ≤ mark → IsWaiting mark x → IsWaiting low x
waits_less low mark (stage.InUse claimed over) more waits = waits
waits_less low mark (stage.Retired when) more waits = omega (arith, waits)
waits_less low mark (stage.Clearing pass) more waits = waits

after_waits : (at : ℕ) (x : Stage) → IsBefore (stage.Retired at) x → IsWaiting at x
after_waits at (stage.InUse claimed over) after = after
after_waits at (stage.Retired when) after = after
after_waits at (stage.Clearing pass) after = after

head_is : (xs : List ℕ) (s : ℕ) → slice_get xs 0 ≡ Some s → xs ≡ s ∷ drop 1 xs
head_is [] s is = cc
head_is (x ∷ xs) s is = let same : x ≡ s = cc in ap (λ n. n ∷ xs) same

module _ (table : StageTable) (in_use with_room clearable : List ℕ) (waiting : Buffer ℕ) (is : AreSets table in_use with_room clearable waiting) where
  -- the slice in front waits
  pub front_waits : (s : ℕ) → slice_get waiting.items 0 ≡ Some s → (s < length table.stages) × IsWaiting table.mark (stage_of table s)
  front_waits s front = (is.queue.all s).0 (subst (λ (xs : List ℕ). Contains xs s) (sym (head_is waiting.items s front)) (0, omega arith, refl))

  -- the others retired later
  rest_later : (s o : ℕ) → slice_get waiting.items 0 ≡ Some s → Contains (drop 1 waiting.items) o → IsBefore (stage_of table s) (stage_of table o)
  rest_later s o front (k, in', at) =
      let queue : AreQueued table (s ∷ drop 1 waiting.items) = subst (λ (xs : List ℕ). AreQueued table xs) (head_is waiting.items s front) is.queue in
      subst (λ n. IsBefore (stage_of table s) (stage_of table n)) at (queue.order 0 (suc k) o (omega arith) (omega (arith, in')))

  -- none retired up to a mark, where the one in front retired after it
  pub none_until : (s at mark : ℕ) → slice_get waiting.items 0 ≡ Some s → stage_of table s ≡ stage.Retired at → mark < at → (slice : ℕ) → slice < length table.stages →
      RetiredIn table.mark mark (stage_of table slice) → ⊥
  none_until s at mark front retired later slice in' between =
      let waits = (is.queue.all slice).1 (in', retired_in_waits table.mark mark (stage_of table slice) between) in
      ⊎_elim
      (λ (same : s ≡ slice). late mark at (stage_of table slice) (sym (ap (stage_of table) same) ∙ retired) later between)
      (λ (rest : Contains (drop 1 waiting.items) slice). let after = rest_later s slice front rest in
      later_late mark at (stage_of table slice) (subst (λ x. IsBefore x (stage_of table slice)) retired after) later between)
      (first_or_rest s (drop 1 waiting.items) slice (subst (λ (xs : List ℕ). Contains xs slice) (head_is waiting.items s front) waits)) where
        late : (mark at : ℕ) (x : Stage) → x ≡ stage.Retired at → mark < at → RetiredIn table.mark mark x → ⊥
        late mark at (stage.InUse claimed over) same later between = between
        late mark at (stage.Retired when) same later between = let e : when ≡ at = cc in let b = between.1 in omega arith
        late mark at (stage.Clearing pass) same later between = between

        later_late : (mark at : ℕ) (x : Stage) → IsBefore (stage.Retired at) x → mark < at → RetiredIn table.mark mark x → ⊥
        later_late mark at (stage.InUse claimed over) after later between = between
        later_late mark at (stage.Retired when) after later between = let b = between.1 in omega (arith, after)
        later_late mark at (stage.Clearing pass) after later between = between

  -- and none, where none waits
  pub none_wait : (mark : ℕ) → waiting.items ≡ [] → (slice : ℕ) → slice < length table.stages → RetiredIn table.mark mark (stage_of table slice) → ⊥
  none_wait mark empty slice in' between = let waits = (is.queue.all slice).1 (in', (retired_in_waits table.mark mark (stage_of table slice) between)) in
      let none : Contains {X = ℕ} [] slice = subst (λ (xs : List ℕ). Contains xs slice) empty waits in absurd (omega (arith, none.1))

  -- the mark moved up to the retirement of the slice in front
  pub sets-move : (s at : ℕ) (ready : List ℕ) (queue : Buffer ℕ) → slice_get waiting.items 0 ≡ Some s → stage_of table s ≡ stage.Retired at →
      ((o : ℕ) → Contains ready o ↔ ((o ≡ s) ⊎ Contains clearable o)) → queue ≡ buffer (drop 1 waiting.items) waiting.capacity →
      AreSets (record table { mark = at }) in_use with_room ready queue
  sets-move s at ready queue front retired more queued =
      let here = front_waits s front in
      let later : table.mark < at = subst (IsWaiting table.mark) retired here.1 in
      let split = head_is waiting.items s front in
      let others : AreQueued table (s ∷ drop 1 waiting.items) = subst (λ (xs : List ℕ). AreQueued table xs) split is.queue in
      subst (λ (q : Buffer ℕ). AreSets (record table { mark = at }) in_use with_room ready q) (sym queued)
      (record {
        few = is.few;
        some = is.some;
        within = is.within;
        used = is.used;
        left = is.left;
        ready = λ o. (
          λ has. ⊎_elim
              (λ (same : o ≡ s). subst (λ k. (k < length table.stages) × IsRetiredBy at (stage_of table k)) (sym same) (here.0, subst (IsRetiredBy at) (sym retired) (omega arith)))
              (λ had. let h = (is.ready o).0 had in (h.0, retired_longer table.mark at (stage_of table o) (omega arith) h.1))
              ((more o).0 has),
          λ is'. (more o).1 (⊎_elim
              (λ before. inr ((is.ready o).1 (is'.0, before)))
              (λ between. ⊎_elim (λ (same : s ≡ o). inl (sym same))
              (λ rest. absurd (not_in at (stage_of table o) (after_waits at (stage_of table o) (subst (λ x. IsBefore x (stage_of table o)) retired (rest_later s o front rest))) is'.1))
              (first_or_rest s (drop 1 waiting.items) o ((others.all o).1 (is'.0, retired_in_waits table.mark at (stage_of table o) between))))
              (by_mark table.mark at (stage_of table o) (omega arith) is'.1)),
        );
        queue = record {
          all = λ o. (
            λ has. let h = (others.all o).0 (suc has.0, omega (arith, has.1), has.2) in
                (h.0, after_waits at (stage_of table o) (subst (λ x. IsBefore x (stage_of table o)) retired (rest_later s o front has))),
            λ is'. ⊎_elim (λ (same : s ≡ o). absurd (not_in at (stage_of table o) is'.1 (subst (IsRetiredBy at) (sym (sym (ap (stage_of table) same) ∙ retired)) (omega arith)))) (λ rest. rest)
                (first_or_rest s (drop 1 waiting.items) o ((others.all o).1 (is'.0, waits_less table.mark at (stage_of table o) (omega arith) is'.1))),
          );
          order = λ i j d less within. others.order (suc i) (suc j) d (omega arith) (omega arith);
        };
        room = is.room;
      }) where
        not_in : (at : ℕ) (x : Stage) → IsWaiting at x → IsRetiredBy at x → ⊥
        not_in at x waits retired = retired_not_waiting at x retired waits

  -- the mark moved past the last retirement before it
  pub sets-mark : (mark : ℕ) → table.mark ≤ mark → ((slice : ℕ) → slice < length table.stages → RetiredIn table.mark mark (stage_of table slice) → ⊥) →
      AreSets (record table { mark = mark }) in_use with_room clearable waiting
  sets-mark mark more none = record {
    few = is.few;
    some = is.some;
    within = is.within;
    used = is.used;
    left = is.left;
    ready = λ o. (
      λ has. let h = (is.ready o).0 has in (h.0, retired_longer table.mark mark (stage_of table o) more h.1),
      λ is'. (is.ready o).1 (is'.0, ⊎_elim (λ before. before) (λ between. absurd (none o is'.0 between)) (by_mark table.mark mark (stage_of table o) more is'.1)),
    );
    queue = queue-mark table (record table { mark = mark }) waiting.items is.queue refl more none;
    room = is.room;
  }

-- a set that is empty has none, and the lowest of a set is the lowest
pub lowest_of : (holds : Stage → Type 0) (table : StageTable) (seen : List ℕ) (found : Option ℕ) → AreAll holds table seen → MatchOption found (IsEmpty seen) (IsLowestOf seen) →
    MatchOption found (HoldsOfNone holds table) (IsLowest holds table)
lowest_of holds table seen None are none = λ slice in' is. none slice ((are slice).1 (in', is))
lowest_of holds table seen (Some s) are lowest =
    let here = (are s).0 lowest.in_set in
    record { in_range = here.0; is = here.1; lowest = λ lower less is. lowest.lowest lower less ((are lower).1 (omega (arith, here.0), is)) }

-- the sets of slices none of which is claimed
pub sets-new : (slices columns : ℕ) (used left ready : List ℕ) → slices ≤ MOST_SLICES → 1 ≤ columns → ((o : ℕ) → Contains used o ↔ (o < slices)) → ((o : ℕ) → Contains left o ↔ (o < slices)) → ready ≡ [] →
    AreSets (record { columns = columns; stages = replicate slices empty_stage; mark = 0 }) used left ready (buffer [] slices)
sets-new slices columns used left ready few some are_used are_left none =
    let size = length-replicate slices empty_stage in
    let table : StageTable = record { columns = columns; stages = replicate slices empty_stage; mark = 0 } in
    let is_empty : (o : ℕ) → o < slices → stage_of table o ≡ empty_stage = λ o below. get_or-replicate slices o empty_stage empty_stage below in
    let all : (holds : Stage → Type 0) → holds empty_stage → (seen : List ℕ) → ((o : ℕ) → Contains seen o ↔ (o < slices)) → AreAll holds table seen = λ holds is seen are o. (
      λ has. let below = (are o).0 has in (omega (arith, size), subst holds (sym (is_empty o below)) is),
      λ h. (are o).1 (omega (arith, h.0, size)),
    ) in
    let nothing : (holds : Stage → Type 0) → (holds empty_stage → ⊥) → AreAll holds table [] = λ holds not o. (
      λ has. absurd (omega (arith, has.1)),
      λ h. absurd (not (subst holds (is_empty o (omega (arith, h.0, size))) h.1)),
    ) in
    record {
      few = omega (arith, size);
      some = some;
      within = All-replicate (HasColumnsLeft columns) slices empty_stage some;
      used = all IsUsed tt used are_used;
      left = all (HasLeft columns) some left are_left;
      ready = subst (λ (xs : List ℕ). AreAll (IsRetiredBy 0) table xs) (sym none) (nothing (IsRetiredBy 0) (λ x. x));
      queue = record {
        all = nothing (IsWaiting 0) (λ x. x);
        order = λ i j d less within. absurd (omega (arith, within));
      };
      room = omega (arith, size);
    }
