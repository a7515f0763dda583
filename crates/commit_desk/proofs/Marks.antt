-- The mark up to which retired slices can be cleared: each running find began at it or after it.
use Rattle.std.proofs.Common.{◌≡◌, ◌⊎◌, ⊎_elim, inl, inr, ℕ, ◌+◌, ◌<◌, ◌≤◌, ◌≢◌, List, [], ◌∷◌, ◌++◌, length, set, Option, Some, None, sym, ap, ◌∙◌, subst, arith, MatchOption}
use Rattle.std.proofs.lemmas.Bool.{cases_eq}
use Rattle.std.proofs.lemmas.List.{get_or-set_other, get_or-set_same, length-append}
use Rattle.document_store.specs.Slots.{Table}
use Rattle.funnel_model.specs.declared.event.Event.{Event}
use Rattle.funnel_model.specs.declared.event.Event.TheVariants as event
use Rattle.funnel_model.specs.Legal.{CanClear, IsIdle, Limits, IsLegal, MayClear, NoneCanClear}
use Rattle.funnel_model.specs.Slices.{IsRetired, IsRetiredAt}
use Rattle.funnel_model.specs.Tokens.{IsGuarded}
use Rattle.funnel_model.proofs.Retirement.{retires_once}
use Rattle.slice_stages.specs.Stages.{HoldsOfNone, IsLowest, IsRetiredBy, StageTable, stage_of}
use Rattle.slice_stages.specs.declared.stage.Stage.{Stage}
use Rattle.slice_stages.specs.declared.stage.Stage.TheVariants as stage
use Rattle.token_manager.specs.Guarding.{HasOpened, IsOldest, NoneOpen}
use Rattle.slice_rule.specs.Pools.{PoolId}
use Rattle.commit_desk.specs.Kept.{AreStages, AreTokens, Books, IsAtStage, IsDesk, IsNextMark, MovesMark}
use Rattle.commit_desk.specs.Records.{AreRecorded}
use Rattle.commit_desk.proofs.Options.{none_some, some_same}
use Rattle.commit_desk.proofs.StageFacts.{retired_since, retired_stage}
use Rattle.token_manager.proofs.Oldest.{le_or_lt}

-- each running find began at the mark or after it
abbrev pub NoneBeforeMark : List (Option ℕ) → ℕ → Type 0
NoneBeforeMark tokens mark = (pass number : ℕ) → HasOpened tokens pass number → mark ≤ number

-- the slice is the lowest that can be cleared
record IsLowestClearable (limits : Limits) (history : List Event) (slice : ℕ) : Type 0 where
  pub in_range : slice < limits.slices
  pub can_clear : CanClear limits.columns history slice
  pub lowest : (lower : ℕ) → lower < slice → CanClear limits.columns history lower → ⊥

-- an event leaves the mark within the history
pub mark-same : (history : List Event) (e : Event) (mark : ℕ) → mark ≤ length history → mark ≤ length (history ++ e ∷ [])
mark-same history e mark within = omega (arith, length-append history (e ∷ []))

-- a find that begins now is the newest
pub mark-find : (tokens : List (Option ℕ)) (pass mark events : ℕ) → pass < length tokens → mark ≤ events → NoneBeforeMark tokens mark →
    NoneBeforeMark (set tokens pass (Some (events + 1))) mark
mark-find tokens pass mark events in' within none other number opened =
    ⊎_elim
    (λ (same : other ≡ pass).
    let is = some_same (events + 1) number (sym (get_or-set_same tokens pass (Some (events + 1)) None in') ∙ subst (λ p. HasOpened (set tokens pass (Some (events + 1))) p number) same opened) in
    omega arith)
    (λ (apart : other ≢ pass). none other number (sym (get_or-set_other tokens pass other (Some (events + 1)) None apart) ∙ opened))
    (cases_eq other pass)

-- a find that ends leaves the others
pub mark-end : (tokens : List (Option ℕ)) (pass mark : ℕ) → pass < length tokens → NoneBeforeMark tokens mark → NoneBeforeMark (set tokens pass None) mark
mark-end tokens pass mark in' none other number opened =
    ⊎_elim
    (λ (same : other ≡ pass).
    absurd (none_some number (sym (get_or-set_same tokens pass None None in') ∙ subst (λ p. HasOpened (set tokens pass None) p number) same opened)))
    (λ (apart : other ≢ pass). none other number (sym (get_or-set_other tokens pass other None None apart) ∙ opened))
    (cases_eq other pass)

-- each running find began there or later
next_mark_before : (history : List Event) (tokens : List (Option ℕ)) (mark : ℕ) → IsNextMark (length history) tokens mark → NoneBeforeMark tokens mark
next_mark_before history tokens mark next pass number opened =
    ⊎_elim (λ (is : IsOldest tokens mark). is.oldest pass number opened) (λ (past : NoneOpen tokens × (mark ≡ length history)). absurd (past.0 pass number opened)) next

-- and it is within the history
next_mark_within : (limits : Limits) (history : List Event) (tokens : List (Option ℕ)) (mark : ℕ) → AreTokens limits history tokens → IsNextMark (length history) tokens mark → mark ≤ length history
next_mark_within limits history tokens mark are next =
    ⊎_elim
    (λ (is : IsOldest tokens mark).
    let token = (are.each is.pass mark).0 is.opened in
    let count = token.count in
    omega (arith, ap length token.whole, length-append token.earlier (event.Find is.pass token.query ∷ token.later)))
    (λ (past : NoneOpen tokens × (mark ≡ length history)). omega (arith, past.1))
    next

-- the stages with another mark
mark-look : (limits : Limits) (history : List Event) (table : Table) (tokens : List (Option ℕ)) (stages : StageTable) (mark : ℕ) → mark ≤ length history →
    NoneBeforeMark tokens mark → AreStages limits history table tokens stages → AreStages limits history table tokens (record stages { mark = mark })
mark-look limits history table tokens stages mark within none are = record {
  count = are.count;
  columns_are = are.columns_are;
  each = are.each;
  mark_within = within;
  none_before = none;
}

-- a slice didn't retire after the history
retired_within : (columns slice number : ℕ) (history : List Event) → IsRetiredAt columns slice history number → number ≤ length history
retired_within columns slice number history at =
    let count = at.count in omega (arith, ap length at.whole, length-append at.earlier (at.event ∷ at.later))

module _ (limits : Limits) (history : List Event) (table : Table) (tokens : List (Option ℕ)) (stages : StageTable) (legal : IsLegal limits history) (recorded : AreRecorded limits history table) (tokens_are : AreTokens limits history tokens) (staged : AreStages limits history table tokens stages) where
  -- a slice that retired up to the mark can be cleared
  pub by_mark : (slice : ℕ) (s : Stage) → IsAtStage limits.columns history table slice s → IsRetiredBy stages.mark s → CanClear limits.columns history slice
  by_mark slice (stage.InUse first over) at by = absurd by
  by_mark slice (stage.Clearing pass) at by = absurd by
  by_mark slice (stage.Retired number) at by = record {
    retired = retired_since limits.columns slice number history at;
    unguarded = λ guarded.
        let guards = guarded.2 in
        let same = retires_once limits.columns slice guards.retired_at number history guards.at_event at.retired in
        let began = staged.none_before guarded.0 guarded.1 ((tokens_are.each guarded.0 guarded.1).1 guards.token) in
        let before = guards.before in
        absurd (omega arith);
  }

  -- one that retired later is guarded by the oldest find
  pub after_mark : (slice number : ℕ) → IsNextMark (length history) tokens stages.mark → IsRetired limits.columns slice history → IsRetiredAt limits.columns slice history number → stages.mark < number →
      IsGuarded limits.columns history slice
  after_mark slice number next retired at less =
      ⊎_elim
      (λ (is : IsOldest tokens stages.mark). (
        is.pass,
        stages.mark,
        record {
          token = (tokens_are.each is.pass stages.mark).0 is.opened;
          retired = retired;
          retired_at = number;
          at_event = at;
          before = less;
        },
      ))
      (λ (past : NoneOpen tokens × (stages.mark ≡ length history)). let within = retired_within limits.columns slice number history at in absurd (omega (arith, past.1)))
      next

  -- a retired slice retired up to the mark, or is guarded
  by_mark_or_guarded : (slice : ℕ) → slice < limits.slices → IsNextMark (length history) tokens stages.mark → IsRetired limits.columns slice history →
      IsRetiredBy stages.mark (stage_of stages slice) ⊎ IsGuarded limits.columns history slice
  by_mark_or_guarded slice in' next retired =
      let s = retired_stage limits history table legal recorded slice in' (stage_of stages slice) (staged.each slice in') retired in
      ⊎_elim
      (λ (up : s.0 ≤ stages.mark). inl (subst (IsRetiredBy stages.mark) (sym s.1) up))
      (λ (late : stages.mark < s.0). inr (after_mark slice s.0 next retired s.2 late))
      (le_or_lt s.0 stages.mark)

  -- the lowest slice that retired up to the mark is the lowest that can be cleared
  lowest_clearable : IsNextMark (length history) tokens stages.mark → (lowest : Option ℕ) →
      MatchOption lowest (HoldsOfNone (IsRetiredBy stages.mark) stages) (IsLowest (IsRetiredBy stages.mark) stages) →
      MatchOption lowest (NoneCanClear limits history) (IsLowestClearable limits history)
  lowest_clearable next None none = λ slice in' retired.
      ⊎_elim
      (λ (up : IsRetiredBy stages.mark (stage_of stages slice)). absurd (none slice (let c = staged.count in omega arith) up))
      (λ (guarded : IsGuarded limits.columns history slice). guarded)
      (by_mark_or_guarded slice in' next retired)
  lowest_clearable next (Some slice) is =
      let below : slice < limits.slices = let c = staged.count in let h = is.in_range in omega arith in record {
        in_range = below;
        can_clear = by_mark slice (stage_of stages slice) (staged.each slice below) is.is;
        lowest = λ lower less can.
            ⊎_elim
            (λ (up : IsRetiredBy stages.mark (stage_of stages lower)). is.lowest lower less up)
            (λ (guarded : IsGuarded limits.columns history lower). can.unguarded guarded)
            (by_mark_or_guarded lower (omega (arith, less)) next can.retired);
      }

-- a desk with another mark
desk-look : (pool : PoolId) (most : ℕ) (history : List Event) (books : Books) (mark : ℕ) → IsDesk pool most history books →
    IsNextMark (length history) books.tokens mark → IsDesk pool most history (record books { stages = record books.stages { mark = mark } })
desk-look pool most history books mark is next =
    let kept = is.kept in record {
      in_range = is.in_range;
      sizes = is.sizes;
      some = is.some;
      bounded = is.bounded;
      none_awaited = is.none_awaited;
      kept = record {
        few = kept.few;
        legal = kept.legal;
        sound = kept.sound;
        caused = kept.caused;
        slices_are = kept.slices_are;
        columns_are = kept.columns_are;
        events_are = kept.events_are;
        journal_is = kept.journal_is;
        recorded = kept.recorded;
        listed = kept.listed;
        tokens_are = kept.tokens_are;
        staged = mark-look pool.limits history books.table books.tokens books.stages mark
            (next_mark_within pool.limits history books.tokens mark kept.tokens_are next) (next_mark_before history books.tokens mark next) kept.staged;
        layouts_are = kept.layouts_are;
      };
    }

-- an idle pass may clear the lowest slice that can be cleared
may_by : (limits : Limits) (history : List Event) (o : Option ℕ) → MatchOption o (NoneCanClear limits history) (IsLowestClearable limits history) →
    MatchOption o (NoneCanClear limits history) (λ slice. (pass : ℕ) → IsIdle pass history → MayClear limits history pass slice)
may_by limits history None none = none
may_by limits history (Some slice) lowest = λ pass idle. record {
  idle = idle;
  in_range = lowest.in_range;
  can_clear = lowest.can_clear;
  lowest = lowest.lowest;
}

-- a desk whose mark has moved
module _ (pool : PoolId) (most : ℕ) (history : List Event) (books : Books) (is : IsDesk pool most history books) (stages : StageTable)
    (moved : MovesMark books.events books.tokens books.stages stages) where
  pub next_now : IsNextMark (length history) books.tokens stages.mark
  next_now = subst (λ n. IsNextMark n books.tokens stages.mark) is.kept.events_are moved.next

  pub desk-moved : IsDesk pool most history (record books { stages = stages })
  desk-moved =
      subst (λ (s : StageTable). IsDesk pool most history (record books { stages = s })) (sym moved.is) (desk-look pool most history books stages.mark is next_now)

  -- the lowest slice that retired up to the mark
  pub clearable_now : (lowest : Option ℕ) → MatchOption lowest (HoldsOfNone (IsRetiredBy stages.mark) stages) (IsLowest (IsRetiredBy stages.mark) stages) →
      MatchOption lowest (NoneCanClear pool.limits history) (λ slice. (pass : ℕ) → IsIdle pass history → MayClear pool.limits history pass slice)
  clearable_now lowest found =
      let kept = desk-moved.kept in
      may_by pool.limits history lowest
      (lowest_clearable pool.limits history books.table books.tokens stages kept.legal kept.recorded kept.tokens_are kept.staged next_now lowest found)
