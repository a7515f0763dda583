-- What the desk keeps after a take, after a Clear and after an Opened.
use Rattle.std.proofs.Common.{◌≡◌, ℕ, ◌+◌, ◌<◌, ◌≤◌, Bool, false, List, [], ◌∷◌, ◌++◌, length, None, refl, sym, ap, ◌∙◌, subst, arith}
use Rattle.std.proofs.lemmas.List.{length-append, length-set}
use Rattle.document_store.specs.Slots.{IsColumn, Table, with_slice, with_slot, without_slice}
use Rattle.document_store.specs.declared.column.Column.TheVariants as became
use Rattle.document_store.specs.declared.slots.Slot.{Slot}
use Rattle.funnel_model.specs.declared.config.Config.{Config}
use Rattle.funnel_model.specs.declared.event.Event.{Event}
use Rattle.funnel_model.specs.declared.event.Event.TheVariants as event
use Rattle.funnel_model.specs.Events.{commit_of, finds_or_ends, moves, next_after}
use Rattle.funnel_model.specs.Legal.{IsAllowed, Limits, awaited}
use Rattle.funnel_model.proofs.CausedMoves.{caused-still}
use Rattle.funnel_model.proofs.Claims.{take_follows, take_within}
use Rattle.funnel_model.proofs.Histories.{legal-push}
use Rattle.funnel_model.proofs.NextEvents.{awaited-push, clears_in_range}
use Rattle.row_layout.proofs.SoundHistories.{sound-push}
use Rattle.row_layout.specs.Sound.{HasItsBits}
use Rattle.slice_rule.specs.Pools.{PoolId}
use Rattle.slice_stages.specs.Stages.{StageTable, empty_stage, stage_of, with_stage}
use Rattle.slice_stages.specs.declared.stage.Stage.{Stage}
use Rattle.slice_stages.specs.declared.stage.Stage.TheVariants as stage
use Rattle.commit_desk.specs.Kept.{Books, HasFew, IsDesk, AreBooksOf}
use Rattle.commit_desk.specs.Layouts.{AreLayoutsOf, LayoutsState}
use Rattle.commit_desk.specs.Treatments.{IsRenewed}
use Rattle.commit_desk.specs.Records.{AreListed, AreRecorded}
use Rattle.commit_desk.proofs.Journals.{journal-silent}
use Rattle.commit_desk.proofs.LayoutEvents.{layouts-clear, layouts-quiet}
use Rattle.commit_desk.proofs.ListedKept.{listed-clear, listed-one, listed-opened}
use Rattle.commit_desk.proofs.Marks.{mark-same}
use Rattle.commit_desk.proofs.RecordFacts.{is_column, none_live_in_free, none_live_to_clear}
use Rattle.commit_desk.proofs.RecordsKept.{recorded-clear, recorded-opened, recorded-take}
use Rattle.commit_desk.proofs.StageReadings.{AreAtStages}
use Rattle.commit_desk.proofs.StagesKept.{stages-clear, stages-opened, stages-take}
use Rattle.commit_desk.proofs.TokenEvents.{tokens-same}

pending_not_live : (pass added since : ℕ) → became.Pending pass ≡ became.Live added since → ⊥
pending_not_live pass added since is = cc

-- the books after an event that changes no commit and no find
abbrev pub books_after : Books → ℕ → Table → StageTable → Books
books_after books events table stages = record books { events = events; table = table; stages = stages }

module _ (config : Config) (limits : Limits) (most : ℕ) (history : List Event) (books : Books) (is : AreBooksOf config limits most history books) where
  -- an event that is no commit, and neither begins nor ends a find
  kept-event : (e : Event) → IsAllowed limits history e → commit_of e ≡ None → ((pass : ℕ) → finds_or_ends pass e ≡ false) → HasItsBits config history e → moves e ≡ false → HasFew most limits.passes (history ++ e ∷ []) →
      (table : Table) (stages : StageTable) → AreRecorded limits (history ++ e ∷ []) table → AreListed table books.live → length stages.stages ≡ limits.slices → stages.columns ≡ limits.columns →
      stages.mark ≡ books.stages.mark → AreAtStages limits (history ++ e ∷ []) table stages → (layouts : LayoutsState) → AreLayoutsOf config limits.slices (history ++ e ∷ []) layouts →
      AreBooksOf config limits most (history ++ e ∷ []) (books_after (record books { layouts = layouts }) (length history + 1) table stages)
  kept-event e allowed no_commit no_find bits unmoved few table stages recorded listed size columns mark each layouts layouts_are = record {
    few = few;
    legal = legal-push limits history e is.legal allowed;
    sound = sound-push config history e is.sound bits;
    caused = caused-still history e is.caused unmoved;
    slices_are = is.slices_are;
    columns_are = is.columns_are;
    events_are = sym (length-append history (e ∷ []));
    journal_is = journal-silent limits.commits history e books.journal no_commit is.journal_is;
    recorded = recorded;
    listed = listed;
    tokens_are = tokens-same limits history e books.tokens no_find is.tokens_are;
    staged = record {
      count = size;
      columns_are = columns;
      each = each;
      mark_within = subst (λ m. m ≤ length (history ++ e ∷ [])) (sym mark) (mark-same history e books.stages.mark is.staged.mark_within);
      none_before = λ pass number opened. subst (λ m. m ≤ number) (sym mark) (is.staged.none_before pass number opened);
    };
    layouts_are = layouts_are;
  }

  -- the stages with another for one slice are as many
  size-with : (s : ℕ) (next : Stage) → length (with_stage books.stages s next).stages ≡ limits.slices
  size-with s next = length-set books.stages.stages s next ∙ is.staged.count

  -- a pass takes the next column of a slice
  pub kept-take : (pass s first over : ℕ) → IsAllowed limits history (event.Take pass s first) → HasFew most limits.passes (history ++ event.Take pass s first ∷ []) →
      stage_of books.stages s ≡ stage.InUse first over →
      AreBooksOf config limits most (history ++ event.Take pass s first ∷ [])
      (books_after books (length history + 1) (with_slot books.table s first (record { column = became.Pending pass; doc = None })) (with_stage books.stages s (stage.InUse (first + 1) over)))
  kept-take pass s first over allowed few at_stage =
      let e = event.Take pass s first in
      let y : Slot = record { column = became.Pending pass; doc = None } in
      let here = is_column limits history books.table is.legal is.recorded s first (take_follows limits history pass s first is.legal allowed).in_range
      (take_within limits history pass s first is.legal allowed) in
      let at : IsColumn books.table s first = record { slice_in_range = here.slice_in_range; column_in_range = here.column_in_range } in
      kept-event e allowed refl (λ p. refl) tt refl few (with_slot books.table s first y) (with_stage books.stages s (stage.InUse (first + 1) over))
      (recorded-take limits history books.table is.legal is.recorded pass s first allowed at)
      (listed-one books.table books.live is.recorded.size is.listed s first y at (λ doc l. pending_not_live pass l.added l.since l.column)
      (none_live_in_free limits history books.table is.legal is.recorded pass s first allowed at))
      (size-with s (stage.InUse (first + 1) over)) is.staged.columns_are refl
      (stages-take limits history books.table books.stages is.legal is.recorded is.staged.count is.staged.each pass s first over y refl allowed at_stage)
      books.layouts (layouts-quiet config limits.slices history e books.layouts refl (λ slice. refl) is.layouts_are)

  -- a pass begins to clear a slice
  pub kept-clear : (pass s : ℕ) (layouts : LayoutsState) → IsRenewed books.layouts s layouts → IsAllowed limits history (event.Clear pass s) →
      HasFew most limits.passes (history ++ event.Clear pass s ∷ []) →
      AreBooksOf config limits most (history ++ event.Clear pass s ∷ [])
      (books_after (record books { layouts = layouts }) (length history + 1) (without_slice books.table s) (with_stage books.stages s (stage.Clearing pass)))
  kept-clear pass s layouts renewed allowed few =
      let e = event.Clear pass s in
      let in' = allowed.rule.in_range in
      let within : s < books.table.slices = let h = is.recorded.slices_are in omega arith in
      kept-event e allowed refl (λ p. refl) tt refl few (without_slice books.table s) (with_stage books.stages s (stage.Clearing pass))
      (recorded-clear limits history books.table is.legal is.recorded pass s allowed in')
      (listed-clear books.table books.live is.recorded.size is.listed s within
      (λ column doc below l. none_live_to_clear limits history books.table is.legal is.recorded s column doc (record { slice_in_range = within; column_in_range = below }) allowed.rule.can_clear l))
      (size-with s (stage.Clearing pass)) is.staged.columns_are refl
      (stages-clear limits history books.table books.stages is.legal is.recorded is.staged.count is.staged.each pass s allowed)
      layouts (layouts-clear config limits.slices history pass s books.layouts layouts in' renewed is.layouts_are)

  -- a pass opens the slice that it cleared
  pub kept-opened : (pass s : ℕ) (alone : Bool) → 0 < limits.columns → IsAllowed limits history (event.Opened pass s alone) → HasFew most limits.passes (history ++ event.Opened pass s alone ∷ []) →
      AreBooksOf config limits most (history ++ event.Opened pass s alone ∷ []) (books_after books (length history + 1) (with_slice books.table s) (with_stage books.stages s empty_stage))
  kept-opened pass s alone some allowed few =
      let e = event.Opened pass s alone in
      let in' = clears_in_range limits history is.legal pass s allowed.rule.cleared in
      kept-event e allowed refl (λ p. refl) tt refl few (with_slice books.table s) (with_stage books.stages s empty_stage)
      (recorded-opened limits history books.table is.legal is.recorded pass s alone allowed in')
      (listed-opened books.table books.live is.recorded.size is.listed s)
      (size-with s empty_stage) is.staged.columns_are refl
      (stages-opened limits history books.table books.stages is.legal is.recorded is.staged.count is.staged.each pass s alone some allowed)
      books.layouts (layouts-quiet config limits.slices history e books.layouts refl (λ slice. refl) is.layouts_are)

-- what is kept, under other names
pub kept-as : (config : Config) (limits : Limits) (most : ℕ) (history later : List Event) (books : Books) (events : ℕ) (table : Table) (stages : StageTable) →
    later ≡ history → events ≡ books.events → table ≡ books.table → stages ≡ books.stages → AreBooksOf config limits most history books →
    AreBooksOf config limits most later (books_after books events table stages)
kept-as config limits most history later books events table stages grown events_are table_is stages_are is =
    subst (λ (h : List Event). AreBooksOf config limits most h (books_after books events table stages)) (sym grown)
    (subst (λ n. AreBooksOf config limits most history (books_after books n table stages)) (sym events_are)
    (subst (λ (t : Table). AreBooksOf config limits most history (books_after books books.events t stages)) (sym table_is)
    (subst (λ (s : StageTable). AreBooksOf config limits most history (books_after books books.events books.table s)) (sym stages_are) is)))

-- a desk with other books after an event that asks for no other
pub desk-with : (pool next : PoolId) (most : ℕ) (was history later : List Event) (books books_now : Books) (e : Event) → next ≡ pool → later ≡ history ++ e ∷ [] → next_after e ≡ None →
    IsDesk pool most was books → AreBooksOf pool.config pool.limits most later books_now → IsDesk next most later books_now
desk-with pool next most was history later books books_now e same grown none is kept =
    subst (λ (p : PoolId). IsDesk p most later books_now) (sym same) (record {
      in_range = is.in_range;
      sizes = is.sizes;
      some = is.some;
      bounded = is.bounded;
      none_awaited = ap awaited grown ∙ awaited-push history e ∙ none;
      kept = kept;
    })
