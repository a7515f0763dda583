-- What is kept beside the empty history.
use Rattle.std.proofs.Common.{◌≡◌, ℕ, zero, suc, ◌+◌, ◌*◌, ◌-◌, ◌^◌, ◌%◌, ◌<◌, ◌≤◌, false, List, [], length, take, drop, get_or, count_by, Option, None, sym, refl, ap, ◌∙◌, subst, arith}
use Rattle.std.proofs.lemmas.Bool.{false≢true}
use Rattle.std.proofs.lemmas.List.{drop-replicate, get_or-replicate, length-replicate, take-replicate}
use Rattle.std.proofs.lemmas.Nat.{mul-le, pow_below, pow_pos}
use Rattle.std.specs.Prelude.{replicate}
use Rattle.document_store.proofs.SlotLemmas.{column_within}
use Rattle.document_store.specs.Documents.{Parts}
use Rattle.document_store.specs.Entries.{Entries}
use Rattle.document_store.specs.Entries.{column_of as entry_of}
use Rattle.document_store.specs.Slots.{IsColumn, Table, free_slot, slot_at, slots_of, is_over}
use Rattle.document_store.specs.declared.slots.Slot.{Slot}
use Rattle.funnel_model.specs.declared.config.Config.{Config}
use Rattle.funnel_model.specs.Configuration.{IsInRange}
use Rattle.funnel_model.specs.Sizes.{columns_of_slice}
use Rattle.funnel_model.specs.Legal.{Limits}
use Rattle.funnel_model.proofs.CausedMoves.{caused-start}
use Rattle.funnel_model.proofs.Columns.{in_state-start}
use Rattle.funnel_model.proofs.OpenTokens.{no_token_at_start}
use Rattle.row_layout.proofs.SoundHistories.{sound-start}
use Rattle.slice_stages.specs.declared.stage.Stage.{Stage}
use Rattle.slice_stages.specs.Stages.{StageTable, empty_stage}
use Rattle.token_manager.specs.Guarding.{HasOpened}
use Rattle.commit_desk.specs.Journals.{IsJournalOf}
use Rattle.row_layout.specs.Layouts.{own_layout}
use Rattle.commit_desk.specs.Kept.{AreStages, AreTokens, Books, IsAtStage, AreBooksOf}
use Rattle.commit_desk.specs.Records.{AreListed, AreRecorded, IsLiveIn, IsRecorded}
use Rattle.commit_desk.proofs.Few.{few-new}
use Rattle.commit_desk.proofs.Journals.{journal-new}
use Rattle.commit_desk.specs.Layouts.{AreFirst}
use Rattle.commit_desk.proofs.LayoutEvents.{layouts-new}
use Rattle.commit_desk.proofs.Options.{free_not_live, none_some}
use Rattle.commit_desk.proofs.Slots.{none_over}

module _ (limits : Limits) (table : Table) (live : Entries) (table_slices : table.slices ≡ limits.slices) (table_columns : table.columns ≡ limits.columns)
    (free : table.slots ≡ replicate (limits.slices * limits.columns) free_slot) (all_there : table.out ≡ replicate limits.slices false)
    (no_entry : (id : ℕ) → entry_of live id ≡ None) (live_slices : live.slices ≡ limits.slices) (live_columns : live.columns ≡ limits.columns) where
  size : length table.slots ≡ table.slices * table.columns
  size = ap length free ∙ length-replicate (limits.slices * limits.columns) free_slot ∙ ap (λ n. n * limits.columns) (sym table_slices) ∙ ap (λ n. table.slices * n) (sym table_columns)

  -- each column is free
  slot_free : (slice column : ℕ) → IsColumn table slice column → slot_at table slice column ≡ free_slot
  slot_free slice column at =
      ap (λ xs. get_or xs (slice * table.columns + column) free_slot) free
      ∙ get_or-replicate (limits.slices * limits.columns) (slice * table.columns + column) free_slot free_slot
      (let h = column_within table slice column at size in let k = ap length free in omega (arith, h, k, length-replicate (limits.slices * limits.columns) free_slot))

  none_live : (slice column : ℕ) (doc : Parts) → IsColumn table slice column → IsLiveIn (slot_at table slice column) doc → ⊥
  none_live slice column doc at l = free_not_live l.added l.since (sym (ap (λ (x : Slot). x.column) (slot_free slice column at)) ∙ l.column)

  none_over_in : (slice : ℕ) → slice < limits.slices → 0 ≡ count_by is_over (slots_of table slice)
  none_over_in slice in' =
      sym (ap (λ xs. count_by is_over (take table.columns (drop (slice * table.columns) xs))) free
      ∙ ap (λ xs. count_by is_over (take table.columns xs)) (drop-replicate (slice * table.columns) (limits.slices * limits.columns) free_slot)
      ∙ ap (count_by is_over) (take-replicate table.columns (limits.slices * limits.columns - slice * table.columns) free_slot (room_for table.columns table_columns))
      ∙ none_over table.columns) where
        room_for : (n : ℕ) → n ≡ limits.columns → n ≤ limits.slices * limits.columns - slice * n
        room_for n is = subst (λ k. k ≤ limits.slices * limits.columns - slice * k) (sym is)
            (let more : suc slice * limits.columns ≤ limits.slices * limits.columns = mul-le (suc slice) limits.columns limits.slices limits.columns in' (omega arith) in
            let split : suc slice * limits.columns ≡ slice * limits.columns + limits.columns = suc_times slice limits.columns in
            omega (arith, more, split)) where
              suc_times : (a b : ℕ) → suc a * b ≡ a * b + b
              suc_times a b = omega arith

  recorded-new : AreRecorded limits [] table
  recorded-new = record {
    slices_are = table_slices;
    columns_are = table_columns;
    size = size;
    out_size = ap length all_there ∙ length-replicate limits.slices false ∙ sym table_slices;
    each = λ slice column at uncleared. subst (IsRecorded [] slice column) (sym (slot_free slice column at))
        (record { fits = refl; state = in_state-start slice column; words_of_text = λ doc is. cc });
    out = λ slice in'. ap (λ xs. get_or xs slice false) all_there ∙ get_or-replicate limits.slices slice false false (let h = table_slices in omega (arith, in', h));
    cleared = λ slice in' clearing. absurd (false≢true clearing);
  }

  listed-new : AreListed table live
  listed-new = record {
    slices_are = live_slices ∙ sym table_slices;
    columns_are = live_columns ∙ sym table_columns;
    listed = λ id slice column found. absurd (none_some (slice, column) (sym (no_entry id) ∙ found));
    every = λ slice column doc at l. absurd (none_live slice column doc at l);
  }

  stages-new : (tokens : List (Option ℕ)) (stages : StageTable) → 1 ≤ limits.columns → tokens ≡ replicate limits.passes None → stages.columns ≡ limits.columns →
      stages.stages ≡ replicate limits.slices empty_stage → stages.mark ≡ 0 → AreStages limits [] table tokens stages
  stages-new tokens stages some tokens_are columns_are all mark = record {
    count = ap length all ∙ length-replicate limits.slices empty_stage;
    columns_are = columns_are;
    each = λ slice below. subst (IsAtStage limits.columns [] table slice) (sym (ap (λ (xs : List Stage). get_or xs slice empty_stage) all ∙ get_or-replicate limits.slices slice empty_stage empty_stage below))
        (record { not_clearing = refl; claims = refl; within = omega arith; count = none_over_in slice below; some_left = some });
    mark_within = omega (arith, mark);
    none_before = λ pass number opened. omega (arith, mark);
  }

-- no pass has a token
never_opened : (passes pass number : ℕ) → HasOpened (replicate passes None) pass number → ⊥
never_opened zero pass number opened = none_some number opened
never_opened (suc n) zero number opened = none_some number opened
never_opened (suc n) (suc pass) number opened = never_opened n pass number opened

tokens-new : (limits : Limits) (tokens : List (Option ℕ)) → tokens ≡ replicate limits.passes None → AreTokens limits [] tokens
tokens-new limits tokens are = record {
  count = ap length are ∙ length-replicate limits.passes None;
  each = λ pass number. (
    λ opened. absurd (never_opened limits.passes pass number (subst (λ (xs : List (Option ℕ)). HasOpened xs pass number) are opened)),
    λ token. absurd (no_token_at_start pass number token),
  );
}

-- the columns of a slice, as the code counts them
power_fits : (r : ℕ) → r ≤ 6 → 1 * 2 ^ r % 2 ^ 32 ≡ 2 ^ r
power_fits r few = let small = pow_below r 7 (omega (arith, few)) in omega (arith, small)

pub columns_as_made : (config : Config) → IsInRange config → 64 * (1 * 2 ^ config.max_rank % 2 ^ 32) * config.blocks ≡ columns_of_slice config
columns_as_made config is = ap (λ n. 64 * n * config.blocks) (power_fits config.max_rank is.max_rank)

pub some_columns : (config : Config) → IsInRange config → 1 ≤ columns_of_slice config
some_columns config is =
    let power = pow_pos config.max_rank in
    let low : 1 ≤ 64 * 2 ^ config.max_rank = omega (arith, power) in
    let product : 1 * 1 ≤ 64 * 2 ^ config.max_rank * config.blocks = mul-le 1 1 (64 * 2 ^ config.max_rank) config.blocks low is.blocks.0 in
    omega (arith, product)

-- the columns of all slices have numbers of 32 bits, and there are more of these
pub few_columns : (config : Config) → IsInRange config → config.slices * columns_of_slice config + 1 < 2 ^ 32
few_columns config is =
    let power = pow_below config.max_rank 7 (omega (arith, is.max_rank)) in
    let block : 64 * 2 ^ config.max_rank ≤ 64 * 128 = omega (arith, power) in
    let slice : 64 * 2 ^ config.max_rank * config.blocks ≤ 64 * 128 * 64 = mul-le (64 * 2 ^ config.max_rank) config.blocks (64 * 128) 64 block is.blocks.1 in
    let all : config.slices * columns_of_slice config ≤ 1024 * (64 * 128 * 64) = mul-le config.slices (columns_of_slice config) 1024 (64 * 128 * 64) is.slices.1 slice in
    omega (arith, all)

-- a desk without events
pub kept-new : (config : Config) (limits : Limits) (most : ℕ) (books : Books) → IsInRange config → 1 ≤ limits.columns → books.slices ≡ limits.slices → books.columns ≡ limits.columns → books.events ≡ 0 → books.journal ≡ record { most = limits.commits; place = 0; documents = 0; kept = [] } →
    books.table.slices ≡ limits.slices → books.table.columns ≡ limits.columns → books.table.slots ≡ replicate (limits.slices * limits.columns) free_slot → books.table.out ≡ replicate limits.slices false →
    ((id : ℕ) → entry_of books.live id ≡ None) → books.live.slices ≡ limits.slices → books.live.columns ≡ limits.columns → books.tokens ≡ replicate limits.passes None →
    books.stages.columns ≡ limits.columns → books.stages.stages ≡ replicate limits.slices empty_stage → books.stages.mark ≡ 0 →
    AreFirst limits.slices (own_layout config) books.layouts → AreBooksOf config limits most [] books
kept-new config limits most books in_range some slices columns events journal ts tc free there no_entry ls lc tokens sc stages mark layouts = record {
  few = few-new most limits.passes;
  legal = tt;
  sound = sound-start config;
  caused = caused-start;
  slices_are = slices;
  columns_are = columns;
  events_are = events;
  journal_is = subst (IsJournalOf limits.commits []) (sym journal) (journal-new limits.commits);
  recorded = recorded-new limits books.table books.live ts tc free there no_entry ls lc;
  listed = listed-new limits books.table books.live ts tc free there no_entry ls lc;
  tokens_are = tokens-new limits books.tokens tokens;
  staged = stages-new limits books.table books.live ts tc free there no_entry ls lc books.tokens books.stages some tokens sc stages mark;
  layouts_are = layouts-new config limits.slices books.layouts in_range layouts;
}
