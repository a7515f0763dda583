-- What the desk keeps, when a document is added, dropped and deleted.
use Rattle.std.proofs.Common.{◌≡◌, ℕ, ◌+◌, ◌-◌, ◌<◌, true, false, List, [], ◌∷◌, ◌++◌, cond, length, All, Option, Some, None, sym, refl, ap, ◌∙◌, subst, arith}
use Rattle.std.proofs.lemmas.Bool.{false≢true}
use Rattle.std.proofs.lemmas.List.{length-append, length-set}
use Rattle.std.specs.Prelude.{◌==◌}
use Rattle.document_store.specs.Documents.{Parts}
use Rattle.document_store.specs.Entries.{Entries}
use Rattle.document_store.specs.Entries.{column_of as entry_of}
use Rattle.document_store.specs.Slots.{IsColumn, Table, slot_at, with_slot}
use Rattle.document_store.specs.declared.column.Column.TheVariants as became
use Rattle.document_store.specs.declared.slots.Slot.{Slot}
use Rattle.funnel_model.specs.declared.bit_list.Bit.{Bit}
use Rattle.funnel_model.specs.declared.config.Config.{Config}
use Rattle.funnel_model.specs.declared.event.Event.{Event}
use Rattle.funnel_model.specs.declared.event.Event.TheVariants as event
use Rattle.funnel_model.specs.Events.{clears, finds_or_ends, moves, next_after, tuning_of}
use Rattle.funnel_model.specs.History.{has_cause, is_live, last_by, place}
use Rattle.funnel_model.specs.Legal.{IsAllowed, Limits}
use Rattle.funnel_model.specs.Sizes.{words_of_slice}
use Rattle.funnel_model.specs.Tunings.{treat}
use Rattle.funnel_model.specs.Words.{AreWordsOf, words}
use Rattle.funnel_model.proofs.CausedMoves.{caused-push}
use Rattle.funnel_model.proofs.Histories.{legal-push}
use Rattle.funnel_model.proofs.NextEvents.{awaited-push}
use Rattle.row_layout.proofs.BitLemmas.{rows-of_part}
use Rattle.row_layout.proofs.SoundHistories.{sound-push}
use Rattle.row_layout.specs.DocumentBits.{AreDocumentBitsIn}
use Rattle.row_layout.specs.Sound.{HasItsBits}
use Rattle.slice_rule.specs.Pools.{PoolId}
use Rattle.slice_stages.specs.Stages.{RetiredBefore, StageTable, after_end, stage_of, with_stage}
use Rattle.slice_stages.specs.declared.stage.Stage.TheVariants as stage
use Rattle.commit_desk.specs.Journals.{IsJournalOf, JournalState, with_commit}
use Rattle.commit_desk.specs.Kept.{AreStages, AreTokens, Books, HasFew, IsDesk}
use Rattle.commit_desk.specs.Layouts.{AreLayoutsOf}
use Rattle.commit_desk.specs.Records.{AreListed, AreRecorded, IsLiveIn}
use Rattle.commit_desk.proofs.Few.{few-next, few-start}
use Rattle.commit_desk.proofs.Journals.{journal-push, journal-silent}
use Rattle.commit_desk.proofs.LiveCounts.{count-added, count-deletes}
use Rattle.commit_desk.proofs.LayoutEvents.{layouts-quiet}
use Rattle.commit_desk.proofs.ListedKept.{listed-add, listed-delete, listed-one}
use Rattle.commit_desk.proofs.RecordFacts.{is_column, no_entry, none_live_in_pending}
use Rattle.commit_desk.proofs.RecordsKept.{recorded-add, recorded-delete, recorded-drop}
use Rattle.commit_desk.proofs.StageReadings.{AreAtStages, in_use_stage, live_in_use, retired_before, taken_in_use}
use Rattle.commit_desk.proofs.StagesKept.{stages-add, stages-delete, stages-drop}
use Rattle.commit_desk.proofs.TokenEvents.{tokens-same}

-- the bits of a document's words are those of its text's words
pub bits_of_text : (room : ℕ) (config : Config) (set : List (List ℕ)) (text : List ℕ) (s c : ℕ) (bits : List Bit) → AreWordsOf set text →
    AreDocumentBitsIn room config set s c bits → AreDocumentBitsIn room config (words text) s c bits
bits_of_text room config set text s c bits of_text are = record {
  rising = are.rising;
  exactly = λ bit. (
    λ has. let d = (are.exactly bit).0 has in (d.0, rows-of_part config set (words text) (λ word. (of_text word).0) d.0 d.1, d.2),
    λ d. (are.exactly bit).1 (d.0, rows-of_part config (words text) set (λ word. (of_text word).1) d.0 d.1, d.2),
  );
}

-- how far the slices are, with another table and, for one slice, another stage
pub staged_by : (limits : Limits) (history : List Event) (e : Event) (table next : Table) (tokens : List (Option ℕ)) (stages later : StageTable) → AreStages limits history table tokens stages →
    length later.stages ≡ length stages.stages → later.columns ≡ stages.columns → later.mark ≡ stages.mark → AreAtStages limits (history ++ e ∷ []) next later →
    AreStages limits (history ++ e ∷ []) next tokens later
staged_by limits history e table next tokens stages later are count columns mark each = record {
  count = count ∙ are.count;
  columns_are = columns ∙ are.columns_are;
  each = each;
  mark_within = let h = are.mark_within in omega (arith, length-append history (e ∷ []), mark);
  none_before = λ pass number opened. let h = are.none_before pass number opened in omega (arith, mark);
}

-- the same desk, where its parts are told by equal names
pub desk-as : (pool next : PoolId) (most : ℕ) (history later : List Event) (books : Books) (events : ℕ) (journal : JournalState) (table : Table) (live : Entries) (stages : StageTable) →
    IsDesk pool most history books → next ≡ pool → later ≡ history → events ≡ books.events → journal ≡ books.journal → table ≡ books.table → live ≡ books.live →
    stages ≡ books.stages → IsDesk next most later (record books { events = events; journal = journal; table = table; live = live; stages = stages })
desk-as pool next most history later books events journal table live stages is p h e j t l s =
    subst (λ (x : PoolId). IsDesk x most later (record books { events = events; journal = journal; table = table; live = live; stages = stages })) (sym p)
    (subst (λ (x : List Event). IsDesk pool most x (record books { events = events; journal = journal; table = table; live = live; stages = stages })) (sym h)
    (subst (λ (x : ℕ). IsDesk pool most history (record books { events = x; journal = journal; table = table; live = live; stages = stages })) (sym e)
    (subst (λ (x : JournalState). IsDesk pool most history (record books { journal = x; table = table; live = live; stages = stages })) (sym j)
    (subst (λ (x : Table). IsDesk pool most history (record books { table = x; live = live; stages = stages })) (sym t)
    (subst (λ (x : Entries). IsDesk pool most history (record books { live = x; stages = stages })) (sym l)
    (subst (λ (x : StageTable). IsDesk pool most history (record books { stages = x })) (sym s) is))))))

module _ (pool : PoolId) (most : ℕ) (history : List Event) (books : Books) (is : IsDesk pool most history books) where
  -- the column that a pass has just taken is one of the table
  pub taken_column : (pass s c : ℕ) → last_by pass history ≡ Some (event.Take pass s c) → IsColumn books.table s c
  taken_column pass s c last =
      let kept = is.kept in
      let in' = taken_in_use pool.limits history books.table pass s c kept.legal kept.recorded last in
      is_column pool.limits history books.table kept.legal kept.recorded s c in'.0 in'.1

  -- and its slice is in use
  pub taken_stage : (pass s c : ℕ) → last_by pass history ≡ Some (event.Take pass s c) → (first : ℕ) × (over : ℕ) × (stage_of books.stages s ≡ stage.InUse first over)
  taken_stage pass s c last =
      let kept = is.kept in
      let in' = taken_in_use pool.limits history books.table pass s c kept.legal kept.recorded last in
      in_use_stage pool.limits history books.table kept.legal kept.recorded books.stages kept.staged.each s in'.0 in'.2

  -- so is that of a live document
  pub live_stage : (s c : ℕ) (doc : Parts) → IsColumn books.table s c → IsLiveIn (slot_at books.table s c) doc → (first : ℕ) × (over : ℕ) × (stage_of books.stages s ≡ stage.InUse first over)
  live_stage s c doc here l =
      let kept = is.kept in
      in_use_stage pool.limits history books.table kept.legal kept.recorded books.stages kept.staged.each s (let h = here.slice_in_range in let k = kept.recorded.slices_are in omega arith)
      (live_in_use pool.limits history books.table kept.legal kept.recorded s c doc here l)

  -- no slice retired at the next event or later
  pub none_retired_later : (number : ℕ) → number ≡ length history + 1 → All (RetiredBefore number) books.stages.stages
  none_retired_later number is_next =
      let kept = is.kept in
      subst (λ n. All (RetiredBefore n) books.stages.stages) (sym is_next)
      (retired_before pool.limits history books.table kept.legal kept.recorded books.stages kept.staged.each kept.staged.count)

  -- what is kept with one more event, part by part
  pub desk-with : (e : Event) (next : Books) → IsAllowed pool.limits history e → HasItsBits pool.config history e → tuning_of e ≡ None → (moves e ≡ true → has_cause history ≡ true) → HasFew most pool.limits.passes (history ++ e ∷ []) → next_after e ≡ None →
      ((pass : ℕ) → finds_or_ends pass e ≡ false) → ((slice : ℕ) → clears slice e ≡ false) → next.slices ≡ books.slices → next.columns ≡ books.columns → next.tokens ≡ books.tokens → next.events ≡ length history + 1 →
      next.layouts ≡ books.layouts → IsJournalOf pool.limits.commits (history ++ e ∷ []) next.journal → AreRecorded pool.limits (history ++ e ∷ []) next.table → AreListed next.table next.live →
      AreStages pool.limits (history ++ e ∷ []) next.table books.tokens next.stages → IsDesk pool most (history ++ e ∷ []) next
  desk-with e next allowed bits tunes_none cause few awaits silent quiet slices columns tokens events layouts journal recorded listed staged =
      let kept = is.kept in record {
        in_range = is.in_range;
        sizes = is.sizes;
        some = is.some;
        bounded = is.bounded;
        none_awaited = awaited-push history e ∙ awaits;
        kept = record {
          few = few;
          legal = legal-push pool.limits history e kept.legal allowed;
          sound = sound-push pool.config history e kept.sound bits;
          caused = (caused-push history e).1 (kept.caused, cause);
          slices_are = slices ∙ kept.slices_are;
          columns_are = columns ∙ kept.columns_are;
          events_are = events ∙ sym (length-append history (e ∷ []));
          journal_is = journal;
          recorded = recorded;
          listed = listed;
          tokens_are = subst (AreTokens pool.limits (history ++ e ∷ [])) (sym tokens) (tokens-same pool.limits history e books.tokens silent kept.tokens_are);
          staged = subst (λ (ts : List (Option ℕ)). AreStages pool.limits (history ++ e ∷ []) next.table ts next.stages) (sym tokens) staged;
          layouts_are = subst (AreLayoutsOf pool.config pool.limits.slices (history ++ e ∷ [])) (sym layouts)
              (layouts-quiet pool.config pool.limits.slices history e books.layouts tunes_none quiet kept.layouts_are);
        };
      }

  -- the bits of a document's words under a configuration, in the room of a slice, are those of its text in the room of the opening
  pub own_bits : (config : Config) (set : List (List ℕ)) (text : List ℕ) (s c : ℕ) (bits : List Bit) → AreWordsOf set text →
      AreDocumentBitsIn pool.limits.slice_words config set s c bits → AreDocumentBitsIn (words_of_slice pool.config) config (words text) s c bits
  own_bits config set text s c bits of_text are =
      subst (λ n. AreDocumentBitsIn n config (words text) s c bits) (ap (λ (l : Limits). l.slice_words) is.sizes)
      (bits_of_text pool.limits.slice_words config set text s c bits of_text are)

  -- a document whose number is not live is added on the column that its pass took
  pub desk-add : (pass s c : ℕ) (doc : Parts) (bits : List Bit) (next : Entries) → IsAllowed pool.limits history (event.Add pass doc.id doc.text s c bits) → is_live doc.id history ≡ false →
      AreWordsOf doc.words doc.text →
      AreDocumentBitsIn pool.limits.slice_words (treat pool.config s history) doc.words s c bits → ((other : ℕ) → entry_of next other ≡ cond (other == doc.id) (Some (s, c)) (entry_of books.live other)) →
      next.slices ≡ books.live.slices → next.columns ≡ books.live.columns →
      IsDesk pool most (history ++ event.Add pass doc.id doc.text s c bits ∷ []) (record books {
        events = length history + 1;
        journal = with_commit books.journal (record { add = true; id = doc.id }) (books.journal.documents + 1);
        table = with_slot books.table s c (record { column = became.Live (place history + 1) (length history + 1); doc = Some doc });
        live = next;
      })
  desk-add pass s c doc bits next allowed absent of_text bits_are entries slices columns =
      let e = event.Add pass doc.id doc.text s c bits in
      let kept = is.kept in
      let rule = allowed.rule in
      let here = taken_column pass s c rule.taken in
      let y : Slot = record { column = became.Live (place history + 1) (length history + 1); doc = Some doc } in
      let table = with_slot books.table s c y in
      desk-with e (record books { events = length history + 1; journal = with_commit books.journal (record { add = true; id = doc.id }) (books.journal.documents + 1); table = table; live = next }) allowed
      (own_bits (treat pool.config s history) doc.words doc.text s c bits of_text bits_are) refl (λ is. absurd (false≢true is))
      (few-next most pool.limits.passes history e (event.Take pass s c) kept.few allowed.pass rule.taken (omega arith)) refl (λ other. refl) (λ slice. refl) refl refl refl refl refl
      (journal-push pool.limits.commits history e (record { add = true; id = doc.id }) (books.journal.documents + 1) books.journal kept.journal_is refl
      (ap (λ n. n + 1) kept.journal_is.documents_are ∙ sym (count-added history pass doc.id doc.text s c bits absent)))
      (recorded-add pool.limits history books.table kept.legal kept.recorded pass s c doc bits allowed absent of_text here)
      (listed-add books.table books.live kept.recorded.size kept.listed s c (place history + 1) (length history + 1) doc next here
      (none_live_in_pending pool.limits history books.table kept.legal kept.recorded pass s c rule.taken here)
      (no_entry pool.limits history books.table kept.legal kept.recorded books.live kept.listed doc.id absent) entries slices columns)
      (staged_by pool.limits history e books.table table books.tokens books.stages books.stages kept.staged refl refl refl
      (stages-add pool.limits history books.table books.stages kept.legal kept.recorded kept.staged.count kept.staged.each pass doc.id doc.text s c bits y refl allowed))

  -- a document is dropped for the column that its pass took
  pub desk-drop : (pass id : ℕ) (text : List ℕ) (s c first over : ℕ) → IsAllowed pool.limits history (event.Drop pass id text s c) → stage_of books.stages s ≡ stage.InUse first over →
      IsDesk pool most (history ++ event.Drop pass id text s c ∷ []) (record books {
        events = length history + 1;
        table = with_slot books.table s c (record { column = became.Dropped; doc = None });
        stages = with_stage books.stages s (after_end pool.limits.columns (length history + 1) first over);
      })
  desk-drop pass id text s c first over allowed at_stage =
      let e = event.Drop pass id text s c in
      let kept = is.kept in
      let rule = allowed.rule in
      let here = taken_column pass s c rule.taken in
      let y : Slot = record { column = became.Dropped; doc = None } in
      let table = with_slot books.table s c y in
      let ended = after_end pool.limits.columns (length history + 1) first over in
      let recorded = recorded-drop pool.limits history books.table kept.legal kept.recorded pass id text s c allowed here in
      desk-with e (record books { events = length history + 1; table = table; stages = with_stage books.stages s ended }) allowed tt refl (λ is. absurd (false≢true is))
      (few-next most pool.limits.passes history e (event.Take pass s c) kept.few allowed.pass rule.taken (omega arith)) refl (λ other. refl) (λ slice. refl) refl refl refl refl refl
      (journal-silent pool.limits.commits history e books.journal refl kept.journal_is) recorded
      (listed-one books.table books.live kept.recorded.size kept.listed s c y here (λ doc l. cc l.column)
      (none_live_in_pending pool.limits history books.table kept.legal kept.recorded pass s c rule.taken here))
      (staged_by pool.limits history e books.table table books.tokens books.stages (with_stage books.stages s ended) kept.staged (length-set books.stages.stages s ended) refl refl
      (stages-drop pool.limits history books.table books.stages kept.legal kept.recorded kept.staged.count kept.staged.each pass id text s c first over y refl allowed recorded at_stage))

  -- the live document of a column is deleted
  pub desk-delete : (pass s c first over : ℕ) (doc : Parts) (l : IsLiveIn (slot_at books.table s c) doc) (next : Entries) → IsAllowed pool.limits history (event.Del pass doc.id) → length history < most →
      IsColumn books.table s c → ((other : ℕ) → entry_of next other ≡ cond (other == doc.id) None (entry_of books.live other)) → next.slices ≡ books.live.slices → next.columns ≡ books.live.columns →
      stage_of books.stages s ≡ stage.InUse first over →
      IsDesk pool most (history ++ event.Del pass doc.id ∷ []) (record books {
        events = length history + 1;
        journal = with_commit books.journal (record { add = false; id = doc.id }) (books.journal.documents - 1);
        table = with_slot books.table s c (record { column = became.Over l.added l.since (length history + 1); doc = Some doc });
        live = next;
        stages = with_stage books.stages s (after_end pool.limits.columns (length history + 1) first over);
      })
  desk-delete pass s c first over doc l next allowed below here entries slices columns at_stage =
      let e = event.Del pass doc.id in
      let kept = is.kept in
      let y : Slot = record { column = became.Over l.added l.since (length history + 1); doc = Some doc } in
      let table = with_slot books.table s c y in
      let ended = after_end pool.limits.columns (length history + 1) first over in
      let recorded = recorded-delete pool.limits history books.table kept.legal kept.recorded pass s c doc l allowed here in
      desk-with e (record books { events = length history + 1; journal = with_commit books.journal (record { add = false; id = doc.id }) (books.journal.documents - 1); table = table; live = next; stages = with_stage books.stages s ended }) allowed tt refl (λ is. absurd (false≢true is))
      (few-start most pool.limits.passes history e below) refl (λ other. refl) (λ slice. refl) refl refl refl refl refl
      (journal-push pool.limits.commits history e (record { add = false; id = doc.id }) (books.journal.documents - 1) books.journal kept.journal_is refl
      (let fewer = count-deletes history pass doc.id allowed.rule.present in omega (arith, fewer, kept.journal_is.documents_are))) recorded
      (listed-delete books.table books.live kept.recorded.size kept.listed s c (length history + 1) doc l next here entries slices columns)
      (staged_by pool.limits history e books.table table books.tokens books.stages (with_stage books.stages s ended) kept.staged (length-set books.stages.stages s ended) refl refl
      (stages-delete pool.limits history books.table books.stages kept.legal kept.recorded kept.staged.count kept.staged.each pass s c first over doc y here l refl allowed recorded at_stage))
