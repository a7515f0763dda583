-- What the desk keeps after a move and after a void.
use Rattle.std.proofs.Common.{◌≡◌, ℕ, ◌+◌, true, false, ◌&&◌, List, [], ◌∷◌, ◌++◌, cond, length, Some, None, sym, refl, ap, ◌∙◌, subst, arith}
use Rattle.std.proofs.lemmas.Bool.{false_from_ne_true, false≢true}
use Rattle.std.specs.Prelude.{◌==◌}
use Rattle.std.proofs.lemmas.Bool.{and_parts, eqb-true}
use Rattle.std.proofs.lemmas.List.{length-set}
use Rattle.document_store.specs.Documents.{Parts}
use Rattle.document_store.specs.Entries.{Entries}
use Rattle.document_store.specs.Entries.{column_of as entry_of}
use Rattle.document_store.specs.Slots.{IsColumn, slot_at, with_slot, is_over_in}
use Rattle.document_store.specs.declared.column.Column.TheVariants as became
use Rattle.document_store.specs.declared.slots.Slot.{Slot}
use Rattle.funnel_model.specs.declared.bit_list.Bit.{Bit}
use Rattle.funnel_model.specs.declared.event.Event.{Event}
use Rattle.funnel_model.specs.declared.event.Event.TheVariants as event
use Rattle.funnel_model.specs.History.{Document, has_cause, is_live, place}
use Rattle.funnel_model.specs.Legal.{IsAllowed}
use Rattle.funnel_model.specs.Tunings.{treat}
use Rattle.funnel_model.specs.Words.{AreWordsOf}
use Rattle.funnel_model.proofs.LiveColumns.{live_column_is_live}
use Rattle.row_layout.specs.DocumentBits.{AreDocumentBitsIn}
use Rattle.slice_rule.specs.Pools.{PoolId}
use Rattle.slice_stages.specs.Stages.{after_end, stage_of, with_stage}
use Rattle.slice_stages.specs.declared.stage.Stage.TheVariants as stage
use Rattle.commit_desk.specs.Journals.{with_commit}
use Rattle.commit_desk.specs.Kept.{Books, IsDesk}
use Rattle.commit_desk.specs.Records.{IsLiveIn, document_added_at}
use Rattle.commit_desk.proofs.DocumentEvents.{desk-with, own_bits, staged_by, taken_column}
use Rattle.commit_desk.proofs.Few.{few-next}
use Rattle.commit_desk.proofs.Journals.{journal-push, journal-silent}
use Rattle.commit_desk.proofs.LiveCounts.{count-replaces}
use Rattle.commit_desk.proofs.ListedKept.{listed-one}
use Rattle.commit_desk.proofs.MovedRecords.{TakesPlace, add_takes_place, listed-moved, move_takes_place, moved_slot, moved_table, over_slot, recorded-moved, stages-moved}
use Rattle.commit_desk.proofs.RecordFacts.{found_live, live_recorded, none_live_in_pending, taken_is_pending}
use Rattle.commit_desk.proofs.RecordsKept.{recorded-void}
use Rattle.commit_desk.proofs.StagesKept.{stages-void}

module _ (pool : PoolId) (most : ℕ) (history : List Event) (books : Books) (is : IsDesk pool most history books) where
  -- the column that a pass took is left without a document
  pub desk-void : (pass s c first over : ℕ) → IsAllowed pool.limits history (event.Void pass s c) → has_cause history ≡ true → stage_of books.stages s ≡ stage.InUse first over →
      IsDesk pool most (history ++ event.Void pass s c ∷ []) (record books {
        events = length history + 1;
        table = with_slot books.table s c (record { column = became.Dropped; doc = None });
        stages = with_stage books.stages s (after_end pool.limits.columns (length history + 1) first over);
      })
  desk-void pass s c first over allowed cause at_stage =
      let e = event.Void pass s c in
      let kept = is.kept in
      let rule = allowed.rule in
      let here = taken_column pool most history books is pass s c rule.taken in
      let y : Slot = record { column = became.Dropped; doc = None } in
      let table = with_slot books.table s c y in
      let ended = after_end pool.limits.columns (length history + 1) first over in
      let recorded = recorded-void pool.limits history books.table kept.legal kept.recorded pass s c allowed here in
      desk-with pool most history books is e (record books { events = length history + 1; table = table; stages = with_stage books.stages s ended }) allowed tt refl (λ moved. cause)
      (few-next most pool.limits.passes history e (event.Take pass s c) kept.few allowed.pass rule.taken (omega arith)) refl (λ other. refl) (λ slice. refl) refl refl refl refl refl
      (journal-silent pool.limits.commits history e books.journal refl kept.journal_is) recorded
      (listed-one books.table books.live kept.recorded.size kept.listed s c y here (λ doc l. cc l.column)
      (none_live_in_pending pool.limits history books.table kept.legal kept.recorded pass s c rule.taken here))
      (staged_by pool.limits history e books.table table books.tokens books.stages (with_stage books.stages s ended) kept.staged (length-set books.stages.stages s ended) refl refl
      (stages-void pool.limits history books.table books.stages kept.legal kept.recorded kept.staged.count kept.staged.each pass s c first over y refl allowed recorded at_stage))

  -- a live document moves to the column that a pass took
  pub desk-move : (pass s c f l first over added : ℕ) (doc new : Parts) (bits : List Bit) (lives : IsLiveIn (slot_at books.table f l) doc) (without next : Entries) →
      IsAllowed pool.limits history (event.Move pass doc.id s c bits) → has_cause history ≡ true → IsColumn books.table f l → document_added_at added new ≡ document_added_at lives.added doc →
      AreWordsOf new.words new.text → AreDocumentBitsIn pool.limits.slice_words (treat pool.config s history) new.words s c bits →
      ((other : ℕ) → entry_of without other ≡ cond (other == doc.id) None (entry_of books.live other)) → without.slices ≡ books.live.slices → without.columns ≡ books.live.columns →
      ((other : ℕ) → entry_of next other ≡ cond (other == new.id) (Some (s, c)) (entry_of without other)) → next.slices ≡ without.slices → next.columns ≡ without.columns →
      stage_of books.stages f ≡ stage.InUse first over →
      IsDesk pool most (history ++ event.Move pass doc.id s c bits ∷ []) (record books {
        events = length history + 1;
        table = moved_table books.table f l (over_slot (slot_at books.table f l) doc lives (length history + 1)) s c (moved_slot added new (length history + 1));
        live = next;
        stages = with_stage books.stages f (after_end pool.limits.columns (length history + 1) first over);
      })
  desk-move pass s c f l first over added doc new bits lives without next allowed cause from same of_text bits_are taken taken_slices taken_columns put put_slices put_columns at_stage =
      let e = event.Move pass doc.id s c bits in
      let kept = is.kept in
      let rule = allowed.rule in
      let number = length history + 1 in
      let to = taken_column pool most history books is pass s c rule.taken in
      let table = moved_table books.table f l (over_slot (slot_at books.table f l) doc lives number) s c (moved_slot added new number) in
      let ended = after_end pool.limits.columns number first over in
      let pending = taken_is_pending pool.limits history books.table kept.legal kept.recorded pass s c rule.taken to in
      let none_there = none_live_in_pending pool.limits history books.table kept.legal kept.recorded pass s c rule.taken to in
      let apart : (s == f && c == l) ≡ false = false_from_ne_true (s == f && c == l) (λ one.
      let both = and_parts (s == f) (c == l) one in
      none_there doc (subst (λ k. IsLiveIn (slot_at books.table k c) doc) (sym (eqb-true s f both.0)) (subst (λ k. IsLiveIn (slot_at books.table f k) doc) (sym (eqb-true c l both.1)) lives))) in
      let document = document_added_at lives.added doc in
      let live_there = live_column_is_live history f l document lives.since
      (live_recorded pool.limits history books.table kept.legal kept.recorded f l doc from lives) in
      let same_id : new.id ≡ doc.id = ap (λ (x : Document). x.id) same in
      let takes = subst (λ (x : Document). TakesPlace history s c doc.id x e) (sym same)
      (move_takes_place history pass s c document bits (found_live pool.limits history document kept.legal live_there)) in
      let recorded = recorded-moved pool.limits history books.table kept.legal kept.recorded f l s c doc new added lives from to same_id apart pass e allowed rule.taken takes of_text in
      desk-with pool most history books is e (record books { events = number; table = table; live = next; stages = with_stage books.stages f ended }) allowed (
        document,
        live_there,
        refl,
        own_bits pool most history books is (treat pool.config s history) new.words document.text s c bits
            (subst (AreWordsOf new.words) (ap (λ (x : Document). x.text) same) of_text) bits_are,
      )
      refl (λ moved. cause)
      (few-next most pool.limits.passes history e (event.Take pass s c) kept.few allowed.pass rule.taken (omega arith)) refl (λ other. refl) (λ slice. refl) refl refl refl refl refl
      (journal-silent pool.limits.commits history e books.journal refl kept.journal_is) recorded
      (listed-moved pool.limits history books.table kept.legal kept.recorded f l s c doc new added lives from to same_id apart pass e allowed rule.taken takes of_text books.live without next kept.listed none_there
      taken taken_slices taken_columns put put_slices put_columns)
      (staged_by pool.limits history e books.table table books.tokens books.stages (with_stage books.stages f ended) kept.staged (length-set books.stages.stages f ended) refl refl
      (stages-moved pool.limits history books.table kept.legal kept.recorded f l s c doc new added lives from to same_id apart pass e allowed rule.taken takes of_text books.stages kept.staged.count kept.staged.each first over at_stage
      (ap is_over_in pending)))

  -- a document takes the place of a live one with its number, on the column that a pass took
  pub desk-replace : (pass s c f l first over : ℕ) (doc new : Parts) (bits : List Bit) (lives : IsLiveIn (slot_at books.table f l) doc) (without next : Entries) →
      IsAllowed pool.limits history (event.Add pass new.id new.text s c bits) → is_live new.id history ≡ true → new.id ≡ doc.id → IsColumn books.table f l →
      AreWordsOf new.words new.text → AreDocumentBitsIn pool.limits.slice_words (treat pool.config s history) new.words s c bits →
      ((other : ℕ) → entry_of without other ≡ cond (other == doc.id) None (entry_of books.live other)) → without.slices ≡ books.live.slices → without.columns ≡ books.live.columns →
      ((other : ℕ) → entry_of next other ≡ cond (other == new.id) (Some (s, c)) (entry_of without other)) → next.slices ≡ without.slices → next.columns ≡ without.columns →
      stage_of books.stages f ≡ stage.InUse first over →
      IsDesk pool most (history ++ event.Add pass new.id new.text s c bits ∷ []) (record books {
        events = length history + 1;
        journal = with_commit books.journal (record { add = true; id = new.id }) books.journal.documents;
        table = moved_table books.table f l (over_slot (slot_at books.table f l) doc lives (length history + 1)) s c (moved_slot (place history + 1) new (length history + 1));
        live = next;
        stages = with_stage books.stages f (after_end pool.limits.columns (length history + 1) first over);
      })
  desk-replace pass s c f l first over doc new bits lives without next allowed present same_id from of_text bits_are taken taken_slices taken_columns put put_slices put_columns at_stage =
      let e = event.Add pass new.id new.text s c bits in
      let kept = is.kept in
      let rule = allowed.rule in
      let number = length history + 1 in
      let added = place history + 1 in
      let to = taken_column pool most history books is pass s c rule.taken in
      let table = moved_table books.table f l (over_slot (slot_at books.table f l) doc lives number) s c (moved_slot added new number) in
      let ended = after_end pool.limits.columns number first over in
      let pending = taken_is_pending pool.limits history books.table kept.legal kept.recorded pass s c rule.taken to in
      let none_there = none_live_in_pending pool.limits history books.table kept.legal kept.recorded pass s c rule.taken to in
      let apart : (s == f && c == l) ≡ false = false_from_ne_true (s == f && c == l) (λ one.
      let both = and_parts (s == f) (c == l) one in
      none_there doc (subst (λ k. IsLiveIn (slot_at books.table k c) doc) (sym (eqb-true s f both.0)) (subst (λ k. IsLiveIn (slot_at books.table f k) doc) (sym (eqb-true c l both.1)) lives))) in
      let takes = subst (λ n. TakesPlace history s c n (document_added_at added new) e) same_id (add_takes_place history pass s c new bits) in
      let recorded = recorded-moved pool.limits history books.table kept.legal kept.recorded f l s c doc new added lives from to same_id apart pass e allowed rule.taken takes of_text in
      desk-with pool most history books is e
      (record books { events = number; journal = with_commit books.journal (record { add = true; id = new.id }) books.journal.documents; table = table; live = next; stages = with_stage books.stages f ended }) allowed
      (own_bits pool most history books is (treat pool.config s history) new.words new.text s c bits of_text bits_are) refl (λ moved. absurd (false≢true moved))
      (few-next most pool.limits.passes history e (event.Take pass s c) kept.few allowed.pass rule.taken (omega arith)) refl (λ other. refl) (λ slice. refl) refl refl refl refl refl
      (journal-push pool.limits.commits history e (record { add = true; id = new.id }) books.journal.documents books.journal kept.journal_is refl
      (kept.journal_is.documents_are ∙ sym (count-replaces history pass new.id new.text s c bits present))) recorded
      (listed-moved pool.limits history books.table kept.legal kept.recorded f l s c doc new added lives from to same_id apart pass e allowed rule.taken takes of_text books.live without next kept.listed none_there
      taken taken_slices taken_columns put put_slices put_columns)
      (staged_by pool.limits history e books.table table books.tokens books.stages (with_stage books.stages f ended) kept.staged (length-set books.stages.stages f ended) refl refl
      (stages-moved pool.limits history books.table kept.legal kept.recorded f l s c doc new added lives from to same_id apart pass e allowed rule.taken takes of_text books.stages kept.staged.count kept.staged.each first over at_stage
      (ap is_over_in pending)))
