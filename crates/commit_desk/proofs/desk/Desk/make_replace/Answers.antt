use Rattle.std.proofs.Common.{◌≡◌, ⊎_elim, ℕ, ◌+◌, [], ◌∷◌, ◌++◌, Contains, true, false, Some, None, length, cond, refl, sym, ap, ◌∙◌, subst, arith}
use Rattle.std.proofs.lemmas.Bool.{cond-false, cond-true, eq-eqb}
use Rattle.std.proofs.lemmas.Bool.Decides.{eqb_tells}
use Rattle.std.specs.Prelude.{◌==◌, ◌↔◌}
use Rattle.document_store.specs.Entries.{column_of}
use Rattle.document_store.specs.Slots.{IsColumn, Table, is_over_in, slot_at, with_slot}
use Rattle.document_store.specs.declared.column.Column.TheVariants as became
use Rattle.funnel_model.specs.declared.bit_list.Bit.{Bit}
use Rattle.funnel_model.specs.declared.event.Event.TheVariants as event
use Rattle.funnel_model.specs.History.{is_live, place}
use Rattle.slice_rule.specs.declared.view.Fact.TheVariants as fact
use Rattle.slice_rule.specs.Numbers.{last_number}
use Rattle.slice_stages.specs.Stages.{IsUsed, after_end, stage_of, with_stage}
use Rattle.slice_stages.specs.declared.stage.Stage.TheVariants as stage
use Rattle.commit_desk.specs.Desks.{DeskState, Makes}
use Rattle.commit_desk.specs.Journals.{with_commit}
use Rattle.commit_desk.specs.Records.{IsEntry}
use Rattle.commit_desk.proofs.DocumentEvents.{desk-as, none_retired_later}
use Rattle.commit_desk.proofs.HeldClaims.{bits_now}
use Rattle.commit_desk.specs.Leaving.{AreKept, GivesBackOld, IsLeftOf, LetsGo}
use Rattle.commit_desk.proofs.GivenBack.{gives-back}
use Rattle.commit_desk.proofs.Inside.{books_of, desk_of, left_books}
use Rattle.commit_desk.proofs.Journals.{journal_fits}
use Rattle.commit_desk.proofs.Keeping.{column-left, same-column}
use Rattle.commit_desk.proofs.KeepingDesks.{MayLetGo, added-kept, added-left, gone-left, may-let-go}
use Rattle.commit_desk.proofs.MadeEvents.{desk_at, made_with, number_is}
use Rattle.commit_desk.proofs.MoveEvents.{desk-replace}
use Rattle.commit_desk.proofs.MovedRecords.{moved_slot, moved_table, over_slot}
use Rattle.commit_desk.proofs.Options.{none_some}
use Rattle.commit_desk.proofs.RecordFacts.{live_entry}
use Rattle.commit_desk.proofs.ReplaceTurns.{add_allowed, column_after, none_there, old_stage, pending_after, taken_now}
use Rattle.commit_desk.proofs.desk.Desk.make_replace.Goals as goal
use Rattle.commit_desk.proofs.desk.Desk.make_replace.Goals.{After-delete-since, After-let_go-gone}

pub make_event-number-requires-clause-ready : goal.make_event-number-requires-clause-ready
make_event-number-requires-clause-ready c =
    subst (λ n. (b : Bit) → Contains c.args.bits.now.bits b ↔ Contains c.args.seat.now.own (fact.BitSet (last_number n c.args.seat.now.front) b)) (sym c.number-pass.ensures.number)
    c.requires.written.bits_set

-- a live number is in the live list
pub unreachable-requires : goal.unreachable-requires
unreachable-requires c =
    let i = c.self.inside in
    let kept = c.self.invariant.desk.kept in
    let present = subst (λ (d : DeskState). is_live c.args.doc.id d.history ≡ true) (sym c.self.view_is) c.requires.present in
    let e = live_entry i.home.pool.limits i.home.history c.self.invariant.whole kept.legal kept.recorded i.live kept.listed c.args.doc.id present in
    none_some (e.slice, e.column) (sym c.in_default.is ∙ c.remove.ensures.was ∙ ap (column_of i.live) c.id-id.ensures ∙ e.entry)

abbrev entry_now : (c : After-delete-since) → IsEntry c.self.invariant.whole c.args.doc.id c.in-Some.from c.in-Some.left
entry_now c =
    subst (λ n. IsEntry c.self.invariant.whole n c.in-Some.from c.in-Some.left) c.id-id.ensures
    (c.self.invariant.desk.kept.listed.listed c.id-id.result c.in-Some.from c.in-Some.left (sym c.in-Some.ensures.was))

stage_now : (c : After-delete-since) → (first : ℕ) × (over : ℕ) × (stage_of c.self.inside.stages c.in-Some.from ≡ stage.InUse first over)
stage_now c =
    let i = c.self.inside in
    old_stage c.args.self.now i.home i.events_limit (books_of i c.self.invariant.whole) c.self.invariant.desk c.self.view_is c.args.seat.now c.requires.caught_up c.number-pass.result c.number-pass.ensures.number c.args.claim c.requires.written.holds
    c.args.doc.id c.in-Some.from c.in-Some.left (entry_now c)

abbrev entry_of : (c : After-let_go-gone) → IsEntry c.self.invariant.whole c.args.doc.id c.in-Some.from c.in-Some.left
entry_of c =
    subst (λ n. IsEntry c.self.invariant.whole n c.in-Some.from c.in-Some.left) c.id-id.ensures
    (c.self.invariant.desk.kept.listed.listed c.id-id.result c.in-Some.from c.in-Some.left (sym c.in-Some.ensures.was))

number_of : (c : After-let_go-gone) → c.make_event-number.result ≡ length c.self.inside.home.history + 1
number_of c =
    let made = c.make_event-number.ensures in
    number_is c.self.inside.home c.make_event-number.new.home (event.Add c.number-pass.result c.args.doc.id c.args.doc.text c.args.claim.slice c.args.claim.column c.args.bits.now.bits)
    c.make_event-number.result made.home made.number

-- the records with the old document taken off, and what became of that
table_then : (c : After-let_go-gone) → c.delete-since.new.self ≡ with_slot c.self.inside.records c.in-Some.from c.in-Some.left
    (record { column = became.Over (entry_of c).live.added (entry_of c).live.since (length c.self.inside.home.history + 1); doc = (slot_at c.self.inside.records c.in-Some.from c.in-Some.left).doc })
table_then c =
    let e = entry_of c in
    let column = same-column c.self.invariant.whole c.self.inside.records c.in-Some.from c.in-Some.left c.self.invariant.left e.in_table ∙ e.live.column in
    c.delete-since.ensures.table e.live.added e.live.since column
    ∙ ap (λ n. with_slot c.self.inside.records c.in-Some.from c.in-Some.left
    (record { column = became.Over e.live.added e.live.since n; doc = (slot_at c.self.inside.records c.in-Some.from c.in-Some.left).doc })) (number_of c)

lets_then : (c : After-let_go-gone) → LetsGo c.self.inside.tokens c.in-Some.from c.in-Some.left (entry_of c).live.since (length c.self.inside.home.history + 1) c.self.inside.leaving c.let_go-gone.new.leaving
    c.delete-since.new.self c.let_go-gone.new.records c.let_go-gone.result
lets_then c =
    let e = entry_of c in
    let i = c.self.inside in
    let column = same-column c.self.invariant.whole c.self.inside.records c.in-Some.from c.in-Some.left c.self.invariant.left e.in_table ∙ e.live.column in
    subst (λ n. LetsGo i.tokens c.in-Some.from c.in-Some.left n (length i.home.history + 1) i.leaving c.let_go-gone.new.leaving c.delete-since.new.self c.let_go-gone.new.records c.let_go-gone.result)
    (c.delete-since.ensures.since e.live.added e.live.since column)
    (subst (λ n. LetsGo i.tokens c.in-Some.from c.in-Some.left c.delete-since.result n i.leaving c.let_go-gone.new.leaving c.delete-since.new.self c.let_go-gone.new.records c.let_go-gone.result) (number_of c) c.let_go-gone.ensures)

-- the whole records then, and what is left of them
abbrev middle : (c : After-let_go-gone) → Table
middle c =
    with_slot c.self.invariant.whole c.in-Some.from c.in-Some.left (over_slot (slot_at c.self.invariant.whole c.in-Some.from c.in-Some.left) (entry_of c).doc (entry_of c).live (length c.self.inside.home.history + 1))

left_then : (c : After-let_go-gone) → IsLeftOf (middle c) c.let_go-gone.new.records
left_then c =
    let i = c.self.inside in
    let e = entry_of c in
    gone-left i.home.pool i.events_limit i.home.history (left_books i) i.leaving c.self.invariant c.in-Some.from c.in-Some.left e.doc e.live e.in_table (length i.home.history + 1) c.let_go-gone.new.leaving c.delete-since.new.self c.let_go-gone.new.records c.let_go-gone.result
    (table_then c) (lets_then c)

number_now : (c : After-delete-since) → c.make_event-number.result ≡ length c.self.inside.home.history + 1
number_now c =
    let made = c.make_event-number.ensures in
    number_is c.self.inside.home c.make_event-number.new.home (event.Add c.number-pass.result c.args.doc.id c.args.doc.text c.args.claim.slice c.args.claim.column c.args.bits.now.bits)
    c.make_event-number.result made.home made.number

place_now : (c : After-delete-since) → c.place-place.result + 1 ≡ place c.self.inside.home.history + 1
place_now c = ap (λ n. n + 1) (c.place-place.ensures ∙ c.self.invariant.desk.kept.journal_is.place_is)

-- so it may be let go
may_now : (c : After-delete-since) → MayLetGo c.self.inside.tokens c.self.inside.leaving c.delete-since.new.self c.in-Some.from c.in-Some.left c.self.inside.columns
may_now c =
    let i = c.self.inside in
    let e =
    subst (λ n. IsEntry c.self.invariant.whole n c.in-Some.from c.in-Some.left) c.id-id.ensures
    (c.self.invariant.desk.kept.listed.listed c.id-id.result c.in-Some.from c.in-Some.left (sym c.in-Some.ensures.was)) in
    let column = same-column c.self.invariant.whole i.records c.in-Some.from c.in-Some.left c.self.invariant.left e.in_table ∙ e.live.column in
    may-let-go i.home.pool i.events_limit i.home.history (left_books i) i.leaving c.self.invariant c.in-Some.from c.in-Some.left e.doc e.live e.in_table c.make_event-number.result c.delete-since.new.self
    (c.delete-since.ensures.table e.live.added e.live.since column)

pub let_go-gone-requires-clause-in_range : goal.let_go-gone-requires-clause-in_range
let_go-gone-requires-clause-in_range c = (may_now (goal.at.let_go-gone-requires-clause-in_range c).After-delete-since).in_range

pub let_go-gone-requires-clause-over : goal.let_go-gone-requires-clause-over
let_go-gone-requires-clause-over c = (may_now (goal.at.let_go-gone-requires-clause-over c).After-delete-since).over

pub let_go-gone-requires-clause-columns : goal.let_go-gone-requires-clause-columns
let_go-gone-requires-clause-columns c = (may_now (goal.at.let_go-gone-requires-clause-columns c).After-delete-since).columns_are

pub let_go-gone-requires-clause-each : goal.let_go-gone-requires-clause-each
let_go-gone-requires-clause-each c = (may_now (goal.at.let_go-gone-requires-clause-each c).After-delete-since).each

pub let_go-gone-requires-clause-few : goal.let_go-gone-requires-clause-few
let_go-gone-requires-clause-few c = (may_now (goal.at.let_go-gone-requires-clause-few c).After-delete-since).few

pub delete-since-requires-clause-in_range : goal.delete-since-requires-clause-in_range
delete-since-requires-clause-in_range c = column-left c.self.invariant.whole c.self.inside.records c.in-Some.from c.in-Some.left c.self.invariant.left (subst (λ n. IsEntry c.self.invariant.whole n c.in-Some.from c.in-Some.left) c.id-id.ensures (c.self.invariant.desk.kept.listed.listed c.id-id.result c.in-Some.from c.in-Some.left (sym c.in-Some.ensures.was))).in_table

pub delete-since-requires-clause-live : goal.delete-since-requires-clause-live
delete-since-requires-clause-live c =
    let e = subst (λ n. IsEntry c.self.invariant.whole n c.in-Some.from c.in-Some.left) c.id-id.ensures (c.self.invariant.desk.kept.listed.listed c.id-id.result c.in-Some.from c.in-Some.left (sym c.in-Some.ensures.was)) in (e.live.added, e.live.since, same-column c.self.invariant.whole c.self.inside.records c.in-Some.from c.in-Some.left c.self.invariant.left e.in_table ∙ e.live.column)

-- the column that was claimed is one of the records then, and pending still
here_then : (c : After-let_go-gone) → IsColumn (middle c) c.args.claim.slice c.args.claim.column
here_then c =
    let i = c.self.inside in
    let e = entry_of c in
    column_after c.args.self.now i.home i.events_limit (books_of i c.self.invariant.whole) c.self.invariant.desk c.self.view_is c.args.seat.now c.requires.caught_up c.number-pass.result c.number-pass.ensures.number c.args.claim c.requires.written.holds
    c.args.doc.id c.in-Some.from c.in-Some.left e (middle c) _ refl

pending_now : (c : After-let_go-gone) → (slot_at (middle c) c.args.claim.slice c.args.claim.column).column ≡ became.Pending c.number-pass.result
pending_now c =
    let i = c.self.inside in
    let e = entry_of c in
    pending_after c.args.self.now i.home i.events_limit (books_of i c.self.invariant.whole) c.self.invariant.desk c.self.view_is c.args.seat.now c.requires.caught_up c.number-pass.result c.number-pass.ensures.number c.args.claim c.requires.written.holds
    c.args.doc.id c.in-Some.from c.in-Some.left e (middle c) _ refl

pub live-requires-clause-in_range : goal.live-requires-clause-in_range
live-requires-clause-in_range c =
    let then = (goal.at.live-requires-clause-in_range c).After-let_go-gone in
    column-left (middle then) c.let_go-gone.new.records c.args.claim.slice c.args.claim.column (left_then then) (here_then then)

pub live-requires-clause-pending : goal.live-requires-clause-pending
live-requires-clause-pending c =
    let then = (goal.at.live-requires-clause-pending c).After-let_go-gone in
    (c.number-pass.result, same-column (middle then) c.let_go-gone.new.records c.args.claim.slice c.args.claim.column (left_then then) (here_then then) ∙ pending_now then)

pub add-requires-clause-slice : goal.add-requires-clause-slice
add-requires-clause-slice c =
    let i = c.self.inside in
    let here = (taken_now c.args.self.now i.home i.events_limit (books_of i c.self.invariant.whole) c.self.invariant.desk c.self.view_is c.args.seat.now c.requires.caught_up c.number-pass.result c.number-pass.ensures.number c.args.claim c.requires.written.holds).column.slice_in_range in
    omega (arith, here, c.self.invariant.desk.kept.listed.slices_are, c.in-Some.ensures.slices)

pub add-requires-clause-column : goal.add-requires-clause-column
add-requires-clause-column c =
    let i = c.self.inside in
    let here = (taken_now c.args.self.now i.home i.events_limit (books_of i c.self.invariant.whole) c.self.invariant.desk c.self.view_is c.args.seat.now c.requires.caught_up c.number-pass.result c.number-pass.ensures.number c.args.claim c.requires.written.holds).column.column_in_range in
    omega (arith, here, c.self.invariant.desk.kept.listed.columns_are, c.in-Some.ensures.slice_columns)

-- the column that was claimed is pending, so it has no live document
pub add-requires-clause-free : goal.add-requires-clause-free
add-requires-clause-free c other found =
    let i = c.self.inside in
    ⊎_elim
    (λ same. none_some (c.args.claim.slice, c.args.claim.column) (sym (c.in-Some.ensures.columns other ∙ cond-true (other == c.id-id.result) None (column_of i.live other) same.0) ∙ found))
    (λ apart.
    let entry = c.self.invariant.desk.kept.listed.listed other c.args.claim.slice c.args.claim.column
    (sym (c.in-Some.ensures.columns other ∙ cond-false (other == c.id-id.result) None (column_of i.live other) apart.0) ∙ found) in
    none_there c.args.self.now i.home i.events_limit (books_of i c.self.invariant.whole) c.self.invariant.desk c.self.view_is c.args.seat.now c.requires.caught_up c.number-pass.result c.number-pass.ensures.number c.args.claim c.requires.written.holds entry.doc entry.live)
    (eqb_tells other c.id-id.result)

pub add-requires-clause-absent : goal.add-requires-clause-absent
add-requires-clause-absent c =
    c.in-Some.ensures.columns c.id-id.result ∙ cond-true (c.id-id.result == c.id-id.result) None (column_of c.self.inside.live c.id-id.result) (eq-eqb c.id-id.result c.id-id.result refl)

pub end_column-requires-clause-in_range : goal.end_column-requires-clause-in_range
end_column-requires-clause-in_range c =
    let kept = c.self.invariant.desk.kept in
    let here = (entry_now (goal.at.end_column-requires-clause-in_range c).After-delete-since).in_table.slice_in_range in
    omega (arith, here, kept.recorded.slices_are, kept.staged.count)

pub end_column-requires-clause-used : goal.end_column-requires-clause-used
end_column-requires-clause-used c = subst IsUsed (sym (stage_now (goal.at.end_column-requires-clause-used c).After-delete-since).2) tt

pub end_column-requires-clause-last : goal.end_column-requires-clause-last
end_column-requires-clause-last c =
    let i = c.self.inside in
    none_retired_later i.home.pool i.events_limit i.home.history (books_of i c.self.invariant.whole) c.self.invariant.desk c.make_event-number.result (number_now (goal.at.end_column-requires-clause-last c).After-delete-since)

pub end_column-requires-clause-later : goal.end_column-requires-clause-later
end_column-requires-clause-later c =
    let within = c.self.invariant.desk.kept.staged.mark_within in omega (arith, within, number_now (goal.at.end_column-requires-clause-later c).After-delete-since)

-- one more commit can be counted
pub push-requires : goal.push-requires
push-requires c = journal_fits c.self.inside.home.pool c.self.inside.events_limit c.self.inside.home.history (books_of c.self.inside c.self.invariant.whole) c.self.invariant.desk

pub overflow_add-place : goal.overflow_add-place
overflow_add-place c =
    let few = journal_fits c.self.inside.home.pool c.self.inside.events_limit c.self.inside.home.history (books_of c.self.inside c.self.invariant.whole) c.self.invariant.desk in
    omega (arith, few, c.place-place.ensures)

pub invariant_of-self : goal.invariant_of-self
invariant_of-self c =
    let i = c.self.inside in
    let made = c.make_event-number.ensures in
    let home = c.make_event-number.new.home in
    let pass = c.number-pass.result in
    let new = c.args.doc in
    let s = c.args.claim.slice in
    let k = c.args.claim.column in
    let f = c.in-Some.from in
    let l = c.in-Some.left in
    let bits = c.args.bits.now.bits in
    let earlier = (goal.at.invariant_of-self c).After-delete-since in
    let e = entry_now earlier in
    let at = stage_now earlier in
    let id : c.id-id.result ≡ new.id = c.id-id.ensures in
    let last = length i.home.history + 1 in
    let added = place i.home.history + 1 in
    let number = number_now earlier in
    let table = moved_table c.self.invariant.whole f l (over_slot (slot_at c.self.invariant.whole f l) e.doc e.live last) s k (moved_slot added new last) in
    let stages = with_stage i.stages f (after_end i.home.pool.limits.columns last at.0 at.1) in
    let allowed = add_allowed c.args.self.now i.home i.events_limit (books_of i c.self.invariant.whole) c.self.invariant.desk c.self.view_is c.args.seat.now c.requires.caught_up pass c.number-pass.ensures.number c.args.claim c.requires.written.holds
    new.id new.text bits c.requires.written.inside c.requires.of_words in
    let present = subst (λ (d : DeskState). is_live new.id d.history ≡ true) (sym c.self.view_is) c.requires.present in
    let then = (goal.at.invariant_of-self c).After-let_go-gone in
    let y = moved_slot added new last in
    let desk =
    desk-as i.home.pool home.pool i.events_limit (i.home.history ++ event.Add pass new.id new.text s k bits ∷ []) home.history
    (record {
      slices = i.slices;
      columns = i.columns;
      events = last;
      journal = with_commit i.journal (record { add = true; id = new.id }) i.journal.documents;
      table = table;
      live = c.add.new.self;
      tokens = i.tokens;
      layouts = i.layouts;
      stages = stages;
    })
    c.make_event-number.result c.push.new.self table c.add.new.self c.end_column.new.self
    (desk-replace i.home.pool i.events_limit i.home.history (books_of i c.self.invariant.whole) c.self.invariant.desk pass s k f l at.0 at.1 e.doc new bits e.live c.remove.new.self c.add.new.self allowed present (sym e.number) e.in_table
    c.words.ensures.of_text
    (bits_now c.args.self.now (desk_of i) c.args.seat.now new.words s k bits c.self.view_is c.requires.caught_up.front c.requires.written.document)
    (λ other. c.in-Some.ensures.columns other ∙ ap (λ n. cond (other == n) None (column_of i.live other)) (id ∙ sym e.number)) c.in-Some.ensures.slices c.in-Some.ensures.slice_columns
    (λ other. c.add.ensures.columns other ∙ ap (λ n. cond (other == n) (Some (s, k)) (column_of c.remove.new.self other)) id) c.add.ensures.slices c.add.ensures.slice_columns at.2)
    made.home.pool made.home.history number
    (c.push.ensures ∙ ap (λ n. with_commit i.journal (record { add = true; id = n }) c.documents-documents.result) id
    ∙ ap (with_commit i.journal (record { add = true; id = new.id })) c.documents-documents.ensures)
    refl
    refl
    (c.end_column.ensures at.0 at.1 at.2 ∙ ap (λ n. with_stage i.stages f (after_end n c.make_event-number.result at.0 at.1)) c.self.invariant.desk.kept.staged.columns_are
    ∙ ap (λ n. with_stage i.stages f (after_end i.home.pool.limits.columns n at.0 at.1)) number) in
    let told : c.live.new.self ≡ with_slot c.let_go-gone.new.records s k y =
    c.live.ensures ∙ ap (λ n. with_slot c.let_go-gone.new.records s k (record { column = became.Live n c.make_event-number.result; doc = Some new })) (place_now earlier)
    ∙ ap (λ n. with_slot c.let_go-gone.new.records s k (record { column = became.Live added n; doc = Some new })) number in
    record {
      whole = table;
      desk = desk;
      left = subst (IsLeftOf table) (sym told)
          (added-left i.home.pool i.events_limit i.home.history (left_books i) i.leaving c.self.invariant f l e.doc e.live e.in_table last c.let_go-gone.new.leaving c.delete-since.new.self c.let_go-gone.new.records c.let_go-gone.result
          (table_then then) (lets_then then) s k y (here_then then));
      documents = subst (λ (t : Table). AreKept i.tokens t c.let_go-gone.new.leaving) (sym told)
          (added-kept i.home.pool i.events_limit i.home.history (left_books i) i.leaving c.self.invariant f l e.doc e.live e.in_table last c.let_go-gone.new.leaving c.delete-since.new.self c.let_go-gone.new.records c.let_go-gone.result
          (table_then then) (lets_then then) s k y (here_then then) (ap is_over_in (pending_now then)) (λ since until over. cc over.1) (λ d over has. false_is_true over));
    }
  where
    false_is_true : false ≡ true → ⊥
    false_is_true is = cc

pub returns-clause-made : goal.returns-clause-made
returns-clause-made c =
    let i = c.self.inside in
    let made = c.make_event-number.ensures in
    let home = c.make_event-number.new.home in
    let seat = c.make_event-number.new.seat in
    subst (λ n. Makes (event.Add n c.args.doc.id c.args.doc.text c.args.claim.slice c.args.claim.column c.args.bits.now.bits ∷ []) c.args.self.now (desk_at home i.events_limit) c.args.seat.now seat) c.number-pass.ensures.number
    (made_with c.args.self.now i.home home i.events_limit c.args.seat.now seat (event.Add c.number-pass.result c.args.doc.id c.args.doc.text c.args.claim.slice c.args.claim.column c.args.bits.now.bits) c.self.view_is c.requires.caught_up made.home (invariant_of-self c).desk.kept.legal made.seat)

-- the old document is given back unless a find may ask for it
pub returns-clause-gone : goal.returns-clause-gone
returns-clause-gone c =
    let i = c.self.inside in
    let then = (goal.at.returns-clause-gone c).After-let_go-gone in
    let e = entry_of then in
    subst (λ (d : DeskState). GivesBackOld d.history c.args.doc.id c.let_go-gone.result) c.self.view_is
    (gives-back i.home.pool i.events_limit i.home.history (left_books i) i.leaving c.self.invariant c.in-Some.from c.in-Some.left e.doc e.live e.in_table c.let_go-gone.new.leaving c.delete-since.new.self c.let_go-gone.new.records
    c.let_go-gone.result (table_then then) (lets_then then) c.args.doc.id e.number)
