use Rattle.std.proofs.Common.{◌≡◌, ℕ, ◌+◌, ◌-◌, ◌<◌, false, [], ◌∷◌, ◌++◌, Some, None, length, cond, refl, sym, ap, ◌∙◌, subst, arith}
use Rattle.std.specs.Prelude.{◌==◌}
use Rattle.document_store.specs.Entries.{column_of}
use Rattle.document_store.specs.Slots.{slot_at, with_slot}
use Rattle.document_store.specs.declared.column.Column.TheVariants as became
use Rattle.funnel_model.specs.declared.event.Event.TheVariants as event
use Rattle.funnel_model.specs.Legal.{IsAllowed, IsIdle}
use Rattle.funnel_model.proofs.Progress.{allowed_by}
use Rattle.slice_rule.specs.Pools.{PoolId}
use Rattle.slice_stages.specs.Stages.{IsUsed, after_end, stage_of, with_stage}
use Rattle.slice_stages.specs.declared.stage.Stage.TheVariants as stage
use Rattle.commit_desk.specs.Answers.{MayDeleteNow}
use Rattle.commit_desk.specs.Desks.{DeskState, Makes}
use Rattle.commit_desk.specs.Journals.{with_commit}
use Rattle.commit_desk.specs.Records.{IsEntry}
use Rattle.commit_desk.proofs.DocumentEvents.{desk-as, desk-delete, live_stage, none_retired_later}
use Rattle.commit_desk.specs.Leaving.{GivesBackOld, LetsGo}
use Rattle.commit_desk.proofs.GivenBack.{gives-back}
use Rattle.commit_desk.proofs.Inside.{books_of, left_books}
use Rattle.commit_desk.proofs.Journals.{journal_fits}
use Rattle.commit_desk.proofs.Keeping.{column-left, same-column}
use Rattle.commit_desk.proofs.KeepingDesks.{MayLetGo, gone-kept, gone-left, may-let-go}
use Rattle.commit_desk.proofs.LiveCounts.{some_live}
use Rattle.commit_desk.proofs.Options.{none_some}
use Rattle.commit_desk.proofs.RecordFacts.{live_entry}
use Rattle.commit_desk.proofs.MadeEvents.{desk_at, made_with, number_is}
use Rattle.commit_desk.proofs.desk.Desk.make_delete.Goals as goal
use Rattle.commit_desk.proofs.desk.Desk.make_delete.Goals.{After-delete-since, After-let_go-gone}

-- a live number is in the live list
pub unreachable-requires : goal.unreachable-requires
unreachable-requires c =
    let i = c.self.inside in
    let kept = c.self.invariant.desk.kept in
    let may : MayDeleteNow i.events_limit i.home.history c.args.id =
    subst (λ (d : DeskState). MayDeleteNow d.events_limit d.history c.args.id) (sym c.self.view_is) c.requires.may in
    let e = live_entry i.home.pool.limits i.home.history c.self.invariant.whole kept.legal kept.recorded i.live kept.listed c.args.id may.live in
    none_some (e.slice, e.column) (sym c.in_default.is ∙ c.remove.ensures.was ∙ e.entry)

abbrev entry_now : (c : After-delete-since) → IsEntry c.self.invariant.whole c.args.id c.in-Some.slice c.in-Some.column
entry_now c = c.self.invariant.desk.kept.listed.listed c.args.id c.in-Some.slice c.in-Some.column (sym c.in-Some.ensures.was)

stage_now : (c : After-delete-since) → (first : ℕ) × (over : ℕ) × (stage_of c.self.inside.stages c.in-Some.slice ≡ stage.InUse first over)
stage_now c =
    let i = c.self.inside in
    let e = entry_now c in
    live_stage i.home.pool i.events_limit i.home.history (books_of i c.self.invariant.whole) c.self.invariant.desk c.in-Some.slice c.in-Some.column e.doc e.in_table e.live

abbrev entry_of : (c : After-let_go-gone) → IsEntry c.self.invariant.whole c.args.id c.in-Some.slice c.in-Some.column
entry_of c = c.self.invariant.desk.kept.listed.listed c.args.id c.in-Some.slice c.in-Some.column (sym c.in-Some.ensures.was)

number_of : (c : After-let_go-gone) → c.make_event-number.result ≡ length c.self.inside.home.history + 1
number_of c = let made = c.make_event-number.ensures in number_is c.self.inside.home c.make_event-number.new.home (event.Del c.number-pass.result c.args.id) c.make_event-number.result made.home made.number

-- the records with the document taken off, and what became of that
table_then : (c : After-let_go-gone) → c.delete-since.new.self ≡ with_slot c.self.inside.records c.in-Some.slice c.in-Some.column
    (record { column = became.Over (entry_of c).live.added (entry_of c).live.since (length c.self.inside.home.history + 1); doc = (slot_at c.self.inside.records c.in-Some.slice c.in-Some.column).doc })
table_then c =
    let e = entry_of c in
    let column = same-column c.self.invariant.whole c.self.inside.records c.in-Some.slice c.in-Some.column c.self.invariant.left e.in_table ∙ e.live.column in
    c.delete-since.ensures.table e.live.added e.live.since column
    ∙ ap (λ n. with_slot c.self.inside.records c.in-Some.slice c.in-Some.column
    (record { column = became.Over e.live.added e.live.since n; doc = (slot_at c.self.inside.records c.in-Some.slice c.in-Some.column).doc })) (number_of c)

lets_then : (c : After-let_go-gone) → LetsGo c.self.inside.tokens c.in-Some.slice c.in-Some.column (entry_of c).live.since (length c.self.inside.home.history + 1) c.self.inside.leaving c.let_go-gone.new.leaving
    c.delete-since.new.self c.let_go-gone.new.records c.let_go-gone.result
lets_then c =
    let e = entry_of c in
    let i = c.self.inside in
    let column = same-column c.self.invariant.whole c.self.inside.records c.in-Some.slice c.in-Some.column c.self.invariant.left e.in_table ∙ e.live.column in
    subst (λ n. LetsGo i.tokens c.in-Some.slice c.in-Some.column n (length i.home.history + 1) i.leaving c.let_go-gone.new.leaving c.delete-since.new.self c.let_go-gone.new.records c.let_go-gone.result)
    (c.delete-since.ensures.since e.live.added e.live.since column)
    (subst (λ n. LetsGo i.tokens c.in-Some.slice c.in-Some.column c.delete-since.result n i.leaving c.let_go-gone.new.leaving c.delete-since.new.self c.let_go-gone.new.records c.let_go-gone.result) (number_of c) c.let_go-gone.ensures)

number_now : (c : After-delete-since) → c.make_event-number.result ≡ length c.self.inside.home.history + 1
number_now c = let made = c.make_event-number.ensures in number_is c.self.inside.home c.make_event-number.new.home (event.Del c.number-pass.result c.args.id) c.make_event-number.result made.home made.number

-- so it may be let go
may_now : (c : After-delete-since) → MayLetGo c.self.inside.tokens c.self.inside.leaving c.delete-since.new.self c.in-Some.slice c.in-Some.column c.self.inside.columns
may_now c =
    let i = c.self.inside in
    let e = c.self.invariant.desk.kept.listed.listed c.args.id c.in-Some.slice c.in-Some.column (sym c.in-Some.ensures.was) in
    let column = same-column c.self.invariant.whole i.records c.in-Some.slice c.in-Some.column c.self.invariant.left e.in_table ∙ e.live.column in
    may-let-go i.home.pool i.events_limit i.home.history (left_books i) i.leaving c.self.invariant c.in-Some.slice c.in-Some.column e.doc e.live e.in_table c.make_event-number.result c.delete-since.new.self
    (c.delete-since.ensures.table e.live.added e.live.since column)

pub let_go-gone-requires-clause-in_range : goal.let_go-gone-requires-clause-in_range
let_go-gone-requires-clause-in_range c = (may_now (goal.at.let_go-gone-requires-clause-in_range c).After-delete-since).in_range

pub let_go-gone-requires-clause-over : goal.let_go-gone-requires-clause-over
let_go-gone-requires-clause-over c = (may_now (goal.at.let_go-gone-requires-clause-over c).After-delete-since).over

pub let_go-gone-requires-clause-columns : goal.let_go-gone-requires-clause-columns
let_go-gone-requires-clause-columns c = (may_now (goal.at.let_go-gone-requires-clause-columns c).After-delete-since).columns_are

pub let_go-gone-requires-clause-each : goal.let_go-gone-requires-clause-each
let_go-gone-requires-clause-each c = (may_now (goal.at.let_go-gone-requires-clause-each c).After-delete-since).each

pub let_go-gone-requires-clause-few : goal.let_go-gone-requires-clause-few
let_go-gone-requires-clause-few c = (may_now (goal.at.let_go-gone-requires-clause-few c).After-delete-since).few

pub delete-since-requires-clause-in_range : goal.delete-since-requires-clause-in_range
delete-since-requires-clause-in_range c = column-left c.self.invariant.whole c.self.inside.records c.in-Some.slice c.in-Some.column c.self.invariant.left (c.self.invariant.desk.kept.listed.listed c.args.id c.in-Some.slice c.in-Some.column (sym c.in-Some.ensures.was)).in_table

pub delete-since-requires-clause-live : goal.delete-since-requires-clause-live
delete-since-requires-clause-live c =
    let e = c.self.invariant.desk.kept.listed.listed c.args.id c.in-Some.slice c.in-Some.column (sym c.in-Some.ensures.was) in (e.live.added, e.live.since, same-column c.self.invariant.whole c.self.inside.records c.in-Some.slice c.in-Some.column c.self.invariant.left e.in_table ∙ e.live.column)

pub end_column-requires-clause-in_range : goal.end_column-requires-clause-in_range
end_column-requires-clause-in_range c =
    let kept = c.self.invariant.desk.kept in
    let here = (entry_now (goal.at.end_column-requires-clause-in_range c).After-delete-since).in_table.slice_in_range in
    omega (arith, here, kept.recorded.slices_are, kept.staged.count)

pub end_column-requires-clause-used : goal.end_column-requires-clause-used
end_column-requires-clause-used c = subst IsUsed (sym (stage_now (goal.at.end_column-requires-clause-used c).After-delete-since).2) tt

pub end_column-requires-clause-last : goal.end_column-requires-clause-last
end_column-requires-clause-last c =
    let i = c.self.inside in
    none_retired_later i.home.pool i.events_limit i.home.history (books_of i c.self.invariant.whole) c.self.invariant.desk c.make_event-number.result (number_now (goal.at.end_column-requires-clause-last c).After-delete-since)

pub end_column-requires-clause-later : goal.end_column-requires-clause-later
end_column-requires-clause-later c = let within = c.self.invariant.desk.kept.staged.mark_within in omega (arith, within, number_now (goal.at.end_column-requires-clause-later c).After-delete-since)

allowed_now : (c : After-delete-since) → IsAllowed c.self.inside.home.pool.limits c.self.inside.home.history (event.Del c.number-pass.result c.args.id)
allowed_now c =
    let i = c.self.inside in
    let pool : c.args.seat.now.pool ≡ i.home.pool = c.requires.caught_up.seated.same ∙ sym (ap (λ (d : DeskState). d.pool) c.self.view_is) in
    let may : MayDeleteNow i.events_limit i.home.history c.args.id =
    subst (λ (d : DeskState). MayDeleteNow d.events_limit d.history c.args.id) (sym c.self.view_is) c.requires.may in
    allowed_by i.home.pool.limits i.home.history (event.Del c.number-pass.result c.args.id)
    (subst (λ (p : PoolId). c.number-pass.result < p.limits.passes) pool c.number-pass.ensures.in_range) c.self.invariant.desk.none_awaited
    (record {
      idle = subst (λ n. IsIdle n i.home.history) (sym c.number-pass.ensures.number) (subst (λ (d : DeskState). IsIdle c.args.seat.now.number d.history) (sym c.self.view_is) c.requires.idle);
      present = may.live;
    })

-- one more commit can be counted
pub push-requires : goal.push-requires
push-requires c = journal_fits c.self.inside.home.pool c.self.inside.events_limit c.self.inside.home.history (books_of c.self.inside c.self.invariant.whole) c.self.invariant.desk

pub overflow_sub-documents : goal.overflow_sub-documents
overflow_sub-documents c =
    let i = c.self.inside in
    let may : MayDeleteNow i.events_limit i.home.history c.args.id =
    subst (λ (d : DeskState). MayDeleteNow d.events_limit d.history c.args.id) (sym c.self.view_is) c.requires.may in
    let some = some_live i.home.history c.args.id may.live in
    omega (arith, some, c.documents-documents.ensures, c.self.invariant.desk.kept.journal_is.documents_are)

pub overflow_add-place : goal.overflow_add-place
overflow_add-place c =
    let few = journal_fits c.self.inside.home.pool c.self.inside.events_limit c.self.inside.home.history (books_of c.self.inside c.self.invariant.whole) c.self.invariant.desk in
    omega (arith, few, c.place-place.ensures)

pub invariant_of-self : goal.invariant_of-self
invariant_of-self c =
    let i = c.self.inside in
    let made = c.make_event-number.ensures in
    let home = c.make_event-number.new.home in
    let pass = c.number-pass.result in
    let s = c.in-Some.slice in
    let k = c.in-Some.column in
    let earlier = (goal.at.invariant_of-self c).After-delete-since in
    let e = entry_now earlier in
    let doc = e.doc in
    let at = stage_now earlier in
    let deletes = event.Del pass doc.id in
    let ended = after_end i.home.pool.limits.columns (length i.home.history + 1) at.0 at.1 in
    let may : MayDeleteNow i.events_limit i.home.history c.args.id =
    subst (λ (d : DeskState). MayDeleteNow d.events_limit d.history c.args.id) (sym c.self.view_is) c.requires.may in
    let table = with_slot c.self.invariant.whole s k (record { column = became.Over e.live.added e.live.since (length i.home.history + 1); doc = Some doc }) in
    let desk =
    desk-as i.home.pool home.pool i.events_limit (i.home.history ++ deletes ∷ []) home.history
    (record {
      slices = i.slices;
      columns = i.columns;
      events = length i.home.history + 1;
      journal = with_commit i.journal (record { add = false; id = doc.id }) (i.journal.documents - 1);
      table = with_slot c.self.invariant.whole s k (record { column = became.Over e.live.added e.live.since (length i.home.history + 1); doc = Some doc });
      live = c.remove.new.self;
      tokens = i.tokens;
      layouts = i.layouts;
      stages = with_stage i.stages s ended;
    })
    c.make_event-number.result c.push.new.self table c.remove.new.self c.end_column.new.self
    (desk-delete i.home.pool i.events_limit i.home.history (books_of i c.self.invariant.whole) c.self.invariant.desk pass s k at.0 at.1 doc e.live c.remove.new.self
    (subst (λ n. IsAllowed i.home.pool.limits i.home.history (event.Del pass n)) (sym e.number) (allowed_now earlier)) may.takes_calls e.in_table
    (λ other. c.in-Some.ensures.columns other ∙ ap (λ n. cond (other == n) None (column_of i.live other)) (sym e.number))
    c.in-Some.ensures.slices c.in-Some.ensures.slice_columns at.2)
    made.home.pool (made.home.history ∙ ap (λ n. i.home.history ++ event.Del pass n ∷ []) (sym e.number)) (number_now earlier)
    (c.push.ensures ∙ ap (λ n. with_commit i.journal (record { add = false; id = n }) (c.documents-documents.result - 1)) (sym e.number)
    ∙ ap (λ n. with_commit i.journal (record { add = false; id = doc.id }) (n - 1)) c.documents-documents.ensures)
    refl
    refl
    (c.end_column.ensures at.0 at.1 at.2 ∙ ap (λ n. with_stage i.stages s (after_end n c.make_event-number.result at.0 at.1)) c.self.invariant.desk.kept.staged.columns_are
    ∙ ap (λ n. with_stage i.stages s (after_end i.home.pool.limits.columns n at.0 at.1)) (number_now earlier)) in
    record {
      whole = table;
      desk = desk;
      left = gone-left i.home.pool i.events_limit i.home.history (left_books i) i.leaving c.self.invariant s k doc e.live e.in_table (length i.home.history + 1) c.let_go-gone.new.leaving c.delete-since.new.self
          c.let_go-gone.new.records c.let_go-gone.result (table_then (goal.at.invariant_of-self c).After-let_go-gone) (lets_then (goal.at.invariant_of-self c).After-let_go-gone);
      documents = gone-kept i.home.pool i.events_limit i.home.history (left_books i) i.leaving c.self.invariant s k doc e.live e.in_table (length i.home.history + 1) c.let_go-gone.new.leaving c.delete-since.new.self
          c.let_go-gone.new.records c.let_go-gone.result (table_then (goal.at.invariant_of-self c).After-let_go-gone) (lets_then (goal.at.invariant_of-self c).After-let_go-gone);
    }

pub returns-clause-made : goal.returns-clause-made
returns-clause-made c =
    let i = c.self.inside in
    let made = c.make_event-number.ensures in
    let home = c.make_event-number.new.home in
    let seat = c.make_event-number.new.seat in
    subst (λ n. Makes (event.Del n c.args.id ∷ []) c.args.self.now (desk_at home i.events_limit) c.args.seat.now seat) c.number-pass.ensures.number
    (made_with c.args.self.now i.home home i.events_limit c.args.seat.now seat (event.Del c.number-pass.result c.args.id) c.self.view_is c.requires.caught_up made.home (invariant_of-self c).desk.kept.legal made.seat)

-- the document is given back unless a find may ask for it
pub returns-clause-gone : goal.returns-clause-gone
returns-clause-gone c =
    let i = c.self.inside in
    let then = (goal.at.returns-clause-gone c).After-let_go-gone in
    let e = entry_of then in
    subst (λ (d : DeskState). GivesBackOld d.history c.args.id c.let_go-gone.result) c.self.view_is
    (gives-back i.home.pool i.events_limit i.home.history (left_books i) i.leaving c.self.invariant c.in-Some.slice c.in-Some.column e.doc e.live e.in_table c.let_go-gone.new.leaving c.delete-since.new.self c.let_go-gone.new.records
    c.let_go-gone.result (table_then then) (lets_then then) c.args.id e.number)
