use Rattle.std.proofs.Common.{◌≡◌, ⊎_elim, ◌+◌, true, false, [], ◌∷◌, ◌++◌, length, Contains, Some, None, cond, refl, sym, ap, ◌∙◌, subst, arith}
use Rattle.std.proofs.lemmas.Bool.{cond-false, cond-true, eq-eqb}
use Rattle.std.proofs.lemmas.Bool.Decides.{eqb_tells}
use Rattle.std.specs.Prelude.{◌==◌, ◌↔◌}
use Rattle.document_store.specs.Entries.{column_of}
use Rattle.document_store.specs.Slots.{IsColumn, Table, is_over_in, slot_at, with_slot}
use Rattle.document_store.specs.declared.column.Column.TheVariants as became
use Rattle.funnel_model.specs.declared.bit_list.Bit.{Bit}
use Rattle.funnel_model.specs.declared.event.Event.TheVariants as event
use Rattle.funnel_model.specs.Legal.{IsAllowed}
use Rattle.slice_rule.specs.Pools.{PoolId}
use Rattle.slice_rule.specs.declared.view.Fact.TheVariants as fact
use Rattle.slice_rule.specs.Numbers.{last_number}
use Rattle.slice_stages.specs.Stages.{IsUsed, after_end, with_stage}
use Rattle.commit_desk.specs.Desks.{DeskState, Makes}
use Rattle.commit_desk.proofs.DocumentEvents.{desk-as, none_retired_later}
use Rattle.commit_desk.proofs.HeldClaims.{bits_now}
use Rattle.commit_desk.specs.Leaving.{AreKept, GivesBackOld, IsLeftOf, LetsGo}
use Rattle.commit_desk.proofs.GivenBack.{gives-back}
use Rattle.commit_desk.proofs.Inside.{books_of, desk_of, left_books}
use Rattle.commit_desk.proofs.Keeping.{column-left, same-column}
use Rattle.commit_desk.proofs.KeepingDesks.{MayLetGo, added-kept, added-left, gone-left, may-let-go}
use Rattle.commit_desk.proofs.MoveEvents.{desk-move}
use Rattle.commit_desk.proofs.MovedRecords.{moved_slot, moved_table, over_slot}
use Rattle.commit_desk.proofs.MoveTurns.{IsMovable, allowed_now, cause_now, column_then, from_now, id_now, none_there, pending_then, same_now, stage_now, there_now, to_now}
use Rattle.commit_desk.proofs.Options.{none_some}
use Rattle.commit_desk.proofs.MadeEvents.{desk_at, made_with, number_is}
use Rattle.commit_desk.proofs.desk.Desk.make_move.Goals as goal
use Rattle.commit_desk.proofs.desk.Desk.make_move.Goals.{After-delete-since, After-let_go-gone}

pub make_event-number-requires-clause-allowed : goal.make_event-number-requires-clause-allowed
make_event-number-requires-clause-allowed c =
    let i = c.self.inside in
    let same : i.home.pool ≡ c.args.pool.now = ap (λ (d : DeskState). d.pool) c.self.view_is ∙ sym c.requires.pool in
    let allowed = allowed_now c.args.self.now i.home i.events_limit (books_of i c.self.invariant.whole) c.self.invariant.desk c.self.view_is c.args.seat.now c.requires.caught_up c.number-pass.result c.number-pass.ensures.number c.args.claim c.requires.written.holds c.args.look c.requires.look c.requires.there c.args.bits.now.bits c.requires.written.inside c.requires.of_words in
    subst (λ (p : PoolId). IsAllowed p.limits i.home.history (event.Move c.number-pass.result c.id-id.result c.args.claim.slice c.args.claim.column c.args.bits.now.bits)) same
    (subst (λ n. IsAllowed i.home.pool.limits i.home.history (event.Move c.number-pass.result n c.args.claim.slice c.args.claim.column c.args.bits.now.bits)) (sym c.id-id.ensures) allowed)

pub make_event-number-requires-clause-ready : goal.make_event-number-requires-clause-ready
make_event-number-requires-clause-ready c =
    subst (λ n. (b : Bit) → Contains c.args.bits.now.bits b ↔ Contains c.args.seat.now.own (fact.BitSet (last_number n c.args.seat.now.front) b)) (sym c.number-pass.ensures.number)
    c.requires.written.bits_set

-- the document that was looked at, in the whole records
abbrev from_whole : (c : After-let_go-gone) → IsMovable c.self.invariant.whole c.args.look.slice c.args.look.column
    (let i = c.self.inside in there_now c.args.self.now i.home i.events_limit (books_of i c.self.invariant.whole) c.self.invariant.desk c.self.view_is c.args.seat.now c.requires.caught_up c.number-pass.result c.number-pass.ensures.number c.args.claim c.requires.written.holds c.args.look c.requires.look c.requires.there).0 c.args.look.since
from_whole c = let i = c.self.inside in from_now c.args.self.now i.home i.events_limit (books_of i c.self.invariant.whole) c.self.invariant.desk c.self.view_is c.args.seat.now c.requires.caught_up c.number-pass.result c.number-pass.ensures.number c.args.claim c.requires.written.holds c.args.look c.requires.look c.requires.there

pub delete-since-requires-clause-in_range : goal.delete-since-requires-clause-in_range
delete-since-requires-clause-in_range c =
    let i = c.self.inside in
    column-left c.self.invariant.whole c.self.inside.records c.args.look.slice c.args.look.column c.self.invariant.left (from_now c.args.self.now i.home i.events_limit (books_of i c.self.invariant.whole) c.self.invariant.desk c.self.view_is c.args.seat.now c.requires.caught_up c.number-pass.result c.number-pass.ensures.number c.args.claim c.requires.written.holds c.args.look c.requires.look c.requires.there).from

pub delete-since-requires-clause-live : goal.delete-since-requires-clause-live
delete-since-requires-clause-live c =
    let i = c.self.inside in
    let at = from_now c.args.self.now i.home i.events_limit (books_of i c.self.invariant.whole) c.self.invariant.desk c.self.view_is c.args.seat.now c.requires.caught_up c.number-pass.result c.number-pass.ensures.number c.args.claim c.requires.written.holds c.args.look c.requires.look c.requires.there in
    (at.lives.added, at.lives.since, same-column c.self.invariant.whole c.self.inside.records c.args.look.slice c.args.look.column c.self.invariant.left at.from ∙ at.lives.column)

-- so it may be let go
may_now : (c : After-delete-since) → MayLetGo c.self.inside.tokens c.self.inside.leaving c.delete-since.new.self c.args.look.slice c.args.look.column c.self.inside.columns
may_now c =
    let i = c.self.inside in
    let at = from_now c.args.self.now i.home i.events_limit (books_of i c.self.invariant.whole) c.self.invariant.desk c.self.view_is c.args.seat.now c.requires.caught_up c.number-pass.result c.number-pass.ensures.number c.args.claim c.requires.written.holds c.args.look c.requires.look c.requires.there in
    let column = same-column c.self.invariant.whole i.records c.args.look.slice c.args.look.column c.self.invariant.left at.from ∙ at.lives.column in
    may-let-go i.home.pool i.events_limit i.home.history (left_books i) i.leaving c.self.invariant c.args.look.slice c.args.look.column at.doc at.lives at.from c.make_event-number.result c.delete-since.new.self
    (c.delete-since.ensures.table at.lives.added at.lives.since column)

pub let_go-gone-requires-clause-in_range : goal.let_go-gone-requires-clause-in_range
let_go-gone-requires-clause-in_range c = (may_now (goal.at.let_go-gone-requires-clause-in_range c).After-delete-since).in_range

pub let_go-gone-requires-clause-over : goal.let_go-gone-requires-clause-over
let_go-gone-requires-clause-over c = (may_now (goal.at.let_go-gone-requires-clause-over c).After-delete-since).over

pub let_go-gone-requires-clause-columns : goal.let_go-gone-requires-clause-columns
let_go-gone-requires-clause-columns c = (may_now (goal.at.let_go-gone-requires-clause-columns c).After-delete-since).columns_are

pub let_go-gone-requires-clause-each : goal.let_go-gone-requires-clause-each
let_go-gone-requires-clause-each c = (may_now (goal.at.let_go-gone-requires-clause-each c).After-delete-since).each

pub let_go-gone-requires-clause-few : goal.let_go-gone-requires-clause-few
let_go-gone-requires-clause-few c = (may_now (goal.at.let_go-gone-requires-clause-few c).After-delete-since).few

number_of : (c : After-let_go-gone) → c.make_event-number.result ≡ length c.self.inside.home.history + 1
number_of c =
    let made = c.make_event-number.ensures in
    number_is c.self.inside.home c.make_event-number.new.home (event.Move c.number-pass.result c.id-id.result c.args.claim.slice c.args.claim.column c.args.bits.now.bits) c.make_event-number.result made.home made.number

-- the records with the document taken off its old column, and what became of that
table_then : (c : After-let_go-gone) → c.delete-since.new.self ≡ with_slot c.self.inside.records c.args.look.slice c.args.look.column
    (record { column = became.Over (from_whole c).lives.added (from_whole c).lives.since (length c.self.inside.home.history + 1); doc = (slot_at c.self.inside.records c.args.look.slice c.args.look.column).doc })
table_then c =
    let at = from_whole c in
    let column = same-column c.self.invariant.whole c.self.inside.records c.args.look.slice c.args.look.column c.self.invariant.left at.from ∙ at.lives.column in
    c.delete-since.ensures.table at.lives.added at.lives.since column
    ∙ ap (λ n. with_slot c.self.inside.records c.args.look.slice c.args.look.column
    (record { column = became.Over at.lives.added at.lives.since n; doc = (slot_at c.self.inside.records c.args.look.slice c.args.look.column).doc })) (number_of c)

lets_then : (c : After-let_go-gone) → LetsGo c.self.inside.tokens c.args.look.slice c.args.look.column (from_whole c).lives.since (length c.self.inside.home.history + 1) c.self.inside.leaving c.let_go-gone.new.leaving
    c.delete-since.new.self c.let_go-gone.new.records c.let_go-gone.result
lets_then c =
    let at = from_whole c in
    let i = c.self.inside in
    let column = same-column c.self.invariant.whole c.self.inside.records c.args.look.slice c.args.look.column c.self.invariant.left at.from ∙ at.lives.column in
    subst (λ n. LetsGo i.tokens c.args.look.slice c.args.look.column n (length i.home.history + 1) i.leaving c.let_go-gone.new.leaving c.delete-since.new.self c.let_go-gone.new.records c.let_go-gone.result)
    (c.delete-since.ensures.since at.lives.added at.lives.since column)
    (subst (λ n. LetsGo i.tokens c.args.look.slice c.args.look.column c.delete-since.result n i.leaving c.let_go-gone.new.leaving c.delete-since.new.self c.let_go-gone.new.records c.let_go-gone.result) (number_of c) c.let_go-gone.ensures)

-- the whole records then, and what is left of them
abbrev middle : (c : After-let_go-gone) → Table
middle c =
    with_slot c.self.invariant.whole c.args.look.slice c.args.look.column (over_slot (slot_at c.self.invariant.whole c.args.look.slice c.args.look.column) (from_whole c).doc (from_whole c).lives (length c.self.inside.home.history + 1))

left_then : (c : After-let_go-gone) → IsLeftOf (middle c) c.let_go-gone.new.records
left_then c =
    let i = c.self.inside in
    let at = from_whole c in
    gone-left i.home.pool i.events_limit i.home.history (left_books i) i.leaving c.self.invariant c.args.look.slice c.args.look.column at.doc at.lives at.from (length i.home.history + 1) c.let_go-gone.new.leaving c.delete-since.new.self c.let_go-gone.new.records c.let_go-gone.result
    (table_then c) (lets_then c)

-- the column that was claimed is one of the records then, and pending still
here_then : (c : After-let_go-gone) → IsColumn (middle c) c.args.claim.slice c.args.claim.column
here_then c =
    let i = c.self.inside in
    column_then c.args.self.now i.home i.events_limit (books_of i c.self.invariant.whole) c.self.invariant.desk c.self.view_is c.args.seat.now c.requires.caught_up c.number-pass.result c.number-pass.ensures.number c.args.claim c.requires.written.holds c.args.look c.requires.look c.requires.there (middle c) _ refl

pending_now : (c : After-let_go-gone) → (slot_at (middle c) c.args.claim.slice c.args.claim.column).column ≡ became.Pending c.number-pass.result
pending_now c =
    let i = c.self.inside in
    pending_then c.args.self.now i.home i.events_limit (books_of i c.self.invariant.whole) c.self.invariant.desk c.self.view_is c.args.seat.now c.requires.caught_up c.number-pass.result c.number-pass.ensures.number c.args.claim c.requires.written.holds c.args.look c.requires.look c.requires.there (middle c) _ refl

pub live-requires-clause-in_range : goal.live-requires-clause-in_range
live-requires-clause-in_range c =
    let then = (goal.at.live-requires-clause-in_range c).After-let_go-gone in
    column-left (middle then) c.let_go-gone.new.records c.args.claim.slice c.args.claim.column (left_then then) (here_then then)

pub live-requires-clause-pending : goal.live-requires-clause-pending
live-requires-clause-pending c =
    let then = (goal.at.live-requires-clause-pending c).After-let_go-gone in
    (c.number-pass.result, same-column (middle then) c.let_go-gone.new.records c.args.claim.slice c.args.claim.column (left_then then) (here_then then) ∙ pending_now then)

pub add-requires-clause-slice : goal.add-requires-clause-slice
add-requires-clause-slice c =
    let i = c.self.inside in
    let here = (to_now c.args.self.now i.home i.events_limit (books_of i c.self.invariant.whole) c.self.invariant.desk c.self.view_is c.args.seat.now c.requires.caught_up c.number-pass.result c.number-pass.ensures.number c.args.claim c.requires.written.holds c.args.look c.requires.look c.requires.there).slice_in_range in
    omega (arith, here, c.self.invariant.desk.kept.listed.slices_are, c.remove.ensures.slices)

pub add-requires-clause-column : goal.add-requires-clause-column
add-requires-clause-column c =
    let i = c.self.inside in
    let here = (to_now c.args.self.now i.home i.events_limit (books_of i c.self.invariant.whole) c.self.invariant.desk c.self.view_is c.args.seat.now c.requires.caught_up c.number-pass.result c.number-pass.ensures.number c.args.claim c.requires.written.holds c.args.look c.requires.look c.requires.there).column_in_range in
    omega (arith, here, c.self.invariant.desk.kept.listed.columns_are, c.remove.ensures.slice_columns)

pub add-requires-clause-free : goal.add-requires-clause-free
add-requires-clause-free c other found =
    let i = c.self.inside in
    ⊎_elim
    (λ same. none_some (c.args.claim.slice, c.args.claim.column) (sym (c.remove.ensures.columns other ∙ cond-true (other == c.id-id.result) None (column_of i.live other) same.0) ∙ found))
    (λ apart.
    let entry = c.self.invariant.desk.kept.listed.listed other c.args.claim.slice c.args.claim.column
    (sym (c.remove.ensures.columns other ∙ cond-false (other == c.id-id.result) None (column_of i.live other) apart.0) ∙ found) in
    none_there c.args.self.now i.home i.events_limit (books_of i c.self.invariant.whole) c.self.invariant.desk c.self.view_is c.args.seat.now c.requires.caught_up c.number-pass.result c.number-pass.ensures.number c.args.claim c.requires.written.holds c.args.look c.requires.look c.requires.there entry.doc entry.live)
    (eqb_tells other c.id-id.result)

pub add-requires-clause-absent : goal.add-requires-clause-absent
add-requires-clause-absent c =
    c.remove.ensures.columns c.id-id.result ∙ cond-true (c.id-id.result == c.id-id.result) None (column_of c.self.inside.live c.id-id.result) (eq-eqb c.id-id.result c.id-id.result refl)

pub end_column-requires-clause-in_range : goal.end_column-requires-clause-in_range
end_column-requires-clause-in_range c =
    let i = c.self.inside in
    let kept = c.self.invariant.desk.kept in
    let here = (from_now c.args.self.now i.home i.events_limit (books_of i c.self.invariant.whole) c.self.invariant.desk c.self.view_is c.args.seat.now c.requires.caught_up c.number-pass.result c.number-pass.ensures.number c.args.claim c.requires.written.holds c.args.look c.requires.look c.requires.there).from.slice_in_range in
    omega (arith, here, kept.recorded.slices_are, kept.staged.count)

pub end_column-requires-clause-used : goal.end_column-requires-clause-used
end_column-requires-clause-used c = let i = c.self.inside in subst IsUsed (sym (stage_now c.args.self.now i.home i.events_limit (books_of i c.self.invariant.whole) c.self.invariant.desk c.self.view_is c.args.seat.now c.requires.caught_up c.number-pass.result c.number-pass.ensures.number c.args.claim c.requires.written.holds c.args.look c.requires.look c.requires.there).2) tt

pub end_column-requires-clause-last : goal.end_column-requires-clause-last
end_column-requires-clause-last c =
    let i = c.self.inside in
    let made = c.make_event-number.ensures in
    none_retired_later i.home.pool i.events_limit i.home.history (books_of i c.self.invariant.whole) c.self.invariant.desk c.make_event-number.result
    (number_is i.home c.make_event-number.new.home (event.Move c.number-pass.result c.id-id.result c.args.claim.slice c.args.claim.column c.args.bits.now.bits) c.make_event-number.result made.home made.number)

pub invariant_of-self : goal.invariant_of-self
invariant_of-self c =
    let i = c.self.inside in
    let made = c.make_event-number.ensures in
    let home = c.make_event-number.new.home in
    let pass = c.number-pass.result in
    let look = c.args.look in
    let s = c.args.claim.slice in
    let k = c.args.claim.column in
    let bits = c.args.bits.now.bits in
    let at = from_now c.args.self.now i.home i.events_limit (books_of i c.self.invariant.whole) c.self.invariant.desk c.self.view_is c.args.seat.now c.requires.caught_up c.number-pass.result c.number-pass.ensures.number c.args.claim c.requires.written.holds c.args.look c.requires.look c.requires.there in
    let st = stage_now c.args.self.now i.home i.events_limit (books_of i c.self.invariant.whole) c.self.invariant.desk c.self.view_is c.args.seat.now c.requires.caught_up c.number-pass.result c.number-pass.ensures.number c.args.claim c.requires.written.holds c.args.look c.requires.look c.requires.there in
    let same_id : look.doc.id ≡ at.doc.id = id_now c.args.self.now i.home i.events_limit (books_of i c.self.invariant.whole) c.self.invariant.desk c.self.view_is c.args.seat.now c.requires.caught_up c.number-pass.result c.number-pass.ensures.number c.args.claim c.requires.written.holds c.args.look c.requires.look c.requires.there in
    let number : c.make_event-number.result ≡ length i.home.history + 1 =
    number_is i.home home (event.Move pass c.id-id.result s k bits) c.make_event-number.result made.home made.number in
    let last = length i.home.history + 1 in
    let table = moved_table c.self.invariant.whole look.slice look.column (over_slot (slot_at c.self.invariant.whole look.slice look.column) at.doc at.lives last) s k (moved_slot look.place look.doc last) in
    let stages = with_stage i.stages look.slice (after_end i.home.pool.limits.columns last st.0 st.1) in
    let allowed = subst (λ n. IsAllowed i.home.pool.limits i.home.history (event.Move pass n s k bits)) same_id (allowed_now c.args.self.now i.home i.events_limit (books_of i c.self.invariant.whole) c.self.invariant.desk c.self.view_is c.args.seat.now c.requires.caught_up c.number-pass.result c.number-pass.ensures.number c.args.claim c.requires.written.holds c.args.look c.requires.look c.requires.there bits c.requires.written.inside c.requires.of_words) in
    let moved = desk-move i.home.pool i.events_limit i.home.history (books_of i c.self.invariant.whole) c.self.invariant.desk pass s k look.slice look.column st.0 st.1 look.place at.doc look.doc bits at.lives c.remove.new.self c.add.new.self
    allowed (cause_now c.args.self.now i.home i.events_limit (books_of i c.self.invariant.whole) c.self.invariant.desk c.self.view_is c.args.seat.now c.requires.caught_up c.number-pass.result c.number-pass.ensures.number c.args.claim c.requires.written.holds c.args.look c.requires.look c.requires.there) at.from (same_now c.args.self.now i.home i.events_limit (books_of i c.self.invariant.whole) c.self.invariant.desk c.self.view_is c.args.seat.now c.requires.caught_up c.number-pass.result c.number-pass.ensures.number c.args.claim c.requires.written.holds c.args.look c.requires.look c.requires.there) c.requires.look.of_text
    (bits_now c.args.self.now (desk_of i) c.args.seat.now look.doc.words s k bits c.self.view_is c.requires.caught_up.front c.requires.written.document)
    (λ other. c.remove.ensures.columns other ∙ ap (λ n. cond (other == n) None (column_of i.live other)) (c.id-id.ensures ∙ same_id)) c.remove.ensures.slices c.remove.ensures.slice_columns
    (λ other. c.add.ensures.columns other ∙ ap (λ n. cond (other == n) (Some (s, k)) (column_of c.remove.new.self other)) c.id-id.ensures) c.add.ensures.slices c.add.ensures.slice_columns st.2 in
    let then = (goal.at.invariant_of-self c).After-let_go-gone in
    let y = moved_slot look.place look.doc last in
    let desk =
    desk-as i.home.pool home.pool i.events_limit (i.home.history ++ event.Move pass at.doc.id s k bits ∷ []) home.history
    (record {
      slices = i.slices;
      columns = i.columns;
      events = last;
      journal = i.journal;
      table = table;
      live = c.add.new.self;
      tokens = i.tokens;
      layouts = i.layouts;
      stages = stages;
    })
    c.make_event-number.result i.journal table c.add.new.self c.end_column.new.self moved
    made.home.pool
    (made.home.history ∙ ap (λ n. i.home.history ++ event.Move pass n s k bits ∷ []) (c.id-id.ensures ∙ same_id))
    number refl
    refl
    refl
    (c.end_column.ensures st.0 st.1 st.2 ∙ ap (λ n. with_stage i.stages look.slice (after_end n c.make_event-number.result st.0 st.1)) c.self.invariant.desk.kept.staged.columns_are
    ∙ ap (λ n. with_stage i.stages look.slice (after_end i.home.pool.limits.columns n st.0 st.1)) number) in
    let told : c.live.new.self ≡ with_slot c.let_go-gone.new.records s k y =
    c.live.ensures ∙ ap (λ n. with_slot c.let_go-gone.new.records s k (record { column = became.Live look.place n; doc = Some look.doc })) number in
    record {
      whole = table;
      desk = desk;
      left = subst (IsLeftOf table) (sym told)
          (added-left i.home.pool i.events_limit i.home.history (left_books i) i.leaving c.self.invariant look.slice look.column at.doc at.lives at.from last c.let_go-gone.new.leaving c.delete-since.new.self c.let_go-gone.new.records c.let_go-gone.result
          (table_then then) (lets_then then) s k y (here_then then));
      documents = subst (λ (t : Table). AreKept i.tokens t c.let_go-gone.new.leaving) (sym told)
          (added-kept i.home.pool i.events_limit i.home.history (left_books i) i.leaving c.self.invariant look.slice look.column at.doc at.lives at.from last c.let_go-gone.new.leaving c.delete-since.new.self c.let_go-gone.new.records c.let_go-gone.result
          (table_then then) (lets_then then) s k y (here_then then) (ap is_over_in (pending_now then)) (λ since until over. cc over.1) (λ d over has. false_is_true over));
    }
  where
    false_is_true : false ≡ true → ⊥
    false_is_true is = cc

pub returns-clause-made : goal.returns-clause-made
returns-clause-made c =
    let i = c.self.inside in
    let made = c.make_event-number.ensures in
    let home = c.make_event-number.new.home in
    let seat = c.make_event-number.new.seat in
    let s = c.args.claim.slice in
    let k = c.args.claim.column in
    subst (λ n. Makes (event.Move c.args.seat.now.number n s k c.args.bits.now.bits ∷ []) c.args.self.now (desk_at home i.events_limit) c.args.seat.now seat) c.id-id.ensures
    (subst (λ n. Makes (event.Move n c.id-id.result s k c.args.bits.now.bits ∷ []) c.args.self.now (desk_at home i.events_limit) c.args.seat.now seat) c.number-pass.ensures.number
    (made_with c.args.self.now i.home home i.events_limit c.args.seat.now seat (event.Move c.number-pass.result c.id-id.result s k c.args.bits.now.bits) c.self.view_is c.requires.caught_up made.home
    (invariant_of-self c).desk.kept.legal made.seat))

-- the document of the old column is given back unless a find may ask for it
pub returns-clause-gone : goal.returns-clause-gone
returns-clause-gone c =
    let i = c.self.inside in
    let then = (goal.at.returns-clause-gone c).After-let_go-gone in
    let at = from_whole then in
    subst (λ (d : DeskState). GivesBackOld d.history c.args.look.doc.id c.let_go-gone.result) c.self.view_is
    (gives-back i.home.pool i.events_limit i.home.history (left_books i) i.leaving c.self.invariant c.args.look.slice c.args.look.column at.doc at.lives at.from c.let_go-gone.new.leaving c.delete-since.new.self c.let_go-gone.new.records
    c.let_go-gone.result (table_then then) (lets_then then) c.args.look.doc.id (sym (id_now c.args.self.now i.home i.events_limit (books_of i c.self.invariant.whole) c.self.invariant.desk c.self.view_is c.args.seat.now c.requires.caught_up c.number-pass.result c.number-pass.ensures.number c.args.claim c.requires.written.holds c.args.look c.requires.look c.requires.there)))
