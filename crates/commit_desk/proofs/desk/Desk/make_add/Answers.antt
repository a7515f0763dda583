use Rattle.std.proofs.Common.{◌≡◌, false, true, ◌+◌, ◌<◌, [], ◌∷◌, ◌++◌, Some, length, All, cond, refl, sym, ap, ◌∙◌, subst, arith, Contains, ◌↔◌}
use Rattle.std.specs.Prelude.{◌==◌}
use Rattle.document_store.specs.Entries.{column_of}
use Rattle.document_store.specs.Slots.{is_over_in, with_slot}
use Rattle.document_store.specs.declared.column.Column.TheVariants as became
use Rattle.document_store.specs.declared.slots.Slot.{Slot}
use Rattle.funnel_model.specs.declared.bit_list.Bit.{Bit}
use Rattle.funnel_model.specs.declared.event.Event.TheVariants as event
use Rattle.funnel_model.specs.History.{is_live, place}
use Rattle.funnel_model.specs.Legal.{IsAllowed, IsInSlice}
use Rattle.funnel_model.proofs.Progress.{allowed_by}
use Rattle.slice_rule.specs.declared.view.Fact.TheVariants as fact
use Rattle.slice_rule.specs.Numbers.{last_number}
use Rattle.slice_rule.specs.Pools.{PoolId}
use Rattle.commit_desk.specs.Desks.{DeskState, Makes}
use Rattle.commit_desk.specs.Journals.{with_commit}
use Rattle.commit_desk.proofs.DocumentEvents.{desk-add, desk-as}
use Rattle.commit_desk.proofs.HeldClaims.{bits_now}
use Rattle.commit_desk.proofs.Inside.{books_of, desk_of, left_books}
use Rattle.commit_desk.proofs.Journals.{documents_fit, journal_fits}
use Rattle.commit_desk.proofs.Keeping.{column-left, same-column}
use Rattle.commit_desk.proofs.KeepingDesks.{keeping-slot}
use Rattle.commit_desk.proofs.RecordFacts.{no_entry, none_live_in_pending}
use Rattle.commit_desk.proofs.MadeEvents.{desk_at, made_with, number_is}
use Rattle.commit_desk.proofs.TakenColumns.{HasTaken, has_taken}
use Rattle.commit_desk.proofs.desk.Desk.make_add.Goals as goal

pub make_event-number-requires-clause-ready : goal.make_event-number-requires-clause-ready
make_event-number-requires-clause-ready c =
    subst (λ n. (b : Bit) → Contains c.args.bits.now.bits b ↔ Contains c.args.seat.now.own (fact.BitSet (last_number n c.args.seat.now.front) b)) (sym c.number-pass.ensures.number)
    c.requires.written.bits_set

-- what is kept of the column that it has claimed
held : (c : goal.After-live-arg-1) → HasTaken c.self.inside.home.history (books_of c.self.inside c.self.invariant.whole) c.number-pass.result c.args.claim
held c =
    let i = c.self.inside in
    has_taken c.args.self.now i.home i.events_limit (books_of i c.self.invariant.whole) c.self.invariant.desk c.self.view_is c.args.seat.now c.requires.caught_up c.number-pass.result c.number-pass.ensures.number c.args.claim c.requires.written.holds

absent_now : (c : goal.After-live-arg-1) → is_live c.args.doc.id c.self.inside.home.history ≡ false
absent_now c = subst (λ (d : DeskState). is_live c.args.doc.id d.history ≡ false) (sym c.self.view_is) c.requires.may.0

pub live-requires-clause-in_range : goal.live-requires-clause-in_range
live-requires-clause-in_range c =
    column-left c.self.invariant.whole c.self.inside.records c.args.claim.slice c.args.claim.column c.self.invariant.left (held c).column

pub live-requires-clause-pending : goal.live-requires-clause-pending
live-requires-clause-pending c =
    (c.number-pass.result, same-column c.self.invariant.whole c.self.inside.records c.args.claim.slice c.args.claim.column c.self.invariant.left (held c).column ∙ (held c).pending)

pub add-requires-clause-slice : goal.add-requires-clause-slice
add-requires-clause-slice c = let here = (held c.before.before).column.slice_in_range in omega (arith, here, c.self.invariant.desk.kept.listed.slices_are)

pub add-requires-clause-column : goal.add-requires-clause-column
add-requires-clause-column c = let here = (held c.before.before).column.column_in_range in omega (arith, here, c.self.invariant.desk.kept.listed.columns_are)

-- the column that was claimed is pending, so it has no live document
pub add-requires-clause-free : goal.add-requires-clause-free
add-requires-clause-free c other found =
    let i = c.self.inside in
    let kept = c.self.invariant.desk.kept in
    let entry = kept.listed.listed other c.args.claim.slice c.args.claim.column found in
    none_live_in_pending i.home.pool.limits i.home.history c.self.invariant.whole kept.legal kept.recorded c.number-pass.result c.args.claim.slice c.args.claim.column
    (held c.before.before).taken (held c.before.before).column entry.doc entry.live

pub add-requires-clause-absent : goal.add-requires-clause-absent
add-requires-clause-absent c =
    let i = c.self.inside in
    let kept = c.self.invariant.desk.kept in
    ap (column_of i.live) c.id-id.ensures ∙ no_entry i.home.pool.limits i.home.history c.self.invariant.whole kept.legal kept.recorded i.live kept.listed c.args.doc.id (absent_now c.before.before)

allowed_now : (c : goal.After-live-arg-1) → IsAllowed c.self.inside.home.pool.limits c.self.inside.home.history
    (event.Add c.number-pass.result c.args.doc.id c.args.doc.text c.args.claim.slice c.args.claim.column c.args.bits.now.bits)
allowed_now c =
    let i = c.self.inside in
    let pool : c.args.seat.now.pool ≡ i.home.pool = c.requires.caught_up.seated.same ∙ sym (ap (λ (d : DeskState). d.pool) c.self.view_is) in
    allowed_by i.home.pool.limits i.home.history (event.Add c.number-pass.result c.args.doc.id c.args.doc.text c.args.claim.slice c.args.claim.column c.args.bits.now.bits)
    (subst (λ (p : PoolId). c.number-pass.result < p.limits.passes) pool c.number-pass.ensures.in_range) c.self.invariant.desk.none_awaited
    (record {
      taken = (held c).taken;
      inside = subst (λ (d : DeskState). All (λ (b : Bit). IsInSlice d.pool.limits.slice_words c.args.claim.slice b.word) c.args.bits.now.bits) (sym c.self.view_is) c.requires.written.inside;
      in_word = c.requires.of_words;
    })

number_now : (c : goal.After-live-arg-1) → c.make_event-number.result ≡ length c.self.inside.home.history + 1
number_now c = let made = c.make_event-number.ensures in number_is c.self.inside.home c.make_event-number.new.home (event.Add c.number-pass.result c.args.doc.id c.args.doc.text c.args.claim.slice c.args.claim.column c.args.bits.now.bits) c.make_event-number.result made.home made.number

place_now : (c : goal.After-live-arg-1) → c.place-place.result + 1 ≡ place c.self.inside.home.history + 1
place_now c = ap (λ n. n + 1) (c.place-place.ensures ∙ c.self.invariant.desk.kept.journal_is.place_is)

-- one more commit can be counted
pub push-requires : goal.push-requires
push-requires c = journal_fits c.self.inside.home.pool c.self.inside.events_limit c.self.inside.home.history (books_of c.self.inside c.self.invariant.whole) c.self.invariant.desk

pub overflow_add-documents : goal.overflow_add-documents
overflow_add-documents c =
    let few = documents_fit c.self.inside.home.pool c.self.inside.events_limit c.self.inside.home.history (books_of c.self.inside c.self.invariant.whole) c.self.invariant.desk in
    omega (arith, few, c.documents-documents.ensures)

pub overflow_add-place : goal.overflow_add-place
overflow_add-place c =
    let few = journal_fits c.self.inside.home.pool c.self.inside.events_limit c.self.inside.home.history (books_of c.self.inside c.self.invariant.whole) c.self.invariant.desk in
    omega (arith, few, c.place-place.ensures)

pub invariant_of-self : goal.invariant_of-self
invariant_of-self c =
    let i = c.self.inside in
    let made = c.make_event-number.ensures in
    let home = c.make_event-number.new.home in
    let pass = c.number-pass.result in
    let doc = c.args.doc in
    let s = c.args.claim.slice in
    let k = c.args.claim.column in
    let bits = c.args.bits.now.bits in
    let earlier = c.before.before.before.before.before.before in
    let id : c.id-id.result ≡ doc.id = c.id-id.ensures in
    let y : Slot = record { column = became.Live (place i.home.history + 1) (length i.home.history + 1); doc = Some doc } in
    let table = with_slot c.self.invariant.whole s k y in
    let desk =
    desk-as i.home.pool home.pool i.events_limit (i.home.history ++ event.Add pass doc.id doc.text s k bits ∷ []) home.history
    (record {
      slices = i.slices;
      columns = i.columns;
      events = length i.home.history + 1;
      journal = with_commit i.journal (record { add = true; id = doc.id }) (i.journal.documents + 1);
      table = with_slot c.self.invariant.whole s k (record { column = became.Live (place i.home.history + 1) (length i.home.history + 1); doc = Some doc });
      live = c.add.new.self;
      tokens = i.tokens;
      layouts = i.layouts;
      stages = i.stages;
    })
    c.make_event-number.result c.push.new.self table c.add.new.self i.stages
    (desk-add i.home.pool i.events_limit i.home.history (books_of i c.self.invariant.whole) c.self.invariant.desk pass s k doc bits c.add.new.self (allowed_now earlier) (absent_now earlier) c.words.ensures.of_text
    (bits_now c.args.self.now (desk_of i) c.args.seat.now doc.words s k bits c.self.view_is c.requires.caught_up.front c.requires.written.document)
    (λ other. c.add.ensures.columns other ∙ ap (λ n. cond (other == n) (Some (s, k)) (column_of i.live other)) id)
    c.add.ensures.slices c.add.ensures.slice_columns)
    made.home.pool made.home.history
    (number_now earlier)
    (c.push.ensures ∙ ap (λ n. with_commit i.journal (record { add = true; id = n }) (c.documents-documents.result + 1)) id
    ∙ ap (λ n. with_commit i.journal (record { add = true; id = doc.id }) (n + 1)) c.documents-documents.ensures)
    refl refl refl in
    let told : c.live.new.self ≡ with_slot i.records s k y =
    c.live.ensures ∙ ap (λ n. with_slot i.records s k (record { column = became.Live n c.make_event-number.result; doc = Some doc })) (place_now earlier)
    ∙ ap (λ n. with_slot i.records s k (record { column = became.Live (place i.home.history + 1) n; doc = Some doc })) (number_now earlier) in
    keeping-slot i.home.pool i.events_limit i.home.history (left_books i) i.leaving c.self.invariant home.pool home.history
    (record (left_books i) { events = c.make_event-number.result; journal = c.push.new.self; table = c.live.new.self; live = c.add.new.self }) s k y desk told refl (held earlier).column
    (ap is_over_in (held earlier).pending) (λ since until over. cc over.1) (λ d over has. false_is_true over)
  where
    false_is_true : false ≡ true → ⊥
    false_is_true is = cc

pub returns-clause-made : goal.returns-clause-made
returns-clause-made c =
    let i = c.self.inside in
    let made = c.make_event-number.ensures in
    let home = c.make_event-number.new.home in
    let seat = c.make_event-number.new.seat in
    subst (λ n. Makes (event.Add n c.args.doc.id c.args.doc.text c.args.claim.slice c.args.claim.column c.args.bits.now.bits ∷ []) c.args.self.now (desk_at home i.events_limit) c.args.seat.now seat) c.number-pass.ensures.number
    (made_with c.args.self.now i.home home i.events_limit c.args.seat.now seat (event.Add c.number-pass.result c.args.doc.id c.args.doc.text c.args.claim.slice c.args.claim.column c.args.bits.now.bits) c.self.view_is c.requires.caught_up made.home (invariant_of-self c).desk.kept.legal made.seat)
