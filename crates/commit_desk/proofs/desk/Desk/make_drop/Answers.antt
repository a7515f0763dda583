use Rattle.std.proofs.Common.{◌≡◌, true, ◌+◌, ◌<◌, [], ◌∷◌, ◌++◌, None, length, refl, sym, ap, ◌∙◌, subst, arith}
use Rattle.document_store.specs.Slots.{is_over_in, with_slot}
use Rattle.document_store.specs.declared.slots.Slot.{Slot}
use Rattle.document_store.specs.declared.column.Column.TheVariants as became
use Rattle.funnel_model.specs.declared.event.Event.TheVariants as event
use Rattle.funnel_model.specs.History.{is_live}
use Rattle.funnel_model.specs.Legal.{IsAllowed}
use Rattle.funnel_model.proofs.Progress.{allowed_by}
use Rattle.slice_rule.specs.Pools.{PoolId}
use Rattle.slice_stages.specs.Stages.{IsUsed, after_end, with_stage}
use Rattle.commit_desk.specs.Desks.{DeskState, Makes}
use Rattle.commit_desk.proofs.DocumentEvents.{desk-as, desk-drop, none_retired_later}
use Rattle.commit_desk.proofs.Inside.{books_of, left_books}
use Rattle.commit_desk.proofs.Keeping.{column-left, same-column}
use Rattle.commit_desk.proofs.KeepingDesks.{keeping-slot}
use Rattle.commit_desk.proofs.MadeEvents.{desk_at, made_with, number_is}
use Rattle.commit_desk.proofs.SliceEvents.{books_after}
use Rattle.commit_desk.proofs.TakenColumns.{HasTaken, has_taken}
use Rattle.commit_desk.proofs.desk.Desk.make_drop.Goals as goal

-- what is kept of the column that it has claimed
held : (c : goal.After-drop_column-arg-1) → HasTaken c.self.inside.home.history (books_of c.self.inside c.self.invariant.whole) c.number-pass.result c.args.claim
held c =
    let i = c.self.inside in
    has_taken c.args.self.now i.home i.events_limit (books_of i c.self.invariant.whole) c.self.invariant.desk c.self.view_is c.args.seat.now c.requires.caught_up c.number-pass.result c.number-pass.ensures.number c.args.claim c.requires.claim

number_now : (c : goal.After-drop_column-arg-1) → c.make_event-number.result ≡ length c.self.inside.home.history + 1
number_now c = let made = c.make_event-number.ensures in number_is c.self.inside.home c.make_event-number.new.home (event.Drop c.number-pass.result c.args.doc.id c.args.doc.text c.args.claim.slice c.args.claim.column) c.make_event-number.result made.home made.number

pub drop_column-requires-clause-in_range : goal.drop_column-requires-clause-in_range
drop_column-requires-clause-in_range c =
    column-left c.self.invariant.whole c.self.inside.records c.args.claim.slice c.args.claim.column c.self.invariant.left (held c).column

pub drop_column-requires-clause-pending : goal.drop_column-requires-clause-pending
drop_column-requires-clause-pending c =
    (c.number-pass.result, same-column c.self.invariant.whole c.self.inside.records c.args.claim.slice c.args.claim.column c.self.invariant.left (held c).column ∙ (held c).pending)

pub end_column-requires-clause-in_range : goal.end_column-requires-clause-in_range
end_column-requires-clause-in_range c =
    let kept = c.self.invariant.desk.kept in
    let here = (held c.before.before).column.slice_in_range in
    omega (arith, here, kept.recorded.slices_are, kept.staged.count)

pub end_column-requires-clause-used : goal.end_column-requires-clause-used
end_column-requires-clause-used c = subst IsUsed (sym (held c.before.before).stage.2) tt

pub end_column-requires-clause-last : goal.end_column-requires-clause-last
end_column-requires-clause-last c =
    let i = c.self.inside in
    none_retired_later i.home.pool i.events_limit i.home.history (books_of i c.self.invariant.whole) c.self.invariant.desk c.make_event-number.result (number_now c.before.before)

pub end_column-requires-clause-later : goal.end_column-requires-clause-later
end_column-requires-clause-later c = let within = c.self.invariant.desk.kept.staged.mark_within in omega (arith, within, number_now c.before.before)

allowed_now : (c : goal.After-drop_column-arg-1) → IsAllowed c.self.inside.home.pool.limits c.self.inside.home.history
    (event.Drop c.number-pass.result c.args.doc.id c.args.doc.text c.args.claim.slice c.args.claim.column)
allowed_now c =
    let i = c.self.inside in
    let pool : c.args.seat.now.pool ≡ i.home.pool = c.requires.caught_up.seated.same ∙ sym (ap (λ (d : DeskState). d.pool) c.self.view_is) in
    allowed_by i.home.pool.limits i.home.history (event.Drop c.number-pass.result c.args.doc.id c.args.doc.text c.args.claim.slice c.args.claim.column)
    (subst (λ (p : PoolId). c.number-pass.result < p.limits.passes) pool c.number-pass.ensures.in_range) c.self.invariant.desk.none_awaited
    (record {
      taken = (held c).taken;
      present = subst (λ (d : DeskState). is_live c.args.doc.id d.history ≡ true) (sym c.self.view_is) c.requires.present;
    })

pub invariant_of-self : goal.invariant_of-self
invariant_of-self c =
    let i = c.self.inside in
    let made = c.make_event-number.ensures in
    let home = c.make_event-number.new.home in
    let pass = c.number-pass.result in
    let doc = c.args.doc in
    let s = c.args.claim.slice in
    let k = c.args.claim.column in
    let earlier = c.before.before.before.before.before.before.before.before.before in
    let at = (held earlier).stage in
    let e = event.Drop pass doc.id doc.text s k in
    let ended = after_end i.home.pool.limits.columns (length i.home.history + 1) at.0 at.1 in
    let y : Slot = record { column = became.Dropped; doc = None } in
    let table = with_slot c.self.invariant.whole s k y in
    let desk =
    desk-as i.home.pool home.pool i.events_limit (i.home.history ++ e ∷ []) home.history
    (record {
      slices = i.slices;
      columns = i.columns;
      events = length i.home.history + 1;
      journal = i.journal;
      table = with_slot c.self.invariant.whole s k (record { column = became.Dropped; doc = None });
      live = i.live;
      tokens = i.tokens;
      layouts = i.layouts;
      stages = with_stage i.stages s ended;
    })
    c.make_event-number.result i.journal table i.live c.end_column.new.self
    (desk-drop i.home.pool i.events_limit i.home.history (books_of i c.self.invariant.whole) c.self.invariant.desk pass doc.id doc.text s k at.0 at.1 (allowed_now earlier) at.2)
    made.home.pool made.home.history (number_now earlier) refl refl refl
    (c.end_column.ensures at.0 at.1 at.2 ∙ ap (λ n. with_stage i.stages s (after_end n c.make_event-number.result at.0 at.1)) c.self.invariant.desk.kept.staged.columns_are
    ∙ ap (λ n. with_stage i.stages s (after_end i.home.pool.limits.columns n at.0 at.1)) (number_now earlier)) in
    keeping-slot i.home.pool i.events_limit i.home.history (left_books i) i.leaving c.self.invariant home.pool home.history
    (books_after (left_books i) c.make_event-number.result c.drop_column.new.self c.end_column.new.self) s k y desk c.drop_column.ensures refl (held earlier).column
    (ap is_over_in (held earlier).pending) (λ since until over. cc over.1) (λ doc over has. cc has)

pub returns-clause-made : goal.returns-clause-made
returns-clause-made c =
    let i = c.self.inside in
    let made = c.make_event-number.ensures in
    let home = c.make_event-number.new.home in
    let seat = c.make_event-number.new.seat in
    subst (λ n. Makes (event.Drop n c.args.doc.id c.args.doc.text c.args.claim.slice c.args.claim.column ∷ []) c.args.self.now (desk_at home i.events_limit) c.args.seat.now seat) c.number-pass.ensures.number
    (made_with c.args.self.now i.home home i.events_limit c.args.seat.now seat (event.Drop c.number-pass.result c.args.doc.id c.args.doc.text c.args.claim.slice c.args.claim.column) c.self.view_is c.requires.caught_up made.home (invariant_of-self c).desk.kept.legal made.seat)
