use Rattle.std.proofs.Common.{[], ◌∷◌, ◌++◌, sym, ap, ◌∙◌, subst, arith}
use Rattle.funnel_model.specs.declared.event.Event.TheVariants as event
use Rattle.pool_tests.specs.Cleared.{drops}
use Rattle.pool_tests.proofs.Cleared.{room_for_take, allowed_at, take_second_allowed}
use Rattle.pool_tests.proofs.Unlisted.{IsUntuned, keeps, taken_untuned}
use Rattle.pool_tests.proofs.clearing.take_second.Goals as goal

pub make_event-requires-clause-allowed : goal.make_event-requires-clause-allowed
make_event-requires-clause-allowed c =
    allowed_at c.args.pool.now.limits c.args.home.now.history (drops 63) (event.Take 1 1 0) c.requires.at.sizes c.requires.at.history take_second_allowed

pub set_bit-requires-clause-owner : goal.set_bit-requires-clause-owner
set_bit-requires-clause-owner c =
    let made = c.make_event.ensures.seat in
    let seat = c.make_event.new.seat in
    keeps c.args.pool.now seat (record { slice = 1; column = 0 }) (record { word = 1; bit = 5 }) (made.pool ∙ c.requires.at.seat_pool) c.requires.words
    (subst IsUntuned (sym (made.front ∙ ap (λ h. h ++ event.Take 1 1 0 ∷ []) c.requires.at.front)) (taken_untuned 63 1 1 0))

pub make_event-requires-clause-room : goal.make_event-requires-clause-room
make_event-requires-clause-room c = room_for_take c.args.home.now.history 63 c.requires.at.history (omega arith)
