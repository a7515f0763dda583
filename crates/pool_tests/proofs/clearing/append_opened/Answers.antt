use Rattle.std.proofs.Common.{ap, ◌∙◌, arith}
use Rattle.slice_rule.specs.Seats.{HomeState, NoteState}
use Rattle.pool_tests.specs.Cleared.{ended}
use Rattle.pool_tests.proofs.Cleared.{ended_length, room_after, zero_told}
use Rattle.pool_tests.proofs.clearing.append_opened.Goals as goal

pub append-number-requires-clause-backed : goal.append-number-requires-clause-backed
append-number-requires-clause-backed c =
    zero_told c.args.pool.now.limits c.args.seat.now c.args.home.now c.join_home.new.home c.split_pass-note.result c.requires.sizes c.requires.home.1 c.requires.zero
    (ap (λ (n : NoteState). n.facts) c.split_pass-note.ensures.note) c.join_home.ensures.home

pub append-number-requires-clause-room : goal.append-number-requires-clause-room
append-number-requires-clause-room c =
    room_after c.join_home.new.home.history ended 134 (ap (λ (h : HomeState). h.history) c.join_home.ensures.home ∙ c.requires.home.1) ended_length (omega arith)
