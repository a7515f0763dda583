-- Seats and notes may be shared: a `&` to one holds nothing of the thread that made it.
use denote.RattleType.{RattleType}
use denote.Param.Send.{IsSend, IsSync, part_keyless, sendable}
use Rattle.atomic_table.specs.contracts.shared.Seat as Seat
use Rattle.atomic_table.proofs.shared.Seat.TheSendSync.{the_send}
use Rattle.slice_rule.specs.contracts.seats.Home as Home
use Rattle.slice_rule.specs.contracts.seats.Note as Note
use Rattle.slice_rule.specs.contracts.seats.PassSeat as PassSeat

pub seat_sync : (S V : RattleType) → IsSend S → IsSync (Seat.the_row S V)
seat_sync S V s = record { shared = λ d b o κ q. part_keyless (Seat.the_row S V) (the_send S V s) q d b o }

pub note_sync : IsSync Note.the_row
note_sync = search (sendable, seat_sync) depth 20

pub home_sync : IsSync Home.the_row
home_sync = search (sendable, seat_sync) depth 20

pub pass_sync : IsSync PassSeat.the_row
pass_sync = search (sendable, seat_sync) depth 20
