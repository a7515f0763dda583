use Rattle.std.proofs.Common.{subst}
use Rattle.commit_desk.specs.Desks.{DeskState}
use Rattle.commit_desk.specs.Leaving.{GivesBackOld}
use Rattle.commit_desk.proofs.FindTurns.{desk_is}
use Rattle.commit_desk.proofs.Turns.{idle_now}
use Rattle.commit_desk.proofs.desk.Desk.delete.Goals as goal

pub make_delete-made-requires-clause-idle : goal.make_delete-made-requires-clause-idle
make_delete-made-requires-clause-idle c =
    let up = c.catch_up.ensures in idle_now c.args.seat.now c.catch_up.new.seat c.catch_up.new.home.history up.seat up.none_since up.front c.requires.idle

pub refuse_delete-requires-clause-idle : goal.refuse_delete-requires-clause-idle
refuse_delete-requires-clause-idle c =
    let up = c.catch_up.ensures in idle_now c.args.seat.now c.catch_up.new.seat c.catch_up.new.home.history up.seat up.none_since up.front c.requires.idle

-- the document is given back as it is made to be
pub returns-in-Ok-clause-gone : goal.returns-in-Ok-clause-gone
returns-in-Ok-clause-gone c =
    let i = c.self.inside in
    let home = c.catch_up.new.home in
    subst (λ (d : DeskState). GivesBackOld d.history c.args.id c.make_delete-made.result.1) (desk_is c.args.self.now i.home home i.events_limit c.self.view_is c.catch_up.ensures.home) c.make_delete-made.ensures.gone
