use Rattle.std.proofs.Common.{refl, sym, ap}
use Rattle.std.specs.Option.{is_some}
use Rattle.commit_desk.proofs.Checks.{absent_by_place}
use Rattle.commit_desk.proofs.desk.Desk.check_commit.Goals as goal

pub returns : goal.returns
returns c = (absent_by_place c.args.self.now.history c.args.id (ap is_some (sym c.in_default.ensures)), refl)
