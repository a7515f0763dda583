use Rattle.std.proofs.Common.{sym, ap, ◌∙◌}
use Rattle.std.specs.Option.{is_some}
use Rattle.commit_desk.proofs.Checks.{absent_by_place, live_by_place, takes_calls}
use Rattle.commit_desk.proofs.desk.Desk.check_delete.Goals as goal

pub returns-then-is_none : goal.returns-then-is_none
returns-then-is_none c = (takes_calls c.args.self.now.events_limit c.args.self.now.history c.if-is_spent.ensures.spent.1, absent_by_place c.args.self.now.history c.args.id (ap is_some (sym c.place_of.ensures) ∙ c.if-is_none.ensures))

pub returns : goal.returns
returns c = record {
  takes_calls = takes_calls c.args.self.now.events_limit c.args.self.now.history c.if-is_spent.ensures.spent.1;
  live = live_by_place c.args.self.now.history c.args.id (ap is_some (sym c.place_of.ensures) ∙ c.if-is_none.ensures);
}
