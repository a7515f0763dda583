use Rattle.std.proofs.Common.{sym, subst}
use Rattle.funnel_model.specs.Legal.{IsIdle}
use Rattle.funnel_model.specs.Numbers.{AreStats}
use Rattle.commit_desk.specs.Answers.{TakesCalls}
use Rattle.commit_desk.specs.Desks.{DeskState}
use Rattle.commit_desk.proofs.Checks.{takes_calls}
use Rattle.commit_desk.proofs.FindTurns.{desk_is}
use Rattle.commit_desk.proofs.Turns.{idle_now}
use Rattle.commit_desk.proofs.desk.Desk.read_stats.Goals as goal

pub make_plain-requires-clause-may : goal.make_plain-requires-clause-may
make_plain-requires-clause-may c =
    let e = c.catch_up.ensures in record {
      idle = subst (λ n. IsIdle n c.catch_up.new.home.history) (sym c.number-pass.ensures.number)
          (idle_now c.args.seat.now c.catch_up.new.seat c.catch_up.new.home.history e.seat e.none_since e.front c.requires.idle);
      reads = tt;
    }

-- the numbers are told where calls are taken
pub returns-clause-answer : goal.returns-clause-answer
returns-clause-answer c =
    let i = c.self.inside in
    let home = c.catch_up.new.home in
    subst (λ (d : DeskState). TakesCalls d.events_limit d.history × AreStats d.pool.limits d.history c.stats-stats.result)
    (desk_is c.args.self.now i.home home i.events_limit c.self.view_is c.catch_up.ensures.home)
    (takes_calls i.events_limit home.history c.if-is_spent.ensures.spent.1, c.stats-stats.ensures)
