use Rattle.std.proofs.Common.{rules, ◌≡◌, true, false, subst}
use Rattle.std.specs.List.{AllZip}
use Rattle.funnel_server.specs.Started.{WorksWhere}
use Rattle.funnel_server.proofs.Zipped.{zip_length, zip_same}
use Rattle.funnel_server.proofs.workers.run_workers.Goals.{then-value, else-value}
use Rattle.funnel_server.proofs.workers.run_workers.Goals as goal

pub returns-clause-all : goal.returns-clause-all
returns-clause-all g c =
    zip_length (WorksWhere g.G.Gate g.G.Conn.Source g.G.Conn.Sink c.begin_all-workers.result.1.decided.value) c.args.workers.items c.begin_all-workers.result.0.items
    c.begin_all-workers.ensures.work

pub returns-clause-work : goal.returns-clause-work
returns-clause-work g c =
    elim c.if-value.branch [
      | then-value w ↦
          let all : c.begin_all-workers.result.1.decided.value ≡ true = search rules in
          let works = subst (λ all. AllZip (WorksWhere g.G.Gate g.G.Conn.Source g.G.Conn.Sink all) c.args.workers.items c.begin_all-workers.result.0.items) all c.begin_all-workers.ensures.work in
          search (rules, works)
      | else-value w ↦ search rules
    ]

pub returns-clause-untouched : goal.returns-clause-untouched
returns-clause-untouched g c =
    elim c.if-value.branch [
      | then-value w ↦ search rules
      | else-value w ↦
          let stays : c.begin_all-workers.result.1.decided.value ≡ false = search rules in
          let same = zip_same c.args.workers.items c.begin_all-workers.result.0.items
          (subst (λ all. AllZip (WorksWhere g.G.Gate g.G.Conn.Source g.G.Conn.Sink all) c.args.workers.items c.begin_all-workers.result.0.items) stays c.begin_all-workers.ensures.work) in
          search (rules, same)
    ]
