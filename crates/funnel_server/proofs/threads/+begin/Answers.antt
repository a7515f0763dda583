use Rattle.std.proofs.Common.{Some, rules, ◌≡◌, ◌++◌, ◌∷◌, [], List, false, subst, sym}
use Rattle.std.proofs.lemmas.List.Elements.{All-pop}
use Rattle.std.specs.List.{AllZip}
use Rattle.funnel_server.specs.Started.{WorksWhere}
use Rattle.funnel_server.specs.Workers.{HasMetNoFault}
use Rattle.funnel_server.proofs.Zipped.{zip_more, zip_self}
use Rattle.funnel_server.proofs.threads.+begin.Goals as goal

pub returns-in-Ok-clause-work : goal.returns-in-Ok-clause-work
returns-in-Ok-clause-work g t c =
    let Works = WorksWhere g.G.Gate g.G.Conn.Source g.G.Conn.Sink c.begin-begun.result.decided.value in
    let popped : c.args.workers.now.items ≡ c.pop.new.self.items ++ c.in-Some.worker ∷ [] = search rules in
    let kept : Works c.in-Some.worker c.join-worker.result.worker = search rules in
    subst (λ (workers : List _). AllZip Works workers c.put_back.new.workers.items) (sym popped)
    (subst (AllZip Works (c.pop.new.self.items ++ c.in-Some.worker ∷ [])) (sym c.put_back.ensures.all)
    (zip_more Works c.pop.new.self.items c.begin-begun.new.workers.items c.in-Some.worker c.join-worker.result.worker c.begin-begun.ensures.work kept))

pub returns-in-Err-clause-work : goal.returns-in-Err-clause-work
returns-in-Err-clause-work g t c =
    let Works = WorksWhere g.G.Gate g.G.Conn.Source g.G.Conn.Sink in
    let popped : c.args.workers.now.items ≡ c.pop.new.self.items ++ c.in-Some.worker ∷ [] = search rules in
    let stays : c.decide-decided.result.value ≡ false = c.decide-decided.ensures.decided in
    let kept : Works c.decide-decided.result.value c.in-Some.worker c.thread-joined.result.worker = search rules in
    subst (λ (workers : List _). AllZip (Works c.decide-decided.result.value) workers c.put_back-in-Err.new.workers.items) (sym popped)
    (subst (AllZip (Works c.decide-decided.result.value) (c.pop.new.self.items ++ c.in-Some.worker ∷ [])) (sym c.put_back-in-Err.ensures.all)
    (zip_more (Works c.decide-decided.result.value) c.pop.new.self.items c.pop.new.self.items c.in-Some.worker c.thread-joined.result.worker
    (subst (λ all. AllZip (Works all) c.pop.new.self.items c.pop.new.self.items) (sym stays) (zip_self c.pop.new.self.items)) kept))

-- the worker that is handed back is the one that was taken out
pub thread-joined-requires : goal.thread-joined-requires
thread-joined-requires g t c κs within =
    let popped : c.args.workers.now.items ≡ c.pop.new.self.items ++ c.in-Some.worker ∷ [] = search rules in
    let same : c.in-Err.refused.value.2 ≡ c.in-Some.worker = search rules in
    let ready : HasMetNoFault c.in-Some.worker.state =
    (All-pop (λ worker. HasMetNoFault worker.state) c.args.workers.now.items c.pop.new.self.items (Some c.in-Some.worker) popped c.requires.ready).1 in
    (within.0, (within.1.0, (within.1.1.0, (within.1.1.1, subst (λ worker. HasMetNoFault worker.state) (sym same) ready))))
