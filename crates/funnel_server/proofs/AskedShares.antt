-- A worker of a load asks all its share, one call after another: what its pass sees between two parts joins the call that comes next.
use Rattle.std.proofs.Common.{◌≢◌, ℕ, List, [], ◌∷◌, ◌++◌, refl, subst}
use Rattle.std.proofs.lemmas.List.Elements.{All-append}
use Rattle.commit_desk.proofs.Turns.{whole_is_front}
use Rattle.funnel_model.specs.declared.call.Call.{Call}
use Rattle.funnel_model.specs.declared.event.Event.{Event}
use Rattle.funnel_model.specs.declared.reply.Reply.{Reply}
use Rattle.funnel_model.specs.declared.reply.Reply.TheVariants as reply
use Rattle.funnel_model.specs.History.{IsFrontOf}
use Rattle.funnel_model.specs.Legal.{Limits}
use Rattle.funnel_model.specs.Steps.{Linear}
use Rattle.line_proto.specs.Services.{Caller}
use Rattle.load_gen.specs.Jobs.{adds_of, deletes_of, queries_of}
use Rattle.funnel_server.proofs.JoinedCalls.{linear-append, step_from_front}
use Rattle.load_laws.proofs.FrontLemmas.{front_trans}
use Rattle.funnel_server.specs.Laws.{AsksShare}
use Rattle.funnel_server.specs.Loads.{AreAsked, ComesToQueries, Course}

-- calls that lead to a front of what the pass has seen then
record RunsTo (limits : Limits) (pass : ℕ) (before after : List Event) (calls : List Call) (replies : List Reply) : Type 0 where
  front : List Event
  run : Linear limits pass before front calls replies
  seen : IsFrontOf pass front after

-- so calls from a history are calls from each front of it
run_from_front : (limits : Limits) (pass : ℕ) (front before after : List Event) (calls : List Call) (replies : List Reply) → IsFrontOf pass front before →
    Linear limits pass before after calls replies → RunsTo limits pass front after calls replies
run_from_front limits pass front before after [] [] seen is = record { front = front; run = refl; seen = subst (IsFrontOf pass front) is seen }
run_from_front limits pass front before after (asked ∷ calls) (given ∷ replies) seen run = record {
  front = after;
  run = (run.0, step_from_front limits pass front before run.0 asked given seen run.1, run.2);
  seen = whole_is_front pass after;
}
run_from_front limits pass front before after [] (given ∷ replies) seen run = absurd run
run_from_front limits pass front before after (asked ∷ calls) [] seen run = absurd run

-- the three parts of a share one after another
pub asks_share : (caller : Caller) (before queried after : List Event) (texts : List (List ℕ)) (workers : ℕ) (course : Course) (to_queries : List Reply) →
    ComesToQueries caller before texts workers course → AreAsked caller course.met_deleted queried (queries_of workers caller.pass) to_queries →
    IsFrontOf caller.pass queried after → AsksShare caller before after texts workers (course.to_adds ++ course.to_deletes ++ to_queries)
asks_share caller before queried after texts workers course to_queries comes asked meets =
    let limits = caller.limits in
    let pass = caller.pass in
    let adds = adds_of texts workers pass in
    let deletes = deletes_of texts workers pass in
    let queries = queries_of workers pass in
    let second = run_from_front limits pass course.added course.met_added course.deleted deletes course.to_deletes comes.meets_adds comes.deletes.run in
    let third = run_from_front limits pass second.front course.met_deleted queried queries to_queries
    (front_trans pass second.front course.deleted course.met_deleted second.seen comes.meets_deletes) asked.run in
    record {
      front = third.front;
      asked = record {
        run =
            linear-append limits pass before second.front third.front (adds ++ deletes) queries (course.to_adds ++ course.to_deletes) to_queries
            (linear-append limits pass before course.added second.front adds deletes course.to_adds course.to_deletes comes.adds.run second.run) third.run;
        memory =
            All-append (λ r. r ≢ reply.Memory) (course.to_adds ++ course.to_deletes) to_queries
            (All-append (λ r. r ≢ reply.Memory) course.to_adds course.to_deletes comes.adds.memory comes.deletes.memory) asked.memory;
      };
      seen = front_trans pass third.front queried after third.seen meets;
    }
