use Rattle.std.proofs.Common.{[], sym, subst}
use Rattle.funnel_model.specs.declared.reply.Reply.TheVariants as reply
use Rattle.funnel_stats.specs.Tunings.{tuned}
use Rattle.line_proto.specs.declared.request.Request.{Request}
use Rattle.line_proto.specs.Requests.{requested}
use Rattle.line_proto.specs.Services.{AnswersAsked, Caller}
use Rattle.line_proto.proofs.Tunings.{wants_memory}
use Rattle.protocol_tests.proofs.sessions.SpentPassService.call.Goals as goal

-- the pass, as its contract says it
abbrev caller : Caller
caller = record {
  opening = record {
    passes = 1;
    slices = 1;
    blocks = 1;
    max_rank = 0;
    commits = 1;
    reserve = 0;
    one_in = 10;
    snr = 10;
    documents = 1;
    tail = 0;
    max_rows = 1;
    private = 0;
    words = [];
  };
  limits = record { passes = 1; slices = 1; columns = 64; slice_words = 1; commits = 1; events = 0 };
  pass = 0;
}

pub returns-in-Tune-clause-answers : goal.returns-in-Tune-clause-answers
returns-in-Tune-clause-answers c =
    subst (λ (r : Request). AnswersAsked caller [] [] (requested r) reply.Memory) (sym c.in-Tune.is) (wants_memory caller [] tt tt (tuned caller.opening _))
