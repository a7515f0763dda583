use Rattle.std.proofs.Common.{[], refl, sym, subst, arith}
use Rattle.std.specs.List.{All}
use Rattle.std.specs.List.Sorted.{IsStrictlySortedBy}
use Rattle.funnel_model.specs.Configuration.{CountsWords, IsWord}
use Rattle.funnel_model.specs.Listed.{IsInByteOrder}
use Rattle.commit_desk_tests.proofs.tuning.with_tail.Goals as goal

none_in_order : IsInByteOrder []
unfolding IsStrictlySortedBy
none_in_order = tt

pub returns : goal.returns
returns c =
    let is = c.requires.in_range in
    let none = sym c.no_words.ensures in
    record {
      kept = refl;
      in_range = record {
        passes = is.passes;
        slices = is.slices;
        blocks = is.blocks;
        max_rank = is.max_rank;
        commits = is.commits;
        reserve = is.reserve;
        one_in = is.one_in;
        snr = is.snr;
        documents = is.documents;
        tail = c.requires.tail;
        max_rows = is.max_rows;
        private = is.private;
        words = subst (λ words. CountsWords (record c.args.base.now { tail = c.args.tail; words = words })) none (record { few = omega arith; counted = λ k d below. absurd (omega (arith, below)) });
      };
      in_order = subst IsInByteOrder none none_in_order;
      folded = subst (All (λ entry. IsWord entry.0)) none (λ k d below. absurd (omega (arith, below)));
    }
