use Rattle.std.proofs.Common.{rules, ◌≡◌, ℕ, ◌-◌, ◌<◌, ◌^◌, List, ◌∷◌, ◌++◌, [], sym, subst, w64, arith}
use Rattle.std.specs.Int.{trailing_zeros}
use Rattle.std.specs.Prelude.{bit_and}
use Rattle.rank_matcher.proofs.SetBits.{IsTaken, taken-none, taken-next, taken-all}
use Rattle.rank_matcher.proofs.words.push_columns.Goals as goal

pub loop-left-init : goal.loop-left-init
loop-left-init c = ([], taken-none _ _ _ _)

pub loop-left-preserved : goal.loop-left-preserved
loop-left-preserved c =
    let left : ℕ = c.loop-left.left in
    let front : List ℕ = c.loop-left.invariant.0 ++ trailing_zeros w64 left ∷ [] in
    let some : 0 < left = omega arith in
    let small : left < 2 ^ 64 = search rules in (
      front,
      subst (λ (out : List (ℕ × ℕ)). IsTaken c.args.word (bit_and left (left - 1)) c.args.first c.args.slice c.args.out.now out front) (sym c.in_ok-push.ensures.added)
          (taken-next c.args.word left c.args.first c.args.slice c.args.out.now c.loop-left.out c.loop-left.invariant.0 some small c.loop-left.invariant.1),
    )

pub returns-clause-all : goal.returns-clause-all
returns-clause-all c =
    let none : c.loop-left.left ≡ 0 = omega arith in
    taken-all c.args.word c.args.first c.args.slice c.args.out.now c.loop-left.out c.loop-left.invariant.0
    (subst (λ left. IsTaken c.args.word left c.args.first c.args.slice c.args.out.now c.loop-left.out c.loop-left.invariant.0) none c.loop-left.invariant.1)
