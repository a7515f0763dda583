use Rattle.std.proofs.Common.{◌≡◌, ℕ, ap, ◌∙◌, subst}
use Rattle.slice_rule.specs.Numbers.{last_number}
use Rattle.pool_tests.specs.Written.{KnowsJust}
use Rattle.pool_tests.proofs.writing.write_both.Goals as goal

pub returns-clause-low : goal.returns-clause-low
returns-clause-low g c =
    let seat = c.args.first in
    let number : last_number seat.number seat.front ≡ 1 = ap (λ p. last_number p seat.front) c.requires.first.0 ∙ ap (last_number 0) c.requires.first.1 in
    subst (λ (n : ℕ). KnowsJust n c.args.low.now.bits c.join.result.0.own) number c.join.ensures.first.1

pub returns-clause-high : goal.returns-clause-high
returns-clause-high g c =
    let seat = c.args.second in
    let number : last_number seat.number seat.front ≡ 2 = ap (λ p. last_number p seat.front) c.requires.second.0 ∙ ap (last_number 1) c.requires.second.1 in
    subst (λ (n : ℕ). KnowsJust n c.args.high.now.bits c.join.result.1.own) number c.join.ensures.second.1
