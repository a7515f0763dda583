-- The quotient by the reciprocal is right, or too low by one.
use Rattle.std.proofs.Common.{rules, ◌≡◌, ℕ, ◌-◌, ◌*◌, ◌/◌, ◌%◌, ◌<◌, ◌≤◌, ap, sym, subst, ◌∙◌, arith}
use Rattle.term_hash.proofs.Remainders.{IsNear, near, left_is, left_is_less}
use Rattle.term_hash.proofs.row_count.RowCount.remainder.Goals as goal

-- what is known of the numbers of a call
near_is : (rows hash reciprocal d h m : ℕ) → 1 ≤ rows → reciprocal ≡ 18446744073709551615 / rows → d ≡ rows → h ≡ hash → m ≡ reciprocal → hash < 18446744073709551616 →
    IsNear d hash (h * m / 18446744073709551616)
near_is rows hash reciprocal d h m some is d_is h_is m_is small =
    subst (λ (k : ℕ). IsNear d k (h * m / 18446744073709551616)) h_is
    (near d h m (omega arith) (omega arith) (m_is ∙ is ∙ ap (λ (k : ℕ). 18446744073709551615 / k) (sym d_is)))

pub overflow_sub-rest : goal.overflow_sub-rest
overflow_sub-rest c = (near_is c.self.inside.rows c.args.hash c.self.inside.reciprocal c.from-rows.result c.from.result c.from-2.result c.self.invariant.0 c.self.invariant.1 c.from-rows.ensures c.from.ensures c.from-2.ensures c.ranges.hash.fits).not_high

pub overflow_cast-result-else-rest-rows : goal.overflow_cast-result-else-rest-rows
overflow_cast-result-else-rest-rows c =
    let near = near_is c.self.inside.rows c.args.hash c.self.inside.reciprocal c.from-rows.result c.from.result c.from-2.result c.self.invariant.0 c.self.invariant.1 c.from-rows.ensures c.from.ensures c.from-2.ensures c.ranges.hash.fits in
    let fits : c.args.hash - c.from.result * c.from-2.result / 18446744073709551616 * c.from-rows.result - c.from-rows.result < 4294967296 =
    omega (arith, near.not_low, near.not_high, c.self.ranges.0.1, c.from-rows.ensures) in
    search rules

pub returns-then-rest-rows-clause-value : goal.returns-then-rest-rows-clause-value
returns-then-rest-rows-clause-value c =
    let near = near_is c.self.inside.rows c.args.hash c.self.inside.reciprocal c.from-rows.result c.from.result c.from-2.result c.self.invariant.0 c.self.invariant.1 c.from-rows.ensures c.from.ensures c.from-2.ensures c.ranges.hash.fits in
    left_is c.from-rows.result c.args.hash (c.from.result * c.from-2.result / 18446744073709551616) near.not_high c.if-rest-rows.true
    ∙ ap (λ (d : ℕ). c.args.hash % d) (c.from-rows.ensures ∙ c.self.view_is)

pub returns-else-rest-rows-clause-value : goal.returns-else-rest-rows-clause-value
returns-else-rest-rows-clause-value c =
    let near = near_is c.self.inside.rows c.args.hash c.self.inside.reciprocal c.from-rows.result c.from.result c.from-2.result c.self.invariant.0 c.self.invariant.1 c.from-rows.ensures c.from.ensures c.from-2.ensures c.ranges.hash.fits in
    left_is_less c.from-rows.result c.args.hash (c.from.result * c.from-2.result / 18446744073709551616) near c.if-rest-rows.false
    ∙ ap (λ (d : ℕ). c.args.hash % d) (c.from-rows.ensures ∙ c.self.view_is)

pub returns-else-rest-rows-clause-within : goal.returns-else-rest-rows-clause-within
returns-else-rest-rows-clause-within c =
    let near = near_is c.self.inside.rows c.args.hash c.self.inside.reciprocal c.from-rows.result c.from.result c.from-2.result c.self.invariant.0 c.self.invariant.1 c.from-rows.ensures c.from.ensures c.from-2.ensures c.ranges.hash.fits in
    omega (arith, near.not_low, near.not_high, c.from-rows.ensures, c.self.view_is)
