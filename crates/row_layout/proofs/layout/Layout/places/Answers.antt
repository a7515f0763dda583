-- The first row of a rank lies within the slice.
use Rattle.std.proofs.Common.{rules, ◌≡◌, ℕ, ◌+◌, ◌*◌, ◌/◌, ◌%◌, ◌^◌, ◌<◌, ◌≤◌, get_or, ap, subst, refl, inr, arith}
use Rattle.std.proofs.Math.Nat.{pow-le-pow_right}
use Rattle.funnel_model.specs.Sizes.{base_of_rank, width_of_rank}
use Rattle.funnel_model.specs.declared.config.Config.{Config}
use Rattle.funnel_model.proofs.SizesLemmas.{shared_rows-positive}
use Rattle.row_layout.specs.Layouts.{LayoutId}
use Rattle.row_layout.specs.Rows.{IsRowOf, shared_row}
use Rattle.row_layout.specs.declared.row.Row.{Row}
use Rattle.row_layout.proofs.layout.Layout.places.Goals as goal

-- the word of the column in the first row
first_row : (config known : Config) (first column rank : ℕ) → config ≡ known → ((row : Row) → IsRowOf known row → first + row.start + column / (64 * 2 ^ row.rank) < 2 ^ 32) → rank ≤ config.max_rank →
    first + base_of_rank config rank + column / (64 * 2 ^ rank) < 2 ^ 32
first_row config known first column rank same fits low =
    let row : Row = shared_row config rank 0 in
    let h = fits row (subst (λ (k : Config). IsRowOf k row) same (inr (rank, 0, low, shared_rows-positive config rank, refl))) in
    let none : 0 * width_of_rank config rank ≡ 0 = omega arith in
    omega arith

pub overflow_add-words : goal.overflow_add-words
overflow_add-words c =
    let config = c.self.inside.config in
    let rank = c.loop-rank.rank in
    let low : rank ≤ config.max_rank = omega arith in
    let h = first_row config c.args.self.now.config c.args.first c.args.column rank (ap (λ (l : LayoutId). l.config) c.self.view_is) c.requires low in
    let fits : c.args.first + get_or c.self.inside.bases rank 0 < 2 ^ 32 = omega (arith, c.self.invariant.bases_are rank low) in
    search rules

pub overflow_add-words-in-loop-rank : goal.overflow_add-words-in-loop-rank
overflow_add-words-in-loop-rank c =
    let config = c.self.inside.config in
    let rank = c.loop-rank.rank in
    let low : rank ≤ config.max_rank = omega arith in
    let h = first_row config c.args.self.now.config c.args.first c.args.column rank (ap (λ (l : LayoutId). l.config) c.self.view_is) c.requires low in
    let power : 2 ^ rank ≤ 2 ^ 6 = pow-le-pow_right (omega arith) (let six : rank ≤ 6 = omega (arith, c.self.invariant.in_range.max_rank) in six) in
    let small : 64 * 2 ^ rank % 4294967296 ≡ 64 * 2 ^ rank = omega arith in
    let quotient : c.args.column / (64 * 2 ^ rank % 4294967296) ≡ c.args.column / (64 * 2 ^ rank) = ap (λ (n : ℕ). c.args.column / n) small in
    let fits : c.args.first + get_or c.self.inside.bases rank 0 + c.args.column / (64 * 2 ^ rank % 4294967296) < 2 ^ 32 = omega (arith, c.self.invariant.bases_are rank low) in
    search rules
