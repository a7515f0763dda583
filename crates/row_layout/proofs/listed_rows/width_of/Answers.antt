use Rattle.std.proofs.Common.{◌-◌, ◌*◌, ◌^◌, ◌<◌, ◌≤◌, ◌%◌, arith}
use Rattle.std.proofs.lemmas.Nat.{mul-le, one_shl}
use Rattle.std.proofs.Math.Nat.{pow-le-pow_right}
use Rattle.row_layout.proofs.listed_rows.width_of.Goals as goal

pub returns-clause-bound : goal.returns-clause-bound
returns-clause-bound c =
    let two : 0 < 2 = omega arith in
    let low : c.args.config.now.max_rank - c.args.rank ≤ 6 = omega (arith, c.requires.range.max_rank) in
    let whole = one_shl (c.args.config.now.max_rank - c.args.rank) 32 (omega arith) in
    let a : 2 ^ (c.args.config.now.max_rank - c.args.rank) ≤ 2 ^ 6 = pow-le-pow_right two low in
    let b : 1 * 2 ^ (c.args.config.now.max_rank - c.args.rank) % 4294967296 ≤ 64 = omega (arith, whole) in
    mul-le _ _ 64 64 b c.requires.range.blocks.1
