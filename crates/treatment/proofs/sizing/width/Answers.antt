use Rattle.std.proofs.Common.{ℕ, ◌-◌, ◌*◌, ◌^◌, ◌<◌, ◌≤◌, ◌%◌, arith}
use Rattle.std.proofs.Math.Nat.{pow-le-pow_right}
use Rattle.std.proofs.lemmas.Nat.{mul-le, one_shl}
use Rattle.treatment.proofs.sizing.width.Goals as goal

pub returns-clause-bound : goal.returns-clause-bound
returns-clause-bound c =
    let k : ℕ = c.args.config.now.max_rank - c.args.rank in
    let two : 0 < 2 = omega arith in
    let low : c.args.config.now.max_rank - c.args.rank ≤ 6 = omega (arith, c.requires.range.max_rank) in
    let whole = one_shl (c.args.config.now.max_rank - c.args.rank) 64 (omega arith) in
    let a : 2 ^ (c.args.config.now.max_rank - c.args.rank) ≤ 2 ^ 6 = pow-le-pow_right two low in
    let b : 1 * 2 ^ (c.args.config.now.max_rank - c.args.rank) % 18446744073709551616 ≤ 64 = omega (arith, whole) in
    let d : c.from.result ≤ 64 = omega (arith, c.from.ensures, c.requires.range.blocks.1) in
    mul-le _ _ 64 64 b d
