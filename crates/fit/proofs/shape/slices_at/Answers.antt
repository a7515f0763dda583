use Rattle.std.proofs.Common.{◌≡◌, ◌∙◌, ◌+◌, ◌-◌, ◌*◌, ◌^◌, ◌%◌, ◌<◌, ◌≤◌, ℕ, ap, ap₂, arith, mod-eq_of_lt}
use Rattle.std.proofs.Math.Nat.{pow-le-pow_right}
use Rattle.fit.proofs.Rooms.{least_room, rounded_up}
use Rattle.fit.proofs.shape.slices_at.Goals as goal

pub returns-clause-least : goal.returns-clause-least
returns-clause-least c =
    let two : 0 < 2 = omega arith in
    let small : 2 ^ c.args.rank ≤ 2 ^ 6 = pow-le-pow_right two c.requires.rank in
    let shifted : 64 * 2 ^ c.args.rank % 18446744073709551616 ≡ 64 * 2 ^ c.args.rank = mod-eq_of_lt (omega (arith, small)) in
    let parts : c.div_ceil.result ≡ rounded_up (17 * c.args.documents) ((64 * 2 ^ c.args.rank - 1) * 16) =
    c.div_ceil.ensures ∙ ap₂ (λ (n m : ℕ). rounded_up (17 * n) ((m - 1) * 16)) c.from.ensures shifted in
    least_room c.args.documents c.args.rank (1 + c.div_ceil.result) c.requires.some (ap (λ (n : ℕ). 1 + n) parts)
