use Rattle.std.proofs.Common.{rules, ◌≡◌, ℕ, ◌+◌, ◌*◌, ◌^◌, ◌<◌, ◌≤◌, ◌%◌, ap, ◌∙◌, arith}
use Rattle.std.specs.Prelude.{min, max}
use Rattle.std.specs.Int.{div_ceil}
use Rattle.std.proofs.Math.Nat.{pow-le-pow_right, div-le_self}
use Rattle.std.proofs.lemmas.Nat.{mul-le, one_shl}
use Rattle.funnel_model.specs.Treatment.{rows_at_rank}
use Rattle.funnel_model.specs.Sizes.{shared_rows, wanted_rows, ranked_rows, bits_at_rank}
use Rattle.treatment.proofs.Passes.{bits_at_rank_small}
use Rattle.treatment.proofs.sizing.rows_of_rank.Goals as goal

listed_small : (m bits : ℕ) → m ≤ 20 → bits ≤ 2 ^ 53 → m * bits < 2 ^ 58
listed_small m bits small few = omega (arith, mul-le m bits 20 (2 ^ 53) small few)

rounded_small : (x y : ℕ) → x < 2 ^ 58 → div_ceil x y ≤ 2 ^ 58
rounded_small x y small = omega (arith, div-le_self x y)

shift_small : (rank : ℕ) → rank ≤ 6 → 1 * 2 ^ rank % 18446744073709551616 ≤ 64
shift_small rank low =
    let two : 0 < 2 = omega arith in
    let a : 2 ^ rank ≤ 2 ^ 6 = pow-le-pow_right two low in
    omega (arith, one_shl rank 64 (omega arith))

unlisted_small : (m tail shift n : ℕ) → m ≤ 20 → tail ≤ 100000 → shift ≤ 64 → n ≤ 26 → m * tail * shift * n < 2 ^ 32
unlisted_small m tail shift n a b d e =
    let x : m * tail ≤ 20 * 100000 = mul-le m tail 20 100000 a b in
    let y : m * tail * shift ≤ 20 * 100000 * 64 = mul-le (m * tail) shift (20 * 100000) 64 x d in
    omega (arith, mul-le (m * tail * shift) n (20 * 100000 * 64) 26 y e)

clamped : (x most : ℕ) → max (min x most) 1 ≡ max 1 (min most x)
clamped x most = omega arith

pub overflow_mul-config : goal.overflow_mul-config
overflow_mul-config c =
    let few : c.args.bits ≤ 2 ^ 53 = omega (arith, c.requires.bits, bits_at_rank_small c.args.config.now c.requires.range c.args.rank) in
    let small = listed_small c.args.config.now.one_in c.args.bits c.requires.range.one_in.1 few in
    let fits : c.args.config.now.one_in * c.args.bits < 2 ^ 64 = omega arith in
    search rules

pub overflow_mul-unlisted-3 : goal.overflow_mul-unlisted-3
overflow_mul-unlisted-3 c =
    let few : c.from.result ≤ 26 = omega arith in
    let small = unlisted_small c.args.config.now.one_in c.args.config.now.tail _ c.from.result c.requires.range.one_in.1 c.requires.range.tail (shift_small c.args.rank c.requires.rank) few in
    let fits : c.args.config.now.one_in * c.args.config.now.tail * (1 * 2 ^ c.args.rank % 18446744073709551616) * c.from.result < 2 ^ 64 = omega arith in
    search rules

pub overflow_add-listed : goal.overflow_add-listed
overflow_add-listed c =
    let few : c.from.result ≤ 26 = omega arith in
    let small = unlisted_small c.args.config.now.one_in c.args.config.now.tail _ c.from.result c.requires.range.one_in.1 c.requires.range.tail (shift_small c.args.rank c.requires.rank) few in
    let bits : c.args.bits ≤ 2 ^ 53 = omega (arith, c.requires.bits, bits_at_rank_small c.args.config.now c.requires.range c.args.rank) in
    let rounded = rounded_small (c.args.config.now.one_in * c.args.bits) c.args.config.now.documents (listed_small c.args.config.now.one_in c.args.bits c.requires.range.one_in.1 bits) in
    let listed : c.div_ceil-listed.result ≤ 2 ^ 58 = omega (arith, ap (λ x. x) c.div_ceil-listed.ensures) in
    let fits : c.div_ceil-listed.result + c.args.config.now.one_in * c.args.config.now.tail * (1 * 2 ^ c.args.rank % 18446744073709551616) * c.from.result < 2 ^ 64 = omega arith in
    search rules

pub returns-clause-value : goal.returns-clause-value
unfolding shared_rows wanted_rows ranked_rows
returns-clause-value c =
    let config = c.args.config.now in
    let r = c.args.rank in
    let listed : c.div_ceil-listed.result ≡ div_ceil (config.one_in * bits_at_rank config r) config.documents =
    c.div_ceil-listed.ensures ∙ ap (λ bits. div_ceil (config.one_in * bits) config.documents) c.requires.bits in
    let shift : 1 * 2 ^ r % 18446744073709551616 ≡ 2 ^ r = one_shl r 64 (omega arith) in
    let rows : c.from.result ≡ ranked_rows config 15 r =
    c.from.ensures ∙ c.rows_at-rows.ensures.value ∙ ap (λ k. rows_at_rank 15 k config.max_rank r) c.row_count.ensures.value in
    let wanted : c.div_ceil-listed.result + config.one_in * config.tail * (1 * 2 ^ r % 18446744073709551616) * c.from.result ≡ wanted_rows config r =
    ap (λ x. x + config.one_in * config.tail * (1 * 2 ^ r % 18446744073709551616) * c.from.result) listed
    ∙ ap (λ x. div_ceil (config.one_in * bits_at_rank config r) config.documents + config.one_in * config.tail * x * c.from.result) shift
    ∙ ap (λ x. div_ceil (config.one_in * bits_at_rank config r) config.documents + config.one_in * config.tail * 2 ^ r * x) rows in
    c.max.ensures
    ∙ ap (λ x. max x 1) (c.min.ensures ∙ ap (λ x. min x c.from-2.result) wanted ∙ ap (λ x. min (wanted_rows config r) x) c.from-2.ensures)
    ∙ clamped (wanted_rows config r) config.max_rows
