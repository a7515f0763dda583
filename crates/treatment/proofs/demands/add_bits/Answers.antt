use Rattle.std.proofs.Common.{rules, ◌≡◌, ◌+◌, ◌*◌, ◌^◌, ◌<◌, ◌≤◌, get_or, ap, ◌∙◌, arith}
use Rattle.std.specs.Prelude.{min}
use Rattle.funnel_model.specs.Sizes.{ranked_rows}
use Rattle.treatment.proofs.Counting.{rows_so_far, rows_so_far-small, few_bits, shifted, bits_more, rows_are}
use Rattle.treatment.proofs.demands.add_bits.Goals as goal

pub overflow_add-bits : goal.overflow_add-bits
overflow_add-bits c =
    let few = rows_so_far-small c.args.class c.row_count-rows.result c.args.config.now.max_rank c.rank_of-rank.result c.loop-j.j in
    let low : c.rank_of-rank.result < 7 = omega arith in
    let before = c.loop-j.invariant c.rank_of-rank.result low in
    let room = c.requires.room c.rank_of-rank.result low in
    let added = few_bits c.args.config.now.documents (c.args.count * 2 ^ c.rank_of-rank.result) (rows_so_far c.args.class c.row_count-rows.result c.args.config.now.max_rank c.rank_of-rank.result c.loop-j.j) c.requires.range.documents.1 (omega arith) in
    let one : c.min.result ≤ 2 ^ 32 = omega (arith, c.min.ensures, c.requires.range.documents.1) in
    let sum : get_or c.loop-j.bits c.rank_of-rank.result 0 + c.min.result < 2 ^ 64 = omega arith in
    search rules

pub loop-j-preserved : goal.loop-j-preserved
loop-j-preserved c =
    let low : c.rank_of-rank.result ≤ 6 = omega arith in
    bits_more c.args.bits.now c.loop-j.bits c.args.class c.row_count-rows.result c.args.config.now.max_rank c.loop-j.j c.rank_of-rank.result
    c.args.config.now.documents c.args.count c.min.result c.rank_of-rank.ensures.value (omega arith)
    (c.min.ensures ∙ ap (λ x. min c.args.config.now.documents x) (shifted c.args.count c.rank_of-rank.result c.requires.count low))
    c.loop-j.invariant

pub returns : goal.returns
unfolding ranked_rows
returns c r low =
    let all : c.loop-j.j ≡ c.row_count-rows.result = omega arith in
    c.loop-j.invariant r low
    ∙ ap (λ n. get_or c.args.bits.now r 0 + min c.args.config.now.documents (c.args.count * 2 ^ r) * n)
    (rows_are c.args.class _ _ c.args.config.now.max_rank r c.loop-j.j all c.row_count-rows.ensures.value)
