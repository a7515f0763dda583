use Rattle.std.proofs.Common.{rules, ◌≡◌, ℕ, ◌+◌, ◌*◌, ◌^◌, ◌<◌, ◌≤◌, true, false, leb, get_or, ap, sym, ◌∙◌, arith}
use Rattle.std.specs.Prelude.{min}
use Rattle.std.proofs.lemmas.Bool.Decides.{nat_tests}
use Rattle.std.proofs.lemmas.List.{length-take}
use Rattle.funnel_model.specs.Listed.{listed_pair}
use Rattle.funnel_model.specs.Sizes.{is_private, bits_of_entry, ranked_rows}
use Rattle.treatment.proofs.Lookups.{item_at, long_enough, all_passed}
use Rattle.treatment.proofs.Passes.{bits_so_far, private_more, private_same, bits_same, bits_more_at, all_private, all_bits, private_small, bits_so_far_small}
use Rattle.treatment.proofs.demands.demand_of.Goals as goal
use Rattle.treatment.proofs.demands.demand_of.Goals.{then-class-config, else-class-config}

is_low : (a b most : ℕ) → a ≡ b → a ≤ most → leb b most ≡ true
is_low a b most e h = grind (arith, nat_tests)

is_high : (a b most : ℕ) → a ≡ b → most < a → leb b most ≡ false
is_high a b most e h = grind (arith, nat_tests)

pub class-class-requires-clause-positive : goal.class-class-requires-clause-positive
class-class-requires-clause-positive c =
    let within = long_enough _ _ c.as_slice-count-items.ensures.entries c.loop-count.count-index c.loop-count-test.true in
    let at = item_at _ _ c.as_slice-count-items.ensures.entries c.loop-count.count-index c.loop-count-item.result c.loop-count-item.is in
    let h = c.requires.words.counted c.loop-count.count-index (listed_pair c.loop-count-item.result) within in
    omega (arith, h.0, ap (λ e. e.1) at)

pub class-class-requires-clause-held : goal.class-class-requires-clause-held
class-class-requires-clause-held c =
    let within = long_enough _ _ c.as_slice-count-items.ensures.entries c.loop-count.count-index c.loop-count-test.true in
    let at = item_at _ _ c.as_slice-count-items.ensures.entries c.loop-count.count-index c.loop-count-item.result c.loop-count-item.is in
    let h = c.requires.words.counted c.loop-count.count-index (listed_pair c.loop-count-item.result) within in
    omega (arith, h.1, ap (λ e. e.1) at)

pub overflow_add-private : goal.overflow_add-private
overflow_add-private c =
    let few = private_small c.args.config.now c.loop-count.count-index in
    let short = length-take c.loop-count.count-index c.args.config.now.words in
    let sum : c.loop-count.private + 1 < 2 ^ 32 = omega (arith, few, short, c.loop-count.invariant.private, c.requires.words.few) in
    search rules

pub add_bits-requires-clause-room : goal.add_bits-requires-clause-room
add_bits-requires-clause-room c r low =
    omega (arith, c.loop-count.invariant.bits r low, bits_so_far_small c.args.config.now c.requires r c.loop-count.count-index)

pub loop-count-preserved : goal.loop-count-preserved
unfolding bits_of_entry
loop-count-preserved c =
    let config = c.args.config.now in
    let i = c.loop-count.count-index in
    let entry = listed_pair c.loop-count-item.result in
    let within = long_enough _ _ c.as_slice-count-items.ensures.entries c.loop-count.count-index c.loop-count-test.true in
    let at = item_at _ _ c.as_slice-count-items.ensures.entries c.loop-count.count-index c.loop-count-item.result c.loop-count-item.is in
    elim c.if-class-config.branch [
      | then-class-config w ↦
          let low : is_private config entry ≡ true = is_low _ _ _ c.class-class.ensures.value w.if-class-config.true in
          record {
            private = w.private-is ∙ ap (λ n. n + 1) c.loop-count.invariant.private ∙ sym (private_more config i entry within at low);
            bits = λ r less. ap (λ bits. get_or bits r 0) w.bits-is ∙ c.loop-count.invariant.bits r less ∙ sym (bits_same config i entry within at r low);
          }
      | else-class-config w ↦
          let high : is_private config entry ≡ false = is_high _ _ _ c.class-class.ensures.value w.if-class-config.false in
          record {
            private = w.private-is ∙ c.loop-count.invariant.private ∙ sym (private_same config i entry within at high);
            bits = λ r less.
                ap (λ bits. get_or bits r 0) w.bits-is ∙ w.add_bits.ensures r less
                ∙ ap (λ n. n + min config.documents (entry.1 * 2 ^ r) * ranked_rows config c.class-class.result r) (c.loop-count.invariant.bits r less)
                ∙ ap (λ k. bits_so_far config r i + min config.documents (entry.1 * 2 ^ r) * ranked_rows config k r) c.class-class.ensures.value
                ∙ sym (bits_more_at config i entry within at r high);
          }
    ]

pub returns-clause-private : goal.returns-clause-private
returns-clause-private c =
    c.loop-count.invariant.private
    ∙ all_private c.args.config.now c.loop-count.count-index (all_passed _ _ c.as_slice-count-items.ensures.entries _ c.loop-count-test.false)

pub returns-clause-bits : goal.returns-clause-bits
returns-clause-bits c r low =
    c.loop-count.invariant.bits r low
    ∙ all_bits c.args.config.now r c.loop-count.count-index (all_passed _ _ c.as_slice-count-items.ensures.entries _ c.loop-count-test.false)
