use Rattle.std.proofs.Common.{rules, ◌≡◌, ℕ, ◌+◌, ◌^◌, ◌<◌, ◌≤◌, true, false, leb, ap, sym, ◌∙◌, arith}
use Rattle.std.proofs.lemmas.List.{length-take}
use Rattle.std.proofs.lemmas.Bool.Decides.{nat_tests}
use Rattle.funnel_model.specs.Listed.{listed_pair}
use Rattle.funnel_model.specs.Sizes.{is_private}
use Rattle.treatment.proofs.Lookups.{item_at, long_enough}
use Rattle.treatment.proofs.Passes.{private_more, private_same, private_small}
use Rattle.row_layout.proofs.Listing.{listed_more, private_at, shared_at}
use Rattle.row_layout.specs.declared.word_rows.WordRows.TheVariants.{Private, Shared}
use Rattle.row_layout.proofs.listed_rows.rows_of_listed.Goals as goal
use Rattle.row_layout.proofs.listed_rows.rows_of_listed.Goals.{then-class-config+in_ok-push, else-class-config+in_ok-push-2}

is_low : (a b most : ℕ) → a ≡ b → a ≤ most → leb b most ≡ true
is_low a b most e h = grind (arith, nat_tests)

is_high : (a b most : ℕ) → a ≡ b → most < a → leb b most ≡ false
is_high a b most e h = grind (arith, nat_tests)

pub class-class-requires-clause-positive : goal.class-class-requires-clause-positive
class-class-requires-clause-positive c =
    let within = long_enough _ _ c.as_slice-count-items.ensures.entries c.loop-count.count-index c.loop-count-test.true in
    let at = item_at _ _ c.as_slice-count-items.ensures.entries c.loop-count.count-index c.loop-count-item.result c.loop-count-item.is in
    let h = c.requires.words.counted c.loop-count.count-index (listed_pair c.loop-count-item.result) within in
    omega (arith, h.0, ap (λ e. e.1) at)

pub class-class-requires-clause-held : goal.class-class-requires-clause-held
class-class-requires-clause-held c =
    let within = long_enough _ _ c.as_slice-count-items.ensures.entries c.loop-count.count-index c.loop-count-test.true in
    let at = item_at _ _ c.as_slice-count-items.ensures.entries c.loop-count.count-index c.loop-count-item.result c.loop-count-item.is in
    let h = c.requires.words.counted c.loop-count.count-index (listed_pair c.loop-count-item.result) within in
    omega (arith, h.1, ap (λ e. e.1) at)

pub overflow_add-private : goal.overflow_add-private
overflow_add-private c =
    let few = private_small c.args.config.now c.loop-count.count-index in
    let short = length-take c.loop-count.count-index c.args.config.now.words in
    let sum : c.loop-count.private + 1 < 2 ^ 32 = omega (arith, few, short, c.loop-count.invariant.private, c.requires.words.few) in
    search rules

pub loop-count-preserved : goal.loop-count-preserved
loop-count-preserved c =
    let config = c.args.config.now in
    let i = c.loop-count.count-index in
    let entry = listed_pair c.loop-count-item.result in
    let order = c.as_slice-count-items.ensures.in_order in
    let within = long_enough _ _ c.as_slice-count-items.ensures.entries c.loop-count.count-index c.loop-count-test.true in
    let at = item_at _ _ c.as_slice-count-items.ensures.entries c.loop-count.count-index c.loop-count-item.result c.loop-count-item.is in
    elim c.if-class-config.branch [
      | then-class-config+in_ok-push w ↦
          let low : is_private config entry ≡ true = is_low _ _ _ c.class-class.ensures.value w.if-class-config.true in
          record {
            private = w.private-is ∙ ap (λ n. n + 1) c.loop-count.invariant.private ∙ sym (private_more config i entry within at low);
            rows =
                listed_more config i entry order within at _ _ (Private c.loop-count.private) c.loop-count.invariant.rows
                (ap (λ v. v.items) w.rows-is ∙ w.in_ok-push.ensures.items)
                (private_at config i entry order within at low ∙ ap Private (sym c.loop-count.invariant.private));
          }
      | else-class-config+in_ok-push-2 w ↦
          let high : is_private config entry ≡ false = is_high _ _ _ c.class-class.ensures.value w.if-class-config.false in
          record {
            private = w.private-is ∙ c.loop-count.invariant.private ∙ sym (private_same config i entry within at high);
            rows =
                listed_more config i entry order within at _ _ (Shared c.class-class.result) c.loop-count.invariant.rows
                (ap (λ v. v.items) w.rows-is ∙ w.in_ok-push-2.ensures.items)
                (shared_at config i entry order within at high ∙ ap Shared (sym c.class-class.ensures.value));
          }
    ]
