-- One word more.
use Rattle.std.proofs.Common.{◌≡◌, ◌+◌, ◌-◌, ℕ, List, length, replicate, set, ap, sym, subst, ◌∙◌, arith}
use Rattle.std.proofs.lemmas.List.{length-map}
use Rattle.funnel_model.specs.Listed.{listed_pair}
use Rattle.term_hash.specs.Hash.{fnv_1a, mixed}
use Rattle.treatment.proofs.Lookups.{item_at, long_enough}
use Rattle.row_layout.specs.WordTables.{HasFreeSlot, HoldsFirst, IsFirstFree, home_of, spread_of, tag_of}
use Rattle.row_layout.specs.declared.word_table.Slot.{Slot}
use Rattle.row_layout.proofs.WordTables.{holds_more, holds_none, room}
use Rattle.row_layout.proofs.word_table.WordTable.new.Goals as goal

pub loop-index-init : goal.loop-index-init
loop-index-init c =
    holds_none c.args.words.now _ c.in_ok-slots.slots.items
    (c.in_ok-slots.ensures.items_if_clones_equal (λ y e. e) ∙ ap (λ (n : ℕ). replicate (c.next_power_of_two-mask.result - 1 + n) (record { tag = 0; index = 0 })) c.len-2.ensures)

pub first_free-at-requires : goal.first_free-at-requires
first_free-at-requires c =
    let less = long_enough _ _ c.as_slice-entry-items.ensures.entries c.loop-index.index c.loop-index-test.true in
    subst (HasFreeSlot c.deref.result.now) (sym c.home_of.ensures.value)
    (subst (λ (slots : List Slot). HasFreeSlot slots (home_of (c.next_power_of_two-mask.result - 1) c.spread-spread.result)) (sym c.deref.ensures.value)
    (room c.args.words.now c.loop-index.index (c.next_power_of_two-mask.result - 1) c.loop-index.slots.items c.spread-spread.result c.loop-index.invariant less))

pub loop-index-preserved : goal.loop-index-preserved
loop-index-preserved c =
    let mask = c.next_power_of_two-mask.result - 1 in
    let entry = listed_pair c.entry-item.result in
    let less = long_enough _ _ c.as_slice-entry-items.ensures.entries c.loop-index.index c.loop-index-test.true in
    let at = item_at _ _ c.as_slice-entry-items.ensures.entries c.loop-index.index c.entry-item.result c.entry-item.is in
    let bytes : c.as_bytes.result.now ≡ entry.0 = c.as_bytes.ensures.value in
    let spread : c.spread-spread.result ≡ spread_of entry.0 = c.spread-spread.ensures ∙ ap mixed (c.new.ensures ∙ ap fnv_1a bytes) in
    let first : IsFirstFree c.loop-index.slots.items (home_of mask (spread_of entry.0)) c.first_free-at.result =
    subst (λ (s : ℕ). IsFirstFree c.loop-index.slots.items (home_of mask s) c.first_free-at.result) spread
    (subst (λ (home : ℕ). IsFirstFree c.loop-index.slots.items home c.first_free-at.result) c.home_of.ensures.value
    (subst (λ (slots : List Slot). IsFirstFree slots c.home_of.result c.first_free-at.result) c.deref.ensures.value c.first_free-at.ensures)) in
    subst (λ (tag : ℕ). HoldsFirst c.args.words.now (c.loop-index.index + 1) mask (set c.loop-index.slots.items c.first_free-at.result (record { tag = tag; index = c.loop-index.index })))
    (sym (c.tag_of.ensures.value ∙ ap tag_of spread))
    (holds_more c.args.words.now c.loop-index.index mask c.loop-index.slots.items entry c.first_free-at.result c.loop-index.invariant less at first)

pub returns-clause-table : goal.returns-clause-table
returns-clause-table c =
    let all : c.loop-index.index ≡ length c.args.words.now =
    omega (arith, c.loop-index-test.false, c.loop-index.auto.index-end, ap length c.as_slice-entry-items.ensures.entries, length-map c.as_slice-entry-items.result.now listed_pair) in
    subst (λ (n : ℕ). HoldsFirst c.args.words.now n (c.next_power_of_two-mask.result - 1) c.loop-index.slots.items) all c.loop-index.invariant
