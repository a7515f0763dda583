-- Each slot on the walk is looked at, and a free one ends it.
use Rattle.std.proofs.Common.{rules, ◌≡◌, ◌<◌, ◌≤◌, ℕ, List, length, map, get_or, ap, sym, subst, ◌∙◌, arith}
use Rattle.std.proofs.lemmas.Bool.{both_ways}
use Rattle.std.proofs.lemmas.List.{get_or_default, get_or_past, length-map}
use Rattle.std.specs.Cmp.Lexicographic.{bytes_decides}
use Rattle.std.specs.String.{string_bytes}
use Rattle.std.specs.declared.string.String.{String}
use Rattle.funnel_model.specs.Listed.{listed_pair}
use Rattle.term_hash.specs.Hash.{mixed}
use Rattle.treatment.proofs.Lookups.{item_at}
use Rattle.row_layout.specs.WordTables.{HoldsFirst, home_of, slot_at, spread_of, tag_of}
use Rattle.row_layout.specs.declared.word_table.Slot.{Slot}
use Rattle.row_layout.proofs.WordTables.{not_listed, none_passed, passed_more}
use Rattle.row_layout.proofs.word_table.WordTable.index_of.Goals as goal
use Rattle.row_layout.proofs.word_table.WordTable.index_of.Goals.{In-loop-at, else-slot-tag-via-then-slot-tag+else-eq, else-slot-tag-via-else-slot-tag}

-- the slot that is looked at
module _ (slots : List Slot) (at : ℕ) (slot : Slot) (is : slot ≡ get_or slots at slot) (within : at < length slots) where
  here : slot ≡ slot_at slots at
  here = is ∙ get_or_default slots at slot (record { tag = 0; index = 0 }) within

  -- it is taken where its tag isn't 0
  taken : (slot.tag ≡ 0 → ⊥) → 1 ≤ (slot_at slots at).tag
  taken used =
      let tag : 1 ≤ slot.tag = omega arith in
      subst (λ (s : Slot). 1 ≤ s.tag) here tag

  -- and then it has the index of a word
  of_word : (words : List (List ℕ × ℕ)) (mask : ℕ) → HoldsFirst words (length words) mask slots → (slot.tag ≡ 0 → ⊥) → slot.index < length words
  of_word words mask holds used = subst (λ (s : Slot). s.index < length words) (sym here) (holds.no_other at (taken used))

-- the word at an index, and that of the entry there
entry_word : {Z : Type 0} (entries : List (String Z × ℕ)) (words : List (List ℕ × ℕ)) (i : ℕ) (entry : String Z × ℕ) (d : List ℕ × ℕ) → map listed_pair entries ≡ words → entry ≡ get_or entries i entry → i < length words →
    (get_or words i d).0 ≡ string_bytes entry.0
entry_word entries words i entry d lists is less =
    ap (λ (e : List ℕ × ℕ). e.0) (get_or_default words i d (listed_pair entry) less ∙ item_at entries words lists i entry is)

-- the bytes of the entry at an index
bytes_at : {Z : Type 0} (entries : List (String Z × ℕ)) (i : ℕ) (entry : String Z × ℕ) (bytes : List ℕ) → entry ≡ get_or entries i entry → bytes ≡ string_bytes (get_or entries i entry).0 → bytes ≡ string_bytes entry.0
bytes_at entries i entry bytes is value = value ∙ ap (λ e. string_bytes e.0) (sym is)

pub loop-at-init : goal.loop-at-init
loop-at-init c =
    let spread : c.spread-spread.result ≡ spread_of c.args.word.now = c.spread-spread.ensures ∙ ap mixed c.requires.hash in
    none_passed c.args.words.now c.args.word.now c.args.self.now.slots.items _ _ (c.home_of-at.ensures.value ∙ ap (home_of c.args.self.now.mask) spread)

pub returns-then-slot-eq0-clause-none : goal.returns-then-slot-eq0-clause-none
returns-then-slot-eq0-clause-none c =
    let slots = c.args.self.now.slots.items in
    let within : c.loop-at.at < length slots = search rules in
    not_listed c.args.words.now c.args.word.now c.args.self.now.mask slots c.loop-at.at c.requires.table c.loop-at.invariant
    (subst (λ (s : Slot). s.tag ≡ 0) (here slots c.loop-at.at c.index-slot.result.now c.index-slot.ensures within) c.if-slot-eq0.true)

pub bounds-entries-index : goal.bounds-entries-index
bounds-entries-index c =
    let slots = c.args.self.now.slots.items in
    let within : c.loop-at.at < length slots = search rules in
    let less = of_word slots c.loop-at.at c.index-slot.result.now c.index-slot.ensures within c.args.words.now c.args.self.now.mask c.requires.table c.if-slot-eq0.false in
    omega (arith, less, ap length c.as_slice-entries.ensures.entries, length-map c.as_slice-entries.result.now listed_pair)

pub returns-then-eq-clause-found : goal.returns-then-eq-clause-found
returns-then-eq-clause-found c =
    let slots = c.args.self.now.slots.items in
    let within : c.loop-at.at < length slots = search rules in
    let less = of_word slots c.loop-at.at c.index-slot.result.now c.index-slot.ensures within c.args.words.now c.args.self.now.mask c.requires.table c.if-slot-eq0.false in
    record {
      within = less;
      is = λ d.
          entry_word c.as_slice-entries.result.now c.args.words.now c.index-slot.result.now.index c.index-entries-index.result d c.as_slice-entries.ensures.entries c.index-entries-index.is less
          ∙ sym (bytes_at c.as_slice-entries.result.now c.index-slot.result.now.index _ _ c.index-entries-index.is c.as_bytes.ensures.value)
          ∙ (bytes_decides c.as_bytes.result.now c.args.word.now).0 (sym c.eq.ensures ∙ c.if-eq.true);
    }

pub loop-at-preserved : goal.loop-at-preserved
loop-at-preserved c =
    let slots = c.args.self.now.slots.items in
    let within : c.loop-at.at < length slots = search rules in
    let slot_is = here slots c.loop-at.at c.index-slot.result.now c.index-slot.ensures within in
    let less = of_word slots c.loop-at.at c.index-slot.result.now c.index-slot.ensures within c.args.words.now c.args.self.now.mask c.requires.table c.if-slot-eq0.false in
    passed_more c.args.words.now c.args.word.now slots _ c.loop-at.at c.loop-at.invariant
    (taken slots c.loop-at.at c.index-slot.result.now c.index-slot.ensures within c.if-slot-eq0.false)
    (λ d tag same.
    elim c.else-slot-tag.branch [
      | else-slot-tag-via-then-slot-tag+else-eq w ↦
          let word : (get_or c.args.words.now c.index-slot.result.now.index d).0 ≡ c.args.word.now = ap (λ (s : Slot). (get_or c.args.words.now s.index d).0) slot_is ∙ same in
          let bytes : w.as_bytes.result.now ≡ c.args.word.now =
          bytes_at c.as_slice-entries.result.now c.index-slot.result.now.index _ _ w.index-entries-index.is w.as_bytes.ensures.value
          ∙ sym (entry_word c.as_slice-entries.result.now c.args.words.now c.index-slot.result.now.index w.index-entries-index.result d c.as_slice-entries.ensures.entries w.index-entries-index.is less)
          ∙ word in
          both_ways _ w.if-eq.false (w.eq.ensures ∙ (bytes_decides w.as_bytes.result.now c.args.word.now).1 bytes)
      | else-slot-tag-via-else-slot-tag w ↦
          w.if-slot-tag.false (ap (λ (s : Slot). s.tag) slot_is ∙ tag ∙ ap tag_of (sym (c.spread-spread.ensures ∙ ap mixed c.requires.hash)) ∙ sym c.tag_of-tag.ensures.value)
    ])

pub returns-clause-none : goal.returns-clause-none
returns-clause-none c =
    not_listed c.args.words.now c.args.word.now c.args.self.now.mask c.args.self.now.slots.items c.loop-at.at c.requires.table c.loop-at.invariant
    (ap (λ (s : Slot). s.tag) (get_or_past c.args.self.now.slots.items c.loop-at.at (record { tag = 0; index = 0 })
    (let h : length c.args.self.now.slots.items ≤ c.loop-at.at = search rules in h)))
