use Rattle.std.proofs.Common.{◌≡◌, ◌+◌, ◌*◌, ◌/◌, ◌^◌, ◌<◌, ℕ, List, [], ◌++◌, append-nil, append_assoc, length, flat_map, map, ap, ap₂, sym, subst, subst₂, ◌∙◌, arith}
use Rattle.funnel_model.specs.declared.bit_list.Bit.{Bit}
use Rattle.row_layout.specs.DocumentBits.{AreDocumentBitsIn, BitsState, bit_from, bits_of_word, in_order}
use Rattle.row_layout.specs.Rows.{IsRowOf, rows_of_words}
use Rattle.row_layout.specs.declared.row.Row.{Row}
use Rattle.row_layout.proofs.BitLemmas.{bit-fits, bits-in_slice, bits-of_words, bits-own, bits_by_word, bits_of_rows}
use Rattle.row_layout.proofs.InOrder.{none_in_order}
use Rattle.row_layout.proofs.bits.fill_bits.Goals as goal

pub places-places-requires : goal.places-places-requires
places-places-requires c =
    let range = c.slice_range-first.ensures in
    bit-fits c.args.layout.now.room c.args.layout.now.config range.fits range.small_pool c.args.slice c.args.column c.slice_range-first.result.0 c.requires.slice c.requires.column range.first

-- the places are those of the column
pub push_bits-requires-clause-fits : goal.push_bits-requires-clause-fits
push_bits-requires-clause-fits c =
    let range = c.slice_range-first.ensures in
    subst₂ (λ (first column : ℕ). (row : Row) → IsRowOf c.args.layout.now.config row → first + row.start + column / (64 * 2 ^ row.rank) < 2 ^ 32)
    (sym c.places-places.ensures.first) (sym c.places-places.ensures.column)
    (bit-fits c.args.layout.now.room c.args.layout.now.config range.fits range.small_pool c.args.slice c.args.column c.slice_range-first.result.0 c.requires.slice c.requires.column range.first)

pub push_bits-requires-clause-room : goal.push_bits-requires-clause-room
push_bits-requires-clause-room c = omega (arith, c.loop-word.invariant.room, ap length c.in-Some.ensures.steps)

-- there is room at first
pub loop-word-init : goal.loop-word-init
loop-word-init c =
    let none : in_order c.bits.inside.bits.items ≡ [] = ap (λ (b : BitsState). b.bits) c.bits.view_is ∙ c.requires.empty in
    let words = c.into_iter-word-iterator.ensures.into_iter_gives ∙ c.iter-word-items.ensures.words in
    let bits = bits_of_word c.args.layout.now.config c.slice_range-first.result.0 c.args.column in
    record {
      bits = ap (λ (items : List Bit). items ++ flat_map bits c.into_iter-word-iterator.result) (none_in_order c.bits.inside.bits.items none) ∙ ap (flat_map bits) words;
      room = omega (arith, c.requires.room, ap (λ (b : BitsState). b.room) c.bits.view_is, ap length words);
    }

pub loop-word-preserved : goal.loop-word-preserved
loop-word-preserved c =
    let bits = bits_of_word c.args.layout.now.config c.slice_range-first.result.0 c.args.column in
    let old = c.loop-word.bits-inside.bits.items in
    let rest = flat_map bits c.next.new.self in
    record {
      bits =
          ap (λ (items : List Bit). items ++ rest) c.push_bits.ensures.bits
          ∙ ap₂ (λ (first column : ℕ). (old ++ bits_of_word c.args.layout.now.config first column c.in-Some.word.now) ++ rest) c.places-places.ensures.first c.places-places.ensures.column
          ∙ append_assoc old (bits c.in-Some.word.now) rest
          ∙ ap (λ (words : List (List ℕ)). old ++ flat_map bits words) (sym c.in-Some.ensures.steps)
          ∙ c.loop-word.invariant.bits;
      room = omega (arith, c.loop-word.invariant.room, ap length c.in-Some.ensures.steps, c.push_bits.ensures.few, c.push_bits.ensures.capacity);
    }

-- they are the bits of a document with these words
are : (c : goal.In-None) → AreDocumentBitsIn c.args.layout.now.room c.args.layout.now.config c.args.words.now c.args.slice c.args.column (in_order c.loop-word.bits-inside.bits.items)
are c =
    let room = c.args.layout.now.room in
    let config = c.args.layout.now.config in
    let words = c.args.words.now in
    let first = c.slice_range-first.result.0 in
    let items = c.loop-word.bits-inside.bits.items in
    let all : items ≡ map (bit_from (c.args.slice * room) c.args.column) (rows_of_words config words) =
    sym (append-nil items)
    ∙ ap (λ (left : List (List ℕ)). items ++ flat_map (bits_of_word config first c.args.column) left) (sym c.in-None.ensures.steps.0)
    ∙ c.loop-word.invariant.bits
    ∙ bits_by_word config first c.args.column words
    ∙ ap (λ at. map (bit_from at c.args.column) (rows_of_words config words)) c.slice_range-first.ensures.first in
    subst (λ (bits : List Bit). AreDocumentBitsIn room config words c.args.slice c.args.column (in_order bits)) (sym all) (bits_of_rows room config c.args.slice c.args.column words)

pub returns-clause-document_bits : goal.returns-clause-document_bits
returns-clause-document_bits c = are c

pub returns-clause-inside : goal.returns-clause-inside
returns-clause-inside c = bits-in_slice _ _ _ _ _ _ (are c) c.slice_range-first.ensures.fits c.requires.column

pub returns-clause-of_words : goal.returns-clause-of_words
returns-clause-of_words c = bits-of_words _ _ _ _ _ _ (are c)

pub returns-clause-own : goal.returns-clause-own
returns-clause-own c = bits-own _ _ _ _ _ _ (are c) c.requires.column
