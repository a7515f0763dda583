-- The bits of a word are that of its private row, or those of its class.
use Rattle.std.proofs.Common.{◌++◌, ◌∷◌, [], ◌<◌, ℕ, List, length, map, ap, sym, subst, ◌∙◌, inl, arith}
use Rattle.funnel_model.specs.Sizes.{private_words}
use Rattle.funnel_model.specs.declared.bit_list.Bit.{Bit}
use Rattle.row_layout.specs.DocumentBits.{bit_from}
use Rattle.row_layout.specs.Rows.{IsRowOf, hashed_rows, private_row}
use Rattle.row_layout.specs.declared.row.Row.{Row}
use Rattle.row_layout.proofs.BitLemmas.{rank-small}
use Rattle.row_layout.proofs.Listing.{word_rows-private, word_rows-shared, class_of_word-small, private_number-below}
use Rattle.row_layout.proofs.WordRows.{rows_of_word-private, rows_of_word-shared}
use Rattle.row_layout.proofs.layout.Layout.push_bits.Goals as goal

pub private-requires : goal.private-requires
private-requires c =
    let config = c.args.self.now.config in
    let private = word_rows-private config c.args.word.now c.in-Private.number c.in-Private.ensures.value in
    subst (λ (i : ℕ). i < length (private_words config)) (sym private.1) (private_number-below config c.args.word.now private.0)

-- the private row of the word is a row of the configuration
laid : (c : goal.After-private) → IsRowOf c.args.self.now.config c.private.result
laid c =
    let config = c.args.self.now.config in
    let private = word_rows-private config c.args.word.now c.in-Private.number c.in-Private.ensures.value in
    inl (c.in-Private.number, subst (λ (i : ℕ). i < length (private_words config)) (sym private.1) (private_number-below config c.args.word.now private.0), c.private.ensures)

pub bit-requires-clause-rank : goal.bit-requires-clause-rank
bit-requires-clause-rank c = rank-small c.args.self.now.config c.look_up.ensures.in_range c.private.result (laid c)

pub bit-requires-clause-fits : goal.bit-requires-clause-fits
bit-requires-clause-fits c = c.requires.fits c.private.result (laid c)

pub push_hashed_bits-requires-clause-class : goal.push_hashed_bits-requires-clause-class
push_hashed_bits-requires-clause-class c =
    let shared = word_rows-shared c.args.self.now.config c.args.word.now c.in-Shared.class c.in-Shared.ensures.value in
    omega (arith, shared.1, class_of_word-small c.args.self.now.config c.args.word.now)

pub returns-in-Private-clause-bits : goal.returns-in-Private-clause-bits
returns-in-Private-clause-bits c =
    let config = c.args.self.now.config in
    let bit = bit_from c.args.places.now.first c.args.places.now.column in
    let private = word_rows-private config c.args.word.now c.in-Private.number c.in-Private.ensures.value in
    c.push_reserved.ensures.items
    ∙ ap (λ (b : Bit). c.args.bits.now.items ++ b ∷ []) (c.bit.ensures ∙ ap bit (c.private.ensures ∙ ap (private_row config) private.1))
    ∙ ap (λ (rows : List Row). c.args.bits.now.items ++ map bit rows) (sym (rows_of_word-private config c.args.word.now private.0))

pub returns-in-Shared-clause-bits : goal.returns-in-Shared-clause-bits
returns-in-Shared-clause-bits c =
    let config = c.args.self.now.config in
    let word = c.args.word.now in
    let bit = bit_from c.args.places.now.first c.args.places.now.column in
    let shared = word_rows-shared config word c.in-Shared.class c.in-Shared.ensures.value in
    c.push_hashed_bits.ensures.bits word c.new-hash.ensures
    ∙ ap (λ (rows : List Row). c.args.bits.now.items ++ map bit rows) (ap (hashed_rows config word) shared.1 ∙ sym (rows_of_word-shared config word shared.0))
