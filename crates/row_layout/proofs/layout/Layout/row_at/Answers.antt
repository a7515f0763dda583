use Rattle.std.proofs.Common.{◌<◌, length, ap, sym, subst, ◌∙◌, inl, arith}
use Rattle.funnel_model.specs.Sizes.{private_words}
use Rattle.funnel_model.specs.Treatment.{row_count_of_class}
use Rattle.row_layout.specs.Rows.{private_row, hashed_row}
use Rattle.row_layout.proofs.Listing.{word_rows-private, word_rows-shared, class_of_word-small, private_number-below}
use Rattle.row_layout.proofs.WordRows.{row_count-shared, row_of_word-private, row_of_word-shared}
use Rattle.row_layout.proofs.layout.Layout.row_at.Goals as goal

pub private-requires : goal.private-requires
private-requires c =
    let config = c.args.self.now.config in
    let private = word_rows-private config c.args.word.now c.in-Private.number c.in-Private.ensures.value in
    subst (λ i. i < length (private_words config)) (sym private.1) (private_number-below config c.args.word.now private.0)

pub hashed-requires-clause-class : goal.hashed-requires-clause-class
hashed-requires-clause-class c =
    let shared = word_rows-shared c.args.self.now.config c.args.word.now c.in-Shared.class c.in-Shared.ensures.value in
    omega (arith, shared.1, class_of_word-small c.args.self.now.config c.args.word.now)

pub hashed-requires-clause-j : goal.hashed-requires-clause-j
hashed-requires-clause-j c =
    let config = c.args.self.now.config in
    let shared = word_rows-shared config c.args.word.now c.in-Shared.class c.in-Shared.ensures.value in
    subst (λ k. c.args.j < row_count_of_class config.one_in config.snr k) (sym shared.1)
    (subst (λ n. c.args.j < n) (row_count-shared config c.args.word.now shared.0) c.requires)

pub returns-in-Private-clause-value : goal.returns-in-Private-clause-value
returns-in-Private-clause-value c =
    let config = c.args.self.now.config in
    let private = word_rows-private config c.args.word.now c.in-Private.number c.in-Private.ensures.value in
    c.private.ensures ∙ ap (private_row config) private.1 ∙ sym (row_of_word-private config c.args.word.now c.args.j private.0)

pub returns-in-Private-clause-laid : goal.returns-in-Private-clause-laid
returns-in-Private-clause-laid c =
    let config = c.args.self.now.config in
    let private = word_rows-private config c.args.word.now c.in-Private.number c.in-Private.ensures.value in
    inl (c.in-Private.number, subst (λ i. i < length (private_words config)) (sym private.1) (private_number-below config c.args.word.now private.0), c.private.ensures)

pub returns-in-Shared-clause-value : goal.returns-in-Shared-clause-value
returns-in-Shared-clause-value c =
    let config = c.args.self.now.config in
    let shared = word_rows-shared config c.args.word.now c.in-Shared.class c.in-Shared.ensures.value in
    c.hashed.ensures.value c.args.word.now c.new-hash.ensures ∙ ap (λ k. hashed_row config c.args.word.now k c.args.j) shared.1 ∙ sym (row_of_word-shared config c.args.word.now c.args.j shared.0)
