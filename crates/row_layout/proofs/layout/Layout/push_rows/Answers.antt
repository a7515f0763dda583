-- The rows of a word are its private row, or those of its class.
use Rattle.std.proofs.Common.{◌++◌, ◌∷◌, [], ◌<◌, ℕ, length, ap, sym, subst, ◌∙◌, inl, arith}
use Rattle.std.specs.List.{All}
use Rattle.funnel_model.specs.Sizes.{private_words}
use Rattle.std.proofs.lemmas.List.Elements.{All-push}
use Rattle.row_layout.specs.Rows.{IsRowOf, hashed_rows, private_row}
use Rattle.row_layout.proofs.Listing.{word_rows-private, word_rows-shared, class_of_word-small, private_number-below}
use Rattle.row_layout.proofs.WordRows.{rows_of_word-private, rows_of_word-shared}
use Rattle.row_layout.proofs.layout.Layout.push_rows.Goals as goal

pub private-requires : goal.private-requires
private-requires c =
    let config = c.args.self.now.config in
    let private = word_rows-private config c.args.word.now c.in-Private.number c.in-Private.ensures.value in
    subst (λ (i : ℕ). i < length (private_words config)) (sym private.1) (private_number-below config c.args.word.now private.0)

pub push_hashed-requires-clause-class : goal.push_hashed-requires-clause-class
push_hashed-requires-clause-class c =
    let shared = word_rows-shared c.args.self.now.config c.args.word.now c.in-Shared.class c.in-Shared.ensures.value in
    omega (arith, shared.1, class_of_word-small c.args.self.now.config c.args.word.now)

pub returns-in_ok-push-in-Private-clause-rows : goal.returns-in_ok-push-in-Private-clause-rows
returns-in_ok-push-in-Private-clause-rows c =
    let config = c.args.self.now.config in
    let private = word_rows-private config c.args.word.now c.in-Private.number c.in-Private.ensures.value in
    c.in_ok-push-in-Private.ensures.items
    ∙ ap (λ row. c.args.rows.now.items ++ row ∷ []) (c.private.ensures ∙ ap (private_row config) private.1)
    ∙ ap (λ rows. c.args.rows.now.items ++ rows) (sym (rows_of_word-private config c.args.word.now private.0))

pub returns-in_ok-push-in-Private-clause-laid : goal.returns-in_ok-push-in-Private-clause-laid
returns-in_ok-push-in-Private-clause-laid c =
    let config = c.args.self.now.config in
    let private = word_rows-private config c.args.word.now c.in-Private.number c.in-Private.ensures.value in
    let below = subst (λ (i : ℕ). i < length (private_words config)) (sym private.1) (private_number-below config c.args.word.now private.0) in
    subst (All (IsRowOf config)) (sym c.in_ok-push-in-Private.ensures.items)
    (All-push (IsRowOf config) c.args.rows.now.items c.private.result c.requires (inl (c.in-Private.number, below, c.private.ensures)))

pub returns-in_ok-push_hashed-in-Shared-clause-rows : goal.returns-in_ok-push_hashed-in-Shared-clause-rows
returns-in_ok-push_hashed-in-Shared-clause-rows c =
    let config = c.args.self.now.config in
    let word = c.args.word.now in
    let shared = word_rows-shared config word c.in-Shared.class c.in-Shared.ensures.value in
    c.in_ok-push_hashed-in-Shared.ensures.rows word c.new-hash.ensures
    ∙ ap (λ rows. c.args.rows.now.items ++ rows) (ap (hashed_rows config word) shared.1 ∙ sym (rows_of_word-shared config word shared.0))

pub returns-in_ok-push-in-Private-clause-exact : goal.returns-in_ok-push-in-Private-clause-exact
returns-in_ok-push-in-Private-clause-exact c =
    let private = word_rows-private c.args.self.now.config c.args.word.now c.in-Private.number c.in-Private.ensures.value in
    sym private.0

pub returns-in_ok-push_hashed-in-Shared-clause-exact : goal.returns-in_ok-push_hashed-in-Shared-clause-exact
returns-in_ok-push_hashed-in-Shared-clause-exact c =
    let shared = word_rows-shared c.args.self.now.config c.args.word.now c.in-Shared.class c.in-Shared.ensures.value in
    sym shared.0
