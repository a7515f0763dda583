use Rattle.std.proofs.Common.{◌≡◌, ◌≤◌, ℕ, get_or, ap, sym, subst, ◌∙◌, arith}
use Rattle.funnel_model.specs.Treatment.{row_count_of_class}
use Rattle.funnel_model.proofs.TreatmentLemmas.{row_count-is_small}
use Rattle.row_layout.specs.Layouts.{LayoutId}
use Rattle.row_layout.proofs.Listing.{word_rows-private, word_rows-shared, class_of_word-small}
use Rattle.row_layout.proofs.WordRows.{row_count-private, row_count-shared}
use Rattle.row_layout.proofs.layout.Layout.count_of.Goals as goal
use Rattle.row_layout.proofs.layout.Layout.count_of.Goals.{After-result-1}

pub bounds-self-inside-class : goal.bounds-self-inside-class
bounds-self-inside-class c =
    let shared = word_rows-shared c.args.self.now.config c.args.word.now c.in-Shared.class c.in-Shared.ensures.value in
    omega (arith, shared.1, class_of_word-small c.args.self.now.config c.args.word.now)

pub returns-in-Private-clause-value : goal.returns-in-Private-clause-value
returns-in-Private-clause-value c =
    let private = word_rows-private c.args.self.now.config c.args.word.now c.in-Private.field-0 c.in-Private.ensures.value in
    sym (row_count-private c.args.self.now.config c.args.word.now private.0)

-- the number of rows of a class is in the table
counted : (c : After-result-1) → get_or c.self.inside.classes.counts c.in-Shared.class 0 ≡ row_count_of_class c.args.self.now.config.one_in c.args.self.now.config.snr c.in-Shared.class
counted c =
    let shared = word_rows-shared c.args.self.now.config c.args.word.now c.in-Shared.class c.in-Shared.ensures.value in
    c.self.invariant.classes_are.counts_are c.in-Shared.class (omega (arith, shared.1, class_of_word-small c.args.self.now.config c.args.word.now))
    ∙ ap (λ (l : LayoutId). row_count_of_class l.config.one_in l.config.snr c.in-Shared.class) c.self.view_is

pub returns-in-Shared-clause-value : goal.returns-in-Shared-clause-value
returns-in-Shared-clause-value c =
    let config = c.args.self.now.config in
    let shared = word_rows-shared config c.args.word.now c.in-Shared.class c.in-Shared.ensures.value in
    counted c ∙ ap (row_count_of_class config.one_in config.snr) shared.1 ∙ sym (row_count-shared config c.args.word.now shared.0)

pub returns-in-Shared-clause-bound : goal.returns-in-Shared-clause-bound
returns-in-Shared-clause-bound c =
    let config = c.args.self.now.config in
    subst (λ (n : ℕ). n ≤ 26) (sym (counted c)) (row_count-is_small config.one_in config.snr c.in-Shared.class)
