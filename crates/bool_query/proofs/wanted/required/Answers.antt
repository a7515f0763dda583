use Rattle.std.proofs.Common.{◌≡◌, ◌∙◌, ◌||◌, ℕ, List, ap, sym, subst}
use Rattle.bool_query.proofs.Cuts.{wanted-keep}
use Rattle.bool_query.specs.WordLists.{has, in_some}
use Rattle.funnel_model.proofs.WordLemmas.{Contains-has}
use Rattle.funnel_model.specs.declared.word_expr.WordExpr.{WordExpr}
use Rattle.funnel_model.specs.Expressions.{no_trees, tree_of}
use Rattle.funnel_model.specs.Required.{is_required}
use Rattle.funnel_model.specs.WordExprs.{AreCut}
use Rattle.bool_query.proofs.wanted.required.Goals as goal

of_words : goal.returns-clause-words
of_words c word =
    let set = c.in_ok-words_of_all.field-0 in
    let same : has set word ≡ is_required (tree_of c.args.expr.now) word =
    c.in_ok-words_of_all.ensures word
    ∙ ap (λ (ss : List (List (List ℕ))). in_some ss word) c.deref.ensures.value
    ∙ c.in_ok-split.ensures.words word
    ∙ ap (λ (ss : List (List (List ℕ))). in_some ss word || is_required (tree_of c.args.expr.now) word) c.new-sets.ensures.items in
    (λ held. sym same ∙ (Contains-has word set).0 held, λ asked. (Contains-has word set).1 (same ∙ asked))

of_residue : goal.returns-clause-residue
of_residue c = c.in_ok-split.ensures.left no_trees (subst (λ (es : List WordExpr). AreCut no_trees es) (sym c.new-left.ensures.items) tt)

pub returns-clause-words : goal.returns-clause-words
returns-clause-words = of_words

pub returns-clause-residue : goal.returns-clause-residue
returns-clause-residue = of_residue

pub returns-clause-kept : goal.returns-clause-kept
returns-clause-kept c = wanted-keep (tree_of c.args.expr.now) c.in_ok-words_of_all.field-0 c.split.new.left.items (of_words c) (of_residue c)
