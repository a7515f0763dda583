use Rattle.std.proofs.Common.{rules, ◌≡◌, ◌∙◌, ◌<◌, ◌+◌, ◌||◌, ◌++◌, ◌∷◌, [], ℕ, List, map, sym, ap, subst, take, get_or, add-one}
use Rattle.std.proofs.Math.Bool.{or-false, or_assoc}
use Rattle.std.proofs.Math.Seq.{take-suc}
use Rattle.std.proofs.lemmas.List.{map-append}
use Rattle.std.proofs.lemmas.Result.{on_ok_weaker}
use Rattle.bool_query.specs.WordLists.{in_some}
use Rattle.bool_query.proofs.Cuts.{cut-join, joined-joined, joined-none, requires-push, residues-push, sets-push, several}
use Rattle.bool_query.proofs.Trees.{size, sizes, size-at, tree-atom, tree-not, tree-or}
use Rattle.funnel_model.proofs.WordLemmas.{has-same}
use Rattle.funnel_model.specs.declared.expr.Expr.{Expr}
use Rattle.funnel_model.specs.declared.word_expr.WordExpr.{WordExpr}
use Rattle.funnel_model.specs.Expressions.{Tree, atom, some, contrary, no_trees, tree, tree_of, trees_of}
use Rattle.funnel_model.specs.Required.{is_required, joined, residue, residues, some_requires}
use Rattle.funnel_model.specs.WordExprs.{AreCut}
use Rattle.funnel_model.specs.Words.{words}
use Rattle.bool_query.proofs.wanted.+split.Goals as goal

-- an atom adds its words
pub split-returns-in_ok-push-in-Atom-clause-words : goal.split-returns-in_ok-push-in-Atom-clause-words
split-returns-in_ok-push-in-Atom-clause-words t c word =
    let sets : List (List (List ℕ)) = c.args.sets.now.items in
    let set = c.in_ok-words_of-in-Atom.field-0 in
    ap (λ (ss : List (List (List ℕ))). in_some ss word) c.in_ok-push-in-Atom.ensures.items
    ∙ sets-push sets set word
    ∙ ap (λ b. in_some sets word || b) (has-same set (words c.as_str.result.now) c.in_ok-words_of-in-Atom.ensures word)
    ∙ ap (λ (text : List ℕ). in_some sets word || is_required (atom text) word) c.as_str.ensures
    ∙ ap (λ x. in_some sets word || is_required x word) (sym (ap tree_of c.in-Atom.is ∙ tree-atom c.in-Atom.text))

pub split-returns-in_ok-push-in-Atom-clause-left : goal.split-returns-in_ok-push-in-Atom-clause-left
split-returns-in_ok-push-in-Atom-clause-left t c ts are =
    subst (λ us. AreCut us c.args.left.now.items)
    (sym (ap (λ x. joined ts (residue x)) (ap tree_of c.in-Atom.is ∙ tree-atom c.in-Atom.text) ∙ joined-none ts)) are

-- an expression of one term is split as the term is
pub split-returns-in-Some-clause-words : goal.split-returns-in-Some-clause-words
split-returns-in-Some-clause-words t c =
    let whole : tree_of c.args.expr.now ≡ some (tree (tree_of c.in-Some.term.now) no_trees) =
    ap tree_of c.in-Or.is ∙ tree-or c.in-Or.terms
    ∙ ap some (sym c.as_slice-in-Or.ensures ∙ ap (λ (es : List Expr). trees_of (map tree_of es)) c.in-Some.ensures.one) in
    on_ok_weaker c.split.result
    (λ added word. added word ∙ ap (λ x. in_some c.args.sets.now.items word || is_required x word) (sym whole)) c.split.ensures.words

pub split-returns-in-Some-clause-left : goal.split-returns-in-Some-clause-left
split-returns-in-Some-clause-left t c =
    let whole : tree_of c.args.expr.now ≡ some (tree (tree_of c.in-Some.term.now) no_trees) =
    ap tree_of c.in-Or.is ∙ tree-or c.in-Or.terms
    ∙ ap some (sym c.as_slice-in-Or.ensures ∙ ap (λ (es : List Expr). trees_of (map tree_of es)) c.in-Some.ensures.one) in
    on_ok_weaker c.split.result
    (λ added ts are. subst (λ x. AreCut (joined ts (residue x)) c.split.new.left.items) (sym whole) (added ts are)) c.split.ensures.left

-- one of several terms is left
pub split-returns-in_ok-push-in-None-clause-words : goal.split-returns-in_ok-push-in-None-clause-words
split-returns-in_ok-push-in-None-clause-words t c word =
    let exprs : List Expr = c.as_slice-in-Or.result.now in
    let whole : tree_of c.args.expr.now ≡ some (trees_of (map tree_of exprs)) = ap tree_of c.in-Or.is ∙ tree-or c.in-Or.terms ∙ ap some (sym c.as_slice-in-Or.ensures) in
    sym (ap (λ b. in_some c.args.sets.now.items word || b) (ap (λ x. is_required x word) whole ∙ (several exprs word c.in-None.ensures.several).0)
    ∙ or-false (in_some c.args.sets.now.items word))

pub split-returns-in_ok-push-in-None-clause-left : goal.split-returns-in_ok-push-in-None-clause-left
split-returns-in_ok-push-in-None-clause-left t c ts are =
    let exprs : List Expr = c.as_slice-in-Or.result.now in
    let whole : tree_of c.args.expr.now ≡ some (trees_of (map tree_of exprs)) = ap tree_of c.in-Or.is ∙ tree-or c.in-Or.terms ∙ ap some (sym c.as_slice-in-Or.ensures) in
    let left : residue (tree_of c.args.expr.now) ≡ tree (tree_of c.args.expr.now) no_trees =
    ap residue whole ∙ (several exprs [] c.in-None.ensures.several).1 ∙ ap (λ x. tree x no_trees) (sym whole) in
    subst (λ (es : List WordExpr). AreCut (joined ts (residue (tree_of c.args.expr.now))) es) (sym c.in_ok-push-in-None.ensures.items)
    (subst (λ us. AreCut (joined ts us) (c.args.left.now.items ++ c.in_ok-with_words-in-None.field-0 ∷ [])) (sym left)
    (cut-join c.args.left.now.items ts c.in_ok-with_words-in-None.field-0 (tree_of c.args.expr.now) are c.in_ok-with_words-in-None.ensures))

-- so is a minus
pub split-returns-in_ok-push-in-Not-clause-left : goal.split-returns-in_ok-push-in-Not-clause-left
split-returns-in_ok-push-in-Not-clause-left t c ts are =
    let whole : tree_of c.args.expr.now ≡ contrary (tree_of c.in-Not.field-0.value) = ap tree_of c.in-Not.is ∙ tree-not c.in-Not.field-0 in
    let left : residue (tree_of c.args.expr.now) ≡ tree (tree_of c.args.expr.now) no_trees =
    ap residue whole ∙ ap (λ x. tree x no_trees) (sym whole) in
    subst (λ (es : List WordExpr). AreCut (joined ts (residue (tree_of c.args.expr.now))) es) (sym c.in_ok-push-in-Not.ensures.items)
    (subst (λ us. AreCut (joined ts us) (c.args.left.now.items ++ c.in_ok-with_words-in-Not.field-0 ∷ [])) (sym left)
    (cut-join c.args.left.now.items ts c.in_ok-with_words-in-Not.field-0 (tree_of c.args.expr.now) are c.in_ok-with_words-in-Not.ensures))

-- factor by factor
pub split_each-loop-expr-init : goal.split_each-loop-expr-init
split_each-loop-expr-init t c = record {
  words = λ word. sym (or-false (in_some c.args.sets.now.items word));
  left = λ ts are. subst (λ us. AreCut us c.args.left.now.items) (sym (joined-none ts)) are;
}

pub split_each-split-requires : goal.split_each-split-requires
split_each-split-requires t c =
    let less : size (tree_of c.expr-item.result) < sizes (trees_of (map tree_of c.args.exprs.now)) =
    subst (λ (e : Expr). size (tree_of e) < sizes (trees_of (map tree_of c.args.exprs.now))) (sym c.expr-item.is)
    (size-at c.args.exprs.now c.loop-expr.expr-index c.expr-item.result c.loop-expr-test.true) in
    search (rules, less)

pub split_each-loop-expr-preserved : goal.split_each-loop-expr-preserved
split_each-loop-expr-preserved t c =
    let exprs : List Expr = c.args.exprs.now in
    let i : ℕ = c.loop-expr.expr-index in
    let expr : Expr = c.expr-item.result in
    let before : List Tree = map tree_of (take i exprs) in
    let next : map tree_of (take (i + 1) exprs) ≡ before ++ tree_of expr ∷ [] =
    ap (map tree_of) (rw add-one (take-suc exprs i expr c.loop-expr-test.true)) ∙ map-append tree_of (take i exprs) (get_or exprs i expr ∷ [])
    ∙ ap (λ (e : Expr). before ++ tree_of e ∷ []) (sym c.expr-item.is) in
    record {
      words = λ word.
          c.in_ok-split.ensures.words word
          ∙ ap (λ b. b || is_required (tree_of expr) word) (c.loop-expr.invariant.words word)
          ∙ or_assoc (in_some c.args.sets.now.items word) (some_requires (trees_of before) word) (is_required (tree_of expr) word)
          ∙ ap (λ b. in_some c.args.sets.now.items word || b) (sym (requires-push before (tree_of expr) word))
          ∙ ap (λ (us : List Tree). in_some c.args.sets.now.items word || some_requires (trees_of us) word) (sym next);
      left = λ ts are.
          subst (λ us. AreCut us c.split.new.left.items)
          (joined-joined ts (residues (trees_of before)) (residue (tree_of expr))
          ∙ ap (joined ts) (sym (residues-push before (tree_of expr)))
          ∙ ap (λ (us : List Tree). joined ts (residues (trees_of us))) (sym next))
          (c.in_ok-split.ensures.left (joined ts (residues (trees_of before))) (c.loop-expr.invariant.left ts are));
    }
