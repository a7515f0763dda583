use Rattle.std.proofs.Common.{rules, ◌≡◌, ◌∙◌, ◌<◌, ◌+◌, ◌++◌, ◌∷◌, [], ℕ, List, map, sym, ap, arith, subst, take, get_or, add-one}
use Rattle.std.proofs.Math.Seq.{take-suc}
use Rattle.std.proofs.lemmas.List.{map-append}
use Rattle.bool_query.proofs.Trees.{size, sizes, size-at, tree-and, tree-atom, tree-or}
use Rattle.bool_query.proofs.Cuts.{cut-atom, cut-every, cut-push, cut-some}
use Rattle.funnel_model.specs.declared.expr.Expr.{Expr}
use Rattle.funnel_model.specs.declared.word_expr.WordExpr.{WordExpr}
use Rattle.funnel_model.specs.declared.word_expr.WordExpr.TheVariants as variants
use Rattle.funnel_model.specs.Expressions.{Tree, Trees, atom, every, some, tree_of, trees, trees_of}
use Rattle.funnel_model.specs.WordExprs.{AreCut, IsCut}
use Rattle.bool_query.proofs.cutting.+with_words.Goals as goal

pub with_words-returns-in_ok-words_of-in-Atom : goal.with_words-returns-in_ok-words_of-in-Atom
with_words-returns-in_ok-words_of-in-Atom t c =
    let set = c.in_ok-words_of-in-Atom.field-0 in
    subst (λ (x : Tree). IsCut x (variants.Words set)) (sym (ap tree_of c.in-Atom.is ∙ tree-atom c.in-Atom.text))
    (subst (λ (text : List ℕ). IsCut (atom text) (variants.Words set)) c.as_str.ensures (cut-atom set c.as_str.result.now c.in_ok-words_of-in-Atom.ensures))

pub with_words-returns-in_ok-each_with_words-in-And : goal.with_words-returns-in_ok-each_with_words-in-And
with_words-returns-in_ok-each_with_words-in-And t c =
    let factors = c.in-And.factors in
    let cut = c.in_ok-each_with_words-in-And.field-0 in
    let each : AreCut (trees factors) cut.items = subst (λ (ts : Trees). AreCut ts cut.items) c.as_slice.ensures c.in_ok-each_with_words-in-And.ensures in
    subst (λ (x : Tree). IsCut x (variants.And cut)) (sym (ap tree_of c.in-And.is ∙ tree-and factors)) (cut-every cut (trees factors) each)

pub with_words-returns-in_ok-each_with_words-in-Or : goal.with_words-returns-in_ok-each_with_words-in-Or
with_words-returns-in_ok-each_with_words-in-Or t c =
    let terms = c.in-Or.terms in
    let cut = c.in_ok-each_with_words-in-Or.field-0 in
    let each : AreCut (trees terms) cut.items = subst (λ (ts : Trees). AreCut ts cut.items) c.as_slice-in-Or.ensures c.in_ok-each_with_words-in-Or.ensures in
    subst (λ (x : Tree). IsCut x (variants.Or cut)) (sym (ap tree_of c.in-Or.is ∙ tree-or terms)) (cut-some cut (trees terms) each)

pub with_words-each_with_words-requires : goal.with_words-each_with_words-requires
with_words-each_with_words-requires t c =
    let is : tree_of c.args.expr.now ≡ every (trees c.in-And.factors) = ap tree_of c.in-And.is ∙ tree-and c.in-And.factors in
    let less : sizes (trees_of (map tree_of c.as_slice.result.now)) < size (tree_of c.args.expr.now) = omega (arith, ap sizes c.as_slice.ensures, ap size is) in
    search (rules, less)

pub with_words-each_with_words-requires-in-Or : goal.with_words-each_with_words-requires-in-Or
with_words-each_with_words-requires-in-Or t c =
    let is : tree_of c.args.expr.now ≡ some (trees c.in-Or.terms) = ap tree_of c.in-Or.is ∙ tree-or c.in-Or.terms in
    let less : sizes (trees_of (map tree_of c.as_slice-in-Or.result.now)) < size (tree_of c.args.expr.now) = omega (arith, ap sizes c.as_slice-in-Or.ensures, ap size is) in
    search (rules, less)

pub each_with_words-with_words-requires : goal.each_with_words-with_words-requires
each_with_words-with_words-requires t c =
    let less : size (tree_of c.expr-item.result) < sizes (trees_of (map tree_of c.args.exprs.now)) =
    subst (λ (e : Expr). size (tree_of e) < sizes (trees_of (map tree_of c.args.exprs.now))) (sym c.expr-item.is)
    (size-at c.args.exprs.now c.loop-expr.expr-index c.expr-item.result c.loop-expr-test.true) in
    search (rules, less)

pub each_with_words-loop-expr-preserved : goal.each_with_words-loop-expr-preserved
each_with_words-loop-expr-preserved t c =
    let exprs : List Expr = c.args.exprs.now in
    let i : ℕ = c.loop-expr.expr-index in
    let expr : Expr = c.expr-item.result in
    let before : List Tree = map tree_of (take i exprs) in
    let cut : List WordExpr = c.loop-expr.cut.items in
    let next : map tree_of (take (i + 1) exprs) ≡ before ++ tree_of expr ∷ [] =
    ap (map tree_of) (rw add-one (take-suc exprs i expr c.loop-expr-test.true)) ∙ map-append tree_of (take i exprs) (get_or exprs i expr ∷ [])
    ∙ ap (λ (e : Expr). before ++ tree_of e ∷ []) (sym c.expr-item.is) in
    let pushed : AreCut (trees_of (before ++ tree_of expr ∷ [])) (cut ++ c.in_ok-with_words.field-0 ∷ []) =
    cut-push cut before c.in_ok-with_words.field-0 (tree_of expr) c.loop-expr.invariant c.in_ok-with_words.ensures in
    subst (λ (es : List WordExpr). AreCut (trees_of (map tree_of (take (i + 1) exprs))) es) (sym c.in_ok-push.ensures.items)
    (subst (λ (ts : List Tree). AreCut (trees_of ts) (cut ++ c.in_ok-with_words.field-0 ∷ [])) (sym next) pushed)
