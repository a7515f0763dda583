use Rattle.std.proofs.Common.{◌≡◌, drop}
use Rattle.std.specs.List.{list_any}
use Rattle.funnel_model.specs.Searches.{is_kept}
use Rattle.funnel_model.specs.WordExprs.{each_keeps, searched}
use Rattle.funnel_model.specs.declared.word_expr.WordExpr.{WordExpr}
use Rattle.engine.proofs.doubt.+is_kept.Given as goal

-- those before this one keep the document, so the others decide
abbrev pub invariant-each_is_kept-loop-expr : goal.invariant-each_is_kept-loop-expr
invariant-each_is_kept-loop-expr l = each_keeps (drop l.expr-index l.exprs) l.doc.text ≡ each_keeps l.exprs l.doc.text

-- and none of those before this one does
abbrev pub invariant-some_is_kept-loop-expr : goal.invariant-some_is_kept-loop-expr
invariant-some_is_kept-loop-expr l =
    list_any (λ (e : WordExpr). is_kept (searched e) l.doc.text) (drop l.expr-index l.exprs) ≡ list_any (λ (e : WordExpr). is_kept (searched e) l.doc.text) l.exprs
