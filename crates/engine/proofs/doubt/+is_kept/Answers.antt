use Rattle.std.proofs.Common.{◌≡◌, ◌∙◌, ◌||◌, ℕ, List, [], ◌∷◌, refl, sym, ap}
use Rattle.std.specs.List.{list_any}
use Rattle.funnel_model.proofs.WordExprLemmas.{each-kept, search-and, search-or}
use Rattle.funnel_model.specs.declared.word_expr.WordExpr.{WordExpr}
use Rattle.funnel_model.specs.Searches.{Search, is_kept, some_of}
use Rattle.funnel_model.specs.WordExprs.{each_keeps, each_searched, searched}
use Rattle.engine.proofs.doubt.+is_kept.Goals as goal

-- some of several expressions keep a text where one does
some-kept : (exprs : List WordExpr) (text : List ℕ) → is_kept (some_of (each_searched exprs)) text ≡ list_any (λ (e : WordExpr). is_kept (searched e) text) exprs
some-kept [] text = refl
some-kept (e ∷ exprs) text = ap (λ b. is_kept (searched e) text || b) (some-kept exprs text)

pub is_kept-returns-in-And : goal.is_kept-returns-in-And
is_kept-returns-in-And t c =
    let text = c.args.doc.now.text in
    let factors = c.in-And.factors in
    c.each_is_kept.ensures ∙ ap (λ (es : List WordExpr). each_keeps es text) c.as_slice.ensures.value ∙ sym (each-kept factors.items text)
    ∙ sym (ap (λ (s : Search (List (List ℕ))). is_kept s text) (ap searched c.in-And.is ∙ search-and factors))

pub is_kept-returns-in-Or : goal.is_kept-returns-in-Or
is_kept-returns-in-Or t c =
    let text = c.args.doc.now.text in
    let terms = c.in-Or.terms in
    c.some_is_kept.ensures ∙ ap (λ (es : List WordExpr). list_any (λ (e : WordExpr). is_kept (searched e) text) es) c.as_slice-in-Or.ensures.value ∙ sym (some-kept terms.items text)
    ∙ sym (ap (λ (s : Search (List (List ℕ))). is_kept s text) (ap searched c.in-Or.is ∙ search-or terms))
