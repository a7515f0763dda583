-- The search that each kind of expression is.
use Rattle.std.proofs.Common.{◌≡◌, ◌&&◌, ℕ, List, [], ◌∷◌, refl, sym, ap, ◌∙◌}
use Rattle.std.specs.Prelude.{Box, Vec}
use Rattle.std.specs.declared.alloc.Global.{Global}
use Rattle.funnel_model.specs.Searches.{Search, all_of, atom_of, is_kept, not_of, some_of}
use Rattle.funnel_model.specs.WordExprs.{each_keeps, each_searched, search_step, searched}
use Rattle.funnel_model.specs.declared.word_expr.WordExpr.{WordExpr}
use Rattle.funnel_model.specs.declared.word_expr.WordExpr.TheVariants as variants
use Rattle.funnel_model.specs.declared.word_expr.WordExpr.TheVariants.{rolls-Words, rolls-And, rolls-Or, rolls-Not}
use Rattle.funnel_model.specs.declared.word_expr.WordExpr.TheOpen as layer
use Rattle.funnel_model.specs.declared.word_expr.WordExpr.TheFolds.{fold-roll-WordExpr}

pub search-words : (set : List (List ℕ)) → searched (variants.Words set) ≡ atom_of set
search-words set = ap searched (sym (rolls-Words set)) ∙ fold-roll-WordExpr (Search (List (List ℕ))) search_step (layer.Words set)

pub search-and : (factors : Vec WordExpr Global) → searched (variants.And factors) ≡ all_of (each_searched factors.items)
search-and factors = ap searched (sym (rolls-And factors)) ∙ fold-roll-WordExpr (Search (List (List ℕ))) search_step (layer.And factors)

pub search-or : (terms : Vec WordExpr Global) → searched (variants.Or terms) ≡ some_of (each_searched terms.items)
search-or terms = ap searched (sym (rolls-Or terms)) ∙ fold-roll-WordExpr (Search (List (List ℕ))) search_step (layer.Or terms)

pub search-not : (factor : Box WordExpr Global) → searched (variants.Not factor) ≡ not_of (searched factor.value)
search-not factor = ap searched (sym (rolls-Not factor)) ∙ fold-roll-WordExpr (Search (List (List ℕ))) search_step (layer.Not factor)

-- all of several expressions keep a text where each does
pub each-kept : (exprs : List WordExpr) (text : List ℕ) → is_kept (all_of (each_searched exprs)) text ≡ each_keeps exprs text
each-kept [] text = refl
each-kept (e ∷ exprs) text = ap (λ b. is_kept (searched e) text && b) (each-kept exprs text)
