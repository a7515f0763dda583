-- Boolean expressions, and which texts they keep.
use Rattle.std.specs.Prelude.{ℕ, ◌&&◌, ◌||◌, Bool, true, false, not, List, [], ◌∷◌, map, filter}
use Rattle.funnel_model.specs.declared.event.Event.{Event}
use Rattle.funnel_model.specs.declared.expr.Expr.{Expr}
use Rattle.funnel_model.specs.declared.expr.Exprs.{Exprs}
use Rattle.funnel_model.specs.declared.expr.Expr.TheOpen.{Expr-F, Exprs-F, Atom, And, Or, Not}
use Rattle.funnel_model.specs.declared.expr.Expr.TheFolds.{fold-Expr}
use Rattle.funnel_model.specs.History.{live}
use Rattle.funnel_model.specs.Words.{meets}

mutual
  -- an atom, all of several factors (a term), some of several terms (an expression), or the contrary of a factor
  pub data Tree : Type 0 where
    atom : List ℕ → Tree
    every : Trees → Tree
    some : Trees → Tree
    contrary : Tree → Tree

  -- several of these, in order
  pub data Trees : Type 0 where
    no_trees : Trees
    tree : Tree → Trees → Trees

abbrev pub trees_of : List Tree → Trees
trees_of [] = no_trees
trees_of (t ∷ ts) = tree t (trees_of ts)

-- one level of an Expr, with the tree of each part in its place
abbrev pub tree_step : Expr-F Tree Trees → Tree
tree_step (Atom text) = atom text
tree_step (And factors) = every factors
tree_step (Or terms) = some terms
tree_step (Not factor) = contrary factor.value

abbrev pub trees_step : Exprs-F Tree Trees → Trees
trees_step exprs = trees_of exprs.exprs.items

-- the tree that an Expr is
abbrev pub tree_of : Expr → Tree
tree_of = fold-Expr Tree Trees tree_step trees_step

abbrev pub trees : Exprs → Trees
trees exprs = trees_of (map tree_of exprs.exprs.items)

abbrev mutual
  -- whether a text is kept: by an atom if it has every word of it, by a term if each factor keeps it, by an expression
  -- if some term does, and by a minus if the factor behind it does not
  pub keeps : Tree → List ℕ → Bool
  keeps (atom query) text = meets text query
  keeps (every factors) text = all_keep factors text
  keeps (some terms) text = one_keeps terms text
  keeps (contrary factor) text = not (keeps factor text)

  pub all_keep : Trees → List ℕ → Bool
  all_keep no_trees text = true
  all_keep (tree t ts) text = keeps t text && all_keep ts text

  pub one_keeps : Trees → List ℕ → Bool
  one_keeps no_trees text = false
  one_keeps (tree t ts) text = keeps t text || one_keeps ts text

-- the numbers of the live documents whose text the expression keeps, in the order of their adds
abbrev pub answer_by : List Event → Tree → List ℕ
answer_by history expr = map (λ d. d.id) (filter (λ d. keeps expr d.text) (live history))
