-- Expressions whose atoms are cut into words, part by part.
use Rattle.std.proofs.Common.{◌≡◌, ◌&&◌, ◌||◌, ℕ, false, List, [], ◌∷◌, ◌++◌, map, refl, sym, ap, ap₂, ◌∙◌, subst}
use Rattle.std.proofs.lemmas.Bool.{and_from, and_parts}
use Rattle.std.proofs.Math.Bool.{or-false, or_assoc}
use Rattle.std.proofs.lemmas.List.Folds.{list_any-append}
use Rattle.bool_query.specs.WordLists.{has, in_some}
use Rattle.std.specs.Prelude.{Box, Vec, length, not, ◌≢◌}
use Rattle.funnel_model.specs.declared.expr.Expr.{Expr}
use Rattle.std.specs.declared.alloc.Global.{Global}
use Rattle.std.specs.List.{list_all, list_any}
use Rattle.funnel_model.specs.declared.word_expr.WordExpr.{WordExpr}
use Rattle.funnel_model.specs.declared.word_expr.WordExpr.TheVariants as variants
use Rattle.funnel_model.proofs.WordExprLemmas.{each-kept, search-and, search-not, search-or, search-words}
use Rattle.funnel_model.proofs.RequiredLemmas.{required-keep}
use Rattle.funnel_model.proofs.WordLemmas.{Contains-has, each-from_list_all, has-same, list_all-from_each, list_all-same, one_test}
use Rattle.funnel_model.specs.Expressions.{Tree, Trees, atom, every, some, contrary, no_trees, tree, tree_of, trees_of, keeps, all_keep, one_keeps}
use Rattle.funnel_model.specs.Required.{AreRequired, is_required, joined, residue, residues, search_of, searches_of, some_requires}
use Rattle.funnel_model.specs.Searches.{Search, Searches, AreAlike, AreEachAlike, all_of, atom_of, each_passes, entry, has_all, is_kept, no_entries, not_of, some_of}
use Rattle.funnel_model.specs.WordExprs.{AreCut, IsCut, each_keeps, each_searched}
use Rattle.funnel_model.specs.Words.{AreWordsOf, has_word, words}

abbrev Cut : List ℕ → List (List ℕ) → Type 0
Cut query set = AreWordsOf set query

-- each kind of expression is cut where its parts are
pub cut-atom : (set : List (List ℕ)) (query : List ℕ) → AreWordsOf set query → IsCut (atom query) (variants.Words set)
cut-atom set query are = subst (AreAlike Cut (atom_of query)) (sym (search-words set)) are

pub cut-every : (factors : Vec WordExpr Global) (ts : Trees) → AreCut ts factors.items → IsCut (every ts) (variants.And factors)
cut-every factors ts are = subst (AreAlike Cut (all_of (searches_of ts))) (sym (search-and factors)) are

pub cut-some : (terms : Vec WordExpr Global) (ts : Trees) → AreCut ts terms.items → IsCut (some ts) (variants.Or terms)
cut-some terms ts are = subst (AreAlike Cut (some_of (searches_of ts))) (sym (search-or terms)) are

pub cut-not : (factor : Box WordExpr Global) (t : Tree) → IsCut t factor.value → IsCut (contrary t) (variants.Not factor)
cut-not factor t is = subst (AreAlike Cut (not_of (search_of t))) (sym (search-not factor)) is

-- one more of several
pub cut-push : (exprs : List WordExpr) (before : List Tree) (expr : WordExpr) (t : Tree) → AreCut (trees_of before) exprs → IsCut t expr →
    AreCut (trees_of (before ++ t ∷ [])) (exprs ++ expr ∷ [])
cut-push [] [] expr t are is = (is, tt)
cut-push (e ∷ exprs) (b ∷ before) expr t are is = (are.0, cut-push exprs before expr t are.1 is)
cut-push [] (b ∷ before) expr t are is = absurd are
cut-push (e ∷ exprs) [] expr t are is = absurd are

pub cut-join : (exprs : List WordExpr) (ts : Trees) (expr : WordExpr) (t : Tree) → AreCut ts exprs → IsCut t expr →
    AreCut (joined ts (tree t no_trees)) (exprs ++ expr ∷ [])
cut-join [] no_trees expr t are is = (is, tt)
cut-join (e ∷ exprs) (tree u ts) expr t are is = (are.0, cut-join exprs ts expr t are.1 is)
cut-join [] (tree u ts) expr t are is = absurd are
cut-join (e ∷ exprs) no_trees expr t are is = absurd are

mutual
  -- an expression that is cut keeps the texts that its tree keeps
  cut-keeps : (t : Tree) (search : Search (List (List ℕ))) (text : List ℕ) → AreAlike Cut (search_of t) search → keeps t text ≡ is_kept search text
  cut-keeps (atom query) (atom_of set) text are =
      sym (list_all-same (has_word text) set (words query) (has-same set (words query) are))
  cut-keeps (every ts) (all_of es) text are = all-cut_keep ts es text are
  cut-keeps (some ts) (some_of es) text are = one-cut_keeps ts es text are
  cut-keeps (contrary t) (not_of e) text are = ap not (cut-keeps t e text are)
  cut-keeps (atom query) (all_of es) text are = absurd are
  cut-keeps (atom query) (some_of es) text are = absurd are
  cut-keeps (atom query) (not_of e) text are = absurd are
  cut-keeps (every ts) (atom_of set) text are = absurd are
  cut-keeps (every ts) (some_of es) text are = absurd are
  cut-keeps (every ts) (not_of e) text are = absurd are
  cut-keeps (some ts) (atom_of set) text are = absurd are
  cut-keeps (some ts) (all_of es) text are = absurd are
  cut-keeps (some ts) (not_of e) text are = absurd are
  cut-keeps (contrary t) (atom_of set) text are = absurd are
  cut-keeps (contrary t) (all_of es) text are = absurd are
  cut-keeps (contrary t) (some_of es) text are = absurd are

  all-cut_keep : (ts : Trees) (es : Searches (List (List ℕ))) (text : List ℕ) → AreEachAlike Cut (searches_of ts) es →
      all_keep ts text ≡ list_all (λ b. b) (each_passes (has_all text) es)
  all-cut_keep no_trees no_entries text are = refl
  all-cut_keep (tree t ts) (entry e es) text are = ap₂ (λ here later. here && later) (cut-keeps t e text are.0) (all-cut_keep ts es text are.1)
  all-cut_keep no_trees (entry e es) text are = absurd are
  all-cut_keep (tree t ts) no_entries text are = absurd are

  one-cut_keeps : (ts : Trees) (es : Searches (List (List ℕ))) (text : List ℕ) → AreEachAlike Cut (searches_of ts) es →
      one_keeps ts text ≡ list_any (λ b. b) (each_passes (has_all text) es)
  one-cut_keeps no_trees no_entries text are = refl
  one-cut_keeps (tree t ts) (entry e es) text are = ap₂ (λ here later. here || later) (cut-keeps t e text are.0) (one-cut_keeps ts es text are.1)
  one-cut_keeps no_trees (entry e es) text are = absurd are
  one-cut_keeps (tree t ts) no_entries text are = absurd are

-- a text is kept where it has the required words and the residue keeps it
pub wanted-keep : (t : Tree) (set : List (List ℕ)) (exprs : List WordExpr) → AreRequired set t → AreCut (residue t) exprs → (text : List ℕ) →
    keeps t text ≡ (has_all text set && each_keeps exprs text)
wanted-keep t set exprs required are text =
    let left : all_keep (residue t) text ≡ each_keeps exprs text = all-cut_keep (residue t) (each_searched exprs) text are ∙ each-kept exprs text in
    one_test (keeps t text) (has_all text set && each_keeps exprs text)
    (λ kept.
    let both = (required-keep t text).0 kept in
    and_from (has_all text set) (each_keeps exprs text)
    (list_all-from_each (has_word text) set (λ word has. both.0 word ((required word).0 ((Contains-has word set).1 has))))
    (sym left ∙ both.1))
    (λ is.
    let both = and_parts (has_all text set) (each_keeps exprs text) is in
    (required-keep t text).1 (
      λ word asked. each-from_list_all (has_word text) set both.0 word ((Contains-has word set).0 ((required word).1 asked)),
      left ∙ both.1,
    ))

-- several trees, joined
pub joined-none : (ts : Trees) → joined ts no_trees ≡ ts
joined-none no_trees = refl
joined-none (tree t ts) = ap (tree t) (joined-none ts)

pub joined-joined : (ts us vs : Trees) → joined (joined ts us) vs ≡ joined ts (joined us vs)
joined-joined no_trees us vs = refl
joined-joined (tree t ts) us vs = ap (tree t) (joined-joined ts us vs)

-- one factor more
pub residues-push : (before : List Tree) (t : Tree) → residues (trees_of (before ++ t ∷ [])) ≡ joined (residues (trees_of before)) (residue t)
residues-push [] t = joined-none (residue t)
residues-push (b ∷ before) t =
    ap (joined (residue b)) (residues-push before t) ∙ sym (joined-joined (residue b) (residues (trees_of before)) (residue t))

pub requires-push : (before : List Tree) (t : Tree) (word : List ℕ) →
    some_requires (trees_of (before ++ t ∷ [])) word ≡ (some_requires (trees_of before) word || is_required t word)
requires-push [] t word = or-false (is_required t word)
requires-push (b ∷ before) t word =
    ap (λ r. is_required b word || r) (requires-push before t word)
    ∙ sym (or_assoc (is_required b word) (some_requires (trees_of before) word) (is_required t word))

pub sets-push : (sets : List (List (List ℕ))) (set : List (List ℕ)) (word : List ℕ) → in_some (sets ++ set ∷ []) word ≡ (in_some sets word || has set word)
sets-push sets set word = list_any-append (λ s. has s word) sets (set ∷ []) ∙ ap (λ b. in_some sets word || b) (or-false (has set word))

-- what an expression of no or of several terms requires, and what is left of it
pub several : (exprs : List Expr) (word : List ℕ) → length exprs ≢ 1 →
    (is_required (some (trees_of (map tree_of exprs))) word ≡ false)
    × (residue (some (trees_of (map tree_of exprs))) ≡ tree (some (trees_of (map tree_of exprs))) no_trees)
several [] word not_one = (refl, refl)
several (x ∷ []) word not_one = absurd (not_one refl)
several (x ∷ y ∷ exprs) word not_one = (refl, refl)
