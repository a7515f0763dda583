-- The words that every text must have which an expression keeps, by its form, and what is left of the expression.
use Rattle.std.specs.Prelude.{◌≡◌, ℕ, ◌||◌, ◌↔◌, Bool, true, false, List, Contains}
use Rattle.funnel_model.specs.Expressions.{Tree, Trees, atom, every, some, contrary, no_trees, tree, all_keep, keeps}
use Rattle.funnel_model.specs.Searches.{Search, Searches, all_of, some_of, not_of, atom_of, no_entries, entry}
use Rattle.funnel_model.specs.Words.{has_word}

abbrev mutual
  -- whether the form of an expression requires a word: an atom those that it has, a term those of its factors, and an expression
  -- of one term those of that; several terms and a minus require none
  pub is_required : Tree → List ℕ → Bool
  is_required (atom query) word = has_word query word
  is_required (every factors) word = some_requires factors word
  is_required (some (tree term no_trees)) word = is_required term word
  is_required (some no_trees) word = false
  is_required (some (tree _ (tree _ _))) word = false
  is_required (contrary factor) word = false

  pub some_requires : Trees → List ℕ → Bool
  some_requires no_trees word = false
  some_requires (tree t ts) word = is_required t word || some_requires ts word

-- these trees, and then those
abbrev pub joined : Trees → Trees → Trees
joined no_trees others = others
joined (tree t ts) others = tree t (joined ts others)

abbrev mutual
  -- what is left of an expression without the atoms whose words it requires: these factors
  pub residue : Tree → Trees
  residue (atom query) = no_trees
  residue (every factors) = residues factors
  residue (some (tree term no_trees)) = residue term
  residue (some no_trees) = tree (some no_trees) no_trees
  residue (some (tree a (tree b terms))) = tree (some (tree a (tree b terms))) no_trees
  residue (contrary factor) = tree (contrary factor) no_trees

  pub residues : Trees → Trees
  residues no_trees = no_trees
  residues (tree t ts) = joined (residue t) (residues ts)

-- the words are those that the form of the expression requires
abbrev pub AreRequired : List (List ℕ) → Tree → Type 0
AreRequired set expr = (word : List ℕ) → Contains set word ↔ (is_required expr word ≡ true)

abbrev mutual
  -- the search that an expression is, whose atoms are texts
  pub search_of : Tree → Search (List ℕ)
  search_of (atom query) = atom_of query
  search_of (every factors) = all_of (searches_of factors)
  search_of (some terms) = some_of (searches_of terms)
  search_of (contrary factor) = not_of (search_of factor)

  pub searches_of : Trees → Searches (List ℕ)
  searches_of no_trees = no_entries
  searches_of (tree t ts) = entry (search_of t) (searches_of ts)

-- A text is kept by an expression exactly where it has each word that the expression requires, and what is left keeps it.
abbrev pub RequiredWordsAndResidueKeep : Type 0
RequiredWordsAndResidueKeep =
    (expr : Tree) (text : List ℕ) → (keeps expr text ≡ true) ↔
    (((word : List ℕ) → is_required expr word ≡ true → has_word text word ≡ true) × (all_keep (residue expr) text ≡ true))
