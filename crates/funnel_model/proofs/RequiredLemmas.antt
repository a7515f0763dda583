-- What the form of an expression requires, and what is left of the expression.
use Rattle.std.proofs.Common.{◌≡◌, ◌&&◌, ◌||◌, ℕ, Bool, true, false, List, refl, sym, ap, ◌∙◌, inl, inr}
use Rattle.std.proofs.lemmas.Bool.{and_from, and_parts, false≢true, or_cases, or_left, or_right}
use Rattle.std.proofs.Math.Bool.{and_assoc}
use Rattle.funnel_model.proofs.WordLemmas.{each-from_list_all, list_all-from_each}
use Rattle.funnel_model.specs.Expressions.{Tree, Trees, atom, every, some, contrary, no_trees, tree, keeps, all_keep}
use Rattle.funnel_model.specs.Required.{is_required, some_requires, residue, residues, joined, RequiredWordsAndResidueKeep}
use Rattle.funnel_model.specs.Words.{has_word, words}

-- what two lists of trees keep together
pub all_keep-joined : (ts us : Trees) (text : List ℕ) → all_keep (joined ts us) text ≡ (all_keep ts text && all_keep us text)
all_keep-joined no_trees us text = refl
all_keep-joined (tree t ts) us text =
    ap (λ b. keeps t text && b) (all_keep-joined ts us text) ∙ sym (and_assoc (keeps t text) (all_keep ts text) (all_keep us text))

-- one term keeps what its expression does
one : (b : Bool) → (b || false) ≡ b
one true = refl
one false = refl

-- the text has each word that is required
abbrev HasRequired : Tree → List ℕ → Type 0
HasRequired expr text = (word : List ℕ) → is_required expr word ≡ true → has_word text word ≡ true

abbrev HasSomeRequired : Trees → List ℕ → Type 0
HasSomeRequired ts text = (word : List ℕ) → some_requires ts word ≡ true → has_word text word ≡ true

mutual
  -- a text that is kept has them, and what is left keeps it
  kept-both : (expr : Tree) (text : List ℕ) → keeps expr text ≡ true → HasRequired expr text × (all_keep (residue expr) text ≡ true)
  kept-both (atom query) text kept = (λ word asked. each-from_list_all (has_word text) (words query) kept word asked, refl)
  kept-both (every factors) text kept = all_kept-both factors text kept
  kept-both (some no_trees) text kept = absurd (false≢true kept)
  kept-both (some (tree t no_trees)) text kept = kept-both t text (sym (one (keeps t text)) ∙ kept)
  kept-both (some (tree t (tree u ts))) text kept = (λ word asked. absurd (false≢true asked), and_from _ true kept refl)
  kept-both (contrary factor) text kept = (λ word asked. absurd (false≢true asked), and_from _ true kept refl)

  all_kept-both : (ts : Trees) (text : List ℕ) → all_keep ts text ≡ true → HasSomeRequired ts text × (all_keep (residues ts) text ≡ true)
  all_kept-both no_trees text kept = (λ word asked. absurd (false≢true asked), refl)
  all_kept-both (tree t ts) text kept =
      let both : (keeps t text ≡ true) × (all_keep ts text ≡ true) = and_parts (keeps t text) (all_keep ts text) kept in
      let here = kept-both t text both.0 in
      let later = all_kept-both ts text both.1 in (
        λ word asked. elim (or_cases (is_required t word) (some_requires ts word) asked) [
          | inl first ↦ here.0 word first
          | inr other ↦ later.0 word other
        ],
        all_keep-joined (residue t) (residues ts) text ∙ and_from (all_keep (residue t) text) (all_keep (residues ts) text) here.1 later.1,
      )

mutual
  -- and a text that has them and that what is left keeps is kept
  both-kept : (expr : Tree) (text : List ℕ) → HasRequired expr text → all_keep (residue expr) text ≡ true → keeps expr text ≡ true
  both-kept (atom query) text has left = list_all-from_each (has_word text) (words query) has
  both-kept (every factors) text has left = both-all_kept factors text has left
  both-kept (some no_trees) text has left = (and_parts false true left).0
  both-kept (some (tree t no_trees)) text has left = one (keeps t text) ∙ both-kept t text has left
  both-kept (some (tree t (tree u ts))) text has left = (and_parts _ true left).0
  both-kept (contrary factor) text has left = (and_parts _ true left).0

  both-all_kept : (ts : Trees) (text : List ℕ) → HasSomeRequired ts text → all_keep (residues ts) text ≡ true → all_keep ts text ≡ true
  both-all_kept no_trees text has left = refl
  both-all_kept (tree t ts) text has left =
      let both = and_parts (all_keep (residue t) text) (all_keep (residues ts) text) (sym (all_keep-joined (residue t) (residues ts) text) ∙ left) in
      and_from (keeps t text) (all_keep ts text)
      (both-kept t text (λ word asked. has word (or_left (is_required t word) (some_requires ts word) asked)) both.0)
      (both-all_kept ts text (λ word asked. has word (or_right (is_required t word) (some_requires ts word) asked)) both.1)

pub required-keep : RequiredWordsAndResidueKeep
required-keep expr text = (λ kept. kept-both expr text kept, λ both. both-kept expr text both.0 both.1)
