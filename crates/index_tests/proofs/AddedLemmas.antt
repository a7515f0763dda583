-- What a map of columns has after one number was added or removed.
use Rattle.std.proofs.Common.{◌≡◌, ℕ, cond, eqb, Option, Some, None, sym, ap, ◌∙◌, ⊎_elim}
use Rattle.std.proofs.lemmas.Bool.{cases_eq, cond-true, cond-false, eq-eqb, ne_eqb}

abbrev pair : Option (ℕ × ℕ) → ℕ × ℕ
pair None = (0, 0)
pair (Some p) = p

-- two pairs with another part each are not one
pub pairs-differ : (a b c d : ℕ) → (a ≡ c → b ≡ d → ⊥) → ◌≡◌ {A = Option (ℕ × ℕ)} (Some (a, b)) (Some (c, d)) → ⊥
pairs-differ a b c d differ same = differ (ap (λ o. (pair o).0) same) (ap (λ o. (pair o).1) same)

-- a column that no number has, where a number was added in another
pub free-after : (m n : ℕ → Option (ℕ × ℕ)) (id : ℕ) (p q : ℕ × ℕ) → ((other : ℕ) → n other ≡ cond (eqb other id) (Some p) (m other)) →
    (◌≡◌ {A = Option (ℕ × ℕ)} (Some p) (Some q) → ⊥) → ((other : ℕ) → m other ≡ Some q → ⊥) → (other : ℕ) → n other ≡ Some q → ⊥
free-after m n id p q are differ free other there =
    ⊎_elim
    (λ (same : other ≡ id). differ (sym (are other ∙ cond-true (eqb other id) (Some p) (m other) (eq-eqb other id same)) ∙ there))
    (λ (ne : other ≡ id → ⊥). free other (sym (are other ∙ cond-false (eqb other id) (Some p) (m other) (ne_eqb other id ne)) ∙ there))
    (cases_eq other id)

-- a number that has no column, where another changed
pub absent-after : (m n : ℕ → Option (ℕ × ℕ)) (id : ℕ) (o : Option (ℕ × ℕ)) (other : ℕ) → ((other : ℕ) → n other ≡ cond (eqb other id) o (m other)) →
    (other ≡ id → ⊥) → m other ≡ None → n other ≡ None
absent-after m n id o other are ne none = are other ∙ cond-false (eqb other id) o (m other) (ne_eqb other id ne) ∙ none

-- no other number has a column, where one was removed
pub gone-after : (m n : ℕ → Option (ℕ × ℕ)) (id other : ℕ) → ((other : ℕ) → n other ≡ cond (eqb other id) None (m other)) →
    ((other ≡ id → ⊥) → m other ≡ None) → n other ≡ None
gone-after m n id other are rest =
    ⊎_elim
    (λ (same : other ≡ id). are other ∙ cond-true (eqb other id) None (m other) (eq-eqb other id same))
    (λ (ne : other ≡ id → ⊥). are other ∙ cond-false (eqb other id) None (m other) (ne_eqb other id ne) ∙ rest ne)
    (cases_eq other id)
