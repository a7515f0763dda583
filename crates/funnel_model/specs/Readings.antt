-- What was read of a query, token by token: the levels that are open, each with its complete terms and factors.
use Rattle.std.specs.Prelude.{ℕ, zero, suc, ◌+◌, ◌≡◌, ◌<◌, List, [], ◌∷◌, ◌++◌, length}
use Rattle.funnel_model.specs.Expressions.{Tree, atom, every, some, contrary, trees_of}
use Rattle.funnel_model.specs.Queries.{Token, bar, left, right, minus, word, Spelled}

-- the whole query or an open parenthesis: its terms that are complete, the factors of the next one, and the minus signs behind them
pub record Level : Type 0 where
  pub terms : List Tree
  pub factors : List Tree
  pub minuses : ℕ

-- the level in which the next token stands, and those around it from the inside
pub record Reading : Type 0 where
  pub inner : Level
  pub outer : List Level

abbrev pub fresh : Level
fresh = record { terms = []; factors = []; minuses = 0 }

-- nothing was read
abbrev pub start : Reading
start = record { inner = fresh; outer = [] }

-- a factor behind so many minus signs
abbrev pub signed : ℕ → Tree → Tree
signed zero factor = factor
signed (suc n) factor = signed n (contrary factor)

-- the level with a factor more, to which its minus signs belong
abbrev pub with_factor : Level → Tree → Level
with_factor level factor = record { terms = level.terms; factors = level.factors ++ signed level.minuses factor ∷ []; minuses = 0 }

-- its terms with the one of its factors
abbrev pub terms_with_last : Level → List Tree
terms_with_last level = level.terms ++ every (trees_of level.factors) ∷ []

-- a factor was just completed
pub record IsComplete (level : Level) : Type 0 where
  pub unsigned : level.minuses ≡ 0
  pub any : 0 < length level.factors

-- the innermost parenthesis becomes a factor of the level around it
abbrev pub Closes : Level → List Level → Reading → Type 0
Closes inner [] after = ⊥
Closes inner (level ∷ outer) after = after ≡ record { inner = with_factor level (some (trees_of (terms_with_last inner))); outer = outer }

-- the token can come next, and what was read with it
abbrev pub Takes : Reading → Token → Reading → Type 0
Takes before (word bytes) after = after ≡ record { inner = with_factor before.inner (atom bytes); outer = before.outer }
Takes before minus after =
    after ≡ record { inner = record { terms = before.inner.terms; factors = before.inner.factors; minuses = before.inner.minuses + 1 }; outer = before.outer }
Takes before left after = after ≡ record { inner = fresh; outer = before.inner ∷ before.outer }
Takes before bar after =
    IsComplete before.inner × (after ≡ record { inner = record { terms = terms_with_last before.inner; factors = []; minuses = 0 }; outer = before.outer })
Takes before right after = IsComplete before.inner × Closes before.inner before.outer after

-- how many levels are open around the innermost parenthesis, itself included
abbrev pub opened_around : List Level → ℕ
opened_around [] = 0
opened_around (level ∷ outer) = opened_around outer + level.minuses + 1

-- how many parentheses and minus signs are open
abbrev pub opened : Reading → ℕ
opened reading = opened_around reading.outer + reading.inner.minuses

-- and how many are with the next token
abbrev pub level_at : Reading → Token → ℕ
level_at reading (word bytes) = opened reading
level_at reading bar = opened reading
level_at reading right = opened reading
level_at reading left = opened reading + 1
level_at reading minus = opened reading + 1

-- the tokens lead from one reading to the other, at these levels
abbrev pub Reads : Reading → List Spelled → Reading → Type 0
Reads before [] after = before ≡ after
Reads before (s ∷ spelling) after =
    (s.level ≡ level_at before s.token) × (next : Reading) × Takes before s.token next × Reads next spelling after
