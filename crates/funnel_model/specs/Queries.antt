-- The grammar of boolean queries: the tokens of a text, the tokens of an expression, and where a text that is none is refused.
use Rattle.std.specs.Prelude.{ℕ, ◌+◌, ◌≡◌, ◌≤◌, ◌==◌, ◌||◌, ◌⊎◌, Bool, true, false, not, List, [], ◌∷◌, ◌++◌, length, map, if◌then◌else◌}
use Rattle.std.specs.List.{take_while, AllByRecursion}
use Rattle.funnel_model.specs.declared.expr.TheConstants.{MOST_OPEN}
use Rattle.funnel_model.specs.Expressions.{Tree, Trees, atom, every, some, contrary, no_trees, tree}

-- `|`, `(`, `)`, `-`, or an atom with its bytes
pub data Token : Type 0 where
  bar : Token
  left : Token
  right : Token
  minus : Token
  word : List ℕ → Token

-- a token, and the byte of the text at which it starts
pub record Placed : Type 0 where
  pub at : ℕ
  pub token : Token

-- a space, `|`, `(` or `)`: an atom ends before it
abbrev pub ends_atom : ℕ → Bool
ends_atom byte = byte == 32 || byte == 124 || byte == 40 || byte == 41

-- an atom has the bytes up to the first that ends it
abbrev pub atom_bytes : List ℕ → List ℕ
atom_bytes bytes = take_while (λ byte. not (ends_atom byte)) bytes

-- a token at this place, before those of the rest
abbrev pub put : ℕ → Token → List Placed → List Placed
put at token rest = record { at = at; token = token } ∷ rest

-- the tokens of the bytes from a place on; within an atom, which began before that place, those behind it
unfoldable pub tokens_from : Bool → ℕ → List ℕ → List Placed
tokens_from within at [] = []
tokens_from within at (byte ∷ rest) =
    if byte == 32 then tokens_from false (at + 1) rest
    else if byte == 124 then put at bar (tokens_from false (at + 1) rest)
    else if byte == 40 then put at left (tokens_from false (at + 1) rest)
    else if byte == 41 then put at right (tokens_from false (at + 1) rest)
    else if within then tokens_from true (at + 1) rest
    else if byte == 45 then put at minus (tokens_from false (at + 1) rest)
    else put at (word (byte ∷ atom_bytes rest)) (tokens_from true (at + 1) rest)

-- the tokens of a text, in order
abbrev pub tokens : List ℕ → List Placed
tokens text = tokens_from false 0 text

abbrev pub kinds : List Placed → List Token
kinds placed = map (λ p. p.token) placed

-- a token of an expression, and the number of parentheses and minus signs that are open at it, itself included
pub record Spelled : Type 0 where
  pub token : Token
  pub level : ℕ

abbrev mutual
  -- the tokens of a factor where so many levels are open: an atom, a minus and a factor, or an expression in parentheses;
  -- and those of a term, which are its factors' in order
  pub spelled : ℕ → Tree → List Spelled
  spelled level (atom bytes) = record { token = word bytes; level = level } ∷ []
  spelled level (contrary factor) = record { token = minus; level = level + 1 } ∷ spelled (level + 1) factor
  spelled level (some terms) =
      record { token = left; level = level + 1 } ∷ (parted (level + 1) terms ++ record { token = right; level = level + 1 } ∷ [])
  spelled level (every factors) = in_order level factors

  pub in_order : ℕ → Trees → List Spelled
  in_order level no_trees = []
  in_order level (tree factor factors) = spelled level factor ++ in_order level factors

  -- the tokens of an expression: its terms' in order, parted by `|`
  pub parted : ℕ → Trees → List Spelled
  parted level no_trees = []
  parted level (tree term terms) = spelled level term ++ behind_bars level terms

  pub behind_bars : ℕ → Trees → List Spelled
  behind_bars level no_trees = []
  behind_bars level (tree term terms) = record { token = bar; level = level } ∷ (spelled level term ++ behind_bars level terms)

abbrev mutual
  -- a factor is an atom, a minus and a factor, or an expression
  pub IsFactor : Tree → Type 0
  IsFactor (atom bytes) = Unit {0}
  IsFactor (contrary factor) = IsFactor factor
  IsFactor (some terms) = HaveTerms terms
  IsFactor (every factors) = ⊥

  -- a term has one or more factors
  pub IsTerm : Tree → Type 0
  IsTerm (every factors) = HaveFactors factors
  IsTerm (atom bytes) = ⊥
  IsTerm (some terms) = ⊥
  IsTerm (contrary factor) = ⊥

  pub HaveFactors : Trees → Type 0
  HaveFactors no_trees = ⊥
  HaveFactors (tree factor factors) = IsFactor factor × AreFactors factors

  pub AreFactors : Trees → Type 0
  AreFactors no_trees = Unit {0}
  AreFactors (tree factor factors) = IsFactor factor × AreFactors factors

  -- an expression has one or more terms
  pub HaveTerms : Trees → Type 0
  HaveTerms no_trees = ⊥
  HaveTerms (tree term terms) = IsTerm term × AreTerms terms

  pub AreTerms : Trees → Type 0
  AreTerms no_trees = Unit {0}
  AreTerms (tree term terms) = IsTerm term × AreTerms terms

-- the expression of these terms has these tokens
pub record IsExpression (terms : Trees) (spelling : List Spelled) : Type 0 where
  pub terms_of : HaveTerms terms
  pub spells : parted 0 terms ≡ spelling

abbrev pub tokens_of : List Spelled → List Token
tokens_of spelling = map (λ s. s.token) spelling

-- at none of the tokens more levels are open than may be
abbrev pub AreShallow : List Spelled → Type 0
AreShallow spelling = AllByRecursion (λ s. s.level ≤ MOST_OPEN) spelling

-- the text is the query of the expression: it has its tokens, of which none opens a 65th level
pub record IsQuery (text : List ℕ) (expr : Tree) : Type 0 where
  pub terms : Trees
  pub expression : expr ≡ some terms
  pub spelling : List Spelled
  pub spells : IsExpression terms spelling
  pub same : tokens_of spelling ≡ kinds (tokens text)
  pub shallow : AreShallow spelling

-- the tokens of some expression begin with these
pub record IsFront (front : List Token) : Type 0 where
  pub terms : Trees
  pub spelling : List Spelled
  pub spells : IsExpression terms spelling
  pub rest : List Token
  pub begins : tokens_of spelling ≡ front ++ rest

-- the token at this byte is the first that can't stand where it does: no expression's tokens begin with those up to and with it
pub record IsMisplaced (text : List ℕ) (at : ℕ) : Type 0 where
  pub before : List Placed
  pub token : Token
  pub after : List Placed
  pub split : tokens text ≡ before ++ put at token after
  pub front : IsFront (kinds before)
  pub no_front : IsFront (kinds before ++ token ∷ []) → ⊥

-- the text ends too early: its tokens are no expression's, and some expression's begin with them
pub record IsCut (text : List ℕ) (at : ℕ) : Type 0 where
  pub end : at ≡ length text
  pub front : IsFront (kinds (tokens text))
  pub no_expression : (terms : Trees) (spelling : List Spelled) → IsExpression terms spelling → tokens_of spelling ≡ kinds (tokens text) → ⊥

-- the token at this byte is the first that opens a 65th level, in an expression whose tokens begin with those up to and with it
pub record IsTooDeep (text : List ℕ) (at : ℕ) : Type 0 where
  pub before : List Placed
  pub token : Token
  pub after : List Placed
  pub split : tokens text ≡ before ++ put at token after
  pub terms : Trees
  pub front : List Spelled
  pub opening : Spelled
  pub rest : List Spelled
  pub spells : IsExpression terms (front ++ opening ∷ rest)
  pub same : tokens_of front ≡ kinds before
  pub opens : opening.token ≡ token
  pub deep : opening.level ≡ MOST_OPEN + 1
  pub shallow : AreShallow front

-- a text that is no query for its grammar: a token is misplaced, or the text ends too early, and no token before opens a 65th level
pub record IsMalformed (text : List ℕ) (at : ℕ) : Type 0 where
  pub cause : IsMisplaced text at ⊎ IsCut text at
  pub not_deep : (deep : ℕ) → IsTooDeep text deep → ⊥
