-- The pieces of a query string, one after the other.
use Rattle.std.proofs.Common.{◌≡◌, ℕ, ◌+◌, ◌<◌, Bor, List, [], ◌∷◌, length, Option, Some, None, MatchOption, option_and_then, ap, ◌∙◌, arith, length-drop}
use Rattle.std.specs.List.{after_first, before_first, position_or_len, slice_split}
use Rattle.std.proofs.lemmas.List.Splits.{slice_split_first, slice_split_none}
use Rattle.std.proofs.lemmas.List.Sums.{fails_before_first}
use Rattle.http_front.specs.Routes.{Keys, is_ampersand, keys_in, keys_seen, with_piece, with_pieces}
use Rattle.http_front.specs.declared.keys.Keys.{Keys as Parsed}

-- bytes without an ampersand are the one piece
one_piece : (text : List ℕ) → position_or_len is_ampersand text ≡ length text → slice_split is_ampersand text ≡ text ∷ []
one_piece text none = slice_split_none is_ampersand text (λ k d less. fails_before_first is_ampersand text k d (omega (arith, none, less)))

-- what stands on both sides of the first ampersand
abbrev IsSplit : List ℕ → Option (Bor (List ℕ) × Bor (List ℕ)) → Type 0
IsSplit text r =
    MatchOption r (position_or_len is_ampersand text ≡ length text)
    (λ x. (x.0.now ≡ before_first is_ampersand text) × (x.1.now ≡ after_first is_ampersand text) × (position_or_len is_ampersand text < length text))

-- are the first piece and the text of the others
pub first_piece : (text : List ℕ) (r : Option (Bor (List ℕ) × Bor (List ℕ))) → IsSplit text r
    → MatchOption r (slice_split is_ampersand text ≡ text ∷ [])
    (λ x. (slice_split is_ampersand text ≡ x.0.now ∷ slice_split is_ampersand x.1.now) × (length x.1.now < length text))
first_piece text None none = one_piece text none
first_piece text (Some x) parts = (
  rw (parts.0, parts.1) (slice_split_first is_ampersand text 0 parts.2),
  omega (arith, ap length parts.1, length-drop (position_or_len is_ampersand text + 1) text, parts.2),
)

-- the keys of a piece, and then those of the others
module _ (query left piece rest : List ℕ) (keys : Keys) (so_far : keys_in query ≡ with_pieces keys (slice_split is_ampersand left)) where
  pub one_more : (more : Keys) → slice_split is_ampersand left ≡ piece ∷ slice_split is_ampersand rest → with_piece keys piece ≡ Some more
      → keys_in query ≡ with_pieces more (slice_split is_ampersand rest)
  one_more more split is = so_far ∙ ap (with_pieces keys) split ∙ ap (option_and_then (λ (k : Keys). with_pieces k (slice_split is_ampersand rest))) is

  pub none_more : slice_split is_ampersand left ≡ piece ∷ slice_split is_ampersand rest → with_piece keys piece ≡ None → keys_in query ≡ None
  none_more split is = so_far ∙ ap (with_pieces keys) split ∙ ap (option_and_then (λ (k : Keys). with_pieces k (slice_split is_ampersand rest))) is

-- and those of the last piece
pub last_one : (query left : List ℕ) (keys : Keys) (r : Option Parsed) → keys_in query ≡ with_pieces keys (slice_split is_ampersand left)
    → slice_split is_ampersand left ≡ left ∷ [] → MatchOption r (with_piece keys left ≡ None) (λ more. with_piece keys left ≡ Some (keys_seen more))
    → MatchOption r (keys_in query ≡ None) (λ more. keys_in query ≡ Some (keys_seen more))
last_one query left keys None so_far split is = so_far ∙ ap (with_pieces keys) split ∙ ap (option_and_then (λ (k : Keys). with_pieces k [])) is
last_one query left keys (Some more) so_far split is = so_far ∙ ap (with_pieces keys) split ∙ ap (option_and_then (λ (k : Keys). with_pieces k [])) is
