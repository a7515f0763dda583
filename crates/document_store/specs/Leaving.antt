-- Columns that are over and whose documents are kept still: for finds that may ask for them, or until they are freed. A column is a number
-- among those of all slices.
use Rattle.std.specs.Prelude.{ℕ, zero, suc, ◌+◌, ◌≡◌, ◌<◌, ◌≤◌, ◌==◌, ◌↔◌, ◌⊎◌, nat_lt, if◌then◌else◌, List, [], ◌∷◌, ◌++◌, length, map, slice_index_or, slice_set, count_by, sum_by}

-- for each pass the columns for whose documents its find may ask, with the one first that was put there last; the columns whose documents are
-- to be freed, in their order; and how many columns there are
pub record LeavingState : Type 0 where
  pub asked : List (List ℕ)
  pub to_free : List ℕ
  pub columns : ℕ

-- the columns that are kept for a pass
abbrev pub kept_for : LeavingState → ℕ → List ℕ
kept_for leaving pass = slice_index_or leaving.asked pass []

-- how many times a column is on a list
abbrev pub times_in : ℕ → List ℕ → ℕ
times_in column columns = count_by (λ other. column == other) columns

-- and on all lists
abbrev pub times_on : LeavingState → ℕ → ℕ
times_on leaving column = sum_by (times_in column) leaving.asked + times_in column leaving.to_free

-- the column is on one of the lists
abbrev pub IsLeaving : LeavingState → ℕ → Type 0
IsLeaving leaving column = 1 ≤ times_on leaving column

-- one more column is kept for a pass
abbrev pub with_kept : LeavingState → ℕ → ℕ → LeavingState
with_kept leaving pass column = record leaving { asked = slice_set leaving.asked pass (column ∷ kept_for leaving pass) }

-- the find of a pass has ended: the columns that were kept for it are to be freed, before those that were so
abbrev pub with_ended : LeavingState → ℕ → LeavingState
with_ended leaving pass = record leaving { asked = slice_set leaving.asked pass []; to_free = kept_for leaving pass ++ leaving.to_free }

-- the first column that is to be freed is taken off
pub record TakesFirst (before : LeavingState) (first : ℕ) (after : LeavingState) : Type 0 where
  pub was : before.to_free ≡ first ∷ after.to_free
  pub asked : after.asked ≡ before.asked
  pub columns : after.columns ≡ before.columns

-- How these lists are laid out: for each column the next one of its list. These are the links of the last column of a list and of one that
-- is on none.
abbrev pub last_link : ℕ
last_link = 4294967295

abbrev pub no_link : ℕ
no_link = 4294967294

abbrev pub link_of : List ℕ → ℕ → ℕ
link_of links column = slice_index_or links column last_link

-- the last column of a list that is begun with another, where these are the first and the last one before
abbrev pub last_with : (first column last : ℕ) → ℕ
last_with first column last = if first == last_link then column else last

-- at most so many columns, from this one on by the links
abbrev pub list_from : (links : List ℕ) → ℕ → ℕ → List ℕ
list_from links from zero = []
list_from links from (suc n) = if nat_lt from (length links) then from ∷ list_from links (link_of links from) n else []

-- these are the columns from this one on by the links, up to a last one
abbrev pub IsListFrom : List ℕ → ℕ → List ℕ → Type 0
IsListFrom links from [] = from ≡ last_link
IsListFrom links from (column ∷ later) = (from ≡ column) × (column < length links) × IsListFrom links (link_of links column) later

-- the last of these columns, where there is one
abbrev pub IsLastOf : List ℕ → ℕ → Type 0
IsLastOf columns last = (columns ≡ []) ⊎ ((front : List ℕ) × (columns ≡ front ++ last ∷ []))

-- the lists that the links lay out, where these are the first columns of the passes' lists and of the one of columns that are to be freed
abbrev pub leaving_by : List ℕ → List ℕ → ℕ → LeavingState
leaving_by links first free = record {
  asked = map (λ from. list_from links from (length links)) first;
  to_free = list_from links free (length links);
  columns = length links;
}

-- the links lay out these lists, whose last columns are known, and each column is on one of them at most
pub record AreLinked (links first last : List ℕ) (free : ℕ) (leaving : LeavingState) : Type 0 where
  pub few : length links ≤ no_link
  pub columns_are : leaving.columns ≡ length links
  pub passes_are : length leaving.asked ≡ length first
  pub lasts_are : length last ≡ length first
  pub asked : (pass : ℕ) → pass < length first → IsListFrom links (slice_index_or first pass last_link) (kept_for leaving pass)
  pub ends : (pass : ℕ) → pass < length first → IsLastOf (kept_for leaving pass) (slice_index_or last pass last_link)
  pub to_free : IsListFrom links free leaving.to_free
  pub once : (column : ℕ) → times_on leaving column ≤ 1
  pub nowhere : (column : ℕ) → column < length links → (link_of links column ≡ no_link) ↔ (times_on leaving column ≡ 0)
