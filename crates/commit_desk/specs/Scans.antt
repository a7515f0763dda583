-- What a find's scan for a search tells of the columns of its slices: the words that the search requires, and what else it asks.
use Rattle.std.specs.Prelude.{◌≡◌, ◌↔◌, ℕ, ◌<◌, ◌&&◌, Bool, true, not, List, ◌++◌, Contains}
use Rattle.std.specs.List.{AllPairs, list_all}
use Rattle.funnel_model.specs.declared.bit_list.Bit.{Bit}
use Rattle.funnel_model.specs.declared.claim.Token.{Token}
use Rattle.funnel_model.specs.declared.config.Config.{Config}
use Rattle.funnel_model.specs.RowWords.{IsCommitted}
use Rattle.funnel_model.specs.Searches.{Searches, AreEachAlike, all_of, each_may, each_sure, has_all, is_kept}
use Rattle.row_layout.specs.AtomReads.{AtomPlan, AtomRead, IsPlanOf, WasReadAs, is_known, is_ruled_out}
use Rattle.row_layout.specs.DocumentBits.{IsDocumentBitIn, bit_of_row}
use Rattle.slice_rule.specs.Seats.{PassState, WasReadUnder}

-- the token with these slices alone
abbrev pub token_of : List ℕ → Token → Token
token_of slices token = record token { slices = slices }

-- the column is one of a slice that the find may read
pub record IsOfToken (columns : ℕ) (token : Token) (candidate : ℕ × ℕ) : Type 0 where
  pub slice : Contains token.slices candidate.0
  pub column : candidate.1 < columns

-- so is each of these
abbrev pub AreOfToken : ℕ → Token → List (ℕ × ℕ) → Type 0
AreOfToken columns token candidates = (candidate : ℕ × ℕ) → Contains candidates candidate → IsOfToken columns token candidate

-- whether a text is one that a search keeps: it has the words that the search requires, and what else is asked keeps it
abbrev pub keeps_text : List (List ℕ) → Searches (List (List ℕ)) → List ℕ → Bool
keeps_text words residue text = has_all text words && is_kept (all_of residue) text

-- all bits that a document with these words sets at the column, under this configuration, are committed, as the pass has seen
abbrev pub HasAllCommitted : Config → PassState → List (List ℕ) → ℕ → ℕ → Type 0
HasAllCommitted config seat words slice column =
    (bit : Bit) → IsDocumentBitIn seat.pool.limits.slice_words config words slice column bit → IsCommitted seat.front slice bit

-- and all of them were read as set, under the find with this number
abbrev pub HasAllRead : Config → PassState → ℕ → List (List ℕ) → ℕ → ℕ → Type 0
HasAllRead config seat number words slice column =
    (bit : Bit) → IsDocumentBitIn seat.pool.limits.slice_words config words slice column bit → WasReadUnder seat number bit

-- an atom was read so at the column under the find with this number: a bit that it read as zero isn't committed, as the pass has seen, and
-- one that it read as set was read under this number
abbrev pub WasReadBy : PassState → ℕ → ℕ → ℕ → AtomPlan → AtomRead → Type 0
WasReadBy seat number slice column =
    WasReadAs (λ bit. IsCommitted seat.front slice bit → ⊥) (WasReadUnder seat number) (bit_of_row seat.pool.limits.slice_words slice column)

-- several searches were read at the column, by the rows of their words under the configuration; by these reads all of them may keep a
-- document there or not, and all are sure to or not
pub record WereRead (config : Config) (seat : PassState) (number slice column : ℕ) (searches : Searches (List (List ℕ))) (may_be sure_is : Bool) : Type 0 where
  pub plans : Searches AtomPlan
  pub planned : AreEachAlike (IsPlanOf config) searches plans
  pub reads : Searches AtomRead
  pub were_read : AreEachAlike (WasReadBy seat number slice column) plans reads
  pub may_is : list_all (λ b. b) (each_may is_ruled_out is_known reads) ≡ may_be
  pub sure_as : list_all (λ b. b) (each_sure is_ruled_out is_known reads) ≡ sure_is

-- A scan for a search was answered so at a column: it is left where all bits of the required words are committed, and where it is left
-- they were read as set, and what else is asked was read too. It is in the first list where that is sure, in the second where it only may
-- be, and else in neither.
pub record IsScannedFor (config : Config) (seat : PassState) (number : ℕ) (words : List (List ℕ)) (residue : Searches (List (List ℕ))) (sure unsure : List (ℕ × ℕ)) (slice column : ℕ) : Type 0 where
  pub is_left : Bool
  pub may_be : Bool
  pub sure_is : Bool
  pub covered : HasAllCommitted config seat words slice column → is_left ≡ true
  pub required : is_left ≡ true → HasAllRead config seat number words slice column
  pub asked : is_left ≡ true → WereRead config seat number slice column residue may_be sure_is
  pub among_sure : Contains sure (slice, column) ↔ ((is_left && sure_is) ≡ true)
  pub among_unsure : Contains unsure (slice, column) ↔ ((is_left && (may_be && not sure_is)) ≡ true)

-- The slices of a token were scanned for a search: the candidates in the two lists are columns that the find may read, each once in its list,
-- and each column of these slices is answered so. The rows of the slices are laid out by the configuration, in the room that each slice of the pool has.
pub record AreScannedFor (config : Config) (seat : PassState) (token : Token) (words : List (List ℕ)) (residue : Searches (List (List ℕ))) (sure unsure : List (ℕ × ℕ)) : Type 0 where
  pub of_token : AreOfToken seat.pool.limits.columns token (sure ++ unsure)
  pub sure_once : AllPairs (λ (candidate other : ℕ × ℕ). candidate ≡ other → ⊥) sure
  pub unsure_once : AllPairs (λ (candidate other : ℕ × ℕ). candidate ≡ other → ⊥) unsure
  pub each : (slice column : ℕ) → Contains token.slices slice → column < seat.pool.limits.columns →
      IsScannedFor config seat token.opened_at words residue sure unsure slice column
