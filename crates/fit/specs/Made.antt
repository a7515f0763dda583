-- What a configuration is made of, for the clauses of functions that are not public.
use Rattle.std.specs.Prelude.{◌≡◌, ◌⊎◌, ◌+◌, ◌-◌, ◌*◌, ◌<◌, ◌≤◌, ℕ, List, All, length, map, take, string_bytes}
use Rattle.std.specs.List.{IsDistinct}
use Rattle.std.specs.Str.{IsUtf8, bytes_eq}
use Rattle.funnel_io.specs.declared.line_reader.TheConstants.{MAX_LINE_LEN}
use Rattle.funnel_model.specs.Configuration.{IsBetween, IsInRange}
use Rattle.funnel_model.specs.declared.config.TheConstants.{MOST_DOCUMENTS, MOST_SLICES, MOST_WORDS}
use Rattle.serde_json.specs.Data.{object}
use Rattle.serde_json.specs.Read.{read}
use Rattle.funnel_stats.specs.Configurations.{longest}
use Rattle.std.specs.Prelude.{Some}
use Rattle.std.specs.List.Sorted.{IsPermutation}
use Rattle.funnel_model.specs.Listed.{IsInByteOrder}
use Rattle.funnel_model.specs.declared.config.Config.{Config}
use Rattle.fit.specs.Fits.{HasDefaults}
use Rattle.fit.specs.Listings.{IsRanking, IsTail}
use Rattle.fit.specs.Privates.{IsPrivateClass}
use Rattle.fit.specs.Shapes.{IsBestRank, IsLeastRoom, columns_at}
use Rattle.fit.specs.Tallies.{total}
use Rattle.fit.specs.Texts.{members_of, text_of}
use Rattle.fit.specs.declared.listing.Frame.{Frame}
use Rattle.fit.specs.declared.listing.Written.{Written}

-- the configuration has the frame's numbers, and lists these words
pub record IsMade (frame : Frame) (first : List (List ℕ × ℕ)) (config : Config) : Type 0 where
  pub defaults : HasDefaults config
  pub rank : config.max_rank ≡ frame.rank
  pub slices : config.slices ≡ frame.slices
  pub reserve : config.reserve ≡ columns_at frame.rank
  pub documents : config.documents ≡ frame.documents
  pub words : IsPermutation first config.words
  pub order : IsInByteOrder config.words
  pub tail : IsTail (frame.words - total config.words) frame.documents config.tail
  pub private : IsPrivateClass frame.documents config.words config.private

-- the frame's numbers are in their ranges
pub record IsSound (frame : Frame) : Type 0 where
  pub low : frame.rank ≤ 6
  pub some_slices : IsBetween 1 MOST_SLICES frame.slices
  pub corpus : IsBetween 1 MOST_DOCUMENTS frame.documents
  pub few_words : frame.words ≤ frame.documents * MAX_LINE_LEN

-- these words can be listed: each once, with a count of the corpus, and not more than it has
pub record CanBeListed (frame : Frame) (words : List (List ℕ × ℕ)) : Type 0 where
  pub once : IsDistinct bytes_eq (map (λ entry. entry.0) words)
  pub counted : All (λ entry. IsBetween 1 frame.documents entry.1) words
  pub within : total words ≤ frame.words

-- the configuration lists these words, and this is its text
pub record IsWrittenFor (frame : Frame) (first : List (List ℕ × ℕ)) (written : Written) : Type 0 where
  pub made : IsMade frame first written.config
  pub in_range : IsInRange written.config
  pub is_text : string_bytes written.text ≡ text_of written.config
  pub utf8 : IsUtf8 (text_of written.config)
  pub read_back : read (text_of written.config) ≡ Some (object (members_of written.config))

-- with so many words the text would be too long
pub record IsTooLong (frame : Frame) (ranking : List (List ℕ × ℕ)) (count : ℕ) : Type 0 where
  pub within : count ≤ length ranking
  pub config : Config
  pub made : IsMade frame (take count ranking) config
  pub long : longest < length (text_of config)

-- as many words of the ranking are listed as may be
pub record ListsAll (frame : Frame) (ranking : List (List ℕ × ℕ)) (written : Written) : Type 0 where
  pub count : ℕ
  pub within : count ≤ length ranking
  pub few : count ≤ MOST_WORDS
  pub is : IsWrittenFor frame (take count ranking) written
  pub short : length (text_of written.config) ≤ longest
  pub full : (count ≡ MOST_WORDS) ⊎ ((count ≡ length ranking) ⊎ IsTooLong frame ranking (count + 1))

-- the frame is that of a tally: each word has a count of the corpus, and these make the words of the frame
pub record IsOfSample (frame : Frame) (tally : List (List ℕ × ℕ)) : Type 0 where
  pub once : IsDistinct bytes_eq (map (λ entry. entry.0) tally)
  pub counted : All (λ entry. IsBetween 1 frame.documents entry.1) tally
  pub together : frame.words ≡ total tally

-- as many words of the tally are listed as may be
pub record ListsSample (frame : Frame) (tally : List (List ℕ × ℕ)) (written : Written) : Type 0 where
  pub ranking : List (List ℕ × ℕ)
  pub ranked : IsRanking frame.documents tally ranking
  pub lists : ListsAll frame ranking written

-- the frame of a configuration for n documents, of a sample of so many texts and words
pub record IsFrameOf (n documents words : ℕ) (frame : Frame) : Type 0 where
  pub sound : IsSound frame
  pub best : IsBestRank n frame.rank
  pub least : IsLeastRoom n frame.rank frame.slices
  pub corpus : frame.documents ≡ documents
  pub together : frame.words ≡ words
