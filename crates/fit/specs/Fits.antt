-- The configuration for n documents that is fitted to texts.
use Rattle.std.specs.Prelude.{◌≡◌, ◌⊎◌, ◌<◌, ◌≤◌, ◌-◌, ◌+◌, ℕ, List, length, take}
use Rattle.std.specs.List.Sorted.{IsPermutation}
use Rattle.funnel_model.specs.Listed.{IsInByteOrder}
use Rattle.funnel_model.specs.declared.config.Config.{Config}
use Rattle.funnel_model.specs.declared.config.TheConstants.{MOST_PASSES, MOST_WORDS}
use Rattle.funnel_stats.specs.Configurations.{longest}
use Rattle.funnel_stats.specs.Keys.{range_of}
use Rattle.funnel_stats.specs.declared.key.Key.TheVariants.{Blocks, Commits, OneIn, Snr, MaxRows}
use Rattle.fit.specs.Tallies.{IsTally, total}
use Rattle.fit.specs.Shapes.{IsBestRank, IsLeastRoom, columns_at}
use Rattle.fit.specs.Listings.{IsRanking, IsTail}
use Rattle.fit.specs.Privates.{IsPrivateClass}
use Rattle.fit.specs.Texts.{text_of}

-- as many passes as there may be, and the default of each key that is never written
pub record HasDefaults (config : Config) : Type 0 where
  pub passes : config.passes ≡ MOST_PASSES
  pub blocks : config.blocks ≡ (range_of Blocks).default
  pub commits : config.commits ≡ (range_of Commits).default
  pub one_in : config.one_in ≡ (range_of OneIn).default
  pub snr : config.snr ≡ (range_of Snr).default
  pub max_rows : config.max_rows ≡ (range_of MaxRows).default

-- the slices have room for n documents that are replaced in any order, with the columns of one slice kept free
pub record HasShape (n : ℕ) (config : Config) : Type 0 where
  pub rank : IsBestRank n config.max_rank
  pub slices : IsLeastRoom n config.max_rank config.slices
  pub reserve : config.reserve ≡ columns_at config.max_rank

-- the first words of a ranking are listed, and `tail` is the mean of a text's other words
pub record ListsFirst (documents : ℕ) (tally ranking : List (List ℕ × ℕ)) (count : ℕ) (config : Config) : Type 0 where
  pub within : count ≤ length ranking
  pub words : IsPermutation (take count ranking) config.words
  pub order : IsInByteOrder config.words
  pub corpus : config.documents ≡ documents
  pub tail : IsTail (total tally - total config.words) documents config.tail

-- the configuration for n documents that lists the first so many words
pub record HasFirst (n documents : ℕ) (tally ranking : List (List ℕ × ℕ)) (count : ℕ) (config : Config) : Type 0 where
  pub defaults : HasDefaults config
  pub shape : HasShape n config
  pub private : IsPrivateClass documents config.words config.private
  pub lists : ListsFirst documents tally ranking count config

-- no more words may be listed: they are as many as may be, or all, or with the next one the text would be too long
abbrev pub IsFull : ℕ → ℕ → List (List ℕ × ℕ) → List (List ℕ × ℕ) → ℕ → Type 0
IsFull n documents tally ranking count = (count ≡ MOST_WORDS) ⊎ ((count ≡ length ranking)
    ⊎ ((next : Config) × HasFirst n documents tally ranking (count + 1) next × (longest < length (text_of next))))

-- as many words are listed as may be, and as the text has room for
pub record ListsMost (n documents : ℕ) (tally ranking : List (List ℕ × ℕ)) (config : Config) : Type 0 where
  pub count : ℕ
  pub first : HasFirst n documents tally ranking count config
  pub few : count ≤ MOST_WORDS
  pub short : length (text_of config) ≤ longest
  pub full : IsFull n documents tally ranking count

-- the configuration for n documents that is fitted to the texts
pub record IsFit (n : ℕ) (texts : List (List ℕ)) (config : Config) : Type 0 where
  pub tally : List (List ℕ × ℕ)
  pub tallied : IsTally texts tally
  pub ranking : List (List ℕ × ℕ)
  pub ranked : IsRanking (length texts) tally ranking
  pub most : ListsMost n (length texts) tally ranking config
