-- Configurations by their fields.
use Rattle.std.proofs.Common.{◌≡◌, ℕ, List, [], refl}
use Rattle.funnel_model.specs.declared.config.Config.{Config}
use Rattle.serde_json.specs.Data.{Members}
use Rattle.funnel_stats.specs.Configurations.{config_of, word_counts}
use Rattle.funnel_stats.specs.Values.{number_at, listed_at}
use Rattle.funnel_stats.specs.declared.key.Key.TheVariants.{Passes, Slices, Blocks, MaxRank, Commits, Reserve, OneIn, Snr, Documents, Tail, MaxRows, Private}

abbrev config_by : (passes slices blocks max_rank commits reserve one_in snr documents tail max_rows private : ℕ) (words : List (List ℕ × ℕ)) → Config
config_by passes slices blocks max_rank commits reserve one_in snr documents tail max_rows private words = record {
  passes = passes;
  slices = slices;
  blocks = blocks;
  max_rank = max_rank;
  commits = commits;
  reserve = reserve;
  one_in = one_in;
  snr = snr;
  documents = documents;
  tail = tail;
  max_rows = max_rows;
  private = private;
  words = words;
}

-- a configuration with the numbers of an object
pub config_of-numbers : (object : Members) (passes slices blocks max_rank commits reserve one_in snr documents tail max_rows private : ℕ) (words : List (List ℕ × ℕ))
    → passes ≡ number_at object Passes → slices ≡ number_at object Slices → blocks ≡ number_at object Blocks
    → max_rank ≡ number_at object MaxRank → commits ≡ number_at object Commits → reserve ≡ number_at object Reserve → one_in ≡ number_at object OneIn
    → snr ≡ number_at object Snr → documents ≡ number_at object Documents → tail ≡ number_at object Tail
    → max_rows ≡ number_at object MaxRows → private ≡ number_at object Private → words ≡ []
    → config_by passes slices blocks max_rank commits reserve one_in snr documents tail max_rows private words ≡ record (config_of object) { words = [] }
unfolding config_of
config_of-numbers object passes slices blocks max_rank commits reserve one_in snr documents tail max_rows private words e₁ e₂ e₃ e₄ e₅ e₆ e₇ e₈ e₉ e₁₀ e₁₁ e₁₂ none =
    rw (e₁, e₂, e₃, e₄, e₅, e₆, e₇, e₈, e₉, e₁₀, e₁₁, e₁₂, none) refl

-- that configuration, with the listed words
pub config_of-words : (object : Members) (config : Config) (words : List (List ℕ × ℕ)) → config ≡ record (config_of object) { words = [] }
    → words ≡ word_counts (listed_at object) → record config { words = words } ≡ config_of object
unfolding config_of
config_of-words object config words same listed = rw (same, listed) refl

pub documents_of : (object : Members) (config : Config) → config ≡ record (config_of object) { words = [] } → config.documents ≡ number_at object Documents
unfolding config_of
documents_of object config same = rw same
