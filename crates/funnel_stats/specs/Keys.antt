-- The keys of a configuration.
use Rattle.std.specs.Prelude.{ℕ, Bool, List, [], ◌∷◌, codes, bytes_eq}
use Rattle.std.specs.List.{list_any}
use Rattle.funnel_model.specs.declared.config.TheConstants.{MOST_PASSES, MOST_SLICES, MOST_BLOCKS, MOST_RANK, MOST_COMMITS, MOST_RESERVE, LEAST_ONE_IN, MOST_ONE_IN, MOST_SNR, MOST_DOCUMENTS, MOST_TAIL, MOST_MAX_ROWS, MOST_PRIVATE, MOST_WORDS}
use Rattle.funnel_stats.specs.declared.key.TheConstants.{PASSES, SLICES, BLOCKS, MAX_RANK, COMMITS, RESERVE, ONE_IN, SNR, DOCUMENTS, TAIL, MAX_ROWS, PRIVATE}
use Rattle.funnel_stats.specs.declared.key.Key.{Key}
use Rattle.funnel_stats.specs.declared.key.Key.TheVariants.{Passes, Slices, Blocks, MaxRank, Commits, Reserve, OneIn, Snr, Documents, Tail, MaxRows, Private, Words}
use Rattle.funnel_stats.specs.declared.key.Limits.{Limits}

-- the keys of the statistics, all that a running engine can be given anew
abbrev pub statistic_keys : List Key
statistic_keys = OneIn ∷ Snr ∷ Documents ∷ Tail ∷ MaxRows ∷ Private ∷ Words ∷ []

-- the table of keys
abbrev pub keys : List Key
keys = Passes ∷ Slices ∷ Blocks ∷ MaxRank ∷ Commits ∷ Reserve ∷ statistic_keys

-- the name of a key
abbrev pub name_of : Key → List ℕ
name_of Passes = codes "passes"
name_of Slices = codes "slices"
name_of Blocks = codes "blocks"
name_of MaxRank = codes "max_rank"
name_of Commits = codes "commits"
name_of Reserve = codes "reserve"
name_of OneIn = codes "one_in"
name_of Snr = codes "snr"
name_of Documents = codes "documents"
name_of Tail = codes "tail"
name_of MaxRows = codes "max_rows"
name_of Private = codes "private"
name_of Words = codes "words"

-- the least and the greatest number of a key, and its default
abbrev pub limits : ℕ → ℕ → ℕ → Limits
limits least greatest default = record { least = least; greatest = greatest; default = default }

-- the numbers that a key takes; of `words` the number of entries
abbrev pub range_of : Key → Limits
range_of Passes = limits 1 MOST_PASSES PASSES
range_of Slices = limits 1 MOST_SLICES SLICES
range_of Blocks = limits 1 MOST_BLOCKS BLOCKS
range_of MaxRank = limits 0 MOST_RANK MAX_RANK
range_of Commits = limits 1 MOST_COMMITS COMMITS
range_of Reserve = limits 0 MOST_RESERVE RESERVE
range_of OneIn = limits LEAST_ONE_IN MOST_ONE_IN ONE_IN
range_of Snr = limits 1 MOST_SNR SNR
range_of Documents = limits 1 MOST_DOCUMENTS DOCUMENTS
range_of Tail = limits 0 MOST_TAIL TAIL
range_of MaxRows = limits 1 MOST_MAX_ROWS MAX_ROWS
range_of Private = limits 0 MOST_PRIVATE PRIVATE
range_of Words = limits 0 MOST_WORDS 0

-- one of the keys has this name
abbrev pub is_name : List Key → List ℕ → Bool
is_name known name = list_any (λ key. bytes_eq (name_of key) name) known
