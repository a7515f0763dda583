-- What bytes are as a configuration.
use Rattle.std.specs.Prelude.{ℕ, List, [], ◌∷◌, map, length, nat_lt, Option, Some, None, Result, Ok, Err, unwrap_or, option_and_then, if◌then◌else◌}
use Rattle.std.specs.Option.{option_or, option_map_or}
use Rattle.std.specs.Str.{is_utf8}
use Rattle.funnel_model.specs.declared.config.Config.{Config}
use Rattle.serde_json.specs.Data.{Data, Members, no_members}
use Rattle.serde_json.specs.Find.{as_object}
use Rattle.serde_json.specs.Read.{read}
use Rattle.funnel_stats.specs.Keys.{keys}
use Rattle.funnel_stats.specs.Values.{entries, whole_number, number_at, listed_at}
use Rattle.funnel_stats.specs.Faults.{unknown_key, bad_value, not_word, word_count, too_many_columns, pool_too_large}
use Rattle.funnel_stats.specs.declared.reading.TheConstants.{LONGEST}
use Rattle.funnel_stats.specs.declared.key.Key.TheVariants.{Passes, Slices, Blocks, MaxRank, Commits, Reserve, OneIn, Snr, Documents, Tail, MaxRows, Private}
use Rattle.funnel_stats.specs.declared.fault.ConfigFault.{ConfigFault}
use Rattle.funnel_stats.specs.declared.fault.ConfigFault.TheVariants.{TooLong, NotJson}

-- the first fault of several that may apply
abbrev pub first_of : List (Option ConfigFault) → Option ConfigFault
first_of [] = None
first_of (fault ∷ faults) = option_or fault (first_of faults)

-- the listed words with their counts
abbrev pub word_counts : List (List ℕ × Data) → List (List ℕ × ℕ)
word_counts listed = map (λ entry. (entry.0, unwrap_or (whole_number entry.1) 0)) listed

-- the configuration that an object gives, if it gives one
unfoldable pub config_of : Members → Config
config_of object = record {
  passes = number_at object Passes;
  slices = number_at object Slices;
  blocks = number_at object Blocks;
  max_rank = number_at object MaxRank;
  commits = number_at object Commits;
  reserve = number_at object Reserve;
  one_in = number_at object OneIn;
  snr = number_at object Snr;
  documents = number_at object Documents;
  tail = number_at object Tail;
  max_rows = number_at object MaxRows;
  private = number_at object Private;
  words = word_counts (listed_at object);
}

-- the first fault of what an object gives: of its values in the order of the table, of its words, and of their counts
unfoldable pub value_fault : Members → Option ConfigFault
value_fault object = first_of (
    first_of (map (bad_value object) keys)
    ∷ not_word (listed_at object) ∷ word_count (number_at object Documents) (listed_at object) ∷ [])

-- the first fault of an object: of its keys, of what it gives, and of the sizes that it asks for
unfoldable pub fault_of : Members → Option ConfigFault
fault_of object = first_of (
    unknown_key keys (entries object) ∷ value_fault object
    ∷ too_many_columns (config_of object) ∷ pool_too_large (config_of object) ∷ [])

-- the fault, or else the configuration
abbrev pub unless : Option ConfigFault → Config → Result Config ConfigFault
unless None config = Ok config
unless (Some fault) config = Err fault

-- the object that the bytes are, nested at most 127 deep; no bytes stand for the empty object
unfoldable pub object_of : List ℕ → Option Members
object_of [] = Some no_members
object_of (byte ∷ bytes) = if is_utf8 (byte ∷ bytes) then option_and_then as_object (read (byte ∷ bytes)) else None

-- the most bytes of a configuration
abbrev pub longest : ℕ
longest = LONGEST

-- the configuration of given bytes, or its fault
unfoldable pub configuration : List ℕ → Result Config ConfigFault
configuration bytes =
    if nat_lt longest (length bytes) then Err (TooLong longest)
    else option_map_or (λ object. unless (fault_of object) (config_of object)) (object_of bytes) (Err NotJson)
