-- What a text is as a tuning of a running engine, which gives it new statistics.
use Rattle.std.specs.Prelude.{ℕ, List, [], ◌∷◌, nat_lt, Option, Result, Ok, Err, if◌then◌else◌}
use Rattle.std.specs.Option.{option_map_or}
use Rattle.funnel_model.specs.Configuration.{with_statistics}
use Rattle.funnel_model.specs.Sizes.{words_of_slice}
use Rattle.funnel_model.specs.declared.config.Config.{Config}
use Rattle.serde_json.specs.Data.{Members}
use Rattle.funnel_stats.specs.Configurations.{config_of, first_of, object_of, unless, value_fault}
use Rattle.funnel_stats.specs.FaultNumbers.{number_of_fault}
use Rattle.funnel_stats.specs.Faults.{unknown_key}
use Rattle.funnel_stats.specs.Keys.{statistic_keys}
use Rattle.funnel_stats.specs.Values.{entries}
use Rattle.funnel_stats.specs.declared.fault.ConfigFault.{ConfigFault}
use Rattle.funnel_stats.specs.declared.fault.ConfigFault.TheVariants.{NotJson}

-- the first fault of an object of statistics: any other key is unknown, so that its value is never told
unfoldable pub tuning_fault : Members → Option ConfigFault
tuning_fault object = first_of (unknown_key statistic_keys (entries object) ∷ value_fault object ∷ [])

-- The configuration that a text of any length gives an engine which was opened with another one, or its fault: the statistics
-- are those of the text, or defaults where it leaves them out, and all else is the opening's.
unfoldable pub tuning : Config → List ℕ → Result Config ConfigFault
tuning opening text =
    option_map_or (λ object. unless (tuning_fault object) (with_statistics opening (config_of object))) (object_of text) (Err NotJson)

-- what comes of a tuning: the configuration that it gives, the number of its fault, or how many words it needs in a slice and for
-- how many there is room
pub data Tuned : Type 0 where
  Gives : Config → Tuned
  Faulty : ℕ → Tuned
  Wide : ℕ → ℕ → Tuned

-- what comes of it where a slice has so many words
abbrev pub fitted : ℕ → Result Config ConfigFault → Tuned
fitted room (Ok config) = if nat_lt room (words_of_slice config) then Wide (words_of_slice config) room else Gives config
fitted room (Err fault) = Faulty (number_of_fault fault)

-- what comes of a text: a slice has as many words as the opening configuration gives it
unfoldable pub tuned : Config → List ℕ → Tuned
tuned opening text = fitted (words_of_slice opening) (tuning opening text)
