-- The faults of an object in their order.
use Rattle.std.proofs.Common.{◌≡◌, ◌∷◌, [], map, ℕ, Option, None, refl}
use Rattle.std.specs.Option.{option_or}
use Rattle.funnel_model.specs.declared.config.Config.{Config}
use Rattle.serde_json.specs.Data.{Members}
use Rattle.funnel_stats.specs.Configurations.{config_of, fault_of, first_of, value_fault}
use Rattle.funnel_stats.specs.Faults.{unknown_key, bad_value, not_word, word_count, too_many_columns, pool_too_large}
use Rattle.funnel_stats.specs.Keys.{keys, statistic_keys}
use Rattle.funnel_stats.specs.Steps.{IsFault}
use Rattle.funnel_stats.specs.Tunings.{tuning_fault}
use Rattle.funnel_stats.specs.Values.{entries, number_at, listed_at}
use Rattle.funnel_stats.specs.declared.key.Key.TheVariants.{Documents}
use Rattle.funnel_stats.specs.declared.fault.ConfigFault.{ConfigFault}
use Rattle.funnel_stats.specs.declared.fault.ConfigFault.TheVariants.{ReadFault, TooLong, NotJson, UnknownKey, BadValue, NotWord, WordCount, TooManyColumns, PoolTooLarge, Memory}

-- the faults of the numbers, of the words and their counts, and of the sizes
abbrev pub number_fault : Members → Option ConfigFault
number_fault object = first_of (map (bad_value object) keys)

abbrev pub word_fault : Members → ℕ → Option ConfigFault
word_fault object documents = first_of (not_word (listed_at object) ∷ word_count documents (listed_at object) ∷ [])

abbrev pub size_fault : Config → Option ConfigFault
size_fault config = first_of (too_many_columns config ∷ pool_too_large config ∷ [])

-- they come in this order
pub value_fault-parts : (object : Members) → value_fault object ≡ option_or (number_fault object) (word_fault object (number_at object Documents))
unfolding value_fault
value_fault-parts object = refl

pub fault_of-parts : (object : Members) → fault_of object ≡ option_or (unknown_key keys (entries object)) (option_or (value_fault object) (size_fault (config_of object)))
unfolding fault_of
fault_of-parts object = refl

pub tuning_fault-parts : (object : Members) → tuning_fault object ≡ option_or (unknown_key statistic_keys (entries object)) (option_or (value_fault object) None)
unfolding tuning_fault
tuning_fault-parts object = refl

-- a fault that comes first
pub IsFault-first : (fault : ConfigFault) (first later : Option ConfigFault) → IsFault fault first → IsFault fault (option_or first later)
IsFault-first Memory first later is = tt
IsFault-first ReadFault first later is = is
IsFault-first (TooLong limit) first later is = is
IsFault-first NotJson first later is = rw is
IsFault-first (UnknownKey key) first later is = rw is
IsFault-first (BadValue key kept) first later is = rw is
IsFault-first (NotWord text) first later is = rw is
IsFault-first (WordCount word kept) first later is = rw is
IsFault-first (TooManyColumns columns) first later is = rw is
IsFault-first (PoolTooLarge words) first later is = rw is

-- a fault that comes where none is before it
pub IsFault-later : (fault : ConfigFault) (first later : Option ConfigFault) → first ≡ None → IsFault fault later → IsFault fault (option_or first later)
IsFault-later fault first later none is = rw none is

pub None-later : (first later : Option ConfigFault) → first ≡ None → later ≡ None → option_or first later ≡ None
None-later first later none rest = rw (none, rest)
