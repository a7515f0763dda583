use Rattle.std.specs.Prelude.{ℕ}
use Rattle.funnel_stats.specs.declared.fault.ConfigFault.{ConfigFault}
use Rattle.funnel_stats.specs.declared.fault.ConfigFault.TheVariants.{ReadFault, TooLong, NotJson, UnknownKey, BadValue, NotWord, WordCount, TooManyColumns, PoolTooLarge, Memory}

-- the number of a fault, in the order in which `configuration` looks for them
abbrev pub number_of_fault : ConfigFault → ℕ
number_of_fault ReadFault = 1
number_of_fault (TooLong limit) = 2
number_of_fault NotJson = 3
number_of_fault (UnknownKey key) = 4
number_of_fault (BadValue key value) = 5
number_of_fault (NotWord text) = 6
number_of_fault (WordCount word count) = 7
number_of_fault (TooManyColumns columns) = 8
number_of_fault (PoolTooLarge words) = 9
number_of_fault Memory = 10
