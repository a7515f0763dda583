-- The configuration of bytes, by the object that they are.
use Rattle.std.proofs.Common.{◌≡◌, ◌∙◌, ◌≤◌, ◌<◌, ◌⊎◌, inl, inr, refl, ℕ, List, length, ltb, true, false, Option, Some, None, Result, Ok, Err, MatchResult, sym, ap, arith}
use Rattle.std.proofs.lemmas.Bool.{le-ltb, lt-ltb}
use Rattle.funnel_model.specs.declared.config.Config.{Config}
use Rattle.serde_json.specs.Data.{Members}
use Rattle.funnel_stats.specs.Configurations.{config_of, fault_of, unless, object_of, longest, configuration}
use Rattle.funnel_stats.specs.Reading.{IsFaultOf, IsFaultOfBytes}
use Rattle.funnel_stats.specs.Steps.{IsFault, GivesOrFaults, IsNoObject, IsTakingFault}
use Rattle.funnel_stats.specs.declared.fault.ConfigFault.{ConfigFault}
use Rattle.funnel_stats.specs.declared.fault.ConfigFault.TheVariants.{ReadFault, TooLong, NotJson, UnknownKey, BadValue, NotWord, WordCount, TooManyColumns, PoolTooLarge, Memory}

not_longer : (bytes : List ℕ) → length bytes ≤ longest → ltb longest (length bytes) ≡ false
not_longer bytes few = le-ltb longest (length bytes) few

pub configuration-none : (bytes : List ℕ) → length bytes ≤ longest → object_of bytes ≡ None → configuration bytes ≡ Err NotJson
unfolding configuration
configuration-none bytes few none = rw (not_longer bytes few, none)

pub configuration-object : (bytes : List ℕ) (object : Members) → length bytes ≤ longest → object_of bytes ≡ Some object
    → configuration bytes ≡ unless (fault_of object) (config_of object)
unfolding configuration
configuration-object bytes object few is = rw (not_longer bytes few, is)

-- what is no object
pub no_object : (fault : ConfigFault) (found : Option Members) (answer : Result Config ConfigFault) → (found ≡ None → answer ≡ Err NotJson) → IsNoObject fault found
    → IsFaultOfBytes fault answer
no_object Memory found answer told none = tt
no_object NotJson found answer told none = told none
no_object ReadFault found answer told none = absurd none
no_object (TooLong limit) found answer told none = absurd none
no_object (UnknownKey key) found answer told none = absurd none
no_object (BadValue key kept) found answer told none = absurd none
no_object (NotWord text) found answer told none = absurd none
no_object (WordCount word kept) found answer told none = absurd none
no_object (TooManyColumns columns) found answer told none = absurd none
no_object (PoolTooLarge words) found answer told none = absurd none

-- the fault of an object
fault_of_object : (fault : ConfigFault) (applies : Option ConfigFault) (config : Config) → IsFault fault applies → IsFaultOfBytes fault (unless applies config)
fault_of_object Memory applies config is = tt
fault_of_object NotJson applies config is = rw is
fault_of_object ReadFault applies config is = is
fault_of_object (TooLong limit) applies config is = is
fault_of_object (UnknownKey key) applies config is = rw is
fault_of_object (BadValue key kept) applies config is = rw is
fault_of_object (NotWord text) applies config is = rw is
fault_of_object (WordCount word kept) applies config is = rw is
fault_of_object (TooManyColumns columns) applies config is = rw is
fault_of_object (PoolTooLarge words) applies config is = rw is

-- what an object with such a fault, or none, is answered
pub answer_of : (answer : Result Config ConfigFault) (applies : Option ConfigFault) (config : Config) → GivesOrFaults answer config applies
    → MatchResult answer (λ value. unless applies config ≡ Ok value) (λ fault. IsFaultOfBytes fault (unless applies config))
answer_of (Ok value) applies config gives = rw (gives.0, gives.1)
answer_of (Err fault) applies config gives = fault_of_object fault applies config gives

-- what an object gives
pub object_answer : (bytes : List ℕ) (object : Members) (answer : Result Config ConfigFault) → length bytes ≤ longest → object_of bytes ≡ Some object
    → GivesOrFaults answer (config_of object) (fault_of object)
    → MatchResult answer (λ config. configuration bytes ≡ Ok config) (λ fault. IsFaultOfBytes fault (configuration bytes))
object_answer bytes object answer few is gives =
    rw (configuration-object bytes object few is) (answer_of answer (fault_of object) (config_of object) gives)

-- too many bytes
pub configuration-too_long : (bytes : List ℕ) → longest < length bytes → configuration bytes ≡ Err (TooLong longest)
unfolding configuration
configuration-too_long bytes many = let longer : ltb longest (length bytes) ≡ true = lt-ltb longest (length bytes) many in rw longer

-- a fault of taking the bytes
pub taking_fault : (fault : ConfigFault) (bytes : List ℕ) (left : Option (List ℕ)) → IsTakingFault fault bytes → IsFaultOf fault bytes left
taking_fault ReadFault bytes left is = tt
taking_fault Memory bytes left is = tt
taking_fault (TooLong limit) bytes left is =
    (configuration-too_long bytes (omega (arith, is.1)) ∙ ap (λ fault. Err fault) (sym is.0), is.1)
taking_fault NotJson bytes left is = let e : NotJson ≡ TooLong longest = is.0 in absurd (cc)
taking_fault (UnknownKey key) bytes left is = let e : UnknownKey key ≡ TooLong longest = is.0 in absurd (cc)
taking_fault (BadValue key kept) bytes left is = let e : BadValue key kept ≡ TooLong longest = is.0 in absurd (cc)
taking_fault (NotWord text) bytes left is = let e : NotWord text ≡ TooLong longest = is.0 in absurd (cc)
taking_fault (WordCount word kept) bytes left is = let e : WordCount word kept ≡ TooLong longest = is.0 in absurd (cc)
taking_fault (TooManyColumns columns) bytes left is = let e : TooManyColumns columns ≡ TooLong longest = is.0 in absurd (cc)
taking_fault (PoolTooLarge words) bytes left is = let e : PoolTooLarge words ≡ TooLong longest = is.0 in absurd (cc)

-- the fault of bytes of any length
fault_of_bytes : (fault : ConfigFault) (answer : Result Config ConfigFault) → IsFaultOfBytes fault answer → (fault ≡ Memory) ⊎ (answer ≡ Err fault)
fault_of_bytes Memory answer is = inl refl
fault_of_bytes ReadFault answer is = absurd is
fault_of_bytes (TooLong limit) answer is = absurd is
fault_of_bytes NotJson answer is = inr is
fault_of_bytes (UnknownKey key) answer is = inr is
fault_of_bytes (BadValue key kept) answer is = inr is
fault_of_bytes (NotWord text) answer is = inr is
fault_of_bytes (WordCount word kept) answer is = inr is
fault_of_bytes (TooManyColumns columns) answer is = inr is
fault_of_bytes (PoolTooLarge words) answer is = inr is

pub answer_of_bytes : (bytes : List ℕ) (answer : Result Config ConfigFault)
    → MatchResult answer (λ config. configuration bytes ≡ Ok config) (λ fault. IsFaultOfBytes fault (configuration bytes))
    → MatchResult answer (λ config. configuration bytes ≡ Ok config) (λ fault. (fault ≡ Memory) ⊎ (configuration bytes ≡ Err fault))
answer_of_bytes bytes (Ok config) is = is
answer_of_bytes bytes (Err fault) is = fault_of_bytes fault (configuration bytes) is
