-- The tuning of a text, by the object that it is.
use Rattle.std.proofs.Common.{◌≡◌, ◌≤◌, ◌<◌, ℕ, Bool, true, false, cond, List, [], ◌∷◌, map, nat_lt, Option, Some, None, Result, Ok, Err, option_map, refl, ap, ◌∙◌, subst, arith}
use Rattle.std.proofs.lemmas.Bool.{le-ltb, lt-ltb, ltb-false}
use Rattle.std.specs.Bool.{⊤}
use Rattle.std.specs.Option.{option_map_or, option_or}
use Rattle.funnel_model.specs.Configuration.{IsBetween, with_statistics}
use Rattle.funnel_model.specs.Sizes.{words_of_slice}
use Rattle.funnel_model.specs.declared.config.Config.{Config}
use Rattle.serde_json.specs.Data.{Data, Members, no_members}
use Rattle.funnel_stats.specs.Configurations.{config_of, first_of, object_of, unless, value_fault}
use Rattle.funnel_stats.specs.FaultNumbers.{number_of_fault}
use Rattle.funnel_stats.specs.Faults.{unknown_key, bad_value, not_word, word_count}
use Rattle.funnel_stats.specs.Keys.{keys, statistic_keys}
use Rattle.funnel_stats.specs.Values.{entries, kept, listed_at, number_at, whole_number}
use Rattle.funnel_stats.specs.Tunings.{Faulty, Gives, Wide, fitted, tuned, tuning, tuning_fault}
use Rattle.funnel_stats.specs.declared.fault.ConfigFault.{ConfigFault}
use Rattle.funnel_stats.specs.declared.fault.ConfigFault.TheVariants.{BadValue, NotJson, NotWord, UnknownKey, WordCount}
use Rattle.funnel_stats.specs.declared.key.Key.{Key}
use Rattle.funnel_stats.specs.declared.key.Key.TheVariants.{Documents}

pub tuning-none : (opening : Config) (text : List ℕ) → object_of text ≡ None → tuning opening text ≡ Err NotJson
unfolding tuning
tuning-none opening text none = rw none

pub tuning-object : (opening : Config) (text : List ℕ) (object : Members) → object_of text ≡ Some object
    → tuning opening text ≡ unless (tuning_fault object) (with_statistics opening (config_of object))
unfolding tuning
tuning-object opening text object is = rw is

-- all but the statistics stays
kept_unless : (opening statistics config : Config) (applies : Option ConfigFault) → unless applies (with_statistics opening statistics) ≡ Ok config
    → config ≡ with_statistics opening config
kept_unless opening statistics config None is =
    let e : Ok (with_statistics opening statistics) ≡ Ok config = is in
    let same : with_statistics opening statistics ≡ config = cc in
    subst (λ (k : Config). k ≡ with_statistics opening k) same refl
kept_unless opening statistics config (Some fault) is = absurd (let e : Err fault ≡ Ok config = is in cc)

pub tuning-keeps : (opening config : Config) (text : List ℕ) → tuning opening text ≡ Ok config → config ≡ with_statistics opening config
unfolding tuning
tuning-keeps opening config text is = go (object_of text) is where
  go : (found : Option Members) → option_map_or (λ object. unless (tuning_fault object) (with_statistics opening (config_of object))) found (Err NotJson) ≡ Ok config
      → config ≡ with_statistics opening config
  go None is = absurd (let e : Err NotJson ≡ Ok config = is in cc)
  go (Some object) is = kept_unless opening (config_of object) config (tuning_fault object) is

-- which is asked for nothing else
same_base : (opening base : Config) (text : List ℕ) → tuning (with_statistics opening base) text ≡ tuning opening text
unfolding tuning
same_base opening base text = refl

pub tuning-afresh : (opening base : Config) (text : List ℕ) → base ≡ with_statistics opening base → tuning base text ≡ tuning opening text
tuning-afresh opening base text kept = ap (λ (k : Config). tuning k text) kept ∙ same_base opening base text

-- the fault, if there is one, has a number from 4 to 7
abbrev IsNumbered : Option ConfigFault → Type 0
IsNumbered None = ⊤
IsNumbered (Some fault) = IsBetween 4 7 (number_of_fault fault)

numbered_map : {X : Type 0} (f : X → ConfigFault) (found : Option X) → ((x : X) → IsBetween 4 7 (number_of_fault (f x))) → IsNumbered (option_map f found)
numbered_map f None numbered = tt
numbered_map f (Some x) numbered = numbered x

numbered_or : (first later : Option ConfigFault) → IsNumbered first → IsNumbered later → IsNumbered (option_or first later)
numbered_or None later is rest = rest
numbered_or (Some fault) later is rest = is

numbered_keys : (known : List Key) (entries : List (List ℕ × Data)) → IsNumbered (unknown_key known entries)
unfolding unknown_key
numbered_keys known entries = numbered_map (λ (entry : List ℕ × Data). UnknownKey entry.0) _ (λ entry. (omega arith, omega arith))

numbered_values : (object : Members) (keys : List Key) → IsNumbered (first_of (map (bad_value object) keys))
unfolding bad_value
numbered_values object [] = tt
numbered_values object (key ∷ keys) =
    numbered_or (bad_value object key) _ (numbered_map (BadValue key) _ (λ kept. (omega arith, omega arith))) (numbered_values object keys)

numbered_word : (listed : List (List ℕ × Data)) → IsNumbered (not_word listed)
unfolding not_word
numbered_word listed = numbered_map (λ (entry : List ℕ × Data). NotWord entry.0) _ (λ entry. (omega arith, omega arith))

numbered_count : (documents : ℕ) (listed : List (List ℕ × Data)) → IsNumbered (word_count documents listed)
unfolding word_count
numbered_count documents listed =
    numbered_map (λ (entry : List ℕ × Data). WordCount entry.0 (kept (whole_number entry.1))) _ (λ entry. (omega arith, omega arith))

numbered : (object : Members) → IsNumbered (tuning_fault object)
unfolding tuning_fault value_fault
numbered object =
    let listed = listed_at object in
    let count = word_count (number_at object Documents) listed in
    let words = first_of (not_word listed ∷ count ∷ []) in
    let values = first_of (map (bad_value object) keys) in
    numbered_or (unknown_key statistic_keys (entries object)) (option_or (option_or values words) None) (numbered_keys statistic_keys (entries object))
    (numbered_or (option_or values words) None
    (numbered_or values words (numbered_values object keys)
    (numbered_or (not_word listed) (option_or count None) (numbered_word listed) (numbered_or count None (numbered_count (number_at object Documents) listed) tt))) tt)

numbered_unless : (config : Config) (fault : ConfigFault) (applies : Option ConfigFault) → IsNumbered applies → unless applies config ≡ Err fault
    → IsBetween 3 7 (number_of_fault fault)
numbered_unless config fault None is told = absurd (let e : Ok config ≡ Err fault = told in cc)
numbered_unless config fault (Some first) is told =
    let e : Err first ≡ Err fault = told in
    let same : first ≡ fault = cc in
    subst (λ (f : ConfigFault). IsBetween 3 7 (number_of_fault f)) same (omega (arith, is.0), is.1)

pub tuning-numbers : (opening : Config) (text : List ℕ) (fault : ConfigFault) → tuning opening text ≡ Err fault → IsBetween 3 7 (number_of_fault fault)
unfolding tuning
tuning-numbers opening text fault told = go (object_of text) told where
  go : (found : Option Members) → option_map_or (λ object. unless (tuning_fault object) (with_statistics opening (config_of object))) found (Err NotJson) ≡ Err fault
      → IsBetween 3 7 (number_of_fault fault)
  go None told =
      let e : Err NotJson ≡ Err fault = told in
      let same : NotJson ≡ fault = cc in
      subst (λ (f : ConfigFault). IsBetween 3 7 (number_of_fault f)) same (omega arith, omega arith)
  go (Some object) told = numbered_unless _ fault (tuning_fault object) (numbered object) told

-- what comes of it
pub tuned-gives : (opening config : Config) (text : List ℕ) → tuning opening text ≡ Ok config → words_of_slice config ≤ words_of_slice opening → tuned opening text ≡ Gives config
unfolding tuned
tuned-gives opening config text is narrow = rw (is, le-ltb (words_of_slice opening) (words_of_slice config) narrow)

pub tuned-wide : (opening config : Config) (text : List ℕ) → tuning opening text ≡ Ok config → words_of_slice opening < words_of_slice config
    → tuned opening text ≡ Wide (words_of_slice config) (words_of_slice opening)
unfolding tuned
tuned-wide opening config text is wide = rw (is, lt-ltb (words_of_slice opening) (words_of_slice config) wide)

pub tuned-faulty : (opening : Config) (text : List ℕ) (fault : ConfigFault) → tuning opening text ≡ Err fault → tuned opening text ≡ Faulty (number_of_fault fault)
unfolding tuned
tuned-faulty opening text fault is = rw is

-- a configuration comes of a text that gives it, and has room
given_by : (room : ℕ) (found config : Config) (over : Bool) → nat_lt room (words_of_slice found) ≡ over → cond over (Wide (words_of_slice found) room) (Gives found) ≡ Gives config
    → (found ≡ config) × (words_of_slice found ≤ room)
given_by room found config true test is = absurd (let e : Wide (words_of_slice found) room ≡ Gives config = is in cc)
given_by room found config false test is =
    let e : Gives found ≡ Gives config = is in
    let same : found ≡ config = cc in
    (same, ltb-false room (words_of_slice found) test)

given_answer : (room : ℕ) (config : Config) (answer : Result Config ConfigFault) → fitted room answer ≡ Gives config → (answer ≡ Ok config) × (words_of_slice config ≤ room)
given_answer room config (Ok found) is =
    let parts = given_by room found config (nat_lt room (words_of_slice found)) refl is in
    (ap Ok parts.0, subst (λ (k : Config). words_of_slice k ≤ room) parts.0 parts.1)
given_answer room config (Err fault) is = absurd (let e : Faulty (number_of_fault fault) ≡ Gives config = is in cc)

pub tuned-given : (opening config : Config) (text : List ℕ) → tuned opening text ≡ Gives config → (tuning opening text ≡ Ok config) × (words_of_slice config ≤ words_of_slice opening)
unfolding tuned
tuned-given opening config text is = given_answer (words_of_slice opening) config (tuning opening text) is

-- without a text each statistic has its default
pub tuning-empty : (opening : Config) → tuning opening [] ≡ Ok (with_statistics opening (config_of no_members))
unfolding tuning object_of tuning_fault value_fault unknown_key bad_value not_word word_count
tuning-empty opening = refl
