-- What a JSON object says of the keys of a configuration.
use Rattle.std.specs.Prelude.{ℕ, ◌&&◌, Bool, false, List, [], ◌∷◌, length, nat_le, Option, Some, None, unwrap_or, option_map, option_and_then, if◌then◌else◌}
use Rattle.std.specs.Option.{option_map_or}
use Rattle.serde_json.specs.Data.{Data, Members, no_members, member}
use Rattle.serde_json.specs.Find.{get_member, as_number, as_u64, as_object}
use Rattle.funnel_stats.specs.Keys.{name_of, range_of}
use Rattle.funnel_stats.specs.declared.kept.Kept.{Kept}
use Rattle.funnel_stats.specs.declared.kept.Kept.TheVariants.{Number, Other}
use Rattle.funnel_stats.specs.declared.key.Key.{Key}
use Rattle.funnel_stats.specs.declared.key.Key.TheVariants.{Words}

-- the entries of an object, in byte order of their names
abbrev pub entries : Members → List (List ℕ × Data)
entries no_members = []
entries (member name value others) = (name, value) ∷ entries others

-- the number that a value is, where that is a whole number from 0 to 2^64 - 1, written without sign, point or exponent
abbrev pub whole_number : Data → Option ℕ
whole_number value = option_and_then as_u64 (as_number value)

-- what a fault keeps of such a number, or of a value that is none
abbrev pub kept : Option ℕ → Kept
kept None = Other
kept (Some n) = Number n

-- the number by which a value is judged: of `words` how many entries the object has
abbrev pub quantity : Key → Data → Option ℕ
quantity Words value = option_map (λ words. length (entries words)) (as_object value)
quantity _ value = whole_number value

-- the number is one that the key takes
abbrev pub is_in_limits : Key → ℕ → Bool
is_in_limits key n = nat_le (range_of key).least n && nat_le n (range_of key).greatest

-- what is kept of a value that is not of the key's kind, or not in its range
abbrev pub misfit_of_value : Key → Option ℕ → Option Kept
misfit_of_value key number = if option_map_or (is_in_limits key) number false then None else Some (kept number)

-- the value of a key
abbrev pub value_at : Members → Key → Option Data
value_at object key = get_member (name_of key) object

-- the number of a key: its default where it is left out
abbrev pub number_at : Members → Key → ℕ
number_at object key = option_map_or (λ value. unwrap_or (quantity key value) 0) (value_at object key) (range_of key).default

-- the listed words with their values
abbrev pub listed_at : Members → List (List ℕ × Data)
listed_at object = option_map_or entries (option_and_then as_object (value_at object Words)) []
