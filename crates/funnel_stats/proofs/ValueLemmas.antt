-- The number of a key, and when its value is a fault.
use Rattle.std.proofs.Common.{◌≡◌, Some, None, option_map, unwrap_or}
use Rattle.serde_json.specs.Data.{Data, Members}
use Rattle.funnel_stats.specs.Faults.{bad_value}
use Rattle.funnel_stats.specs.Keys.{range_of}
use Rattle.funnel_stats.specs.Values.{quantity, misfit_of_value, value_at, number_at}
use Rattle.funnel_stats.specs.declared.key.Key.{Key}
use Rattle.funnel_stats.specs.declared.fault.ConfigFault.TheVariants.{BadValue}

-- a key that is left out
pub bad_value-absent : (object : Members) (key : Key) → value_at object key ≡ None → bad_value object key ≡ None
unfolding bad_value
bad_value-absent object key absent = rw absent

pub number_at-absent : (object : Members) (key : Key) → value_at object key ≡ None → number_at object key ≡ (range_of key).default
number_at-absent object key absent = rw absent

-- a key with a value
pub bad_value-present : (object : Members) (key : Key) (value : Data) → value_at object key ≡ Some value
    → bad_value object key ≡ option_map (BadValue key) (misfit_of_value key (quantity key value))
unfolding bad_value
bad_value-present object key value present = rw present

pub number_at-present : (object : Members) (key : Key) (value : Data) → value_at object key ≡ Some value
    → number_at object key ≡ unwrap_or (quantity key value) 0
number_at-present object key value present = rw present
