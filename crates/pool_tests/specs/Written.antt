-- What a pass of the tests knows once it has written its column.
use Rattle.std.specs.Prelude.{◌↔◌, ◌⊎◌, ℕ, List, [], Contains}
use Rattle.column_writer.specs.Written.{IsBitOf}
use Rattle.funnel_model.specs.declared.bit_list.Bit.{Bit}
use Rattle.slice_rule.specs.declared.view.Fact.{Fact}

-- it knows of just these bits that they are set, under the Take with this number
abbrev pub KnowsJust : ℕ → List Bit → List Fact → Type 0
KnowsJust number bits own = (f : Fact) → Contains own f ↔ (Contains [] f ⊎ IsBitOf number bits f)
