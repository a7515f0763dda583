-- The add lines of bytes.
use Rattle.std.specs.Prelude.{ℕ, true, List, Option, Some, None}
use Rattle.std.specs.List.{filter_map}
use Rattle.funnel_model.specs.declared.call.Call.TheVariants as call
use Rattle.line_proto.specs.Forms.{Item, Asks, Calls, items}

-- the text that a line adds, where it asks for an add
abbrev pub text_added : Item → Option (List ℕ)
text_added (Asks (Calls (call.Add id text))) = Some text
text_added _ = None

-- The texts of the add lines, one for each, in their order. A line is an add line by its form, whether or not a run would add it.
abbrev pub texts_added : List ℕ → List (List ℕ)
texts_added bytes = filter_map text_added (items bytes true)
