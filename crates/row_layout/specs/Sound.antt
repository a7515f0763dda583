-- Histories whose documents have set their own bits. The configuration is the one with which the engine was opened.
use Rattle.std.specs.Prelude.{◌≡◌, ℕ, List, ◌∷◌, ◌++◌, Contains}
use Rattle.funnel_model.specs.History.{Document, live}
use Rattle.funnel_model.specs.Sizes.{words_of_slice}
use Rattle.funnel_model.specs.Tunings.{treat}
use Rattle.funnel_model.specs.Words.{words}
use Rattle.funnel_model.specs.declared.config.Config.{Config}
use Rattle.funnel_model.specs.declared.event.Event.{Event}
use Rattle.funnel_model.specs.declared.event.Event.TheVariants as event
use Rattle.row_layout.specs.DocumentBits.{AreDocumentBitsIn}
use Rattle.row_layout.specs.Layouts.{LayoutId}

-- the layout of a slice after these events: its treatment, in the room that the opening gave each slice
abbrev pub slice_layout : Config → ℕ → List Event → LayoutId
slice_layout opening slice history = record { config = treat opening slice history; room = words_of_slice opening }

-- after these events an add has exactly the bits of its own text at its own column, under the treatment of its slice, and a move those
-- of the text of the live document with its number; no other event has bits. Each slice has the room that the opening gave it
abbrev pub HasItsBits : Config → List Event → Event → Type 0
HasItsBits config history (event.Add pass id text slice column bits) =
    AreDocumentBitsIn (words_of_slice config) (treat config slice history) (words text) slice column bits
HasItsBits config history (event.Move pass id slice column bits) =
    (document : Document) × Contains (live history) document × (document.id ≡ id)
    × AreDocumentBitsIn (words_of_slice config) (treat config slice history) (words document.text) slice column bits
HasItsBits config history _ = Unit {0}

-- each event of the history has its bits, after those before it
abbrev pub IsSound : Config → List Event → Type 0
IsSound config history = (earlier : List Event) (e : Event) (later : List Event) → history ≡ earlier ++ e ∷ later → HasItsBits config earlier e
