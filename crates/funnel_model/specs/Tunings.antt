-- The configurations that tunings give an engine, and by which one each slice is treated.
use Rattle.std.specs.Prelude.{ℕ, List, fold, unwrap_or, if◌then◌else◌}
use Rattle.std.specs.List.{filter_map}
use Rattle.funnel_model.specs.declared.config.Config.{Config}
use Rattle.funnel_model.specs.declared.event.Event.{Event}
use Rattle.funnel_model.specs.Events.{clears, tuning_of}

-- the configurations that were given, in order
abbrev pub tunings : List Event → List Config
tunings history = filter_map tuning_of history

-- the one that was given last, and the opening one where none was
abbrev pub current : Config → List Event → Config
current opening history = fold (λ last e. unwrap_or (tuning_of e) last) opening history

-- the current configuration, and beside it the treatment of the slice
abbrev pub current_and_treatment : Config → ℕ → List Event → Config × Config
current_and_treatment opening slice history =
    fold (λ both e. (unwrap_or (tuning_of e) both.0, if clears slice e then both.0 else both.1)) (opening, opening) history

-- the treatment of the slice: the configuration that was current when it was last cleared, and the opening one where it never was
abbrev pub treat : Config → ℕ → List Event → Config
treat opening slice history = (current_and_treatment opening slice history).1
