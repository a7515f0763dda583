-- What a parser has read, as the definitions see it.
use Rattle.std.specs.Prelude.{map}
use Rattle.bool_query.specs.declared.level.Level.{Level}
use Rattle.funnel_model.specs.Expressions.{tree_of}
use Rattle.funnel_model.specs.Readings as readings

abbrev pub level_of : Level → readings.Level
level_of level = record { terms = map tree_of level.terms.items; factors = map tree_of level.factors.items; minuses = level.minuses }
