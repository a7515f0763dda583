-- What a parser has read, and what it does with a token.
use Rattle.std.specs.Prelude.{◌≡◌, ◌≤◌, [], map, reverse}
use Rattle.bool_query.specs.declared.parser.Parser.{Parser}
use Rattle.bool_query.specs.Levels.{level_of}
use Rattle.funnel_model.specs.declared.expr.TheConstants.{MOST_OPEN}
use Rattle.funnel_model.specs.Expressions.{Tree}
use Rattle.funnel_model.specs.Queries.{Token}
use Rattle.funnel_model.specs.Readings.{Reading, IsComplete, Takes, level_at, opened, with_factor}

abbrev pub reading_of : Parser → Reading
reading_of parser = record { inner = level_of parser.inner; outer = reverse (map level_of parser.outer.items) }

-- it counts the levels that are open, and they are no more than may be
pub record Counts (parser : Parser) : Type 0 where
  pub counted : parser.levels ≡ opened (reading_of parser)
  pub few : parser.levels ≤ MOST_OPEN

-- the token is read, and no level too many with it
pub record IsRead (before : Parser) (token : Token) (after : Parser) : Type 0 where
  pub takes : Takes (reading_of before) token (reading_of after)
  pub counts : Counts after
  pub shallow : level_at (reading_of before) token ≤ MOST_OPEN

-- the token can't come next
abbrev pub IsStuckAt : Parser → Token → Type 0
IsStuckAt parser token = (after : Reading) → Takes (reading_of parser) token after → ⊥

-- a factor of the innermost level is complete
pub record HasFactor (before : Parser) (factor : Tree) (after : Parser) : Type 0 where
  pub reading : reading_of after ≡ record { inner = with_factor (level_of before.inner) factor; outer = (reading_of before).outer }
  pub counts : Counts after

-- no level is open, and a factor was just completed
pub record IsWhole (reading : Reading) : Type 0 where
  pub closed : reading.outer ≡ []
  pub complete : IsComplete reading.inner
