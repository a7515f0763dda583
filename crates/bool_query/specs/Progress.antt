-- How far a parser has read a text.
use Rattle.std.specs.Prelude.{ℕ, IsCharBoundary, ◌≡◌, false, List, ◌++◌, drop}
use Rattle.bool_query.specs.declared.parser.Parser.{Parser}
use Rattle.bool_query.specs.Parsers.{Counts, reading_of}
use Rattle.funnel_model.specs.Queries.{AreShallow, Placed, Spelled, kinds, tokens, tokens_from, tokens_of}
use Rattle.funnel_model.specs.Readings.{Reads, start}

-- the parser has read the tokens up to this byte, where a character begins or the text ends
pub record HasRead (text : List ℕ) (at : ℕ) (parser : Parser) : Type 0 where
  pub boundary : IsCharBoundary text at
  pub before : List Placed
  pub split : tokens text ≡ before ++ tokens_from false at (drop at text)
  pub spelling : List Spelled
  pub reads : Reads start spelling (reading_of parser)
  pub same : tokens_of spelling ≡ kinds before
  pub shallow : AreShallow spelling
  pub counts : Counts parser
