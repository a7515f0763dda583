use Rattle.std.proofs.Common.{◌≡◌, filter, map, not}
use Rattle.std.specs.List.{All}
use Rattle.row_layout.specs.Owners.{is_exact}
use Rattle.row_layout.specs.Rows.{IsRowOf, rows_of_words}
use Rattle.row_layout.proofs.layout.Layout.rows_and_rest.Given as goal

-- the rows of the words so far, and those of the words that aren't exact
abbrev pub invariant-loop-word : goal.invariant-loop-word
invariant-loop-word l = record {
  rows : l.rows.items ≡ rows_of_words l.self.config (map (λ word. word.now) l.yielded);
  laid : All (IsRowOf l.self.config) l.rows.items;
  rest : map (λ word. word.now) l.rest.items ≡ filter (λ word. not (is_exact l.self.config word)) (map (λ word. word.now) l.yielded);
}
