-- the words of the draws so far stand in the text
use Rattle.std.proofs.Common.{◌≡◌, ◌≤◌, ◌+◌, ◌*◌, ◌∷◌, ◌++◌, flat_map, string_bytes}
use Rattle.std.specs.Prelude.{string_capacity, string_len}
use Rattle.load_gen.specs.Documents.{name_of_document}
use Rattle.load_gen.specs.Generator.{next_words, state_after}
use Rattle.load_gen.proofs.load.push_document.Given as goal

abbrev pub invariant-loop : goal.invariant-loop
invariant-loop l = record {
  text : string_bytes l.texts ≡ string_bytes l.fn.texts ++ name_of_document l.id ++ flat_map (λ word. 32 ∷ word) (next_words l.fn.generator l.counter);
  state : l.generator ≡ state_after l.fn.generator l.counter;
  short : string_len l.texts ≤ string_len l.fn.texts + 8 + 6 * l.counter;
  capacity : string_capacity l.fn.texts ≤ string_capacity l.texts;
}
