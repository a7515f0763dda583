-- the documents so far stand in the text, and the next one goes on with the draws
use Rattle.std.proofs.Common.{◌≡◌, ◌≤◌, ◌*◌, length, string_bytes, vec_capacity}
use Rattle.std.specs.Prelude.{string_capacity, string_len}
use Rattle.std.specs.Str.{IsAscii}
use Rattle.funnel_model.specs.WordSets.{EndAt, pieces}
use Rattle.load_gen.specs.Documents.{documents, longest_text}
use Rattle.load_gen.specs.Generator.{state_after}
use Rattle.load_gen.proofs.load.make.Given as goal

abbrev pub invariant-loop-i : goal.invariant-loop-i
invariant-loop-i l = record {
  within : EndAt 0 l.ends.items (length (string_bytes l.texts));
  ascii : IsAscii (string_bytes l.texts);
  count : length l.ends.items ≡ l.i;
  so_far : pieces 0 l.ends.items (string_bytes l.texts) ≡ documents l.i l.words l.seed;
  state : l.generator ≡ state_after l.seed (l.i * l.words);
  short : string_len l.texts ≤ l.i * longest_text l.words;
  room : l.docs * longest_text l.words ≤ string_capacity l.texts;
  room_of_ends : l.docs ≤ vec_capacity l.ends;
}
