-- The words of the draws, for which there is room.
use Rattle.std.proofs.Common.{◌≤◌, ◌<◌, ◌+◌, ◌*◌, ◌^◌, ◌++◌, ◌∷◌, [], append_assoc, append-nil, decimal, length, string_bytes, refl, sym, ap, ◌∙◌, arith}
use Rattle.std.specs.Prelude.{string_len}
use Rattle.std.proofs.lemmas.Fmt.{length-decimal-le}
use Rattle.load_gen.specs.Documents.{name_of_document}
use Rattle.load_gen.specs.Generator.{next_state}
use Rattle.load_gen.proofs.Draws.{state_after-more, words-push}
use Rattle.load_gen.proofs.load.push_document.Goals as goal

pub push_numbered-requires : goal.push_numbered-requires
push_numbered-requires c =
    let few : c.from.result < 10 ^ 7 = omega (arith, c.from.ensures, c.requires.id) in
    let digits : length (decimal c.from.result) ≤ 7 = length-decimal-le 7 c.from.result (omega arith) few (omega (arith, few)) in
    omega (arith, c.requires.room, digits)

pub loop-init : goal.loop-init
loop-init c =
    let few : c.from.result < 10 ^ 7 = omega (arith, c.from.ensures, c.requires.id) in
    let digits : length (decimal c.from.result) ≤ 7 = length-decimal-le 7 c.from.result (omega arith) few (omega (arith, few)) in
    let front = string_bytes c.args.texts.now in
    let short : string_len c.push_numbered.new.texts ≤ string_len c.args.texts.now + 8 + 6 * 0 = omega (arith, c.push_numbered.ensures.len, digits) in
    record {
      text =
          c.push_numbered.ensures.text ∙ append_assoc front (117 ∷ []) (decimal c.from.result) ∙ ap (λ n. front ++ (117 ∷ decimal n)) c.from.ensures
          ∙ sym (append-nil (front ++ (117 ∷ decimal c.args.id)));
      state = refl;
      short = short;
      capacity = c.push_numbered.ensures.capacity;
    }

pub loop-preserved : goal.loop-preserved
loop-preserved c = record {
  text =
      words-push (string_bytes c.args.texts.now ++ name_of_document c.args.id) _ _ c.args.generator.now c.loop.counter c.loop.generator c.draw.new.self c.draw.result
      c.loop.invariant.text c.loop.invariant.state c.draw.ensures.state c.draw.ensures.number c.push_numbered-in-loop.ensures.text;
  state = c.draw.ensures.state ∙ ap next_state c.loop.invariant.state ∙ sym (state_after-more c.args.generator.now c.loop.counter);
  short = omega (arith, c.loop.invariant.short, c.push_numbered-in-loop.ensures.len, c.draw.ensures.short);
  capacity = omega (arith, c.loop.invariant.capacity, c.push_numbered-in-loop.ensures.capacity);
}
