-- The text of one more document.
use Rattle.std.proofs.Common.{◌≡◌, ◌+◌, ◌++◌, ◌∷◌, [], cond, length, not, string_bytes, sym, ap, subst, ◌∙◌, arith, rules}
use Rattle.std.specs.Str.{IsAscii}
use Rattle.std.proofs.lemmas.List.{length-append}
use Rattle.std.proofs.lemmas.Str.{IsAscii-append}
use Rattle.funnel_model.proofs.WordSetLemmas.{ends_with, words_with}
use Rattle.load_gen.specs.Documents.{document, documents, text_of_document}
use Rattle.load_gen.specs.Generator.{state_after}
use Rattle.load_gen.proofs.Draws.{documents-more, state_after-document}
use Rattle.load_gen.proofs.Texts.{document_ascii}
use Rattle.load_gen.proofs.load.make.Goals as goal

pub loop-i-preserved : goal.loop-i-preserved
loop-i-preserved c =
    let text = document c.args.words c.args.seed c.loop-i.i in
    let grown : string_bytes c.push_document.new.texts ≡ string_bytes c.loop-i.texts ++ text =
    c.push_document.ensures.text
    ∙ ap (λ state. string_bytes c.loop-i.texts ++ text_of_document state c.args.words (c.loop-i.i + 1)) c.loop-i.invariant.state in
    let pushed : c.push.new.self.items ≡ c.loop-i.ends.items ++ c.len.result ∷ [] =
    c.push.ensures.items ∙ ap (λ ok. cond ok (c.loop-i.ends.items ++ c.len.result ∷ []) c.loop-i.ends.items) (c.is_err.ensures.negation ∙ ap not c.if-is_err.false) in
    let end : c.len.result ≡ length (string_bytes c.push_document.new.texts) = search (rules, c.len.ensures) in
    record {
      within =
          ends_with c.loop-i.ends.items (string_bytes c.loop-i.texts) text _ _ c.len.result c.loop-i.invariant.within
          grown end pushed;
      ascii =
          subst IsAscii (sym grown)
          (IsAscii-append (string_bytes c.loop-i.texts) text c.loop-i.invariant.ascii (document_ascii c.args.words c.args.seed c.loop-i.i (omega arith)));
      count = ap (λ es. length es) pushed ∙ length-append c.loop-i.ends.items (c.len.result ∷ []) ∙ ap (λ n. n + 1) c.loop-i.invariant.count;
      so_far =
          words_with c.loop-i.ends.items (string_bytes c.loop-i.texts) text (documents c.loop-i.i c.args.words c.args.seed) _ _ c.len.result
          c.loop-i.invariant.within c.loop-i.invariant.so_far grown end pushed
          ∙ sym (documents-more c.loop-i.i c.args.words c.args.seed);
      state =
          c.push_document.ensures.state ∙ ap (λ state. state_after state c.args.words) c.loop-i.invariant.state
          ∙ state_after-document c.args.seed c.loop-i.i c.args.words;
      short = omega (arith, c.loop-i.invariant.short, c.push_document.ensures.short);
      room = omega (arith, c.loop-i.invariant.room, c.push_document.ensures.capacity);
      room_of_ends = omega (arith, c.loop-i.invariant.room_of_ends, c.push.ensures.capacity);
    }
