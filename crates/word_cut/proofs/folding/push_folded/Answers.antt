-- An ASCII word folds to small letters, and any other by its characters.
use Rattle.std.proofs.Common.{rules, ◌≡◌, ◌++◌, ◌∷◌, [], ℕ, List, map, ap, ap₂, sym, ◌∙◌, subst, append_assoc}
use Rattle.std.proofs.lemmas.Iterator.{YieldsList, YieldsList-from_chars, items_from_drains}
use Rattle.std.proofs.lemmas.List.{append-nil, map-id}
use Rattle.std.proofs.lemmas.Str.{encodes-append}
use Rattle.std.specs.Char.{to_ascii_lowercase}
use Rattle.std.specs.Prelude.{encode_utf8, encode_utf8_all}
use Rattle.std.specs.Result.{OnOk}
use Rattle.std.specs.Str.{chars}
use Rattle.std.specs.Str.Iter.{chars_steps}
use Rattle.caseless.specs.CaseFold.{CaseFoldSteps}
use Rattle.caseless.specs.Caseless.{default_case_fold}
use Rattle.caseless.proofs.CaselessLemmas.{Spells-CaseFold}
use Rattle.word_cut.proofs.FoldLemmas.{folded-ascii}
use Rattle.word_cut.proofs.folding.push_folded.Goals as goal

pub returns-then-is_ascii : goal.returns-then-is_ascii
returns-then-is_ascii c =
    subst (λ (more : List ℕ). OnOk c.push_lowercase.result (c.push_lowercase.new.buffer.items ≡ c.args.buffer.now.items ++ more))
    (ap (map to_ascii_lowercase) c.as_bytes.ensures.value ∙ sym (folded-ascii c.args.word.now c.if-is_ascii.ensures.cases)) c.push_lowercase.ensures

pub loop-c-preserved : goal.loop-c-preserved
loop-c-preserved c =
    c.in_ok-extend_from_slice.ensures.items
    ∙ ap₂ (λ (before more : List ℕ). before ++ more) c.loop-c.invariant (c.as_bytes-in-loop-c.ensures.value ∙ c.encode_utf8.ensures.value ∙ sym (append-nil (encode_utf8 c.in-Some.c)))
    ∙ append_assoc c.args.buffer.now.items (encode_utf8_all c.loop-c.yielded) (encode_utf8_all (c.in-Some.c ∷ []))
    ∙ ap (λ (more : List ℕ). c.args.buffer.now.items ++ more) (sym (encodes-append c.loop-c.yielded (c.in-Some.c ∷ [])))

pub returns : goal.returns
returns c =
    let source : YieldsList chars_steps (λ x. x) c.chars.result (chars c.args.word.now) = YieldsList-from_chars c.args.word.now c.utf8.word c.chars.ensures.rest in
    let folds : YieldsList (CaseFoldSteps chars_steps) (λ x. x) c.default_case_fold-c-items.result (default_case_fold (chars c.args.word.now)) =
    record { runs = Spells-CaseFold (c.default_case_fold-c-items.ensures.text (chars c.args.word.now) source.runs) } in
    let same : c.default_case_fold-c-items.result ≡ c.into_iter-c-iterator.result = search (rules, c.into_iter-c-iterator.ensures.into_iter_gives) in
    let from_start = subst (λ start. YieldsList (CaseFoldSteps chars_steps) (λ x. x) start (default_case_fold (chars c.args.word.now))) same folds in
    let all = items_from_drains c.loop-c.yielded (c.loop-c.c-iterator, c.loop-c.yielded_by, λ _. (c.next.new.self, c.in-None.ensures.steps)) from_start in
    c.loop-c.invariant ∙ ap (λ (cs : List ℕ). c.args.buffer.now.items ++ encode_utf8_all cs) (sym (map-id c.loop-c.yielded) ∙ all)
