use Rattle.std.proofs.Common.{◌≡◌, ◌∙◌, false, true, ap, refl, string_bytes, sym, subst}
use Rattle.std.proofs.lemmas.Bool.{and_from, false_from_ne_true, true≢false}
use Rattle.std.proofs.lemmas.Str.{IsUtf8-from_is_utf8, IsUtf8-string_bytes, is_utf8-from_IsUtf8}
use Rattle.std.specs.Str.{IsUtf8, is_utf8}
use Rattle.funnel_stats.specs.Faults.{is_word}
use Rattle.fit.proofs.ranking.as_word.Goals as goal

pub returns-in_default : goal.returns-in_default
returns-in_default c =
    let no_text : is_utf8 c.args.word.items ≡ false = false_from_ne_true (is_utf8 c.args.word.items)
    (λ text. true≢false (sym (c.in_default.ensures.succeeds (IsUtf8-from_is_utf8 c.args.word.items text)))) in
    rw no_text refl

pub returns-then-branch : goal.returns-then-branch
returns-then-branch c =
    let same : string_bytes c.in-Ok.text ≡ c.args.word.items = ap (λ v. v.items) c.in-Ok.ensures.ok in
    let text : is_utf8 c.args.word.items ≡ true = is_utf8-from_IsUtf8 c.args.word.items (subst IsUtf8 same (IsUtf8-string_bytes c.in-Ok.text)) in
    let word : is_word c.args.word.items ≡ true = sym (c.in_ok-is_word.ensures ∙ ap is_word (c.deref.ensures ∙ same)) ∙ c.if-branch.true in
    (and_from (is_utf8 c.args.word.items) (is_word c.args.word.items) text word, same)
