use Rattle.std.proofs.Common.{◌-◌, ◌++◌, drop, length, min, take, ap, ◌∙◌}
use Rattle.std.proofs.lemmas.List.{take_rest}
use Rattle.commit_desk.proofs.Journals.{drop-halves}
use Rattle.commit_desk.proofs.journal.items_after.Goals as goal

pub returns : goal.returns
returns c =
    let older = c.as_slices.result.0.now in
    let newer = c.as_slices.result.1.now in
    let first = c.min-first.result in
    let second = c.min-second.result in
    let of_older = c.with_more.ensures.items ∙ ap (λ l. l ++ take (length older - first) (drop first older)) c.requires.empty ∙ take_rest older first in
    c.with_more-2.ensures.items ∙ ap (λ l. l ++ take (length newer - second) (drop second newer)) of_older ∙ ap (λ l. drop first older ++ l) (take_rest newer second)
    ∙ ap (λ n. drop first older ++ drop n newer) c.min-second.ensures
    ∙ ap (λ n. drop n older ++ drop (min (c.args.skipped - n) (length newer)) newer) c.min-first.ensures
    ∙ drop-halves c.args.skipped older newer ∙ ap (drop c.args.skipped) c.as_slices.ensures
