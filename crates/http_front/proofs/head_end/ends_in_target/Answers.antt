use Rattle.std.proofs.Common.{◌≢◌, ◌∙◌, ◌+◌, sym, subst, All, take_all}
use Rattle.std.proofs.lemmas.Bool.{true≢false}
use Rattle.std.proofs.lemmas.List.{take_rest}
use Rattle.http_front.proofs.TargetLaws.{by_target, is_here, nowhere}
use Rattle.http_front.proofs.head_end.ends_in_target.Goals as goal

pub returns-then-is_token : goal.returns-then-is_token
returns-then-is_token c =
    let blank = c.after_blank-line.ensures in
    by_target c.args.bytes.now blank.0 c.after_blank-line.result.now c.loop-at.at blank.1 blank.2 c.loop-at-test.true c.if-line-at-eq32.true c.loop-at.invariant.1
    (sym c.is_token.ensures ∙ c.if-is_token.true) c.is_target.result
    (rw (take_rest c.after_blank-line.result.now (c.loop-at.at + 1)) at c.is_target.ensures)

pub returns-else-is_token : goal.returns-else-is_token
returns-else-is_token c = rw c.if-is_token.false (λ within_target.
    let blank = c.after_blank-line.ensures in
    let here = is_here c.args.bytes.now blank.0 c.after_blank-line.result.now c.loop-at.at blank.1 blank.2 c.loop-at-test.true c.if-line-at-eq32.true c.loop-at.invariant.1 within_target in
    true≢false (sym here.token ∙ sym c.is_token.ensures ∙ c.if-is_token.false))

pub returns : goal.returns
returns c =
    let blank = c.after_blank-line.ensures in
    nowhere c.args.bytes.now blank.0 c.after_blank-line.result.now blank.1 blank.2
    (subst (All (λ byte. byte ≢ 32)) (take_all c.loop-at.at c.after_blank-line.result.now c.loop-at-test.false) c.loop-at.invariant.1)
