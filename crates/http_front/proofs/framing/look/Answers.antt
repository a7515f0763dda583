use Rattle.std.proofs.Common.{ℕ, length, ap, subst, arith, length-take}
use Rattle.httparse.specs.Grammar.{HasNoRequest, NeverHasRequest, EndsInTarget}
use Rattle.http_front.proofs.HeadLaws.{bad_start, never_head, no_head, no_prefix}
use Rattle.http_front.proofs.JudgeLaws.{head_at}
use Rattle.http_front.proofs.framing.look.Goals as goal

pub judge-requires-clause-head : goal.judge-requires-clause-head
judge-requires-clause-head c =
    head_at c.first_bytes-first.result.now c.parse_request.new.headers c.in-Ok-Complete.head
    (omega (arith, ap length c.first_bytes-first.ensures, length-take {A = ℕ}))
    (rw c.in-Ok-Complete.field-0-is at c.in-Ok-Complete.ensures.within) (rw c.in-Ok-Complete.field-0-is at c.in-Ok-Complete.ensures.complete)

pub wait_for_head-requires-then-ends_in_target-clause-none : goal.wait_for_head-requires-then-ends_in_target-clause-none
wait_for_head-requires-then-ends_in_target-clause-none c =
    let never = never_head c.first_bytes-first.result.now (length c.args.spans.now) _ (omega (arith, ap length c.first_bytes-first.ensures, length-take {A = ℕ})) c.requires.room
    c.in-Err.ensures.invalid c.in-Err.ensures.too_many in
    subst HasNoRequest c.first_bytes-first.ensures (no_head c.first_bytes-first.result.now never)

pub returns-else-ends_in_target : goal.returns-else-ends_in_target
returns-else-ends_in_target c =
    let never = never_head c.first_bytes-first.result.now (length c.args.spans.now) _ (omega (arith, ap length c.first_bytes-first.ensures, length-take {A = ℕ})) c.requires.room
    c.in-Err.ensures.invalid c.in-Err.ensures.too_many in
    bad_start c.args.bytes.now (subst NeverHasRequest c.first_bytes-first.ensures never)
    (no_prefix c.args.bytes.now (subst NeverHasRequest c.first_bytes-first.ensures never) (subst (λ f. EndsInTarget f → ⊥) c.first_bytes-first.ensures c.if-ends_in_target.ensures))
