use Rattle.std.proofs.Common.{ℕ, List, ◌++◌, ◌∙◌, ap, length, arith}
use Rattle.http_front.specs.Responses.{body_of, text_of}
use Rattle.http_front.proofs.ResponseLaws.{ok_where_it_fits, ok_with_room, response_short}
use Rattle.http_front.proofs.response.write_response.Goals as goal

pub returns-clause-ok : goal.returns-clause-ok
unfolding text_of
returns-clause-ok c =
    rw (c.clear-2.ensures.items, c.status.ensures.value, c.kind.ensures.value, c.as_slice.ensures.value, c.in_ok-push_body.ensures.ok, c.clear.ensures.items) at c.push_response.ensures.ok

pub returns-clause-enough : goal.returns-clause-enough
unfolding text_of
returns-clause-enough c = λ body_room text_room.
    ok_where_it_fits c.push_response.result _ _ _
    (rw (c.status.ensures.value, c.kind.ensures.value, c.as_slice.ensures.value, c.in_ok-push_body.ensures.ok, c.clear.ensures.items) at c.push_response.ensures.full)
    c.clear-2.ensures.len (omega (arith, text_room, c.clear-2.ensures.capacity))

pub returns-clause-room : goal.returns-clause-room
returns-clause-room c = λ short body_room text_room.
    let items = c.as_slice.ensures.value ∙ c.in_ok-push_body.ensures.ok ∙ ap (λ (xs : List ℕ). xs ++ body_of c.args.told.now) c.clear.ensures.items in
    ok_with_room c.push_response.result _ _ _ c.push_response.ensures.full c.clear-2.ensures.len
    (response_short c.args.closing c.status.result.now c.kind.result.now c.as_slice.result.now c.status.ensures.short c.kind.ensures.short (omega (arith, ap length items, c.in_ok-push_body.ensures.short short)))
    (omega (arith, text_room, c.clear-2.ensures.capacity))
