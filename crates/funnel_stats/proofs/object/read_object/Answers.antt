-- The object is that of the value which the bytes are.
use Rattle.std.proofs.Common.{◌∙◌, Some, sym, ap}
use Rattle.std.proofs.lemmas.Bool.{true≢false}
use Rattle.serde_json.specs.View.{view, members_view}
use Rattle.funnel_stats.proofs.ObjectLemmas.{object_of-empty, object_of-value, object_of-none, ok_or-object, ok_or-no_object}
use Rattle.funnel_stats.proofs.object.read_object.Goals as goal

pub returns-then-is_empty-clause-ok : goal.returns-then-is_empty-clause-ok
returns-then-is_empty-clause-ok c =
    object_of-empty c.args.bytes.now (sym c.is_empty.ensures ∙ c.if-is_empty.true)
    ∙ ap (λ es. Some (members_view es)) (sym c.new.ensures.empty)

pub returns-in-Ok-clause-ok : goal.returns-in-Ok-clause-ok
returns-in-Ok-clause-ok c =
    let read = c.in-Ok.ensures.ok in
    let some = sym c.is_empty.ensures ∙ c.if-is_empty.false in
    ok_or-object c.args.bytes.now c.object_in.result c.ok_or.result
    (c.object_in.ensures ∙ sym (object_of-value c.args.bytes.now (view c.in-Ok.value) some read.0 read.1)) c.ok_or.ensures.value

pub returns-in-Ok-clause-err : goal.returns-in-Ok-clause-err
returns-in-Ok-clause-err c =
    let read = c.in-Ok.ensures.ok in
    let some = sym c.is_empty.ensures ∙ c.if-is_empty.false in
    ok_or-no_object c.args.bytes.now c.object_in.result c.ok_or.result
    (c.object_in.ensures ∙ sym (object_of-value c.args.bytes.now (view c.in-Ok.value) some read.0 read.1)) c.ok_or.ensures.value

pub returns-in-Err-2-clause-err : goal.returns-in-Err-2-clause-err
returns-in-Err-2-clause-err c =
    let some = sym c.is_empty.ensures ∙ c.if-is_empty.false in
    object_of-none c.args.bytes.now some
    (c.in-Err.ensures.err (λ memory. true≢false (sym (c.is_memory.ensures.1 memory) ∙ c.if-is_memory.false)))
