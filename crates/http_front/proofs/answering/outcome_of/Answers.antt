use Rattle.std.proofs.Common.{inl, arith}
use Rattle.httparse.specs.Spans.{span_bytes}
use Rattle.http_front.specs.Routes.{Add, Delete, Find, Get, Journal, Metrics, Place, Put, Query, Recycle, Stats, Tune, told_seen}
use Rattle.http_front.proofs.AnswerLaws.{routed, unrouted, value_fits}
use Rattle.http_front.proofs.answering.outcome_of.Goals as goal

pub find-requires : goal.find-requires
find-requires g c =
    let fits =
    value_fits c.args.bytes.now c.args.parts.now (Find (told_seen c.in-Some-Find.told) c.in-Some-Find.value.now) c.requires.whole
    (rw (c.of.ensures, c.of-2.ensures, c.in-Some-Find.field-0-is) at c.in-Some-Find.ensures) in
    omega (arith, fits, c.requires.room)

pub query-requires : goal.query-requires
query-requires g c =
    let fits =
    value_fits c.args.bytes.now c.args.parts.now (Query (told_seen c.in-Some-Query.told) c.in-Some-Query.value.now) c.requires.whole
    (rw (c.of.ensures, c.of-2.ensures, c.in-Some-Query.field-0-is) at c.in-Some-Query.ensures) in
    omega (arith, fits, c.requires.room)

pub returns-in-Some-Add-clause-answers : goal.returns-in-Some-Add-clause-answers
returns-in-Some-Add-clause-answers g c =
    routed (g.S.Service.caller c.args.service.now) (g.S.Service.front c.args.service.now) (g.S.Service.front c.add.new.service) c.args.bytes.now c.args.parts.now
    Add c.add.result c.requires.whole (rw (c.of.ensures, c.of-2.ensures, c.in-Some-Add.field-0-is) at c.in-Some-Add.ensures)
    (rw c.of-body.ensures at c.add.ensures.answers)

pub returns-in-Some-Put-clause-answers : goal.returns-in-Some-Put-clause-answers
returns-in-Some-Put-clause-answers g c =
    routed (g.S.Service.caller c.args.service.now) (g.S.Service.front c.args.service.now) (g.S.Service.front c.put.new.service) c.args.bytes.now c.args.parts.now
    (Put c.in-Some-Put.id) c.put.result c.requires.whole (rw (c.of.ensures, c.of-2.ensures, c.in-Some-Put.field-0-is) at c.in-Some-Put.ensures)
    (rw c.of-body.ensures at c.put.ensures.answers)

pub returns-in-Some-Get-clause-answers : goal.returns-in-Some-Get-clause-answers
returns-in-Some-Get-clause-answers g c =
    routed (g.S.Service.caller c.args.service.now) (g.S.Service.front c.args.service.now) (g.S.Service.front c.ask.new.service) c.args.bytes.now c.args.parts.now
    (Get c.in-Some-Get.id) c.ask.result c.requires.whole (rw (c.of.ensures, c.of-2.ensures, c.in-Some-Get.field-0-is) at c.in-Some-Get.ensures)
    (λ closing. inl c.ask.ensures.answers)

pub returns-in-Some-Delete-clause-answers : goal.returns-in-Some-Delete-clause-answers
returns-in-Some-Delete-clause-answers g c =
    routed (g.S.Service.caller c.args.service.now) (g.S.Service.front c.args.service.now) (g.S.Service.front c.ask-in-Some-Delete.new.service) c.args.bytes.now c.args.parts.now
    (Delete c.in-Some-Delete.id) c.ask-in-Some-Delete.result c.requires.whole (rw (c.of.ensures, c.of-2.ensures, c.in-Some-Delete.field-0-is) at c.in-Some-Delete.ensures)
    (λ closing. inl c.ask-in-Some-Delete.ensures.answers)

pub returns-in-Some-Find-clause-answers : goal.returns-in-Some-Find-clause-answers
returns-in-Some-Find-clause-answers g c =
    routed (g.S.Service.caller c.args.service.now) (g.S.Service.front c.args.service.now) (g.S.Service.front c.find.new.service) c.args.bytes.now c.args.parts.now
    (Find (told_seen c.in-Some-Find.told) c.in-Some-Find.value.now) c.find.result c.requires.whole (rw (c.of.ensures, c.of-2.ensures, c.in-Some-Find.field-0-is) at c.in-Some-Find.ensures)
    (c.find.ensures.answers (span_bytes c.args.bytes.now c.args.parts.now.body))

pub returns-in-Some-Query-clause-answers : goal.returns-in-Some-Query-clause-answers
returns-in-Some-Query-clause-answers g c =
    routed (g.S.Service.caller c.args.service.now) (g.S.Service.front c.args.service.now) (g.S.Service.front c.query.new.service) c.args.bytes.now c.args.parts.now
    (Query (told_seen c.in-Some-Query.told) c.in-Some-Query.value.now) c.query.result c.requires.whole (rw (c.of.ensures, c.of-2.ensures, c.in-Some-Query.field-0-is) at c.in-Some-Query.ensures)
    (c.query.ensures.answers (span_bytes c.args.bytes.now c.args.parts.now.body))

pub returns-in-Some-Place-clause-answers : goal.returns-in-Some-Place-clause-answers
returns-in-Some-Place-clause-answers g c =
    routed (g.S.Service.caller c.args.service.now) (g.S.Service.front c.args.service.now) (g.S.Service.front c.ask-in-Some-Place.new.service) c.args.bytes.now c.args.parts.now
    Place c.ask-in-Some-Place.result c.requires.whole (rw (c.of.ensures, c.of-2.ensures, c.in-Some-Place.field-0-is) at c.in-Some-Place.ensures)
    (λ closing. inl c.ask-in-Some-Place.ensures.answers)

pub returns-in-Some-Stats-clause-answers : goal.returns-in-Some-Stats-clause-answers
returns-in-Some-Stats-clause-answers g c =
    routed (g.S.Service.caller c.args.service.now) (g.S.Service.front c.args.service.now) (g.S.Service.front c.ask-in-Some-Stats.new.service) c.args.bytes.now c.args.parts.now
    Stats c.ask-in-Some-Stats.result c.requires.whole (rw (c.of.ensures, c.of-2.ensures, c.in-Some-Stats.field-0-is) at c.in-Some-Stats.ensures)
    (λ closing. inl c.ask-in-Some-Stats.ensures.answers)

pub returns-in-Some-Metrics-clause-answers : goal.returns-in-Some-Metrics-clause-answers
returns-in-Some-Metrics-clause-answers g c =
    routed (g.S.Service.caller c.args.service.now) (g.S.Service.front c.args.service.now) (g.S.Service.front c.ask-in-Some-Metrics.new.service) c.args.bytes.now c.args.parts.now
    Metrics c.ask-in-Some-Metrics.result c.requires.whole (rw (c.of.ensures, c.of-2.ensures, c.in-Some-Metrics.field-0-is) at c.in-Some-Metrics.ensures)
    (λ closing. inl c.ask-in-Some-Metrics.ensures.answers)

pub returns-in-Some-Journal-clause-answers : goal.returns-in-Some-Journal-clause-answers
returns-in-Some-Journal-clause-answers g c =
    routed (g.S.Service.caller c.args.service.now) (g.S.Service.front c.args.service.now) (g.S.Service.front c.ask-in-Some-Journal.new.service) c.args.bytes.now c.args.parts.now
    (Journal c.in-Some-Journal.from) c.ask-in-Some-Journal.result c.requires.whole (rw (c.of.ensures, c.of-2.ensures, c.in-Some-Journal.field-0-is) at c.in-Some-Journal.ensures)
    (λ closing. inl c.ask-in-Some-Journal.ensures.answers)

pub returns-in-Some-Recycle-clause-answers : goal.returns-in-Some-Recycle-clause-answers
returns-in-Some-Recycle-clause-answers g c =
    routed (g.S.Service.caller c.args.service.now) (g.S.Service.front c.args.service.now) (g.S.Service.front c.ask-in-Some-Recycle.new.service) c.args.bytes.now c.args.parts.now
    Recycle c.ask-in-Some-Recycle.result c.requires.whole (rw (c.of.ensures, c.of-2.ensures, c.in-Some-Recycle.field-0-is) at c.in-Some-Recycle.ensures)
    (λ closing. inl c.ask-in-Some-Recycle.ensures.answers)

pub returns-in-Some-Tune-clause-answers : goal.returns-in-Some-Tune-clause-answers
returns-in-Some-Tune-clause-answers g c =
    routed (g.S.Service.caller c.args.service.now) (g.S.Service.front c.args.service.now) (g.S.Service.front c.tune.new.service) c.args.bytes.now c.args.parts.now
    Tune c.tune.result c.requires.whole (rw (c.of.ensures, c.of-2.ensures, c.in-Some-Tune.field-0-is) at c.in-Some-Tune.ensures)
    (rw c.of-body.ensures at c.tune.ensures.answers)

pub returns-in-None-clause-answers : goal.returns-in-None-clause-answers
returns-in-None-clause-answers g c =
    unrouted (g.S.Service.caller c.args.service.now) (g.S.Service.front c.args.service.now) c.args.bytes.now c.args.parts.now c.requires.whole
    (rw (c.of.ensures, c.of-2.ensures) at c.in-None.ensures)
