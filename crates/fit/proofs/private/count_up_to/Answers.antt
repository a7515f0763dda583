use Rattle.std.proofs.Common.{◌∙◌, ap, arith, map, take, take_all}
use Rattle.std.proofs.lemmas.List.{length-take}
use Rattle.fit.proofs.Privates.{between_at, count-more, count-small, from_is, from_small}
use Rattle.fit.specs.Privates.{count_up_to}
use Rattle.fit.specs.Steps.{ranked}
use Rattle.fit.proofs.private.count_up_to.Goals as goal

pub is_up_to-requires-clause-some : goal.is_up_to-requires-clause-some
is_up_to-requires-clause-some c =
    (between_at c.args.documents c.args.first.now c.loop-count.count-index c.loop-count-item.result c.loop-count-test.true c.loop-count-item.is c.requires.counted).0

pub is_up_to-requires-clause-within : goal.is_up_to-requires-clause-within
is_up_to-requires-clause-within c =
    (between_at c.args.documents c.args.first.now c.loop-count.count-index c.loop-count-item.result c.loop-count-test.true c.loop-count-item.is c.requires.counted).1

pub overflow_add-words : goal.overflow_add-words
overflow_add-words c =
    let i = c.loop-count.count-index in
    let first = c.args.first.now in
    omega (arith, c.loop-count.invariant, count-small c.args.documents c.args.last (take i first), length-take i first, c.requires.few, c.from-words.ensures, from_small c.is_up_to.result)

pub loop-count-preserved : goal.loop-count-preserved
loop-count-preserved c =
    let i = c.loop-count.count-index in
    let item = c.loop-count-item.result in
    let next = count-more c.args.documents c.args.last c.args.first.now i item c.is_up_to.result c.loop-count-test.true c.loop-count-item.is c.is_up_to.ensures in
    omega (arith, next, c.loop-count.invariant, c.from-words.ensures, from_is c.is_up_to.result)

pub returns : goal.returns
returns c = c.loop-count.invariant ∙ ap (λ es. count_up_to c.args.documents c.args.last (map ranked es)) (take_all c.loop-count.count-index c.args.first.now c.loop-count-test.false)
