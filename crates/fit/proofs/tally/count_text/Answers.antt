use Rattle.std.proofs.Common.{◌≤◌, length, arith}
use Rattle.fit.proofs.Counting.{counted-push}
use Rattle.fit.proofs.Sets.{length-set}
use Rattle.fit.specs.Steps.{entries_of}
use Rattle.fit.proofs.tally.count_text.Goals as goal

pub count_words-requires : goal.count_words-requires
count_words-requires c =
    let few : length c.in-Ok.set ≤ length c.args.text.now = length-set c.args.text.now c.in-Ok.set c.len-distinct.ensures.rising c.in-Ok.ensures c.utf8.text in
    record { room = omega (arith, c.requires.short, c.requires.room, c.requires.sums.together, c.requires.sums.few, few) }

pub overflow_add-tally-2 : goal.overflow_add-tally-2
overflow_add-tally-2 c =
    let few : length c.in-Ok.set ≤ length c.args.text.now = length-set c.args.text.now c.in-Ok.set c.len-distinct.ensures.rising c.in-Ok.ensures c.utf8.text in
    omega (arith, c.requires.short, c.requires.room, c.requires.sums.together, c.requires.sums.few, few, c.len-distinct.ensures.count)

pub returns-clause-counted : goal.returns-clause-counted
returns-clause-counted c texts counted =
    rw c.len-distinct.ensures.count (counted-push texts (entries_of c.args.tally.now.counts.entries) (entries_of c.count_words.new.counts.entries) _ _ c.args.text.now c.in-Ok.set
    c.utf8.text c.requires.short c.len-distinct.ensures.rising c.in-Ok.ensures c.in_ok-count_words.ensures.counted counted)
