use Rattle.std.proofs.Common.{Ok, Err, refl, sym, subst}
use Rattle.std.proofs.lemmas.Result.{err_from_is_err_and}
use Rattle.commit_desk.specs.declared.answers.FindFault.TheVariants as find
use Rattle.shard_set.specs.Calls.{AnswersFind, FindsIn}
use Rattle.shard_set.specs.Sets.{SetState, StandsFor}
use Rattle.shard_set.proofs.Asked.{asked_all}
use Rattle.shard_set.proofs.FindLemmas.{asked_or_not, failed_changed, find_answered, find_failed, found_changed, stands-still}
use Rattle.shard_set.proofs.Refusals.{set-after, set_of}
use Rattle.shard_set.proofs.SetLemmas.{nothing}
use Rattle.shard_set.proofs.set.ShardSet.find.Goals as goal

pub invariant_of-self : goal.invariant_of-self
invariant_of-self c =
    let inside = c.self.inside in
    let was = c.self.invariant in
    let after = c.find_each.new.shards.items in
    let changed = failed_changed c.args.query.now inside.shards.items after c.in_err-found.field-0.0 was.lone c.in_err-found.ensures in
    set-after inside.shards.items after inside.homes.entries inside.homes.entries inside.commits inside.commits inside.left.items _ nothing was.list was changed
    (stands-still inside.shards.items after inside.homes.entries inside.commits _ was.list refl changed was.stands)

pub returns-in_err-found-clause-stands : goal.returns-in_err-found-clause-stands
returns-in_err-found-clause-stands c = λ list stands.
    let inside = c.self.inside in
    let after = c.find_each.new.shards.items in
    stands-still inside.shards.items after inside.homes.entries inside.commits c.args.self.now list c.self.view_is
    (failed_changed c.args.query.now inside.shards.items after c.in_err-found.field-0.0 c.self.invariant.lone c.in_err-found.ensures) stands

pub returns-in_err-found-clause-found : goal.returns-in_err-found-clause-found
returns-in_err-found-clause-found c = λ list stands.
    let inside = c.self.inside in
    let after = c.find_each.new.shards.items in
    let fault = c.in_err-found.field-0.0 in
    let stood = subst (λ (s : SetState). StandsFor s list) (sym c.self.view_is) stands in
    let p = err_from_is_err_and c.from_residual.result c.from_residual.ensures.1 in
    rw (p.1, p.2)
    (subst (λ (s : SetState). AnswersFind c.args.query.now list s (set_of after inside.homes.entries inside.commits) (Err fault)) c.self.view_is
    (find_failed inside.shards.items after inside.homes.entries inside.commits c.self.invariant.lone c.self.invariant.some list stood c.args.query.now fault c.in_err-found.ensures))

pub invariant_of-self-in_default : goal.invariant_of-self-in_default
invariant_of-self-in_default c =
    let inside = c.self.inside in
    let was = c.self.invariant in
    let after = c.find_each.new.shards.items in
    let changed = found_changed c.args.query.now inside.homes.entries inside.shards.items after c.in_ok-found.found.items was.lone c.in_ok-found.ensures in
    set-after inside.shards.items after inside.homes.entries inside.homes.entries inside.commits inside.commits inside.left.items _ nothing was.list was changed
    (stands-still inside.shards.items after inside.homes.entries inside.commits _ was.list refl changed was.stands)

pub returns-in_default-clause-stands : goal.returns-in_default-clause-stands
returns-in_default-clause-stands c = λ list stands.
    let inside = c.self.inside in
    let after = c.find_each.new.shards.items in
    stands-still inside.shards.items after inside.homes.entries inside.commits c.args.self.now list c.self.view_is
    (found_changed c.args.query.now inside.homes.entries inside.shards.items after c.in_ok-found.found.items c.self.invariant.lone c.in_ok-found.ensures) stands

pub returns-in_default-clause-found : goal.returns-in_default-clause-found
returns-in_default-clause-found c = λ list stands.
    let inside = c.self.inside in
    let after = c.find_each.new.shards.items in
    subst (λ (s : SetState). AnswersFind c.args.query.now list s (set_of after inside.homes.entries inside.commits) (Err find.Memory)) c.self.view_is
    (asked_or_not (FindsIn c.args.query.now) inside.shards.items after (asked_all (FindsIn c.args.query.now) inside.homes.entries inside.shards.items after c.in_ok-found.found.items c.in_ok-found.ensures))

pub invariant_of-self-2 : goal.invariant_of-self-2
invariant_of-self-2 c =
    let inside = c.self.inside in
    let was = c.self.invariant in
    let after = c.find_each.new.shards.items in
    let changed = found_changed c.args.query.now inside.homes.entries inside.shards.items after c.in_ok-found.found.items was.lone c.in_ok-found.ensures in
    set-after inside.shards.items after inside.homes.entries inside.homes.entries inside.commits inside.commits inside.left.items _ nothing was.list was changed
    (stands-still inside.shards.items after inside.homes.entries inside.commits _ was.list refl changed was.stands)

pub returns-clause-stands : goal.returns-clause-stands
returns-clause-stands c = λ list stands.
    let inside = c.self.inside in
    let after = c.find_each.new.shards.items in
    stands-still inside.shards.items after inside.homes.entries inside.commits c.args.self.now list c.self.view_is
    (found_changed c.args.query.now inside.homes.entries inside.shards.items after c.in_ok-found.found.items c.self.invariant.lone c.in_ok-found.ensures) stands

pub returns-clause-found : goal.returns-clause-found
returns-clause-found c = λ list stands.
    let inside = c.self.inside in
    let after = c.find_each.new.shards.items in
    let stood = subst (λ (s : SetState). StandsFor s list) (sym c.self.view_is) stands in
    subst (λ (s : SetState). AnswersFind c.args.query.now list s (set_of after inside.homes.entries inside.commits) (Ok c.in-Ok.ids)) c.self.view_is
    (find_answered inside.shards.items after inside.homes.entries inside.commits c.self.invariant.lone c.self.invariant.some list stood c.args.query.now c.in_ok-found.found.items c.in-Ok.ids c.in_ok-found.ensures c.in-Ok.ensures)
