use Rattle.std.proofs.Common.{◌+◌, ◌<◌, length, Ok, sym, refl, ap, subst, ◌∙◌}
use Rattle.std.proofs.lemmas.Result.{err_from_is_err_and}
use Rattle.std.specs.Option.{option_copied}
use Rattle.shard_set.specs.Calls.{IsDeleted, RefusesDelete}
use Rattle.shard_set.specs.Sets.{SetState, StandsFor}
use Rattle.shard_set.proofs.Refusals.{changed-refused_delete, delete_made, delete_refused, room_in, set-after, set_of}
use Rattle.shard_set.proofs.SetLemmas.{absent-from, asked-delete, home-from, nothing}
use Rattle.shard_set.proofs.Shards.{shard_below}
use Rattle.shard_set.proofs.set.ShardSet.delete.Goals as goal

pub returns-in_default : goal.returns-in_default
returns-in_default c = λ list stands.
    let inside = c.self.inside in
    let stood = subst (λ (s : SetState). StandsFor s list) (sym c.self.view_is) stands in
    let none = sym c.get.ensures.value ∙ ap option_copied c.in_default.is in (
      stands,
      (
        room_in inside.shards.items inside.shards.items inside.homes.entries inside.homes.entries inside.commits c.self.invariant.lone c.if-self-ge-MOST_COMMITS.false list stood,
        absent-from (length inside.shards.items) inside.homes.entries list c.args.id stood.homes none,
        refl,
      ),
    )

pub ask_delete-requires : goal.ask_delete-requires
ask_delete-requires c =
    let inside = c.self.inside in
    let home = c.in-Some.home.now in
    let at = sym c.get.ensures.value ∙ ap option_copied c.in-Some.is in
    let found = home-from (length inside.shards.items) inside.homes.entries c.self.invariant.list c.args.id home c.self.invariant.stands.homes at in
    record { in_range = subst (λ k. k < length inside.shards.items) (sym (ap (λ h. h.shard) found.2)) (shard_below (length inside.shards.items) _ c.self.invariant.some) }

pub invariant_of-self : goal.invariant_of-self
invariant_of-self c =
    let inside = c.self.inside in
    let home = c.in-Some.home.now in
    let at = sym c.get.ensures.value ∙ ap option_copied c.in-Some.is in
    let after = c.ask_delete.new.shards.items in
    let fault = c.in_err-ask_delete.field-0.0 in
    let asks = c.in_err-ask_delete.ensures in
    let was = c.self.invariant in
    set-after inside.shards.items after inside.homes.entries inside.homes.entries inside.commits inside.commits inside.left.items _ nothing was.list was
    (changed-refused_delete c.args.id fault home.shard inside.shards.items after was.lone asks)
    (delete_refused inside.shards.items after inside.homes.entries inside.homes.entries inside.commits was.lone c.if-self-ge-MOST_COMMITS.false c.args.id was.list was.stands home fault at asks).0

pub returns-in_err-ask_delete : goal.returns-in_err-ask_delete
returns-in_err-ask_delete c = λ list stands.
    let inside = c.self.inside in
    let home = c.in-Some.home.now in
    let at = sym c.get.ensures.value ∙ ap option_copied c.in-Some.is in
    let after = c.ask_delete.new.shards.items in
    let fault = c.in_err-ask_delete.field-0.0 in
    let asks = c.in_err-ask_delete.ensures in
    let stood = subst (λ (s : SetState). StandsFor s list) (sym c.self.view_is) stands in
    let p = err_from_is_err_and c.from_residual.result c.from_residual.ensures.1 in
    rw (p.1, p.2)
    (subst (λ (s : SetState). StandsFor (set_of after inside.homes.entries inside.commits) list × RefusesDelete c.args.id list s (set_of after inside.homes.entries inside.commits) fault) c.self.view_is
    (delete_refused inside.shards.items after inside.homes.entries inside.homes.entries inside.commits c.self.invariant.lone c.if-self-ge-MOST_COMMITS.false c.args.id list stood home fault at asks))

pub invariant_of-self-2 : goal.invariant_of-self-2
invariant_of-self-2 c =
    let inside = c.self.inside in
    let home = c.in-Some.home.now in
    let at = sym c.get.ensures.value ∙ ap option_copied c.in-Some.is in
    let after = c.ask_delete.new.shards.items in
    let own = c.in_ok-ask_delete.field-0 in
    let asks = c.in_ok-ask_delete.ensures in
    let was = c.self.invariant in
    let made = delete_made inside.shards.items after inside.homes.entries c.remove.new.self.entries inside.commits was.lone c.if-self-ge-MOST_COMMITS.false c.args.id was.list was.stands home own at asks c.remove.ensures.updates.0 in
    set-after inside.shards.items after inside.homes.entries c.remove.new.self.entries inside.commits (inside.commits + 1) inside.left.items _ _ _ was
    (asked-delete c.args.id (Ok own) home.shard inside.shards.items after was.lone asks) made.stands

pub returns : goal.returns
returns c = λ list stands.
    let inside = c.self.inside in
    let home = c.in-Some.home.now in
    let at = sym c.get.ensures.value ∙ ap option_copied c.in-Some.is in
    let after = c.ask_delete.new.shards.items in
    let own = c.in_ok-ask_delete.field-0 in
    let stood = subst (λ (s : SetState). StandsFor s list) (sym c.self.view_is) stands in
    subst (λ (s : SetState). IsDeleted c.args.id list s (set_of after c.remove.new.self.entries (inside.commits + 1)) (inside.commits + 1)) c.self.view_is
    (delete_made inside.shards.items after inside.homes.entries c.remove.new.self.entries inside.commits c.self.invariant.lone c.if-self-ge-MOST_COMMITS.false c.args.id list stood home own at c.in_ok-ask_delete.ensures c.remove.ensures.updates.0)
