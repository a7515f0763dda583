use Rattle.std.proofs.Common.{◌≡◌, ℕ, ◌+◌, cond, length, Some, Ok, Err, inl, sym, refl, ap, subst, ◌∙◌, arith}
use Rattle.std.proofs.lemmas.Result.{err_from_is_err_and}
use Rattle.std.specs.Option.{option_copied}
use Rattle.std.specs.Prelude.{nat_eq}
use Rattle.shard_set.specs.declared.home.Home.{Home}
use Rattle.shard_set.specs.Calls.{AddsTo, AsksOne, IsAdded, RefusesAdd}
use Rattle.shard_set.specs.Parts.{shard_of}
use Rattle.shard_set.specs.Sets.{SetState, StandsFor}
use Rattle.shard_set.proofs.Refusals.{add_made, add_refused, asks_that, changed-refused_add, room_in, set-after, set_of, shard_goes}
use Rattle.shard_set.proofs.SetLemmas.{absent-from, asked-add, changed_none, nothing, stands-same}
use Rattle.shard_set.proofs.set.ShardSet.add.Goals as goal

pub returns-in_default-document : goal.returns-in_default-document
returns-in_default-document c = λ list stands.
    let inside = c.self.inside in
    let stood = subst (λ (s : SetState). StandsFor s list) (sym c.self.view_is) stands in
    let none = sym c.get.ensures.value ∙ ap option_copied c.in_default.is in
    let room = room_in inside.shards.items inside.shards.items inside.homes.entries inside.homes.entries inside.commits c.self.invariant.lone c.if-self-ge-MOST_COMMITS.false list stood in
    (stands, inl (room, absent-from (length inside.shards.items) inside.homes.entries list c.args.id stood.homes none, refl))

pub returns-in_default-reserve : goal.returns-in_default-reserve
returns-in_default-reserve c = λ list stands.
    let inside = c.self.inside in
    let stood = subst (λ (s : SetState). StandsFor s list) (sym c.self.view_is) stands in
    let none = sym c.get.ensures.value ∙ ap option_copied c.in_default.is in
    let room = room_in inside.shards.items inside.shards.items inside.homes.entries inside.homes.entries inside.commits c.self.invariant.lone c.if-self-ge-MOST_COMMITS.false list stood in (
      stands-same inside.shards.items inside.shards.items inside.homes.entries c.reserve.new.self.entries inside.commits list (changed_none inside.shards.items) c.reserve.ensures.entries.2 stood,
      inl (room, absent-from (length inside.shards.items) inside.homes.entries list c.args.id stood.homes none, ap (λ (s : SetState). s.shards) c.self.view_is),
    )

pub invariant_of-self-in_err-ask_add : goal.invariant_of-self-in_err-ask_add
invariant_of-self-in_err-ask_add c =
    let inside = c.self.inside in
    let shards = inside.shards.items in
    let homes = inside.homes.entries in
    let after = c.ask_add.new.shards.items in
    let shard = c.shard_for-shard.result in
    let none = sym c.get.ensures.value ∙ ap option_copied c.in_default.is in
    let goes : shard ≡ shard_of (length shards) c.args.text.now =
    shard_goes (length shards) shard c.len.result c.word_count.result c.in-Ok.doc.text c.args.text.now c.shard_for-shard.ensures.shard (omega (arith, c.len.ensures, inside.shards.ok.0)) c.word_count.ensures c.in-Ok.ensures.text in
    let fault = c.in_err-ask_add.field-0.0 in
    let others = c.reserve.new.self.entries in
    let asks : AsksOne (λ s t. AddsTo c.args.id c.args.text.now s t (Err fault)) shard shards after =
    asks_that (Err fault) shard shards after c.in-Ok.doc.id c.args.id c.in-Ok.doc.text c.args.text.now c.in-Ok.ensures.id c.in-Ok.ensures.text c.in_err-ask_add.ensures in
    let was = c.self.invariant in
    set-after shards after homes others inside.commits inside.commits inside.left.items _ nothing was.list was
    (changed-refused_add c.args.id c.args.text.now fault shard shards after was.lone asks)
    (add_refused shards after homes others inside.commits was.lone c.if-self-ge-MOST_COMMITS.false c.args.id was.list was.stands c.args.text.now shard fault none goes c.reserve.ensures.entries.2 asks).0

pub returns-in_err-ask_add : goal.returns-in_err-ask_add
returns-in_err-ask_add c = λ list stands.
    let inside = c.self.inside in
    let shards = inside.shards.items in
    let homes = inside.homes.entries in
    let after = c.ask_add.new.shards.items in
    let shard = c.shard_for-shard.result in
    let none = sym c.get.ensures.value ∙ ap option_copied c.in_default.is in
    let goes : shard ≡ shard_of (length shards) c.args.text.now =
    shard_goes (length shards) shard c.len.result c.word_count.result c.in-Ok.doc.text c.args.text.now c.shard_for-shard.ensures.shard (omega (arith, c.len.ensures, inside.shards.ok.0)) c.word_count.ensures c.in-Ok.ensures.text in
    let fault = c.in_err-ask_add.field-0.0 in
    let others = c.reserve.new.self.entries in
    let asks : AsksOne (λ s t. AddsTo c.args.id c.args.text.now s t (Err fault)) shard shards after =
    asks_that (Err fault) shard shards after c.in-Ok.doc.id c.args.id c.in-Ok.doc.text c.args.text.now c.in-Ok.ensures.id c.in-Ok.ensures.text c.in_err-ask_add.ensures in
    let stood = subst (λ (s : SetState). StandsFor s list) (sym c.self.view_is) stands in
    let p = err_from_is_err_and c.from_residual.result c.from_residual.ensures.1 in
    rw (p.1, p.2)
    (subst (λ (s : SetState). StandsFor (set_of after others inside.commits) list × RefusesAdd c.args.id c.args.text.now list s (set_of after others inside.commits) fault) c.self.view_is
    (add_refused shards after homes others inside.commits c.self.invariant.lone c.if-self-ge-MOST_COMMITS.false c.args.id list stood c.args.text.now shard fault none goes c.reserve.ensures.entries.2 asks))

pub invariant_of-self-2 : goal.invariant_of-self-2
invariant_of-self-2 c =
    let inside = c.self.inside in
    let shards = inside.shards.items in
    let homes = inside.homes.entries in
    let after = c.ask_add.new.shards.items in
    let shard = c.shard_for-shard.result in
    let none = sym c.get.ensures.value ∙ ap option_copied c.in_default.is in
    let goes : shard ≡ shard_of (length shards) c.args.text.now =
    shard_goes (length shards) shard c.len.result c.word_count.result c.in-Ok.doc.text c.args.text.now c.shard_for-shard.ensures.shard (omega (arith, c.len.ensures, inside.shards.ok.0)) c.word_count.ensures c.in-Ok.ensures.text in
    let own = c.in_ok-ask_add.field-0 in
    let others = c.insert.new.self.entries in
    let asks : AsksOne (λ s t. AddsTo c.args.id c.args.text.now s t (Ok own)) shard shards after =
    asks_that (Ok own) shard shards after c.in-Ok.doc.id c.args.id c.in-Ok.doc.text c.args.text.now c.in-Ok.ensures.id c.in-Ok.ensures.text c.in_ok-ask_add.ensures in
    let home : Home = record { shard = shard; place = inside.commits + 1 } in
    let update = λ (q : ℕ). c.in-Ok-insert.ensures.updates.0 q ∙ ap (λ o. cond (nat_eq c.args.id q) (Some home) o) (c.reserve.ensures.entries.2 q) in
    let was = c.self.invariant in
    let made = add_made shards after homes others inside.commits was.lone c.if-self-ge-MOST_COMMITS.false c.args.id was.list was.stands c.args.text.now shard own none goes asks update in
    set-after shards after homes others inside.commits (inside.commits + 1) inside.left.items _ _ _ was
    (asked-add c.args.id c.args.text.now (Ok own) shard shards after was.lone asks) made.stands

pub returns : goal.returns
returns c = λ list stands.
    let inside = c.self.inside in
    let shards = inside.shards.items in
    let homes = inside.homes.entries in
    let after = c.ask_add.new.shards.items in
    let shard = c.shard_for-shard.result in
    let none = sym c.get.ensures.value ∙ ap option_copied c.in_default.is in
    let goes : shard ≡ shard_of (length shards) c.args.text.now =
    shard_goes (length shards) shard c.len.result c.word_count.result c.in-Ok.doc.text c.args.text.now c.shard_for-shard.ensures.shard (omega (arith, c.len.ensures, inside.shards.ok.0)) c.word_count.ensures c.in-Ok.ensures.text in
    let own = c.in_ok-ask_add.field-0 in
    let others = c.insert.new.self.entries in
    let asks : AsksOne (λ s t. AddsTo c.args.id c.args.text.now s t (Ok own)) shard shards after =
    asks_that (Ok own) shard shards after c.in-Ok.doc.id c.args.id c.in-Ok.doc.text c.args.text.now c.in-Ok.ensures.id c.in-Ok.ensures.text c.in_ok-ask_add.ensures in
    let home : Home = record { shard = shard; place = inside.commits + 1 } in
    let update = λ (q : ℕ). c.in-Ok-insert.ensures.updates.0 q ∙ ap (λ o. cond (nat_eq c.args.id q) (Some home) o) (c.reserve.ensures.entries.2 q) in
    let stood = subst (λ (s : SetState). StandsFor s list) (sym c.self.view_is) stands in
    subst (λ (s : SetState). IsAdded c.args.id c.args.text.now list s (set_of after others (inside.commits + 1)) (inside.commits + 1)) c.self.view_is
    (add_made shards after homes others inside.commits c.self.invariant.lone c.if-self-ge-MOST_COMMITS.false c.args.id list stood c.args.text.now shard own none goes asks update)
