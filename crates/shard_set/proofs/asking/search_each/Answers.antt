use Rattle.std.proofs.Common.{◌≡◌, ◌<◌, List, length, set, drop, Ok, sym, subst, arith}
use Rattle.std.proofs.lemmas.List.{length-set}
use Rattle.std.proofs.lemmas.Result.{err_from_is_err_and}
use Rattle.engine.specs.Solos.{SoloState}
use Rattle.shard_set.specs.Asking.{HasFound, IsSearchFault}
use Rattle.shard_set.specs.Calls.{AsksEach, AsksOrNot, SearchesIn}
use Rattle.shard_set.proofs.Asked.{asked_some, search_fault, found_more, found_none, written_back}
use Rattle.shard_set.proofs.asking.search_each.Goals as goal

pub loop-shard-init : goal.loop-shard-init
loop-shard-init c = found_none (SearchesIn c.args.text.now) c.args.homes.now.entries c.args.shards.now.items _ _ c.deref_mut-shard-items.ensures.value c.new-found.ensures.items

pub loop-shard-preserved : goal.loop-shard-preserved
loop-shard-preserved c =
    let did = c.in_ok-ids.ensures in
    found_more (SearchesIn c.args.text.now) c.args.homes.now.entries c.args.shards.now.items c.loop-shard.shard-index c.loop-shard.shard-items c.loop-shard.found.items c.loop-shard.invariant
    (omega (arith, c.loop-shard.auto.shard-items)) c.shard-item.result c.query.new.self c.in_ok-ids.ids _ (record { pool = did.pool; call = did.call; turns = did.turns }) c.in-Ok.ensures

pub returns-in_err-ids : goal.returns-in_err-ids
returns-in_err-ids c =
    let p = err_from_is_err_and c.from_residual.result c.from_residual.ensures.1 in
    let did = c.in_err-ids.ensures in
    let before = c.args.shards.now.items in
    let items = c.loop-shard.shard-items in
    let i = c.loop-shard.shard-index in
    let fault = c.in_err-ids.field-0.0 in
    let in' : i < length items = omega (arith, c.loop-shard.auto.shard-items) in
    let whole : c.args.shards.now.len ≡ length (set items i c.query.new.self) = omega (arith, length-set items i c.query.new.self, c.loop-shard.invariant.count, c.args.shards.now.ok.0) in
    rw (p.1, p.2)
    (subst (λ (ss : List SoloState). IsSearchFault c.args.text.now before ss fault)
    (sym (written_back c.args.shards.now.len (set items i c.query.new.self) (drop (length (set items i c.query.new.self)) before) whole))
    (search_fault c.args.text.now c.args.homes.now.entries before i items c.loop-shard.found.items c.loop-shard.invariant in' c.shard-item.result c.query.new.self fault
    (record { pool = did.pool; call = did.call; turns = did.turns })))

pub returns-in_default : goal.returns-in_default
returns-in_default c =
    let did = c.in_ok-ids.ensures in
    let before = c.args.shards.now.items in
    let items = c.loop-shard.shard-items in
    let i = c.loop-shard.shard-index in
    let in' : i < length items = omega (arith, c.loop-shard.auto.shard-items) in
    let whole : c.args.shards.now.len ≡ length (set items i c.query.new.self) = omega (arith, length-set items i c.query.new.self, c.loop-shard.invariant.count, c.args.shards.now.ok.0) in
    subst (AsksEach (AsksOrNot (SearchesIn c.args.text.now)) before)
    (sym (written_back c.args.shards.now.len (set items i c.query.new.self) (drop (length (set items i c.query.new.self)) before) whole))
    (asked_some (SearchesIn c.args.text.now) c.args.homes.now.entries before i items c.loop-shard.found.items c.loop-shard.invariant in' c.shard-item.result c.query.new.self (Ok c.in_ok-ids.ids)
    (record { pool = did.pool; call = did.call; turns = did.turns }))

pub returns : goal.returns
returns c =
    let before = c.args.shards.now.items in
    let items = c.loop-shard.shard-items in
    let all : c.loop-shard.shard-index ≡ length before = omega (arith, c.loop-shard.auto.shard-items, c.loop-shard.invariant.count) in
    let whole : c.args.shards.now.len ≡ length items = omega (arith, c.loop-shard.invariant.count, c.args.shards.now.ok.0) in
    subst (λ (ss : List SoloState). HasFound (SearchesIn c.args.text.now) c.args.homes.now.entries before (length before) ss c.loop-shard.found.items)
    (sym (written_back c.args.shards.now.len items (drop (length items) before) whole))
    (subst (λ n. HasFound (SearchesIn c.args.text.now) c.args.homes.now.entries before n items c.loop-shard.found.items) all c.loop-shard.invariant)
