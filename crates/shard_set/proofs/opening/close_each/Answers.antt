use Rattle.std.proofs.Common.{◌++◌, ◌∷◌, [], List, sym, subst, ◌∙◌, arith}
use Rattle.std.proofs.lemmas.Iterator.Adapters.{YieldsList-from_vec}
use Rattle.std.proofs.lemmas.Iterator.Consumers.{YieldsList-end, YieldsList-turn}
use Rattle.std.proofs.lemmas.List.{map-id}
use Rattle.std.specs.List.{AllZip}
use Rattle.engine.specs.Solos.{SoloState}
use Rattle.shard_set.specs.Opening.{IsLeftOf}
use Rattle.shard_set.proofs.Lists.{zip-push, zip_length}
use Rattle.shard_set.proofs.opening.close_each.Goals as goal

pub loop-shard-init : goal.loop-shard-init
loop-shard-init c = (tt, tt, subst (AllZip IsLeftOf []) (sym c.requires.none) tt, c.requires.room)

pub loop-shard-preserved : goal.loop-shard-preserved
loop-shard-preserved c =
    let did = c.close.ensures in
    let left : IsLeftOf c.in-Some.shard c.close.result = record { history = did.history; legal = did.legal; sound = did.sound; caused = did.caused; base_is = did.base; commits = did.commits; events = did.events } in (
      tt,
      tt,
      subst (AllZip IsLeftOf (c.loop-shard.yielded ++ c.in-Some.shard ∷ [])) (sym c.push_reserved.ensures.items)
          (zip-push IsLeftOf c.loop-shard.yielded c.loop-shard.left.items c.in-Some.shard c.close.result c.loop-shard.invariant.2 left),
      omega (arith, c.loop-shard.invariant.3, c.push_reserved.ensures.capacity),
    )

pub push_reserved-requires : goal.push_reserved-requires
push_reserved-requires c =
    let gives = c.into_iter-shard-iterator.ensures.into_iter_gives in
    let turn = YieldsList-turn (YieldsList-from_vec {s = c.into_iter-shard-iterator.result} c.args.shards.items gives.0 (gives.1 ∙ c.args.shards.ok.0)) c.loop-shard.yielded _ c.loop-shard.yielded_by _ c.next.new.self
    c.in-Some.shard c.in-Some.is c.next.ensures.steps in
    let as_many = zip_length IsLeftOf c.loop-shard.yielded c.loop-shard.left.items c.loop-shard.invariant.2 in
    omega (arith, turn.0, as_many, c.loop-shard.invariant.3, c.loop-shard.left.ok.0)

pub returns : goal.returns
returns c =
    let gives = c.into_iter-shard-iterator.ensures.into_iter_gives in
    let all = YieldsList-end (YieldsList-from_vec {s = c.into_iter-shard-iterator.result} c.args.shards.items gives.0 (gives.1 ∙ c.args.shards.ok.0)) c.loop-shard.yielded _ c.loop-shard.yielded_by _ c.next.new.self
    c.in-None.is c.next.ensures.steps in
    subst (λ (ss : List SoloState). AllZip IsLeftOf ss c.loop-shard.left.items) (sym (map-id c.loop-shard.yielded) ∙ all.0) c.loop-shard.invariant.2
