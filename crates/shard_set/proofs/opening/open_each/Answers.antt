use Rattle.std.proofs.Common.{◌++◌, ◌∷◌, [], List, length, sym, subst, ◌∙◌, arith}
use Rattle.std.proofs.lemmas.Iterator.Adapters.{YieldsList-from_vec}
use Rattle.std.proofs.lemmas.Iterator.Consumers.{YieldsList-end, YieldsList-turn}
use Rattle.std.proofs.lemmas.List.{map-id}
use Rattle.std.specs.List.{AllZip}
use Rattle.funnel_model.specs.Configuration.{IsValid}
use Rattle.funnel_model.specs.declared.config.Config.{Config}
use Rattle.shard_set.specs.Opening.{IsOpened}
use Rattle.shard_set.proofs.Lists.{zip-push, zip_length}
use Rattle.shard_set.proofs.opening.open_each.Goals as goal

pub loop-config-init : goal.loop-config-init
loop-config-init c = (tt, tt, subst (AllZip IsOpened []) (sym c.in_ok-shards.ensures.items) tt, omega (arith, c.in_ok-shards.ensures.capacity, c.len.ensures, c.args.configs.ok.0))

pub loop-config-preserved : goal.loop-config-preserved
loop-config-preserved c =
    let did = c.in_ok-open.ensures in
    let opened : IsOpened c.in-Some.config c.in_ok-open.field-0 = record { config_is = did.config; limits = did.limits; empty = did.empty } in (
      tt,
      tt,
      subst (AllZip IsOpened (c.loop-config.yielded ++ c.in-Some.config ∷ [])) (sym c.push_reserved.ensures.items)
          (zip-push IsOpened c.loop-config.yielded c.loop-config.shards.items c.in-Some.config c.in_ok-open.field-0 c.loop-config.invariant.2 opened),
      omega (arith, c.loop-config.invariant.3, c.push_reserved.ensures.capacity),
    )

pub open-requires : goal.open-requires
open-requires c =
    let gives = c.into_iter-config-iterator.ensures.into_iter_gives in
    let turn = YieldsList-turn (YieldsList-from_vec {s = c.into_iter-config-iterator.result} c.args.configs.items gives.0 (gives.1 ∙ c.args.configs.ok.0)) c.loop-config.yielded _ c.loop-config.yielded_by _ c.next.new.self
    c.in-Some.config c.in-Some.is c.next.ensures.steps in
    record { valid = subst IsValid (sym turn.1) (c.requires.valid (length c.loop-config.yielded) c.in-Some.config turn.0) }

pub push_reserved-requires : goal.push_reserved-requires
push_reserved-requires c =
    let gives = c.into_iter-config-iterator.ensures.into_iter_gives in
    let turn = YieldsList-turn (YieldsList-from_vec {s = c.into_iter-config-iterator.result} c.args.configs.items gives.0 (gives.1 ∙ c.args.configs.ok.0)) c.loop-config.yielded _ c.loop-config.yielded_by _ c.next.new.self
    c.in-Some.config c.in-Some.is c.next.ensures.steps in
    let as_many = zip_length IsOpened c.loop-config.yielded c.loop-config.shards.items c.loop-config.invariant.2 in
    omega (arith, turn.0, as_many, c.loop-config.invariant.3, c.loop-config.shards.ok.0)

pub returns : goal.returns
returns c =
    let gives = c.into_iter-config-iterator.ensures.into_iter_gives in
    let all = YieldsList-end (YieldsList-from_vec {s = c.into_iter-config-iterator.result} c.args.configs.items gives.0 (gives.1 ∙ c.args.configs.ok.0)) c.loop-config.yielded _ c.loop-config.yielded_by _
    c.next.new.self c.in-None.is c.next.ensures.steps in
    record { opened = subst (λ (cs : List Config). AllZip IsOpened cs c.loop-config.shards.items) (sym (map-id c.loop-config.yielded) ∙ all.0) c.loop-config.invariant.2 }
