use Rattle.std.proofs.Common.{[], arith}
use Rattle.shard_set.proofs.Lists.{zip_length}
use Rattle.shard_set.proofs.OpenLemmas.{lone-all, stands-opened}
use Rattle.shard_set.specs.Opening.{IsOpened}
use Rattle.shard_set.proofs.set.ShardSet.open.Goals as goal

pub invariant_of-result : goal.invariant_of-result
invariant_of-result c =
    let configs = c.args.configs.items in
    let shards = c.in_ok-shards.shards.items in
    let opened = c.in_ok-shards.ensures.opened in
    let as_many = zip_length IsOpened configs shards opened in
    record {
      some = omega (arith, as_many, c.args.configs.ok.0, c.requires.some);
      few = omega (arith, as_many, c.args.configs.ok.0, c.requires.few);
      lone = lone-all configs shards opened;
      list = [];
      stands = stands-opened configs shards c.new.result.entries opened c.new.ensures.empty;
      none_left = c.in_ok-left.ensures.items;
      room_for_each = omega (arith, c.in_ok-left.ensures.capacity, c.len.ensures, c.in_ok-shards.shards.ok.0);
    }

pub returns-clause-empty : goal.returns-clause-empty
returns-clause-empty c = stands-opened c.args.configs.items c.in_ok-shards.shards.items c.new.result.entries c.in_ok-shards.ensures.opened c.new.ensures.empty
