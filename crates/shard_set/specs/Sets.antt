-- What contracts see of a set of shards, and the lists of adds and deletes that it stands for.
use Rattle.std.specs.Prelude.{ℕ, ◌^◌, ◌<◌, ◌≤◌, ◌≡◌, nat_eq, List, [], length, slice_index_or}
use Rattle.std.specs.List.{All}
use Rattle.std.specs.Map.{lookup}
use Rattle.std.specs.Option.{option_map}
use Rattle.bare_history.specs.Bare.{bare}
use Rattle.engine.specs.Engines.{ClosedState}
use Rattle.engine.specs.Solos.{SoloState}
use Rattle.funnel_model.specs.declared.event.Event.{Event}
use Rattle.funnel_model.specs.History.{Document, document_with}
use Rattle.slice_rule.specs.Pools.{PoolId}
use Rattle.shard_set.specs.declared.home.Home.{Home}
use Rattle.shard_set.specs.declared.parting.TheConstants.{MOST_SHARDS}
use Rattle.shard_set.specs.Parts.{AreCommits, part, shard_of}

-- its shards, where the document of each live number is, and how many commits there were
pub record SetState : Type 0 where
  pub shards : List SoloState
  pub homes : List (ℕ × Home)
  pub commits : ℕ

-- where a live document is, among so many shards
abbrev pub home_of : ℕ → Document → Home
home_of shards d = record { shard = shard_of shards d.text; place = d.place }

-- the table has exactly the live numbers of the list, each with its document's shard and its place in the list
abbrev pub AreHomesOf : ℕ → List (ℕ × Home) → List Event → Type 0
AreHomesOf shards homes list = (id : ℕ) → lookup (nat_eq id) homes ≡ option_map (home_of shards) (document_with id list)

-- each shard's own adds and deletes are the part of the list that goes to it
abbrev pub HaveTheirParts : List SoloState → List Event → Type 0
HaveTheirParts shards list = (k : ℕ) (d : SoloState) → k < length shards → bare (slice_index_or shards k d).history ≡ part (length shards) list k

-- The set stands for this list of adds and deletes: its shards have the parts of it, its table what is live, and its commits are counted.
pub record StandsFor (set : SetState) (list : List Event) : Type 0 where
  pub commits : AreCommits list
  pub count : set.commits ≡ length list
  pub parts : HaveTheirParts set.shards list
  pub homes : AreHomesOf (length set.shards) set.homes list

-- an engine of one pass, which takes calls up to so many events
pub record IsLone (pool : PoolId) : Type 0 where
  pub one_pass : pool.limits.passes ≡ 1
  pub last : pool.limits.events ≡ 2 ^ 62

-- there are some shards, each with one pass, and the set stands for some list; for what is left of each shard there is room
pub record IsSet (set : SetState) (left : List ClosedState) (room : ℕ) : Type 0 where
  pub some : 0 < length set.shards
  pub few : length set.shards ≤ MOST_SHARDS
  pub lone : All (λ (s : SoloState). IsLone s.pool) set.shards
  pub list : List Event
  pub stands : StandsFor set list
  pub none_left : left ≡ []
  pub room_for_each : length set.shards ≤ room
