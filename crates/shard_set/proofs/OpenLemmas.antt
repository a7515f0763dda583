-- New sets of shards.
use Rattle.std.proofs.Common.{◌≡◌, ℕ, List, [], ◌∷◌, sym, refl, ap, subst}
use Rattle.std.proofs.lemmas.List.Elements.{All-cons, All-nil}
use Rattle.std.specs.List.{All, AllZip}
use Rattle.bare_history.specs.Bare.{bare}
use Rattle.engine.specs.Solos.{SoloState}
use Rattle.funnel_model.specs.declared.config.Config.{Config}
use Rattle.shard_set.specs.declared.home.Home.{Home}
use Rattle.shard_set.specs.Opening.{IsOpened}
use Rattle.shard_set.specs.Sets.{IsLone, StandsFor}
use Rattle.shard_set.proofs.Refusals.{set_of}
use Rattle.shard_set.proofs.SetLemmas.{AreLone}

-- a new shard has one pass
lone-opened : (config : Config) (shard : SoloState) → IsOpened config shard → IsLone shard.pool
lone-opened config shard opened = record { one_pass = ap (λ l. l.passes) opened.limits; last = ap (λ l. l.events) opened.limits }

pub lone-all : (configs : List Config) (shards : List SoloState) → AllZip IsOpened configs shards → AreLone shards
lone-all [] [] opened = All-nil (λ (s : SoloState). IsLone s.pool)
lone-all [] (s ∷ shards) opened = absurd opened
lone-all (c ∷ configs) [] opened = absurd opened
lone-all (c ∷ configs) (s ∷ shards) opened = All-cons (λ (x : SoloState). IsLone x.pool) s shards (lone-opened c s opened.0) (lone-all configs shards opened.1)

-- and no history
empty-all : (configs : List Config) (shards : List SoloState) → AllZip IsOpened configs shards → All (λ (s : SoloState). s.history ≡ []) shards
empty-all [] [] opened = All-nil (λ (s : SoloState). s.history ≡ [])
empty-all [] (s ∷ shards) opened = absurd opened
empty-all (c ∷ configs) [] opened = absurd opened
empty-all (c ∷ configs) (s ∷ shards) opened = All-cons (λ (x : SoloState). x.history ≡ []) s shards opened.0.empty (empty-all configs shards opened.1)

-- so a new set stands for the empty list
pub stands-opened : (configs : List Config) (shards : List SoloState) (homes : List (ℕ × Home)) → AllZip IsOpened configs shards → homes ≡ [] → StandsFor (set_of shards homes 0) []
stands-opened configs shards homes opened none =
    subst (λ (hs : List (ℕ × Home)). StandsFor (set_of shards hs 0) []) (sym none)
    (record {
      commits = tt;
      count = refl;
      parts = λ k d in'. ap bare (empty-all configs shards opened k d in');
      homes = λ id. refl;
    })
