-- How a load ends whose workers put it to a new engine, once this is closed.
use Rattle.std.proofs.Common.{◌≡◌, ◌<◌, ◌≤◌, ℕ, List, [], None, Some, rules, refl, ap, subst, arith, inr}
use Rattle.std.specs.List.{All}
use Rattle.std.specs.Prelude.{MatchResult, Result, Ok, Err}
use Rattle.engine.specs.Engines.{ClosedState, EndsIn}
use Rattle.funnel_io.specs.Streams.{Outgoing}
use Rattle.funnel_model.specs.declared.config.Config.{Config}
use Rattle.funnel_model.specs.declared.event.Event.{Event}
use Rattle.funnel_model.specs.declared.memory.Memory.{Memory}
use Rattle.funnel_model.specs.Events.{pass_of}
use Rattle.funnel_model.specs.History.{IsFrontOf, MovesAreCaused}
use Rattle.funnel_model.specs.Legal.{IsLegal, Limits}
use Rattle.funnel_model.specs.Sizes.{columns_of_pool}
use Rattle.funnel_server.proofs.LoadPasses.{ends_along}
use Rattle.funnel_server.specs.Loads.{IsCutShort, IsPut, front_at}
use Rattle.load_gen.specs.declared.limits.TheConstants.{MOST_DOCS}
use Rattle.load_gen.specs.Documents.{documents}
use Rattle.load_gen.specs.Summary.{results_of, summary, summary_text}
use Rattle.load_laws.specs.Workers.{HasRoomFor}
use Rattle.row_layout.specs.Sound.{IsSound}
use Rattle.engine.specs.Passes.{PassView}
use Rattle.slice_rule.specs.Pools.{PoolId}
use Rattle.command_line.specs.declared.command.LoadCommand.{LoadCommand}
use Rattle.funnel.specs.declared.ends.Why.{Why}
use Rattle.funnel.specs.declared.ends.Why.TheVariants as why_of
use Rattle.funnel.specs.LoadRuns.{EndsLoad, IsPartOfLoad, IsWholeLoad, Tells}
use Rattle.funnel.specs.Misfits.{misfit_of_load}
use Rattle.funnel.specs.Runs.{limits_by}
use Rattle.funnel.proofs.Loaded.{are_answered, calls_are, fronts, is_loaded, met, replies_to, results_told}
use Rattle.funnel.proofs.LoadPasses.{AreUsedBy, nothing_before, of_workers, seen_by}

-- what holds of a result that is a value, or an error
pub on_ok : {V E : Type 0} (P : V → Type 0) (Q : E → Type 0) (result : Result V E) (value : V) → result ≡ Ok value → MatchResult result P Q → P value
on_ok {V} {E} P Q result value is holds = subst (λ (r : Result V E). MatchResult r P Q) is holds

pub on_fault : {V E : Type 0} (P : V → Type 0) (Q : E → Type 0) (result : Result V E) (fault : E) → result ≡ Err fault → MatchResult result P Q → Q fault
on_fault {V} {E} P Q result fault is holds = subst (λ (r : Result V E). MatchResult r P Q) is holds

-- a load that fits has a pass for each worker, and room for its documents
pub record LoadFits (load : LoadCommand) (config : Config) : Type 0 where
  pub passes : load.workers ≤ config.passes
  pub columns : load.docs ≤ columns_of_pool config

pub load_fits : (load : LoadCommand) (config : Config) → misfit_of_load load config ≡ None → LoadFits load config
load_fits load config none = record { passes = search (rules, none); columns = search (rules, none) }

-- the load was made, and these are the results that the summary tells
pub record IsAsTold (config : Config) (load : LoadCommand) (closed : ClosedState) (results : List (ℕ × ℕ)) : Type 0 where
  pub loaded : IsWholeLoad config load closed
  pub results_are : results ≡ results_of (documents load.docs load.words load.seed)

-- the load was put, or cut short, by workers that had seen nothing before, and these fronts since
abbrev pub IsPutOrCutShort : Config → LoadCommand → (ℕ → List Event) → Result (List (ℕ × ℕ)) Memory → Type 0
IsPutOrCutShort config load fronts answer =
    MatchResult answer (λ results. IsPut config (limits_by config) (documents load.docs load.words load.seed) load.workers (λ _. []) fronts results)
    (λ _. IsCutShort config (limits_by config) (documents load.docs load.words load.seed) load.workers (λ _. []) fronts)

-- The workers of a load had the first passes of a new engine of this pool, which is closed now.
pub record HasClosed (pool : PoolId) (config : Config) (load : LoadCommand) (before after : List PassView) (closed : ClosedState) : Type 0 where
  pub limits : pool.limits ≡ limits_by config
  pub config_is : pool.config ≡ config
  pub some : 1 ≤ load.workers
  pub few : load.docs ≤ MOST_DOCS
  pub fits : misfit_of_load load config ≡ None
  pub used : AreUsedBy pool load.workers before after
  pub legal : IsLegal pool.limits closed.history
  pub caused : MovesAreCaused closed.history
  pub sound : IsSound pool.config closed.history
  pub ends : All (EndsIn closed.history) after

module _ (pool : PoolId) (config : Config) (load : LoadCommand) (before after : List PassView) (closed : ClosedState)
    (ended : HasClosed pool config load before after closed) where
  room : HasRoomFor (limits_by config) load.docs
  room =
      let fits = load_fits load config ended.fits in
      record { few = ended.few; columns = fits.columns; events = omega arith }

  legal_here : IsLegal (limits_by config) closed.history
  legal_here = subst (λ (l : Limits). IsLegal l closed.history) ended.limits ended.legal

  sound_here : IsSound config closed.history
  sound_here = subst (λ (c : Config). IsSound c closed.history) ended.config_is ended.sound

  of_workers_alone : All (λ e. pass_of e < load.workers) closed.history
  of_workers_alone = of_workers pool load.workers before after ended.used closed.history ended.legal ended.ends

  nothing : (worker : ℕ) → front_at before worker ≡ []
  nothing = nothing_before pool load.workers before after ended.used

  seen : (worker : ℕ) → worker < load.workers → IsFrontOf worker (front_at after worker) closed.history
  seen worker below =
      let passes = (load_fits load config ended.fits).passes in
      let counted = ap (λ (c : Config). c.passes) ended.config_is in
      seen_by pool load.workers before after ended.used closed.history ended.legal ended.ends worker (omega (arith, below, passes, counted))

  -- what the load did, told of workers that had seen nothing
  pub from_nothing : (texts : List (List ℕ)) (answer : Result (List (ℕ × ℕ)) Memory) → texts ≡ documents load.docs load.words load.seed →
      MatchResult answer (λ results. IsPut pool.config pool.limits texts load.workers (front_at before) (front_at after) results)
      (λ _. IsCutShort pool.config pool.limits texts load.workers (front_at before) (front_at after)) → IsPutOrCutShort config load (front_at after) answer
  from_nothing texts answer made did =
      ends_along config (limits_by config) (documents load.docs load.words load.seed) load.workers (front_at before) (front_at after) (λ _. []) (front_at after)
      (λ worker below. nothing worker) (λ worker below. refl) answer
      (subst (λ (k : Config). MatchResult answer (λ results. IsPut k (limits_by config) (documents load.docs load.words load.seed) load.workers (front_at before) (front_at after) results)
      (λ _. IsCutShort k (limits_by config) (documents load.docs load.words load.seed) load.workers (front_at before) (front_at after))) ended.config_is
      (subst (λ (l : Limits). MatchResult answer (λ results. IsPut pool.config l (documents load.docs load.words load.seed) load.workers (front_at before) (front_at after) results)
      (λ _. IsCutShort pool.config l (documents load.docs load.words load.seed) load.workers (front_at before) (front_at after))) ended.limits
      (subst (λ ts. MatchResult answer (λ results. IsPut pool.config pool.limits ts load.workers (front_at before) (front_at after) results)
      (λ _. IsCutShort pool.config pool.limits ts load.workers (front_at before) (front_at after))) made did)))

  -- a load that was put is whole
  pub whole_load : (results : List (ℕ × ℕ)) → IsPut config (limits_by config) (documents load.docs load.words load.seed) load.workers (λ _. []) (front_at after) results →
      IsAsTold config load closed results
  whole_load results put = record {
    loaded = record {
      sound = sound_here;
      replies = replies_to config (limits_by config) load.docs load.words load.seed load.workers (front_at after) results closed.history ended.some room legal_here
          ended.caused of_workers_alone seen put;
      loaded = is_loaded config (limits_by config) load.docs load.words load.seed load.workers (front_at after) results closed.history ended.some room legal_here
          ended.caused of_workers_alone seen put;
      fronts = fronts config (limits_by config) load.docs load.words load.seed load.workers (front_at after) results closed.history ended.some room legal_here
          ended.caused of_workers_alone seen put;
      met = met config (limits_by config) load.docs load.words load.seed load.workers (front_at after) results closed.history ended.some room legal_here
          ended.caused of_workers_alone seen put;
      calls = calls_are config (limits_by config) load.docs load.words load.seed load.workers (front_at after) results closed.history ended.some room legal_here
          ended.caused of_workers_alone seen put;
      answers = are_answered config (limits_by config) load.docs load.words load.seed load.workers (front_at after) results closed.history ended.some room legal_here
          ended.caused of_workers_alone seen put;
    };
    results_are = results_told config (limits_by config) load.docs load.words load.seed load.workers (front_at after) results closed.history ended.some room legal_here
        ended.caused of_workers_alone seen put;
  }

  -- and one that was cut short is a part of it
  pub part_of_load : IsCutShort config (limits_by config) (documents load.docs load.words load.seed) load.workers (λ _. []) (front_at after) → IsPartOfLoad config load closed
  part_of_load cut = record {
    legal = legal_here;
    caused = ended.caused;
    sound = sound_here;
    no_other = of_workers_alone;
    fronts = front_at after;
    seen = seen;
    cut = cut;
  }

-- its summary is told, or there was no memory for it
pub ends_load : (config : Config) (load : LoadCommand) (before after : Outgoing) (why : Why) (closed : ClosedState) (results : List (ℕ × ℕ)) →
    IsAsTold config load closed results → Tells (summary_text load.docs results) before after why → EndsLoad config load before after why (Some closed)
ends_load config load before after why closed results told tells =
    by_why why (subst (λ rs. Tells (summary_text load.docs rs) before after why) told.results_are tells) where
      by_why : (why : Why) → Tells (summary load.docs load.words load.seed) before after why → EndsLoad config load before after why (Some closed)
      by_why why_of.Done tells = (told.loaded, tells)
      by_why why_of.WriteFault tells = (told.loaded, tells)
      by_why why_of.Memory tells = (tells, inr told.loaded)
      by_why why_of.Usage tells = absurd tells
      by_why (why_of.Config fault) tells = absurd tells
      by_why why_of.GateFault tells = absurd tells
      by_why (why_of.NoThread worker) tells = absurd tells
      by_why why_of.ReadFault tells = absurd tells
      by_why (why_of.ByteLimit count) tells = absurd tells
      by_why (why_of.Misfit misfit) tells = absurd tells
