-- What is asked in each of the parts of a load.
use Rattle.std.proofs.Common.{◌≡◌, ℕ, ◌+◌, ◌<◌, List, ◌++◌, refl, ap, ◌∙◌, subst, arith}
use Rattle.std.proofs.lemmas.List.Sums.{sum_by-append}
use Rattle.std.specs.List.{All, sum_by}
use Rattle.funnel_model.specs.declared.call.Call.{Call}
use Rattle.funnel_model.specs.declared.event.Event.{Event}
use Rattle.funnel_model.specs.declared.reply.Reply.{Reply}
use Rattle.funnel_model.specs.Events.{pass_of}
use Rattle.funnel_model.specs.Legal.{Limits}
use Rattle.load_gen.specs.Documents.{documents}
use Rattle.load_gen.specs.Jobs.{adds_of, deletes_of, queries_of}
use Rattle.load_laws.specs.Workers.{IsLoaded}
use Rattle.load_laws.proofs.JobCounts.{add_weight, adds_in_adds, adds_in_deletes, delete_weight, deletes_in_adds, deletes_in_deletes, none_in_queries, over, where_deleted}
use Rattle.load_laws.proofs.PassTotals.{asked, asked-total}
use Rattle.load_laws.proofs.Quiet.{all_first, all_second}

-- what was asked in each of the parts of a load
pub record AreAsked (docs : ℕ) (adding deleting querying : List Event) : Type 0 where
  pub adds_first : (g : ℕ → ℕ) → sum_by (asked (add_weight g)) adding ≡ over docs g
  pub adds_second : (g : ℕ → ℕ) → sum_by (asked (add_weight g)) deleting ≡ 0
  pub adds_third : (g : ℕ → ℕ) → sum_by (asked (add_weight g)) querying ≡ 0
  pub deletes_first : (g : ℕ → ℕ) → sum_by (asked (delete_weight g)) adding ≡ 0
  pub deletes_second : (g : ℕ → ℕ) → sum_by (asked (delete_weight g)) deleting ≡ over docs (where_deleted g)
  pub deletes_third : (g : ℕ → ℕ) → sum_by (asked (delete_weight g)) querying ≡ 0

pub parts_asked : (limits : Limits) (docs words seed workers : ℕ) (history : List Event) (replies : ℕ → List Reply) →
    (loaded : IsLoaded limits docs words seed workers history replies) → AreAsked docs loaded.parts.adding loaded.parts.deleting loaded.parts.querying
parts_asked limits docs words seed workers history replies loaded =
    let p = loaded.parts in
    let texts = documents docs words seed in
    let all = subst (All (λ e. pass_of e < workers)) p.whole loaded.no_other in
    let both = all_first (λ e. pass_of e < workers) (p.adding ++ p.deleting) p.querying all in
    let first = all_first (λ e. pass_of e < workers) p.adding p.deleting both in
    let second = all_second (λ e. pass_of e < workers) p.adding p.deleting both in
    let third = all_second (λ e. pass_of e < workers) (p.adding ++ p.deleting) p.querying all in
    record {
      adds_first = λ g. asked-total (add_weight g) workers p.adding (adds_of texts workers) first p.adds ∙ adds_in_adds g docs words seed workers loaded.some;
      adds_second = λ g. asked-total (add_weight g) workers p.deleting (deletes_of texts workers) second p.deletes ∙ adds_in_deletes g texts workers;
      adds_third = λ g. asked-total (add_weight g) workers p.querying (queries_of workers) third p.queries ∙ none_in_queries (add_weight g) (λ query. refl) workers;
      deletes_first = λ g. asked-total (delete_weight g) workers p.adding (adds_of texts workers) first p.adds ∙ deletes_in_adds g texts workers;
      deletes_second = λ g. asked-total (delete_weight g) workers p.deleting (deletes_of texts workers) second p.deletes ∙ deletes_in_deletes g docs words seed workers loaded.some;
      deletes_third = λ g. asked-total (delete_weight g) workers p.querying (queries_of workers) third p.queries ∙ none_in_queries (delete_weight g) (λ query. refl) workers;
    }

-- the whole history has what its parts have
asked_in_parts : (limits : Limits) (docs words seed workers : ℕ) (history : List Event) (replies : ℕ → List Reply) →
    (loaded : IsLoaded limits docs words seed workers history replies) → (w : Call → ℕ) →
    sum_by (asked w) history ≡ sum_by (asked w) loaded.parts.adding + sum_by (asked w) loaded.parts.deleting + sum_by (asked w) loaded.parts.querying
asked_in_parts limits docs words seed workers history replies loaded w =
    let p = loaded.parts in
    ap (sum_by (asked w)) p.whole ∙ sum_by-append (asked w) (p.adding ++ p.deleting) p.querying
    ∙ ap (λ n. n + sum_by (asked w) p.querying) (sum_by-append (asked w) p.adding p.deleting)

pub adds_asked : (limits : Limits) (docs words seed workers : ℕ) (history : List Event) (replies : ℕ → List Reply) →
    IsLoaded limits docs words seed workers history replies → (g : ℕ → ℕ) → sum_by (asked (add_weight g)) history ≡ over docs g
adds_asked limits docs words seed workers history replies loaded g =
    let is = parts_asked limits docs words seed workers history replies loaded in
    asked_in_parts limits docs words seed workers history replies loaded (add_weight g) ∙ omega (arith, is.adds_first g, is.adds_second g, is.adds_third g)

pub deletes_asked : (limits : Limits) (docs words seed workers : ℕ) (history : List Event) (replies : ℕ → List Reply) →
    IsLoaded limits docs words seed workers history replies → (g : ℕ → ℕ) → sum_by (asked (delete_weight g)) history ≡ over docs (where_deleted g)
deletes_asked limits docs words seed workers history replies loaded g =
    let is = parts_asked limits docs words seed workers history replies loaded in
    asked_in_parts limits docs words seed workers history replies loaded (delete_weight g) ∙ omega (arith, is.deletes_first g, is.deletes_second g, is.deletes_third g)
