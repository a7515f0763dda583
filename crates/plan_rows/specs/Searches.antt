-- The plan of searches, and what adds one to others.
use Rattle.std.specs.Prelude.{◌≡◌, ℕ, ◌++◌, List}
use Rattle.funnel_model.specs.Searches.{Search, Searches, AreAlike, AreEachAlike}
use Rattle.funnel_model.specs.declared.config.Config.{Config}
use Rattle.row_layout.specs.AtomReads.{AtomPlan, IsPlanOf}
use Rattle.row_layout.specs.SearchPlans.{ArePlansOfSearches, each_search_nodes, each_search_rows, search_nodes, search_rows}
use Rattle.row_layout.specs.declared.search_plan.SearchPlan.{SearchPlan}

-- the searches are planned, one after the other: each atom by the rows of its words
pub record ArePlanned (config : Config) (searches : Searches (List (List ℕ))) (made : SearchPlan) : Type 0 where
  pub plans : Searches AtomPlan
  pub alike : AreEachAlike (IsPlanOf config) searches plans
  pub are_plans : ArePlansOfSearches plans made.nodes.items made.rows.items

-- the plan of a search is added
pub record AddsSearch (config : Config) (search : Search (List (List ℕ))) (old new : SearchPlan) : Type 0 where
  pub plan : Search AtomPlan
  pub alike : AreAlike (IsPlanOf config) search plan
  pub nodes : new.nodes.items ≡ old.nodes.items ++ search_nodes plan
  pub rows : new.rows.items ≡ old.rows.items ++ search_rows plan

-- and those of several are, one after the other
pub record AddsEach (config : Config) (searches : Searches (List (List ℕ))) (old new : SearchPlan) : Type 0 where
  pub plans : Searches AtomPlan
  pub alike : AreEachAlike (IsPlanOf config) searches plans
  pub nodes : new.nodes.items ≡ old.nodes.items ++ each_search_nodes plans
  pub rows : new.rows.items ≡ old.rows.items ++ each_search_rows plans
