use Rattle.std.proofs.Common.{◌++◌, List, ap, ◌∙◌}
use Rattle.row_layout.specs.SearchPlans.{each_search_nodes, each_search_rows}
use Rattle.row_layout.specs.declared.row.Row.{Row}
use Rattle.row_layout.specs.declared.search_plan.Node.{Node}
use Rattle.plan_rows.proofs.searching.plan_search.Goals as goal

pub returns-clause-planned : goal.returns-clause-planned
returns-clause-planned c =
    let each = c.in_ok-push_each.ensures.added in
    record {
      plans = each.plans;
      alike = each.alike;
      are_plans = record {
        nodes_are = each.nodes ∙ ap (λ (ns : List Node). ns ++ each_search_nodes each.plans) c.new.ensures.items;
        rows_are = each.rows ∙ ap (λ (rs : List Row). rs ++ each_search_rows each.plans) c.new-2.ensures.items;
      };
    }
