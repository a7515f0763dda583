use Rattle.std.proofs.Common.{ℕ, false, get_or, List, take, drop, sym, subst}
use Rattle.row_layout.specs.declared.row.Row.{Row}
use Rattle.row_layout.specs.declared.search_plan.Node.{Node}
use Rattle.row_layout.specs.declared.search_plan.NodeKind.TheVariants as kind
use Rattle.row_layout.specs.SearchPlans.{IsFirstOf}
use Rattle.rank_matcher.proofs.Entries.{first-of, first-within}
use Rattle.rank_matcher.proofs.evaluation.Part.split.Goals as goal

abbrev no_node : Node
no_node = record { kind = kind.Atom false; nodes = 0; rows = 0 }

pub split_at-requires : goal.split_at-requires
split_at-requires c = (first-within c.requires.plans.0 c.args.self.nodes.now c.args.self.rows.now no_node c.requires.some c.requires.plans.1).0

pub split_at-requires-2 : goal.split_at-requires-2
split_at-requires-2 c = (first-within c.requires.plans.0 c.args.self.nodes.now c.args.self.rows.now no_node c.requires.some c.requires.plans.1).1

pub returns-clause-parts : goal.returns-clause-parts
returns-clause-parts c searches plans =
    let of = first-of searches c.args.self.nodes.now c.args.self.rows.now no_node c.requires.some plans in
    let nodes = c.split_at.ensures in
    let rows = c.split_at-2.ensures in
    let n : ℕ = (get_or c.args.self.nodes.now 0 no_node).nodes in
    let r : ℕ = (get_or c.args.self.nodes.now 0 no_node).rows in
    subst (λ (ns : List Node). IsFirstOf searches ns c.split_at-2.result.0.now c.split_at.result.1.now c.split_at-2.result.1.now) (sym nodes.front)
    (subst (λ (rs : List Row). IsFirstOf searches (take n c.args.self.nodes.now) rs c.split_at.result.1.now c.split_at-2.result.1.now) (sym rows.front)
    (subst (λ (ns : List Node). IsFirstOf searches (take n c.args.self.nodes.now) (take r c.args.self.rows.now) ns c.split_at-2.result.1.now) (sym nodes.back)
    (subst (λ (rs : List Row). IsFirstOf searches (take n c.args.self.nodes.now) (take r c.args.self.rows.now) (drop n c.args.self.nodes.now) rs) (sym rows.back) of)))
