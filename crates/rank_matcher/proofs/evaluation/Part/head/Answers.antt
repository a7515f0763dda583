use Rattle.std.proofs.Common.{rules, ◌≡◌, ◌≤◌, ◌-◌, false, get_or, length, length-drop, List, take, drop, sym, subst, ap, arith}
use Rattle.std.proofs.lemmas.List.{take_all}
use Rattle.row_layout.specs.declared.search_plan.Node.{Node}
use Rattle.row_layout.specs.declared.search_plan.NodeKind.TheVariants as kind
use Rattle.row_layout.specs.SearchPlans.{HasParts}
use Rattle.rank_matcher.proofs.Entries.{head-parts, some-nodes}
use Rattle.rank_matcher.proofs.evaluation.Part.head.Goals as goal

abbrev no_node : Node
no_node = record { kind = kind.Atom false; nodes = 0; rows = 0 }

pub slice_bounds-parts-count : goal.slice_bounds-parts-count
slice_bounds-parts-count c = omega (arith, ap length c.requires.plan.1.nodes_are, some-nodes c.requires.plan.0)

pub slice_bounds-parts-start : goal.slice_bounds-parts-start
slice_bounds-parts-start c =
    let some : 1 ≤ length c.args.self.nodes.now = omega (arith, ap length c.requires.plan.1.nodes_are, some-nodes c.requires.plan.0) in
    search (rules, some)

pub bounds-self-0 : goal.bounds-self-0
bounds-self-0 c =
    let some : 1 ≤ length c.args.self.nodes.now = omega (arith, ap length c.requires.plan.1.nodes_are, some-nodes c.requires.plan.0) in
    search (rules, some)

rest_is : (nodes : List Node) → take (length nodes - 1) (drop 1 nodes) ≡ drop 1 nodes
rest_is nodes = take_all (length nodes - 1) (drop 1 nodes) (omega (arith, length-drop 1 nodes))

pub returns-clause-parts : goal.returns-clause-parts
returns-clause-parts c search plan =
    subst (λ (ns : List Node). HasParts search (get_or c.args.self.nodes.now 0 no_node).kind ns c.args.self.rows.now) (sym (rest_is c.args.self.nodes.now))
    (head-parts search c.args.self.nodes.now c.args.self.rows.now no_node plan)

pub returns-clause-shorter : goal.returns-clause-shorter
returns-clause-shorter c =
    let some : 1 ≤ length c.args.self.nodes.now = omega (arith, ap length c.requires.plan.1.nodes_are, some-nodes c.requires.plan.0) in
    omega (arith, some, ap length (rest_is c.args.self.nodes.now), length-drop 1 c.args.self.nodes.now)
