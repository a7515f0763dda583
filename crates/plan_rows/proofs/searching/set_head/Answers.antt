use Rattle.std.proofs.Common.{rules, ◌≡◌, ◌++◌, ◌∷◌, ◌+◌, ◌-◌, ℕ, List, length, slice_set, ap, ap₂, ◌∙◌, arith}
use Rattle.std.proofs.lemmas.List.{length-append}
use Rattle.row_layout.specs.declared.search_plan.Node.{Node}
use Rattle.plan_rows.proofs.Heads.{set-first}
use Rattle.plan_rows.proofs.searching.set_head.Goals as goal

pub returns-clause-nodes : goal.returns-clause-nodes
returns-clause-nodes c before parts first rows_before rows nodes_are rows_are at rows_at =
    let all : c.len.result ≡ length c.args.made.now.nodes.items = search rules in
    let all_rows : c.len-2.result ≡ length c.args.made.now.rows.items = search rules in
    let nodes : c.len.result - c.args.head.0 ≡ length parts + 1 = omega (arith, all, ap length nodes_are, length-append before (first ∷ parts), at) in
    let rows_left : c.len-2.result - c.args.head.1 ≡ length rows = omega (arith, all_rows, ap length rows_are, length-append rows_before rows, rows_at) in
    let node : Node = record { kind = c.args.kind; nodes = c.len.result - c.args.head.0; rows = c.len-2.result - c.args.head.1 } in
    ap₂ (λ (xs : List Node) (i : ℕ). slice_set xs i node) nodes_are at ∙ set-first before first parts node
    ∙ ap₂ (λ (n r : ℕ). before ++ (record { kind = c.args.kind; nodes = n; rows = r }) ∷ parts) nodes rows_left
