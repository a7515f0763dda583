use Rattle.std.proofs.Common.{◌≡◌, ◌++◌, ◌∷◌, [], ℕ, Bool, List, length, nat_eq, sym, ap, subst, ◌∙◌}
use Rattle.std.proofs.lemmas.List.Elements.{All-append}
use Rattle.std.specs.List.{All, list_all}
use Rattle.funnel_model.specs.Searches.{atom_of}
use Rattle.row_layout.specs.AtomReads.{AtomPlan, IsPlanOf}
use Rattle.row_layout.specs.Owners.{is_exact}
use Rattle.row_layout.specs.Rows.{IsRowOf}
use Rattle.row_layout.specs.declared.row.Row.{Row}
use Rattle.row_layout.specs.declared.search_plan.NodeKind.TheVariants as kind
use Rattle.plan_rows.proofs.Added.{none-left}
use Rattle.plan_rows.proofs.searching.push_atom.Goals as goal

pub returns-clause-added : goal.returns-clause-added
returns-clause-added c set is =
    let config = c.args.layout.now.config in
    let planned : List Row = c.in_ok-planned.planned.0 in
    let exact : Bool = nat_eq c.len-exact.result 0 in
    let is_exact_each : exact ≡ list_all (is_exact config) c.args.words.now =
    ap (λ (n : ℕ). nat_eq n 0) c.len-exact.ensures.count
    ∙ ap (λ (ws : List (List ℕ)). nat_eq (length ws) 0) (c.words.ensures ∙ c.in_ok-planned.ensures.rest) ∙ none-left (is_exact config) c.args.words.now in
    let plan : AtomPlan = record { rows = planned; exact = exact } in
    record {
      plan = atom_of plan;
      alike = subst (λ (ws : List (List ℕ)). IsPlanOf config ws plan) (sym is) (record { rows = c.in_ok-planned.ensures.rows; exact = is_exact_each });
      nodes =
          c.in_ok-push.ensures.items
          ∙ ap (λ (n : ℕ). c.args.made.now.nodes.items ++ (record { kind = kind.Atom exact; nodes = 1; rows = n }) ∷ []) c.len.ensures;
      rows = c.in_ok-extend_from_slice.ensures.items ∙ ap (λ (rs : List Row). c.args.made.now.rows.items ++ rs) c.as_slice.ensures.rows;
    }

pub returns-clause-laid : goal.returns-clause-laid
returns-clause-laid c =
    let IsLaid = IsRowOf c.args.layout.now.config in
    let planned : List Row = c.in_ok-planned.planned.0 in
    let both : All IsLaid (c.args.made.now.rows.items ++ planned) = All-append IsLaid c.args.made.now.rows.items planned c.requires c.in_ok-planned.ensures.laid in
    subst (All IsLaid)
    (sym (c.in_ok-extend_from_slice.ensures.items ∙ ap (λ (rs : List Row). c.args.made.now.rows.items ++ rs) c.as_slice.ensures.rows)) both
