-- Plans of searches that are added to others.
use Rattle.std.proofs.Common.{◌≡◌, ◌++◌, ◌∷◌, ◌+◌, ◌<◌, ◌&&◌, [], ℕ, zero, suc, Bool, true, false, List, filter, get_or, length, nat_eq, not, refl, sym, ap, ◌∙◌, append-nil, append_assoc, arith, cond}
use Rattle.std.specs.List.{list_all}
use Rattle.funnel_model.specs.Searches.{Search, Searches, AreAlike, AreEachAlike, all_of, atom_of, entry, no_entries, not_of, some_of}
use Rattle.funnel_model.specs.WordExprs.{each_searched, searched}
use Rattle.funnel_model.specs.declared.config.Config.{Config}
use Rattle.funnel_model.specs.declared.word_expr.WordExpr.{WordExpr}
use Rattle.row_layout.specs.AtomReads.{AtomPlan, IsPlanOf}
use Rattle.row_layout.specs.SearchPlans.{each_search_nodes, each_search_rows, headed, search_nodes, search_rows}
use Rattle.row_layout.specs.declared.row.Row.{Row}
use Rattle.row_layout.specs.declared.search_plan.Node.{Node}
use Rattle.row_layout.specs.declared.search_plan.NodeKind.{NodeKind}
use Rattle.row_layout.specs.declared.search_plan.NodeKind.TheVariants as kind
use Rattle.row_layout.specs.declared.search_plan.SearchPlan.{SearchPlan}
use Rattle.plan_rows.specs.Searches.{AddsEach, AddsSearch}

abbrev mutual
  -- how many entries there are in a search
  pub size : Search (List (List ℕ)) → ℕ
  size (atom_of words) = 1
  size (all_of entries) = sizes entries + 1
  size (some_of entries) = sizes entries + 1
  size (not_of e) = size e + 1

  pub sizes : Searches (List (List ℕ)) → ℕ
  sizes no_entries = 0
  sizes (entry e entries) = size e + sizes entries + 1

-- one of several searches is smaller than all of them
pub size-at : (exprs : List WordExpr) (i : ℕ) (d : WordExpr) → i < length exprs → size (searched (get_or exprs i d)) < sizes (each_searched exprs)
size-at [] i d less = absurd (omega arith)
size-at (x ∷ exprs) zero d less = omega arith
size-at (x ∷ exprs) (suc i) d less = omega (arith, size-at exprs i d (omega arith))

-- a node and the plans of its parts are added, where the node stands before them
pub record AddsHeaded (node_kind : NodeKind) (nodes : List Node) (rows : List Row) (old new : SearchPlan) : Type 0 where
  pub nodes_are : new.nodes.items ≡ old.nodes.items ++ headed node_kind nodes rows
  pub rows_are : new.rows.items ≡ old.rows.items ++ rows

-- what `set_head` says of the nodes
abbrev IsHeadSet : NodeKind → ℕ × ℕ → SearchPlan → List Node → Type 0
IsHeadSet node_kind head made new =
    (before parts : List Node) (first : Node) (rows_before rows : List Row) → made.nodes.items ≡ before ++ first ∷ parts →
    made.rows.items ≡ rows_before ++ rows → head.0 ≡ length before → head.1 ≡ length rows_before → new ≡ before ++ headed node_kind parts rows

pub head-set : (node_kind : NodeKind) (head : ℕ × ℕ) (first : Node) (old begun made new : SearchPlan) (nodes : List Node) (rows : List Row)
    → begun.nodes.items ≡ old.nodes.items ++ first ∷ [] → begun.rows.items ≡ old.rows.items
    → (head.0 ≡ length old.nodes.items) × (head.1 ≡ length old.rows.items)
    → made.nodes.items ≡ begun.nodes.items ++ nodes → made.rows.items ≡ begun.rows.items ++ rows
    → IsHeadSet node_kind head made new.nodes.items → new.rows.items ≡ made.rows.items
    → AddsHeaded node_kind nodes rows old new
head-set node_kind head first old begun made new nodes rows begun_nodes begun_rows at made_nodes made_rows set same =
    let rows_are : made.rows.items ≡ old.rows.items ++ rows = made_rows ∙ ap (λ (rs : List Row). rs ++ rows) begun_rows in
    record {
      nodes_are =
          set old.nodes.items nodes first old.rows.items rows
          (made_nodes ∙ ap (λ (ns : List Node). ns ++ nodes) begun_nodes ∙ append_assoc old.nodes.items (first ∷ []) nodes) rows_are at.0 at.1;
      rows_are = same ∙ rows_are;
    }

-- the searches of which a plan is added
module _ (config : Config) (old new : SearchPlan) where
  pub adds-all : (searches : Searches (List (List ℕ))) (plans : Searches AtomPlan) → AreEachAlike (IsPlanOf config) searches plans
      → AddsHeaded kind.And (each_search_nodes plans) (each_search_rows plans) old new → AddsSearch config (all_of searches) old new
  adds-all searches plans alike adds = record { plan = all_of plans; alike = alike; nodes = adds.nodes_are; rows = adds.rows_are }

  pub adds-some : (searches : Searches (List (List ℕ))) (plans : Searches AtomPlan) → AreEachAlike (IsPlanOf config) searches plans
      → AddsHeaded kind.Or (each_search_nodes plans) (each_search_rows plans) old new → AddsSearch config (some_of searches) old new
  adds-some searches plans alike adds = record { plan = some_of plans; alike = alike; nodes = adds.nodes_are; rows = adds.rows_are }

  pub adds-not : (search : Search (List (List ℕ))) (plan : Search AtomPlan) → AreAlike (IsPlanOf config) search plan
      → AddsHeaded kind.Not (search_nodes plan) (search_rows plan) old new → AddsSearch config (not_of search) old new
  adds-not search plan alike adds = record { plan = not_of plan; alike = alike; nodes = adds.nodes_are; rows = adds.rows_are }

-- several searches, and one after them
abbrev pub and_then : {A : Type 0} → Searches A → Search A → Searches A
and_then no_entries s = entry s no_entries
and_then (entry e entries) s = entry e (and_then entries s)

alike-then : (config : Config) (searches : Searches (List (List ℕ))) (plans : Searches AtomPlan) (s : Search (List (List ℕ))) (plan : Search AtomPlan)
    → AreEachAlike (IsPlanOf config) searches plans → AreAlike (IsPlanOf config) s plan → AreEachAlike (IsPlanOf config) (and_then searches s) (and_then plans plan)
alike-then config no_entries no_entries s plan are is = (is, tt)
alike-then config (entry e es) (entry f fs) s plan are is = (are.0, alike-then config es fs s plan are.1 is)
alike-then config no_entries (entry f fs) s plan are is = absurd are
alike-then config (entry e es) no_entries s plan are is = absurd are

nodes-then : (plans : Searches AtomPlan) (plan : Search AtomPlan) → each_search_nodes (and_then plans plan) ≡ each_search_nodes plans ++ search_nodes plan
nodes-then no_entries plan = append-nil (search_nodes plan)
nodes-then (entry p plans) plan =
    ap (λ (ns : List Node). search_nodes p ++ ns) (nodes-then plans plan) ∙ sym (append_assoc (search_nodes p) (each_search_nodes plans) (search_nodes plan))

rows-then : (plans : Searches AtomPlan) (plan : Search AtomPlan) → each_search_rows (and_then plans plan) ≡ each_search_rows plans ++ search_rows plan
rows-then no_entries plan = append-nil (search_rows plan)
rows-then (entry p plans) plan =
    ap (λ (rs : List Row). search_rows p ++ rs) (rows-then plans plan) ∙ sym (append_assoc (search_rows p) (each_search_rows plans) (search_rows plan))

pub entries-then : (exprs : List WordExpr) (expr : WordExpr) → each_searched (exprs ++ expr ∷ []) ≡ and_then (each_searched exprs) (searched expr)
entries-then [] expr = refl
entries-then (x ∷ exprs) expr = ap (entry (searched x)) (entries-then exprs expr)

-- none is added
pub adds-none : (config : Config) (made : SearchPlan) → AddsEach config no_entries made made
adds-none config made = record { plans = no_entries; alike = tt; nodes = sym (append-nil made.nodes.items); rows = sym (append-nil made.rows.items) }

-- one more is added
pub adds-then : (config : Config) (searches : Searches (List (List ℕ))) (s : Search (List (List ℕ))) (old made new : SearchPlan)
    → AddsEach config searches old made → AddsSearch config s made new → AddsEach config (and_then searches s) old new
adds-then config searches s old made new each one = record {
  plans = and_then each.plans one.plan;
  alike = alike-then config searches each.plans s one.plan each.alike one.alike;
  nodes =
      one.nodes ∙ ap (λ (ns : List Node). ns ++ search_nodes one.plan) each.nodes
      ∙ append_assoc old.nodes.items (each_search_nodes each.plans) (search_nodes one.plan)
      ∙ ap (λ (ns : List Node). old.nodes.items ++ ns) (sym (nodes-then each.plans one.plan));
  rows =
      one.rows ∙ ap (λ (rs : List Row). rs ++ search_rows one.plan) each.rows
      ∙ append_assoc old.rows.items (each_search_rows each.plans) (search_rows one.plan)
      ∙ ap (λ (rs : List Row). old.rows.items ++ rs) (sym (rows-then each.plans one.plan));
}

-- no word is left exactly where each passes the test
pub none-left : (test : List ℕ → Bool) (words : List (List ℕ)) → nat_eq (length (filter (λ word. not (test word)) words)) 0 ≡ list_all test words
none-left test [] = refl
none-left test (w ∷ words) = here (test w) w (filter (λ word. not (test word)) words) (list_all test words) (none-left test words)
  where
    here : (b : Bool) (w : List ℕ) (left : List (List ℕ)) (rest : Bool) → nat_eq (length left) 0 ≡ rest →
        nat_eq (length (cond (not b) (w ∷ left) left)) 0 ≡ (b && rest)
    here true w left rest is = is
    here false w left rest is = grind arith
