-- Searches one after the other: those that were evaluated, and those that are left.
use Rattle.std.proofs.Common.{◌≡◌, ◌≤◌, ◌<◌, ◌+◌, ◌++◌, List, length, take, drop, get_or, refl, sym, ap, ap₂, ◌∙◌, subst, arith}
use Rattle.funnel_model.specs.Searches.{Search, Searches, all_of, atom_of, entry, no_entries, not_of, some_of}
use Rattle.row_layout.specs.AtomReads.{AtomPlan}
use Rattle.row_layout.specs.SearchPlans.{ArePlansOfSearches, IsPlanOfSearch, each_search_nodes, each_search_rows, search_nodes, search_rows, HasParts, IsFirstOf}
use Rattle.row_layout.specs.declared.row.Row.{Row}
use Rattle.row_layout.specs.declared.search_plan.Node.{Node}
use Rattle.std.proofs.lemmas.List.{length-append}
use Rattle.std.proofs.Math.Seq.{drop-append_seam, take-append_seam}

-- these entries, and then those
abbrev pub joined : {A : Type 0} → Searches A → Searches A → Searches A
joined no_entries others = others
joined (entry e es) others = entry e (joined es others)

-- the nodes and rows are those of the last of the searches, and so much holds of those before
pub record IsSplit (searches : Searches AtomPlan) (nodes : List Node) (rows : List Row) (Holds : Searches AtomPlan → Type 0) : Type 0 where
  pub done : Searches AtomPlan
  pub left : Searches AtomPlan
  pub whole : joined done left ≡ searches
  pub plans : ArePlansOfSearches left nodes rows
  pub holds : Holds done

-- the first node of a search tells how many nodes and rows the search has
head-counts : (e : Search AtomPlan) (rest : List Node) (d : Node) →
    ((get_or (search_nodes e ++ rest) 0 d).nodes ≡ length (search_nodes e)) × ((get_or (search_nodes e ++ rest) 0 d).rows ≡ length (search_rows e))
head-counts (atom_of plan) rest d = (refl, refl)
head-counts (all_of es) rest d = (omega arith, refl)
head-counts (some_of es) rest d = (omega arith, refl)
head-counts (not_of e) rest d = (omega arith, refl)

-- so the first of several is split from the others
pub first-of : (searches : Searches AtomPlan) (nodes : List Node) (rows : List Row) (d : Node) → 0 < length nodes → ArePlansOfSearches searches nodes rows →
    IsFirstOf searches (take (get_or nodes 0 d).nodes nodes) (take (get_or nodes 0 d).rows rows) (drop (get_or nodes 0 d).nodes nodes) (drop (get_or nodes 0 d).rows rows)
first-of no_entries nodes rows d some plans = absurd (omega (arith, some, ap length plans.nodes_are))
first-of (entry e es) nodes rows d some plans =
    let counts = head-counts e (each_search_nodes es) d in
    let n : (get_or nodes 0 d).nodes ≡ length (search_nodes e) = ap (λ (ns : List Node). (get_or ns 0 d).nodes) plans.nodes_are ∙ counts.0 in
    let r : (get_or nodes 0 d).rows ≡ length (search_rows e) = ap (λ (ns : List Node). (get_or ns 0 d).rows) plans.nodes_are ∙ counts.1 in
    record {
      first = e;
      later = es;
      whole = refl;
      plan = record {
        nodes_are = ap₂ (λ k (ns : List Node). take k ns) n plans.nodes_are ∙ take-append_seam (search_nodes e) (each_search_nodes es);
        rows_are = ap₂ (λ k (rs : List Row). take k rs) r plans.rows_are ∙ take-append_seam (search_rows e) (each_search_rows es);
      };
      plans = record {
        nodes_are = ap₂ (λ k (ns : List Node). drop k ns) n plans.nodes_are ∙ drop-append_seam (search_nodes e) (each_search_nodes es);
        rows_are = ap₂ (λ k (rs : List Row). drop k rs) r plans.rows_are ∙ drop-append_seam (search_rows e) (each_search_rows es);
      };
    }

-- a search has a node, of its kind, before its parts
pub some-nodes : (e : Search AtomPlan) → 0 < length (search_nodes e)
some-nodes (atom_of plan) = omega arith
some-nodes (all_of es) = omega arith
some-nodes (some_of es) = omega arith
some-nodes (not_of e) = omega arith

-- and has no more nodes and rows than all of them
pub first-within : (searches : Searches AtomPlan) (nodes : List Node) (rows : List Row) (d : Node) → 0 < length nodes → ArePlansOfSearches searches nodes rows →
    ((get_or nodes 0 d).nodes ≤ length nodes) × ((get_or nodes 0 d).rows ≤ length rows) × (0 < (get_or nodes 0 d).nodes)
first-within no_entries nodes rows d some plans = absurd (omega (arith, some, ap length plans.nodes_are))
first-within (entry e es) nodes rows d some plans =
    let counts = head-counts e (each_search_nodes es) d in
    let n : (get_or nodes 0 d).nodes ≡ length (search_nodes e) = ap (λ (ns : List Node). (get_or ns 0 d).nodes) plans.nodes_are ∙ counts.0 in
    let r : (get_or nodes 0 d).rows ≡ length (search_rows e) = ap (λ (ns : List Node). (get_or ns 0 d).rows) plans.nodes_are ∙ counts.1 in
    let all : length nodes ≡ length (search_nodes e) + length (each_search_nodes es) = ap length plans.nodes_are ∙ length-append (search_nodes e) (each_search_nodes es) in
    let every : length rows ≡ length (search_rows e) + length (each_search_rows es) = ap length plans.rows_are ∙ length-append (search_rows e) (each_search_rows es) in
    (omega (arith, n, all), omega (arith, r, every), omega (arith, n, some-nodes e))

pub head-parts : (search : Search AtomPlan) (nodes : List Node) (rows : List Row) (d : Node) → IsPlanOfSearch search nodes rows →
    HasParts search (get_or nodes 0 d).kind (drop 1 nodes) rows
head-parts search nodes rows d plan =
    subst (λ (ns : List Node). HasParts search (get_or ns 0 d).kind (drop 1 ns) rows) (sym plan.nodes_are) (of search plan.rows_are)
  where
    of : (search : Search AtomPlan) → rows ≡ search_rows search → HasParts search (get_or (search_nodes search) 0 d).kind (drop 1 (search_nodes search)) rows
    of (atom_of plan) are = (plan, refl, refl, are)
    of (all_of es) are = (es, refl, record { nodes_are = refl; rows_are = are })
    of (some_of es) are = (es, refl, record { nodes_are = refl; rows_are = are })
    of (not_of e) are = (e, refl, record { nodes_are = refl; rows_are = are })

pub joined-joined : {A : Type 0} (es fs gs : Searches A) → joined (joined es fs) gs ≡ joined es (joined fs gs)
joined-joined no_entries fs gs = refl
joined-joined (entry e es) fs gs = ap (entry e) (joined-joined es fs gs)

pub joined-none : {A : Type 0} (es : Searches A) → joined es no_entries ≡ es
joined-none no_entries = refl
joined-none (entry e es) = ap (entry e) (joined-none es)

-- no node is left where no search is
pub none-left : (searches : Searches AtomPlan) (nodes : List Node) (rows : List Row) → ArePlansOfSearches searches nodes rows → length nodes ≡ 0 → searches ≡ no_entries
none-left no_entries nodes rows plans none = refl
none-left (entry e es) nodes rows plans none =
    absurd (omega (arith, none, ap length plans.nodes_are, length-append (search_nodes e) (each_search_nodes es), some-nodes e))
