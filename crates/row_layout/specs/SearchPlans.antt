-- The plan of a search as flat lists of nodes and rows.
use Rattle.std.specs.Prelude.{◌≡◌, ◌+◌, List, [], ◌∷◌, ◌++◌, length}
use Rattle.funnel_model.specs.Searches.{Search, Searches, all_of, atom_of, entry, no_entries, not_of, some_of}
use Rattle.row_layout.specs.AtomReads.{AtomPlan}
use Rattle.row_layout.specs.declared.row.Row.{Row}
use Rattle.row_layout.specs.declared.search_plan.Node.{Node}
use Rattle.row_layout.specs.declared.search_plan.NodeKind.{NodeKind}
use Rattle.row_layout.specs.declared.search_plan.NodeKind.TheVariants as kind

abbrev mutual
  -- the rows of the atoms of a search, one atom after the other
  pub search_rows : Search AtomPlan → List Row
  search_rows (atom_of plan) = plan.rows
  search_rows (all_of entries) = each_search_rows entries
  search_rows (some_of entries) = each_search_rows entries
  search_rows (not_of e) = search_rows e

  pub each_search_rows : Searches AtomPlan → List Row
  each_search_rows no_entries = []
  each_search_rows (entry e entries) = search_rows e ++ each_search_rows entries

-- a node of this kind, before the nodes of its parts, with as many rows
abbrev pub headed : NodeKind → List Node → List Row → List Node
headed node_kind parts rows = record { kind = node_kind; nodes = length parts + 1; rows = length rows } ∷ parts

abbrev mutual
  -- the nodes of a search: each stands before those of its parts
  pub search_nodes : Search AtomPlan → List Node
  search_nodes (atom_of plan) = headed (kind.Atom plan.exact) [] plan.rows
  search_nodes (all_of entries) = headed kind.And (each_search_nodes entries) (each_search_rows entries)
  search_nodes (some_of entries) = headed kind.Or (each_search_nodes entries) (each_search_rows entries)
  search_nodes (not_of e) = headed kind.Not (search_nodes e) (search_rows e)

  pub each_search_nodes : Searches AtomPlan → List Node
  each_search_nodes no_entries = []
  each_search_nodes (entry e entries) = search_nodes e ++ each_search_nodes entries

-- the nodes and the rows are those of the search
pub record IsPlanOfSearch (search : Search AtomPlan) (nodes : List Node) (rows : List Row) : Type 0 where
  pub nodes_are : nodes ≡ search_nodes search
  pub rows_are : rows ≡ search_rows search

-- and those of several, one after the other
pub record ArePlansOfSearches (searches : Searches AtomPlan) (nodes : List Node) (rows : List Row) : Type 0 where
  pub nodes_are : nodes ≡ each_search_nodes searches
  pub rows_are : rows ≡ each_search_rows searches

-- the first of several searches has these nodes and rows, and the others have those
pub record IsFirstOf (searches : Searches AtomPlan) (nodes : List Node) (rows : List Row) (later_nodes : List Node) (later_rows : List Row) : Type 0 where
  pub first : Search AtomPlan
  pub later : Searches AtomPlan
  pub whole : searches ≡ entry first later
  pub plan : IsPlanOfSearch first nodes rows
  pub plans : ArePlansOfSearches later later_nodes later_rows

-- the node of the search is of this kind, and its parts have these nodes and rows
abbrev pub HasParts : Search AtomPlan → NodeKind → List Node → List Row → Type 0
HasParts search (kind.Atom exact) nodes rows = (plan : AtomPlan) × (search ≡ atom_of plan) × (plan.exact ≡ exact) × (rows ≡ plan.rows)
HasParts search kind.And nodes rows = (entries : Searches AtomPlan) × (search ≡ all_of entries) × ArePlansOfSearches entries nodes rows
HasParts search kind.Or nodes rows = (entries : Searches AtomPlan) × (search ≡ some_of entries) × ArePlansOfSearches entries nodes rows
HasParts search kind.Not nodes rows = (e : Search AtomPlan) × (search ≡ not_of e) × IsPlanOfSearch e nodes rows
