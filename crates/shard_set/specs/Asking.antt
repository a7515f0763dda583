-- What the shards of a set are asked in turn, and have found so far.
use Rattle.std.specs.Prelude.{ℕ, ◌<◌, ◌≤◌, ◌≡◌, List, [], length, slice_index_or, Result, Ok}
use Rattle.std.specs.List.{filter_map, flat_map}
use Rattle.commit_desk.specs.declared.answers.FindFault.{FindFault}
use Rattle.commit_desk.specs.declared.answers.FindFault.TheVariants as find
use Rattle.engine.specs.declared.querying.SearchFault.{SearchFault}
use Rattle.engine.specs.declared.querying.SearchFault.TheVariants as search
use Rattle.engine.specs.Solos.{SoloState}
use Rattle.funnel_model.specs.Queries.{IsMalformed, IsTooDeep}
use Rattle.shard_set.specs.declared.home.Home.{Home}
use Rattle.shard_set.specs.Calls.{AsksEach, AsksOrNot, FindsIn, OneRefuses, SearchesIn}
use Rattle.shard_set.specs.Merging.{placed}

-- what several shards found, each number with the place of its document
abbrev pub placed_all : List (ℕ × Home) → List (List ℕ) → List (ℕ × ℕ)
placed_all homes owns = flat_map (λ own. filter_map (placed homes) own) owns

-- the first so many shards were asked, and these are the numbers that each found; the others weren't
pub record HasFound {F : Type 0} (Call : SoloState → SoloState → Result (List ℕ) F → Type 0) (homes : List (ℕ × Home)) (before : List SoloState) (upto : ℕ) (after : List SoloState)
    (found : List (ℕ × ℕ)) : Type 0 where
  pub count : length after ≡ length before
  pub owns : List (List ℕ)
  pub owns_count : length owns ≡ upto
  pub asked : (k : ℕ) (d : SoloState) → k < upto → Call (slice_index_or before k d) (slice_index_or after k d) (Ok (slice_index_or owns k []))
  pub others : (k : ℕ) (d : SoloState) → upto ≤ k → slice_index_or after k d ≡ slice_index_or before k d
  pub found_is : found ≡ placed_all homes owns

-- a find ended with this fault: a shard refused it, or there was no memory
abbrev pub IsFindFault : List ℕ → List SoloState → List SoloState → FindFault → Type 0
IsFindFault query before after (find.Spent events) =
    AsksEach (AsksOrNot (FindsIn query)) before after × OneRefuses (FindsIn query) before after (find.Spent events)
IsFindFault query before after find.Memory = AsksEach (AsksOrNot (FindsIn query)) before after

-- so did a query, or its text is none and nothing was done
abbrev pub IsSearchFault : List ℕ → List SoloState → List SoloState → SearchFault → Type 0
IsSearchFault text before after (search.Syntax at) = IsMalformed text at × (after ≡ before)
IsSearchFault text before after (search.Deep at) = IsTooDeep text at × (after ≡ before)
IsSearchFault text before after (search.Spent events) =
    AsksEach (AsksOrNot (SearchesIn text)) before after × OneRefuses (SearchesIn text) before after (search.Spent events)
IsSearchFault text before after search.Memory = AsksEach (AsksOrNot (SearchesIn text)) before after
