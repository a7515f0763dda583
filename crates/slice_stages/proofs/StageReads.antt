-- What the code reads of the stages.
use Rattle.std.proofs.Common.{◌≡◌, ℕ, ◌<◌, List, [], ◌∷◌, None, length, get_or, slice_get, refl, sym, ◌∙◌}
use Rattle.std.proofs.lemmas.List.{get_or_default}
use Rattle.slice_stages.specs.Stages.{StageTable, empty_stage, stage_of}
use Rattle.slice_stages.specs.Sets.{IsWaiting}
use Rattle.slice_stages.specs.declared.stage.Stage.{Stage}
use Rattle.slice_stages.specs.declared.stage.Stage.TheVariants as stage

-- the stage that is read is that of the slice
pub read_stage : (table seen : StageTable) (s : ℕ) (x : Stage) → table ≡ seen → s < length table.stages → x ≡ get_or table.stages s x → stage_of table s ≡ x
read_stage table seen s x same in' is = get_or_default table.stages s empty_stage x in' ∙ sym is

-- a list without a first item is empty
pub empty_is : (xs : List ℕ) → slice_get xs 0 ≡ None → xs ≡ []
empty_is [] is = refl
empty_is (x ∷ xs) is = cc

-- a slice that waits is retired
pub waits_is_retired : (mark : ℕ) (x : Stage) → IsWaiting mark x → ((at : ℕ) → x ≡ stage.Retired at → ⊥) → ⊥
waits_is_retired mark (stage.InUse claimed over) waits not = waits
waits_is_retired mark (stage.Retired at) waits not = not at refl
waits_is_retired mark (stage.Clearing pass) waits not = waits
