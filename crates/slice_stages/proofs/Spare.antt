-- How many columns are spare and ready.
use Rattle.std.proofs.Common.{◌≡◌, ℕ, zero, suc, ◌+◌, ◌-◌, ◌*◌, ◌^◌, ◌<◌, ◌≤◌, List, [], ◌∷◌, length, replicate, refl, ap, arith}
use Rattle.std.proofs.lemmas.Nat.{mul-le}
use Rattle.std.proofs.lemmas.List.Sums.{get_or-le-sum_by, sum_by-cons, sum_by-set}
use Rattle.std.specs.List.{sum_by}
use Rattle.std.specs.Prelude.{min}
use Rattle.funnel_model.specs.declared.config.TheConstants.{MOST_SLICES}
use Rattle.slice_stages.specs.Stages.{IsUsed, StageTable, IsRetiredBy, empty_stage, spare_in, spare_of, stage_of, with_stage}
use Rattle.slice_stages.specs.declared.stage.Stage.{Stage}
use Rattle.slice_stages.specs.declared.stage.Stage.TheVariants as stage

-- after one slice has another stage
pub spare-with : (table : StageTable) (s : ℕ) (next : Stage) → s < length table.stages →
    spare_of (with_stage table s next) + spare_in table.columns (stage_of table s) ≡ spare_of table + spare_in table.columns next
spare-with table s next in' = sum_by-set (spare_in table.columns) table.stages s next empty_stage in'

-- as many where as many are spare in that slice
pub spare-same : (table : StageTable) (s spare : ℕ) (next : Stage) → s < length table.stages → spare_in table.columns next ≡ spare_in table.columns (stage_of table s) →
    spare ≡ spare_of table → spare ≡ spare_of (with_stage table s next)
spare-same table s spare next in' same is = omega (arith, same, is, spare-with table s next in')

-- one less after a claim
pub spare-claim : (table : StageTable) (s spare claimed over : ℕ) → s < length table.stages → stage_of table s ≡ stage.InUse claimed over → claimed < table.columns →
    spare ≡ spare_of table → spare - 1 ≡ spare_of (with_stage table s (stage.InUse (claimed + 1) over))
spare-claim table s spare claimed over in' is left counted =
    let was = ap (spare_in table.columns) is in
    omega (arith, was, left, counted, spare-with table s (stage.InUse (claimed + 1) over) in')

-- where a column is left some are spare
pub some_spare : (table : StageTable) (s claimed over : ℕ) → s < length table.stages → stage_of table s ≡ stage.InUse claimed over → claimed < table.columns → 1 ≤ spare_of table
some_spare table s claimed over in' is left =
    let was = ap (spare_in table.columns) is in
    omega (arith, was, left, get_or-le-sum_by (spare_in table.columns) table.stages s empty_stage in')

-- and all columns of a slice once it retires
pub spare-retire : (table : StageTable) (s spare claimed over event : ℕ) → s < length table.stages → stage_of table s ≡ stage.InUse claimed over →
    spare ≡ spare_of table → spare + min claimed table.columns ≡ spare_of (with_stage table s (stage.Retired event))
spare-retire table s spare claimed over event in' is counted =
    let was = ap (spare_in table.columns) is in
    omega (arith, was, counted, spare-with table s (stage.Retired event) in')

-- a slice that is not in use has all its columns spare
pub all_spare : (columns : ℕ) (x : Stage) → (IsUsed x → ⊥) → spare_in columns x ≡ columns
all_spare columns (stage.InUse claimed over) not = absurd (not tt)
all_spare columns (stage.Retired at) not = refl
all_spare columns (stage.Clearing pass) not = refl

pub retired_unused : (mark : ℕ) (x : Stage) → IsRetiredBy mark x → IsUsed x → ⊥
retired_unused mark (stage.InUse claimed over) retired used = retired
retired_unused mark (stage.Retired at) retired used = used
retired_unused mark (stage.Clearing pass) retired used = used

-- all of them where none is claimed
pub spare-new : (columns slices : ℕ) → sum_by (spare_in columns) (replicate slices empty_stage) ≡ slices * columns
spare-new columns zero = omega arith
spare-new columns (suc slices) =
    let first = sum_by-cons (spare_in columns) empty_stage (replicate slices empty_stage) in
    let rest = spare-new columns slices in
    let times : suc slices * columns ≡ columns + slices * columns = omega arith in
    omega (arith, first, rest, times)

-- no more than there are
spare_within : (columns : ℕ) (x : Stage) → spare_in columns x ≤ columns
spare_within columns (stage.InUse claimed over) = omega arith
spare_within columns (stage.Retired at) = omega arith
spare_within columns (stage.Clearing pass) = omega arith

pub sum_within : (f : Stage → ℕ) (columns : ℕ) (xs : List Stage) → ((x : Stage) → f x ≤ columns) → sum_by f xs ≤ length xs * columns
sum_within f columns [] few = omega arith
sum_within f columns (x ∷ xs) few =
    let first = sum_by-cons f x xs in
    let rest = sum_within f columns xs few in
    let one = few x in
    let times : suc (length xs) * columns ≡ columns + length xs * columns = omega arith in
    omega (arith, first, rest, one, times)

pub spare_few : (table : StageTable) → spare_of table ≤ length table.stages * table.columns
spare_few table = sum_within (spare_in table.columns) table.columns table.stages (spare_within table.columns)

-- with those of one slice more there are still fewer than 2^64
pub few_spare : (table : StageTable) (spare claimed least : ℕ) → length table.stages ≤ MOST_SLICES → table.columns < 2 ^ 32 → spare ≡ spare_of table → least ≡ min claimed table.columns →
    spare + least < 2 ^ 64
few_spare table spare claimed least few small counted least_is =
    let all : length table.stages * table.columns ≤ 1024 * 4294967296 = mul-le (length table.stages) table.columns 1024 4294967296 (omega (arith, few)) (omega (arith, small)) in
    let sum = spare_few table in
    omega (arith, sum, all, counted, least_is, small)
