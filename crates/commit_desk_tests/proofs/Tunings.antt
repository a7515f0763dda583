-- A layout that was made within a room has room there.
use Rattle.std.proofs.Common.{◌≡◌, ⊎_elim, ℕ, ◌<◌, ◌≤◌, Result, Ok, Err}
use Rattle.std.proofs.lemmas.Bool.{cases_lt}
use Rattle.funnel_model.specs.declared.config.Config.{Config}
use Rattle.funnel_model.specs.Sizes.{words_of_slice}
use Rattle.row_layout.specs.declared.fault.LayoutFault.{LayoutFault}
use Rattle.row_layout.specs.declared.fault.LayoutFault.TheVariants as fault
use Rattle.row_layout.specs.Layouts.{LayoutId}

ok_is_no_err : (answer : Result LayoutId LayoutFault) (layout : LayoutId) (refused : LayoutFault) → answer ≡ Ok layout → answer ≡ Err refused → ⊥
ok_is_no_err answer layout refused ok err = cc

pub fits_within : (config : Config) (room : ℕ) (answer : Result LayoutId LayoutFault) (layout : LayoutId) →
    (room < words_of_slice config → answer ≡ Err (fault.Wide (words_of_slice config) room)) → answer ≡ Ok layout → words_of_slice config ≤ room
fits_within config room answer layout wide is = ⊎_elim
    (λ less. absurd (ok_is_no_err answer layout (fault.Wide (words_of_slice config) room) is (wide less)))
    (λ fits. fits)
    (cases_lt room (words_of_slice config))
