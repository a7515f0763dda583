-- Two options are the same where both are empty, or have the same in them; and a free column is not live.
use Rattle.std.proofs.Common.{◌≡◌, ℕ, None, Some}
use Rattle.document_store.specs.declared.column.Column.TheVariants as became

pub some_same : {A : Type 0} (x y : A) → Some x ≡ Some y → x ≡ y
some_same x y is = cc

pub none_some : {A : Type 0} (x : A) → None ≡ Some x → ⊥
none_some x is = cc

pub free_not_live : (added since : ℕ) → became.Free ≡ became.Live added since → ⊥
free_not_live added since is = cc
