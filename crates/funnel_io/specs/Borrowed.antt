-- The references of its caller's that an object holds.
use Rattle.std.specs.Borrow.{GName}

-- nothing, one reference with what stands behind it, or two parts
pub data Borrowed : Type 0 where
  nothing : Borrowed
  reference : GName → Borrowed → Borrowed
  both : Borrowed → Borrowed → Borrowed
