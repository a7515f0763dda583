-- What a call on one half of a connection leaves as it is.
use Rattle.std.specs.Prelude.{◌≡◌}
use Rattle.funnel_io.specs.Borrowed.{Borrowed}

-- the references are those that it held before, and the other half is as it was
pub record StaysBeside {S Half : Type 0} (borrowed : S → Borrowed) (beside : S → Half) (before after : S) : Type 0 where
  pub references : borrowed after ≡ borrowed before
  pub other_half : beside after ≡ beside before
