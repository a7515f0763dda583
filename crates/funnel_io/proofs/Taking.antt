-- Bytes that are taken from a stream, one read after another.
use Rattle.std.proofs.Common.{ℕ, List, [], ◌++◌}
use Rattle.std.proofs.KnownBytes.{Appends-trans, Appends-nil, Consumes-trans, Consumes-nil}
use Rattle.funnel_io.specs.Streams.{Incoming, Takes}

-- nothing was taken
pub Takes-nil : (now : Incoming) → Takes [] now now
Takes-nil now = record { left = Consumes-nil now.left; taken = Appends-nil now.taken }

-- some bytes were taken, and then others
pub Takes-trans : (first between now : Incoming) (xs ys : List ℕ) → Takes xs first between → Takes ys between now → Takes (xs ++ ys) first now
Takes-trans first between now xs ys one two = record {
  left = Consumes-trans first.left between.left now.left xs ys one.left two.left;
  taken = Appends-trans first.taken between.taken now.taken xs ys one.taken two.taken;
}
