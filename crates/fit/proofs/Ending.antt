-- How a fit ends.
use Rattle.std.proofs.Common.{◌≤◌, ℕ, List, arith, length, refl}
use Rattle.funnel_io.specs.Streams.{Incoming, Outgoing}
use Rattle.fit.specs.Adds.{texts_added}
use Rattle.fit.specs.Chosen.{EndsInput, HasNoFit, Without}
use Rattle.fit.specs.Ends.{Fits}
use Rattle.fit.specs.Samples.{EndsSample, IsSampled}
use Rattle.fit.specs.declared.ends.FitEnd.{FitEnd}
use Rattle.fit.specs.declared.ends.FitEnd.TheVariants as end_of

-- nothing was written
pub ended : (n limit : ℕ) (before after : Incoming) (outgoing : Outgoing) (end : FitEnd) → EndsInput n limit before after end
    → Fits n limit (record { incoming = before; outgoing = outgoing }) (record { incoming = after; outgoing = outgoing }) end
ended n limit before after outgoing end_of.Done e = absurd e.without
ended n limit before after outgoing end_of.WriteFault e = absurd e.without
ended n limit before after outgoing end_of.ReadFault e = record { taken = e.taken; takes = e.takes; ends = (e.without.0, refl); reads = e.without.1; writes = refl }
ended n limit before after outgoing (end_of.ByteLimit told) e = record { taken = e.taken; takes = e.takes; ends = (e.without.0, e.without.1, refl); reads = e.without.2; writes = refl }
ended n limit before after outgoing end_of.Memory e = record { taken = e.taken; takes = e.takes; ends = (e.without.0, refl); reads = e.without.1; writes = refl }
ended n limit before after outgoing (end_of.Misfit cause) e =
    record { taken = e.taken; takes = e.takes; ends = (e.without.0, e.without.1, e.without.2, refl); reads = e.without.3; writes = refl }

-- the sample was not read to its end
without_sample : (n limit : ℕ) (before after : Incoming) (end : FitEnd) (e : EndsSample limit before after end) → Without n limit end e.taken after.left before.faults after.faults
without_sample n limit before after end_of.Done e = absurd e.stops
without_sample n limit before after end_of.WriteFault e = absurd e.stops
without_sample n limit before after end_of.ReadFault e = e.stops
without_sample n limit before after (end_of.ByteLimit told) e = e.stops
without_sample n limit before after end_of.Memory e = e.stops
without_sample n limit before after (end_of.Misfit cause) e = absurd e.stops

pub no_sample : (n limit : ℕ) (before after : Incoming) (end : FitEnd) → EndsSample limit before after end → EndsInput n limit before after end
no_sample n limit before after end e = record { taken = e.taken; takes = e.takes; without = without_sample n limit before after end e }

-- the sample has no configuration
without_fit : (n limit : ℕ) (before after : Incoming) (tally : List (List ℕ × ℕ)) (documents words : ℕ) (end : FitEnd) (s : IsSampled limit before after tally documents words)
    → HasNoFit n (texts_added s.taken) end → Without n limit end s.taken after.left before.faults after.faults
without_fit n limit before after tally documents words end_of.Memory s none = (let few : length s.taken ≤ limit = omega (arith, s.within) in few, s.reads_stay)
without_fit n limit before after tally documents words (end_of.Misfit cause) s none = (s.within, s.at_end, none, s.reads_stay)
without_fit n limit before after tally documents words end_of.Done s none = absurd none
without_fit n limit before after tally documents words end_of.ReadFault s none = absurd none
without_fit n limit before after tally documents words end_of.WriteFault s none = absurd none
without_fit n limit before after tally documents words (end_of.ByteLimit told) s none = absurd none

pub no_fit : (n limit : ℕ) (before after : Incoming) (tally : List (List ℕ × ℕ)) (documents words : ℕ) (end : FitEnd) (s : IsSampled limit before after tally documents words)
    → HasNoFit n (texts_added s.taken) end → EndsInput n limit before after end
no_fit n limit before after tally documents words end s none = record { taken = s.taken; takes = s.takes; without = without_fit n limit before after tally documents words end s none }
