use Rattle.std.proofs.Common.{◌-◌, ◌<◌, ◌≤◌, length, map, take}
use Rattle.funnel_stats.specs.Configurations.{longest}
use Rattle.fit.specs.Made.{IsTooLong, IsWrittenFor}
use Rattle.fit.specs.Steps.{ranked}
use Rattle.fit.specs.Texts.{text_of}
use Rattle.fit.proofs.fitting.list_fewer.Given as goal

-- the text has room for the first `fits` words, and not for `over`
abbrev pub invariant-loop-over : goal.invariant-loop-over
invariant-loop-over l = record {
  apart : l.fits < l.over;
  within : l.over ≤ l.too_many;
  is : IsWrittenFor l.frame (take l.fits (map ranked l.ranking)) l.best;
  short : length (text_of l.best.config) ≤ longest;
  too_long : IsTooLong l.frame (map ranked l.ranking) l.over;
}

abbrev pub decreases-loop-over : goal.decreases-loop-over
decreases-loop-over l = l.over - l.fits
