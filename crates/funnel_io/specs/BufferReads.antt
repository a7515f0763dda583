-- Reads into a buffer.
use Rattle.std.specs.Prelude.{◌≡◌, ◌+◌, ◌-◌, ◌<◌, ◌≤◌, ⊤, ℕ, List, [], ◌++◌, length, min, take}
use Rattle.std.specs.Io.KnownBytes.{IsAtEnd}
use Rattle.funnel_io.specs.Answers.{MatchGot, read_failed}
use Rattle.funnel_io.specs.Calls.{Read, IsRoomFor}
use Rattle.funnel_io.specs.Counts.{counted}
use Rattle.funnel_io.specs.Streams.{Incoming, Takes}
use Rattle.funnel_io.specs.declared.source.Got.{Got}

-- what the answer of a read tells: it took some of the bytes that may be taken, or none of them, as the source is at its end or it failed;
-- and a failure is counted
pub record TellsRead {S : Type 0} (incoming : S → Incoming) (answer : Got) (before after : S) (may may' : ℕ) : Type 0 where
  pub left : MatchGot answer (λ _. may' < may) (may' ≡ may) (may' ≡ may)
  pub at_end : MatchGot answer (λ _. ⊤) (IsAtEnd (incoming after).left) ⊤
  pub faults : (incoming after).faults ≡ counted (read_failed answer) (incoming before).faults

-- a read into a buffer from its end on left what is before it, and gave one byte or more, but no more than it may, all of them within the
-- buffer
pub record FillsFrom (end may : ℕ) (answer : Got) (old new : List ℕ) : Type 0 where
  pub kept : take end new ≡ take end old
  pub count : MatchGot answer (λ n. (1 ≤ n) × (n ≤ may) × (end + n ≤ length new)) ⊤ ⊤

-- one read was made, into the room behind the end or as much of it as may be taken; its bytes stand behind those that were before the end,
-- which is behind them now
pub record ReadsBehind {S : Type 0} (incoming : S → Incoming) (gives : S → Read → S → Type 0) (answer : Got) (before after : S)
    (old : List ℕ) (end : ℕ) (new : List ℕ) (end' may may' : ℕ) : Type 0 where
  pub read : Read
  pub answered : read.answer ≡ answer
  pub told : MatchGot answer (λ n. n ≡ length read.bytes) (read.bytes ≡ []) (read.bytes ≡ [])
  pub step : gives before read after
  pub room : read.room ≡ min may (length old - end)
  pub takes : Takes read.bytes (incoming before) (incoming after)
  pub size : length new ≡ length old
  pub within : end' ≤ length new
  pub moved : end' ≡ end + length read.bytes
  pub behind : take end' new ≡ take end old ++ read.bytes
  pub count : may' + length read.bytes ≡ may

-- one read was made, of at most as many bytes as may be taken, and its bytes stand behind those that were held
pub record ReadsOnce {S : Type 0} (incoming : S → Incoming) (gives : S → Read → S → Type 0) (before after : S) (old new : List ℕ) (answer : Got) (may may' : ℕ) : Type 0 where
  pub read : Read
  pub answered : read.answer ≡ answer
  pub step : gives before read after
  pub room : IsRoomFor read.room may
  pub takes : Takes read.bytes (incoming before) (incoming after)
  pub grown : new ≡ old ++ read.bytes
  pub count : may' + length read.bytes ≡ may
