-- What reading a configuration from a source gives.
use Rattle.std.specs.Prelude.{◌≡◌, ◌+◌, ◌≤◌, ℕ, Bool, true, false, List, [], ◌∷◌, length, Option, Result, Ok, Err, MatchResult, ⊤}
use Rattle.std.specs.Io.KnownBytes.{IsAtEnd}
use Rattle.funnel_io.specs.Calls.{Read, Leads, AreBelow, GaveBytes, found_end, last_failed}
use Rattle.funnel_io.specs.Streams.{Incoming, Takes}
use Rattle.funnel_model.specs.declared.config.Config.{Config}
use Rattle.funnel_stats.specs.Configurations.{configuration, longest}
use Rattle.funnel_stats.specs.declared.fault.ConfigFault.{ConfigFault}
use Rattle.funnel_stats.specs.declared.fault.ConfigFault.TheVariants.{ReadFault, TooLong, Memory}

-- The fault is that of the bytes that were taken. Those are all that the source has, but for a source that is too long,
-- of which one byte more was taken than a configuration may have. A fault of reading and want of memory say nothing of
-- the bytes.
abbrev pub IsFaultOf : ConfigFault → List ℕ → Option (List ℕ) → Type 0
IsFaultOf ReadFault bytes left = ⊤
IsFaultOf Memory bytes left = ⊤
IsFaultOf (TooLong limit) bytes left = (configuration bytes ≡ Err (TooLong limit)) × (length bytes ≡ longest + 1)
IsFaultOf fault bytes left = (configuration bytes ≡ Err fault) × IsAtEnd left

-- The fault is the one that bytes have which were taken as a whole and are not too many. Want of memory says nothing of them.
abbrev pub IsFaultOfBytes : ConfigFault → Result Config ConfigFault → Type 0
IsFaultOfBytes Memory answer = ⊤
IsFaultOfBytes ReadFault answer = ⊥
IsFaultOfBytes (TooLong limit) answer = ⊥
IsFaultOfBytes fault answer = answer ≡ Err fault

-- the fault is that of a read that failed
abbrev pub is_failed_read : ConfigFault → Bool
is_failed_read ReadFault = true
is_failed_read _ = false

-- bytes were taken from a source, and what they are as a configuration is the answer
pub record IsConfigRead (answer : Result Config ConfigFault) (before after : Incoming) : Type 0 where
  pub bytes : List ℕ
  pub takes : Takes bytes before after
  pub few : length bytes ≤ longest + 1
  pub answers : MatchResult answer
      (λ config. (configuration bytes ≡ Ok config) × IsAtEnd after.left) (λ fault. IsFaultOf fault bytes after.left)

-- each of the reads but the first comes after one that gave bytes; the last of them stands first
abbrev pub AreGoingOn : List Read → Type 0
AreGoingOn [] = ⊤
AreGoingOn (read ∷ earlier) = AreGoingOn earlier × GaveBytes earlier

-- these are all reads of the source, none after one that gave no bytes, and each with room enough for what may still be taken. With a
-- configuration the last found the end, and the last one failed exactly where the answer is a failed read
pub record EndsReading {S X : Type 0} (read_gives : S → Read → S → Type 0) (answer : Result X ConfigFault) (before after : S) : Type 0 where
  pub reads : List Read
  pub lead : Leads read_gives before reads after
  pub going_on : AreGoingOn reads
  pub below : AreBelow (longest + 1) reads
  pub ended : MatchResult answer (λ _. found_end reads ≡ true) (λ fault. last_failed reads ≡ is_failed_read fault)
