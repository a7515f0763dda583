-- What the steps of reading a configuration give, for the clauses of functions that are not public.
use Rattle.std.specs.Prelude.{◌≡◌, ◌+◌, ◌≤◌, ⊤, ℕ, List, length, Vec, Option, Some, None, Result, MatchResult}
use Rattle.std.specs.Global.{Global}
use Rattle.std.specs.Io.KnownBytes.{IsAtEnd}
use Rattle.funnel_io.specs.Streams.{Incoming, Takes}
use Rattle.serde_json.specs.Data.{Members}
use Rattle.funnel_stats.specs.Configurations.{longest}
use Rattle.funnel_stats.specs.declared.fault.ConfigFault.{ConfigFault}
use Rattle.funnel_stats.specs.declared.fault.ConfigFault.TheVariants.{ReadFault, TooLong, NotJson, Memory}

-- the fault is the one that applies to an object, but want of memory may always be answered
abbrev pub IsFault : ConfigFault → Option ConfigFault → Type 0
IsFault Memory applies = ⊤
IsFault ReadFault applies = ⊥
IsFault (TooLong limit) applies = ⊥
IsFault fault applies = applies ≡ Some fault

-- the answer is a value where no fault applies to an object, and else that fault
abbrev pub GivesOrFaults : {X : Type 0} → Result X ConfigFault → X → Option ConfigFault → Type 0
GivesOrFaults answer value applies = MatchResult answer (λ x. (applies ≡ None) × (x ≡ value)) (λ fault. IsFault fault applies)

-- the answer is the first fault that applies to an object, where one does
abbrev pub Checks : Result ⊤ ConfigFault → Option ConfigFault → Type 0
Checks answer applies = MatchResult answer (λ _. applies ≡ None) (λ fault. IsFault fault applies)

-- the bytes are no object, or no memory was found
abbrev pub IsNoObject : ConfigFault → Option Members → Type 0
IsNoObject Memory object = ⊤
IsNoObject NotJson object = object ≡ None
IsNoObject fault object = ⊥

-- a fault of taking the bytes: of one of too many bytes all were taken that may be
abbrev pub IsTakingFault : ConfigFault → List ℕ → Type 0
IsTakingFault ReadFault bytes = ⊤
IsTakingFault Memory bytes = ⊤
IsTakingFault fault bytes = (fault ≡ TooLong longest) × (length bytes ≡ longest + 1)

-- bytes were taken from a source: all of them, or those up to a fault
pub record IsTaken (answer : Result (Vec ℕ Global) ConfigFault) (before after : Incoming) : Type 0 where
  pub bytes : List ℕ
  pub takes : Takes bytes before after
  pub few : length bytes ≤ longest + 1
  pub answers : MatchResult answer
      (λ all. (all.items ≡ bytes) × (length bytes ≤ longest) × IsAtEnd after.left) (λ fault. IsTakingFault fault bytes)
