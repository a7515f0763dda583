-- Bytes that are taken from a source piece by piece.
use Rattle.std.proofs.Common.{◌≡◌, ◌≤◌, ◌+◌, ◌-◌, ℕ, true, List, [], ◌∷◌, ◌++◌, length, min, refl, sym, ap, ◌∙◌, subst, arith}
use Rattle.std.specs.Prelude.{Result, MatchResult}
use Rattle.funnel_io.specs.Answers.{read_failed}
use Rattle.funnel_io.specs.Calls.{Read, Leads, AreBelow, GaveBytes, IsReadBelow, IsRoomFor, bytes_read, is_end}
use Rattle.funnel_io.specs.declared.source.Got.{Got}
use Rattle.funnel_io.proofs.CallLaws.{below_at}
use Rattle.funnel_io.proofs.Holding.{room_for}
use Rattle.funnel_io.specs.declared.source.Got.TheVariants as got
use Rattle.funnel_stats.specs.Reading.{AreGoingOn, EndsReading, is_failed_read}
use Rattle.funnel_stats.specs.declared.fault.ConfigFault.{ConfigFault}
use Rattle.funnel_io.specs.Borrowed.{Borrowed}
use Rattle.funnel_io.specs.Streams.{Incoming, Outgoing, Takes}
use Rattle.funnel_stats.specs.Configurations.{longest}

-- what was taken so far
pub record HasTaken (bytes : List ℕ) (before now : Incoming) (borrowed borrowed' : Borrowed) (beside beside' : Outgoing) : Type 0 where
  pub few : length bytes ≤ longest + 1
  pub takes : Takes bytes before now
  pub faults : now.faults ≡ before.faults
  pub borrows : borrowed' ≡ borrowed
  pub aside : beside' ≡ beside

-- these are all reads so far, each of which gave bytes and had room enough, and these are the bytes
pub record HasRead {S : Type 0} (read_gives : S → Read → S → Type 0) (bytes : List ℕ) (before now : S) : Type 0 where
  pub reads : List Read
  pub lead : Leads read_gives before reads now
  pub going_on : AreGoingOn reads
  pub below : AreBelow 16777217 reads
  pub gave : GaveBytes reads
  pub all : bytes_read reads ≡ bytes

-- nothing was read yet
pub read_none : {S : Type 0} (read_gives : S → Read → S → Type 0) (bytes : List ℕ) (now : S) → bytes ≡ [] → HasRead read_gives bytes now now
read_none read_gives bytes now none = record { reads = []; lead = refl; going_on = tt; below = tt; gave = tt; all = sym none }

-- one more read has room enough
below_next : {S : Type 0} (read_gives : S → Read → S → Type 0) (bytes : List ℕ) (before now : S) (room : ℕ) (p : HasRead read_gives bytes before now)
    → length bytes ≤ 16777216 → room ≡ min (16777217 - length bytes) 4096 → IsReadBelow 16777217 p.reads room
below_next read_gives bytes before now room p few room_is =
    let count : length (bytes_read p.reads) ≡ length bytes = ap (λ (bs : List ℕ). length bs) p.all in
    let whole : 16777217 - length bytes + length (bytes_read p.reads) ≡ 16777217 = omega (arith, count, few) in
    below_at 16777217 (16777217 - length bytes) room p.reads whole (omega (arith, few))
    (subst (λ n. IsRoomFor n (16777217 - length bytes)) (sym room_is) (room_for (16777217 - length bytes) 4096 (omega arith)))

-- it gave bytes
pub read_more : {S : Type 0} (read_gives : S → Read → S → Type 0) (bytes piece more : List ℕ) (before now after : S) (room n : ℕ) → HasRead read_gives bytes before now
    → read_gives now (record { room = room; answer = got.Bytes n; bytes = piece }) after → length bytes ≤ 16777216 → room ≡ min (16777217 - length bytes) 4096
    → more ≡ bytes ++ piece → HasRead read_gives more before after
read_more read_gives bytes piece more before now after room n p step few room_is grown = record {
  reads = record { room = room; answer = got.Bytes n; bytes = piece } ∷ p.reads;
  lead = (now, p.lead, step);
  going_on = (p.going_on, p.gave);
  below = (p.below, below_next read_gives bytes before now room p few room_is);
  gave = tt;
  all = ap (λ (bs : List ℕ). bs ++ piece) p.all ∙ sym grown;
}

-- or it was the last
pub read_last : {S X : Type 0} (read_gives : S → Read → S → Type 0) (bytes piece : List ℕ) (before now after : S) (room : ℕ) (answered : Got) (answer : Result X ConfigFault)
    → HasRead read_gives bytes before now → read_gives now (record { room = room; answer = answered; bytes = piece }) after → length bytes ≤ 16777216
    → room ≡ min (16777217 - length bytes) 4096 → MatchResult answer (λ _. is_end answered ≡ true) (λ fault. read_failed answered ≡ is_failed_read fault)
    → EndsReading read_gives answer before after
read_last read_gives bytes piece before now after room answered answer p step few room_is ended = record {
  reads = record { room = room; answer = answered; bytes = piece } ∷ p.reads;
  lead = (now, p.lead, step);
  going_on = (p.going_on, p.gave);
  below = (p.below, below_next read_gives bytes before now room p few room_is);
  ended = ended;
}
