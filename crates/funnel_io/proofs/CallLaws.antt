-- Calls on a stream, one after another.
use Rattle.std.proofs.Common.{◌≡◌, ◌<◌, ◌+◌, ◌-◌, ℕ, true, false, List, [], ◌∷◌, ◌++◌, length, take, drop, sym, refl, ap, ◌∙◌, subst, arith, append_assoc, append-nil, length-append, length-take, length-drop, take-append-drop}
use Rattle.std.proofs.lemmas.List.{take_rest}
use Rattle.std.proofs.Math.Seq.{take-length}
use Rattle.funnel_io.specs.Answers.{MatchGot, read_failed}
use Rattle.funnel_io.specs.Calls.{Read, Write, Leads, AreOfRest, GaveBytes, IsOfRest, IsReadBelow, IsRoomFor, TookBytes, WritesAs, bytes_read, bytes_written, found_end, is_end, last_failed}
use Rattle.funnel_io.specs.declared.sink.Put.TheVariants as put
use Rattle.funnel_io.specs.declared.source.Got.{Got}
use Rattle.funnel_io.specs.declared.source.Got.TheVariants as got
use Rattle.funnel_io.proofs.Sending.{take-sent}

-- the first bytes went out by these writes
pub record HasWritten {S : Type 0} (gives : S → Write → S → Type 0) (bytes : List ℕ) (sent : ℕ) (before now : S) : Type 0 where
  pub writes : List Write
  pub lead : Leads gives before writes now
  pub of_rest : AreOfRest bytes writes
  pub took : TookBytes writes
  pub sent_are : bytes_written writes ≡ take sent bytes

pub written_none : {S : Type 0} (gives : S → Write → S → Type 0) (bytes : List ℕ) (now : S) → HasWritten gives bytes 0 now now
written_none gives bytes now = record { writes = []; lead = refl; of_rest = tt; took = tt; sent_are = refl }

module _ {S : Type 0} (gives : S → Write → S → Type 0) (bytes : List ℕ) (sent : ℕ) (before now after : S) (p : HasWritten gives bytes sent before now)
    (some : sent < length bytes) where
  rest : List ℕ
  rest = take (length bytes - sent) (drop sent bytes)

  is_of_rest : IsOfRest bytes p.writes rest
  unfolding rest
  is_of_rest = record {
    going_on = p.took;
    rest = sym (ap (λ xs. take sent bytes ++ xs) (take_rest bytes sent) ∙ take-append-drop sent bytes) ∙ ap (λ xs. xs ++ rest) (sym p.sent_are);
    some = omega (arith, some, length-take (length bytes - sent) (drop sent bytes), length-drop sent bytes);
  }

  -- one more write was made, and it failed
  pub writes_failed : gives now (record { piece = take (length bytes - sent) (drop sent bytes); answer = put.Failed }) after → WritesAs gives bytes before after true
  unfolding rest
  writes_failed step = record {
    writes = record { piece = rest; answer = put.Failed } ∷ p.writes;
    lead = (now, p.lead, step);
    of_rest = (p.of_rest, is_of_rest);
    sent = omega (arith, some, length-append (bytes_written p.writes) [], ap length p.sent_are, length-take sent bytes);
  }

  -- and it took bytes
  pub written_more : (n : ℕ) → gives now (record { piece = take (length bytes - sent) (drop sent bytes); answer = put.Bytes n }) after
      → HasWritten gives bytes (sent + n) before after
  unfolding rest
  written_more n step = record {
    writes = record { piece = rest; answer = put.Bytes n } ∷ p.writes;
    lead = (now, p.lead, step);
    of_rest = (p.of_rest, is_of_rest);
    took = tt;
    sent_are = ap (λ xs. xs ++ take n rest) p.sent_are ∙ take-sent bytes sent n;
  }

-- all bytes went out
pub writes_all : {S : Type 0} (gives : S → Write → S → Type 0) (bytes : List ℕ) (sent : ℕ) (before now : S) → HasWritten gives bytes sent before now
    → sent ≡ length bytes → WritesAs gives bytes before now false
writes_all gives bytes sent before now p all = record {
  writes = p.writes;
  lead = p.lead;
  of_rest = p.of_rest;
  sent = p.sent_are ∙ (ap (λ n. take n bytes) all ∙ take-length bytes);
}

-- where the last read found no end and didn't fail, it gave bytes
pub gave_bytes : (reads : List Read) → found_end reads ≡ false → last_failed reads ≡ false → GaveBytes reads
gave_bytes [] no_end no_failure = tt
gave_bytes (read ∷ earlier) no_end no_failure = gave read.answer no_end no_failure where
  gave : (answer : Got) → is_end answer ≡ false → read_failed answer ≡ false → MatchGot answer (λ _. Unit {0}) ⊥ ⊥
  gave (got.Bytes n) not_end not_failed = tt
  gave got.End not_end not_failed = cc
  gave got.Failed not_end not_failed = cc

-- the bytes of reads come behind those of the reads before them
pub bytes_read-append : (reads earlier : List Read) → bytes_read (reads ++ earlier) ≡ bytes_read earlier ++ bytes_read reads
bytes_read-append [] earlier = sym (append-nil (bytes_read earlier))
bytes_read-append (read ∷ reads) earlier =
    ap (λ bs. bs ++ read.bytes) (bytes_read-append reads earlier) ∙ append_assoc (bytes_read earlier) (bytes_read reads) read.bytes

-- what the last of the reads did, it did after those before them
pub gave_bytes-append : (reads earlier : List Read) → GaveBytes reads → GaveBytes earlier → GaveBytes (reads ++ earlier)
gave_bytes-append [] earlier gave gave_before = gave_before
gave_bytes-append (read ∷ reads) earlier gave gave_before = gave

pub last_failed-append : (reads earlier : List Read) → last_failed reads ≡ false → last_failed earlier ≡ false → last_failed (reads ++ earlier) ≡ false
last_failed-append [] earlier none none_before = none_before
last_failed-append (read ∷ reads) earlier none none_before = none

-- a read, after others of which so many bytes were left, with room enough for these
pub below_at : (limit still room : ℕ) (earlier : List Read) → still + length (bytes_read earlier) ≡ limit → 0 < still → IsRoomFor room still → IsReadBelow limit earlier room
below_at limit still room earlier count some enough =
    let left : still ≡ limit - length (bytes_read earlier) = omega (arith, count) in
    record { some = omega (arith, count, some); enough = subst (λ n. IsRoomFor room n) left enough }

-- so it is after further ones, that came before them
pub below_after : (limit may room : ℕ) (earlier before : List Read) → may + length (bytes_read before) ≡ limit → IsReadBelow may earlier room
    → IsReadBelow limit (earlier ++ before) room
below_after limit may room earlier before count is =
    let taken : length (bytes_read (earlier ++ before)) ≡ length (bytes_read before) + length (bytes_read earlier) =
    ap (λ (bs : List ℕ). length bs) (bytes_read-append earlier before) ∙ length-append (bytes_read before) (bytes_read earlier) in
    let left : may - length (bytes_read earlier) ≡ limit - length (bytes_read (earlier ++ before)) = omega (arith, count, taken) in
    record { some = omega (arith, count, taken, is.some); enough = subst (λ n. IsRoomFor room n) left is.enough }
