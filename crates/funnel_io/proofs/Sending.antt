-- How far a write of all bytes has come.
use Rattle.std.proofs.Common.{◌≡◌, ℕ, ◌+◌, ◌-◌, ◌≤◌, List, ◌++◌, length, take, drop, sym, ap, ◌∙◌, subst, arith, length-take, length-drop}
use Rattle.std.proofs.lemmas.List.{take_rest}
use Rattle.std.proofs.Math.Seq.{take-add}
use Rattle.std.proofs.KnownBytes.{Appends-trans}
use Rattle.funnel_io.specs.Borrowed.{Borrowed}
use Rattle.funnel_io.specs.Streams.{Incoming, Outgoing, Writes}

-- the first bytes went out, and no write failed
pub record HasSent (bytes : List ℕ) (sent : ℕ) (old now : Outgoing) (side_old side : Incoming) (borrowed_old borrowed_now : Borrowed) : Type 0 where
  pub within : sent ≤ length bytes
  pub writes : Writes (take sent bytes) old now
  pub faults : now.faults ≡ old.faults
  pub beside : side ≡ side_old
  pub borrowed : borrowed_now ≡ borrowed_old

-- the first bytes of what is left, after those that went out already
pub take-sent : (bytes : List ℕ) (sent n : ℕ)
    → take sent bytes ++ take n (take (length bytes - sent) (drop sent bytes)) ≡ take (sent + n) bytes
take-sent bytes sent n =
    ap (λ rest. take sent bytes ++ take n rest) (take_rest bytes sent) ∙ sym (take-add sent n bytes)

-- a further piece went out
pub writes_more : (bytes : List ℕ) (sent n : ℕ) (old between now : Outgoing)
    → Writes (take sent bytes) old between
    → Writes (take n (take (length bytes - sent) (drop sent bytes))) between now
    → Writes (take (sent + n) bytes) old now
writes_more bytes sent n old between now first second =
    let P : List ℕ → Type 0 = λ piece. Writes piece old now in
    subst P (take-sent bytes sent n)
    (Appends-trans old.written between.written now.written (take sent bytes) (take n (take (length bytes - sent) (drop sent bytes))) first second)

-- a count within the rest is within the whole
pub within_more : (bytes : List ℕ) (sent n : ℕ) → sent ≤ length bytes
    → n ≤ length (take (length bytes - sent) (drop sent bytes)) → sent + n ≤ length bytes
within_more bytes sent n within fits =
    omega (arith, length-take {A = ℕ}, length-drop {A = ℕ})
