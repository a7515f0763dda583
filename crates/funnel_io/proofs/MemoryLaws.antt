-- What a call on a stream or a gate in memory is answered.
use Rattle.std.proofs.Common.{◌≡◌, ◌⊎◌, ◌<◌, ◌≤◌, ℕ, List, [], ◌∷◌, length, min, Contains, refl, sym, ap, ◌∙◌, subst, inl, inr, arith}
use Rattle.std.proofs.lemmas.Bool.Decides.{leb_tells}
use Rattle.std.specs.Prelude.{⊤}
use Rattle.funnel_io.specs.Answers.{MatchGot, opening_failed}
use Rattle.funnel_io.specs.MemGates.{IsNext, IsOpened, MemConn, MemGateState}
use Rattle.funnel_io.specs.Memory.{IsRead, IsWrite, SinkState, SourceState, first_piece, unread}
use Rattle.funnel_io.specs.declared.gate.Next.{Next}
use Rattle.funnel_io.specs.declared.gate.Next.TheVariants as next
use Rattle.funnel_io.specs.declared.gate.Opening.{Opening}
use Rattle.funnel_io.specs.declared.gate.Opening.TheVariants as opening
use Rattle.funnel_io.specs.declared.sink.Put.{Put}
use Rattle.funnel_io.specs.declared.sink.Put.TheVariants as put
use Rattle.funnel_io.specs.declared.source.Got.{Got}
use Rattle.funnel_io.specs.declared.source.Got.TheVariants as got

-- ---- a source

-- bytes come of a piece that is left
of_a_piece : (pieces : List (List ℕ)) (room n : ℕ) → n ≡ min room (length (first_piece pieces)) → 1 ≤ n → pieces ≡ [] → ⊥
of_a_piece pieces room n is some none =
    let nothing : n ≡ min room 0 = is ∙ ap (λ ps. min room (length (first_piece ps))) none in
    elim (leb_tells room 0) [
      | inl within ↦ omega (arith, nothing, some, within.1)
      | inr more ↦ omega (arith, nothing, some, more.1)
    ]

module _ (old : SourceState) (room : ℕ) where
  failed_read : (answer other : Got) (new also : SourceState) → IsRead old room answer new → IsRead old room other also → answer ≡ got.Failed → other ≡ got.Failed
  failed_read answer other new also one two is = two.by_number.1 (subst (λ n. Contains old.fails n) (one.reads ∙ sym two.reads) (one.by_number.0 is))

  pub one_read : (answer other : Got) (new also : SourceState) → IsRead old room answer new → IsRead old room other also →
      MatchGot answer (λ n. 1 ≤ n) ⊤ ⊤ → MatchGot other (λ n. 1 ≤ n) ⊤ ⊤ → answer ≡ other
  one_read got.Failed other new also one two some others = sym (failed_read got.Failed other new also one two refl)
  one_read (got.Bytes n) got.Failed new also one two some others = failed_read got.Failed (got.Bytes n) also new two one refl
  one_read got.End got.Failed new also one two some others = failed_read got.Failed got.End also new two one refl
  one_read (got.Bytes n) (got.Bytes m) new also one two some others = ap (λ k. got.Bytes k) (one.one_piece ∙ sym two.one_piece)
  one_read (got.Bytes n) got.End new also one two some others = absurd (of_a_piece (unread old.pieces) room n one.one_piece some two.one_piece)
  one_read got.End (got.Bytes m) new also one two some others = absurd (of_a_piece (unread old.pieces) room m two.one_piece others one.one_piece)
  one_read got.End got.End new also one two some others = refl

-- ---- a sink

module _ (old : SinkState) (piece : List ℕ) where
  failed_write : (answer other : Put) (new also : SinkState) → IsWrite old piece answer new → IsWrite old piece other also → answer ≡ put.Failed → other ≡ put.Failed
  failed_write answer other new also one two is =
      two.where_it_must.1 (subst (λ n. Contains old.fails n ⊎ (old.room < length piece)) (one.writes ∙ sym two.writes) (one.where_it_must.0 is))

  pub one_write : (answer other : Put) (new also : SinkState) → IsWrite old piece answer new → IsWrite old piece other also → answer ≡ other
  one_write put.Failed other new also one two = sym (failed_write put.Failed other new also one two refl)
  one_write (put.Bytes n) put.Failed new also one two = failed_write put.Failed (put.Bytes n) also new two one refl
  one_write (put.Bytes n) (put.Bytes m) new also one two = ap (λ k. put.Bytes k) (one.whole ∙ sym two.whole)

-- ---- a gate

first_same : (conn other : MemConn) (rest others : List MemConn) → conn ∷ rest ≡ other ∷ others → conn ≡ other
first_same conn other rest others is = cc

some_wait : (conn : MemConn) (rest : List MemConn) → conn ∷ rest ≡ [] → ⊥
some_wait conn rest is = cc

same_opening : (answer other : Opening) → opening_failed answer ≡ opening_failed other → answer ≡ other
same_opening opening.Open opening.Open is = refl
same_opening opening.Open opening.Fault is = cc
same_opening opening.Fault opening.Open is = cc
same_opening opening.Fault opening.Fault is = refl

module _ (old : MemGateState) where
  failed_next : (answer other : Next MemConn) (new also : MemGateState) → IsNext old answer new → IsNext old other also → answer ≡ next.Fault → other ≡ next.Fault
  failed_next answer other new also one two is = two.by_number.1 (subst (λ n. Contains old.fails n) (one.calls ∙ sym two.calls) (one.by_number.0 is))

  pub one_next : (answer other : Next MemConn) (new also : MemGateState) → IsNext old answer new → IsNext old other also → answer ≡ other
  one_next next.Fault other new also one two = sym (failed_next next.Fault other new also one two refl)
  one_next (next.Conn conn) next.Fault new also one two = failed_next next.Fault (next.Conn conn) also new two one refl
  one_next next.Closed next.Fault new also one two = failed_next next.Fault next.Closed also new two one refl
  one_next (next.Conn conn) (next.Conn other) new also one two =
      ap (λ (c : MemConn). next.Conn c) (first_same conn other new.waiting also.waiting (sym one.waiting ∙ two.waiting))
  one_next (next.Conn conn) next.Closed new also one two = absurd (some_wait conn new.waiting (sym one.waiting ∙ two.waiting.0))
  one_next next.Closed (next.Conn other) new also one two = absurd (some_wait other also.waiting (sym two.waiting ∙ one.waiting.0))
  one_next next.Closed next.Closed new also one two = refl

  pub one_opening : (answer other : Opening) (new also : MemGateState) → IsOpened old answer new → IsOpened old other also → answer ≡ other
  one_opening answer other new also one two = same_opening answer other (one.refused ∙ sym two.refused)
