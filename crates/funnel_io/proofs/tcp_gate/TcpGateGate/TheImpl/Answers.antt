use Rattle.std.specs.Prelude.{◌≡◌, refl, true, false, ⊤}
use Rattle.funnel_io.specs.Answers.{MatchNext}
use Rattle.funnel_io.specs.declared.gate.Next.{Next}
use Rattle.funnel_io.specs.declared.gate.Next.TheVariants as next
use Rattle.funnel_io.proofs.tcp_gate.TcpGateGate.TheImpl.Goals as goal

-- a fact of each answer
for_each : {C : Type 0} (answer : Next C) {P : C → Type 0} {Q R : Type 0} → ((conn : C) → P conn) → Q → R → MatchNext answer P Q R
for_each (next.Conn conn) given closed failed = given conn
for_each next.Closed given closed failed = closed
for_each next.Fault given closed failed = failed

-- a fact of the connection that was handed out follows from another
of_conn : {C : Type 0} {P P' : C → Type 0} (answer : Next C) → ((conn : C) → P conn → P' conn)
    → MatchNext answer P ⊤ ⊤ → MatchNext answer P' ⊤ ⊤
of_conn (next.Conn conn) step fact = step conn fact
of_conn next.Closed step fact = fact
of_conn next.Fault step fact = fact

-- a gate that is never closed, and says so of itself, never answers that it is
never_closed : {C : Type 0} (answer : Next C) → MatchNext answer (λ _. ⊤) ⊥ ⊤ → MatchNext answer (λ _. false ≡ false) (false ≡ true) (false ≡ false)
never_closed (next.Conn conn) fact = refl
never_closed next.Closed fact = absurd fact
never_closed next.Fault fact = refl

pub next-tells : goal.next-tells
next-tells g c = record {
  faults = search;
  served = refl;
  waiting = for_each c.result (λ _. refl) refl refl;
  out = for_each c.result (λ _. tt) refl refl;
  fresh = of_conn c.result (λ conn none. search) c.ensures.fresh;
  closed = for_each c.result (λ _. tt) tt tt;
  is_closed = never_closed c.result c.ensures.never_closed;
  gives = tt;
}
