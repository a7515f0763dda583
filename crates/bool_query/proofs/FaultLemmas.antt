-- What holds of the places of refusals.
use Rattle.std.proofs.Common.{ℕ, Result, Ok, Err}
use Rattle.bool_query.specs.declared.fault.QueryFault.{QueryFault}
use Rattle.bool_query.specs.declared.fault.QueryFault.TheVariants.{Syntax, Deep, Memory}
use Rattle.bool_query.specs.Faults.{IfSyntax, IfDeep}

pub syntax-weaker : (A B : Type 0) (e : QueryFault) (P Q : ℕ → Type 0) → ((at : ℕ) → P at → Q at) → IfSyntax {A = A} (Err e) P → IfSyntax {A = B} (Err e) Q
syntax-weaker A B (Syntax at) P Q weaker is = weaker at is
syntax-weaker A B (Deep at) P Q weaker is = tt
syntax-weaker A B Memory P Q weaker is = tt

pub deep-weaker : (A B : Type 0) (e : QueryFault) (P Q : ℕ → Type 0) → ((at : ℕ) → P at → Q at) → IfDeep {A = A} (Err e) P → IfDeep {A = B} (Err e) Q
deep-weaker A B (Syntax at) P Q weaker is = tt
deep-weaker A B (Deep at) P Q weaker is = weaker at is
deep-weaker A B Memory P Q weaker is = tt

-- of any result
pub syntax-of : {A : Type 0} → (r : Result A QueryFault) (P Q : ℕ → Type 0) → ((at : ℕ) → P at → Q at) → IfSyntax r P → IfSyntax r Q
syntax-of {A} (Ok x) P Q weaker is = tt
syntax-of {A} (Err e) P Q weaker is = syntax-weaker A A e P Q weaker is
