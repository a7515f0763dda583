-- The refusals of a query, each with its place.
use Rattle.std.specs.Prelude.{ℕ, Result, Ok, Err}
use Rattle.bool_query.specs.declared.fault.QueryFault.{QueryFault}
use Rattle.bool_query.specs.declared.fault.QueryFault.TheVariants.{Syntax, Deep, Memory}

-- what holds of the place of a refusal for its syntax, where the result is one
abbrev pub IfSyntax : {A : Type 0} → Result A QueryFault → (ℕ → Type 0) → Type 0
IfSyntax (Ok _) P = Unit {0}
IfSyntax (Err (Syntax at)) P = P at
IfSyntax (Err (Deep at)) P = Unit {0}
IfSyntax (Err Memory) P = Unit {0}

-- what holds of the place of a refusal for its depth, where the result is one
abbrev pub IfDeep : {A : Type 0} → Result A QueryFault → (ℕ → Type 0) → Type 0
IfDeep (Ok _) P = Unit {0}
IfDeep (Err (Syntax at)) P = Unit {0}
IfDeep (Err (Deep at)) P = P at
IfDeep (Err Memory) P = Unit {0}
