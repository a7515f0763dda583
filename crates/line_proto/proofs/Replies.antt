-- What pushing to a list of bytes says of its outcome.
use Rattle.std.proofs.Common.{◌≡◌, ℕ, List, ◌++◌, cond, Result, Ok, Err, OnOk, is_ok}

-- what is pushed stands at the end where the push succeeded
pub on_ok-appended : {E : Type 0} (r : Result (Unit {0}) E) (new old added : List ℕ) → new ≡ cond (is_ok r) (old ++ added) old → OnOk r (new ≡ old ++ added)
on_ok-appended (Ok x) new old added h = h
on_ok-appended (Err e) new old added h = tt
