use Rattle.std.proofs.Common.{◌≡◌, ℕ, List, None, Option, replicate, length, sym, ap, subst, arith, rules}
use Rattle.std.proofs.lemmas.List.{length-replicate}
use Rattle.token_manager.specs.Guarding.{IsNewestIn}
use Rattle.token_manager.proofs.Newest.{none-opened}
use Rattle.token_manager.proofs.tokens.Tokens.new.Goals as goal

pub invariant_of-result : goal.invariant_of-result
invariant_of-result c =
    let all : c.in_ok-vec.field-0.items ≡ replicate c.args.passes None = search rules in
    let long : length c.in_ok-vec.field-0.items ≡ length (replicate {A = Option ℕ} c.args.passes None) = ap length all in
    let passes = length-replicate {A = Option ℕ} c.args.passes None in
    (omega (arith, long, passes), subst (λ (tokens : List (Option ℕ)). IsNewestIn tokens None None) (sym all) (none-opened c.args.passes))
