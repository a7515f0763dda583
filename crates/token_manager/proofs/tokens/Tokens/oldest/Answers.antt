use Rattle.std.proofs.Common.{◌≡◌, ℕ, ◌+◌, List, length, get_or, Option, None, MatchOption, refl, sym, ◌∙◌, subst, arith}
use Rattle.token_manager.specs.Guarding.{IsOldest, NoneOpen}
use Rattle.token_manager.proofs.Oldest.{IsOldestOf, oldest-all, oldest-more}
use Rattle.token_manager.proofs.tokens.Tokens.oldest.Goals as goal

pub loop-token-init : goal.loop-token-init
loop-token-init c = λ pass event below. omega (arith, below)

pub loop-token-preserved : goal.loop-token-preserved
loop-token-preserved c =
    subst (λ found. IsOldestOf c.deref-token-items.result.now (c.loop-token.token-index + 1) found) (sym c.older-oldest.ensures)
    (oldest-more c.deref-token-items.result.now c.loop-token.token-index c.loop-token.oldest (get_or c.deref-token-items.result.now c.loop-token.token-index None) refl c.loop-token.invariant)

pub returns : goal.returns
returns c =
    let all : c.loop-token.token-index ≡ length c.deref-token-items.result.now = let past = c.loop-token-test.false in let upto = c.loop-token.auto.token-index-end in omega arith in
    subst (λ (tokens : List (Option ℕ)). MatchOption c.loop-token.oldest (NoneOpen tokens) (IsOldest tokens)) (c.deref-token-items.ensures.value ∙ c.self.view_is)
    (oldest-all c.deref-token-items.result.now c.loop-token.oldest (subst (λ n. IsOldestOf c.deref-token-items.result.now n c.loop-token.oldest) all c.loop-token.invariant))
