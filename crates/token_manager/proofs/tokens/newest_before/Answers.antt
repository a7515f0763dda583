use Rattle.std.proofs.Common.{◌≡◌, length, subst, arith}
use Rattle.token_manager.proofs.Newest.{IsNewestOf, newest-all}
use Rattle.token_manager.proofs.tokens.newest_before.Goals as goal

pub loop-pass-init : goal.loop-pass-init
loop-pass-init c = λ pass event below opened within. omega (arith, below)

pub returns : goal.returns
returns c =
    let all : c.loop-pass.pass ≡ length c.args.tokens.now = let past = c.loop-pass-test.false in let upto = c.loop-pass.auto.pass-end in omega (arith, past, upto) in
    newest-all c.args.tokens.now c.args.until c.loop-pass.newest (subst (λ n. IsNewestOf c.args.tokens.now n c.args.until c.loop-pass.newest) all c.loop-pass.invariant)
