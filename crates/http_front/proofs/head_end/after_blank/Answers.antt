use Rattle.std.proofs.Common.{◌≡◌, ◌+◌, ◌++◌, ◌∷◌, [], ap, ◌∙◌, arith, drop}
use Rattle.std.proofs.lemmas.List.{drop_more}
use Rattle.httparse.specs.Grammar.{crlf, lf}
use Rattle.httparse.proofs.ReadLemmas.{blank_more}
use Rattle.http_front.proofs.head_end.after_blank.Goals as goal

pub loop-at-preserved-then-bytes-at-eq10 : goal.loop-at-preserved-then-bytes-at-eq10
loop-at-preserved-then-bytes-at-eq10 c =
    let bytes = c.args.bytes.now in
    let at = c.loop-at.at in
    let here : drop at bytes ≡ 10 ∷ drop (at + 1) bytes = drop_more bytes at 0 c.if-at-bytes.true ∙ ap (λ b. b ∷ drop (at + 1) bytes) c.if-bytes-at-eq10.true in
    (omega (arith, c.if-at-bytes.true), c.loop-at.invariant.1 ++ lf ∷ [], blank_more c.loop-at.invariant.1 lf bytes (drop at bytes) (drop (at + 1) bytes) c.loop-at.invariant.2 here)

pub loop-at-preserved : goal.loop-at-preserved
loop-at-preserved c =
    let bytes = c.args.bytes.now in
    let at = c.loop-at.at in
    let first : drop at bytes ≡ 13 ∷ drop (at + 1) bytes = drop_more bytes at 0 (omega (arith, c.if-at-bytes-2.true)) ∙ ap (λ b. b ∷ drop (at + 1) bytes) c.if-bytes-at-eq13.true in
    let next : (at + 1) + 1 ≡ at + 2 = omega arith in
    let second : drop (at + 1) bytes ≡ 10 ∷ drop (at + 2) bytes =
    drop_more bytes (at + 1) 0 c.if-at-bytes-2.true ∙ ap (λ b. b ∷ drop ((at + 1) + 1) bytes) c.if-bytes-at-eq10-2.true ∙ ap (λ n. 10 ∷ drop n bytes) next in
    let here : drop at bytes ≡ 13 ∷ 10 ∷ drop (at + 2) bytes = first ∙ ap (λ t. 13 ∷ t) second in
    (omega (arith, c.if-at-bytes-2.true), c.loop-at.invariant.1 ++ crlf ∷ [], blank_more c.loop-at.invariant.1 crlf bytes (drop at bytes) (drop (at + 2) bytes) c.loop-at.invariant.2 here)
