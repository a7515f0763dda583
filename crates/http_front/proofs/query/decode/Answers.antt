use Rattle.std.proofs.Common.{◌∙◌, ◌++◌, ℕ, List, Some, option_map, sym, ap, append-nil}
use Rattle.std.proofs.lemmas.Bool.{eqb-true}
use Rattle.http_front.proofs.QueryLaws.{decoded-none}
use Rattle.http_front.proofs.query.decode.Goals as goal

pub returns-clause-decoded : goal.returns-clause-decoded
returns-clause-decoded c =
    c.loop-left.invariant.decoded
    ∙ ap (option_map (λ bytes. c.loop-left.text.items ++ bytes)) (decoded-none c.loop-left.left.now (eqb-true _ 0 (sym c.is_empty.ensures ∙ c.loop-left-test.false)))
    ∙ ap (λ (bs : List ℕ). Some bs) (append-nil c.loop-left.text.items)
