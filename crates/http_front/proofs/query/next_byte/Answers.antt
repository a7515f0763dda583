use Rattle.std.proofs.Common.{◌∙◌, sym, ap, drop}
use Rattle.std.proofs.lemmas.List.{take_rest}
use Rattle.http_front.specs.Queries.{decoded, plain, put}
use Rattle.http_front.proofs.QueryLaws.{decoded-plain}
use Rattle.http_front.proofs.query.next_byte.Goals as goal

pub returns-clause-decoded : goal.returns-clause-decoded
returns-clause-decoded c =
    decoded-plain c.args.bytes.now c.requires c.if-bytes-eq37.false
    ∙ ap (λ n. put n (decoded plain (drop 1 c.args.bytes.now))) (sym c.meant.ensures)
    ∙ ap (λ t. put c.meant.result (decoded plain t)) (sym (take_rest c.args.bytes.now 1))
