use Rattle.std.proofs.Common.{length, sym, ap, ◌∙◌}
use Rattle.std.proofs.lemmas.List.{length-map}
use Rattle.plan_rows.proofs.Wholes.{filter_whole}
use Rattle.plan_rows.proofs.rest.Rest.of.Goals as goal

pub returns-then-left-len : goal.returns-then-left-len
returns-then-left-len c is_left left_is =
    filter_whole is_left c.args.all.now
    (ap length (sym left_is) ∙ length-map c.args.left.now (λ word. word.now) ∙ c.if-left-len.true ∙ c.len.ensures.count)
