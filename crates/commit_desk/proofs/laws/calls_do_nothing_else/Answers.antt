use Rattle.std.proofs.Common.{List, Contains, sym, subst}
use Rattle.slice_rule.specs.declared.view.Fact.{Fact}
use Rattle.commit_desk.proofs.laws.calls_do_nothing_else.Goals as goal

pub returns : goal.returns
returns c events before after seat next makes done =
    (λ has. subst (λ (own : List Fact). Contains own done) makes.own has, λ has. subst (λ (own : List Fact). Contains own done) (sym makes.own) has)
