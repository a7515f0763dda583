use Rattle.std.proofs.Common.{◌≡◌, ◌<◌, ℕ, List, None, Option, Some, get_or, length, set, sym, ap, ◌∙◌, subst, arith}
use Rattle.std.proofs.lemmas.List.{length-set}
use Rattle.token_manager.specs.Guarding.{IsNewestIn}
use Rattle.token_manager.proofs.Newest.{newest-opened}
use Rattle.token_manager.proofs.tokens.Tokens.open.Goals as goal

pub invariant_of-self : goal.invariant_of-self
invariant_of-self c =
    let i = c.self.inside in
    let tokens = i.open.items in
    let in' : c.args.pass < length tokens = subst (λ (ts : List (Option ℕ)). c.args.pass < length ts) (sym c.self.view_is) c.requires.in_range in
    let none : get_or tokens c.args.pass None ≡ None = ap (λ (ts : List (Option ℕ)). get_or ts c.args.pass None) c.self.view_is ∙ c.requires.none in
    let few = c.self.invariant.0 in (
      omega (arith, few, length-set tokens c.args.pass (Some c.args.event)),
      subst (IsNewestIn (set tokens c.args.pass (Some c.args.event)) None) (sym c.newer-self-inside.ensures) (newest-opened tokens c.args.pass c.args.event i.newest in' none c.self.invariant.1),
    )
