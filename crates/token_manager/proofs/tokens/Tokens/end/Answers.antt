use Rattle.std.proofs.Common.{◌≡◌, ℕ, List, None, Option, Some, IsSome, get_or, refl, sym, ◌∙◌, subst, arith}
use Rattle.std.proofs.lemmas.List.{length-set}
use Rattle.token_manager.specs.Guarding.{HasOpened, IsNewestIn}
use Rattle.token_manager.proofs.Newest.{newest-ended, pass_within}
use Rattle.token_manager.proofs.tokens.Tokens.end.Goals as goal

pub invariant_of-self : goal.invariant_of-self
invariant_of-self c =
    let few = c.self.invariant.0 in (
      omega (arith, few, length-set c.self.inside.open.items c.args.pass None),
      subst (λ (tokens : List (Option ℕ)). IsNewestIn tokens None c.newest_before-self-inside.result) c.as_slice.ensures.value c.newest_before-self-inside.ensures,
    )

-- the event that opened a token
opened_by : (token : Option ℕ) → IsSome token → (event : ℕ) × (token ≡ Some event)
opened_by (Some event) is = (event, refl)
opened_by None is = cc

-- the token that was ended isn't the newest
pub invariant_of-self-else-is_of : goal.invariant_of-self-else-is_of
invariant_of-self-else-is_of c =
    let i = c.self.inside in
    let few = c.self.invariant.0 in
    let token = opened_by (get_or c.args.self.now c.args.pass None) c.requires in
    let opened : HasOpened i.open.items c.args.pass token.0 = subst (λ (tokens : List (Option ℕ)). HasOpened tokens c.args.pass token.0) (sym c.self.view_is) token.1 in (
      omega (arith, few, length-set i.open.items c.args.pass None),
      newest-ended i.open.items c.args.pass i.newest (pass_within i.open.items c.args.pass token.0 opened) (sym c.is_of.ensures ∙ c.if-is_of.false) c.self.invariant.1,
    )
