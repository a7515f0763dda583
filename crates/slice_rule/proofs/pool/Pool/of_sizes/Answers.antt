use Rattle.slice_rule.specs.declared.view.Role.TheVariants as role
use Rattle.std.proofs.Common.{◌≡◌, ℕ, List, [], replicate, refl, sym, ap, ◌∙◌, subst, rules}
use Rattle.atomic_table.specs.Table.{opening}
use Rattle.funnel_model.specs.Legal.{Limits}
use Rattle.slice_rule.specs.Pools.{pool_words}
use Rattle.slice_rule.specs.Rule.{IsKept}
use Rattle.slice_rule.specs.Seats.{IsHomeSeat}
use Rattle.slice_rule.specs.Views.{home_at_start}
use Rattle.slice_rule.proofs.Opening.{opens}
use Rattle.slice_rule.proofs.pool.Pool.of_sizes.Goals as goal

pub of_words-requires : goal.of_words-requires
of_words-requires c =
    let made = c.in_ok-made.made in
    let same : c.args.sizes ≡ made.sizes = search rules in
    let config = made.config.shared.key in
    let words : c.as_slice.result.now ≡ replicate (pool_words made.sizes) 0 =
    c.as_slice.ensures.value ∙ c.in_ok-words.ensures ∙ ap (λ (l : Limits). replicate (pool_words l) 0) (c.sizes.view_is ∙ same) in
    subst (λ (ws : List ℕ). IsKept made.sizes config (opening ws [] (home_at_start made.sizes config))) (sym words) (opens made.sizes config)

pub invariant_of-result : goal.invariant_of-result
invariant_of-result c =
    let key : c.in_ok-table.table.shared.key.sizes ≡ c.args.sizes = search rules in
    let all : c.sizes.inside.passes ≡ c.in_ok-table.table.shared.key.sizes.passes =
    ap (λ (l : Limits). l.passes) c.sizes.view_is ∙ ap (λ (l : Limits). l.passes) (sym key) in
    subst IsHomeSeat (sym c.in_ok-passes.ensures.home) (record { alone = refl; role = ap (λ (n : ℕ). role.Home n n) all })
