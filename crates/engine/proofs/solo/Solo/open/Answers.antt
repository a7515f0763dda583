use Rattle.std.proofs.Common.{◌≡◌, ℕ, None, length, sym, ap, ◌∙◌, subst}
use Rattle.std.proofs.lemmas.List.{length-replicate}
use Rattle.commit_desk.specs.Desks.{DeskState}
use Rattle.engine.proofs.Soles.{same_words, valid_alone}
use Rattle.engine.specs.Solos.{with_one_pass}
use Rattle.funnel_model.specs.Configuration.{IsValid}
use Rattle.funnel_model.specs.declared.config.Config.{Config}
use Rattle.funnel_model.specs.Legal.{Limits}
use Rattle.funnel_model.specs.Sizes.{words_of_slice}
use Rattle.slice_rule.specs.Pools.{PoolId, limits_of}
use Rattle.engine.proofs.solo.Solo.open.Goals as goal

pub new-requires : goal.new-requires
new-requires c = record { valid = subst IsValid (sym c.one_pass-config.ensures) (valid_alone c.args.config c.requires.valid) }

pub invariant_of-result : goal.invariant_of-result
invariant_of-result c =
    let made = c.in_ok-opened.ensures in
    let desk = c.in_ok-opened.opened.1 in
    let alone = c.one_pass-config.ensures in
    let of : desk.pool ≡ c.in_ok-blank.blank = ap (λ (d : DeskState). d.pool) made.desk ∙ c.blank.view_is in
    let limits : desk.pool.limits ≡ limits_of (with_one_pass c.args.config) (words_of_slice (with_one_pass c.args.config)) =
    ap (λ (p : PoolId). p.limits) of ∙ c.in_ok-blank.ensures.limits ∙ ap (λ (k : Config). limits_of k (words_of_slice k)) alone in
    let passes : desk.pool.limits.passes ≡ 1 = ap (λ (l : Limits). l.passes) limits in
    record {
      limit = ap (λ (d : DeskState). d.events_limit) made.desk;
      pool_limit = ap (λ (l : Limits). l.events) limits;
      each_pass = ap length made.looks ∙ length-replicate c.one_pass-config.result.passes None ∙ ap (λ (k : Config). k.passes) alone ∙ sym passes;
      one_pass = passes;
    }

pub returns-clause-limits : goal.returns-clause-limits
returns-clause-limits c =
    let of = c.in_ok-opened.ensures.pool ∙ c.blank.view_is in
    ap (λ (p : PoolId). p.limits) of ∙ c.in_ok-blank.ensures.limits ∙ ap (λ (k : Config). limits_of k (words_of_slice k)) c.one_pass-config.ensures
    ∙ ap (λ (n : ℕ). limits_of (with_one_pass c.args.config) n) (same_words c.args.config)
