use Rattle.std.proofs.Common.{◌≡◌, None, length, map, sym, ap, ◌∙◌}
use Rattle.std.proofs.lemmas.List.{length-replicate}
use Rattle.std.specs.List.{range_with_len}
use Rattle.slice_rule.specs.Pools.{PoolId, limits_of}
use Rattle.commit_desk.specs.Desks.{DeskState}
use Rattle.funnel_model.specs.Legal.{Limits}
use Rattle.funnel_model.specs.Sizes.{words_of_slice}
use Rattle.funnel_model.specs.declared.config.Config.{Config}
use Rattle.engine.specs.Passes.{new_pass, view_of}
use Rattle.engine.proofs.NewPasses.{new_seats_rest, new_views}
use Rattle.engine.proofs.engine.Engine.open.Goals as goal

pub invariant_of-new : goal.invariant_of-new
invariant_of-new g c =
    let made = c.in_ok-opened.ensures in
    let desk = c.in_ok-opened.opened.1 in
    let blank = c.blank.invariant in
    let of : desk.pool ≡ c.blank.inside.pool = ap (λ (d : DeskState). d.pool) made.desk in
    let limits : desk.pool.limits ≡ limits_of c.blank.inside.pool.config (words_of_slice c.blank.inside.pool.config) =
    ap (λ (p : PoolId). p.limits) of ∙ blank.of_config.limits in
    let config : c.args.config.now ≡ c.blank.inside.pool.config = sym (ap (λ (p : PoolId). p.config) c.blank.view_is ∙ c.requires.made_with) in
    let passes : c.args.config.now.passes ≡ desk.pool.limits.passes = ap (λ (k : Config). k.passes) config ∙ sym (ap (λ (l : Limits). l.passes) limits) in
    record {
      of_pool = of ∙ c.blank.view_is ∙ c.requires.named;
      limit = ap (λ (d : DeskState). d.events_limit) made.desk;
      pool_limit = ap (λ (p : PoolId). p.limits.events) of ∙ ap (λ (l : Limits). l.events) blank.of_config.limits;
      each_pass = ap length made.looks ∙ length-replicate c.args.config.now.passes None ∙ passes;
    }

pub name_passes-requires : goal.name_passes-requires
name_passes-requires g c =
    let pool_is : c.blank.inside.pool ≡ g.N.PoolName.pool = c.blank.view_is ∙ c.requires.named in
    let config_is : c.args.config.now ≡ c.blank.inside.pool.config = sym (ap (λ (p : PoolId). p.config) c.blank.view_is ∙ c.requires.made_with) in
    record {
      rest = new_seats_rest g.N.PoolName.pool c.blank.inside.pool c.blank.inside.passes.items pool_is c.blank.invariant.new_passes;
      slices = ap (λ (k : Config). k.slices) config_is ∙ sym (ap (λ (l : Limits). l.slices) c.blank.invariant.of_config.limits) ∙ ap (λ (p : PoolId). p.limits.slices) pool_is;
    }

pub returns-clause-passes : goal.returns-clause-passes
returns-clause-passes g c =
    let config_is : c.blank.inside.pool.config ≡ c.args.config.now = ap (λ (p : PoolId). p.config) c.blank.view_is ∙ c.requires.made_with in
    c.in_ok-passes.ensures ∙ ap (map view_of) c.blank.invariant.new_passes ∙ new_views c.blank.inside.pool (range_with_len 0 c.blank.inside.pool.config.passes)
    ∙ ap (λ (k : Config). map new_pass (range_with_len 0 k.passes)) config_is
