use Rattle.std.proofs.Common.{◌≡◌, ◌*◌, ◌<◌, ◌≤◌, ℕ, Err, IfErr, IfOk, ap, sym, ◌∙◌, subst}
use Rattle.engine.specs.Engines.{IsOfConfig}
use Rattle.funnel_model.specs.declared.config.Config.{Config}
use Rattle.funnel_model.specs.declared.config.TheConstants.{MOST_ROW_WORDS}
use Rattle.funnel_model.specs.Sizes.{words_of_slice}
use Rattle.row_layout.specs.declared.fault.LayoutFault.{LayoutFault}
use Rattle.row_layout.specs.declared.fault.LayoutFault.TheVariants as layout
use Rattle.row_layout.specs.Layouts.{LayoutId}
use Rattle.slice_rule.specs.Pools.{PoolId}
use Rattle.engine.proofs.Sizes.{room_fits}
use Rattle.engine.proofs.engine_pool.EnginePool.lay_out.Goals as goal

pub within-requires-clause-small_pool : goal.within-requires-clause-small_pool
within-requires-clause-small_pool c =
    let pool = c.args.self.now in
    let view = c.self.view_is in
    let slices : c.args.config.now.slices ≡ pool.config.slices = ap (λ (k : Config). k.slices) c.requires.tuning.kept in
    let small = room_fits pool c.self.inside.room (subst IsOfConfig view c.self.invariant.of_config) (c.self.invariant.room_is ∙ ap (λ (p : PoolId). p.limits.slice_words) view) in
    subst (λ n. n * c.self.inside.room ≤ MOST_ROW_WORDS) (sym slices) small

pub returns-clause-laid : goal.returns-clause-laid
returns-clause-laid c =
    let room : c.self.inside.room ≡ c.args.self.now.limits.slice_words = c.self.invariant.room_is ∙ ap (λ (p : PoolId). p.limits.slice_words) c.self.view_is in
    subst (λ (n : ℕ). IfOk c.within.result (λ (laid : LayoutId). laid ≡ record { config = c.args.config.now; room = n })) room c.within.ensures.laid

pub returns-clause-wide : goal.returns-clause-wide
returns-clause-wide c =
    let room : c.self.inside.room ≡ c.args.self.now.limits.slice_words = c.self.invariant.room_is ∙ ap (λ (p : PoolId). p.limits.slice_words) c.self.view_is in
    let words = words_of_slice c.args.config.now in
    subst (λ (n : ℕ). n < words → c.within.result ≡ Err (layout.Wide words n)) room c.within.ensures.wide

pub returns-clause-fits : goal.returns-clause-fits
returns-clause-fits c =
    let room : c.self.inside.room ≡ c.args.self.now.limits.slice_words = c.self.invariant.room_is ∙ ap (λ (p : PoolId). p.limits.slice_words) c.self.view_is in
    subst (λ (n : ℕ). words_of_slice c.args.config.now ≤ n → IfErr c.within.result (λ (refused : LayoutFault). refused ≡ layout.Memory)) room c.within.ensures.fits
