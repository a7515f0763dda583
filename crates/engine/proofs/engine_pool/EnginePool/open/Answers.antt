use Rattle.std.proofs.Common.{◌≡◌, [], ap, sym, ◌∙◌, arith}
use Rattle.row_layout.specs.Layouts.{LayoutId, own_layout}
use Rattle.funnel_model.specs.Legal.{Limits}
use Rattle.funnel_model.specs.declared.config.Config.{Config}
use Rattle.engine.proofs.engine_pool.EnginePool.open.Goals as goal

pub slice_range-range-requires : goal.slice_range-range-requires
slice_range-range-requires c =
    let config_is : c.args.config.now ≡ c.args.pool.config = sym c.requires.made_with in
    let slices : c.in_ok-layout.layout.config.slices ≡ c.args.pool.config.slices = ap (λ (l : LayoutId). l.config.slices) c.in_ok-layout.ensures ∙ ap (λ (k : Config). k.slices) config_is in
    omega (arith, slices, c.requires.of_config.valid.in_range.slices.0)

pub invariant_of-opened : goal.invariant_of-opened
invariant_of-opened c =
    let of_config = c.requires.of_config in
    let config_is : c.args.config.now ≡ c.args.pool.config = sym c.requires.made_with in
    record {
      of_config = of_config;
      room_is = c.slice_range-range.ensures.words ∙ ap (λ (l : LayoutId). l.room) (c.in_ok-layout.ensures ∙ ap own_layout config_is) ∙ sym (ap (λ (l : Limits). l.slice_words) of_config.limits);
      count = ap (λ (k : Config). k.slices) config_is;
      kept_free = ap (λ (k : Config). k.reserve) config_is;
      based = c.without_words-base.ensures ∙ ap (λ (k : Config). record k { words = [] }) config_is;
    }
