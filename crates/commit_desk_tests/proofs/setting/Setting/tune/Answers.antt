use Rattle.std.proofs.Common.{◌≡◌, ◌≤◌, ◌*◌, Some, sym, ap, ◌∙◌, subst}
use Rattle.funnel_model.specs.Configuration.{IsTuning}
use Rattle.funnel_model.specs.declared.config.Config.{Config}
use Rattle.funnel_model.specs.declared.config.TheConstants.{MOST_ROW_WORDS}
use Rattle.funnel_model.specs.Legal.{Limits}
use Rattle.funnel_model.specs.Sizes.{words_of_slice}
use Rattle.row_layout.specs.Layouts.{LayoutId}
use Rattle.slice_rule.specs.Pools.{PoolId}
use Rattle.commit_desk.specs.Layouts.{TunesWith}
use Rattle.commit_desk.proofs.CallEnds.{rests_tune}
use Rattle.commit_desk_tests.proofs.Tunings.{fits_within}
use Rattle.commit_desk_tests.proofs.setting.Setting.tune.Goals as goal

pub with_tail-config-requires-clause-in_range : goal.with_tail-config-requires-clause-in_range
with_tail-config-requires-clause-in_range g c = c.self.invariant.in_range

pub within-requires-clause-small_pool : goal.within-requires-clause-small_pool
within-requires-clause-small_pool g c =
    let range = c.slice_range-room.ensures in
    let is = c.self.invariant in
    let same = ap (λ (k : Config). k.slices) (c.with_tail-config.ensures.kept) in
    let base = ap (λ (k : Config). k.slices) (ap (λ (l : LayoutId). l.config) is.laid.laid_out ∙ sym is.base_is) in
    subst (λ n. n * c.slice_range-room.result.1 ≤ MOST_ROW_WORDS) (base ∙ sym same) (subst (λ n. c.self.inside.layout.config.slices * n ≤ MOST_ROW_WORDS) (sym range.words) range.small_pool)

pub tune-requires-clause-tunes : goal.tune-requires-clause-tunes
tune-requires-clause-tunes g c =
    let name = g.N.PoolName.pool in
    let is = c.self.invariant in
    let config = c.with_tail-config.result in
    let room = c.slice_range-room.result.1 in
    let rows : room ≡ name.limits.slice_words = c.slice_range-room.ensures.words ∙ sym (ap (λ (l : Limits). l.slice_words) is.laid.limits) in
    let laid : c.in-Ok.layout ≡ record { config = config; room = room } = c.in-Ok.ensures.laid in
    subst (λ (p : PoolId). TunesWith p config (Some c.in-Ok-new.shared)) (sym is.desk_of_name) (record {
      tuning = subst (λ (k : Config). IsTuning k config) is.base_is c.with_tail-config.ensures;
      fits = subst (λ n. words_of_slice config ≤ n) rows (fits_within config room c.within.result c.in-Ok.layout c.within.ensures.wide c.in-Ok.is);
      laid = ap (λ (l : LayoutId). Some l) (c.in-Ok-new.ensures ∙ laid ∙ ap (λ n. let l : LayoutId = record { config = config; room = n } in l) rows);
    })

pub invariant_of-caller : goal.invariant_of-caller
invariant_of-caller g c =
    let seat = c.caller.invariant in
    rests_tune g.N.PoolName.pool c.self.inside.desk c.tune.new.self c.caller.inside.seat c.tune.new.seat seat.seated.same c.tune.ensures.none_outstanding seat.idle c.with_tail-config.result
    c.tune.result c.tune.ensures.events
