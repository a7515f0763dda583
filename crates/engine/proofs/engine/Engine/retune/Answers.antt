use Rattle.std.proofs.Common.{◌<◌, ◌≤◌, ℕ, Err, ap, refl, sym, ◌∙◌, subst, ⊎_elim, arith}
use Rattle.std.proofs.lemmas.Bool.{cases_lt}
use Rattle.engine.proofs.DeskTurns.{tune_call, unfit_turn}
use Rattle.engine.specs.declared.retuning.TuneFault.{TuneFault}
use Rattle.engine.specs.Passes.{view_of}
use Rattle.engine.specs.Turns.{MakesTuneCall, TuneTurn, fault_of_layout}
use Rattle.funnel_model.specs.Legal.{IsLegal}
use Rattle.funnel_model.specs.Sizes.{words_of_slice}
use Rattle.slice_rule.specs.Pools.{PoolId}
use Rattle.engine.proofs.engine.Engine.retune.Goals as goal

pub tune_by-requires-clause-fits : goal.tune_by-requires-clause-fits
tune_by-requires-clause-fits g c =
    let room = ap (λ (p : PoolId). p.limits.slice_words) c.self.invariant in
    let words = words_of_slice c.args.config.now in
    ⊎_elim (λ (wide : c.self.inside.pool.limits.slice_words < words). let h = c.in-Ok.ensures.wide wide in absurd (cc)) (λ (fits : words ≤ c.self.inside.pool.limits.slice_words). omega (arith, fits, room)) (cases_lt c.self.inside.pool.limits.slice_words words)

pub tune_by-requires-clause-laid : goal.tune_by-requires-clause-laid
tune_by-requires-clause-laid g c =
    let room = ap (λ (p : PoolId). p.limits.slice_words) c.self.invariant in
    c.in-Ok.ensures.laid ∙ ap (λ (n : ℕ). record { config = c.args.config.now; room = n }) room

-- the rows were not laid out
pub returns-in-Err-clause-turn : goal.returns-in-Err-clause-turn
returns-in-Err-clause-turn g c =
    let pool = g.N.PoolName.pool in
    let room = ap (λ (p : PoolId). p.limits.slice_words) c.self.invariant in
    let did = c.in-Err.ensures in
    subst (λ (f : TuneFault). TuneTurn pool.limits c.args.config.now (Err f) c.args.pass.now c.args.pass.now) (sym c.unfit.ensures)
    (unfit_turn pool.limits c.args.config.now c.self.inside.pool.limits.slice_words room c.in-Err.fault did.wide did.fits c.args.pass.now)

pub returns-in-Err-clause-call : goal.returns-in-Err-clause-call
returns-in-Err-clause-call g c =
    let pool = g.N.PoolName.pool in
    let limits = pool.limits in
    let seat = c.pass.inside.seat in
    let room = ap (λ (p : PoolId). p.limits.slice_words) c.self.invariant in
    let did = c.in-Err.ensures in
    let legal = subst (λ (p : PoolId). IsLegal p.limits seat.front) c.pass.invariant.between.rests.seated.same c.number.ensures.legal in
    let turn = unfit_turn limits c.args.config.now c.self.inside.pool.limits.slice_words room c.in-Err.fault did.wide did.fits (view_of seat) in
    rw (← c.pass.view_is)
    (subst (λ (f : TuneFault). MakesTuneCall limits c.args.config.now (Err f) (view_of seat) (view_of seat)) (sym c.unfit.ensures)
    (tune_call limits seat.number seat.front seat.front c.pass.invariant.between.rests.idle legal seat.number refl c.args.config.now (Err (fault_of_layout c.in-Err.fault)) turn))
