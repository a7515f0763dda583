use Rattle.std.proofs.Common.{◌≡◌, ℕ, ◌-◌, ◌<◌, sym, ◌∙◌, subst, arith}
use Rattle.slice_stages.specs.declared.stage.Stage.TheVariants as stage
use Rattle.commit_desk.specs.Desks.{DeskState}
use Rattle.commit_desk.specs.Moving.{IsPartlyHeld}
use Rattle.commit_desk.proofs.Emptying.{not_partly, partly_held}
use Rattle.commit_desk.proofs.LiveLooks.{same_claimed, same_over}
use Rattle.commit_desk.proofs.desk.Desk.held.Goals as goal
use Rattle.commit_desk.proofs.desk.Desk.held.Goals.{After-stage, else-claimed-self-via-then-claimed-self+else-over-gt0, else-claimed-self-via-else-claimed-self}

in_range_now : (c : After-stage) → c.args.slice < c.self.inside.home.pool.limits.slices
in_range_now c = subst (λ (d : DeskState). c.args.slice < d.pool.limits.slices) (sym c.self.view_is) c.requires

-- a slice that is partly held is in use, with all columns claimed and some over
used_now : (c : After-stage) (held : ℕ) → IsPartlyHeld c.args.self.now.pool.limits.columns c.args.self.now.history c.args.slice held →
    (first : ℕ) × (over : ℕ) × (c.stage.result ≡ stage.InUse first over) × (first ≡ c.self.inside.columns) × (0 < over)
used_now c held partly =
    let i = c.self.inside in
    let kept = c.self.invariant.desk.kept in
    let p = not_partly i.home.pool.limits i.home.history c.self.invariant.whole i.tokens i.stages kept.legal kept.recorded kept.staged c.args.slice held (in_range_now c)
    (subst (λ (d : DeskState). IsPartlyHeld d.pool.limits.columns d.history c.args.slice held) (sym c.self.view_is) partly) in
    (p.0, p.1, c.stage.ensures ∙ p.2, p.3 ∙ sym kept.columns_are, p.4)

pub returns-then-over-gt0 : goal.returns-then-over-gt0
returns-then-over-gt0 c =
    let i = c.self.inside in
    let kept = c.self.invariant.desk.kept in
    let slice = c.args.slice in
    let over = c.in-InUse.over in
    let stage' = c.before.before.before in
    subst (λ (d : DeskState). IsPartlyHeld d.pool.limits.columns d.history slice (i.columns - over)) c.self.view_is
    (subst (λ n. IsPartlyHeld i.home.pool.limits.columns i.home.history slice (n - over)) (sym kept.columns_are)
    (partly_held i.home.pool.limits i.home.history c.self.invariant.whole i.tokens i.stages kept.legal kept.recorded kept.staged slice c.in-InUse.claimed over (in_range_now stage')
    (sym c.stage.ensures ∙ c.in-InUse.is) (c.if-claimed-self.true ∙ kept.columns_are) c.if-over-gt0.true))

pub returns-in_default : goal.returns-in_default
returns-in_default c held partly = let u = used_now c.before held partly in absurd (c.in_default.not-InUse u.0 u.1 u.2)

pub returns : goal.returns
returns c held partly =
    let u = used_now c.before.before held partly in
    let in-use = sym c.in-InUse.is ∙ u.2 in
    elim c.else-claimed-self.branch [
      | else-claimed-self-via-then-claimed-self+else-over-gt0 w ↦
          let same = same_over c.in-InUse.claimed c.in-InUse.over u.0 u.1 in-use in
          let none = w.if-over-gt0.false in
          let some = u.4 in
          omega (arith, same, none, some)
      | else-claimed-self-via-else-claimed-self w ↦ absurd (w.if-claimed-self.false (same_claimed c.in-InUse.claimed c.in-InUse.over u.0 u.1 in-use ∙ u.3))
    ]
