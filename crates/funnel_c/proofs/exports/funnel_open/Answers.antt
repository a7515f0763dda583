-- A handle that has an index keeps it; one that has none gets the index that was opened.
use Rattle.std.proofs.Common.{refl, subst, sym}
use Rattle.std.specs.declared.option.Option.TheVariants.{None}
use Rattle.funnel_c.specs.declared.code.Code.TheVariants as code
use Rattle.funnel_c.specs.Calls.{Opens, became}
use Rattle.funnel_c.proofs.exports.funnel_open.Goals as goal

-- src/exports.rt:26:9
pub returns-in-Some : goal.returns-in-Some
returns-in-Some c =
    let told = became c.args.fault.now c.args.fault.now in
    (code.Open, c.number.ensures, subst (λ h. Opens h c.put.new.self.index c.args.config.now code.Open told) (sym c.in-Some.ensures.result) (refl, c.put.ensures, refl))

-- src/exports.rt:15:1
pub returns-in-Ok : goal.returns-in-Ok
returns-in-Ok c =
    let told = became c.args.fault.now c.open.new.fault in let after = c.put-in-Ok.new.self.index in let bytes = c.args.config.now in (
      code.Done,
      c.number-in-Ok.ensures,
      subst (λ h. Opens h after bytes code.Done told) (sym c.in_default.ensures.result)
          (subst (λ k. Opens None k bytes code.Done told) (sym c.put-in-Ok.ensures) c.in-Ok.ensures.opened),
    )
