use Rattle.std.proofs.Common.{◌≡◌, ℕ, ◌+◌, ◌-◌, ◌*◌, ◌<◌, ◌≤◌, ◌^◌, ◌%◌, ⊎_elim, ap, subst, sym, ◌∙◌, arith}
use Rattle.std.proofs.Math.Nat.{pow-le-pow_left, pow-le-pow_right, mul-le-mul_left, pow-zero, one-le-pow}
use Rattle.std.proofs.lemmas.Nat.{mul-le, one_shl}
use Rattle.std.proofs.lemmas.Bool.{cases_lt}
use Rattle.std.proofs.lemmas.Grind.{pow_more}
use Rattle.funnel_model.proofs.TreatmentLemmas.{row_count-is_least, IsRowCount-unique}
use Rattle.treatment.proofs.Stops.{IsRowCount-from_stop}
use Rattle.treatment.proofs.classes.row_count.Goals as goal

-- what the code wants is what the definition asks
wanted_is : (snr c : ℕ) → c ≤ 15 → snr * (1 * 2 ^ (c + 1) % 18446744073709551616 - 1) ≡ snr * (2 ^ (c + 1) - 1)
wanted_is snr c small = ap (λ p. snr * (p - 1)) (one_shl (c + 1) 64 (omega arith))

wanted_small : (snr c : ℕ) → c ≤ 15 → snr ≤ 1000 → snr * (1 * 2 ^ (c + 1) % 18446744073709551616 - 1) ≤ 65535000
wanted_small snr c small few =
    let two : 0 < 2 = omega arith in
    let a : 2 ^ (c + 1) ≤ 2 ^ 16 = pow-le-pow_right two (let s : c + 1 ≤ 16 = omega arith in s) in
    let b : 2 ^ (c + 1) - 1 ≤ 65535 = omega arith in
    omega (arith, wanted_is snr c small, mul-le snr (2 ^ (c + 1) - 1) 1000 65535 few b)

-- a power that is too small has an exponent of at most 25
exponent_small : (m k w : ℕ) → 2 ≤ m → m ^ k < w → w ≤ 65535000 → k ≤ 25
exponent_small m k w low less small =
    ⊎_elim
    (λ (big : 25 < k).
    let two : 0 < 2 = omega arith in
    let a : 2 ^ 26 ≤ 2 ^ k = pow-le-pow_right two (let s : 26 ≤ k = omega arith in s) in
    let b : 2 ^ k ≤ m ^ k = pow-le-pow_left low k in
    absurd (omega arith))
    (λ (le : k ≤ 25). le)
    (cases_lt 25 k)

first_power : (m : ℕ) → m ≡ m ^ 1
first_power m = let e : m ^ 1 ≡ m ^ 0 * m = pow_more m 0 in omega (arith, ap (λ p. p * m) (pow-zero m), e)

pub loop-power-init : goal.loop-power-init
loop-power-init c = record {
  positive = omega arith;
  small = omega arith;
  power = first_power c.args.one_in;
  too_few = λ h. absurd (omega arith);
}

pub loop-power-smaller : goal.loop-power-smaller
loop-power-smaller c =
    let w : ℕ = c.args.snr * (1 * 2 ^ (c.args.class + 1) % 18446744073709551616 - 1) in
    let within : c.loop-power.power ≤ w = omega arith in
    let more : c.loop-power.power * 2 ≤ c.loop-power.power * c.args.one_in = mul-le-mul_left c.loop-power.power c.requires.one_in.0 in
    let positive : 1 ≤ c.loop-power.power = subst (λ p. 1 ≤ p) (sym c.loop-power.invariant.power) (one-le-pow c.loop-power.count c.args.one_in (omega arith)) in
    omega arith

pub loop-power-preserved : goal.loop-power-preserved
loop-power-preserved c = record {
  positive = omega arith;
  small =
      let less : c.args.one_in ^ c.loop-power.count < c.args.snr * (1 * 2 ^ (c.args.class + 1) % 18446744073709551616 - 1) = omega (arith, c.loop-power.invariant.power) in
      omega (arith, exponent_small c.args.one_in c.loop-power.count _ c.requires.one_in.0 less (wanted_small c.args.snr c.args.class c.requires.class c.requires.snr.1));
  power = sym (pow_more c.args.one_in c.loop-power.count ∙ ap (λ p. p * c.args.one_in) (sym c.loop-power.invariant.power));
  too_few = λ h.
      let e : c.loop-power.count + 1 - 1 ≡ c.loop-power.count = omega arith in
      rw e (omega (arith, c.loop-power.invariant.power));
}

pub returns-clause-least : goal.returns-clause-least
returns-clause-least c =
    let e = wanted_is c.args.snr c.args.class c.requires.class in
    IsRowCount-from_stop c.args.one_in c.args.snr c.args.class c.loop-power.count (omega arith) c.loop-power.invariant.positive
    (omega (arith, e, c.loop-power.invariant.power))
    (λ h. omega (arith, e, c.loop-power.invariant.too_few h))

pub returns-clause-value : goal.returns-clause-value
returns-clause-value c =
    IsRowCount-unique _ _ _ _ _ (returns-clause-least c)
    (row_count-is_least _ _ _ c.requires.one_in.0 c.requires.snr.1 c.requires.class)
