-- The bytes are the digits of the number, and those that are missing are 0.
use Rattle.std.proofs.Common.{◌≡◌, ℕ, ◌+◌, ◌*◌, ◌^◌, ◌<◌, ◌≤◌, List, length, sym, ap, ◌∙◌, refl, arith}
use Rattle.std.proofs.Math.Nat.{pow-le-pow_right}
use Rattle.word_cut.specs.Keys.{first_bytes}
use Rattle.word_cut.proofs.KeyLemmas.{AreBytes, first-below, first-eight, first-more, first-shifted, first-take}
use Rattle.word_cut.proofs.keyed_word.first_of.Goals as goal

-- a number of fewer than seven bytes leaves room for one more
room : (n : ℕ) (bytes : List ℕ) → AreBytes bytes → n < 7 → first_bytes n bytes < 281474976710656
room n bytes small few =
    let power : 256 ^ n ≤ 256 ^ 6 = pow-le-pow_right (omega arith) (let h : n ≤ 6 = omega arith in h) in
    omega (arith, first-below n bytes small)

pub returns-in-Some : goal.returns-in-Some
returns-in-Some c =
    c.from_be_bytes.ensures ∙ sym (first-eight c.in-Some.first.now) ∙ ap (first_bytes 8) c.in-Some.ensures.cases.same ∙ first-take 8 c.args.bytes.now

pub overflow_mul-first : goal.overflow_mul-first
overflow_mul-first c =
    let h = room c.loop-byte.byte-index c.args.bytes.now (λ i. (c.type_inv.bytes i).fits) (let h : c.loop-byte.byte-index < 7 = omega (arith, c.in_default.ensures.cases) in h) in
    omega (arith, c.loop-byte.invariant)

pub overflow_add-first : goal.overflow_add-first
overflow_add-first c =
    let h = room c.loop-byte.byte-index c.args.bytes.now (λ i. (c.type_inv.bytes i).fits) (let h : c.loop-byte.byte-index < 7 = omega (arith, c.in_default.ensures.cases) in h) in
    omega (arith, c.loop-byte.invariant)

pub loop-byte-init : goal.loop-byte-init
unfolding first_bytes
loop-byte-init c = refl

pub loop-byte-preserved : goal.loop-byte-preserved
loop-byte-preserved c =
    ap (λ (n : ℕ). n * 256 + c.from.result) c.loop-byte.invariant ∙ ap (λ (b : ℕ). first_bytes c.loop-byte.byte-index c.args.bytes.now * 256 + b) c.from.ensures
    ∙ sym (first-more c.loop-byte.byte-index c.args.bytes.now)

pub returns : goal.returns
returns c =
    let all : c.loop-byte.byte-index ≡ length c.args.bytes.now = omega arith in
    first-shifted c.args.bytes.now c.loop-byte.first (λ i. (c.type_inv.bytes i).fits) c.in_default.ensures.cases (c.loop-byte.invariant ∙ ap (λ (n : ℕ). first_bytes n c.args.bytes.now) all)
