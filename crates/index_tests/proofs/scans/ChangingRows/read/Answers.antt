use Rattle.std.proofs.Common.{◌≡◌, ℕ, ◌^◌, ◌<◌, true, eqb, max, zero, suc, ap, sym, ◌∙◌, refl, arith}
use Rattle.std.specs.Prelude.{bit_or, slice_index, IsBitSet}
use Rattle.std.specs.Int.{bit_at}
use Rattle.std.proofs.lemmas.Nat.Bits.{bit_at_or, bit_at-lt}
use Rattle.rank_matcher.proofs.Bits.{has_bit-digit, set-from_test, test-from_set}
use Rattle.index_tests.proofs.scans.ChangingRows.read.Goals as goal

one_of_either : (x y : ℕ) → x < 2 → y < 2 → eqb x 1 ≡ true → eqb (max x y) 1 ≡ true
one_of_either zero y p q e = absurd (cc)
one_of_either (suc zero) zero p q e = refl
one_of_either (suc zero) (suc zero) p q e = refl
one_of_either (suc zero) (suc (suc y)) p q e = absurd (omega arith)
one_of_either (suc (suc x)) y p q e = absurd (omega arith)

-- a word keeps its bits where more are set
set-or : (a b i : ℕ) → IsBitSet a i → IsBitSet (bit_or a b) i
set-or a b i set =
    let has : eqb (bit_at a i) 1 ≡ true = sym (has_bit-digit a i) ∙ test-from_set a i set in
    set-from_test (bit_or a b) i
    (has_bit-digit (bit_or a b) i ∙ ap (λ n. eqb n 1) (bit_at_or a b i) ∙ one_of_either (bit_at a i) (bit_at b i) (bit_at-lt a i) (bit_at-lt b i) has)

pub returns-clause-least : goal.returns-clause-least
returns-clause-least c = λ bit set. set-or (slice_index c.args.self.now.words.now c.args.word) (2 ^ 63) bit set
