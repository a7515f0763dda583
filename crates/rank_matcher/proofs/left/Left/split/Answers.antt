use Rattle.std.proofs.Common.{◌≡◌, ◌+◌, ◌*◌, ◌/◌, ℕ, List, Contains, drop, map, sym, subst, ◌∙◌, arith}
use Rattle.std.proofs.lemmas.List.{drop-map, take-map}
use Rattle.funnel_model.proofs.WordLemmas.{one_test}
use Rattle.rank_matcher.specs.Left.{AreLeftFrom, AreRisingFrom}
use Rattle.rank_matcher.proofs.Bits.{has_bit-ones}
use Rattle.rank_matcher.proofs.LeftColumns.{back_from, back_rising, front_of, in_back, in_front, next_of, of_back, of_front}
use Rattle.row_read.specs.Bits.{has_bit}
use Rattle.rank_matcher.proofs.left.Left.split.Goals as goal

pub returns-in-All-clause-mask : goal.returns-in-All-clause-mask
returns-in-All-clause-mask c is_left left bit few =
    let all = subst (AreLeftFrom is_left c.args.word) c.in-All.is left in
    has_bit-ones bit few ∙ sym (all (64 * c.args.word + bit))

pub returns-in-Columns-clause-mask : goal.returns-in-Columns-clause-mask
returns-in-Columns-clause-mask c is_left left bit few =
    let columns : List (ℕ × ℕ) = c.in-Columns.columns.now in
    let word : ℕ = c.args.word in
    let xs : List ℕ = map (λ (p : ℕ × ℕ). p.1) columns in
    let mask : ℕ = c.mask_of-mask.result.0 in
    let k : ℕ = c.mask_of-mask.result.1 in
    let told = c.mask_of-mask.ensures in
    let column : ℕ = 64 * word + bit in
    let r : AreRisingFrom is_left word xs = subst (AreLeftFrom is_left word) c.in-Columns.is left in
    let next = next_of columns k word told.next in
    let of : column / 64 ≡ word = omega (arith, few) in
    one_test (has_bit mask bit) (is_left column)
    (λ set.
    (r.exactly column (omega arith)).0
    (of_front xs k column (subst (λ ys. Contains ys column) (sym (take-map (λ (p : ℕ × ℕ). p.1) k columns)) ((told.mask bit few).0 set))))
    (λ is.
    (told.mask bit few).1
    (subst (λ ys. Contains ys column) (take-map (λ (p : ℕ × ℕ). p.1) k columns) (in_front xs k word r.rising r.from next column of ((r.exactly column (omega arith)).1 is))))

pub returns-in-Columns-clause-later : goal.returns-in-Columns-clause-later
returns-in-Columns-clause-later c is_left left =
    let columns : List (ℕ × ℕ) = c.in-Columns.columns.now in
    let word : ℕ = c.args.word in
    let xs : List ℕ = map (λ (p : ℕ × ℕ). p.1) columns in
    let k : ℕ = c.mask_of-mask.result.1 in
    let told = c.mask_of-mask.ensures in
    let r : AreRisingFrom is_left word xs = subst (AreLeftFrom is_left word) c.in-Columns.is left in
    let next = next_of columns k word told.next in
    let here : AreRisingFrom is_left (word + 1) (drop k xs) = record {
      rising = back_rising xs k word r.rising r.from next;
      from = back_from xs k word r.rising r.from next;
      exactly = λ column high. (
        λ has. (r.exactly column (omega (arith, high))).0 (of_back xs k column has),
        λ is. in_back xs k word (front_of columns k word told.of_word) column high ((r.exactly column (omega (arith, high))).1 is),
      );
    } in
    subst (λ (ps : List (ℕ × ℕ)). AreRisingFrom is_left (word + 1) (map (λ (p : ℕ × ℕ). p.1) ps)) (sym c.split_at.ensures.back)
    (subst (AreRisingFrom is_left (word + 1)) (drop-map (λ (p : ℕ × ℕ). p.1) k columns) here)
