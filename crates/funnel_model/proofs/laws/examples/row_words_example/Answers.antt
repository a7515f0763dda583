use Rattle.std.proofs.Common.{◌≡◌, ℕ, zero, suc, ◌^◌, ◌≤◌, List, [], ◌∷◌, ◌++◌, codes, slice_index, refl, arith}
use Rattle.std.specs.List.{All}
use Rattle.std.proofs.lemmas.List.Elements.{All-cons, All-nil}
use Rattle.funnel_model.specs.declared.bit_list.Bit.{Bit}
use Rattle.funnel_model.specs.declared.call.Call.TheVariants as call
use Rattle.funnel_model.specs.declared.event.Event.{Event}
use Rattle.funnel_model.specs.declared.event.Event.TheVariants as event
use Rattle.funnel_model.specs.RecycleExample.{covering, first_set, guarded, high_bit, low_bit, paired, second_set, slices_filled}
use Rattle.funnel_model.specs.RowWords.{Covers, IsSetIn, IsZeroIn}
use Rattle.funnel_model.specs.Slices.{claimed}
use Rattle.funnel_model.proofs.ExampleLemmas.{two_columns}
use Rattle.funnel_model.proofs.RowWords.{covers-add, covers-silent, covers-start}
use Rattle.funnel_model.proofs.laws.examples.row_words_example.Goals as goal

-- one bit that is set
one : (b : Bit) → IsSetIn covering b → All (IsSetIn covering) (b ∷ [])
one b is = All-cons (IsSetIn covering) b [] is (All-nil (IsSetIn covering))

-- the words cover the history up to each of its events
abbrev first : List Event
first = event.No 0 call.Recycle ∷ event.Take 0 0 0 ∷ []

abbrev second : List Event
second = first ++ event.Add 0 9 (codes "a cat") 0 0 (low_bit ∷ []) ∷ event.Take 0 1 0 ∷ []

covers_first : Covers covering first
covers_first = covers-silent covering (event.No 0 call.Recycle ∷ []) (event.Take 0 0 0)
    (covers-silent covering [] (event.No 0 call.Recycle) (covers-start covering) (λ slice. refl)) (λ slice. refl)

covers_second : Covers covering second
covers_second = covers-silent covering (first ++ event.Add 0 9 (codes "a cat") 0 0 (low_bit ∷ []) ∷ []) (event.Take 0 1 0)
    (covers-add covering first 0 9 (codes "a cat") 0 0 (low_bit ∷ []) covers_first (one low_bit (λ none. cc))) (λ slice. refl)

covers_filled : Covers covering slices_filled
covers_filled = covers-add covering second 0 7 (codes "Cat") 1 0 (high_bit ∷ []) covers_second (one high_bit (λ none. cc))

pub returns-clause-covers : goal.returns-clause-covers
returns-clause-covers c =
    let find = event.Find 1 (codes "A") in
    covers-silent covering (slices_filled ++ find ∷ event.Del 0 9 ∷ []) (event.Del 0 7)
    (covers-silent covering (slices_filled ++ find ∷ []) (event.Del 0 9)
    (covers-silent covering slices_filled find covers_filled (λ slice. refl)) (λ slice. refl)) (λ slice. refl)

pub returns-clause-other_bit : goal.returns-clause-other_bit
returns-clause-other_bit c covers = covers 1 high_bit (record {
  earlier = second;
  event = event.Add 0 7 (codes "Cat") 1 0 (high_bit ∷ []);
  later = event.Find 1 (codes "A") ∷ event.Del 0 9 ∷ event.Del 0 7 ∷ [];
  whole = refl;
  added = (0, omega arith, refl);
  stays = refl;
}) refl

pub returns-clause-claimed : goal.returns-clause-claimed
returns-clause-claimed c slice in' none word within =
    absurd (two_columns (λ s. claimed s guarded ≡ [] → ⊥) (λ empty. cc) (λ empty. cc) slice in' none)

-- a number isn't both
apart : (n : ℕ) → n ≡ 1 → n ≡ 0 → ⊥
apart n is_one is_zero = omega arith

pub returns-clause-unclaimed : goal.returns-clause-unclaimed
returns-clause-unclaimed c fresh = apart (slice_index covering 1) refl (fresh 0 (omega arith) refl 1 (record { from = omega arith; to = omega arith }))

top_apart : (n : ℕ) → n ≡ 2 ^ 63 → n ≡ 0 → ⊥
top_apart n high is_zero = omega arith

pub returns-clause-second : goal.returns-clause-second
returns-clause-second c fresh = top_apart (slice_index second_set 5) refl (fresh 1 (omega arith) refl 5 (record { from = omega arith; to = omega arith }))

pub returns-clause-opened : goal.returns-clause-opened
returns-clause-opened c fresh = apart (slice_index covering 1) refl (fresh 0 (omega arith) refl 1 (record { from = omega arith; to = omega arith }))

-- the words from 4 on are zero
zero_from : (word : ℕ) → 4 ≤ word → slice_index first_set word ≡ 0
zero_from (suc (suc zero)) high = absurd (omega (arith, high))
zero_from (suc zero) high = absurd (omega (arith, high))
zero_from zero high = absurd (omega (arith, high))
zero_from (suc (suc (suc zero))) high = absurd (omega (arith, high))
zero_from (suc (suc (suc (suc zero)))) high = refl
zero_from (suc (suc (suc (suc (suc zero))))) high = refl
zero_from (suc (suc (suc (suc (suc (suc zero)))))) high = refl
zero_from (suc (suc (suc (suc (suc (suc (suc zero))))))) high = refl
zero_from (suc (suc (suc (suc (suc (suc (suc (suc n)))))))) high = refl

pub returns-clause-beside : goal.returns-clause-beside
returns-clause-beside c =
    two_columns (λ s. claimed s (event.Take 0 0 0 ∷ []) ≡ [] → IsZeroIn paired first_set s)
    (λ none. absurd (let no : claimed 0 (event.Take 0 0 0 ∷ []) ≡ [] → ⊥ = λ empty. cc in no none))
    (λ none word within. zero_from word (omega (arith, within.from)))
