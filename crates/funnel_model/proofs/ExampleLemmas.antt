-- What the examples' proofs share: few columns and slices, when a slice has room, adds without bits, and totals.
use Rattle.std.proofs.Common.{◌≡◌, ℕ, zero, suc, ◌+◌, ◌<◌, false, List, [], ◌∷◌, slice_index, refl, arith}
use Rattle.std.proofs.lemmas.Bool.{both_ways}
use Rattle.std.specs.List.{All}
use Rattle.std.proofs.lemmas.List.Elements.{All-nil}
use Rattle.funnel_model.specs.declared.bit_list.Bit.{Bit}
use Rattle.funnel_model.specs.declared.event.Event.{Event}
use Rattle.funnel_model.specs.Legal.{Limits, HasRoom, IsInSlice, IsLegal}
use Rattle.funnel_model.specs.Reserve.{IsTotal}
use Rattle.funnel_model.specs.Slices.{IsFilled, is_claimed, is_clearing}
use Rattle.funnel_model.proofs.Retirement.{not_all_over}

-- what holds of the first two columns holds of each of two
pub two_columns : (f : ℕ → Type 0) → f 0 → f 1 → (column : ℕ) → column < 2 → f column
two_columns f a b zero in' = a
two_columns f a b (suc zero) in' = b
two_columns f a b (suc (suc n)) in' = absurd (omega arith)

-- and of the first three of each of three
pub three_columns : (f : ℕ → Type 0) → f 0 → f 1 → f 2 → (column : ℕ) → column < 3 → f column
three_columns f a b c zero in' = a
three_columns f a b c (suc zero) in' = b
three_columns f a b c (suc (suc zero)) in' = c
three_columns f a b c (suc (suc (suc n))) in' = absurd (omega arith)

-- what holds of the first slice holds of each of one
pub one_slice : (f : ℕ → Type 0) → f 0 → (slice : ℕ) → slice < 1 → f slice
one_slice f a zero in' = a
one_slice f a (suc n) in' = absurd (omega arith)

-- a filled slice has no room
pub filled_has_no_room : (columns slice : ℕ) (history : List Event) → IsFilled columns slice history → HasRoom columns history slice → ⊥
filled_has_no_room columns slice history filled room =
    let left = room.unclaimed in both_ways (is_claimed slice left.0 history) left.2 (filled left.0 left.1)

-- and one with an unclaimed column has room in a legal history, where it isn't being cleared
pub room_unclaimed : (limits : Limits) (history : List Event) (slice column : ℕ) → IsLegal limits history → column < limits.columns →
    is_claimed slice column history ≡ false → is_clearing slice history ≡ false → HasRoom limits.columns history slice
room_unclaimed limits history slice column legal in' free not_clearing = record {
  in_use = record { not_retired = λ retired. not_all_over limits history slice column legal in' free retired.over; not_clearing = not_clearing };
  unclaimed = (column, in', free);
}

-- an add without words sets no bits
pub no_bits_in : (slice : ℕ) → All (λ (b : Bit). IsInSlice 4 slice b.word) []
no_bits_in slice = All-nil (λ (b : Bit). IsInSlice 4 slice b.word)

pub no_bits : All (λ (b : Bit). IsInSlice 4 0 b.word) []
no_bits = no_bits_in 0

pub none_wide : All (λ (b : Bit). b.bit < 64) []
none_wide = All-nil (λ (b : Bit). b.bit < 64)

-- the total over one slice, and over two
pub total_of_one : (IsNumberOf : ℕ → ℕ → Type 0) (n : ℕ) → IsNumberOf 0 n → IsTotal 1 IsNumberOf n
total_of_one IsNumberOf n is = record {
  numbers = n ∷ [];
  count = refl;
  each = one_slice (λ slice. IsNumberOf slice (slice_index (n ∷ []) slice)) is;
  adds_up = omega arith;
}

pub total_of_two : (IsNumberOf : ℕ → ℕ → Type 0) (m n : ℕ) → IsNumberOf 0 m → IsNumberOf 1 n → IsTotal 2 IsNumberOf (m + n)
total_of_two IsNumberOf m n first second = record {
  numbers = m ∷ n ∷ [];
  count = refl;
  each = two_columns (λ slice. IsNumberOf slice (slice_index (m ∷ n ∷ []) slice)) first second;
  adds_up = omega arith;
}
