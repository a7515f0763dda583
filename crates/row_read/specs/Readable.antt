-- What reads of rows leave as it is.
use Rattle.std.specs.Prelude.{◌≡◌, ℕ, ◌↔◌, List}
use Rattle.std.specs.declared.option.Option.{Option}
use Rattle.funnel_model.specs.declared.bit_list.Bit.{Bit}

-- the words that may be read, the bits that each read of their word has, the words where they are known, and what else is kept are
-- after some reads as they were before them; and the bits that were seen before are seen still
pub record StaysReadable {S K : Type 0} (reach : S → ℕ → Type 0) (least seen : S → Bit → Type 0) (told : S → Option (List ℕ)) (kept : S → K) (before after : S) : Type 0 where
  pub reach_stays : (word : ℕ) → reach before word ↔ reach after word
  pub least_stays : (bit : Bit) → least before bit ↔ least after bit
  pub seen_stays : (bit : Bit) → seen before bit → seen after bit
  pub told_stays : told after ≡ told before
  pub same_kept : kept after ≡ kept before
