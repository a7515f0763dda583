-- The shard that a document goes to.
use Rattle.std.proofs.Common.{◌≡◌, ℕ, zero, suc, ◌+◌, ◌*◌, ◌^◌, ◌<◌, ◌≤◌, Bool, true, false, cond, List, length, get_or, Fits, w64, add-one, sym, refl, ap, ◌∙◌, subst, inl, inr, arith}
use Rattle.std.proofs.lemmas.Bool.{cases_lt, leb-false, leb-true}
use Rattle.std.specs.Prelude.{◌⊎◌, nat_le}
use Rattle.std.proofs.Math.Nat.{pow-le-pow_right, pow-suc}
use Rattle.std.proofs.lemmas.Cmp.{nat_list_eq_equiv}
use Rattle.std.proofs.lemmas.Map.Keys.{IsDistinct-from_apart, Less-from_sorted}
use Rattle.std.proofs.lemmas.Map.Made.{length-from_keys}
use Rattle.std.proofs.lemmas.Map.Text.{is_eq-slice_cmp}
use Rattle.std.specs.Cmp.Lexicographic.{slice_cmp}
use Rattle.std.specs.Ordering.{is_eq, nat_cmp}
use Rattle.std.specs.Str.{bytes_eq}
use Rattle.funnel_model.specs.Words.{AreWordsOf, IsRising, words}
use Rattle.funnel_model.proofs.WordLemmas.{has-same}
use Rattle.shard_set.specs.Parts.{IsShardFor, distinct_words, shard_for}

-- it is one of the shards
shard_upto : (shards words : ℕ) → shard_for shards words ≤ shards
unfolding shard_for
shard_upto zero words = omega arith
shard_upto (suc k) words = of (nat_le (2 * 4 ^ k) words) (shard_upto k words) where
  of : (b : Bool) → shard_for k words ≤ k → cond b k (shard_for k words) ≤ suc k
  of true low = omega arith
  of false low = omega arith

pub shard_below : (shards words : ℕ) → 0 < shards → shard_for shards words < shards
unfolding shard_for
shard_below zero words some = absurd (omega arith)
shard_below (suc k) words some = of (nat_le (2 * 4 ^ k) words) (shard_upto k words) where
  of : (b : Bool) → shard_for k words ≤ k → cond b k (shard_for k words) < suc k
  of true low = omega arith
  of false low = omega arith

-- as the rule says
pub shard_is : (shards words : ℕ) → 0 < shards → IsShardFor shards words (shard_for shards words)
unfolding shard_for
shard_is zero words some = absurd (omega arith)
shard_is (suc zero) words some = of (nat_le (2 * 4 ^ 0) words) where
  of : (b : Bool) → IsShardFor 1 words (cond b 0 0)
  of true = record { in_range = omega arith; enough = inl refl; greatest = λ other above below. absurd (omega arith) }
  of false = record { in_range = omega arith; enough = inl refl; greatest = λ other above below. absurd (omega arith) }
shard_is (suc (suc k)) words some = of (nat_le (2 * 4 ^ (suc k)) words) refl (shard_is (suc k) words (omega arith)) where
  of : (b : Bool) → nat_le (2 * 4 ^ (suc k)) words ≡ b → IsShardFor (suc k) words (shard_for (suc k) words) → IsShardFor (suc (suc k)) words (cond b (suc k) (shard_for (suc k) words))
  of true is lower = record {
    in_range = omega arith;
    enough = inr (leb-true (2 * 4 ^ (suc k)) words is);
    greatest = λ other above below. absurd (omega arith);
  }
  of false is lower = record {
    in_range = let low = lower.in_range in omega (arith, low);
    enough = lower.enough;
    greatest = λ other above below. last other above below (cases_lt other (suc k));
  } where
    last : (other : ℕ) → shard_for (suc k) words < other → other < suc (suc k) → (other < suc k) ⊎ (suc k ≤ other) → words < 2 * 4 ^ other
    last other above below (inl low) = lower.greatest other above low
    last other above below (inr high) =
        let same : suc k ≡ other = omega (arith, below, high) in
        subst (λ n. words < 2 * 4 ^ n) same (leb-false (2 * 4 ^ (suc k)) words is)

-- of one shard more
pub shard_for-more : (k words : ℕ) → shard_for (k + 1) words ≡ cond (nat_le (2 * 4 ^ k) words) k (shard_for k words)
unfolding shard_for
shard_for-more k words = rw add-one refl

-- a set of words of a text has as many as the text has distinct ones
pub words_counted : (set : List (List ℕ)) (text : List ℕ) → IsRising set → AreWordsOf set text → length set ≡ distinct_words text
words_counted set text rising are =
    length-from_keys nat_list_eq_equiv set (words text)
    (IsDistinct-from_apart bytes_eq set (λ i j d lt in'.
    sym (is_eq-slice_cmp (get_or set i d) (get_or set j d)) ∙ ap is_eq (Less-from_sorted (slice_cmp nat_cmp) set i j d rising lt in')))
    (has-same set (words text) are)

pub shard_for-one : (words : ℕ) → shard_for 1 words ≡ 0
unfolding shard_for
shard_for-one words = of (nat_le (2 * 4 ^ 0) words) where
  of : (b : Bool) → ◌≡◌ {A = ℕ} (cond b 0 0) 0
  of true = refl
  of false = refl

-- a shard more takes documents of four times as many words
pub least_more : (k least : ℕ) → least ≡ 2 * 4 ^ k → least * 4 ≡ 2 * 4 ^ (k + 1)
least_more k least is = let more = pow-suc 4 k in let one : 4 ^ (k + 1) ≡ 4 ^ suc k = ap (λ n. 4 ^ n) (add-one k) in omega (arith, is, more, one)

pub least_fits : (k least : ℕ) → k < 8 → least ≡ 2 * 4 ^ k → Fits w64 (least * 4)
least_fits k least few is = let low : 4 ^ k ≤ 4 ^ 7 = pow-le-pow_right (let some : zero < 4 = omega arith in some) (let below : k ≤ 7 = omega arith in below) in omega (arith, is, low)
