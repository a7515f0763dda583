-- The pass over the listed words: what the words up to a place ask for.
use Rattle.std.proofs.Common.{◌≡◌, ℕ, ◌+◌, ◌*◌, ◌^◌, ◌<◌, ◌≤◌, Bool, true, false, not, cond, eqb, List, [], ◌∷◌, length, get_or, take, filter, ap, refl, ◌∙◌, arith, zero-add}
use Rattle.std.specs.List.{sum_by, range_with_len}
use Rattle.std.proofs.lemmas.Nat.{mul-le}
use Rattle.std.proofs.lemmas.List.{length-take, take_all}
use Rattle.std.proofs.lemmas.List.Elements.{filter_more}
use Rattle.std.proofs.lemmas.List.Filters.{length-filter_more}
use Rattle.std.proofs.lemmas.List.FromFn.{length-range_with_len}
use Rattle.std.proofs.lemmas.List.Sums.{sum_by-append, sum_by-le, length-filter, count_by-le-length}
use Rattle.funnel_model.specs.Treatment.{rank_of_row, row_count_of_class}
use Rattle.funnel_model.specs.Sizes.{is_private, private_words, shared_words, bits_of_entry, bits_at_rank, ranked_rows}
use Rattle.funnel_model.specs.Configuration.{IsInRange}
use Rattle.funnel_model.specs.declared.config.Config.{Config}
use Rattle.funnel_model.proofs.TreatmentLemmas.{row_count-is_small}
use Rattle.treatment.proofs.Counting.{few_bits}

-- the words with a private row among the first i
abbrev pub private_so_far : Config → ℕ → ℕ
private_so_far config i = length (filter (is_private config) (take i config.words))

-- the bits that the other ones among the first i set at rank r
abbrev pub bits_so_far : Config → ℕ → ℕ → ℕ
bits_so_far config r i = sum_by (bits_of_entry config r) (filter (λ entry. not (is_private config entry)) (take i config.words))

one_of : (f : List ℕ × ℕ → ℕ) (b : Bool) (entry : List ℕ × ℕ) → sum_by f (cond b (entry ∷ []) []) ≡ cond b (f entry) 0
one_of f true entry = zero-add (f entry)
one_of f false entry = refl

module _ (config : Config) (i : ℕ) (entry : List ℕ × ℕ) (within : i < length config.words) (at : get_or config.words i entry ≡ entry) where
  private_next : private_so_far config (i + 1) ≡ private_so_far config i + cond (is_private config entry) 1 0
  private_next =
      length-filter_more (is_private config) config.words i entry within
      ∙ ap (λ e. private_so_far config i + cond {A = ℕ} (is_private config e) 1 0) at

  bits_next : (r : ℕ) → bits_so_far config r (i + 1) ≡ bits_so_far config r i + cond (not (is_private config entry)) (bits_of_entry config r entry) 0
  bits_next r =
      let shared : List ℕ × ℕ → Bool = λ e. not (is_private config e) in
      ap (sum_by (bits_of_entry config r)) (filter_more shared config.words i entry within)
      ∙ sum_by-append (bits_of_entry config r) (filter shared (take i config.words)) _
      ∙ ap (λ e. bits_so_far config r i + sum_by (bits_of_entry config r) (cond (not (is_private config e)) (e ∷ []) [])) at
      ∙ ap (λ n. bits_so_far config r i + n) (one_of (bits_of_entry config r) (not (is_private config entry)) entry)

  -- a word with a private row
  pub private_more : is_private config entry ≡ true → private_so_far config (i + 1) ≡ private_so_far config i + 1
  private_more is = private_next ∙ ap (λ b. private_so_far config i + cond {A = ℕ} b 1 0) is

  pub bits_same : (r : ℕ) → is_private config entry ≡ true → bits_so_far config r (i + 1) ≡ bits_so_far config r i
  bits_same r is =
      let step : bits_so_far config r (i + 1) ≡ bits_so_far config r i + 0 =
      bits_next r ∙ ap (λ b. bits_so_far config r i + cond (not b) (bits_of_entry config r entry) 0) is in
      omega (arith, step)

  -- a word with shared rows
  pub private_same : is_private config entry ≡ false → private_so_far config (i + 1) ≡ private_so_far config i
  private_same is =
      let step : private_so_far config (i + 1) ≡ private_so_far config i + 0 =
      private_next ∙ ap (λ b. private_so_far config i + cond {A = ℕ} b 1 0) is in
      omega (arith, step)

  pub bits_more_at : (r : ℕ) → is_private config entry ≡ false → bits_so_far config r (i + 1) ≡ bits_so_far config r i + bits_of_entry config r entry
  bits_more_at r is = bits_next r ∙ ap (λ b. bits_so_far config r i + cond (not b) (bits_of_entry config r entry) 0) is

-- all words were counted
pub all_private : (config : Config) (i : ℕ) → length config.words ≤ i → private_so_far config i ≡ length (private_words config)
unfolding private_words
all_private config i all = ap (λ ws. length (filter (is_private config) ws)) (take_all i config.words all)

pub all_bits : (config : Config) (r i : ℕ) → length config.words ≤ i → bits_so_far config r i ≡ bits_at_rank config r
unfolding bits_at_rank shared_words
all_bits config r i all = ap (λ ws. sum_by (bits_of_entry config r) (filter (λ entry. not (is_private config entry)) ws)) (take_all i config.words all)

-- no more words with a private row than words
pub private_small : (config : Config) (i : ℕ) → private_so_far config i ≤ length (take i config.words)
private_small config i = omega (arith, length-filter (is_private config) (take i config.words), count_by-le-length (is_private config) (take i config.words))

-- at most 26 rows of any rank
pub ranked_rows_small : (config : Config) (c r : ℕ) → ranked_rows config c r ≤ 26
unfolding ranked_rows
ranked_rows_small config c r =
    let k : ℕ = row_count_of_class config.one_in config.snr c in
    let p : ℕ → Bool = λ j. eqb (rank_of_row c (row_count_of_class config.one_in config.snr c) config.max_rank j) r in
    let few = count_by-le-length p (range_with_len 0 (row_count_of_class config.one_in config.snr c)) in
    omega (arith, few, length-range_with_len 0 (row_count_of_class config.one_in config.snr c), row_count-is_small config.one_in config.snr c)

bits_of_entry_small : (config : Config) → config.documents ≤ 2 ^ 32 → (r : ℕ) (entry : List ℕ × ℕ) → bits_of_entry config r entry ≤ 2 ^ 37
unfolding bits_of_entry
bits_of_entry_small config few r entry = few_bits config.documents (entry.1 * 2 ^ r) _ few (ranked_rows_small config _ r)

-- a sum over at most 65536 words
sum_small : (config : Config) → config.documents ≤ 2 ^ 32 → (r : ℕ) (words : List (List ℕ × ℕ)) → length words ≤ 65536 → sum_by (bits_of_entry config r) (filter (λ entry. not (is_private config entry)) words) ≤ 2 ^ 53
sum_small config few r words short =
    let shared : List ℕ × ℕ → Bool = λ e. not (is_private config e) in
    let each = sum_by-le (bits_of_entry config r) (2 ^ 37) (filter shared words) (λ k d _. bits_of_entry_small config few r (get_or (filter shared words) k d)) in
    let fewer : length (filter shared words) ≤ 65536 = omega (arith, length-filter shared words, count_by-le-length shared words) in
    omega (arith, each, mul-le (length (filter shared words)) (2 ^ 37) 65536 (2 ^ 37) fewer (omega arith))

pub bits_so_far_small : (config : Config) → IsInRange config → (r i : ℕ) → bits_so_far config r i ≤ 2 ^ 53
bits_so_far_small config range r i =
    sum_small config range.documents.1 r (take i config.words) (omega (arith, length-take i config.words, range.words.few))

pub bits_at_rank_small : (config : Config) → IsInRange config → (r : ℕ) → bits_at_rank config r ≤ 2 ^ 53
unfolding bits_at_rank shared_words
bits_at_rank_small config range r = sum_small config range.documents.1 r config.words range.words.few

-- no more private rows than listed words
pub private_words_small : (config : Config) → IsInRange config → length (private_words config) ≤ 65536
unfolding private_words
private_words_small config range =
    omega (arith, length-filter (is_private config) config.words, count_by-le-length (is_private config) config.words, range.words.few)
