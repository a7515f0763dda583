-- A configuration that lists the first words of a ranking.
use Rattle.std.proofs.Common.{◌≡◌, ◌∙◌, ◌-◌, ◌*◌, ◌^◌, ◌%◌, ◌<◌, ◌≤◌, ℕ, Bool, List, [], All, IsPermutation, String, Global, filter, length, map, take, arith, mod-eq_of_lt, refl, subst, sym}
use Rattle.std.proofs.Math.Nat.{pow-le-pow_right}
use Rattle.std.proofs.lemmas.List.{nil_from_length, take-map}
use Rattle.std.proofs.lemmas.List.Elements.{All-filter, All-take}
use Rattle.std.proofs.lemmas.List.Filters.{sum_by-filter_both}
use Rattle.std.proofs.lemmas.List.Sorted.{All-permutation, length_permutation, sum_by-IsPermutation}
use Rattle.std.proofs.lemmas.List.Sums.{sum_by-take-le}
use Rattle.std.specs.Prelude.{not}
use Rattle.funnel_model.specs.Configuration.{IsBetween, IsInRange}
use Rattle.funnel_model.specs.declared.config.Config.{Config}
use Rattle.funnel_model.specs.declared.config.TheConstants.{MOST_WORDS}
use Rattle.fit.proofs.Orders.{distinct-ranked, distinct-take}
use Rattle.fit.specs.Listings.{IsRanking, IsTail, may_be_listed}
use Rattle.std.specs.declared.cmp.Reverse.{Reverse}
use Rattle.fit.proofs.Writing.{short_text}
use Rattle.fit.specs.Made.{CanBeListed, IsMade, IsOfSample, IsSound, IsTooLong}
use Rattle.fit.specs.Steps.{ranked}
use Rattle.fit.specs.Tallies.{total}
use Rattle.fit.specs.declared.listing.Frame.{Frame}

small_power : (rank : ℕ) → rank ≤ 6 → 2 ^ rank ≤ 64
small_power rank low = let two : 0 < 2 = omega arith in let power : 2 ^ rank ≤ 2 ^ 6 = pow-le-pow_right two low in omega (arith, power)

pub shifted : (rank : ℕ) → rank ≤ 6 → 64 * 2 ^ rank % 4294967296 ≡ 64 * 2 ^ rank
shifted rank low = mod-eq_of_lt (omega (arith, small_power rank low))

-- its numbers are in their ranges
pub in_range_made : (frame : Frame) (first : List (List ℕ × ℕ)) (config : Config) → IsSound frame → CanBeListed frame first → length first ≤ MOST_WORDS → IsMade frame first config → IsInRange config
in_range_made frame first config sound can few made = record {
  passes = (omega (arith, made.defaults.passes), omega (arith, made.defaults.passes));
  slices = (omega (arith, made.slices, sound.some_slices.0), omega (arith, made.slices, sound.some_slices.1));
  blocks = (omega (arith, made.defaults.blocks), omega (arith, made.defaults.blocks));
  max_rank = omega (arith, made.rank, sound.low);
  commits = (omega (arith, made.defaults.commits), omega (arith, made.defaults.commits));
  reserve = omega (arith, made.reserve, small_power frame.rank sound.low);
  one_in = (omega (arith, made.defaults.one_in), omega (arith, made.defaults.one_in));
  snr = (omega (arith, made.defaults.snr), omega (arith, made.defaults.snr));
  documents = (omega (arith, made.documents, sound.corpus.0), omega (arith, made.documents, sound.corpus.1));
  tail = omega (arith, made.tail.least 65536 (omega arith) (omega (arith, sound.few_words)));
  max_rows = (omega (arith, made.defaults.max_rows), omega (arith, made.defaults.max_rows));
  private = omega (arith, made.private.high);
  words = record {
    few = omega (arith, length_permutation first config.words made.words, few);
    counted = subst (λ (n : ℕ). All (λ (entry : List ℕ × ℕ). IsBetween 1 n entry.1) config.words) (sym made.documents)
        (All-permutation (λ (entry : List ℕ × ℕ). IsBetween 1 frame.documents entry.1) first config.words made.words can.counted);
  };
}

-- the tail goes by the words that are listed, in any order
pub tail_made : (words documents sum tail : ℕ) (first listed : List (List ℕ × ℕ)) → sum ≡ total first → IsPermutation first listed → IsTail (words - sum) documents tail
    → IsTail (words - total listed) documents tail
tail_made words documents sum tail first listed is moved tailed =
    subst (λ (n : ℕ). IsTail (words - n) documents tail) (is ∙ sym (sum_by-IsPermutation (λ (entry : List ℕ × ℕ). entry.1) first listed moved)) tailed

-- the first words of words that can be listed can be
pub can_take : (frame : Frame) (words : List (List ℕ × ℕ)) (count : ℕ) → CanBeListed frame words → CanBeListed frame (take count words)
can_take frame words count can = record {
  once = distinct-take count words can.once;
  counted = All-take (λ (entry : List ℕ × ℕ). IsBetween 1 frame.documents entry.1) count words can.counted;
  within = omega (arith, can.within, sum_by-take-le (λ (entry : List ℕ × ℕ). entry.1) words count);
}

-- those of a ranking can be
pub can_rank : (frame : Frame) (tally ranking : List (List ℕ × ℕ)) → IsOfSample frame tally → IsRanking frame.documents tally ranking → CanBeListed frame ranking
can_rank frame tally ranking sample ranked =
    let test : List ℕ × ℕ → Bool = may_be_listed frame.documents in
    record {
      once = distinct-ranked test tally ranking sample.once ranked.words;
      counted = All-permutation (λ (entry : List ℕ × ℕ). IsBetween 1 frame.documents entry.1) (filter test tally) ranking ranked.words
          (All-filter test (λ (entry : List ℕ × ℕ). IsBetween 1 frame.documents entry.1) tally sample.counted);
      within = omega (
        arith,
        sample.together,
        sum_by-IsPermutation (λ (entry : List ℕ × ℕ). entry.1) (filter test tally) ranking ranked.words,
        sum_by-filter_both test (λ entry. not (test entry)) (λ entry. refl) (λ (entry : List ℕ × ℕ). entry.1) tally,
      );
    }

-- no word is listed
pub none_made : (frame : Frame) (config : Config) → IsMade frame [] config → config.words ≡ []
none_made frame config made = nil_from_length config.words (length_permutation [] config.words made.words)

pub none_too_long : (frame : Frame) (ranking : List (List ℕ × ℕ)) → IsSound frame → CanBeListed frame ranking → IsTooLong frame ranking 0 → ⊥
none_too_long frame ranking sound can long =
    let range : IsInRange long.config = in_range_made frame [] long.config sound (can_take frame ranking 0 can) (omega arith) long.made in
    omega (arith, long.long, short_text long.config range (none_made frame long.config long.made))

-- the first words, seen as a ranking
pub can_first : (frame : Frame) (ps : List (Reverse ℕ × String Global)) (count : ℕ) → CanBeListed frame (map ranked ps) → CanBeListed frame (map ranked (take count ps))
can_first frame ps count can = subst (CanBeListed frame) (take-map ranked count ps) (can_take frame (map ranked ps) count can)
