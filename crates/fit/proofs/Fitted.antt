-- A configuration that was made of a sample is fitted to it.
use Rattle.std.proofs.Common.{◌≡◌, ◌∙◌, ◌+◌, ◌-◌, ◌*◌, ◌^◌, ◌<◌, ◌≤◌, ◌&&◌, ℕ, true, List, [], All, filter, get_or, length, take, ap, arith, inl, inr, subst, sym, unwrap_or}
use Rattle.std.proofs.Math.Nat.{pow-le-pow_right}
use Rattle.std.proofs.lemmas.Bool.{and_parts}
use Rattle.std.proofs.lemmas.Cmp.{nat_list_eq_equiv}
use Rattle.std.proofs.lemmas.List.Elements.{All-from_get_or, All-get_or, All-take, All-weaker, filter_passes}
use Rattle.std.proofs.lemmas.List.Sorted.{All-permutation}
use Rattle.std.proofs.lemmas.List.Sums.{count_by-le-length}
use Rattle.std.proofs.lemmas.Map.Entries.{lookup_from_place}
use Rattle.std.proofs.lemmas.Nat.{mul-le}
use Rattle.std.proofs.lemmas.Option.{slice_get-get_or}
use Rattle.std.specs.Prelude.{nat_lt}
use Rattle.std.specs.Str.{is_utf8}
use Rattle.funnel_model.specs.Configuration.{IsBetween}
use Rattle.funnel_model.specs.Sizes.{columns_of_pool, words_of_pool}
use Rattle.funnel_model.specs.Treatment.{class_of_count}
use Rattle.funnel_model.specs.Words.{has_word}
use Rattle.funnel_model.specs.declared.config.Config.{Config}
use Rattle.funnel_model.specs.declared.config.TheConstants.{MOST_COLUMNS, MOST_ROW_WORDS}
use Rattle.funnel_stats.specs.Faults.{is_word}
use Rattle.fit.proofs.Reading.{IsTested, all_words, reads_back}
use Rattle.fit.specs.Ends.{IsFitted}
use Rattle.fit.specs.Fits.{HasFirst, IsFit, IsFull}
use Rattle.fit.specs.Listings.{IsRanking, IsTail, may_be_listed}
use Rattle.fit.specs.Privates.{IsPrivateClass}
use Rattle.fit.specs.Made.{IsFrameOf, IsMade, IsOfSample, ListsSample}
use Rattle.fit.specs.Shapes.{IsBestRank, IsLeastRoom, columns_at}
use Rattle.fit.specs.Steps.{HasCounted}
use Rattle.fit.specs.Tallies.{count_in, count_of, total}
use Rattle.fit.specs.declared.listing.Frame.{Frame}
use Rattle.fit.specs.declared.listing.Written.{Written}

-- no word is counted more often than there are texts
few_counted : (texts : List (List ℕ)) (word : List ℕ) → count_of texts word ≤ length texts
unfolding count_of
few_counted texts word = count_by-le-length (λ text. has_word text word) texts

-- the counts of a tally are from 1 to the number of texts
pub counts_between : (texts : List (List ℕ)) (tally : List (List ℕ × ℕ)) (documents words : ℕ) → HasCounted texts tally documents words → All (λ entry. IsBetween 1 documents entry.1) tally
counts_between texts tally documents words counted =
    All-from_get_or (λ (entry : List ℕ × ℕ). IsBetween 1 documents entry.1) tally ([], 0) (λ i less.
    let entry = get_or tally i ([], 0) in
    let found : count_in tally entry.0 ≡ entry.1 = ap (λ o. unwrap_or o 0) (lookup_from_place nat_list_eq_equiv tally i entry.0 entry.1 counted.tallied.once (slice_get-get_or tally i ([], 0) less)) in (
      All-get_or (λ (e : List ℕ × ℕ). 1 ≤ e.1) tally i ([], 0) less counted.tallied.some,
      omega (arith, found, counted.tallied.counts entry.0, few_counted texts entry.0, counted.many),
    ))

pub of_sample : (n : ℕ) (texts : List (List ℕ)) (tally : List (List ℕ × ℕ)) (documents words : ℕ) (frame : Frame) → HasCounted texts tally documents words → IsFrameOf n documents words frame → IsOfSample frame tally
of_sample n texts tally documents words frame counted f = record {
  once = counted.tallied.once;
  counted = subst (λ (d : ℕ). All (λ (entry : List ℕ × ℕ). IsBetween 1 d entry.1) tally) (sym f.corpus) (counts_between texts tally documents words counted);
  together = f.together ∙ counted.sums.together;
}

-- what was made of a frame is a configuration that lists the first words
has_first : (n documents : ℕ) (tally ranking : List (List ℕ × ℕ)) (words count : ℕ) (frame : Frame) (config : Config) → IsFrameOf n documents words frame → words ≡ total tally
    → count ≤ length ranking → IsMade frame (take count ranking) config → HasFirst n documents tally ranking count config
has_first n documents tally ranking words count frame config f together within made = record {
  defaults = made.defaults;
  shape = record {
    rank = subst (IsBestRank n) (sym made.rank) f.best;
    slices = subst (λ (s : ℕ). IsLeastRoom n config.max_rank s) (sym made.slices) (subst (λ (r : ℕ). IsLeastRoom n r frame.slices) (sym made.rank) f.least);
    reserve = made.reserve ∙ ap columns_at (sym made.rank);
  };
  private = subst (λ (d : ℕ). IsPrivateClass d config.words config.private) f.corpus made.private;
  lists = record {
    within = within;
    words = made.words;
    order = made.order;
    corpus = made.documents ∙ f.corpus;
    tail = subst (λ (w : ℕ). IsTail (w - total config.words) documents config.tail) (f.together ∙ together)
        (subst (λ (d : ℕ). IsTail (frame.words - total config.words) d config.tail) f.corpus made.tail);
  };
}

-- a word that may be listed is one folded word
word_of_listed : (d : ℕ) (entry : List ℕ × ℕ) → may_be_listed d entry ≡ true → is_word entry.0 ≡ true
unfolding may_be_listed
word_of_listed d entry may = (and_parts (nat_lt (class_of_count entry.1 d) 15 && is_utf8 entry.0) (is_word entry.0) may).1

module _ (n : ℕ) (texts : List (List ℕ)) (tally : List (List ℕ × ℕ)) (documents words : ℕ) (frame : Frame) (written : Written)
    (counted : HasCounted texts tally documents words) (of : IsFrameOf n documents words frame) (l : ListsSample frame tally written) where
  frame_of : IsFrameOf n (length texts) words frame
  frame_of = subst (λ (d : ℕ). IsFrameOf n d words frame) counted.many of

  is_full : IsFull n (length texts) tally l.ranking l.lists.count
  is_full = elim l.lists.full [
    | inl many ↦ inl many
    | inr rest ↦ elim rest [
      | inl all ↦ inr (inl all)
      | inr long ↦ inr (inr (long.config, has_first n (length texts) tally l.ranking words (l.lists.count + 1) frame long.config frame_of counted.sums.together long.within long.made, long.long))
    ]
  ]

  pub is_fit : IsFit n texts written.config
  is_fit = record {
    tally = tally;
    tallied = counted.tallied;
    ranking = l.ranking;
    ranked = subst (λ (d : ℕ). IsRanking d tally l.ranking) (of.corpus ∙ counted.many) l.ranked;
    most = record {
      count = l.lists.count;
      first = has_first n (length texts) tally l.ranking words l.lists.count frame written.config frame_of counted.sums.together l.lists.within l.lists.is.made;
      few = l.lists.few;
      short = l.lists.short;
      full = is_full;
    };
  }

  tested : All IsTested written.config.words
  tested =
      let passed : All (λ (entry : List ℕ × ℕ). may_be_listed frame.documents entry ≡ true) l.ranking =
      All-permutation (λ (entry : List ℕ × ℕ). may_be_listed frame.documents entry ≡ true) (filter (may_be_listed frame.documents) tally) l.ranking l.ranked.words (filter_passes (may_be_listed frame.documents) tally) in
      All-permutation IsTested (take l.lists.count l.ranking) written.config.words l.lists.is.made.words
      (All-take IsTested l.lists.count l.ranking (All-weaker (λ (entry : List ℕ × ℕ). may_be_listed frame.documents entry ≡ true) IsTested (word_of_listed frame.documents) l.ranking passed))

  few_columns : columns_of_pool written.config ≤ MOST_COLUMNS
  few_columns =
      let two : 0 < 2 = omega arith in
      let made = l.lists.is.made in
      let low : written.config.max_rank ≤ 6 = omega (arith, made.rank, of.sound.low) in
      let power : 2 ^ written.config.max_rank ≤ 2 ^ 6 = pow-le-pow_right two low in
      let width : 64 * 2 ^ written.config.max_rank * written.config.blocks ≤ 4096 * 1 = mul-le (64 * 2 ^ written.config.max_rank) written.config.blocks 4096 1 (omega (arith, power)) (omega (arith, made.defaults.blocks)) in
      let all : written.config.slices * (64 * 2 ^ written.config.max_rank * written.config.blocks) ≤ 1024 * 4096 =
      mul-le written.config.slices (64 * 2 ^ written.config.max_rank * written.config.blocks) 1024 4096 (omega (arith, made.slices, of.sound.some_slices.1)) (omega (arith, width)) in
      omega (arith, all)

  pub is_fitted : words_of_pool written.config ≤ MOST_ROW_WORDS → IsFitted n texts written.config
  is_fitted small = record {
    fit = is_fit;
    valid = record {
      in_range = l.lists.is.in_range;
      in_order = l.lists.is.made.order;
      folded = all_words written.config.words tested;
      few_columns = few_columns;
      small_pool = small;
    };
    read_back = reads_back written.config l.lists.is.in_range tested l.lists.is.made.defaults few_columns small l.lists.short l.lists.is.utf8 l.lists.is.read_back;
  }
