-- A configuration in which no fault was found is valid.
use Rattle.std.proofs.Common.{◌≡◌, ◌∙◌, ◌&&◌, ◌≤◌, ℕ, Bool, true, false, not, cond, leb, leb-true, List, [], ◌∷◌, length, find, Option, Some, None, option_map, option_and_then, unwrap_or, ltb, ltb-false, refl, sym, ap, subst, arith}
use Rattle.std.proofs.lemmas.List.{length-map}
use Rattle.std.proofs.lemmas.Bool.{true≢false, and_parts}
use Rattle.std.proofs.lemmas.List.Elements.{All-nil, All-cons}
use Rattle.std.proofs.lemmas.List.Sums.{AllPass-from_list_all}
use Rattle.std.proofs.lemmas.Slice.Eq.{bytes_eq-Decides}
use Rattle.std.specs.List.{All, list_all}
use Rattle.std.specs.Option.{option_map_or, option_or}
use Rattle.std.specs.Str.{bytes_eq}
use Rattle.funnel_model.specs.declared.config.TheConstants.{MOST_WORDS, MOST_COLUMNS, MOST_ROW_WORDS}
use Rattle.funnel_model.specs.Configuration.{IsBetween, IsWord, CountsWords, IsInRange, IsTuning, IsValid, with_statistics}
use Rattle.funnel_model.specs.Listed.{IsInByteOrder}
use Rattle.funnel_model.specs.Sizes.{columns_of_pool, words_of_pool}
use Rattle.funnel_model.specs.Words.{has_word, words}
use Rattle.funnel_model.specs.declared.config.Config.{Config}
use Rattle.funnel_model.proofs.WordLemmas.{Contains-has}
use Rattle.serde_json.specs.Data.{Data, Members}
use Rattle.serde_json.specs.Find.{as_object}
use Rattle.funnel_stats.specs.Configurations.{word_counts}
use Rattle.funnel_stats.specs.Faults.{is_word, not_word, is_count, word_count, too_many_columns, pool_too_large}
use Rattle.funnel_stats.specs.Values.{entries, kept, quantity, whole_number, value_at, number_at, listed_at}
use Rattle.funnel_stats.specs.declared.key.Key.TheVariants.{Words}
use Rattle.funnel_stats.specs.declared.fault.ConfigFault.{ConfigFault}
use Rattle.funnel_stats.specs.declared.fault.ConfigFault.TheVariants.{NotWord, WordCount}
use Rattle.funnel_stats.proofs.FaultOrder.{word_fault, size_fault}

-- the number of `words` is how many are listed
pub number_at-words : (object : Members) → number_at object Words ≡ length (listed_at object)
number_at-words object = go (value_at object Words) where
  inner : (words : Option Members) → unwrap_or (option_map (λ words. length (entries words)) words) 0 ≡ length (option_map_or entries words [])
  inner None = refl
  inner (Some words) = refl

  go : (value : Option Data) → option_map_or (λ value. unwrap_or (quantity Words value) 0) value 0 ≡ length (option_map_or entries (option_and_then as_object value) [])
  go None = refl
  go (Some value) = inner (as_object value)

-- a test that fails for no element holds of each
none_found : (test here : Bool) (rest : Option (List ℕ × Data)) (x : List ℕ × Data) → cond (not test) (Some x) rest ≡ None → (test ≡ true) × (rest ≡ None)
none_found true here rest x none = (refl, none)
none_found false here rest x none = absurd (let e : Some x ≡ None = none in cc)

-- each listed text is a word
word_from_test : (text : List ℕ) → is_word text ≡ true → IsWord text
unfolding is_word
word_from_test text is =
    let parts = and_parts (has_word text text) (list_all (bytes_eq text) (words text)) is in record {
      one = (Contains-has text (words text)).1 parts.0;
      only = λ k d below. sym ((bytes_eq-Decides text _).0 (AllPass-from_list_all (bytes_eq text) (words text) parts.1 k d below));
    }

words_from_none : (listed : List (List ℕ × Data)) → find (λ entry. not (is_word entry.0)) listed ≡ None → All (λ entry. IsWord entry.0) (word_counts listed)
words_from_none [] none = All-nil _
words_from_none (entry ∷ listed) none =
    let parts = none_found (is_word entry.0) true (find (λ entry. not (is_word entry.0)) listed) entry none in
    All-cons (λ entry. IsWord entry.0) _ (word_counts listed) (word_from_test entry.0 parts.0) (words_from_none listed parts.1)

pub words-from_not_word : (listed : List (List ℕ × Data)) → not_word listed ≡ None → All (λ entry. IsWord entry.0) (word_counts listed)
unfolding not_word
words-from_not_word listed none = words_from_none listed (no_entry (find (λ entry. not (is_word entry.0)) listed) none) where
  no_entry : (found : Option (List ℕ × Data)) → option_map (λ entry. NotWord entry.0) found ≡ None → found ≡ None
  no_entry None none = refl
  no_entry (Some entry) none = absurd (let e : Some (NotWord entry.0) ≡ None = none in cc)

-- each count is from 1 to the number of documents
count_from_test : (documents : ℕ) (count : Option ℕ) → option_map_or (λ count. leb 1 count && leb count documents) count false ≡ true → IsBetween 1 documents (unwrap_or count 0)
count_from_test documents None is = absurd (true≢false (sym is))
count_from_test documents (Some count) is =
    let parts = and_parts (leb 1 count) (leb count documents) is in (leb-true 1 count parts.0, leb-true count documents parts.1)

counts_from_none : (documents : ℕ) (listed : List (List ℕ × Data)) → find (λ entry. not (is_count documents entry.1)) listed ≡ None
    → All (λ entry. IsBetween 1 documents entry.1) (word_counts listed)
counts_from_none documents [] none = All-nil _
counts_from_none documents (entry ∷ listed) none =
    let parts = none_found (is_count documents entry.1) true (find (λ entry. not (is_count documents entry.1)) listed) entry none in
    All-cons (λ entry. IsBetween 1 documents entry.1) _ (word_counts listed) (count_from_test documents (whole_number entry.1) parts.0) (counts_from_none documents listed parts.1)

pub counts-from_word_count : (documents : ℕ) (listed : List (List ℕ × Data)) → word_count documents listed ≡ None
    → All (λ entry. IsBetween 1 documents entry.1) (word_counts listed)
unfolding word_count
counts-from_word_count documents listed none = counts_from_none documents listed (no_entry (find (λ entry. not (is_count documents entry.1)) listed) none) where
  no_entry : (found : Option (List ℕ × Data)) → option_map (λ entry. WordCount entry.0 (kept (whole_number entry.1))) found ≡ None → found ≡ None
  no_entry None none = refl
  no_entry (Some entry) none = absurd (let e : Some (WordCount entry.0 (kept (whole_number entry.1))) ≡ None = none in cc)

-- a configuration in range, with other words
pub IsInRange-words : (config : Config) (words : List (List ℕ × ℕ)) → IsInRange config → CountsWords (record config { words = words })
    → IsInRange (record config { words = words })
IsInRange-words config words range counts = record {
  passes = range.passes;
  slices = range.slices;
  blocks = range.blocks;
  max_rank = range.max_rank;
  commits = range.commits;
  reserve = range.reserve;
  one_in = range.one_in;
  snr = range.snr;
  documents = range.documents;
  tail = range.tail;
  max_rows = range.max_rows;
  private = range.private;
  words = counts;
}

-- the two faults of the listed words are none
no_faults : (first second : Option ConfigFault) → option_or first (option_or second None) ≡ None → (first ≡ None) × (second ≡ None)
no_faults None None none = (refl, refl)
no_faults None (Some fault) none = (refl, none)
no_faults (Some fault) second none = absurd (let e : Some fault ≡ None = none in cc)

-- the listed words of an object, put into a configuration in range, leave it in range
pub in_range : (object : Members) (config : Config) (words : List (List ℕ × ℕ)) → IsInRange config → length (listed_at object) ≤ MOST_WORDS
    → word_fault object config.documents ≡ None → words ≡ word_counts (listed_at object) → IsInRange (record config { words = words })
in_range object config words range few none listed =
    let faults = no_faults (not_word (listed_at object)) (word_count config.documents (listed_at object)) none in
    let length_is = ap length listed ∙ length-map (listed_at object) (λ entry. (entry.0, unwrap_or (whole_number entry.1) 0)) in
    IsInRange-words config words range (record {
      few = omega (arith, length_is);
      counted = subst (λ words. All (λ (entry : List ℕ × ℕ). IsBetween 1 config.documents entry.1) words) (sym listed) (counts-from_word_count config.documents (listed_at object) faults.1);
    })

-- a size that is no fault is within its limit
within_limit : (limit size : ℕ) (over : Bool) (fault : ConfigFault) → ltb limit size ≡ over → cond over (Some fault) None ≡ None → size ≤ limit
within_limit limit size true fault is none = absurd (let e : Some fault ≡ None = none in cc)
within_limit limit size false fault is none = ltb-false limit size is

-- each listed word of such a configuration is one folded word
pub folded : (object : Members) (documents : ℕ) (words : List (List ℕ × ℕ)) → word_fault object documents ≡ None → words ≡ word_counts (listed_at object)
    → All (λ entry. IsWord entry.0) words
folded object documents words none listed =
    let faults = no_faults (not_word (listed_at object)) (word_count documents (listed_at object)) none in
    subst (λ words. All (λ (entry : List ℕ × ℕ). IsWord entry.0) words) (sym listed) (words-from_not_word (listed_at object) faults.0)

-- and where the sizes are within their limits it is valid
pub is_valid : (config : Config) → IsInRange config → IsInByteOrder config.words → All (λ entry. IsWord entry.0) config.words → size_fault config ≡ None → IsValid config
is_valid config range ordered words sized =
    let sizes = no_faults (too_many_columns config) (pool_too_large config) sized in record {
      in_range = range;
      in_order = ordered;
      folded = words;
      few_columns = within_limit MOST_COLUMNS (columns_of_pool config) _ _ refl sizes.0;
      small_pool = within_limit MOST_ROW_WORDS (words_of_pool config) _ _ refl sizes.1;
    }

-- Put into another configuration, the statistics of one tune it.
pub with_statistics-tunes : (opening statistics : Config) → IsInRange opening → IsInRange statistics → IsInByteOrder statistics.words
    → All (λ entry. IsWord entry.0) statistics.words → IsTuning opening (with_statistics opening statistics)
with_statistics-tunes opening statistics opened range ordered words = record {
  kept = refl;
  in_range = record {
    passes = opened.passes;
    slices = opened.slices;
    blocks = opened.blocks;
    max_rank = opened.max_rank;
    commits = opened.commits;
    reserve = opened.reserve;
    one_in = range.one_in;
    snr = range.snr;
    documents = range.documents;
    tail = range.tail;
    max_rows = range.max_rows;
    private = range.private;
    words = record { few = range.words.few; counted = range.words.counted };
  };
  in_order = ordered;
  folded = words;
}
