-- The text of a configuration is read as this configuration.
use Rattle.std.proofs.Common.{◌≡◌, ◌∙◌, ◌≤◌, ◌&&◌, ◌==◌, ℕ, suc, nat_le, Bool, true, false, List, [], ◌∷◌, All, None, Ok, Some, IsUtf8, ap, arith, eqb-true, le-leb, le-ltb, length, refl, subst, sym}
use Rattle.std.proofs.lemmas.Bool.{false_from_ne_true}
use Rattle.std.proofs.lemmas.List.Elements.{All-head, All-tail}
use Rattle.std.specs.Option.{option_map_or}
use Rattle.std.specs.Prelude.{Option, option_and_then}
use Rattle.funnel_model.specs.Configuration.{IsBetween, IsInRange, IsWord}
use Rattle.funnel_model.specs.Sizes.{columns_of_pool, words_of_pool}
use Rattle.funnel_model.specs.declared.config.Config.{Config}
use Rattle.funnel_model.specs.declared.config.TheConstants.{MOST_COLUMNS, MOST_ROW_WORDS}
use Rattle.serde_json.specs.Data.{Data, Members, object}
use Rattle.serde_json.specs.Find.{as_object}
use Rattle.serde_json.specs.Read.{read}
use Rattle.funnel_stats.proofs.ConfigurationLemmas.{configuration-object}
use Rattle.funnel_stats.proofs.ObjectLemmas.{object_of-value}
use Rattle.funnel_stats.proofs.Validity.{words-from_not_word}
use Rattle.funnel_stats.specs.Configurations.{config_of, configuration, fault_of, longest, value_fault, word_counts}
use Rattle.funnel_stats.specs.Faults.{bad_value, is_word, not_word, unknown_key, word_count}
use Rattle.funnel_stats.specs.Keys.{keys, range_of}
use Rattle.funnel_stats.specs.Values.{entries, is_in_limits, listed_at, number_at, quantity, value_at}
use Rattle.funnel_stats.specs.declared.key.Key.{Key}
use Rattle.funnel_stats.specs.declared.key.Key.TheVariants.{Passes, Slices, Blocks, MaxRank, Commits, Reserve, OneIn, Snr, Documents, Tail, MaxRows, Private, Words}
use Rattle.fit.proofs.Writing.{is_left_out, members_by}
use Rattle.fit.specs.Fits.{HasDefaults}
use Rattle.fit.specs.Texts.{members_of, members_of_words, text_of, whole}

-- ---- the listed words

counts_words : (es : List (List ℕ × ℕ)) → word_counts (entries (members_of_words es)) ≡ es
counts_words [] = refl
counts_words (e ∷ es) = ap (λ (rest : List (List ℕ × ℕ)). e ∷ rest) (counts_words es)

length-words : (es : List (List ℕ × ℕ)) → length (entries (members_of_words es)) ≡ length es
length-words [] = refl
length-words (e ∷ es) = ap suc (length-words es)

abbrev pub IsTested : List ℕ × ℕ → Type 0
IsTested entry = is_word entry.0 ≡ true

none_not_word : (es : List (List ℕ × ℕ)) → All IsTested es → not_word (entries (members_of_words es)) ≡ None
unfolding not_word
none_not_word [] all = refl
none_not_word (e ∷ es) all = rw (All-head IsTested e es all) (none_not_word es (All-tail IsTested e es all))

none_word_count : (n : ℕ) (es : List (List ℕ × ℕ)) → All (λ entry. IsBetween 1 n entry.1) es → word_count n (entries (members_of_words es)) ≡ None
unfolding word_count
none_word_count n [] all = refl
none_word_count n (e ∷ es) all =
    let between : IsBetween 1 n e.1 = All-head (λ (entry : List ℕ × ℕ). IsBetween 1 n entry.1) e es all in
    rw (le-leb 1 e.1 between.0, le-leb e.1 n between.1) (none_word_count n es (All-tail (λ (entry : List ℕ × ℕ). IsBetween 1 n entry.1) e es all))

-- each listed word is one folded word
pub all_words : (es : List (List ℕ × ℕ)) → All IsTested es → All (λ entry. IsWord entry.0) es
all_words es all =
    subst (λ (ws : List (List ℕ × ℕ)). All (λ entry. IsWord entry.0) ws) (counts_words es) (words-from_not_word (entries (members_of_words es)) (none_not_word es all))

-- ---- the faults

good_value : (all : Members) (key : Key) (value : Data) → value_at all key ≡ Some value → option_map_or (is_in_limits key) (quantity key value) false ≡ true → bad_value all key ≡ None
unfolding bad_value
good_value all key value at good = rw (at, good) refl

left_out : (all : Members) (key : Key) → value_at all key ≡ None → bad_value all key ≡ None
unfolding bad_value
left_out all key none = rw none refl

both : (low n high : ℕ) → low ≤ n → n ≤ high → (nat_le low n && nat_le n high) ≡ true
both low n high from to = rw (le-leb low n from, le-leb n high to) refl

some_bytes : (config : Config) → (length (text_of config) == 0) ≡ false
unfolding text_of
some_bytes config =
    false_from_ne_true (length (text_of config) == 0) (λ empty. let none : length (text_of config) ≡ 0 = eqb-true (length (text_of config)) 0 empty in omega (arith, none))

module _ (config : Config) (range : IsInRange config) (tested : All IsTested config.words) where
  -- the value of a key, whether or not `private` is left out
  value_is : (key : Key) (value : Option Data) → value_at (members_by true config) key ≡ value → value_at (members_by false config) key ≡ value
      → value_at (members_of config) key ≡ value
  unfolding members_of
  value_is key value gone there = by (is_left_out config)
    where
      by : (left : Bool) → value_at (members_by left config) key ≡ value
      by true = gone
      by false = there

  has_good : (key : Key) (value : Data) → value_at (members_by true config) key ≡ Some value → value_at (members_by false config) key ≡ Some value
      → option_map_or (is_in_limits key) (quantity key value) false ≡ true → bad_value (members_of config) key ≡ None
  has_good key value gone there good = good_value (members_of config) key value (value_is key (Some value) gone there) good

  lacks : (key : Key) → value_at (members_by true config) key ≡ None → value_at (members_by false config) key ≡ None → bad_value (members_of config) key ≡ None
  lacks key gone there = left_out (members_of config) key (value_is key None gone there)

  no_bad_private : (left : Bool) → bad_value (members_by left config) Private ≡ None
  no_bad_private true = left_out (members_by true config) Private refl
  no_bad_private false = good_value (members_by false config) Private (whole config.private) refl (both 0 config.private 15 (omega arith) range.private)

  no_bad_value : (key : Key) → bad_value (members_of config) key ≡ None
  unfolding members_of
  no_bad_value Passes = has_good Passes (whole config.passes) refl refl (both 1 config.passes 64 range.passes.0 range.passes.1)
  no_bad_value Slices = has_good Slices (whole config.slices) refl refl (both 1 config.slices 1024 range.slices.0 range.slices.1)
  no_bad_value Blocks = lacks Blocks refl refl
  no_bad_value MaxRank = has_good MaxRank (whole config.max_rank) refl refl (both 0 config.max_rank 6 (omega arith) range.max_rank)
  no_bad_value Commits = lacks Commits refl refl
  no_bad_value Reserve = has_good Reserve (whole config.reserve) refl refl (both 0 config.reserve 4194304 (omega arith) range.reserve)
  no_bad_value OneIn = lacks OneIn refl refl
  no_bad_value Snr = lacks Snr refl refl
  no_bad_value Documents = has_good Documents (whole config.documents) refl refl (both 1 config.documents 4294967296 range.documents.0 range.documents.1)
  no_bad_value Tail = has_good Tail (whole config.tail) refl refl (both 0 config.tail 100000 (omega arith) range.tail)
  no_bad_value MaxRows = lacks MaxRows refl refl
  no_bad_value Private = no_bad_private (is_left_out config)
  no_bad_value Words = has_good Words (object (members_of_words config.words)) refl refl
      (both 0 (length (entries (members_of_words config.words))) 65536 (omega arith) (omega (arith, length-words config.words, range.words.few)))

  no_unknown_key_by : (left : Bool) → unknown_key keys (entries (members_by left config)) ≡ None
  unfolding unknown_key
  no_unknown_key_by true = refl
  no_unknown_key_by false = refl

  no_unknown_key : unknown_key keys (entries (members_of config)) ≡ None
  unfolding members_of
  no_unknown_key = no_unknown_key_by (is_left_out config)

  listed_is : listed_at (members_of config) ≡ entries (members_of_words config.words)
  listed_is = ap (λ (value : Option Data). option_map_or entries (option_and_then as_object value) []) (value_is Words (Some (object (members_of_words config.words))) refl refl)

  corpus_is : number_at (members_of config) Documents ≡ config.documents
  unfolding members_of
  corpus_is = refl

  no_value_fault : value_fault (members_of config) ≡ None
  unfolding value_fault
  no_value_fault =
      rw (
        no_bad_value Passes,
        no_bad_value Slices,
        no_bad_value Blocks,
        no_bad_value MaxRank,
        no_bad_value Commits,
        no_bad_value Reserve,
        no_bad_value OneIn,
        no_bad_value Snr,
        no_bad_value Documents,
        no_bad_value Tail,
        no_bad_value MaxRows,
        no_bad_value Private,
        no_bad_value Words,
        listed_is,
        corpus_is,
        none_not_word config.words tested,
        none_word_count config.documents config.words range.words.counted,
      ) refl

  config_by : (left : Bool) → (left ≡ true → config.private ≡ (range_of Private).default) → HasDefaults config → config_of (members_by left config) ≡ config
  unfolding config_of
  config_by true is d = λ i. record config {
    blocks = sym d.blocks i;
    commits = sym d.commits i;
    one_in = sym d.one_in i;
    snr = sym d.snr i;
    max_rows = sym d.max_rows i;
    private = sym (is refl) i;
    words = counts_words config.words i;
  }
  config_by false is d = λ i. record config {
    blocks = sym d.blocks i;
    commits = sym d.commits i;
    one_in = sym d.one_in i;
    snr = sym d.snr i;
    max_rows = sym d.max_rows i;
    words = counts_words config.words i;
  }

  config_is : HasDefaults config → config_of (members_of config) ≡ config
  unfolding members_of
  config_is d = config_by (is_left_out config) (eqb-true config.private (range_of Private).default) d

  no_fault : HasDefaults config → columns_of_pool config ≤ MOST_COLUMNS → words_of_pool config ≤ MOST_ROW_WORDS → fault_of (members_of config) ≡ None
  unfolding fault_of
  no_fault d columns words =
      rw (no_unknown_key, no_value_fault, config_is d, le-ltb MOST_COLUMNS (columns_of_pool config) columns, le-ltb MOST_ROW_WORDS (words_of_pool config) words) refl

  pub reads_back : HasDefaults config → columns_of_pool config ≤ MOST_COLUMNS → words_of_pool config ≤ MOST_ROW_WORDS → length (text_of config) ≤ longest → IsUtf8 (text_of config)
      → read (text_of config) ≡ Some (object (members_of config)) → configuration (text_of config) ≡ Ok config
  reads_back d columns words short utf8 is =
      configuration-object (text_of config) (members_of config) short (object_of-value (text_of config) (object (members_of config)) (some_bytes config) utf8 is)
      ∙ rw (no_fault d columns words, config_is d) refl
