-- The entries of a map beside those of the object that it is, and the faults that a walk over them finds.
use Rattle.std.proofs.Common.{◌≡◌, ℕ, suc, true, false, List, [], ◌∷◌, ◌++◌, map, length, Some, None, String, Global, string_bytes, string_cmp, nat_cmp, option_and_then, refl, ap, sym, append_assoc}
use Rattle.std.proofs.lemmas.List.{map-append}
use Rattle.std.specs.Cmp.Lexicographic.{slice_cmp}
use Rattle.std.specs.List.{AllByRecursion}
use Rattle.std.specs.List.Sorted.{IsStrictlySortedBy}
use Rattle.std.specs.Map.{keys_of}
use Rattle.std.specs.declared.cmp.Ordering.TheVariants.{Less}
use Rattle.funnel_model.specs.Listed.{listed_pair, IsInByteOrder}
use Rattle.serde_json.specs.Data.{Members}
use Rattle.serde_json.specs.Find.{as_object}
use Rattle.serde_json.specs.View.{view, members_view}
use Rattle.serde_json.proofs.Views.{Entry}
use Rattle.funnel_stats.specs.Configurations.{word_counts}
use Rattle.funnel_stats.specs.Faults.{unknown_key, is_word, not_word, is_count, word_count}
use Rattle.funnel_stats.specs.Keys.{is_name}
use Rattle.funnel_stats.specs.Values.{entries, whole_number, kept, value_at, listed_at}
use Rattle.funnel_stats.specs.declared.key.Key.{Key}
use Rattle.funnel_stats.specs.declared.key.Key.TheVariants.{Words}
use Rattle.funnel_stats.specs.declared.fault.ConfigFault.TheVariants.{UnknownKey, NotWord, WordCount}

-- an object has as many entries as the map
pub length-entries : (es : List Entry) → length (entries (members_view es)) ≡ length es
length-entries [] = refl
length-entries (e ∷ es) = ap suc (length-entries es)

-- a name at the front
pub unknown_key-none : (known : List Key) → unknown_key known (entries (members_view [])) ≡ None
unfolding unknown_key
unknown_key-none known = refl

pub unknown_key-known : (known : List Key) (e : Entry) (es : List Entry) → is_name known (string_bytes e.0) ≡ true
    → unknown_key known (entries (members_view (e ∷ es))) ≡ unknown_key known (entries (members_view es))
unfolding unknown_key
unknown_key-known known e es is = rw is

pub unknown_key-unknown : (known : List Key) (e : Entry) (es : List Entry) → is_name known (string_bytes e.0) ≡ false
    → unknown_key known (entries (members_view (e ∷ es))) ≡ Some (UnknownKey (string_bytes e.0))
unfolding unknown_key
unknown_key-unknown known e es is = rw is

-- a listed text at the front
pub not_word-none : not_word (entries (members_view [])) ≡ None
unfolding not_word
not_word-none = refl

pub not_word-word : (e : Entry) (es : List Entry) → is_word (string_bytes e.0) ≡ true
    → not_word (entries (members_view (e ∷ es))) ≡ not_word (entries (members_view es))
unfolding not_word
not_word-word e es word = rw word

pub not_word-other : (e : Entry) (es : List Entry) → is_word (string_bytes e.0) ≡ false
    → not_word (entries (members_view (e ∷ es))) ≡ Some (NotWord (string_bytes e.0))
unfolding not_word
not_word-other e es other = rw other

-- a count at the front
pub word_count-none : (documents : ℕ) → word_count documents (entries (members_view [])) ≡ None
unfolding word_count
word_count-none documents = refl

pub word_count-count : (documents : ℕ) (e : Entry) (es : List Entry) → is_count documents (view e.1) ≡ true
    → word_count documents (entries (members_view (e ∷ es))) ≡ word_count documents (entries (members_view es))
unfolding word_count
word_count-count documents e es count = rw count

pub word_count-other : (documents : ℕ) (e : Entry) (es : List Entry) → is_count documents (view e.1) ≡ false
    → word_count documents (entries (members_view (e ∷ es))) ≡ Some (WordCount (string_bytes e.0) (kept (whole_number (view e.1))))
unfolding word_count
word_count-other documents e es other = rw other

pub word_counts-count : (e : Entry) (es : List Entry) (n : ℕ) → whole_number (view e.1) ≡ Some n
    → word_counts (entries (members_view (e ∷ es))) ≡ (string_bytes e.0, n) ∷ word_counts (entries (members_view es))
word_counts-count e es n is = rw is

-- one more word with its count
pub listed-push : (done new : List (String Global × ℕ)) (word : String Global) (bytes : List ℕ) (n : ℕ) (rest : List (List ℕ × ℕ))
    → new ≡ done ++ (word, n) ∷ [] → string_bytes word ≡ bytes
    → map listed_pair done ++ ((bytes, n) ∷ rest) ≡ map listed_pair new ++ rest
listed-push done new word bytes n rest pushed same =
    sym (rw (pushed, map-append (listed_pair {Z = Global}) done ((word, n) ∷ []), append_assoc, same) refl)

-- the listed words stand in the order of the map
above_each : (word : String Global) (es : List Entry) → AllByRecursion (λ other. string_cmp word other ≡ Less) (keys_of es)
    → AllByRecursion (λ other. slice_cmp nat_cmp (string_bytes word) other ≡ Less) (map (λ entry. entry.0) (word_counts (entries (members_view es))))
above_each word [] above = above
above_each word (e ∷ es) above = (above.0, above_each word es above.1)

pub IsInByteOrder-word_counts : (es : List Entry) → IsStrictlySortedBy string_cmp (keys_of es) → IsInByteOrder (word_counts (entries (members_view es)))
unfolding IsStrictlySortedBy
IsInByteOrder-word_counts [] sorted = sorted
IsInByteOrder-word_counts (e ∷ es) sorted = (above_each e.0 es sorted.0, IsInByteOrder-word_counts es sorted.1)

-- the listed words of an object
pub listed_at-none : (object : Members) → option_and_then as_object (value_at object Words) ≡ None → listed_at object ≡ []
listed_at-none object none = rw none

pub listed_at-some : (object listed : Members) → option_and_then as_object (value_at object Words) ≡ Some listed → listed_at object ≡ entries listed
listed_at-some object listed some = rw some
