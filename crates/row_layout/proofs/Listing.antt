-- Which rows the listed words have, and any other word.
use Rattle.std.proofs.Common.{◌≡◌, ℕ, zero, suc, ◌+◌, ◌*◌, ◌^◌, ◌<◌, ◌≤◌, Bool, true, false, not, cond, leb, List, [], ◌∷◌, ◌++◌, map, filter, length, take, get_or, Some, None, refl, ap, sym, subst, ◌∙◌, arith}
use Rattle.std.specs.Prelude.{find, Option}
use Rattle.std.specs.Option.{option_map, option_map_or}
use Rattle.std.specs.List.{position_or_len}
use Rattle.std.specs.Ordering.{nat_cmp}
use Rattle.std.specs.declared.cmp.Ordering.TheVariants.{Less}
use Rattle.std.specs.Cmp.Lexicographic.{slice_cmp}
use Rattle.std.specs.Str.{bytes_eq}
use Rattle.std.proofs.lemmas.Bool.{true≢false}
use Rattle.std.proofs.lemmas.List.{map-append, take_more}
use Rattle.std.proofs.lemmas.Map.Keys.{sorted_head, sorted_tail}
use Rattle.funnel_model.specs.Listed.{IsInByteOrder, listed_count}
use Rattle.funnel_model.specs.Sizes.{class_of_word, has_private_row, is_private, private_words}
use Rattle.funnel_model.specs.Treatment.{class_of_count}
use Rattle.funnel_model.specs.declared.config.Config.{Config}
use Rattle.funnel_model.proofs.ListedLemmas.{listed_count-at, same_bytes, other_bytes, later}
use Rattle.funnel_model.proofs.Searches.{greatest-in_range}
use Rattle.treatment.proofs.Passes.{private_so_far}
use Rattle.row_layout.specs.Layouts.{word_rows}
use Rattle.row_layout.specs.Rows.{private_number}
use Rattle.row_layout.specs.declared.word_rows.WordRows.{WordRows}
use Rattle.row_layout.specs.declared.word_rows.WordRows.TheVariants.{Private, Shared}

private_choice : (b : Bool) (i n c : ℕ) → Private i ≡ cond b (Private n) (Shared c) → (b ≡ true) × (i ≡ n)
private_choice true i n c e = (refl, cc)
private_choice false i n c e = cc

shared_choice : (b : Bool) (k n c : ℕ) → Shared k ≡ cond b (Private n) (Shared c) → (b ≡ false) × (k ≡ c)
shared_choice true k n c e = cc
shared_choice false k n c e = (refl, cc)

-- a word with a private row has its number
pub word_rows-private : (config : Config) (word : List ℕ) (i : ℕ) → Private i ≡ word_rows config word → (has_private_row config word ≡ true) × (i ≡ private_number config word)
unfolding word_rows
word_rows-private config word i e = private_choice (has_private_row config word) i (private_number config word) (class_of_word config word) e

-- any other word has the shared rows of its class
pub word_rows-shared : (config : Config) (word : List ℕ) (c : ℕ) → Shared c ≡ word_rows config word → (has_private_row config word ≡ false) × (c ≡ class_of_word config word)
unfolding word_rows
word_rows-shared config word c e = shared_choice (has_private_row config word) c (private_number config word) (class_of_word config word) e

class_within : (count : Option ℕ) (n : ℕ) → option_map_or (λ f. class_of_count f n) count 15 ≤ 15
unfolding class_of_count
class_within None n = omega arith
class_within (Some f) n = greatest-in_range (λ c. leb (f * 2 ^ c) n) 15

-- no class is above 15
pub class_of_word-small : (config : Config) (word : List ℕ) → class_of_word config word ≤ 15
unfolding class_of_word
class_of_word-small config word = class_within (listed_count config.words word) config.documents

-- an unlisted word has the shared rows of the last class
pub word_rows-unlisted : (config : Config) (word : List ℕ) → listed_count config.words word ≡ None → Shared 15 ≡ word_rows config word
unfolding word_rows class_of_word has_private_row
word_rows-unlisted config word none =
    sym (ap (λ count. cond (option_map_or (λ f. leb (class_of_count f config.documents) config.private) count false) (Private (private_number config word))
    (Shared (option_map_or (λ f. class_of_count f config.documents) count 15))) none)

-- the place of a word in a list of words
abbrev place : List ℕ → List (List ℕ × ℕ) → ℕ
place word entries = position_or_len (λ entry. bytes_eq entry.0 word) entries

place_here : (word : List ℕ) (entry : List ℕ × ℕ) (rest : List (List ℕ × ℕ)) → bytes_eq entry.0 word ≡ true → place word (entry ∷ rest) ≡ 0
place_here word entry rest e = ap (λ b. cond (not b) (1 + place word rest) 0) e

place_later : (word : List ℕ) (entry : List ℕ × ℕ) (rest : List (List ℕ × ℕ)) → bytes_eq entry.0 word ≡ false → place word (entry ∷ rest) ≡ 1 + place word rest
place_later word entry rest e = ap (λ b. cond (not b) (1 + place word rest) 0) e

one_more : (b : Bool) (word : List ℕ) (entry : List ℕ × ℕ) (rest before : List (List ℕ × ℕ)) → bytes_eq entry.0 word ≡ false → place word rest ≡ length before → place word (cond b (entry ∷ rest) rest) ≡ length (cond b (entry ∷ before) before)
one_more true word entry rest before e h = let p = place_later word entry rest e in omega (arith, p, h)
one_more false word entry rest before e h = h

-- the place of a word among those that are kept is how many of those before it are kept
pub place-kept : (q : List ℕ × ℕ → Bool) (entries : List (List ℕ × ℕ)) (word : List ℕ) (i : ℕ) (d : List ℕ × ℕ) → IsInByteOrder entries → i < length entries → (get_or entries i d).0 ≡ word → q (get_or entries i d) ≡ true → place word (filter q entries) ≡ length (filter q (take i entries))
place-kept q [] word i d order less is kept = absurd (omega arith)
place-kept q (entry ∷ rest) word zero d order less is kept =
    ap (λ b. place word (cond b (entry ∷ filter q rest) (filter q rest))) kept ∙ place_here word entry (filter q rest) (same_bytes entry.0 word is)
place-kept q (entry ∷ rest) word (suc i) d order less is kept =
    let below : slice_cmp nat_cmp entry.0 word ≡ Less =
    subst (λ w. slice_cmp nat_cmp entry.0 w ≡ Less) is
    (later (λ w. slice_cmp nat_cmp entry.0 w ≡ Less) rest i d (sorted_head (slice_cmp nat_cmp) _ _ order) (omega arith)) in
    one_more (q entry) word entry (filter q rest) (filter q (take i rest)) (other_bytes entry.0 word Less below refl)
    (place-kept q rest word i d (sorted_tail (slice_cmp nat_cmp) _ _ order) (omega arith) is kept)

-- whether a list gives a word a private row, where these classes have one
abbrev private_in : List (List ℕ × ℕ) → ℕ → ℕ → List ℕ → Bool
private_in entries n most word = option_map_or (λ f. leb (class_of_count f n) most) (option_map (λ entry. entry.1) (find (λ entry. bytes_eq entry.0 word) entries)) false

less_here : (b : Bool) (word : List ℕ) (entry : List ℕ × ℕ) (rest : List (List ℕ × ℕ)) → bytes_eq entry.0 word ≡ true → b ≡ true → place word (cond b (entry ∷ rest) rest) < length (cond b (entry ∷ rest) rest)
less_here true word entry rest e kept = let p = place_here word entry rest e in omega (arith, p)
less_here false word entry rest e kept = cc

less_later : (b : Bool) (word : List ℕ) (entry : List ℕ × ℕ) (rest : List (List ℕ × ℕ)) → bytes_eq entry.0 word ≡ false → place word rest < length rest → place word (cond b (entry ∷ rest) rest) < length (cond b (entry ∷ rest) rest)
less_later true word entry rest e h = let p = place_later word entry rest e in omega (arith, p, h)
less_later false word entry rest e h = h

private_step : (b : Bool) (n most : ℕ) (entry : List ℕ × ℕ) (rest : List (List ℕ × ℕ)) (word : List ℕ) → bytes_eq entry.0 word ≡ b
    → option_map_or (λ f. leb (class_of_count f n) most) (option_map (λ entry. entry.1) (cond b (Some entry) (find (λ entry. bytes_eq entry.0 word) rest))) false ≡ true
    → (private_in rest n most word ≡ true → place word (filter (λ entry. leb (class_of_count entry.1 n) most) rest) < length (filter (λ entry. leb (class_of_count entry.1 n) most) rest))
    → place word (filter (λ entry. leb (class_of_count entry.1 n) most) (entry ∷ rest)) < length (filter (λ entry. leb (class_of_count entry.1 n) most) (entry ∷ rest))
private_step true n most entry rest word e has h = less_here (leb (class_of_count entry.1 n) most) word entry (filter (λ entry. leb (class_of_count entry.1 n) most) rest) e has
private_step false n most entry rest word e has h = less_later (leb (class_of_count entry.1 n) most) word entry (filter (λ entry. leb (class_of_count entry.1 n) most) rest) e (h has)

-- a word with a private row is among those that have one
place-private : (n most : ℕ) (entries : List (List ℕ × ℕ)) (word : List ℕ) → private_in entries n most word ≡ true
    → place word (filter (λ entry. leb (class_of_count entry.1 n) most) entries) < length (filter (λ entry. leb (class_of_count entry.1 n) most) entries)
place-private n most [] word has = absurd (true≢false (sym has))
place-private n most (entry ∷ rest) word has = private_step (bytes_eq entry.0 word) n most entry rest word refl has (place-private n most rest word)

-- the number of a private row is below their number
pub private_number-below : (config : Config) (word : List ℕ) → has_private_row config word ≡ true → private_number config word < length (private_words config)
unfolding private_number private_words has_private_row listed_count
private_number-below config word has = place-private config.documents config.private config.words word has

-- the rows of the word at a place of the list
module _ (config : Config) (i : ℕ) (entry : List ℕ × ℕ) (order : IsInByteOrder config.words) (within : i < length config.words) (at : get_or config.words i entry ≡ entry) where
  count_at : listed_count config.words entry.0 ≡ Some entry.1
  count_at = listed_count-at config.words entry.0 i entry order within (ap (λ e. e.0) at) ∙ ap (λ e. Some e.1) at

  has_at : has_private_row config entry.0 ≡ is_private config entry
  unfolding has_private_row
  has_at = ap (λ count. option_map_or (λ f. leb (class_of_count f config.documents) config.private) count false) count_at

  pub private_at : is_private config entry ≡ true → word_rows config entry.0 ≡ Private (private_so_far config i)
  unfolding word_rows private_number private_words
  private_at kept =
      let number : private_number config entry.0 ≡ private_so_far config i =
      place-kept (is_private config) config.words entry.0 i entry order within (ap (λ e. e.0) at) (ap (is_private config) at ∙ kept) in
      ap (λ b. cond b (Private (private_number config entry.0)) (Shared (class_of_word config entry.0))) (has_at ∙ kept)
      ∙ ap Private number

  pub shared_at : is_private config entry ≡ false → word_rows config entry.0 ≡ Shared (class_of_count entry.1 config.documents)
  unfolding word_rows class_of_word
  shared_at kept =
      ap (λ b. cond b (Private (private_number config entry.0)) (Shared (class_of_word config entry.0))) (has_at ∙ kept)
      ∙ ap (λ count. Shared (option_map_or (λ f. class_of_count f config.documents) count 15)) count_at

  -- one more listed word has its rows
  pub listed_more : (rows rows' : List WordRows) (r : WordRows) → rows ≡ map (λ (e : List ℕ × ℕ). word_rows config e.0) (take i config.words) → rows' ≡ rows ++ r ∷ [] → word_rows config entry.0 ≡ r → rows' ≡ map (λ (e : List ℕ × ℕ). word_rows config e.0) (take (i + 1) config.words)
  listed_more rows rows' r before push is =
      let f : List ℕ × ℕ → WordRows = λ e. word_rows config e.0 in
      push
      ∙ ap (λ xs. xs ++ r ∷ []) before
      ∙ ap (λ x. map f (take i config.words) ++ x ∷ []) (sym is ∙ ap f (sym at))
      ∙ sym (map-append f (take i config.words) (get_or config.words i entry ∷ []))
      ∙ ap (map f) (sym (take_more config.words i entry within))
