-- The text of a configuration, and what it is read as.
use Rattle.std.proofs.Common.{◌≡◌, ◌∙◌, ◌+◌, ◌<◌, ◌≤◌, ◌^◌, ◌&&◌, ◌==◌, ℕ, zero, suc, Bool, true, false, cond, List, [], ◌∷◌, ◌++◌, All, map, length, get_or, take, refl, sym, ap, ap₂, subst, arith, append_assoc, append-nil, length-append, add-one, Some}
use Rattle.std.proofs.lemmas.Cmp.{nat_list_cmp_total}
use Rattle.std.proofs.lemmas.Map.Keys.{sorted_head, sorted_tail}
use Rattle.std.specs.Cmp.Lexicographic.{slice_cmp}
use Rattle.std.specs.Ordering.{nat_cmp, ordering_reverse}
use Rattle.std.specs.declared.cmp.Ordering.TheVariants.{Greater, Less}
use Rattle.json.specs.Token.{Token, begin_object, end_object, begin_array, end_array, key, string, number, boolean, null, bad}
use Rattle.json.specs.Word.{ends_word, word}
use Rattle.json.specs.Lex.{Lexeme, token, comma, colon, string_token, lex, between, fresh, punctuate, tokens}
use Rattle.json.specs.Print.{escape, escape_byte, quoted, token_text, begins, ends, separator, print_from, print, IsPrintable, ArePrintable}
use Rattle.json.proofs.Printed.Strings.{content-escape, lex-escape}
use Rattle.json.proofs.Printed.Numbers.{lex-number, in_word-ended}
use Rattle.serde_json.specs.Data as tree
use Rattle.json.specs.Json as json
use Rattle.json.specs.Tree.{HasNumbers, MembersHaveNumbers}
use Rattle.json.proofs.Printed.Decimals.{IsNumber-decimal}
use Rattle.json.proofs.Printed.Trees.{ArePrintable-json_tokens}
use Rattle.serde_json.proofs.Texts.{tokens_from_order}
use Rattle.serde_json.specs.Read.{max_depth, of_json, read}
use Rattle.serde_json.specs.Written.{IsInOrder, members_text, compact_text, has_float, members_have_float, members_outline, outline}
use Rattle.funnel_model.specs.Configuration.{IsBetween, IsInRange}
use Rattle.std.proofs.lemmas.List.Elements.{All-head, All-tail, All-weaker}
use Rattle.std.specs.Prelude.{Option, decimal, option_and_then}
use Rattle.std.proofs.lemmas.Fmt.{length-decimal-le}
use Rattle.funnel_stats.specs.Keys.{name_of, range_of}
use Rattle.funnel_stats.specs.declared.key.Key.TheVariants.{Documents, MaxRank, Passes, Private, Reserve, Slices, Tail, Words}
use Rattle.funnel_model.proofs.ListedLemmas.{later}
use Rattle.funnel_model.specs.Listed.{IsInByteOrder}
use Rattle.funnel_model.specs.declared.config.Config.{Config}
use Rattle.fit.specs.Texts.{members_of, members_of_words, text_of, whole}

-- ---- the members

-- those behind the key `private`
abbrev members_behind : Config → tree.Members
members_behind config =
    tree.member (name_of Reserve) (whole config.reserve)
    (tree.member (name_of Slices) (whole config.slices)
    (tree.member (name_of Tail) (whole config.tail)
    (tree.member (name_of Words) (tree.object (members_of_words config.words)) tree.no_members)))

-- all, of which the key `private` is left out or not
abbrev pub members_by : Bool → Config → tree.Members
members_by left config =
    tree.member (name_of Documents) (whole config.documents)
    (tree.member (name_of MaxRank) (whole config.max_rank)
    (tree.member (name_of Passes) (whole config.passes)
    (cond left (members_behind config) (tree.member (name_of Private) (whole config.private) (members_behind config)))))

-- whether it is
abbrev pub is_left_out : Config → Bool
is_left_out config = config.private == (range_of Private).default

put_first : (word : List ℕ) (value : tree.Data) (e : List ℕ × ℕ) (others : tree.Members) → slice_cmp nat_cmp e.0 word ≡ Less
    → tree.put word value (tree.member e.0 (whole e.1) others) ≡ tree.member e.0 (whole e.1) (tree.put word value others)
put_first word value e others below =
    let above : slice_cmp nat_cmp word e.0 ≡ Greater = nat_list_cmp_total.antisymm word e.0 ∙ ap ordering_reverse below in
    rw above refl

put_next_word : (es : List (List ℕ × ℕ)) (i : ℕ) (d : List ℕ × ℕ) → IsInByteOrder es → i < length es
    → tree.put (get_or es i d).0 (whole (get_or es i d).1) (members_of_words (take i es)) ≡ members_of_words (take (suc i) es)
put_next_word [] i d order less = absurd (omega arith)
put_next_word (e ∷ es) zero d order less = refl
put_next_word (e ∷ es) (suc i) d order less =
    let few : i < length es = omega arith in
    let below : slice_cmp nat_cmp e.0 (get_or es i d).0 ≡ Less =
    later (λ w. slice_cmp nat_cmp e.0 w ≡ Less) es i d (sorted_head (slice_cmp nat_cmp) e.0 (map (λ entry. entry.0) es) order) few in
    put_first (get_or es i d).0 (whole (get_or es i d).1) e (members_of_words (take i es)) below
    ∙ ap (tree.member e.0 (whole e.1)) (put_next_word es i d (sorted_tail (slice_cmp nat_cmp) e.0 (map (λ entry. entry.0) es) order) few)

-- the next word in byte order is the last member
pub put_next : (es : List (List ℕ × ℕ)) (i : ℕ) (d : List ℕ × ℕ) → IsInByteOrder es → i < length es
    → tree.put (get_or es i d).0 (whole (get_or es i d).1) (members_of_words (take i es)) ≡ members_of_words (take (i + 1) es)
put_next es i d order less = put_next_word es i d order less ∙ ap (λ (n : ℕ). members_of_words (take n es)) (sym (add-one i))

-- there is no float
words_have_none : (es : List (List ℕ × ℕ)) → members_have_float (members_of_words es) ≡ false
words_have_none [] = refl
words_have_none (e ∷ es) = words_have_none es

has_none_by : (left : Bool) (config : Config) → has_float (tree.object (members_by left config)) ≡ false
has_none_by true config = rw (words_have_none config.words) refl
has_none_by false config = rw (words_have_none config.words) refl

pub has_none : (config : Config) → has_float (tree.object (members_of config)) ≡ false
unfolding members_of
has_none config = has_none_by (is_left_out config) config

-- ---- a newline behind the text

abbrev newline : List ℕ
newline = 10 ∷ []

abbrev token_lexemes : Token → List Lexeme
token_lexemes begin_object = token begin_object ∷ []
token_lexemes end_object = token end_object ∷ []
token_lexemes begin_array = token begin_array ∷ []
token_lexemes end_array = token end_array ∷ []
token_lexemes (key s) = token (string s) ∷ colon ∷ []
token_lexemes (string s) = token (string s) ∷ []
token_lexemes (number s) = token (number s) ∷ []
token_lexemes (boolean b) = token (boolean b) ∷ []
token_lexemes null = token null ∷ []
token_lexemes bad = []

-- after a value stands a comma, a closing bracket, the newline or nothing
after_value_ends : (ts : List Token) (end : List ℕ) → ends_word end ≡ true → ends_word (print_from true ts ++ end) ≡ true
unfolding print_from
after_value_ends [] end ended = ended
after_value_ends (begin_object ∷ ts) end ended = refl
after_value_ends (end_object ∷ ts) end ended = refl
after_value_ends (begin_array ∷ ts) end ended = refl
after_value_ends (end_array ∷ ts) end ended = refl
after_value_ends (key s ∷ ts) end ended = refl
after_value_ends (string s ∷ ts) end ended = refl
after_value_ends (number s ∷ ts) end ended = refl
after_value_ends (boolean b ∷ ts) end ended = refl
after_value_ends (null ∷ ts) end ended = refl
after_value_ends (bad ∷ ts) end ended = refl

lex-quoted : (s r : List ℕ) → lex between (quoted s ++ r) ≡ token (string s) ∷ lex between r
unfolding lex
lex-quoted s r =
    let e = append_assoc (escape s) (34 ∷ []) r in
    ap (λ l. lex between (34 ∷ l)) e ∙ ap₂ (λ o l. token (string_token o) ∷ l) (content-escape s r) (lex-escape s r)

lex-token_text : (t : Token) (r : List ℕ) → IsPrintable t → (ends t ≡ true → ends_word r ≡ true) → lex between (token_text t ++ r) ≡ token_lexemes t ++ lex between r
unfolding lex word
lex-token_text begin_object r h ended = refl
lex-token_text end_object r h ended = refl
lex-token_text begin_array r h ended = refl
lex-token_text end_array r h ended = refl
lex-token_text (key s) r h ended = ap (lex between) (append_assoc (quoted s) (58 ∷ []) r) ∙ lex-quoted s (58 ∷ r)
lex-token_text (string s) r h ended = lex-quoted s r
lex-token_text (number s) r h ended = lex-number s r h (ended refl)
lex-token_text (boolean true) r h ended = ap₂ (λ b l. token (cond b (boolean true) bad) ∷ l) (ended refl) (in_word-ended r (ended refl))
lex-token_text (boolean false) r h ended = ap₂ (λ b l. token (cond b (boolean false) bad) ∷ l) (ended refl) (in_word-ended r (ended refl))
lex-token_text null r h ended = ap₂ (λ b l. token (cond b null bad) ∷ l) (ended refl) (in_word-ended r (ended refl))
lex-token_text bad r h ended = absurd h

lex-separator : (b : Bool) (r : List ℕ) → lex between (cond b (44 ∷ []) [] ++ r) ≡ cond b (comma ∷ []) [] ++ lex between r
unfolding lex
lex-separator true r = refl
lex-separator false r = refl

-- the lexemes of a token, after a comma where there is one, and then those of the rest
lex-one : (c : Bool) (t : Token) (r : List ℕ) → IsPrintable t → (ends t ≡ true → ends_word r ≡ true)
    → lex between (separator c t ++ (token_text t ++ r)) ≡ cond (c && begins t) (comma ∷ []) [] ++ (token_lexemes t ++ lex between r)
lex-one c t r h ended = lex-separator (c && begins t) (token_text t ++ r) ∙ ap (λ l. cond (c && begins t) (comma ∷ []) [] ++ l) (lex-token_text t r h ended)

ended : (t : Token) (ts : List Token) (end : List ℕ) → ends_word end ≡ true → ends t ≡ true → ends_word (print_from (ends t) ts ++ end) ≡ true
ended t ts end is last = ap (λ b. ends_word (print_from b ts ++ end)) last ∙ after_value_ends ts end is

-- printed tokens are read the same with a newline behind them
lex-newline : (c : Bool) (ts : List Token) → ArePrintable ts → lex between (print_from c ts ++ newline) ≡ lex between (print_from c ts ++ [])
unfolding lex print_from ArePrintable
lex-newline c [] h = refl
lex-newline c (t ∷ ts) h =
    let regroup : (end : List ℕ) → print_from c (t ∷ ts) ++ end ≡ separator c t ++ (token_text t ++ (print_from (ends t) ts ++ end)) =
    λ end. append_assoc (separator c t) (token_text t ++ print_from (ends t) ts) end ∙ ap (λ s. separator c t ++ s) (append_assoc (token_text t) (print_from (ends t) ts) end) in
    ap (lex between) (regroup newline)
    ∙ lex-one c t (print_from (ends t) ts ++ newline) h.0 (ended t ts newline refl)
    ∙ ap (λ l. cond (c && begins t) (comma ∷ []) [] ++ (token_lexemes t ++ l)) (lex-newline (ends t) ts h.1)
    ∙ sym (lex-one c t (print_from (ends t) ts ++ []) h.0 (ended t ts [] refl))
    ∙ sym (ap (lex between) (regroup []))

pub tokens-newline : (ts : List Token) → ArePrintable ts → tokens (print ts ++ newline) ≡ tokens (print ts ++ [])
tokens-newline ts h = ap (punctuate fresh) (lex-newline false ts h)

-- ---- the numbers

words_have_numbers : (es : List (List ℕ × ℕ)) → All (λ entry. entry.1 < 2 ^ 64) es → MembersHaveNumbers (members_outline (members_of_words es))
words_have_numbers [] all = tt
words_have_numbers (e ∷ es) all =
    (IsNumber-decimal e.1 (All-head (λ (entry : List ℕ × ℕ). entry.1 < 2 ^ 64) e es all), words_have_numbers es (All-tail (λ (entry : List ℕ × ℕ). entry.1 < 2 ^ 64) e es all))

numbers_behind : (config : Config) → IsInRange config → MembersHaveNumbers (members_outline (members_behind config))
numbers_behind config range = (
  IsNumber-decimal config.reserve (omega (arith, range.reserve)),
  (
    IsNumber-decimal config.slices (omega (arith, range.slices.1)),
    (
      IsNumber-decimal config.tail (omega (arith, range.tail)),
      (
        words_have_numbers config.words
            (All-weaker (λ (entry : List ℕ × ℕ). IsBetween 1 config.documents entry.1) (λ (entry : List ℕ × ℕ). entry.1 < 2 ^ 64)
            (λ entry between. omega (arith, between.1, range.documents.1)) config.words range.words.counted),
        tt,
      ),
    ),
  ),
)

have_numbers_by : (left : Bool) (config : Config) → IsInRange config → HasNumbers (outline (tree.object (members_by left config)))
have_numbers_by true config range = (
  IsNumber-decimal config.documents (omega (arith, range.documents.1)),
  (IsNumber-decimal config.max_rank (omega (arith, range.max_rank)), (IsNumber-decimal config.passes (omega (arith, range.passes.1)), numbers_behind config range)),
)
have_numbers_by false config range = (
  IsNumber-decimal config.documents (omega (arith, range.documents.1)),
  (
    IsNumber-decimal config.max_rank (omega (arith, range.max_rank)),
    (IsNumber-decimal config.passes (omega (arith, range.passes.1)), (IsNumber-decimal config.private (omega (arith, range.private)), numbers_behind config range)),
  ),
)

have_numbers : (config : Config) → IsInRange config → HasNumbers (outline (tree.object (members_of config)))
unfolding members_of
have_numbers config range = have_numbers_by (is_left_out config) config range

-- ---- the text is read with its newline as it is read without

-- the value that tokens are
abbrev value_of : List Token → Option tree.Data
value_of ts = option_and_then of_json (option_and_then (λ p. json.if_last p.0 p.1) (json.value max_depth ts))

pub read_newline : (config : Config) → IsInRange config → (s : List ℕ) → s ≡ print (tokens s) → IsInOrder s (tree.object (members_of config))
    → read s ≡ Some (tree.object (members_of config)) → read (s ++ 10 ∷ []) ≡ Some (tree.object (members_of config))
read_newline config range s compact order was =
    let value = tree.object (members_of config) in
    let printable : ArePrintable (tokens s) = subst ArePrintable (sym (tokens_from_order s value order (has_none config))) (ArePrintable-json_tokens (outline value) (have_numbers config range)) in
    let same : tokens (s ++ newline) ≡ tokens s =
    ap (λ (t : List ℕ). tokens (t ++ newline)) compact ∙ tokens-newline (tokens s) printable ∙ ap tokens (append-nil (print (tokens s)) ∙ sym compact) in
    ap value_of same ∙ was

words_are_flat : (es : List (List ℕ × ℕ)) → tree.members_depth (members_of_words es) ≤ 0
words_are_flat [] = omega arith
words_are_flat (e ∷ es) = omega (arith, words_are_flat es)

is_shallow_by : (left : Bool) (config : Config) → tree.depth (tree.object (members_by left config)) ≤ max_depth
is_shallow_by true config = omega (arith, words_are_flat config.words)
is_shallow_by false config = omega (arith, words_are_flat config.words)

-- the object nests two deep
pub is_shallow : (config : Config) → tree.depth (tree.object (members_of config)) ≤ max_depth
unfolding members_of
is_shallow config = is_shallow_by (is_left_out config) config

-- the text of the object is that of the configuration
pub written : (config : Config) (s : List ℕ) (value : tree.Data) → value ≡ tree.object (members_of config) → (has_float value ≡ false → s ≡ compact_text value)
    → s ++ 10 ∷ [] ≡ text_of config
unfolding text_of
written config s value is text = ap (λ (t : List ℕ). t ++ 10 ∷ []) (text (ap has_float is ∙ has_none config) ∙ ap compact_text is)

-- ---- the text without a word is short

length-member : (later : Bool) (k : List ℕ) (n : ℕ) (ms : tree.Members) → n < 2 ^ 64
    → length (members_text later (tree.member k (whole n) ms)) ≤ length (quoted k) + length (members_text true ms) + 22
length-member true k n ms small =
    omega (arith, length-append (quoted k) (58 ∷ (decimal n ++ members_text true ms)), length-append (decimal n) (members_text true ms), length-decimal-le 20 n (omega arith) (omega arith) small)
length-member false k n ms small =
    omega (arith, length-append (quoted k) (58 ∷ (decimal n ++ members_text true ms)), length-append (decimal n) (members_text true ms), length-decimal-le 20 n (omega arith) (omega arith) small)

-- from the key `reserve` on
short_behind : (config : Config) → IsInRange config → config.words ≡ [] → length (members_text true (members_behind config)) ≤ 200
unfolding escape_byte
short_behind config range none =
    let last = tree.member (name_of Words) (tree.object (members_of_words config.words)) tree.no_members in
    let tail = tree.member (name_of Tail) (whole config.tail) last in
    let slices = tree.member (name_of Slices) (whole config.slices) tail in
    let few : length (members_text true last) ≤ 20 =
    subst (λ (es : List (List ℕ × ℕ)). length (members_text true (tree.member (name_of Words) (tree.object (members_of_words es)) tree.no_members)) ≤ 20) (sym none) (omega arith) in
    omega (
      arith,
      few,
      length-member true (name_of Tail) config.tail last (omega (arith, range.tail)),
      length-member true (name_of Slices) config.slices tail (omega (arith, range.slices.1)),
      length-member true (name_of Reserve) config.reserve slices (omega (arith, range.reserve)),
    )

-- from the key `private` on, which is left out or not
short_private : (left : Bool) (config : Config) → IsInRange config → config.words ≡ []
    → length (members_text true (cond left (members_behind config) (tree.member (name_of Private) (whole config.private) (members_behind config)))) ≤ 300
unfolding escape_byte
short_private true config range none = omega (arith, short_behind config range none)
short_private false config range none =
    omega (arith, short_behind config range none, length-member true (name_of Private) config.private (members_behind config) (omega (arith, range.private)))

pub short_text : (config : Config) → IsInRange config → config.words ≡ [] → length (text_of config) ≤ 1000
unfolding text_of members_of escape_byte
short_text config range none =
    let private = cond (is_left_out config) (members_behind config) (tree.member (name_of Private) (whole config.private) (members_behind config)) in
    let passes = tree.member (name_of Passes) (whole config.passes) private in
    let rank = tree.member (name_of MaxRank) (whole config.max_rank) passes in
    omega (
      arith,
      short_private (is_left_out config) config range none,
      length-member true (name_of Passes) config.passes private (omega (arith, range.passes.1)),
      length-member true (name_of MaxRank) config.max_rank passes (omega (arith, range.max_rank)),
      length-member false (name_of Documents) config.documents rank (omega (arith, range.documents.1)),
      length-append (compact_text (tree.object (tree.member (name_of Documents) (whole config.documents) rank))) (10 ∷ []),
    )
