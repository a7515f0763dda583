-- ASCII's capital letters stand at no other boundary than the small ones.
use Rattle.std.proofs.Common.{◌≡◌, ℕ, suc, ◌+◌, ◌<◌, ◌≤◌, Bool, true, false, not, cond, ◌==◌, List, [], ◌∷◌, ◌++◌, map, refl, sym, ap, ap₂, ◌∙◌, arith, eqb-true, IsTrue, ⊎_elim}
use Rattle.std.specs.Prelude.{filter, encode_utf8_all, unwrap_or, ◌||◌, ◌&&◌}
use Rattle.std.specs.Char.{to_ascii_lowercase, is_ascii_alphabetic, is_ascii_alphanumeric}
use Rattle.std.specs.List.{list_any}
use Rattle.std.specs.Str.{IsAscii}
use Rattle.std.proofs.lemmas.Bool.{agree_below_at, cases_lt, not-true}
use Rattle.std.proofs.lemmas.Bool.Decides.{nat_tests}
use Rattle.std.proofs.lemmas.List.{append-nil, map-append}
use Rattle.std.proofs.lemmas.Str.{chars-IsAscii, encodes-IsAscii, IsAscii-append}
use Rattle.std.proofs.lemmas.Str.Ascii.{IsAscii-nil, IsAscii-cons, IsAscii-map, lowercase_ascii, lowercase_is}
use Rattle.ucd_table.proofs.Facts.{Stepped-below}
use Rattle.ucd_breaks.specs.WordBreak.{word_break, word_break_number}
use Rattle.ucd_breaks.specs.declared.WordBreak.{WordBreak}
use Rattle.ucd_breaks.specs.declared.WordBreak.TheVariants.{ALetter}
use Rattle.ucd_breaks.proofs.Computing.{ucd_breaks}
use Rattle.ucd_breaks.proofs.WordBreakLemmas.{word_break_stepped, word_break_number_injective}
use Rattle.ucd_emoji.specs.Binary.{is_extended_pictographic}
use Rattle.ucd_emoji.proofs.BinaryLemmas.{is_extended_pictographic_stepped}
use Rattle.ucd_emoji.proofs.Computing.{ucd_emoji}
use Rattle.unicode_segmentation.specs.Segments.{cut, prepend, segments, has_alphanumeric, is_alphanumeric}
use Rattle.unicode_segmentation.specs.Word.{is_ignored, is_regional, significant, starts_with_half_flag, break_by_pair, joins, value_at, is_word_break, words as unicode_words}
use Rattle.unicode_segmentation.proofs.AsciiLemmas.{is_alphanumeric_ascii}
use Rattle.funnel_model.specs.Words.{folded, words}
use Rattle.word_cut.proofs.FoldLemmas.{folded-ascii}

-- characters in small letters
abbrev small : List ℕ → List ℕ
small = map to_ascii_lowercase

letter : (c : ℕ) → c < 128 → IsTrue (is_ascii_alphabetic c) → ALetter ≡ word_break c
unfolding ucd_breaks
letter c below is =
    let test = Stepped-below word_break word_break_stepped (λ x v. not (is_ascii_alphabetic x) || (word_break_number ALetter == word_break_number v)) 128 refl c below in
    word_break_number_injective _ _ (eqb-true _ _ (rw is at test))

-- a small letter is what its capital is
value_small : (c : ℕ) → c < 128 → word_break (to_ascii_lowercase c) ≡ word_break c
value_small c below =
    ⊎_elim
    (λ (low : c < 65). ap word_break ((lowercase_is c).1 low))
    (λ (high : 65 ≤ c).
    ⊎_elim
    (λ (above : 90 < c). ap word_break ((lowercase_is c).2 above))
    (λ (within : c ≤ 90).
    let same = (lowercase_is c).0 (high, within) in
    ap word_break same ∙ sym (letter (c + 32) (omega arith) (grind (arith, nat_tests))) ∙ letter c below (grind (arith, nat_tests)))
    (cases_lt 90 c))
    (cases_lt c 65)

pub not_pictographic : (c : ℕ) → c < 128 → is_extended_pictographic c ≡ false
unfolding ucd_emoji
not_pictographic c below = not-true _ (Stepped-below is_extended_pictographic is_extended_pictographic_stepped (λ x v. not v) 128 refl c below)

pictographic_small : (c : ℕ) → c < 128 → is_extended_pictographic (to_ascii_lowercase c) ≡ is_extended_pictographic c
pictographic_small c below = not_pictographic (to_ascii_lowercase c) (lowercase_ascii c below) ∙ sym (not_pictographic c below)

alphanumeric_small : (c : ℕ) → c < 128 → is_alphanumeric (to_ascii_lowercase c) ≡ is_alphanumeric c
alphanumeric_small c below =
    sym (is_alphanumeric_ascii (to_ascii_lowercase c) (lowercase_ascii c below))
    ∙ agree_below_at (λ x. is_ascii_alphanumeric (to_ascii_lowercase x)) is_ascii_alphanumeric 128 c refl below
    ∙ is_alphanumeric_ascii c below

significant_small : (cs : List ℕ) → IsAscii cs → significant (small cs) ≡ significant cs
unfolding significant
significant_small [] ascii = refl
significant_small (c ∷ cs) ascii =
    ap₂ (λ (value : WordBreak) (rest : List WordBreak). cond (is_ignored value) rest (value ∷ rest)) (value_small c (ascii 0)) (significant_small cs (λ i. ascii (suc i)))

-- the rule by the values that it reads
abbrev by_values : WordBreak → WordBreak → Bool → List WordBreak → List WordBreak → Bool
by_values last next pictographic left right =
    unwrap_or (break_by_pair last next pictographic)
    (not (joins (value_at left 1) (value_at left 0) next (value_at right 0) || (starts_with_half_flag left && is_regional next)))

break_small : (before after : List ℕ) → IsAscii before → IsAscii after → is_word_break (small before) (small after) ≡ is_word_break before after
unfolding is_word_break
break_small [] after ascii ascii' = refl
break_small (last ∷ before) [] ascii ascii' = refl
break_small (last ∷ before) (next ∷ after) ascii ascii' =
    ap (λ (v : WordBreak). by_values v (word_break (to_ascii_lowercase next)) (is_extended_pictographic (to_ascii_lowercase next)) (significant (small (last ∷ before))) (significant (small after))) (value_small last (ascii 0))
    ∙ ap (λ (v : WordBreak). by_values (word_break last) v (is_extended_pictographic (to_ascii_lowercase next)) (significant (small (last ∷ before))) (significant (small after))) (value_small next (ascii' 0))
    ∙ ap (λ (b : Bool). by_values (word_break last) (word_break next) b (significant (small (last ∷ before))) (significant (small after))) (pictographic_small next (ascii' 0))
    ∙ ap (λ (vs : List WordBreak). by_values (word_break last) (word_break next) (is_extended_pictographic next) vs (significant (small after))) (significant_small (last ∷ before) ascii)
    ∙ ap (λ (vs : List WordBreak). by_values (word_break last) (word_break next) (is_extended_pictographic next) (significant (last ∷ before)) vs) (significant_small after (λ i. ascii' (suc i)))

prepend_small : (part : List ℕ) (pieces : List (List ℕ)) → prepend (small part) (map small pieces) ≡ map small (prepend part pieces)
prepend_small part [] = refl
prepend_small part (piece ∷ pieces) = ap (λ (p : List ℕ). p ∷ map small pieces) (sym (map-append to_ascii_lowercase part piece))

either_small : (b : Bool) (xs ys : List (List ℕ)) → cond b (map small xs) (map small ys) ≡ map small (cond b xs ys)
either_small true xs ys = refl
either_small false xs ys = refl

-- the pieces of a text in small letters are its pieces in small letters
cut_small : (before cs : List ℕ) → IsAscii before → IsAscii cs → cut is_word_break (small before) (small cs) [] ≡ map small (cut is_word_break before cs [])
unfolding cut
cut_small before [] ascii ascii' = refl
cut_small before (c ∷ cs) ascii ascii' =
    let here : IsAscii (c ∷ before) = IsAscii-cons c before (ascii' 0) ascii in
    let later : IsAscii cs = λ i. ascii' (suc i) in
    let rest : List (List ℕ) = cut is_word_break (c ∷ before) cs [] in
    let breaks : Bool = is_word_break (c ∷ before) (cs ++ []) in
    ap₂ (λ (b : Bool) (pieces : List (List ℕ)). cond b ((to_ascii_lowercase c ∷ []) ∷ pieces) (prepend (to_ascii_lowercase c ∷ []) pieces))
    (ap (λ (after : List ℕ). is_word_break (small (c ∷ before)) after) (append-nil (small cs)) ∙ break_small (c ∷ before) cs here later
    ∙ ap (λ (after : List ℕ). is_word_break (c ∷ before) after) (sym (append-nil cs)))
    (cut_small (c ∷ before) cs here later)
    ∙ ap (λ (pieces : List (List ℕ)). cond breaks ((to_ascii_lowercase c ∷ []) ∷ map small rest) pieces) (prepend_small (c ∷ []) rest)
    ∙ either_small breaks ((c ∷ []) ∷ rest) (prepend (c ∷ []) rest)

-- each piece is ASCII
AreAscii : List (List ℕ) → Type 0
AreAscii [] = Unit {0}
AreAscii (piece ∷ pieces) = IsAscii piece × AreAscii pieces

ascii_prepend : (part : List ℕ) (pieces : List (List ℕ)) → IsAscii part → AreAscii pieces → AreAscii (prepend part pieces)
unfolding AreAscii
ascii_prepend part [] ascii are = (ascii, tt)
ascii_prepend part (piece ∷ pieces) ascii are = (IsAscii-append part piece ascii are.0, are.1)

ascii_either : (b : Bool) (xs ys : List (List ℕ)) → AreAscii xs → AreAscii ys → AreAscii (cond b xs ys)
ascii_either true xs ys are are' = are
ascii_either false xs ys are are' = are'

cut-ascii : (before cs : List ℕ) → IsAscii cs → AreAscii (cut is_word_break before cs [])
unfolding cut AreAscii
cut-ascii before [] ascii = tt
cut-ascii before (c ∷ cs) ascii =
    let one : IsAscii (c ∷ []) = IsAscii-cons c [] (ascii 0) IsAscii-nil in
    let rest = cut-ascii (c ∷ before) cs (λ i. ascii (suc i)) in
    ascii_either (is_word_break (c ∷ before) (cs ++ [])) ((c ∷ []) ∷ cut is_word_break (c ∷ before) cs []) (prepend (c ∷ []) (cut is_word_break (c ∷ before) cs [])) (one, rest) (ascii_prepend (c ∷ []) (cut is_word_break (c ∷ before) cs []) one rest)

encode-same : (pieces : List (List ℕ)) → AreAscii pieces → map encode_utf8_all pieces ≡ pieces
unfolding AreAscii
encode-same [] are = refl
encode-same (piece ∷ pieces) are = ap₂ (λ (p : List ℕ) (ps : List (List ℕ)). p ∷ ps) (encodes-IsAscii piece are.0) (encode-same pieces are.1)

are_small : (pieces : List (List ℕ)) → AreAscii pieces → AreAscii (map small pieces)
unfolding AreAscii
are_small [] are = tt
are_small (piece ∷ pieces) are = (IsAscii-map to_ascii_lowercase piece lowercase_ascii are.0, are_small pieces are.1)

any_small : (cs : List ℕ) → IsAscii cs → list_any is_alphanumeric (small cs) ≡ list_any is_alphanumeric cs
any_small [] ascii = refl
any_small (c ∷ cs) ascii = ap₂ (λ (here later : Bool). here || later) (alphanumeric_small c (ascii 0)) (any_small cs (λ i. ascii (suc i)))

has_small : (piece : List ℕ) → IsAscii piece → has_alphanumeric (small piece) ≡ has_alphanumeric piece
unfolding has_alphanumeric
has_small piece ascii =
    ap (list_any is_alphanumeric) (chars-IsAscii (small piece) (IsAscii-map to_ascii_lowercase piece lowercase_ascii ascii))
    ∙ any_small piece ascii
    ∙ ap (list_any is_alphanumeric) (sym (chars-IsAscii piece ascii))

-- the words among the pieces, folded
folded_words : (pieces : List (List ℕ)) → AreAscii pieces → map folded (filter has_alphanumeric pieces) ≡ filter has_alphanumeric (map small pieces)
unfolding AreAscii
folded_words [] are = refl
folded_words (piece ∷ pieces) are =
    either_folded (has_alphanumeric piece) (filter has_alphanumeric pieces)
    ∙ ap₂ (λ (word : List ℕ) (words : List (List ℕ)). cond (has_alphanumeric piece) (word ∷ words) words) (folded-ascii piece are.0) (folded_words pieces are.1)
    ∙ ap (λ (b : Bool). cond b (small piece ∷ filter has_alphanumeric (map small pieces)) (filter has_alphanumeric (map small pieces))) (sym (has_small piece are.0))
  where
    either_folded : (b : Bool) (rest : List (List ℕ)) → map folded (cond b (piece ∷ rest) rest) ≡ cond b (folded piece ∷ map folded rest) (map folded rest)
    either_folded true rest = refl
    either_folded false rest = refl

-- the words of an ASCII text are those that are cut from it in small letters
pub words-ascii : (text : List ℕ) → IsAscii text → words text ≡ unicode_words (small text)
unfolding segments
words-ascii text ascii =
    let pieces : List (List ℕ) = cut is_word_break [] text [] in
    let are : AreAscii pieces = cut-ascii [] text ascii in
    let mine : segments is_word_break text ≡ pieces = ap (λ (cs : List ℕ). map encode_utf8_all (cut is_word_break [] cs [])) (chars-IsAscii text ascii) ∙ encode-same pieces are in
    let theirs : segments is_word_break (small text) ≡ map small pieces =
    ap (λ (cs : List ℕ). map encode_utf8_all (cut is_word_break [] cs [])) (chars-IsAscii (small text) (IsAscii-map to_ascii_lowercase text lowercase_ascii ascii))
    ∙ ap (map encode_utf8_all) (cut_small [] text IsAscii-nil ascii)
    ∙ encode-same (map small pieces) (are_small pieces are) in
    ap (λ (ps : List (List ℕ)). map folded (filter has_alphanumeric ps)) mine
    ∙ folded_words pieces are
    ∙ ap (filter has_alphanumeric) (sym theirs)
