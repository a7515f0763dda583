-- The words of a plain text are its pieces.
use Rattle.std.proofs.Common.{◌≡◌, ℕ, true, false, List, [], ◌∷◌, ◌++◌, IsTrue, IsAscii, map, filter, drop, encode_utf8_all, refl, sym, ap, ap₂, ◌∙◌, arith, append-nil, if◌then◌else◌}
use Rattle.std.proofs.lemmas.Bool.{and_from, and_parts, false≢true, or_left}
use Rattle.std.proofs.lemmas.List.Elements.{All-head, All-tail}
use Rattle.std.proofs.lemmas.Str.{IsAscii-append, chars-IsAscii, encodes-IsAscii}
use Rattle.std.proofs.lemmas.Str.Ascii.{All-from_ascii, IsAscii-cons, IsAscii-nil}
use Rattle.std.specs.Char.{is_ascii_digit, is_ascii_lowercase, to_ascii_lowercase}
use Rattle.std.specs.List.{list_all, list_any}
use Rattle.caseless.proofs.CaselessLemmas.{default_case_fold-ascii}
use Rattle.caseless.specs.Caseless.{default_case_fold}
use Rattle.unicode_segmentation.proofs.AsciiLemmas.{is_alphanumeric_ascii}
use Rattle.unicode_segmentation.proofs.Computing.{unicode_segmentation}
use Rattle.unicode_segmentation.specs.Segments.{cut, has_alphanumeric, is_alphanumeric, prepend, segments}
use Rattle.unicode_segmentation.specs.Word.{is_word_break, word_bounds}
use Rattle.funnel_model.specs.Words.{folded, words}
use Rattle.load_laws.specs.PlainTexts.{ArePieces, behind_spaces, is_piece, is_plain, joined_by_spaces}
use Rattle.load_laws.proofs.PlainBreaks.{cut_at_end, cut_before_space, cut_behind_space, lower_itself, lowercase_alphanumeric, lowercase_below, no_cut_within, plain_below}

-- of pieces the first is one
first_piece : (piece : List ℕ) (pieces : List (List ℕ)) → ArePieces (piece ∷ pieces) → IsTrue (is_piece piece)
first_piece = All-head (λ piece. IsTrue (is_piece piece))

-- and those behind it are pieces
later_pieces : (piece : List ℕ) (pieces : List (List ℕ)) → ArePieces (piece ∷ pieces) → ArePieces pieces
later_pieces = All-tail (λ piece. IsTrue (is_piece piece))

-- a first character is cut off
cut_off : (before : List ℕ) (c : ℕ) (cs : List ℕ) → is_word_break (c ∷ before) cs ≡ true
    → cut is_word_break before (c ∷ cs) [] ≡ (c ∷ []) ∷ cut is_word_break (c ∷ before) cs []
unfolding cut
cut_off before c cs cuts =
    let here : is_word_break (c ∷ before) (cs ++ []) ≡ true = ap (is_word_break (c ∷ before)) (append-nil cs) ∙ cuts in
    ap (λ b. if b then (c ∷ []) ∷ cut is_word_break (c ∷ before) cs [] else prepend (c ∷ []) (cut is_word_break (c ∷ before) cs [])) here

-- a first character is joined to what comes
joined_to : (before : List ℕ) (c : ℕ) (cs : List ℕ) → is_word_break (c ∷ before) cs ≡ false
    → cut is_word_break before (c ∷ cs) [] ≡ prepend (c ∷ []) (cut is_word_break (c ∷ before) cs [])
unfolding cut
joined_to before c cs joins =
    let here : is_word_break (c ∷ before) (cs ++ []) ≡ false = ap (is_word_break (c ∷ before)) (append-nil cs) ∙ joins in
    ap (λ b. if b then (c ∷ []) ∷ cut is_word_break (c ∷ before) cs [] else prepend (c ∷ []) (cut is_word_break (c ∷ before) cs [])) here

-- pieces and the spaces before them, each apart
abbrev apart : List (List ℕ) → List (List ℕ)
apart [] = []
apart (piece ∷ pieces) = (32 ∷ []) ∷ (piece ∷ apart pieces)

-- a piece is cut from what comes behind it
cut_behind : (last : ℕ) (before : List ℕ) (pieces : List (List ℕ)) → IsTrue (is_plain last) → is_word_break (last ∷ before) (behind_spaces pieces) ≡ true
cut_behind last before [] plain = cut_at_end last before
cut_behind last before (piece ∷ pieces) plain = cut_before_space last before (piece ++ behind_spaces pieces) plain

-- a piece is cut off as a whole, and those behind it and their spaces too
cut_piece : (before : List ℕ) (c : ℕ) (cs : List ℕ) (pieces : List (List ℕ)) → IsTrue (is_plain c) → IsTrue (list_all is_plain cs)
    → ((front : List ℕ) → cut is_word_break front (behind_spaces pieces) [] ≡ apart pieces)
    → cut is_word_break before ((c ∷ cs) ++ behind_spaces pieces) [] ≡ (c ∷ cs) ∷ apart pieces
cut_piece before c [] pieces first later behind =
    cut_off before c (behind_spaces pieces) (cut_behind c before pieces first) ∙ ap (λ ps. (c ∷ []) ∷ ps) (behind (c ∷ before))
cut_piece before c (d ∷ ds) pieces first later behind =
    let parts = and_parts (is_plain d) (list_all is_plain ds) later in
    joined_to before c ((d ∷ ds) ++ behind_spaces pieces) (no_cut_within c before d (ds ++ behind_spaces pieces) first parts.0)
    ∙ ap (prepend (c ∷ [])) (cut_piece (c ∷ before) d ds pieces parts.0 parts.1 behind)

-- pieces behind spaces are cut from them
cut_pieces : (before : List ℕ) (pieces : List (List ℕ)) → ArePieces pieces → cut is_word_break before (behind_spaces pieces) [] ≡ apart pieces
unfolding cut
cut_pieces before [] are = refl
cut_pieces before ([] ∷ pieces) are = absurd (false≢true (first_piece [] pieces are))
cut_pieces before ((c ∷ cs) ∷ pieces) are =
    let parts = and_parts (is_ascii_lowercase c) (list_all is_plain cs) (first_piece (c ∷ cs) pieces are) in
    let later = later_pieces (c ∷ cs) pieces are in
    cut_off before 32 ((c ∷ cs) ++ behind_spaces pieces) (cut_behind_space before c (cs ++ behind_spaces pieces) parts.0)
    ∙ ap (λ ps. (32 ∷ []) ∷ ps)
    (cut_piece (32 ∷ before) c cs pieces (or_left (is_ascii_lowercase c) (is_ascii_digit c) parts.0) parts.1 (λ front. cut_pieces front pieces later))

-- each character of a piece is a small letter or a digit
all_plain : (piece : List ℕ) → IsTrue (is_piece piece) → IsTrue (list_all is_plain piece)
all_plain [] is = absurd (false≢true is)
all_plain (c ∷ cs) is =
    let parts = and_parts (is_ascii_lowercase c) (list_all is_plain cs) is in
    and_from (is_plain c) (list_all is_plain cs) (or_left (is_ascii_lowercase c) (is_ascii_digit c) parts.0) parts.1

-- so a piece is ASCII
plain_ascii : (cs : List ℕ) → IsTrue (list_all is_plain cs) → IsAscii cs
plain_ascii [] plain = IsAscii-nil
plain_ascii (c ∷ cs) plain =
    let parts = and_parts (is_plain c) (list_all is_plain cs) plain in
    IsAscii-cons c cs (plain_below c parts.0) (plain_ascii cs parts.1)

piece_ascii : (piece : List ℕ) → IsTrue (is_piece piece) → IsAscii piece
piece_ascii piece is = plain_ascii piece (all_plain piece is)

behind_spaces_ascii : (pieces : List (List ℕ)) → ArePieces pieces → IsAscii (behind_spaces pieces)
behind_spaces_ascii [] are = IsAscii-nil
behind_spaces_ascii (piece ∷ pieces) are =
    IsAscii-cons 32 (piece ++ behind_spaces pieces) (omega arith)
    (IsAscii-append piece (behind_spaces pieces) (piece_ascii piece (first_piece piece pieces are))
    (behind_spaces_ascii pieces (later_pieces piece pieces are)))

spaced_ascii : (pieces : List (List ℕ)) → ArePieces pieces → IsAscii (joined_by_spaces pieces)
spaced_ascii [] are = IsAscii-nil
spaced_ascii (piece ∷ pieces) are =
    IsAscii-append piece (behind_spaces pieces) (piece_ascii piece (first_piece piece pieces are))
    (behind_spaces_ascii pieces (later_pieces piece pieces are))

-- the whole text is cut into the pieces and the spaces between
abbrev pieces_and_spaces : List (List ℕ) → List (List ℕ)
pieces_and_spaces [] = []
pieces_and_spaces (piece ∷ pieces) = piece ∷ apart pieces

cut_text : (pieces : List (List ℕ)) → ArePieces pieces → cut is_word_break [] (joined_by_spaces pieces) [] ≡ pieces_and_spaces pieces
unfolding cut
cut_text [] are = refl
cut_text ([] ∷ pieces) are = absurd (false≢true (first_piece [] pieces are))
cut_text ((c ∷ cs) ∷ pieces) are =
    let parts = and_parts (is_ascii_lowercase c) (list_all is_plain cs) (first_piece (c ∷ cs) pieces are) in
    let later = later_pieces (c ∷ cs) pieces are in
    cut_piece [] c cs pieces (or_left (is_ascii_lowercase c) (is_ascii_digit c) parts.0) parts.1 (λ front. cut_pieces front pieces later)

-- ASCII is encoded as itself
encoded_apart : (pieces : List (List ℕ)) → ArePieces pieces → map encode_utf8_all (apart pieces) ≡ apart pieces
encoded_apart [] are = refl
encoded_apart (piece ∷ pieces) are =
    ap₂ ◌∷◌ (encodes-IsAscii (32 ∷ []) (IsAscii-cons 32 [] (omega arith) IsAscii-nil))
    (ap₂ ◌∷◌ (encodes-IsAscii piece (piece_ascii piece (first_piece piece pieces are)))
    (encoded_apart pieces (later_pieces piece pieces are)))

encoded_text : (pieces : List (List ℕ)) → ArePieces pieces → map encode_utf8_all (pieces_and_spaces pieces) ≡ pieces_and_spaces pieces
encoded_text [] are = refl
encoded_text (piece ∷ pieces) are = ap (drop 1) (encoded_apart (piece ∷ pieces) are)

-- what lies between the word boundaries of the text
word_bounds-spaced : (pieces : List (List ℕ)) → ArePieces pieces → word_bounds (joined_by_spaces pieces) ≡ pieces_and_spaces pieces
unfolding segments
word_bounds-spaced pieces are =
    ap (λ cs. map encode_utf8_all (cut is_word_break [] cs [])) (chars-IsAscii (joined_by_spaces pieces) (spaced_ascii pieces are))
    ∙ ap (map encode_utf8_all) (cut_text pieces are) ∙ encoded_text pieces are

-- a piece has a letter, and a space has none
piece_has_letter : (piece : List ℕ) → IsTrue (is_piece piece) → has_alphanumeric piece ≡ true
unfolding has_alphanumeric
piece_has_letter [] is = absurd (false≢true is)
piece_has_letter (c ∷ cs) is =
    let letter = (and_parts (is_ascii_lowercase c) (list_all is_plain cs) is).0 in
    ap (list_any is_alphanumeric) (chars-IsAscii (c ∷ cs) (piece_ascii (c ∷ cs) is))
    ∙ or_left (is_alphanumeric c) (list_any is_alphanumeric cs) (sym (is_alphanumeric_ascii c (lowercase_below c letter)) ∙ lowercase_alphanumeric c letter)

space_has_no_letter : has_alphanumeric (32 ∷ []) ≡ false
unfolding unicode_segmentation
space_has_no_letter = refl

-- what has a letter or a number is kept, and what has none is left out
kept : (bounds : List (List ℕ)) (bound : List ℕ) → has_alphanumeric bound ≡ true → filter has_alphanumeric (bound ∷ bounds) ≡ bound ∷ filter has_alphanumeric bounds
kept bounds bound has = ap (λ has. if has then bound ∷ filter has_alphanumeric bounds else filter has_alphanumeric bounds) has

left_out : (bounds : List (List ℕ)) (bound : List ℕ) → has_alphanumeric bound ≡ false → filter has_alphanumeric (bound ∷ bounds) ≡ filter has_alphanumeric bounds
left_out bounds bound none = ap (λ has. if has then bound ∷ filter has_alphanumeric bounds else filter has_alphanumeric bounds) none

-- so the pieces are kept, and the spaces left out
kept_apart : (pieces : List (List ℕ)) → ArePieces pieces → filter has_alphanumeric (apart pieces) ≡ pieces
kept_apart [] are = refl
kept_apart (piece ∷ pieces) are =
    left_out (piece ∷ apart pieces) (32 ∷ []) space_has_no_letter
    ∙ kept (apart pieces) piece (piece_has_letter piece (first_piece piece pieces are))
    ∙ ap (λ later. piece ∷ later) (kept_apart pieces (later_pieces piece pieces are))

kept_text : (pieces : List (List ℕ)) → ArePieces pieces → filter has_alphanumeric (pieces_and_spaces pieces) ≡ pieces
kept_text [] are = refl
kept_text (piece ∷ pieces) are = sym (left_out (piece ∷ apart pieces) (32 ∷ []) space_has_no_letter) ∙ kept_apart (piece ∷ pieces) are

-- small letters and digits fold to themselves
lower_plain : (cs : List ℕ) → IsTrue (list_all is_plain cs) → map to_ascii_lowercase cs ≡ cs
lower_plain [] plain = refl
lower_plain (c ∷ cs) plain =
    let parts = and_parts (is_plain c) (list_all is_plain cs) plain in
    ap₂ ◌∷◌ (lower_itself c parts.0) (lower_plain cs parts.1)

folded_piece : (piece : List ℕ) → IsTrue (is_piece piece) → folded piece ≡ piece
folded_piece piece is =
    let ascii = piece_ascii piece is in
    ap (λ cs. encode_utf8_all (default_case_fold cs)) (chars-IsAscii piece ascii)
    ∙ ap encode_utf8_all (default_case_fold-ascii piece (All-from_ascii piece ascii) ∙ lower_plain piece (all_plain piece is))
    ∙ encodes-IsAscii piece ascii

folded_pieces : (pieces : List (List ℕ)) → ArePieces pieces → map folded pieces ≡ pieces
folded_pieces [] are = refl
folded_pieces (piece ∷ pieces) are =
    ap₂ ◌∷◌ (folded_piece piece (first_piece piece pieces are))
    (folded_pieces pieces (later_pieces piece pieces are))

-- the words of a plain text are its pieces, as they come in the text
pub words-spaced : (pieces : List (List ℕ)) → ArePieces pieces → words (joined_by_spaces pieces) ≡ pieces
words-spaced pieces are =
    ap (λ bounds. map folded (filter has_alphanumeric bounds)) (word_bounds-spaced pieces are)
    ∙ ap (map folded) (kept_text pieces are) ∙ folded_pieces pieces are
