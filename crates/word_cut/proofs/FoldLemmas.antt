-- The fold of a word that is ASCII, and one more folded word.
use Rattle.std.proofs.Common.{◌≡◌, ◌≤◌, drop, add-one, ℕ, suc, ◌+◌, ◌<◌, List, [], ◌∷◌, ◌++◌, Bor, map, length, get_or, refl, ap, ap₂, ◌∙◌, subst}
use Rattle.std.proofs.lemmas.List.{map-append}
use Rattle.std.proofs.Math.Seq.{drop-cons}
use Rattle.std.specs.List.{slice_range}
use Rattle.std.proofs.lemmas.Str.{chars-IsAscii, encodes-IsAscii}
use Rattle.std.proofs.lemmas.Str.Ascii.{IsAscii-map, lowercase_ascii}
use Rattle.std.specs.Char.{to_ascii_lowercase}
use Rattle.std.specs.Prelude.{encode_utf8_all}
use Rattle.std.specs.Str.{IsAscii}
use Rattle.caseless.specs.Caseless.{default_case_fold}
use Rattle.ucd_case.proofs.CaseFoldingLemmas.{full_fold-ascii}
use Rattle.funnel_model.specs.Words.{folded}
use Rattle.funnel_model.specs.WordSets.{pieces, EndAt}

-- ASCII characters fold to their small letters
fold-ascii : (cs : List ℕ) → IsAscii cs → default_case_fold cs ≡ map to_ascii_lowercase cs
unfolding default_case_fold
fold-ascii [] ascii = refl
fold-ascii (c ∷ cs) ascii =
    ap₂ (λ (here later : List ℕ). here ++ later) (full_fold-ascii c (ascii 0)) (fold-ascii cs (λ i. ascii (suc i)))

-- small letters are encoded as themselves
encode-lowercase : (cs : List ℕ) → IsAscii cs → encode_utf8_all (map to_ascii_lowercase cs) ≡ map to_ascii_lowercase cs
encode-lowercase cs ascii = encodes-IsAscii (map to_ascii_lowercase cs) (IsAscii-map to_ascii_lowercase cs lowercase_ascii ascii)

-- the fold of an ASCII word is the word in small letters
pub folded-ascii : (word : List ℕ) → IsAscii word → folded word ≡ map to_ascii_lowercase word
folded-ascii word ascii =
    ap (λ (cs : List ℕ). encode_utf8_all (default_case_fold cs)) (chars-IsAscii word ascii)
    ∙ ap encode_utf8_all (fold-ascii word ascii)
    ∙ encode-lowercase word ascii

-- the ends that are left
ends-next : (ends : List ℕ) (index : ℕ) → index < length ends → drop index ends ≡ get_or ends index 0 ∷ drop (index + 1) ends
ends-next ends index less = rw (add-one, drop-cons ends index 0)

-- the folds of one more word
pub folds-push : (pieces : List (Bor (List ℕ))) (piece : Bor (List ℕ))
    → map folded (map (λ p. p.now) (pieces ++ piece ∷ [])) ≡ map folded (map (λ p. p.now) pieces) ++ folded piece.now ∷ []
folds-push pieces piece =
    ap (map folded) (map-append (λ (p : Bor (List ℕ)). p.now) pieces (piece ∷ []))
    ∙ map-append folded (map (λ (p : Bor (List ℕ)). p.now) pieces) (piece.now ∷ [])

-- the words from a start on begin with the one up to the first end that is left
pub pieces-next : (start index : ℕ) (ends buffer : List ℕ) → index < length ends →
    pieces start (drop index ends) buffer ≡ slice_range buffer start (get_or ends index 0) ∷ pieces (get_or ends index 0) (drop (index + 1) ends) buffer
pieces-next start index ends buffer less =
    ap (λ (es : List ℕ). pieces start es buffer) (ends-next ends index less)

-- and that end is not before the start
pub EndAt-next : (start index last : ℕ) (ends : List ℕ) → index < length ends → EndAt start (drop index ends) last →
    (start ≤ get_or ends index 0) × EndAt (get_or ends index 0) (drop (index + 1) ends) last
EndAt-next start index last ends less is = subst (λ (es : List ℕ). EndAt start es last) (ends-next ends index less) is
