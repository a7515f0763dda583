-- What the first word of a text and the rest after its space are.
use Rattle.std.proofs.Common.{◌≡◌, ℕ, ◌+◌, ◌<◌, ◌≤◌, true, false, List, [], ◌∷◌, ◌++◌, length, get_or, take, drop, refl, sym, ap, ◌∙◌, inl, inr, arith, append_assoc, append-nil, length-append}
use Rattle.std.specs.List.{position_or_len}
use Rattle.std.specs.Str.{IsUtf8}
use Rattle.std.specs.Str.Parse.{AllDigits}
use Rattle.std.proofs.lemmas.Bool.Decides.{leb_tells, nat_tests, Decides-eqb}
use Rattle.std.proofs.lemmas.List.{take_at, drop_at, take_all, drop_all, get_or_append_left}
use Rattle.std.proofs.Math.Seq.{get_or-append_seam}
use Rattle.std.proofs.lemmas.List.Sums.{split_at_first, passes_at_first, position_or_len_is}
use Rattle.std.proofs.lemmas.Str.{IsUtf8-drop, IsCharBoundary-after_ascii}
use Rattle.std.proofs.lemmas.Str.Parse.{digit_at}
use Rattle.line_proto.specs.Forms.{is_space, word_of, after_space}
use Rattle.line_proto.specs.Grammar.{EndsWithText}

-- a text is its first word and an end with the rest
abbrev pub Splits : List ℕ → Type 0
Splits bytes = (end : List ℕ) × (bytes ≡ word_of bytes ++ end) × EndsWithText end (after_space bytes)

-- all of a list stands before a place at or past its end
all_of : (bytes : List ℕ) (n : ℕ) → length bytes ≤ n → (take n bytes ≡ bytes) × (drop (n + 1) bytes ≡ [])
all_of bytes n h = (take_all n bytes h, drop_all (n + 1) bytes (omega arith))

-- a text with a space is split there
splits-at : (bytes : List ℕ) → IsUtf8 bytes → position_or_len is_space bytes < length bytes → Splits bytes
splits-at bytes u h =
    let i = position_or_len is_space bytes in
    let space : get_or bytes i 0 ≡ 32 = (Decides-eqb (get_or bytes i 0) 32).0 (passes_at_first is_space bytes 0 h) in (
      32 ∷ after_space bytes,
      split_at_first is_space bytes 0 h ∙ ap (λ (b : ℕ). word_of bytes ++ (b ∷ after_space bytes)) space,
      inr (refl, IsUtf8-drop bytes (i + 1) u (IsCharBoundary-after_ascii bytes i u h (omega arith))),
    )

-- each text is split
pub splits : (bytes : List ℕ) → IsUtf8 bytes → Splits bytes
splits bytes u =
    elim (leb_tells (length bytes) (position_or_len is_space bytes)) [
      | inl h ↦ ([], sym (append-nil (word_of bytes) ∙ (all_of bytes (position_or_len is_space bytes) h.1).0), inl (refl, (all_of bytes (position_or_len is_space bytes) h.1).1))
      | inr h ↦ splits-at bytes u h.1
    ]

-- the bytes have this first word and this rest
abbrev pub SplitsInto : List ℕ → List ℕ → List ℕ → Type 0
SplitsInto bytes word rest = (word_of bytes ≡ word) × (after_space bytes ≡ rest)

-- a byte from `0` on is no space
not_space : (b : ℕ) → 48 ≤ b → is_space b ≡ false
not_space b h = grind (arith, nat_tests)

-- behind the digits stands a space, if anything does
space_at : (digits end text : List ℕ) → EndsWithText end text → length digits < length (digits ++ end) → is_space (get_or (digits ++ end) (length digits) 0) ≡ true
space_at digits end text (inl e) h = absurd (omega (arith, length-append digits end, ap length e.0))
space_at digits end text (inr e) h = rw e.0 (rw (get_or-append_seam digits 32 text 0) refl)

-- the first space stands behind the digits
first_space : (digits end text : List ℕ) → AllDigits 10 digits → EndsWithText end text → position_or_len is_space (digits ++ end) ≡ length digits
first_space digits end text all e =
    position_or_len_is is_space (digits ++ end) (length digits) 0
    (omega (arith, length-append digits end))
    (λ k h. rw (get_or_append_left digits end 0 k h) (not_space (get_or digits k 0) (digit_at digits k all h).0))
    (space_at digits end text e)

-- behind that space stands the text
after_end : (digits end text : List ℕ) → EndsWithText end text → drop (length digits + 1) (digits ++ end) ≡ text
after_end digits end text (inl e) =
    drop_all (length digits + 1) (digits ++ end) (omega (arith, length-append digits end, ap length e.0)) ∙ sym e.1
after_end digits end text (inr e) =
    ap (λ (rest : List ℕ). drop (length digits + 1) (digits ++ rest)) e.0 ∙ ap (drop (length digits + 1)) (sym (append_assoc digits (32 ∷ []) text)) ∙ drop_at (digits ++ (32 ∷ [])) text (length digits + 1) (length-append digits (32 ∷ []))

-- so digits and an end with a text are split into the two
pub split-digits : (digits end text : List ℕ) → AllDigits 10 digits → EndsWithText end text → SplitsInto (digits ++ end) digits text
split-digits digits end text all e =
    let first = first_space digits end text all e in (
      ap (λ (n : ℕ). take n (digits ++ end)) first ∙ take_at digits end (length digits) refl,
      ap (λ (n : ℕ). drop (n + 1) (digits ++ end)) first ∙ after_end digits end text e,
    )
