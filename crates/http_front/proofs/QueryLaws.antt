-- The bytes that a value stands for, byte by byte.
use Rattle.std.proofs.Common.{◌≡◌, ◌≢◌, ℕ, ◌+◌, ◌*◌, ◌<◌, ◌≤◌, ◌&&◌, true, false, List, [], ◌∷◌, ◌++◌, Option, Some, None, option_map, length, get_or, drop, refl, sym, ap, ◌∙◌, arith, eq-eqb, ne_eqb, append_assoc}
use Rattle.std.specs.Prelude.{if◌then◌else◌}
use Rattle.std.specs.Char.{digit_value, is_ascii_hexdigit}
use Rattle.http_front.specs.Queries.{decoded, meant, plain, put}

-- a byte that is no percent sign
pub decoded-plain : (bytes : List ℕ) → 0 < length bytes → get_or bytes 0 0 ≢ 37 → decoded plain bytes ≡ put (meant (get_or bytes 0 0)) (decoded plain (drop 1 bytes))
unfolding decoded
decoded-plain [] some other = absurd (omega arith)
decoded-plain (byte ∷ bytes) some other = rw (ne_eqb byte 37 other) refl

-- a percent sign that lacks a digit
pub decoded-short : (bytes : List ℕ) → 0 < length bytes → length bytes < 3 → get_or bytes 0 0 ≡ 37 → decoded plain bytes ≡ None
unfolding decoded
decoded-short [] some few sign = absurd (omega arith)
decoded-short (byte ∷ []) some few sign = rw (eq-eqb byte 37 sign) refl
decoded-short (byte ∷ high ∷ []) some few sign = rw (eq-eqb byte 37 sign) refl
decoded-short (byte ∷ high ∷ low ∷ bytes) some few sign = absurd (omega arith)

-- a percent sign and two bytes
pub decoded-escape : (bytes : List ℕ) → 3 ≤ length bytes → get_or bytes 0 0 ≡ 37
    → decoded plain bytes ≡ (if is_ascii_hexdigit (get_or bytes 1 0) && is_ascii_hexdigit (get_or bytes 2 0) then put (digit_value (get_or bytes 1 0) * 16 + digit_value (get_or bytes 2 0)) (decoded plain (drop 3 bytes)) else None)
unfolding decoded
decoded-escape [] many sign = absurd (omega arith)
decoded-escape (byte ∷ []) many sign = absurd (omega arith)
decoded-escape (byte ∷ high ∷ []) many sign = absurd (omega arith)
decoded-escape (byte ∷ high ∷ low ∷ bytes) many sign = rw (eq-eqb byte 37 sign) refl

-- a byte was put behind those that were decoded
pub decoded-push : (all : Option (List ℕ)) (done : List ℕ) (byte : ℕ) (left rest : Option (List ℕ)) → all ≡ option_map (λ bytes. done ++ bytes) left → left ≡ put byte rest
    → all ≡ option_map (λ bytes. (done ++ byte ∷ []) ++ bytes) rest
decoded-push all done byte left None so_far next = so_far ∙ ap (option_map (λ bytes. done ++ bytes)) next
decoded-push all done byte left (Some bytes) so_far next =
    so_far ∙ ap (option_map (λ bs. done ++ bs)) next ∙ ap (λ (bs : List ℕ). Some bs) (sym (append_assoc done (byte ∷ []) bytes))

-- none is left
pub decoded-none : (bytes : List ℕ) → length bytes ≡ 0 → decoded plain bytes ≡ Some []
unfolding decoded
decoded-none [] none = refl
decoded-none (byte ∷ bytes) none = absurd (omega arith)

-- a percent sign without its digits, and with them
pub decoded-bad : (bytes : List ℕ) → 3 ≤ length bytes → get_or bytes 0 0 ≡ 37 → (is_ascii_hexdigit (get_or bytes 1 0) && is_ascii_hexdigit (get_or bytes 2 0)) ≡ false
    → decoded plain bytes ≡ None
decoded-bad bytes many sign bad = decoded-escape bytes many sign ∙ rw bad refl

pub decoded-good : (bytes : List ℕ) (high low : ℕ) → 3 ≤ length bytes → get_or bytes 0 0 ≡ 37 → true ≡ is_ascii_hexdigit (get_or bytes 1 0) → true ≡ is_ascii_hexdigit (get_or bytes 2 0)
    → high ≡ digit_value (get_or bytes 1 0) → low ≡ digit_value (get_or bytes 2 0) → decoded plain bytes ≡ put (high * 16 + low) (decoded plain (drop 3 bytes))
decoded-good bytes high low many sign first second high_is low_is =
    decoded-escape bytes many sign ∙ rw (sym first, sym second, high_is, low_is) refl
