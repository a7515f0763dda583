-- What a line asks for, by what its bytes are.
use Rattle.std.proofs.Common.{◌≡◌, ℕ, ◌≤◌, Bool, true, false, cond, List, length, Option, None, nat_lt, refl}
use Rattle.std.specs.Str.{IsUtf8, is_utf8}
use Rattle.std.proofs.lemmas.Bool.{le-ltb}
use Rattle.std.proofs.lemmas.Str.{IsUtf8-from_is_utf8, is_utf8-from_IsUtf8}
use Rattle.funnel_io.specs.declared.line_reader.TheConstants.{MAX_LINE_LEN}
use Rattle.line_proto.specs.Forms.{Asked, without_return, asked_of_text, form_of}

-- a test that isn't true is false
pub not_from_test : (b : Bool) → ¬ (b ≡ true) → b ≡ false
not_from_test true h = absurd (h refl)
not_from_test false h = refl

-- past a first test that gives none anyhow, the second decides
unless_cond : (a b : Bool) (o : Option Asked) → b ≡ false → cond a None (cond b o None) ≡ None
unless_cond true b o h = refl
unless_cond false b o h = rw h refl

-- a line that isn't text asks for nothing
pub form_of-not_text : (line : List ℕ) → ¬ (IsUtf8 (without_return line)) → form_of line ≡ None
unfolding form_of
form_of-not_text line other =
    let fails : is_utf8 (without_return line) ≡ false = not_from_test (is_utf8 (without_return line)) (λ e. other (IsUtf8-from_is_utf8 (without_return line) e)) in
    unless_cond (nat_lt MAX_LINE_LEN (length line)) (is_utf8 (without_return line)) (asked_of_text (without_return line)) fails

-- a line of text that is short enough asks for what its text does
pub form_of-text : (line : List ℕ) → length line ≤ MAX_LINE_LEN → IsUtf8 (without_return line) → form_of line ≡ asked_of_text (without_return line)
unfolding form_of
form_of-text line short text =
    rw (le-ltb MAX_LINE_LEN (length line) short, is_utf8-from_IsUtf8 (without_return line) text) refl
