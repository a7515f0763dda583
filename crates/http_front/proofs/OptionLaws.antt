-- The options of a value, byte by byte.
use Rattle.std.proofs.Common.{◌≡◌, ℕ, ◌+◌, ◌-◌, ◌<◌, ◌≤◌, Bool, false, List, [], ◌∷◌, ◌++◌, length, get_or, take, drop, sym, ap, ◌∙◌, arith, eq-eqb, ne_eqb, ◌≢◌, ◌||◌}
use Rattle.std.specs.Prelude.{slice_range, ◌==◌, if◌then◌else◌}
use Rattle.std.specs.Bool.{Decides}
use Rattle.std.specs.List.{list_any}
use Rattle.std.specs.Str.{str_eq_ignore_ascii_case, str_to_ascii_lowercase, bytes_eq}
use Rattle.std.proofs.lemmas.Bool.Decides.{same_from_decides}
use Rattle.std.proofs.lemmas.List.{drop_more}
use Rattle.std.proofs.lemmas.Slice.Eq.{bytes_eq-Decides}
use Rattle.funnel_io.proofs.Ranges.{range_join}
use Rattle.http_front.specs.Heads.{has_close, is_close, options_from}

-- a test that tells whether two words are the same but for case
pub tells_same : (r : Bool) (a b : List ℕ) → Decides r (str_to_ascii_lowercase a ≡ str_to_ascii_lowercase b) → r ≡ str_eq_ignore_ascii_case a b
tells_same r a b tells = same_from_decides r (bytes_eq (str_to_ascii_lowercase a) (str_to_ascii_lowercase b)) tells (bytes_eq-Decides (str_to_ascii_lowercase a) (str_to_ascii_lowercase b))

-- a range with the byte behind it
pub range_push : (value : List ℕ) (start at : ℕ) → start ≤ at → at < length value → slice_range value start (at + 1) ≡ slice_range value start at ++ get_or value at 0 ∷ []
range_push value start at in_order within =
    range_join value start at 1 in_order
    ∙ ap (λ t. slice_range value start at ++ take 1 t) (drop_more value at 0 within)

-- no bytes are between a place and itself
pub range_none : (value : List ℕ) (at : ℕ) → slice_range value at at ≡ []
range_none value at = let none : at - at ≡ 0 = omega arith in ap (λ n. take n (drop at value)) none

-- the next byte ends the option at hand, or belongs to it
pub options_step : (value : List ℕ) (start at : ℕ) → start ≤ at → at < length value
    → options_from (slice_range value start at) (drop at value)
    ≡ (if get_or value at 0 == 44 then slice_range value start at ∷ options_from [] (drop (at + 1) value) else options_from (slice_range value start (at + 1)) (drop (at + 1) value))
options_step value start at in_order within =
    ap (options_from (slice_range value start at)) (drop_more value at 0 within)
    ∙ ap (λ o. if get_or value at 0 == 44 then slice_range value start at ∷ options_from [] (drop (at + 1) value) else options_from o (drop (at + 1) value))
    (sym (range_push value start at in_order within))

-- the options that are not looked at yet tell whether one of them is `close`
abbrev pub TellsClose : List ℕ → ℕ → ℕ → Type 0
TellsClose value start at = has_close value ≡ list_any is_close (options_from (slice_range value start at) (drop at value))

-- a comma ends an option that is another one
pub at_comma : (value : List ℕ) (start at : ℕ) → start ≤ at → at < length value → get_or value at 0 ≡ 44 → is_close (slice_range value start at) ≡ false
    → TellsClose value start at → TellsClose value (at + 1) (at + 1)
at_comma value start at in_order within comma other tells =
    tells
    ∙ ap (list_any is_close) (options_step value start at in_order within)
    ∙ ap (λ b. list_any is_close (if b then slice_range value start at ∷ options_from [] (drop (at + 1) value) else options_from (slice_range value start (at + 1)) (drop (at + 1) value)))
    (eq-eqb (get_or value at 0) 44 comma)
    ∙ ap (λ b. b || list_any is_close (options_from [] (drop (at + 1) value))) other
    ∙ ap (λ o. list_any is_close (options_from o (drop (at + 1) value))) (sym (range_none value (at + 1)))

-- any other byte belongs to the option
pub elsewhere : (value : List ℕ) (start at : ℕ) → start ≤ at → at < length value → get_or value at 0 ≢ 44 → TellsClose value start at → TellsClose value start (at + 1)
elsewhere value start at in_order within other tells =
    tells
    ∙ ap (list_any is_close) (options_step value start at in_order within)
    ∙ ap (λ b. list_any is_close (if b then slice_range value start at ∷ options_from [] (drop (at + 1) value) else options_from (slice_range value start (at + 1)) (drop (at + 1) value)))
    (ne_eqb (get_or value at 0) 44 other)
