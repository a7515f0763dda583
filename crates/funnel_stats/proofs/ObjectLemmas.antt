-- The object that bytes are.
use Rattle.std.proofs.Common.{◌≡◌, ◌==◌, ℕ, Bool, true, false, List, [], ◌∷◌, length, Option, Some, None, Result, IfOk, IfErr, String, Global, BTreeMap, option_map, option_and_then, if◌then◌else◌, refl, sym, arith}
use Rattle.std.proofs.lemmas.Bool.{true≢false, eqb-true}
use Rattle.std.proofs.lemmas.Str.{IsUtf8-from_is_utf8, is_utf8-from_IsUtf8}
use Rattle.std.specs.Option.{ok_or}
use Rattle.std.specs.Str.{IsUtf8, is_utf8}
use Rattle.serde_json.specs.Data.{Data, no_members}
use Rattle.serde_json.specs.Find.{as_object}
use Rattle.serde_json.specs.Read.{read}
use Rattle.serde_json.specs.View.{members_view}
use Rattle.serde_json.specs.declared.value.Value.{Value}
use Rattle.funnel_stats.specs.Configurations.{object_of}
use Rattle.funnel_stats.specs.Steps.{IsNoObject}
use Rattle.funnel_stats.specs.declared.fault.ConfigFault.{ConfigFault}
use Rattle.funnel_stats.specs.declared.fault.ConfigFault.TheVariants.{NotJson}

-- no bytes
pub object_of-empty : (bytes : List ℕ) → (length bytes == 0) ≡ true → object_of bytes ≡ Some no_members
unfolding object_of
object_of-empty [] empty = refl
object_of-empty (byte ∷ bytes) empty = absurd (let none : length (byte ∷ bytes) ≡ 0 = eqb-true (length (byte ∷ bytes)) 0 empty in omega arith)

-- bytes that are a value
pub object_of-value : (bytes : List ℕ) (value : Data) → (length bytes == 0) ≡ false → IsUtf8 bytes → read bytes ≡ Some value
    → object_of bytes ≡ as_object value
unfolding object_of
object_of-value [] value some utf8 is = absurd (true≢false some)
object_of-value (byte ∷ bytes) value some utf8 is = rw (is_utf8-from_IsUtf8 (byte ∷ bytes) utf8, is)

-- bytes that are none
no_value : (bytes : List ℕ) (text : Bool) → is_utf8 bytes ≡ text → (IsUtf8 bytes → read bytes ≡ None)
    → (if text then option_and_then as_object (read bytes) else None) ≡ None
no_value bytes true is none = rw (none (IsUtf8-from_is_utf8 bytes is))
no_value bytes false is none = refl

pub object_of-none : (bytes : List ℕ) → (length bytes == 0) ≡ false → (IsUtf8 bytes → read bytes ≡ None) → object_of bytes ≡ None
unfolding object_of
object_of-none [] some none = absurd (true≢false some)
object_of-none (byte ∷ bytes) some none = no_value (byte ∷ bytes) _ refl none

-- the members of the value, or a fault
pub ok_or-object : (bytes : List ℕ) (found : Option (BTreeMap (String Global) Value)) (answer : Result (BTreeMap (String Global) Value) ConfigFault)
    → option_map (λ object. members_view object.entries) found ≡ object_of bytes → answer ≡ ok_or found NotJson
    → IfOk answer (λ object. object_of bytes ≡ Some (members_view object.entries))
ok_or-object bytes None answer is told = rw told tt
ok_or-object bytes (Some object) answer is told = rw told (sym is)

pub ok_or-no_object : (bytes : List ℕ) (found : Option (BTreeMap (String Global) Value)) (answer : Result (BTreeMap (String Global) Value) ConfigFault)
    → option_map (λ object. members_view object.entries) found ≡ object_of bytes → answer ≡ ok_or found NotJson
    → IfErr answer (λ fault. IsNoObject fault (object_of bytes))
ok_or-no_object bytes None answer is told = rw told (sym is)
ok_or-no_object bytes (Some object) answer is told = rw told tt
