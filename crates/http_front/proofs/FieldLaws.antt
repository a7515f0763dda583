-- The values of fields, field by field.
use Rattle.std.proofs.Common.{◌≡◌, ℕ, ◌<◌, ◌≤◌, ◌+◌, ◌||◌, Bool, true, false, List, [], ◌∷◌, ◌++◌, length, map, take, get_or, refl, sym, ap, ◌∙◌, subst, ◌⊎◌, inl, inr, codes}
use Rattle.std.specs.List.{list_any}
use Rattle.std.specs.Str.{str_eq_ignore_ascii_case}
use Rattle.std.proofs.lemmas.List.{map-append, take_more}
use Rattle.std.proofs.lemmas.List.Elements.{filter_map-append}
use Rattle.std.proofs.lemmas.List.Folds.{list_any_at}
use Rattle.std.proofs.lemmas.List.{get_or-map, length-map, take_all}
use Rattle.httparse.specs.Spans.{header_bytes, span_bytes}
use Rattle.httparse.specs.declared.spans.HeaderSpan.{HeaderSpan}
use Rattle.httparse.specs.declared.spans.Span.{Span}
use Rattle.http_front.specs.Heads.{closes_by, connections, has_close, values_named}
use Rattle.http_front.specs.Steps.{AreValues, is_closing}
use Rattle.http_front.specs.declared.fields.Values.{Values}
use Rattle.http_front.specs.declared.fields.Values.TheVariants as values

-- one more field
pub values_named-push : (name bytes : List ℕ) (fields : List HeaderSpan) (i : ℕ) (d : HeaderSpan) → i < length fields
    → values_named name (map (header_bytes bytes) (take (i + 1) fields))
    ≡ values_named name (map (header_bytes bytes) (take i fields)) ++ values_named name (header_bytes bytes (get_or fields i d) ∷ [])
values_named-push name bytes fields i d within =
    ap (λ fs. values_named name (map (header_bytes bytes) fs)) (take_more fields i d within)
    ∙ ap (values_named name) (map-append (header_bytes bytes) (take i fields) (get_or fields i d ∷ []))
    ∙ filter_map-append _ (map (header_bytes bytes) (take i fields)) (header_bytes bytes (get_or fields i d) ∷ [])

-- a field of another name has no such value
pub other_name : (name : List ℕ) (field : List ℕ × List ℕ) → str_eq_ignore_ascii_case field.0 name ≡ false → values_named name (field ∷ []) ≡ []
other_name name field other = rw other refl

-- and one of this name has one
pub same_name : (name : List ℕ) (field : List ℕ × List ℕ) → str_eq_ignore_ascii_case field.0 name ≡ true → values_named name (field ∷ []) ≡ field.1 ∷ []
same_name name field same = rw same refl

-- there are values
abbrev pub IsSome : Values → Type 0
IsSome found = ((span : Span) × (found ≡ values.One span)) ⊎ (found ≡ values.Many)

not_none : (found : Values) → IsSome found → found ≡ values.None → ⊥
not_none found (inl one) none = cc
not_none found (inr many) none = cc

-- a value after others makes them several
pub several : (bytes : List ℕ) (found : Values) (before : List (List ℕ)) (value : List ℕ) → IsSome found → AreValues bytes found before
    → AreValues bytes values.Many (before ++ value ∷ [])
several bytes values.None before value some are = absurd (not_none values.None some refl)
several bytes (values.One span) before value some are = (span_bytes bytes span, value, [], ap (λ vs. vs ++ value ∷ []) are.1)
several bytes values.Many before value some are = (are.0, are.1, are.2 ++ value ∷ [], ap (λ vs. vs ++ value ∷ []) are.3)

closing_first : (field : List ℕ × List ℕ) (fields : List (List ℕ × List ℕ)) (b : Bool) → str_eq_ignore_ascii_case field.0 (codes "connection") ≡ b
    → closes_by (connections fields) ≡ list_any is_closing fields → closes_by (connections (field ∷ fields)) ≡ list_any is_closing (field ∷ fields)
closing_first field fields true is others = rw is (ap (λ b. has_close field.1 || b) others)
closing_first field fields false is others = rw is others

-- a field closes the connection where one of the values of `Connection` has the option
pub closes_by-fields : (fields : List (List ℕ × List ℕ)) → closes_by (connections fields) ≡ list_any is_closing fields
closes_by-fields [] = refl
closes_by-fields (field ∷ fields) = closing_first field fields (str_eq_ignore_ascii_case field.0 (codes "connection")) refl (closes_by-fields fields)

-- one field that asks to close is enough
pub closing_at : (bytes : List ℕ) (fields : List HeaderSpan) (i : ℕ) (d : HeaderSpan) → i < length fields → is_closing (header_bytes bytes (get_or fields i d)) ≡ true
    → true ≡ closes_by (connections (map (header_bytes bytes) fields))
closing_at bytes fields i d within is =
    sym
    (closes_by-fields (map (header_bytes bytes) fields)
    ∙ list_any_at is_closing (map (header_bytes bytes) fields) i (header_bytes bytes d) (subst (λ n. i < n) (sym (length-map fields (header_bytes bytes))) within)
    (ap is_closing (get_or-map (header_bytes bytes) fields i d (header_bytes bytes d) within) ∙ is))

-- none of all fields does
pub none_closing : (bytes : List ℕ) (fields : List HeaderSpan) (i : ℕ) → length fields ≤ i → list_any is_closing (map (header_bytes bytes) (take i fields)) ≡ false
    → false ≡ closes_by (connections (map (header_bytes bytes) fields))
none_closing bytes fields i all none =
    sym (closes_by-fields (map (header_bytes bytes) fields) ∙ ap (λ fs. list_any is_closing (map (header_bytes bytes) fs)) (sym (take_all i fields all)) ∙ none)
