-- What a find makes of a candidate: the pair by the test is that of the document kept.
use Rattle.std.proofs.Common.{◌≡◌, ℕ, suc, ◌<◌, ◌≤◌, Bool, true, false, cond, ltb, List, [], ◌∷◌, length, Option, Some, None, refl, ap, ◌∙◌, subst, arith, filter_map}
use Rattle.std.specs.List.{cons_option}
use Rattle.std.specs.Option.{option_and_then, option_map_or}
use Rattle.std.proofs.lemmas.Bool.{cond-true, ltb-true, lt-ltb, and_parts, and_from}
use Rattle.std.proofs.lemmas.Option.{option_and_then_some}
use Rattle.document_store.specs.Documents.{Parts}
use Rattle.document_store.specs.Finding.{kept_in, looked_in, place_if_live}
use Rattle.document_store.specs.declared.column.Column.{Column}
use Rattle.document_store.specs.declared.column.Column.TheVariants as column
use Rattle.document_store.specs.declared.slots.Slot.{Slot}

-- the column's document was live in it as the event with this number came: an event before that put it there, and none took it off
-- before
abbrev pub WasLiveAt : Column → ℕ → Type 0
WasLiveAt (column.Live place since) number = since < number
WasLiveAt (column.Over place since until) number = (since < number) × (number < until)
WasLiveAt _ number = ⊥

-- the place at which the column's document was added
abbrev pub AddedAt : Column → ℕ → Type 0
AddedAt (column.Live added since) place = added ≡ place
AddedAt (column.Over added since until) place = added ≡ place
AddedAt _ place = ⊥

-- by its parts, what the test gives of a column
pub kept_in-parts : (slot : Slot) (test : List ℕ → Bool) (number place : ℕ) (doc : Parts) (b : Bool) → place_if_live slot.column number ≡ Some place → slot.doc ≡ Some doc → test doc.text ≡ b →
    kept_in slot test number ≡ cond b (Some (place, doc.id)) None
kept_in-parts slot test number place doc b live kept keeps =
    ap (option_and_then (λ (p : ℕ). option_and_then (λ (d : Parts). cond (test d.text) (Some (p, d.id)) None) slot.doc)) live
    ∙ ap (option_and_then (λ (d : Parts). cond (test d.text) (Some (place, d.id)) None)) kept
    ∙ ap (λ t. cond t (Some (place, doc.id)) None) keeps

-- the place of the add is given exactly where the column was live
pub place_if_live-gives : (x : Column) (number place : ℕ) → WasLiveAt x number → AddedAt x place → place_if_live x number ≡ Some place
place_if_live-gives (column.Live p since) number place live is = cond-true (ltb since number) (Some p) None (lt-ltb since number live) ∙ ap Some is
place_if_live-gives (column.Over p since until) number place live is =
    cond-true _ (Some p) None (and_from (ltb since number) (ltb number until) (lt-ltb since number live.0) (lt-ltb number until live.1)) ∙ ap Some is
place_if_live-gives column.Free number place live is = absurd live
place_if_live-gives (column.Pending pass) number place live is = absurd live
place_if_live-gives column.Dropped number place live is = absurd live

pub chosen_some : {X : Type 0} (b : Bool) (x y : X) → cond b (Some x) None ≡ Some y → (b ≡ true) × (x ≡ y)
chosen_some true x y e = (refl, cc)
chosen_some false x y e = cc

pub place_if_live-tells : (x : Column) (number place : ℕ) → place_if_live x number ≡ Some place → WasLiveAt x number × AddedAt x place
place_if_live-tells (column.Live p since) number place e =
    let parts = chosen_some (ltb since number) p place e in (ltb-true since number parts.0, parts.1)
place_if_live-tells (column.Over p since until) number place e =
    let parts = chosen_some _ p place e in
    let both = and_parts (ltb since number) (ltb number until) parts.0 in
    ((ltb-true since number both.0, ltb-true number until both.1), parts.1)
place_if_live-tells column.Free number place e = cc
place_if_live-tells (column.Pending pass) number place e = cc
place_if_live-tells column.Dropped number place e = cc

-- a column with a document that was live in it, as the find with this number began
pub record HadLive (slot : Slot) (number : ℕ) : Type 0 where
  pub place : ℕ
  pub doc : Parts
  pub was_live : WasLiveAt slot.column number
  pub added : AddedAt slot.column place
  pub kept : slot.doc ≡ Some doc

-- as many words are looked for in such a column as in each document
pub looked_where_live : (slot : Slot) (cost number : ℕ) → HadLive slot number → looked_in slot cost number ≡ cost
looked_where_live slot cost number had =
    ap (λ (p : Option ℕ). option_map_or (λ (_ : ℕ). option_map_or (λ (_ : Parts). cost) slot.doc 0) p 0) (place_if_live-gives slot.column number had.place had.was_live had.added)
    ∙ ap (λ (d : Option Parts). option_map_or (λ (_ : Parts). cost) d 0) had.kept

-- and none in any other
pub looked_elsewhere : (slot : Slot) (cost number : ℕ) → (HadLive slot number → ⊥) → looked_in slot cost number ≡ 0
looked_elsewhere slot cost number none =
    looked_none (place_if_live slot.column number) slot.doc cost
    (λ place doc live kept. let told = place_if_live-tells slot.column number place live in none (record { place = place; doc = doc; was_live = told.0; added = told.1; kept = kept }))
  where
    looked_none : (place : Option ℕ) (doc : Option Parts) (count : ℕ) → ((p : ℕ) (d : Parts) → place ≡ Some p → doc ≡ Some d → ⊥) →
        option_map_or (λ (_ : ℕ). option_map_or (λ (_ : Parts). count) doc 0) place 0 ≡ 0
    looked_none None doc count none = refl
    looked_none (Some p) None count none = refl
    looked_none (Some p) (Some d) count none = absurd (none p d refl refl)

-- what a column gives: its document was live in it as the find with this number began, and its text passes the test; the pair is the place
-- of its add and its number
pub record IsKept (slot : Slot) (test : List ℕ → Bool) (number : ℕ) (found : ℕ × ℕ) : Type 0 where
  pub doc : Parts
  pub was_live : WasLiveAt slot.column number
  pub added : AddedAt slot.column found.0
  pub kept : slot.doc ≡ Some doc
  pub id_is : doc.id ≡ found.1
  pub passes : test doc.text ≡ true

pub kept_in-tells : (slot : Slot) (test : List ℕ → Bool) (number : ℕ) (found : ℕ × ℕ) → kept_in slot test number ≡ Some found → IsKept slot test number found
kept_in-tells slot test number found e =
    option_and_then_some (λ (p : ℕ). option_and_then (λ (d : Parts). cond (test d.text) (Some (p, d.id)) None) slot.doc) (place_if_live slot.column number) found e
    (λ place live given. option_and_then_some (λ (d : Parts). cond (test d.text) (Some (place, d.id)) None) slot.doc found given
    (λ doc kept chosen.
    let parts = chosen_some (test doc.text) (place, doc.id) found chosen in
    let told = place_if_live-tells slot.column number place live in
    record {
      doc = doc;
      was_live = told.0;
      added = subst (AddedAt slot.column) (ap (λ (p : ℕ × ℕ). p.0) parts.1) told.1;
      kept = kept;
      id_is = ap (λ (p : ℕ × ℕ). p.1) parts.1;
      passes = parts.0;
    }))

-- and the test gives it
pub kept_in-gives : (slot : Slot) (test : List ℕ → Bool) (number : ℕ) (found : ℕ × ℕ) → IsKept slot test number found → kept_in slot test number ≡ Some found
kept_in-gives slot test number found is =
    kept_in-parts slot test number found.0 is.doc true (place_if_live-gives slot.column number found.0 is.was_live is.added) is.kept is.passes
    ∙ ap (λ n. Some (found.0, n)) is.id_is

-- each item gives at most one
pub length-filter_map : {X Y : Type 0} (h : X → Option Y) (xs : List X) → length (filter_map h xs) ≤ length xs
length-filter_map h [] = omega arith
length-filter_map h (x ∷ xs) = at_most_one (h x) (filter_map h xs) (length xs) (length-filter_map h xs) where
  at_most_one : {Y : Type 0} (o : Option Y) (ys : List Y) (n : ℕ) → length ys ≤ n → length (cons_option o ys) ≤ suc n
  at_most_one None ys n low = omega arith
  at_most_one (Some y) ys n low = omega arith
