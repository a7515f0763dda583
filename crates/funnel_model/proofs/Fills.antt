-- Which events fill a slice, and what they put on a column.
use Rattle.std.proofs.Common.{◌≡◌, ℕ, ◌⊎◌, ⊎_elim, inl, inr, Bool, true, false, cond, List, [], Option, Some, None, refl, ap, eq-eqb}
use Rattle.std.proofs.lemmas.Bool.{and_from, and_parts, false≢true}
use Rattle.std.specs.Option.{is_some}
use Rattle.std.specs.Prelude.{◌↔◌, ◌==◌, ◌&&◌}
use Rattle.funnel_model.specs.declared.bit_list.Bit.{Bit}
use Rattle.funnel_model.specs.declared.event.Event.{Event}
use Rattle.funnel_model.specs.declared.event.Event.TheVariants as event
use Rattle.funnel_model.specs.Events.{bits_added_in, bits_on, column_taken_in, drops_on, fills, put_on}

-- the event takes a column of the slice, puts a document on one, or leaves one without
abbrev TakesOrEnds : ℕ → Event → Type 0
TakesOrEnds slice e = (column : ℕ) × ((column_taken_in slice e ≡ Some column) ⊎ (is_some (put_on slice column e) ≡ true) ⊎ (drops_on slice column e ≡ true))

at_column : (b : Bool) (column : ℕ) → b ≡ true → (b && column == column) ≡ true
at_column b column is = and_from b (column == column) is (eq-eqb column column refl)

puts_there : (b : Bool) (id column : ℕ) → b ≡ true → is_some (cond (b && column == column) (Some id) None) ≡ true
puts_there b id column is = ap (λ x. is_some (cond x (Some id) None)) (at_column b column is)

taken_at : (b : Bool) (at column : ℕ) → (let o : Option ℕ = cond b (Some at) None in o ≡ Some column) → b ≡ true
taken_at true at column is = refl
taken_at false at column is = cc

put_at : (b : Bool) (id : ℕ) → is_some (cond b (Some id) None) ≡ true → b ≡ true
put_at true id is = refl
put_at false id is = is

takes_or_ends : (slice : ℕ) (e : Event) → fills slice e ≡ true → TakesOrEnds slice e
takes_or_ends slice (event.Take pass taken column) is = (column, inl (ap (λ b. cond b (Some column) None) is))
takes_or_ends slice (event.Add pass id text added column bits) is = (column, inr (inl (puts_there (added == slice) id column is)))
takes_or_ends slice (event.Drop pass id text dropped column) is = (column, inr (inr (at_column (dropped == slice) column is)))
takes_or_ends slice (event.Move pass id moved column bits) is = (column, inr (inl (puts_there (moved == slice) id column is)))
takes_or_ends slice (event.Void pass voided column) is = (column, inr (inr (at_column (voided == slice) column is)))
takes_or_ends slice _ is = absurd (false≢true is)

none_some : (column : ℕ) → (let o : Option ℕ = None in o ≡ Some column) → ⊥
none_some column is = cc

not_either : false ≡ true ⊎ false ≡ true → ⊥
not_either both = ⊎_elim false≢true false≢true both

not_any : (column : ℕ) → ((let o : Option ℕ = None in o ≡ Some column) ⊎ false ≡ true ⊎ false ≡ true) → ⊥
not_any column any = ⊎_elim (none_some column) not_either any

fills_it : (slice : ℕ) (e : Event) → TakesOrEnds slice e → fills slice e ≡ true
fills_it slice (event.Take pass taken at) (column, how) = ⊎_elim (taken_at (taken == slice) at column) (λ both. absurd (not_either both)) how
fills_it slice (event.Add pass id text added at bits) (column, how) =
    ⊎_elim (λ is. absurd (none_some column is))
    (λ rest. ⊎_elim (λ put. (and_parts (added == slice) (at == column) (put_at (added == slice && at == column) id put)).0) (λ is. absurd (false≢true is)) rest) how
fills_it slice (event.Drop pass id text dropped at) (column, how) =
    ⊎_elim (λ is. absurd (none_some column is))
    (λ rest. ⊎_elim (λ is. absurd (false≢true is)) (λ drops. (and_parts (dropped == slice) (at == column) drops).0) rest) how
fills_it slice (event.Move pass id moved at bits) (column, how) =
    ⊎_elim (λ is. absurd (none_some column is))
    (λ rest. ⊎_elim (λ put. (and_parts (moved == slice) (at == column) (put_at (moved == slice && at == column) id put)).0) (λ is. absurd (false≢true is)) rest) how
fills_it slice (event.Void pass voided at) (column, how) =
    ⊎_elim (λ is. absurd (none_some column is))
    (λ rest. ⊎_elim (λ is. absurd (false≢true is)) (λ drops. (and_parts (voided == slice) (at == column) drops).0) rest) how
fills_it slice (event.Del pass id) (column, how) = absurd (not_any column how)
fills_it slice (event.Find pass query) (column, how) = absurd (not_any column how)
fills_it slice (event.End pass) (column, how) = absurd (not_any column how)
fills_it slice (event.Clear pass s) (column, how) = absurd (not_any column how)
fills_it slice (event.Opened pass s alone) (column, how) = absurd (not_any column how)
fills_it slice (event.Tune pass config) (column, how) = absurd (not_any column how)
fills_it slice (event.No pass asked) (column, how) = absurd (not_any column how)
fills_it slice (event.Read pass asked) (column, how) = absurd (not_any column how)

pub fills_by_kind : (slice : ℕ) (e : Event) → (fills slice e ≡ true) ↔ TakesOrEnds slice e
fills_by_kind slice e = (takes_or_ends slice e, fills_it slice e)

bits_there : (b c : Bool) (id : ℕ) (bits : List Bit) → cond (b && c) bits [] ≡ cond (is_some (cond (b && c) (Some id) None)) (cond b bits []) []
bits_there true true id bits = refl
bits_there true false id bits = refl
bits_there false c id bits = refl

-- the bits that an event puts on a column are those that it adds in the slice
pub bits_on-put : (slice column : ℕ) (e : Event) → bits_on slice column e ≡ cond (is_some (put_on slice column e)) (bits_added_in slice e) []
bits_on-put slice column (event.Add pass id text added at bits) = bits_there (added == slice) (at == column) id bits
bits_on-put slice column (event.Move pass id moved at bits) = bits_there (moved == slice) (at == column) id bits
bits_on-put slice column _ = refl
