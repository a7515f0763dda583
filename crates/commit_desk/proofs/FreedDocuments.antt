-- What the desk keeps once the first column is taken off those whose documents are to be freed.
use Rattle.std.proofs.Common.{◌≡◌, ⊎_elim, inl, inr, ℕ, ◌+◌, ◌*◌, ◌/◌, ◌%◌, ◌<◌, true, List, length, Option, Some, None, refl, sym, ap, ◌∙◌, subst, arith}
use Rattle.std.proofs.Math.Nat.{div-add-mod, div-lt_iff_lt-mul, mod-lt}
use Rattle.document_store.specs.Documents.{Parts}
use Rattle.document_store.specs.Leaving.{LeavingState, TakesFirst, times_on}
use Rattle.document_store.specs.Slots.{IsColumn, MayHold, Table, is_over_in, slot_at}
use Rattle.document_store.specs.declared.column.Column.{Column}
use Rattle.document_store.specs.declared.column.Column.TheVariants as became
use Rattle.funnel_model.specs.declared.event.Event.{Event}
use Rattle.slice_rule.specs.Pools.{PoolId}
use Rattle.commit_desk.specs.Kept.{Books}
use Rattle.commit_desk.specs.Leaving.{IsKeepingDesk, LetsGo, MayGo, number_in}
use Rattle.commit_desk.proofs.AskedDocuments.{left-with}
use Rattle.commit_desk.proofs.Keeping.{column-whole, kept-but, kept-passed, let-go, same-column}
use Rattle.commit_desk.proofs.JobTurns.{some_column}
use Rattle.commit_desk.proofs.KeepingDesks.{left-gone}

-- a column that is over, and from which no document was taken off, has none
none_where_dropped : (c : Column) (doc : Option Parts) → MayHold c doc → is_over_in c ≡ true → ((added since until : ℕ) → c ≡ became.Over added since until → ⊥) → doc ≡ None
none_where_dropped became.Free doc holds over none = holds
none_where_dropped (became.Pending pass) doc holds over none = holds
none_where_dropped (became.Live added since) doc holds over none = cc
none_where_dropped (became.Over added since until) doc holds over none = absurd (none added since until refl)
none_where_dropped became.Dropped doc holds over none = holds

-- a number of a column among those of all slices is that of one in a slice
record IsNumbered (slices columns number : ℕ) : Type 0 where
  slice : number / columns < slices
  column : number % columns < columns
  is : number / columns * columns + number % columns ≡ number

numbered : (slices columns number : ℕ) → 0 < columns → number < slices * columns → IsNumbered slices columns number
numbered slices columns number some below = record {
  slice = (div-lt_iff_lt-mul some).1 below;
  column = mod-lt number some;
  is = let h = div-add-mod number columns in omega (arith, h);
}

-- the column with this number is the first that was taken off, and is on no list
pub record IsTakenOff (books : Books) (leaving after : LeavingState) (number : ℕ) : Type 0 where
  pub here : IsColumn books.table (number / books.columns) (number % books.columns)
  pub first : TakesFirst leaving (number_in books.table (number / books.columns) (number % books.columns)) after
  pub off : times_on after (number_in books.table (number / books.columns) (number % books.columns)) ≡ 0

pub taken-off : (pool : PoolId) (most : ℕ) (history : List Event) (books : Books) (leaving after : LeavingState) → IsKeepingDesk pool most history books leaving → (number : ℕ) →
    TakesFirst leaving number after → number < leaving.columns → times_on after number ≡ 0 → IsTakenOff books leaving after number
taken-off pool most history books leaving after is number first within off =
    let desk = is.desk in
    let some : 0 < books.columns =
    let h = some_column pool most history (record books { table = is.whole }) desk in let k = desk.kept.columns_are in omega (arith, h, k) in
    let same : books.columns ≡ books.table.columns = desk.kept.columns_are ∙ sym desk.kept.recorded.columns_are ∙ sym is.left.columns in
    let below : number < books.table.slices * books.columns =
    subst (λ n. number < books.table.slices * n) (sym same) (subst (λ n. number < n) is.documents.columns_are within) in
    let n = numbered books.table.slices books.columns number some below in
    let number_is : number ≡ number_in books.table (number / books.columns) (number % books.columns) =
    sym n.is ∙ ap (λ k. number / books.columns * k + number % books.columns) same in
    record {
      here = record { slice_in_range = n.slice; column_in_range = subst (λ k. number % books.columns < k) same n.column };
      first = subst (λ k. TakesFirst leaving k after) number_is first;
      off = subst (λ k. times_on after k ≡ 0) number_is off;
    }

module _ (pool : PoolId) (most : ℕ) (history : List Event) (books : Books) (leaving after : LeavingState) (is : IsKeepingDesk pool most history books leaving) (s c : ℕ)
    (first : TakesFirst leaving (number_in books.table s c) after) (off : times_on after (number_in books.table s c) ≡ 0) (here : IsColumn books.table s c) where
  size_now : length books.table.slots ≡ books.table.slices * books.table.columns
  size_now =
      is.left.size ∙ is.desk.kept.recorded.size ∙ ap (λ n. n * is.whole.columns) (sym is.left.slices) ∙ ap (λ n. books.table.slices * n) (sym is.left.columns)

  -- it is passed over where no document was taken off it
  pub passed-over : MayHold (slot_at books.table s c).column (slot_at books.table s c).doc → ((added since until : ℕ) → (slot_at books.table s c).column ≡ became.Over added since until → ⊥) →
      IsKeepingDesk pool most history books after
  passed-over holds none = record {
    whole = is.whole;
    desk = is.desk;
    left = is.left;
    documents = kept-passed books.tokens books.table leaving after s c is.documents first off here
        (λ doc over has. none_some doc (sym (none_where_dropped (slot_at books.table s c).column (slot_at books.table s c).doc holds over none) ∙ has));
  } where
    none_some : (d : Parts) → None ≡ Some d → ⊥
    none_some d is = cc

  module _ (added since until : ℕ) (over : (slot_at books.table s c).column ≡ became.Over added since until) (kept : LeavingState) (next : Table) (gone : Option Parts)
      (lets : LetsGo books.tokens s c since until after kept books.table next gone) where
    here_whole : IsColumn is.whole s c
    here_whole = column-whole is.whole books.table s c is.left here

    over_whole : (slot_at is.whole s c).column ≡ became.Over added since until
    over_whole = sym (same-column is.whole books.table s c is.left here_whole) ∙ over

    -- its document goes or is kept
    pub let-go-on : (now : Books) → now ≡ record books { table = next } → IsKeepingDesk pool most history now kept
    let-go-on now is_now =
        subst (λ (b : Books). IsKeepingDesk pool most history b kept) (sym is_now) (record {
          whole = is.whole;
          desk = is.desk;
          left = left-gone is.whole books.table next s c (slot_at is.whole s c) is.left is.desk.kept.recorded.size here_whole refl (ap is_over_in over_whole)
              (⊎_elim (λ taken. inr taken.table_is) (λ stays. inl stays.table_is) lets);
          documents = let-go books.tokens books.table after s c since until (kept-but books.tokens books.table leaving after s c is.documents first off here) size_now here (added, over) kept next gone lets;
        })

    -- and one that goes may go
    pub goes-rightly : (doc : Parts) → gone ≡ Some doc → MayGo history doc
    goes-rightly doc went =
        let desk = is.desk.kept in
        let d = left-with pool.limits history is.whole books.table desk.legal desk.recorded is.left s c since until here (added, over) in
        ⊎_elim
        (λ taken.
        let there : (slot_at books.table s c).doc ≡ Some doc = sym taken.doc ∙ went in
        let same : (slot_at is.whole s c).doc ≡ Some doc =
        ⊎_elim (λ equal. sym equal ∙ there) (λ lost. absurd (none_some doc (sym lost.1 ∙ there))) (is.left.each s c here_whole).doc in
        let one = d.2 doc same in
        record {
          slice = s;
          column = c;
          document = d.0;
          since = since;
          until = until;
          left = d.1;
          id = one.0;
          text = one.1;
          not_asked = λ asked.
              taken.none_asks asked.0 asked.1 (record { opened = (desk.tokens_are.each asked.0 asked.1).1 asked.2; after = asked.3; before = asked.4 });
        })
        (λ stays. absurd (none_some doc (sym stays.none_goes ∙ went)))
        lets
      where
        none_some : (d : Parts) → None ≡ Some d → ⊥
        none_some d is = cc
