-- What the desk keeps, where a column's record is another, and where the document of a column leaves it.
use Rattle.std.proofs.Common.{◌≡◌, ◌⊎◌, ⊎_elim, inl, inr, ℕ, ◌+◌, ◌*◌, ◌<◌, true, false, List, length, Option, Some, None, refl, sym, ap, ◌∙◌, subst, arith}
use Rattle.std.proofs.lemmas.List.{length-set, set-get_or}
use Rattle.document_store.proofs.SlotLemmas.{slot_at-with_slot}
use Rattle.document_store.specs.Documents.{Parts}
use Rattle.document_store.specs.Leaving.{LeavingState}
use Rattle.document_store.specs.Slots.{IsColumn, Table, free_slot, is_over, is_over_in, slot_at, with_slice, with_slot, without_doc, without_slice}
use Rattle.document_store.specs.declared.column.Column.TheVariants as became
use Rattle.document_store.specs.declared.slots.Slot.{Slot}
use Rattle.funnel_model.specs.declared.event.Event.{Event}
use Rattle.funnel_model.specs.Legal.{Limits}
use Rattle.funnel_model.specs.Sizes.{columns_of_slice}
use Rattle.slice_rule.specs.Pools.{PoolId}
use Rattle.slice_rule.specs.Seats.{HomeState}
use Rattle.token_manager.specs.Guarding.{HasOpened}
use Rattle.commit_desk.specs.Desks.{DeskState}
use Rattle.commit_desk.specs.Kept.{Books, IsDesk}
use Rattle.commit_desk.specs.Leaving.{AreKept, IsKeepingDesk, IsLeft, IsLeftOf, IsOverFrom, LetsGo, MayAskFor}
use Rattle.commit_desk.specs.Records.{IsLiveIn}
use Rattle.commit_desk.proofs.Keeping.{AreKeptBut, column-left, kept-back, kept-out, kept-slot, kept_is_over, left-back, left-out, left-slot, let-go, over-left, size-left}
use Rattle.commit_desk.proofs.MadeEvents.{desk_at}
use Rattle.commit_desk.proofs.RecordFacts.{is_column}
use Rattle.commit_desk.proofs.KeptNew.{few_columns}
use Rattle.commit_desk.proofs.Slots.{live_not_over, with_slot-cases}

-- a live document is there
pub live-left : (whole left : Slot) (doc : Parts) (l : IsLiveIn whole doc) → IsLeft whole left → (left.column ≡ became.Live l.added l.since) × (left.doc ≡ Some doc)
live-left whole left doc l is = (
  is.column ∙ l.column,
  ⊎_elim (λ same. same ∙ l.doc_is) (λ gone. absurd (true_is_false (sym gone.0 ∙ live_not_over whole doc l))) is.doc,
) where
  true_is_false : true ≡ false → ⊥
  true_is_false is = cc

-- a live column has its document still
pub same-doc : (whole left : Table) (slice column added since : ℕ) → IsLeftOf whole left → IsColumn whole slice column → (slot_at whole slice column).column ≡ became.Live added since →
    (slot_at left slice column).doc ≡ (slot_at whole slice column).doc
same-doc whole left slice column added since is here lives =
    ⊎_elim (λ same. same) (λ gone. absurd (false_is_true (sym (ap is_over_in lives) ∙ gone.0))) (is.each slice column here).doc where
      false_is_true : false ≡ true → ⊥
      false_is_true is = cc

-- a column of the engine is one of the records
pub column-seen : (now : DeskState) (home : HomeState) (most : ℕ) (books : Books) → IsDesk home.pool most home.history books → desk_at home most ≡ now → (slice column : ℕ) →
    slice < now.pool.limits.slices → column < now.pool.limits.columns → IsColumn books.table slice column
column-seen now home most books desk view slice column of_slice of_column =
    is_column home.pool.limits home.history books.table desk.kept.legal desk.kept.recorded slice column (subst (λ (b : DeskState). slice < b.pool.limits.slices) (sym view) of_slice)
    (subst (λ (b : DeskState). column < b.pool.limits.columns) (sym view) of_column)

-- the columns of all slices have numbers of 32 bits
pub few-left : (pool : PoolId) (most : ℕ) (history : List Event) (books : Books) (leaving : LeavingState) → IsKeepingDesk pool most history books leaving →
    books.table.slices * books.table.columns < 4294967296
few-left pool most history books leaving is =
    let rec = is.desk.kept.recorded in
    let few = few_columns pool.config is.desk.in_range in
    let slices : books.table.slices ≡ pool.config.slices = is.left.slices ∙ rec.slices_are ∙ ap (λ (l : Limits). l.slices) is.desk.sizes in
    let columns : books.table.columns ≡ columns_of_slice pool.config = is.left.columns ∙ rec.columns_are ∙ ap (λ (l : Limits). l.columns) is.desk.sizes in
    let both : books.table.slices * books.table.columns ≡ pool.config.slices * columns_of_slice pool.config =
    ap (λ n. n * books.table.columns) slices ∙ ap (λ n. pool.config.slices * n) columns in
    omega (arith, few, both)

-- what is asked where the document of a column that is over is let go
pub record MayLetGo (tokens : List (Option ℕ)) (leaving : LeavingState) (table : Table) (s c columns : ℕ) : Type 0 where
  pub in_range : IsColumn table s c
  pub over : is_over (slot_at table s c) ≡ true
  pub columns_are : columns ≡ table.columns
  pub each : leaving.columns ≡ table.slices * table.columns
  pub few : table.slices * table.columns < 4294967296
  pub passes : length leaving.asked ≡ length tokens

-- what is left once a document that left its column goes or stays
pub left-gone : (whole left next : Table) (s c : ℕ) (slot : Slot) → IsLeftOf whole left → length whole.slots ≡ whole.slices * whole.columns → IsColumn whole s c → slot_at whole s c ≡ slot → is_over slot ≡ true →
    (next ≡ left) ⊎ (next ≡ with_slot left s c (without_doc (slot_at left s c))) → IsLeftOf whole next
left-gone whole left next s c slot is size here slot_is over changed =
    ⊎_elim (λ same. subst (IsLeftOf whole) (sym same) is)
    (λ gone.
    let now : IsLeft (slot_at whole s c) (without_doc (slot_at left s c)) = record {
      column = (is.each s c here).column;
      doc = inr (ap is_over slot_is ∙ over, refl);
    } in
    let both : IsLeftOf (with_slot whole s c (slot_at whole s c)) (with_slot left s c (without_doc (slot_at left s c))) = left-slot whole left is size s c (slot_at whole s c) (without_doc (slot_at left s c)) here now in
    subst (IsLeftOf whole) (sym gone) (subst (λ (t : Table). IsLeftOf t (with_slot left s c (without_doc (slot_at left s c)))) (with-own whole s c) both))
    changed
  where
    with-own : (t : Table) (s c : ℕ) → with_slot t s c (slot_at t s c) ≡ t
    with-own t s c = ap (λ (slots : List Slot). record t { slots = slots }) (set-get_or t.slots (s * t.columns + c) free_slot)

module _ (pool : PoolId) (most : ℕ) (history : List Event) (books : Books) (leaving : LeavingState) (is : IsKeepingDesk pool most history books leaving) where
  size_whole : length is.whole.slots ≡ is.whole.slices * is.whole.columns
  size_whole = is.desk.kept.recorded.size

  size_now : length books.table.slots ≡ books.table.slices * books.table.columns
  size_now = is.left.size ∙ size_whole ∙ ap (λ n. n * is.whole.columns) (sym is.left.slices) ∙ ap (λ n. books.table.slices * n) (sym is.left.columns)

  here-now : (s c : ℕ) → IsColumn is.whole s c → IsColumn books.table s c
  here-now s c here = column-left is.whole books.table s c is.left here

  not_over_now : (s c : ℕ) → IsColumn is.whole s c → is_over (slot_at is.whole s c) ≡ false → is_over (slot_at books.table s c) ≡ false
  not_over_now s c here not_over = over-left (slot_at is.whole s c) (slot_at books.table s c) (is.left.each s c here) ∙ not_over

  -- a column's record, which wasn't over, is another, and no find may ask for what is there
  pub keeping-slot : (next : PoolId) (later : List Event) (after : Books) (s c : ℕ) (y : Slot) → IsDesk next most later (record after { table = with_slot is.whole s c y }) →
      after.table ≡ with_slot books.table s c y → after.tokens ≡ books.tokens → IsColumn is.whole s c → is_over (slot_at is.whole s c) ≡ false →
      ((since until : ℕ) → IsOverFrom y since until → ⊥) → ((doc : Parts) → is_over y ≡ true → y.doc ≡ Some doc → ⊥) → IsKeepingDesk next most later after leaving
  keeping-slot next later after s c y desk table tokens here not_over none_over none_there = record {
    whole = with_slot is.whole s c y;
    desk = desk;
    left = subst (IsLeftOf (with_slot is.whole s c y)) (sym table) (left-slot is.whole books.table is.left size_whole s c y y here (record { column = refl; doc = inl refl }));
    documents = subst (λ (t : Table). AreKept after.tokens t leaving) (sym table)
        (subst (λ (ts : List (Option ℕ)). AreKept ts (with_slot books.table s c y) leaving) (sym tokens)
        (kept-slot books.tokens books.table leaving is.documents s c y size_now (here-now s c here) (not_over_now s c here not_over) none_over none_there));
  }

  -- the slots of a slice are taken out, for none of whose documents a find may ask
  pub keeping-out : (next : PoolId) (later : List Event) (after : Books) (s : ℕ) → IsDesk next most later (record after { table = without_slice is.whole s }) → after.table ≡ without_slice books.table s →
      after.tokens ≡ books.tokens → s < is.whole.slices → ((column pass : ℕ) → IsColumn books.table s column → MayAskFor books.tokens (slot_at books.table s column) pass → ⊥) → IsKeepingDesk next most later after leaving
  keeping-out next later after s desk table tokens in' none = record {
    whole = without_slice is.whole s;
    desk = desk;
    left = subst (IsLeftOf (without_slice is.whole s)) (sym table) (left-out is.whole books.table is.left size_whole s in');
    documents = subst (λ (t : Table). AreKept after.tokens t leaving) (sym table)
        (subst (λ (ts : List (Option ℕ)). AreKept ts (without_slice books.table s) leaving) (sym tokens)
        (kept-out books.tokens books.table leaving is.documents s size_now (let h = is.left.slices in omega (arith, h, in')) none));
  }

  -- and put back
  pub keeping-back : (next : PoolId) (later : List Event) (after : Books) (s : ℕ) → IsDesk next most later (record after { table = with_slice is.whole s }) → after.table ≡ with_slice books.table s →
      after.tokens ≡ books.tokens → IsKeepingDesk next most later after leaving
  keeping-back next later after s desk table tokens = record {
    whole = with_slice is.whole s;
    desk = desk;
    left = subst (IsLeftOf (with_slice is.whole s)) (sym table) (left-back is.whole books.table is.left size_whole s);
    documents = subst (λ (t : Table). AreKept after.tokens t leaving) (sym table)
        (subst (λ (ts : List (Option ℕ)). AreKept ts (with_slice books.table s) leaving) (sym tokens) (kept-back books.tokens books.table leaving is.documents s));
  }

  -- the document of a live column leaves it
  module _ (s c : ℕ) (doc : Parts) (l : IsLiveIn (slot_at is.whole s c) doc) (here : IsColumn is.whole s c) (until : ℕ) where
    abbrev over_now : Slot
    over_now = record { column = became.Over l.added l.since until; doc = Some doc }

    own : (slot_at books.table s c).doc ≡ Some doc
    own = (live-left (slot_at is.whole s c) (slot_at books.table s c) doc l (is.left.each s c here)).1

    middle_left : IsLeftOf (with_slot is.whole s c over_now) (with_slot books.table s c over_now)
    middle_left = left-slot is.whole books.table is.left size_whole s c over_now over_now here (record { column = refl; doc = inl refl })

    middle_but : AreKeptBut books.tokens (with_slot books.table s c over_now) leaving s c
    middle_but =
        let at_own = here-now s c here in
        let not_over = not_over_now s c here (live_not_over (slot_at is.whole s c) doc l) in record {
          passes_are = is.documents.passes_are;
          columns_are = is.documents.columns_are;
          there = λ slice column pass at' asks.
              let at : IsColumn books.table slice column = record { slice_in_range = at'.slice_in_range; column_in_range = at'.column_in_range } in
              ⊎_elim (λ one. (doc, ap (λ (x : Slot). x.doc) one.3))
              (λ other. subst (λ (x : Slot). (d : Parts) × (x.doc ≡ Some d)) (sym other.1) (is.documents.there slice column pass at (subst (λ (x : Slot). MayAskFor books.tokens x pass) other.1 asks)))
              (with_slot-cases books.table s c over_now slice column at_own at size_now);
          listed = λ slice column d at' apart over has.
              let at : IsColumn books.table slice column = record { slice_in_range = at'.slice_in_range; column_in_range = at'.column_in_range } in
              ⊎_elim (λ one. absurd (apart (sym one.1) (sym one.2)))
              (λ other. is.documents.listed slice column d at (sym (ap is_over other.1) ∙ over) (sym (ap (λ (x : Slot). x.doc) other.1) ∙ has))
              (with_slot-cases books.table s c over_now slice column at_own at size_now);
          asked = λ pass slice column at' apart has.
              let at : IsColumn books.table slice column = record { slice_in_range = at'.slice_in_range; column_in_range = at'.column_in_range } in
              ⊎_elim (λ one. absurd (apart (sym one.1) (sym one.2)))
              (λ other. subst (λ (x : Slot). MayAskFor books.tokens x pass) (sym other.1) (is.documents.asked pass slice column at has))
              (with_slot-cases books.table s c over_now slice column at_own at size_now);
          not_asked = λ pass has. kept_is_over books.tokens books.table leaving is.documents pass s c at_own not_over has;
        }

    -- so it may be let go
    pub may-let-go : (middle : Table) → middle ≡ with_slot books.table s c (record { column = became.Over l.added l.since until; doc = (slot_at books.table s c).doc }) →
        MayLetGo books.tokens leaving middle s c books.columns
    may-let-go middle table =
        let h = here-now s c here in
        let y : Slot = record { column = became.Over l.added l.since until; doc = (slot_at books.table s c).doc } in
        subst (λ (t : Table). MayLetGo books.tokens leaving t s c books.columns) (sym table) (record {
          in_range = record { slice_in_range = h.slice_in_range; column_in_range = h.column_in_range };
          over = ap is_over (slot_at-with_slot books.table s c y h size_now);
          columns_are = is.desk.kept.columns_are ∙ sym is.desk.kept.recorded.columns_are ∙ sym is.left.columns;
          each = is.documents.columns_are;
          few = few-left pool most history books leaving is;
          passes = is.documents.passes_are;
        })

    module _ (after : LeavingState) (middle next : Table) (gone : Option Parts) (table : middle ≡ with_slot books.table s c (record { column = became.Over l.added l.since until; doc = (slot_at books.table s c).doc }))
        (lets : LetsGo books.tokens s c l.since until leaving after middle next gone) where
      middle_is : middle ≡ with_slot books.table s c over_now
      middle_is = table ∙ ap (λ (d : Option Parts). with_slot books.table s c (record { column = became.Over l.added l.since until; doc = d })) own

      lets_so : LetsGo books.tokens s c l.since until leaving after (with_slot books.table s c over_now) next gone
      lets_so = subst (λ (t : Table). LetsGo books.tokens s c l.since until leaving after t next gone) middle_is lets

      here_then : IsColumn (with_slot books.table s c over_now) s c
      here_then = let h = here-now s c here in record { slice_in_range = h.slice_in_range; column_in_range = h.column_in_range }

      slot_then : slot_at (with_slot books.table s c over_now) s c ≡ over_now
      slot_then = slot_at-with_slot books.table s c over_now (here-now s c here) size_now

      pub gone-left : IsLeftOf (with_slot is.whole s c over_now) next
      gone-left =
          left-gone (with_slot is.whole s c over_now) (with_slot books.table s c over_now) next s c over_now middle_left (length-set is.whole.slots (s * is.whole.columns + c) over_now ∙ size_whole)
          (record { slice_in_range = here.slice_in_range; column_in_range = here.column_in_range }) (slot_at-with_slot is.whole s c over_now here size_whole) refl
          (⊎_elim (λ taken. inr taken.table_is) (λ kept. inl kept.table_is) lets_so)

      pub gone-kept : AreKept books.tokens next after
      gone-kept =
          let-go books.tokens (with_slot books.table s c over_now) leaving s c l.since until middle_but (length-set books.table.slots (s * books.table.columns + c) over_now ∙ size_now) here_then
          (l.added, ap (λ (x : Slot). x.column) slot_then) after next gone lets_so

      -- where it goes, it is the one that was live, and no find may ask for it; and where it stays one may
      pub gone-or-stays : ((gone ≡ Some doc) × ((pass event : ℕ) → HasOpened books.tokens pass event → l.since < event → event < until → ⊥))
          ⊎ ((gone ≡ None) × (pass : ℕ) × (event : ℕ) × HasOpened books.tokens pass event × (l.since < event))
      gone-or-stays =
          ⊎_elim
          (λ taken. inl (taken.doc ∙ ap (λ (x : Slot). x.doc) slot_then, λ pass event opened later before. taken.none_asks pass event (record { opened = opened; after = later; before = before })))
          (λ kept. inr (kept.none_goes, kept.pass, kept.asker.event, kept.asker.may_ask.opened, kept.asker.may_ask.after))
          lets_so

      -- and then another column, which isn't over, gets another record
      module _ (other at : ℕ) (y : Slot) (there : IsColumn (with_slot is.whole s c over_now) other at) where
        size_then : length (with_slot is.whole s c over_now).slots ≡ is.whole.slices * is.whole.columns
        size_then = length-set is.whole.slots (s * is.whole.columns + c) over_now ∙ size_whole

        pub added-left : IsLeftOf (with_slot (with_slot is.whole s c over_now) other at y) (with_slot next other at y)
        added-left = left-slot (with_slot is.whole s c over_now) next gone-left size_then other at y y there (record { column = refl; doc = inl refl })

        pub added-kept : is_over (slot_at (with_slot is.whole s c over_now) other at) ≡ false → ((since until : ℕ) → IsOverFrom y since until → ⊥) →
            ((d : Parts) → is_over y ≡ true → y.doc ≡ Some d → ⊥) → AreKept books.tokens (with_slot next other at y) after
        added-kept not_over none_over none_there =
            kept-slot books.tokens next after gone-kept other at y (size-left (with_slot is.whole s c over_now) next gone-left size_then)
            (column-left (with_slot is.whole s c over_now) next other at gone-left there)
            (over-left (slot_at (with_slot is.whole s c over_now) other at) (slot_at next other at) (gone-left.each other at there) ∙ not_over) none_over none_there
