-- When documents of columns that are over left them, and for which of them open finds may ask.
use Rattle.std.proofs.Common.{◌≡◌, ℕ, suc, ◌+◌, ◌-◌, ◌<◌, ◌≤◌, Bool, false, List, [], ◌∷◌, ◌++◌, length, take, drop, Option, Some, refl, sym, ap, ◌∙◌, subst, length-append, arith}
use Rattle.std.proofs.lemmas.Bool.{false_from_ne_true, or_parts}
use Rattle.std.proofs.lemmas.List.{take-append-drop, take-append-le, take_at}
use Rattle.std.proofs.lemmas.List.Folds.{list_any-append}
use Rattle.std.specs.List.{list_any}
use Rattle.document_store.specs.Documents.{Parts}
use Rattle.document_store.specs.Slots.{FitsColumn, IsColumn, Table, slot_at}
use Rattle.document_store.specs.declared.column.Column.{Column}
use Rattle.document_store.specs.declared.column.Column.TheVariants as became
use Rattle.document_store.specs.declared.slots.Slot.{Slot}
use Rattle.funnel_model.specs.declared.event.Event.{Event}
use Rattle.funnel_model.specs.declared.event.Event.TheVariants as event
use Rattle.funnel_model.specs.Events.{opens, takes_off}
use Rattle.funnel_model.specs.History.{Document}
use Rattle.funnel_model.specs.Legal.{IsAllowed, IsLegal, Limits}
use Rattle.funnel_model.specs.Slices.{Deleted, IsDeletedOn, IsInState, IsLiveOn, is_clearing}
use Rattle.funnel_model.specs.Tokens.{HasToken, MayRead}
use Rattle.funnel_model.proofs.Histories.{legal_before}
use Rattle.funnel_model.proofs.LiveColumns.{live_column_is_live, live_on_one_column}
use Rattle.funnel_model.proofs.Retirement.{reader_blocks_clear}
use Rattle.funnel_model.proofs.SeenColumns.{sees_all_that_was_live}
use Rattle.commit_desk.specs.Kept.{AreTokens}
use Rattle.commit_desk.specs.Leaving.{IsLeftOf, IsOverFrom, MayAskFor}
use Rattle.commit_desk.specs.Records.{AreRecorded, document_added_at, state_in, state_of}
use Rattle.commit_desk.proofs.Keeping.{column-whole, same-column}
use Rattle.commit_desk.proofs.Options.{some_same}
use Rattle.commit_desk.proofs.RecordFacts.{clearing_is_free}

-- the event by which a document left its column is one of the history
pub until-within : (history : List Event) (slice column : ℕ) (d : Document) (since until : ℕ) → IsDeletedOn history slice column d since until → until ≤ length history
until-within history slice column d since until is =
    let rest = is.between ++ is.event ∷ is.later in
    let whole : length history ≡ length is.put.earlier + suc (length rest) = ap length is.put.whole ∙ length-append is.put.earlier (is.put.event ∷ rest) in
    let long = length-append is.between (is.event ∷ is.later) in
    let at = is.count in
    let from = is.put.count in
    omega (arith, whole, long, at, from)

-- a list that goes on from the same, up to a number of its items
first_of_longer : {X : Type 0} (xs ys zs : List X) (x : X) (k : ℕ) → length ys ≡ length xs + 1 + k → k ≤ length zs → (later : List X) → (more : List X) →
    xs ++ x ∷ (zs ++ later) ≡ ys ++ more → ys ≡ xs ++ x ∷ take k zs
first_of_longer [] [] zs x k long within later more same = absurd (omega (arith, long))
first_of_longer [] (y ∷ ys) zs x k long within later more same =
    let first : x ≡ y = head_of x y (zs ++ later) (ys ++ more) same in
    let rest : zs ++ later ≡ ys ++ more = tail_of x y (zs ++ later) (ys ++ more) same in
    ap (λ z. z ∷ ys) (sym first) ∙ ap (λ l. x ∷ l) (front_of ys zs k (omega (arith, long)) within later more rest)
  where
    head_of : {X : Type 0} (x y : X) (xs ys : List X) → x ∷ xs ≡ y ∷ ys → x ≡ y
    head_of x y xs ys same = cc

    tail_of : {X : Type 0} (x y : X) (xs ys : List X) → x ∷ xs ≡ y ∷ ys → xs ≡ ys
    tail_of x y xs ys same = cc

    front_of : {X : Type 0} (ys zs : List X) (k : ℕ) → length ys ≡ k → k ≤ length zs → (later more : List X) → zs ++ later ≡ ys ++ more → ys ≡ take k zs
    front_of ys zs k long within later more same =
        sym (take_at ys more k long) ∙ ap (take k) (sym same) ∙ take-append-le k zs later within
first_of_longer (z ∷ xs) [] zs x k long within later more same = absurd (omega (arith, long))
first_of_longer (z ∷ xs) (y ∷ ys) zs x k long within later more same =
    let first : z ≡ y = cc in
    let rest : xs ++ x ∷ (zs ++ later) ≡ ys ++ more = cc in
    ap (λ a. a ∷ ys) (sym first) ∙ ap (λ l. z ∷ l) (first_of_longer xs ys zs x k (omega (arith, long)) within later more rest)

none_in_front : {X : Type 0} (f : X → Bool) (xs : List X) (k : ℕ) → list_any f xs ≡ false → list_any f (take k xs) ≡ false
none_in_front f xs k none =
    (or_parts (list_any f (take k xs)) (list_any f (drop k xs)) (sym (list_any-append f (take k xs) (drop k xs)) ∙ ap (list_any f) (take-append-drop k xs) ∙ none)).0

-- a document that left its column after a find began, and was there before, was live in it then
pub live-then : (history : List Event) (slice column : ℕ) (d : Document) (since until pass number : ℕ) → IsDeletedOn history slice column d since until → (token : HasToken history pass number) →
    since < number → number < until → IsLiveOn token.earlier slice column d since
live-then history slice column d since until pass number is token after before =
    let put = is.put in
    let k = length token.earlier - since in
    let count = token.count in
    let from = put.count in
    let at = is.count in
    let short : k ≤ length is.between = omega (arith, count, at, before) in
    let front : token.earlier ≡ put.earlier ++ put.event ∷ take k is.between =
    first_of_longer put.earlier token.earlier is.between put.event k (omega (arith, count, from, after)) short (is.event ∷ is.later) (event.Find pass token.query ∷ token.later) (sym put.whole ∙ token.whole) in
    let opens_none : list_any (opens slice) is.between ≡ false =
    (or_parts (list_any (opens slice) is.between) (list_any (opens slice) (is.event ∷ is.later)) (sym (list_any-append (opens slice) is.between (is.event ∷ is.later)) ∙ put.stays)).0 in
    record {
      later = take k is.between;
      put = record {
        earlier = put.earlier;
        event = put.event;
        whole = front;
        count = put.count;
        puts = put.puts;
        lives = put.lives;
        stays = none_in_front (opens slice) is.between k opens_none;
      };
      not_taken_off = none_in_front (takes_off d.id) is.between k is.not_before;
    }

-- a document that left a column, and its parts
pub record LeftDocument (history : List Event) (slot : Slot) (slice column since until : ℕ) : Type 0 where
  pub document : Document
  pub deleted : IsDeletedOn history slice column document since until
  pub parts : Parts
  pub is : slot.doc ≡ Some parts
  pub id : parts.id ≡ document.id
  pub text : parts.text ≡ document.text

module _ (limits : Limits) (history : List Event) (whole left : Table) (legal : IsLegal limits history) (recorded : AreRecorded limits history whole) (is : IsLeftOf whole left) where
  -- the document that left a column which is over, as it is in the whole records
  left-document : (slice column since until : ℕ) → IsColumn left slice column → IsOverFrom (slot_at left slice column) since until →
      LeftDocument history (slot_at whole slice column) slice column since until
  left-document slice column since until at over =
      let here = column-whole whole left slice column is at in
      let slot = slot_at whole slice column in
      let column_is : slot.column ≡ became.Over over.0 since until = sym (same-column whole left slice column is here) ∙ over.1 in
      let open_now : is_clearing slice history ≡ false =
      false_from_ne_true (is_clearing slice history)
      (λ clearing. free_not_over over.0 since until (sym (ap (λ (x : Slot). x.column) (clearing_is_free limits history whole legal recorded slice column here clearing)) ∙ column_is)) in
      let rec = recorded.each slice column here open_now in
      let doc = subst (λ (c : Column). FitsColumn c slot.doc) column_is rec.fits in
      let state : state_of slot ≡ Deleted (document_added_at over.0 doc.0) since until =
      ap (λ (c : Column). state_in c slot.doc) column_is ∙ ap (state_in (became.Over over.0 since until)) doc.1 in
      record {
        document = document_added_at over.0 doc.0;
        deleted = subst (IsInState history slice column) state rec.state;
        parts = doc.0;
        is = doc.1;
        id = refl;
        text = refl;
      }
    where
      free_not_over : (added since until : ℕ) → became.Free ≡ became.Over added since until → ⊥
      free_not_over added since until is = cc

  -- with its number and its text
  pub left-with : (slice column since until : ℕ) → IsColumn left slice column → IsOverFrom (slot_at left slice column) since until →
      (d : Document) × IsDeletedOn history slice column d since until × ((doc : Parts) → (slot_at whole slice column).doc ≡ Some doc → (doc.id ≡ d.id) × (doc.text ≡ d.text))
  left-with slice column since until at over =
      let d = left-document slice column since until at over in (
        d.document,
        d.deleted,
        λ doc same.
            let p = some_same d.parts doc (sym d.is ∙ same) in
            (sym (ap (λ (x : Parts). x.id) p) ∙ d.id, sym (ap (λ (x : Parts). x.text) p) ∙ d.text),
      )

  pub over-before : (slice column since until : ℕ) → IsColumn left slice column → IsOverFrom (slot_at left slice column) since until → until ≤ length history
  over-before slice column since until at over =
      let d = left-document slice column since until at over in until-within history slice column d.document since until d.deleted

  -- no find may ask for the documents of a slice that may be cleared
  pub none-asks-cleared : (tokens : List (Option ℕ)) → AreTokens limits history tokens → (pass slice : ℕ) → IsAllowed limits history (event.Clear pass slice) → (column asking : ℕ) →
      IsColumn left slice column → MayAskFor tokens (slot_at left slice column) asking → ⊥
  none-asks-cleared tokens tokens_are pass slice allowed column asking at asks =
      let d = left-document slice column asks.since asks.until at asks.over in
      let token = (tokens_are.each asking asks.event).0 asks.may_ask.opened in
      let lives = live-then history slice column d.document asks.since asks.until asking asks.event d.deleted token asks.may_ask.after asks.may_ask.before in
      let legal_then = legal_before limits token.earlier (event.Find asking token.query ∷ token.later) (subst (IsLegal limits) token.whole legal) in
      let seen = sees_all_that_was_live limits history asking asks.event d.document legal token (live_column_is_live token.earlier slice column d.document asks.since lives) in
      let one = live_on_one_column limits token.earlier seen.0 seen.1 slice column seen.2 asks.since d.document d.document legal_then seen.6 lives refl in
      let read : MayRead limits.columns history asking seen.0 = record { number = asks.event; token = token; in_use = seen.7 } in
      reader_blocks_clear limits history pass slice asking legal allowed (subst (MayRead limits.columns history asking) one.0 read)
