-- When a slice isn't retired, and when no find of a pass is open, by tests that compute.
use Rattle.std.proofs.Common.{◌≡◌, ℕ, ◌<◌, Bool, true, false, cond, ◌||◌, List, [], ◌∷◌, ◌++◌, refl, ap, ◌∙◌}
use Rattle.std.proofs.Math.Bool.{or-true}
use Rattle.std.proofs.lemmas.Bool.{eq-eqb, or_parts}
use Rattle.std.proofs.lemmas.List.Folds.{list_any-append}
use Rattle.std.proofs.lemmas.List.Sums.{fold-append}
use Rattle.std.specs.List.{list_any, fold}
use Rattle.std.specs.Option.{option_map_or}
use Rattle.funnel_model.specs.declared.event.Event.{Event}
use Rattle.funnel_model.specs.declared.event.Event.TheVariants as event
use Rattle.funnel_model.specs.Events.{put_on, drops_on, takes_off, finds_or_ends}
use Rattle.funnel_model.specs.History.{Document}
use Rattle.funnel_model.specs.Legal.{HasRoom}
use Rattle.funnel_model.specs.Slices.{ColumnState, Dropped, Deleted, span, is_claimed, is_clearing, AllOver, IsDeletedOn, IsInState, IsOver, IsRetired}
use Rattle.funnel_model.specs.Tokens.{HasToken}

-- a list has an element that passes where its end has one
any_right : {A : Type 0} (p : A → Bool) (xs ys : List A) → list_any p ys ≡ true → list_any p (xs ++ ys) ≡ true
any_right p xs ys some = list_any-append p xs ys ∙ ap (λ b. list_any p xs || b) some ∙ or-true (list_any p xs)

any_head : {A : Type 0} (p : A → Bool) (x : A) (xs : List A) → p x ≡ true → list_any p (x ∷ xs) ≡ true
any_head p x xs passes = ap (λ b. b || list_any p xs) passes

-- whether the later events take the document off its column that the event put on this one
abbrev taken_off_after : ℕ → ℕ → Event → List Event → Bool
taken_off_after slice column e later = option_map_or (λ id. list_any (takes_off id) later) (put_on slice column e) false

-- whether a document that was put on the column is taken off one later in the history
abbrev pub deleted_somewhere : ℕ → ℕ → List Event → Bool
deleted_somewhere slice column [] = false
deleted_somewhere slice column (e ∷ later) = taken_off_after slice column e later || deleted_somewhere slice column later

-- it is where that is so of one event
somewhere_after : (slice column : ℕ) (earlier : List Event) (e : Event) (later : List Event) → taken_off_after slice column e later ≡ true →
    deleted_somewhere slice column (earlier ++ e ∷ later) ≡ true
somewhere_after slice column [] e later gone = ap (λ b. b || deleted_somewhere slice column later) gone
somewhere_after slice column (x ∷ earlier) e later gone =
    ap (λ b. taken_off_after slice column x (earlier ++ e ∷ later) || b) (somewhere_after slice column earlier e later gone)
    ∙ or-true (taken_off_after slice column x (earlier ++ e ∷ later))

-- and so where the column is deleted
pub deleted_is_somewhere : (history : List Event) (slice column : ℕ) (d : Document) (since until : ℕ) → IsDeletedOn history slice column d since until → deleted_somewhere slice column history ≡ true
deleted_is_somewhere history slice column d since until is =
    let later = is.between ++ is.event ∷ is.later in
    ap (deleted_somewhere slice column) is.put.whole
    ∙ somewhere_after slice column is.put.earlier is.put.event later
    (ap (λ o. option_map_or (λ id. list_any (takes_off id) later) o false) is.put.puts
    ∙ any_right (takes_off d.id) is.between (is.event ∷ is.later) (any_head (takes_off d.id) is.event is.later is.takes_it_off))

-- a state of a column that is over needs a drop or a delete
over_by : (history : List Event) (slice column : ℕ) (state : ColumnState) → list_any (drops_on slice column) (span slice history) ≡ false →
    deleted_somewhere slice column history ≡ false → IsInState history slice column state → IsOver state → ⊥
over_by history slice column Dropped not_dropped not_deleted is over = cc
over_by history slice column (Deleted d since until) not_dropped not_deleted is over = let deleted = deleted_is_somewhere history slice column d since until is in cc
over_by history slice column state not_dropped not_deleted is over = absurd over

-- a slice is not over where one of its columns has no drop and no delete
pub not_over : (columns slice column : ℕ) (history : List Event) → column < columns → list_any (drops_on slice column) (span slice history) ≡ false →
    deleted_somewhere slice column history ≡ false → AllOver columns slice history → ⊥
not_over columns slice column history in' not_dropped not_deleted over =
    let here = over column in' in over_by history slice column here.0 not_dropped not_deleted here.1 here.2

-- nor is it retired then
pub not_retired : (columns slice column : ℕ) (history : List Event) → column < columns → list_any (drops_on slice column) (span slice history) ≡ false →
    deleted_somewhere slice column history ≡ false → IsRetired columns slice history → ⊥
not_retired columns slice column history in' not_dropped not_deleted retired = not_over columns slice column history in' not_dropped not_deleted retired.over

-- a slice has room where one of its columns is unclaimed, without a drop and a delete, and it isn't being cleared
pub room_by : (columns slice column : ℕ) (history : List Event) → column < columns → is_claimed slice column history ≡ false → is_clearing slice history ≡ false →
    list_any (drops_on slice column) (span slice history) ≡ false → deleted_somewhere slice column history ≡ false → HasRoom columns history slice
room_by columns slice column history in' unclaimed not_clearing not_dropped not_deleted = record {
  in_use = record { not_retired = not_retired columns slice column history in' not_dropped not_deleted; not_clearing = not_clearing };
  unclaimed = (column, in', unclaimed);
}

-- whether the event begins a find
abbrev pub begins_find : Event → Bool
begins_find (event.Find pass query) = true
begins_find _ = false

-- whether the last event of the pass that begins or ends a find begins it
abbrev pub finds_last : ℕ → List Event → Bool
finds_last pass history = fold (λ begun e. cond (finds_or_ends pass e) (begins_find e) begun) false history

stays_open : (pass : ℕ) (later : List Event) → list_any (finds_or_ends pass) later ≡ false → fold (λ begun e. cond (finds_or_ends pass e) (begins_find e) begun) true later ≡ true
stays_open pass [] stays = refl
stays_open pass (e ∷ later) stays =
    let parts = or_parts (finds_or_ends pass e) (list_any (finds_or_ends pass) later) stays in
    ap (λ b. fold (λ begun x. cond (finds_or_ends pass x) (begins_find x) begun) (cond b (begins_find e) true) later) parts.0 ∙ stays_open pass later parts.1

-- it does where the pass has a token
pub token_finds_last : (history : List Event) (pass number : ℕ) → HasToken history pass number → finds_last pass history ≡ true
token_finds_last history pass number token =
    let step = λ (begun : Bool) (e : Event). cond (finds_or_ends pass e) (begins_find e) begun in
    ap (finds_last pass) token.whole
    ∙ fold-append step false token.earlier (event.Find pass token.query ∷ token.later)
    ∙ ap (λ b. fold step (cond b true (finds_last pass token.earlier)) token.later) (eq-eqb pass pass refl)
    ∙ stays_open pass token.later token.stays
