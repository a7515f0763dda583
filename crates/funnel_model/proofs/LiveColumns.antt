-- The live documents are those of the live columns, and each number is live on one column.
use Rattle.std.proofs.Common.{◌≡◌, ℕ, ◌+◌, ◌<◌, ⊎_elim, Bool, true, false, cond, filter, List, [], ◌∷◌, ◌++◌, length, get_or, Option, Some, None, sym, refl, ap, ◌∙◌, subst, append_assoc, arith}
use Rattle.std.proofs.lemmas.Bool.{and_parts, both_ways, cases_order, eq-eqb, eqb-true, false≢true, not-true, or_parts, true_from_ne_false}
use Rattle.std.proofs.lemmas.List.Elements.{Contains-append_cases}
use Rattle.std.proofs.lemmas.List.Folds.{list_any-append}
use Rattle.std.specs.List.{Contains, list_any}
use Rattle.std.specs.Prelude.{◌==◌, ◌&&◌, ◌↔◌}
use Rattle.funnel_model.specs.declared.event.Event.{Event}
use Rattle.funnel_model.specs.declared.event.Event.TheVariants as event
use Rattle.funnel_model.specs.Events.{deletes_or_replaces, pass_of, put_on, takes_off}
use Rattle.funnel_model.specs.History.{Document, is_live, live, place}
use Rattle.funnel_model.specs.Legal.{Limits, IsAllowed, IsLegal}
use Rattle.funnel_model.specs.Slices.{Unclaimed, Live, Deleted, IsHome, IsInState, IsLiveOn, IsOver, is_claimed}
use Rattle.funnel_model.proofs.AnswerLemmas.{Contains-filtered, any_contained, contained_any}
use Rattle.funnel_model.proofs.Claims.{claimed_in_range}
use Rattle.funnel_model.proofs.ColumnStates.{DroppedBy, OpenedBy, PutBy, Silent, TakenBy, Touch, after, state_of, state_of-push, this_column, touch, unless_taken_off}
use Rattle.funnel_model.proofs.ColumnsKept.{kept, take_from}
use Rattle.funnel_model.proofs.Histories.{allowed_within, holds_of_legal, legal-push}
use Rattle.funnel_model.proofs.LastEvents.{last_is_clearing}
use Rattle.funnel_model.proofs.LiveLemmas.{added_at, live-push, survives}
use Rattle.funnel_model.proofs.LivesOn.{lives-later, none_ends, one_live}
use Rattle.funnel_model.proofs.Retirement.{same_split, split_front}

-- a number is live exactly where a live document has it
pub live_number : (history : List Event) (id : ℕ) → is_live id history ≡ true ↔ ((d : Document) × Contains (live history) d × (d.id ≡ id))
live_number history id = (
  λ some. let found = contained_any (λ (d : Document). d.id == id) (live history) some in (found.0, found.1, eqb-true (found.0).id id found.2),
  λ found. any_contained (λ (d : Document). d.id == id) (live history) found.0 found.1 (eq-eqb (found.0).id id found.2),
)

-- the document of a live column is live
pub live_column_is_live : (history : List Event) (slice column : ℕ) (d : Document) (since : ℕ) → IsLiveOn history slice column d since → Contains (live history) d
live_column_is_live history slice column d since is =
    let put = is.put in
    subst (λ h. Contains (live h) d) (append_assoc put.earlier (put.event ∷ []) is.later ∙ sym put.whole)
    (lives-later (put.earlier ++ put.event ∷ []) is.later d put.lives (none_ends d.id is.later is.not_taken_off))

-- a live column stays live with an event that doesn't take its document off
live_by_touch : (limits : Limits) (history : List Event) (e : Event) (slice column : ℕ) (d : Document) (since : ℕ) → IsLegal limits history →
    IsAllowed limits history e → state_of slice column history ≡ Live d since → takes_off d.id e ≡ false → Touch slice column e →
    after slice column history (state_of slice column history) e ≡ Live d since
live_by_touch limits history e slice column d since legal allowed is stays (TakenBy q same) =
    let from = take_from limits history q slice column legal (kept limits history legal) (subst (IsAllowed limits history) same allowed) in cc
live_by_touch limits history e slice column d since legal allowed is stays (PutBy id puts) =
    let from = (kept limits history legal).taken (pass_of e) slice column (puts.taken limits history allowed) in cc
live_by_touch limits history e slice column d since legal allowed is stays (DroppedBy drops) =
    let from = (kept limits history legal).taken (pass_of e) slice column (drops.taken limits history allowed) in cc
live_by_touch limits history e slice column d since legal allowed is stays (OpenedBy q alone same) =
    let now : IsAllowed limits history (event.Opened q slice alone) = subst (IsAllowed limits history) same allowed in
    let all = kept limits history legal in
    let claimed_column = true_from_ne_false (is_claimed slice column history) (λ unclaimed. let h = all.only slice column Unclaimed unclaimed in cc) in
    let within = claimed_in_range limits history slice column legal claimed_column in
    absurd (subst IsOver is (all.over slice column (last_is_clearing limits history q slice legal now.rule.cleared) within.1))
live_by_touch limits history e slice column d since legal allowed is stays (Silent quiet) =
    quiet.leaves history (state_of slice column history) ∙ ap (unless_taken_off (length history + 1) e) is
    ∙ ap (λ b. cond b (Deleted d since (length history + 1)) (Live d since)) stays

-- each live document has a live column
abbrev HaveColumns : List Event → Type 0
HaveColumns history = (d : Document) → Contains (live history) d → (slice : ℕ) × (column : ℕ) × (since : ℕ) × (state_of slice column history ≡ Live d since)

-- the column on which an event puts a document is one, and the document is the live one with its number
record PutSomewhere (e : Event) (id : ℕ) : Type 0 where
  slice : ℕ
  column : ℕ
  puts : put_on slice column e ≡ Some id

-- an event that takes a document off and neither deletes nor replaces it puts it somewhere
moves_to : (id : ℕ) (e : Event) → takes_off id e ≡ true → deletes_or_replaces id e ≡ false → PutSomewhere e id
moves_to id (event.Move pass moved slice column bits) off stays = record {
  slice = slice;
  column = column;
  puts = ap (λ b. cond b (Some moved) None) (this_column slice column) ∙ ap Some (eqb-true moved id off);
}
moves_to id (event.Del pass deleted) off stays = absurd (both_ways (deleted == id) stays off)
moves_to id (event.Add pass added text slice column bits) off stays = absurd (both_ways (added == id) stays off)
moves_to id _ off stays = absurd (false≢true off)

-- and so does one that adds it
adds_to : (before : ℕ) (e : Event) (d : Document) → Contains (added_at before e) d → PutSomewhere e d.id
adds_to before (event.Add pass id text slice column bits) d contained =
    let this : Document = record { id = id; text = text; place = before + 1 } in
    let first : contained.0 ≡ 0 = omega (arith, contained.1) in
    let same : this ≡ d = subst (λ (k : ℕ). get_or (this ∷ []) k d ≡ d) first contained.2 in
    record { slice = slice; column = column; puts = ap (λ b. cond b (Some id) None) (this_column slice column) ∙ ap (λ (x : Document). Some x.id) same }
adds_to before _ d contained = absurd (omega (arith, contained.1))

-- a document that is live after an event that puts it somewhere has a live column there
put_has_column : (limits : Limits) (history : List Event) (e : Event) (d : Document) → IsLegal limits history → IsAllowed limits history e →
    Contains (live (history ++ e ∷ [])) d → (to : PutSomewhere e d.id) → Touch to.slice to.column e →
    (slice : ℕ) × (column : ℕ) × (since : ℕ) × (state_of slice column (history ++ e ∷ []) ≡ Live d since)
put_has_column limits history e d legal allowed lives to (PutBy id puts) =
    let live_one = puts.becomes limits history allowed in
    let ids : Some id ≡ Some d.id = sym puts.puts ∙ to.puts in
    let number : id ≡ d.id = cc in
    let same = one_live limits (history ++ e ∷ []) live_one.0 d (legal-push limits history e legal allowed) live_one.1 lives (live_one.2 ∙ number) in (
      to.slice,
      to.column,
      length history + 1,
      state_of-push to.slice to.column history e ∙ live_one.3 (state_of to.slice to.column history) ∙ ap (λ x. Live x (length history + 1)) same,
    )
put_has_column limits history e d legal allowed lives to (TakenBy q same) = let none = ap (put_on to.slice to.column) same in let puts = to.puts in cc
put_has_column limits history e d legal allowed lives to (OpenedBy q alone same) = let none = ap (put_on to.slice to.column) same in let puts = to.puts in cc
put_has_column limits history e d legal allowed lives to (DroppedBy drops) = let none = drops.not_put in let puts = to.puts in cc
put_has_column limits history e d legal allowed lives to (Silent quiet) = let none = quiet.not_put in let puts = to.puts in cc

-- each live document has a live column after an event that is allowed
columns-push : (limits : Limits) (history : List Event) (e : Event) → IsLegal limits history → IsAllowed limits history e →
    HaveColumns history → HaveColumns (history ++ e ∷ [])
columns-push limits history e legal allowed before d contained =
    ⊎_elim
    (λ was.
    let both = Contains-filtered (survives e) (live history) d was in
    by_off both.0 (not-true (deletes_or_replaces d.id e) both.1) (takes_off d.id e) refl)
    (λ now. let to = adds_to (place history) e d now in put_has_column limits history e d legal allowed contained to (touch to.slice to.column e))
    (Contains-append_cases (filter (survives e) (live history)) (added_at (place history) e) d
    (subst (λ (ds : List Document). Contains ds d) (live-push history e) contained)) where
      by_off : Contains (live history) d → deletes_or_replaces d.id e ≡ false → (b : Bool) → takes_off d.id e ≡ b →
          (slice : ℕ) × (column : ℕ) × (since : ℕ) × (state_of slice column (history ++ e ∷ []) ≡ Live d since)
      by_off was stays true off =
          let to = moves_to d.id e off stays in put_has_column limits history e d legal allowed contained to (touch to.slice to.column e)
      by_off was stays false not_off =
          let column = before d was in (
            column.0,
            column.1,
            column.2,
            state_of-push column.0 column.1 history e
                ∙ live_by_touch limits history e column.0 column.1 d column.2 legal allowed column.3 not_off (touch column.0 column.1 e),
          )

-- each live document is that of a live column
pub live_has_column : (limits : Limits) (history : List Event) (d : Document) → IsLegal limits history → Contains (live history) d →
    (slice : ℕ) × (column : ℕ) × (since : ℕ) × (slice < limits.slices) × (column < limits.columns) × IsInState history slice column (Live d since)
live_has_column limits history d legal contained =
    let found = holds_of_legal limits HaveColumns (λ x none. absurd (omega (arith, none.1)))
    (λ h e is_legal before allowed. columns-push limits h e is_legal allowed before) history legal d contained in
    let all = kept limits history legal in
    let is : IsInState history found.0 found.1 (Live d found.2) = subst (IsInState history found.0 found.1) found.3 (all.holds found.0 found.1) in
    let claimed_column = true_from_ne_false (is_claimed found.0 found.1 history)
    (λ unclaimed. let h = all.only found.0 found.1 Unclaimed unclaimed in let live_one = found.3 in cc) in
    let within = claimed_in_range limits history found.0 found.1 legal claimed_column in
    (found.0, found.1, found.2, within.0, within.1, is)

-- what an event puts on a column, by whether it is this one
pub put_number : (b : Bool) (id number : ℕ) → cond {A = Option ℕ} b (Some id) None ≡ Some number → id ≡ number
put_number true id number is = cc
put_number false id number is = cc

put_here : (b : Bool) (id number : ℕ) → cond {A = Option ℕ} b (Some id) None ≡ Some number → b ≡ true
put_here true id number is = refl
put_here false id number is = cc

same_place : (s c id slice column other at a b : ℕ) → cond {A = Option ℕ} (s == slice && c == column) (Some id) None ≡ Some a →
    cond {A = Option ℕ} (s == other && c == at) (Some id) None ≡ Some b → (slice ≡ other) × (column ≡ at)
same_place s c id slice column other at a b is_a is_b =
    let first = and_parts (s == slice) (c == column) (put_here (s == slice && c == column) id a is_a) in
    let second = and_parts (s == other) (c == at) (put_here (s == other && c == at) id b is_b) in
    (sym (eqb-true s slice first.0) ∙ eqb-true s other second.0, sym (eqb-true c column first.1) ∙ eqb-true c at second.1)

-- an event puts a document on one column
one_column : (slice column other at : ℕ) (e : Event) (a b : ℕ) → put_on slice column e ≡ Some a → put_on other at e ≡ Some b →
    (slice ≡ other) × (column ≡ at)
one_column slice column other at (event.Add pass id text s c bits) a b is_a is_b = same_place s c id slice column other at a b is_a is_b
one_column slice column other at (event.Move pass id s c bits) a b is_a is_b = same_place s c id slice column other at a b is_a is_b
one_column slice column other at _ a b is_a is_b = cc

-- an event that puts the number of a live document on a column takes the document off its own
not_put_again : (limits : Limits) (history : List Event) (e : Event) (d : Document) (slice column : ℕ) → IsAllowed limits history e →
    Contains (live history) d → put_on slice column e ≡ Some d.id → takes_off d.id e ≡ true
not_put_again limits history (event.Add pass id text s c bits) d slice column allowed lives puts =
    eq-eqb id d.id (put_number (s == slice && c == column) id d.id puts)
not_put_again limits history (event.Move pass id s c bits) d slice column allowed lives puts =
    eq-eqb id d.id (put_number (s == slice && c == column) id d.id puts)
not_put_again limits history _ d slice column allowed lives puts = cc

-- where a document is live on a column, no later event than the one that put it there puts a document with its number anywhere
not_later : (limits : Limits) (history : List Event) (slice column other at since after : ℕ) (d e : Document) → IsLegal limits history →
    (is : IsLiveOn history slice column d since) → (also : IsLiveOn history other at e after) → d.id ≡ e.id → length is.put.earlier < length also.put.earlier → ⊥
not_later limits history slice column other at since after d e legal is also same less =
    let first = is.put in
    let second = also.put in
    let split = split_front second.earlier (second.event ∷ also.later) first.earlier is.later first.event (sym second.whole ∙ first.whole) less in
    let between = split.0 in
    let parts = or_parts (list_any (takes_off d.id) between) (list_any (takes_off d.id) (second.event ∷ also.later))
    (sym (list_any-append (takes_off d.id) between (second.event ∷ also.later)) ∙ ap (list_any (takes_off d.id)) (sym split.2) ∙ is.not_taken_off) in
    let lives : Contains (live second.earlier) d =
    subst (λ h. Contains (live h) d) (sym split.1) (lives-later (first.earlier ++ first.event ∷ []) between d first.lives (none_ends d.id between parts.0)) in
    let allowed = allowed_within limits history second.earlier second.event also.later legal second.whole in
    both_ways (takes_off d.id second.event) (or_parts (takes_off d.id second.event) (list_any (takes_off d.id) also.later) parts.1).0
    (not_put_again limits second.earlier second.event d other at allowed lives (second.puts ∙ ap Some (sym same)))

-- a number is live on one column
pub live_on_one_column : (limits : Limits) (history : List Event) (slice column other at since after : ℕ) (d e : Document) → IsLegal limits history →
    IsLiveOn history slice column d since → IsLiveOn history other at e after → d.id ≡ e.id → (slice ≡ other) × (column ≡ at)
live_on_one_column limits history slice column other at since after d e legal is also same =
    ⊎_elim
    (λ equal.
    let event_is = (same_split is.put.earlier also.put.earlier is.later also.later is.put.event also.put.event (sym is.put.whole ∙ also.put.whole) equal).1 in
    one_column slice column other at is.put.event d.id e.id is.put.puts (ap (put_on other at) event_is ∙ also.put.puts))
    (λ order. ⊎_elim
    (λ less. absurd (not_later limits history slice column other at since after d e legal is also same less))
    (λ more. absurd (not_later limits history other at slice column after since e d legal also is (sym same) more))
    order)
    (cases_order (length is.put.earlier) (length also.put.earlier))

-- where a document is live on a column, no event since puts a document with its number anywhere
pub not_put_since : (limits : Limits) (history : List Event) (slice column other at since : ℕ) (d : Document) (before : List Event) (e : Event) (rest : List Event) →
    IsLegal limits history → (is : IsLiveOn history slice column d since) → is.later ≡ before ++ e ∷ rest → put_on other at e ≡ Some d.id → ⊥
not_put_since limits history slice column other at since d before e rest legal is split puts =
    let put = is.put in
    let front = put.earlier ++ put.event ∷ before in
    let parts = or_parts (list_any (takes_off d.id) before) (list_any (takes_off d.id) (e ∷ rest))
    (sym (list_any-append (takes_off d.id) before (e ∷ rest)) ∙ ap (list_any (takes_off d.id)) (sym split) ∙ is.not_taken_off) in
    let lives : Contains (live front) d =
    subst (λ h. Contains (live h) d) (append_assoc put.earlier (put.event ∷ []) before)
    (lives-later (put.earlier ++ put.event ∷ []) before d put.lives (none_ends d.id before parts.0)) in
    let whole : history ≡ front ++ e ∷ rest =
    put.whole ∙ ap (λ xs. put.earlier ++ put.event ∷ xs) split ∙ sym (append_assoc put.earlier (put.event ∷ before) (e ∷ rest)) in
    both_ways (takes_off d.id e) (or_parts (takes_off d.id e) (list_any (takes_off d.id) rest) parts.1).0
    (not_put_again limits front e d other at (allowed_within limits history front e rest legal whole) lives puts)

-- a live number has a home
pub live_has_home : (limits : Limits) (history : List Event) (id : ℕ) → IsLegal limits history → is_live id history ≡ true →
    (slice : ℕ) × (column : ℕ) × (slice < limits.slices) × (column < limits.columns) × IsHome history id slice column
live_has_home limits history id legal lives =
    let found = (live_number history id).0 lives in
    let home = live_has_column limits history found.0 legal found.1 in
    (home.0, home.1, home.3, home.4, (found.0, home.2, found.2, home.5))

-- and one alone
pub one_home : (limits : Limits) (history : List Event) (id slice column other at : ℕ) → IsLegal limits history → IsHome history id slice column →
    IsHome history id other at → (slice ≡ other) × (column ≡ at)
one_home limits history id slice column other at legal is also =
    live_on_one_column limits history slice column other at is.1 also.1 is.0 also.0 legal is.3 also.3 (is.2 ∙ sym also.2)
