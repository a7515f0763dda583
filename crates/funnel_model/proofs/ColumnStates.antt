-- What an event makes of the state of a column.
use Rattle.std.proofs.Common.{◌≡◌, ℕ, ◌+◌, ⊎_elim, Bool, true, false, cond, List, [], ◌∷◌, ◌++◌, length, filter, Option, Some, None, sym, refl, ap, ◌∙◌, subst, append_assoc, arith, inl, inr}
use Rattle.std.proofs.lemmas.Bool.{and_from, and_parts, and_right, both_ways, eq-eqb, eqb-true, or_cases, or_from, or_parts, or_left}
use Rattle.std.proofs.lemmas.List.{append-nil, length-append}
use Rattle.std.proofs.lemmas.List.Elements.{Contains-append_right}
use Rattle.std.specs.List.{Contains, list_any}
use Rattle.std.specs.Option.{is_some}
use Rattle.std.specs.Prelude.{◌==◌, ◌&&◌, ◌⊎◌, if◌then◌else◌}
use Rattle.funnel_model.specs.declared.bit_list.Bit.{Bit}
use Rattle.funnel_model.specs.declared.event.Event.{Event}
use Rattle.funnel_model.specs.declared.event.Event.TheVariants as event
use Rattle.funnel_model.specs.Events.{drops_on, opens, pass_of, put_on, takes, takes_off}
use Rattle.funnel_model.specs.History.{Document, document_with, last_by, live, place}
use Rattle.funnel_model.specs.Legal.{Limits, IsAllowed}
use Rattle.funnel_model.specs.Slices.{ColumnState, Unclaimed, Pending, Dropped, Live, Deleted, IsDeletedOn, IsInState, IsLiveOn, IsOver, IsPutOn, is_claimed, span}
use Rattle.funnel_model.proofs.AnswerLemmas.{contains_first}
use Rattle.funnel_model.proofs.LiveLemmas.{added_at, live-push, live-silent, survives}
use Rattle.funnel_model.proofs.LivesOn.{find_live}
use Rattle.funnel_model.proofs.Spans.{claims, in_span-push, is_claimed-push, none-push, none_of_push, not_empty, split_at_end}

-- a column after the document with this number is taken off its column, by the event with the number `until`
abbrev pub after_taken_off : ℕ → ℕ → ColumnState → ColumnState
after_taken_off id until (Live d since) = if id == d.id then Deleted d since until else Live d since
after_taken_off id until x = x

-- a column after a document is moved to it, by the event with the number `since`
abbrev pub after_moved : Option Document → ℕ → ColumnState → ColumnState
after_moved (Some d) since x = Live d since
after_moved None since x = x

-- the state of a column after an event, which comes after this history
abbrev pub after : (slice column : ℕ) → List Event → ColumnState → Event → ColumnState
after slice column history x (event.Take pass taken at) = if taken == slice && at == column then Pending pass else x
after slice column history x (event.Add pass id text added at bits) =
    if added == slice && at == column then Live (record { id = id; text = text; place = place history + 1 }) (length history + 1)
    else after_taken_off id (length history + 1) x
after slice column history x (event.Drop pass id text dropped at) = if dropped == slice && at == column then Dropped else x
after slice column history x (event.Del pass id) = after_taken_off id (length history + 1) x
after slice column history x (event.Move pass id moved at bits) =
    if moved == slice && at == column then after_moved (document_with id history) (length history + 1) x else after_taken_off id (length history + 1) x
after slice column history x (event.Void pass voided at) = if voided == slice && at == column then Dropped else x
after slice column history x (event.Opened pass opened alone) = if opened == slice then Unclaimed else x
after slice column history x _ = x

-- the same for an event with the number `until` that concerns neither the column nor its slice
abbrev pub unless_taken_off : ℕ → Event → ColumnState → ColumnState
unless_taken_off until e (Live d since) = cond (takes_off d.id e) (Deleted d since until) (Live d since)
unless_taken_off until e x = x

-- an event that takes no document off leaves each state
unless_taken_off-silent : (until : ℕ) (e : Event) (x : ColumnState) → ((id : ℕ) → takes_off id e ≡ false) → unless_taken_off until e x ≡ x
unless_taken_off-silent until e (Live d since) none = ap (λ b. cond b (Deleted d since until) (Live d since)) (none d.id)
unless_taken_off-silent until e Unclaimed none = refl
unless_taken_off-silent until e (Pending pass) none = refl
unless_taken_off-silent until e Dropped none = refl
unless_taken_off-silent until e (Deleted d since at) none = refl

-- an event that takes a document off makes of a state what it makes of one that it doesn't otherwise concern
unless_taken_off-off : (until id : ℕ) (e : Event) (x : ColumnState) → ((other : ℕ) → takes_off other e ≡ (id == other)) →
    after_taken_off id until x ≡ unless_taken_off until e x
unless_taken_off-off until id e (Live d since) takes_it = ap (λ b. cond b (Deleted d since until) (Live d since)) (sym (takes_it d.id))
unless_taken_off-off until id e Unclaimed takes_it = refl
unless_taken_off-off until id e (Pending taker) takes_it = refl
unless_taken_off-off until id e Dropped takes_it = refl
unless_taken_off-off until id e (Deleted d since at) takes_it = refl

-- the event concerns neither the column nor its slice
pub record Quiet (slice column : ℕ) (e : Event) : Type 0 where
  pub not_opened : opens slice e ≡ false
  pub not_claimed : claims slice column e ≡ false
  pub not_taken : (pass : ℕ) → takes pass slice column e ≡ false
  pub not_put : put_on slice column e ≡ None
  pub not_dropped : drops_on slice column e ≡ false
  pub leaves : (history : List Event) (x : ColumnState) → after slice column history x e ≡ unless_taken_off (length history + 1) e x

-- the event, where it is allowed, comes after its pass's take of the column
abbrev pub AfterItsTake : ℕ → ℕ → Event → Type 0
AfterItsTake slice column e =
    (limits : Limits) (history : List Event) → IsAllowed limits history e → last_by (pass_of e) history ≡ Some (event.Take (pass_of e) slice column)

-- the event, where it is allowed, makes the column live with the live document of this number
abbrev pub MakesLive : ℕ → ℕ → ℕ → Event → Type 0
MakesLive slice column id e =
    (limits : Limits) (history : List Event) → IsAllowed limits history e →
    (d : Document) × Contains (live (history ++ e ∷ [])) d × (d.id ≡ id) × ((x : ColumnState) → after slice column history x e ≡ Live d (length history + 1))

-- the event puts a document on the column: it adds it, or moves it there
pub record Puts (slice column id : ℕ) (e : Event) : Type 0 where
  pub not_opened : opens slice e ≡ false
  pub not_claimed : claims slice column e ≡ false
  pub not_taken : (pass : ℕ) → takes pass slice column e ≡ false
  pub puts : put_on slice column e ≡ Some id
  pub not_dropped : drops_on slice column e ≡ false
  pub taken : AfterItsTake slice column e
  pub becomes : MakesLive slice column id e

-- the event leaves the column without a document: it drops one, or voids the column
pub record Drops (slice column : ℕ) (e : Event) : Type 0 where
  pub not_opened : opens slice e ≡ false
  pub not_claimed : claims slice column e ≡ false
  pub not_taken : (pass : ℕ) → takes pass slice column e ≡ false
  pub not_put : put_on slice column e ≡ None
  pub drops : drops_on slice column e ≡ true
  pub takes_none : (id : ℕ) → takes_off id e ≡ false
  pub taken : AfterItsTake slice column e
  pub becomes : (history : List Event) (x : ColumnState) → after slice column history x e ≡ Dropped

-- how an event concerns a column
pub data Touch (slice column : ℕ) (e : Event) : Type 0 where
  TakenBy : (pass : ℕ) → e ≡ event.Take pass slice column → Touch slice column e
  PutBy : (id : ℕ) → Puts slice column id e → Touch slice column e
  DroppedBy : Drops slice column e → Touch slice column e
  OpenedBy : (pass : ℕ) (alone : Bool) → e ≡ event.Opened pass slice alone → Touch slice column e
  Silent : Quiet slice column e → Touch slice column e

-- a column that passes the test is this one
same_column : (taken at slice column : ℕ) → (taken == slice && at == column) ≡ true → (taken ≡ slice) × (at ≡ column)
same_column taken at slice column is =
    let both = and_parts (taken == slice) (at == column) is in (eqb-true taken slice both.0, eqb-true at column both.1)

-- this column passes the test
pub this_column : (slice column : ℕ) → (slice == slice && column == column) ≡ true
this_column slice column = and_from (slice == slice) (column == column) (eq-eqb slice slice refl) (eq-eqb column column refl)

-- how a take concerns a column
touch_take : (slice column pass taken at : ℕ) (b : Bool) → (taken == slice && at == column) ≡ b → Touch slice column (event.Take pass taken at)
touch_take slice column pass taken at true is =
    let both = same_column taken at slice column is in
    let s : taken ≡ slice = both.0 in
    let c : at ≡ column = both.1 in
    TakenBy pass cc
touch_take slice column pass taken at false is = Silent (record {
  not_opened = refl;
  not_claimed = is;
  not_taken = λ p. and_right (pass == p) (taken == slice && at == column) is;
  not_put = refl;
  not_dropped = refl;
  leaves = λ h x. ap (λ b. cond b (Pending pass) x) is ∙ sym (unless_taken_off-silent (length h + 1) (event.Take pass taken at) x (λ id. refl));
})

-- the last event of a pass, where the column that it took is this one
take_here : (pass taken at slice column : ℕ) (o : Option Event) → (taken == slice && at == column) ≡ true → o ≡ Some (event.Take pass taken at) →
    o ≡ Some (event.Take pass slice column)
take_here pass taken at slice column o is last =
    let both = same_column taken at slice column is in
    let s : taken ≡ slice = both.0 in
    let c : at ≡ column = both.1 in
    last ∙ ap (λ t. Some (event.Take pass t at)) s ∙ ap (λ k. Some (event.Take pass slice k)) c

-- how an add concerns a column
touch_add : (slice column pass id : ℕ) (text : List ℕ) (added at : ℕ) (bits : List Bit) (b : Bool) → (added == slice && at == column) ≡ b →
    Touch slice column (event.Add pass id text added at bits)
touch_add slice column pass id text added at bits true is = PutBy id (record {
  not_opened = refl;
  not_claimed = refl;
  not_taken = λ p. refl;
  puts = ap (λ b. cond b (Some id) None) is;
  not_dropped = refl;
  taken = λ limits history allowed. take_here pass added at slice column (last_by pass history) is allowed.rule.taken;
  becomes = λ limits history allowed.
      let d : Document = record { id = id; text = text; place = place history + 1 } in
      let add = event.Add pass id text added at bits in (
        d,
        subst (λ (ds : List Document). Contains ds d) (sym (live-push history add))
            (Contains-append_right (filter (survives add) (live history)) (added_at (place history) add) d (contains_first d [])),
        refl,
        λ x. ap (λ b. cond b (Live d (length history + 1)) (after_taken_off id (length history + 1) x)) is,
      );
})
touch_add slice column pass id text added at bits false is = Silent (record {
  not_opened = refl;
  not_claimed = refl;
  not_taken = λ p. refl;
  not_put = ap (λ b. cond b (Some id) None) is;
  not_dropped = refl;
  leaves = λ h x.
      ap (λ b. cond b (Live (record { id = id; text = text; place = place h + 1 }) (length h + 1)) (after_taken_off id (length h + 1) x)) is
      ∙ unless_taken_off-off (length h + 1) id (event.Add pass id text added at bits) x (λ other. refl);
})

-- how a move concerns a column
touch_move : (slice column pass id moved at : ℕ) (bits : List Bit) (b : Bool) → (moved == slice && at == column) ≡ b →
    Touch slice column (event.Move pass id moved at bits)
touch_move slice column pass id moved at bits true is = PutBy id (record {
  not_opened = refl;
  not_claimed = refl;
  not_taken = λ p. refl;
  puts = ap (λ b. cond b (Some id) None) is;
  not_dropped = refl;
  taken = λ limits history allowed. take_here pass moved at slice column (last_by pass history) is allowed.rule.taken;
  becomes = λ limits history allowed.
      let found = find_live id (live history) allowed.rule.present in
      let move = event.Move pass id moved at bits in (
        found.0,
        subst (λ (ds : List Document). Contains ds found.0) (sym (live-silent history move (λ i. refl) refl)) found.2,
        found.3,
        λ x. ap (λ b. cond b (after_moved (document_with id history) (length history + 1) x) (after_taken_off id (length history + 1) x)) is
            ∙ ap (λ o. after_moved o (length history + 1) x) found.1,
      );
})
touch_move slice column pass id moved at bits false is = Silent (record {
  not_opened = refl;
  not_claimed = refl;
  not_taken = λ p. refl;
  not_put = ap (λ b. cond b (Some id) None) is;
  not_dropped = refl;
  leaves = λ h x.
      ap (λ b. cond b (after_moved (document_with id h) (length h + 1) x) (after_taken_off id (length h + 1) x)) is
      ∙ unless_taken_off-off (length h + 1) id (event.Move pass id moved at bits) x (λ other. refl);
})

-- how a drop concerns a column
touch_drop : (slice column pass id : ℕ) (text : List ℕ) (dropped at : ℕ) (b : Bool) → (dropped == slice && at == column) ≡ b →
    Touch slice column (event.Drop pass id text dropped at)
touch_drop slice column pass id text dropped at true is = DroppedBy (record {
  not_opened = refl;
  not_claimed = refl;
  not_taken = λ p. refl;
  not_put = refl;
  drops = is;
  takes_none = λ i. refl;
  taken = λ limits history allowed. take_here pass dropped at slice column (last_by pass history) is allowed.rule.taken;
  becomes = λ h x. ap (λ b. cond b Dropped x) is;
})
touch_drop slice column pass id text dropped at false is = Silent (record {
  not_opened = refl;
  not_claimed = refl;
  not_taken = λ p. refl;
  not_put = refl;
  not_dropped = is;
  leaves = λ h x. ap (λ b. cond b Dropped x) is ∙ sym (unless_taken_off-silent (length h + 1) (event.Drop pass id text dropped at) x (λ i. refl));
})

-- how a void concerns a column
touch_void : (slice column pass voided at : ℕ) (b : Bool) → (voided == slice && at == column) ≡ b → Touch slice column (event.Void pass voided at)
touch_void slice column pass voided at true is = DroppedBy (record {
  not_opened = refl;
  not_claimed = refl;
  not_taken = λ p. refl;
  not_put = refl;
  drops = is;
  takes_none = λ i. refl;
  taken = λ limits history allowed. take_here pass voided at slice column (last_by pass history) is allowed.rule.taken;
  becomes = λ h x. ap (λ b. cond b Dropped x) is;
})
touch_void slice column pass voided at false is = Silent (record {
  not_opened = refl;
  not_claimed = refl;
  not_taken = λ p. refl;
  not_put = refl;
  not_dropped = is;
  leaves = λ h x. ap (λ b. cond b Dropped x) is ∙ sym (unless_taken_off-silent (length h + 1) (event.Void pass voided at) x (λ i. refl));
})

-- how an Opened concerns a column
touch_open : (slice column pass opened : ℕ) (alone b : Bool) → (opened == slice) ≡ b → Touch slice column (event.Opened pass opened alone)
touch_open slice column pass opened alone true is = let s : opened ≡ slice = eqb-true opened slice is in OpenedBy pass alone cc
touch_open slice column pass opened alone false is = Silent (record {
  not_opened = is;
  not_claimed = refl;
  not_taken = λ p. refl;
  not_put = refl;
  not_dropped = refl;
  leaves = λ h x. ap (λ b. cond b Unclaimed x) is ∙ sym (unless_taken_off-silent (length h + 1) (event.Opened pass opened alone) x (λ i. refl));
})

-- each event concerns a column in one of these ways
pub touch : (slice column : ℕ) (e : Event) → Touch slice column e
touch slice column (event.Take pass taken at) = touch_take slice column pass taken at (taken == slice && at == column) refl
touch slice column (event.Add pass id text added at bits) = touch_add slice column pass id text added at bits (added == slice && at == column) refl
touch slice column (event.Drop pass id text dropped at) = touch_drop slice column pass id text dropped at (dropped == slice && at == column) refl
touch slice column (event.Move pass id moved at bits) = touch_move slice column pass id moved at bits (moved == slice && at == column) refl
touch slice column (event.Void pass voided at) = touch_void slice column pass voided at (voided == slice && at == column) refl
touch slice column (event.Opened pass opened alone) = touch_open slice column pass opened alone (opened == slice) refl
touch slice column (event.Del pass id) = Silent (record {
  not_opened = refl;
  not_claimed = refl;
  not_taken = λ p. refl;
  not_put = refl;
  not_dropped = refl;
  leaves = λ h x. unless_taken_off-off (length h + 1) id (event.Del pass id) x (λ other. refl);
})
touch slice column (event.Find pass query) = Silent (record {
  not_opened = refl;
  not_claimed = refl;
  not_taken = λ p. refl;
  not_put = refl;
  not_dropped = refl;
  leaves = λ h x. sym (unless_taken_off-silent (length h + 1) (event.Find pass query) x (λ i. refl));
})
touch slice column (event.End pass) = Silent (record {
  not_opened = refl;
  not_claimed = refl;
  not_taken = λ p. refl;
  not_put = refl;
  not_dropped = refl;
  leaves = λ h x. sym (unless_taken_off-silent (length h + 1) (event.End pass) x (λ i. refl));
})
touch slice column (event.Clear pass cleared) = Silent (record {
  not_opened = refl;
  not_claimed = refl;
  not_taken = λ p. refl;
  not_put = refl;
  not_dropped = refl;
  leaves = λ h x. sym (unless_taken_off-silent (length h + 1) (event.Clear pass cleared) x (λ i. refl));
})
touch slice column (event.Tune pass config) = Silent (record {
  not_opened = refl;
  not_claimed = refl;
  not_taken = λ p. refl;
  not_put = refl;
  not_dropped = refl;
  leaves = λ h x. sym (unless_taken_off-silent (length h + 1) (event.Tune pass config) x (λ i. refl));
})
touch slice column (event.No pass asked) = Silent (record {
  not_opened = refl;
  not_claimed = refl;
  not_taken = λ p. refl;
  not_put = refl;
  not_dropped = refl;
  leaves = λ h x. sym (unless_taken_off-silent (length h + 1) (event.No pass asked) x (λ i. refl));
})
touch slice column (event.Read pass asked) = Silent (record {
  not_opened = refl;
  not_claimed = refl;
  not_taken = λ p. refl;
  not_put = refl;
  not_dropped = refl;
  leaves = λ h x. sym (unless_taken_off-silent (length h + 1) (event.Read pass asked) x (λ i. refl));
})

-- the state to which later events take a column from its state after these
unfoldable pub state_from : (slice column : ℕ) → List Event → ColumnState → List Event → ColumnState
state_from slice column history x [] = x
state_from slice column history x (e ∷ later) = state_from slice column (history ++ e ∷ []) (after slice column history x e) later

-- the state in which a history leaves a column
unfoldable pub state_of : (slice column : ℕ) → List Event → ColumnState
state_of slice column history = state_from slice column [] Unclaimed history

-- the state to which the events take a column, with one more event
state_from-push : (slice column : ℕ) (history : List Event) (x : ColumnState) (later : List Event) (e : Event) →
    state_from slice column history x (later ++ e ∷ []) ≡ after slice column (history ++ later) (state_from slice column history x later) e
unfolding state_from
state_from-push slice column history x [] e = ap (λ h. after slice column h x e) (sym (append-nil history))
state_from-push slice column history x (a ∷ later) e =
    state_from-push slice column (history ++ a ∷ []) (after slice column history x a) later e
    ∙ ap (λ h. after slice column h (state_from slice column (history ++ a ∷ []) (after slice column history x a) later) e) (append_assoc history (a ∷ []) later)

-- the state in which a history leaves a column, with one more event
pub state_of-push : (slice column : ℕ) (history : List Event) (e : Event) →
    state_of slice column (history ++ e ∷ []) ≡ after slice column history (state_of slice column history) e
unfolding state_of
state_of-push slice column history e = state_from-push slice column [] Unclaimed history e

-- before the first event a column is unclaimed
pub state_of-start : (slice column : ℕ) → state_of slice column [] ≡ Unclaimed
unfolding state_of state_from
state_of-start slice column = refl

-- whether a document was put on the column since its slice was opened
abbrev pub has_put : ℕ → ℕ → List Event → Bool
has_put slice column history = list_any (λ e. is_some (put_on slice column e)) (span slice history)

-- a document that was put on a column, with one more event, which doesn't open the slice
abbrev pub put-push : (history : List Event) (slice column : ℕ) (d : Document) (since : ℕ) (later longer : List Event) (e : Event) →
    IsPutOn history slice column d since later → longer ≡ later ++ e ∷ [] → opens slice e ≡ false → IsPutOn (history ++ e ∷ []) slice column d since longer
put-push history slice column d since later longer e put more stays = record {
  earlier = put.earlier;
  event = put.event;
  whole = ap (λ xs. xs ++ e ∷ []) put.whole ∙ append_assoc put.earlier (put.event ∷ later) (e ∷ []) ∙ ap (λ xs. put.earlier ++ put.event ∷ xs) (sym more);
  count = put.count;
  puts = put.puts;
  lives = put.lives;
  stays = ap (list_any (opens slice)) more ∙ none-push (opens slice) later e put.stays stays;
}

-- the number of an event that puts a document is that of the events up to it, and there are the later ones
pub count-since : (history : List Event) (slice column : ℕ) (d : Document) (since : ℕ) (later : List Event) → IsPutOn history slice column d since later →
    length history ≡ since + length later
count-since history slice column d since later put =
    let at = put.count in
    omega (arith, ap length put.whole, length-append put.earlier (put.event ∷ later))

-- a live document stays live with an event that neither opens its slice nor takes it off
pub live_on-push : (history : List Event) (slice column : ℕ) (d : Document) (since : ℕ) (e : Event) → IsLiveOn history slice column d since →
    opens slice e ≡ false → takes_off d.id e ≡ false → IsLiveOn (history ++ e ∷ []) slice column d since
live_on-push history slice column d since e is stays kept = record {
  later = is.later ++ e ∷ [];
  put = put-push history slice column d since is.later (is.later ++ e ∷ []) e is.put refl stays;
  not_taken_off = none-push (takes_off d.id) is.later e is.not_taken_off kept;
}

-- a live document is deleted by an event that takes it off
pub delete-push : (history : List Event) (slice column : ℕ) (d : Document) (since : ℕ) (e : Event) → IsLiveOn history slice column d since →
    opens slice e ≡ false → takes_off d.id e ≡ true → IsDeletedOn (history ++ e ∷ []) slice column d since (length history + 1)
delete-push history slice column d since e is stays gone = record {
  between = is.later;
  event = e;
  later = [];
  put = put-push history slice column d since is.later (is.later ++ e ∷ []) e is.put refl stays;
  not_before = is.not_taken_off;
  takes_it_off = gone;
  count = ap (λ n. n + 1) (count-since history slice column d since is.later is.put);
}

-- a deleted document stays so with an event that doesn't open its slice
pub deleted-push : (history : List Event) (slice column : ℕ) (d : Document) (since until : ℕ) (e : Event) → IsDeletedOn history slice column d since until →
    opens slice e ≡ false → IsDeletedOn (history ++ e ∷ []) slice column d since until
deleted-push history slice column d since until e is stays = record {
  between = is.between;
  event = is.event;
  later = is.later ++ e ∷ [];
  put = put-push history slice column d since (is.between ++ is.event ∷ is.later) (is.between ++ is.event ∷ (is.later ++ e ∷ [])) e is.put
      (sym (append_assoc is.between (is.event ∷ is.later) (e ∷ []))) stays;
  not_before = is.not_before;
  takes_it_off = is.takes_it_off;
  count = is.count;
}

-- where a document was put by an event before the last, it was so before the last event, which doesn't open the slice
put_before : (history : List Event) (slice column : ℕ) (d : Document) (since : ℕ) (later rest : List Event) (e : Event) →
    (put : IsPutOn (history ++ e ∷ []) slice column d since later) → later ≡ rest ++ e ∷ [] → history ≡ put.earlier ++ put.event ∷ rest →
    IsPutOn history slice column d since rest
put_before history slice column d since later rest e put more whole = record {
  earlier = put.earlier;
  event = put.event;
  whole = whole;
  count = put.count;
  puts = put.puts;
  lives = put.lives;
  stays = (none_of_push (opens slice) rest e (ap (list_any (opens slice)) (sym more) ∙ put.stays)).0;
}

-- a document that is live after an event was put there by it, or was live before and isn't taken off by it
pub live_now_or_before : (history : List Event) (slice column : ℕ) (d : Document) (since : ℕ) (e : Event) → IsLiveOn (history ++ e ∷ []) slice column d since →
    ((put_on slice column e ≡ Some d.id) × (since ≡ length history + 1) × Contains (live (history ++ e ∷ [])) d)
    ⊎ (IsLiveOn history slice column d since × (takes_off d.id e ≡ false))
live_now_or_before history slice column d since e is =
    ⊎_elim
    (λ end. inl (
      ap (put_on slice column) end.2 ∙ is.put.puts,
      is.put.count ∙ ap (λ h. length h + 1) (sym end.1),
      subst (λ h. Contains (live h) d) (ap (λ h. h ++ is.put.event ∷ []) (sym end.1) ∙ ap (λ x. history ++ x ∷ []) (sym end.2)) is.put.lives,
    ))
    (λ more.
    let kept = none_of_push (takes_off d.id) more.0 e (ap (list_any (takes_off d.id)) (sym more.1) ∙ is.not_taken_off) in
    inr (record { later = more.0; put = put_before history slice column d since is.later more.0 e is.put more.1 more.2; not_taken_off = kept.0 }, kept.1))
    (split_at_end history is.put.earlier is.later e is.put.event is.put.whole)

-- a document that is live after an event that puts none there was live before, and isn't taken off by it
pub live_before : (history : List Event) (slice column : ℕ) (d : Document) (since : ℕ) (e : Event) → IsLiveOn (history ++ e ∷ []) slice column d since →
    put_on slice column e ≡ None → IsLiveOn history slice column d since × (takes_off d.id e ≡ false)
live_before history slice column d since e is none =
    ⊎_elim (λ now. let puts = now.0 in cc) (λ before. before) (live_now_or_before history slice column d since e is)

-- a document that is deleted after an event was so before, or was live before and is taken off by it
pub deleted_before : (history : List Event) (slice column : ℕ) (d : Document) (since until : ℕ) (e : Event) →
    IsDeletedOn (history ++ e ∷ []) slice column d since until →
    IsDeletedOn history slice column d since until ⊎ (IsLiveOn history slice column d since × (takes_off d.id e ≡ true) × (until ≡ length history + 1))
deleted_before history slice column d since until e is =
    ⊎_elim
    (λ end. absurd (not_empty is.between is.later is.event end.0))
    (λ more.
    let put = put_before history slice column d since (is.between ++ is.event ∷ is.later) more.0 e is.put more.1 more.2 in
    ⊎_elim
    (λ last. inr (
      record { later = more.0; put = put; not_taken_off = ap (list_any (takes_off d.id)) last.1 ∙ is.not_before },
      ap (takes_off d.id) last.2 ∙ is.takes_it_off,
      is.count ∙ ap (λ between. since + length between + 1) (sym last.1) ∙ ap (λ n. n + 1) (sym (count-since history slice column d since more.0 put)),
    ))
    (λ past. inl (record {
      between = is.between;
      event = is.event;
      later = past.0;
      put = subst (IsPutOn history slice column d since) past.2 put;
      not_before = is.not_before;
      takes_it_off = is.takes_it_off;
      count = is.count;
    }))
    (split_at_end more.0 is.between is.later e is.event (sym more.1)))
    (split_at_end history is.put.earlier (is.between ++ is.event ∷ is.later) e is.put.event is.put.whole)

-- a live document stays live or is deleted with an event that doesn't open its slice
pub live_or_deleted-push : (history : List Event) (slice column : ℕ) (d : Document) (since : ℕ) (e : Event) → opens slice e ≡ false →
    IsLiveOn history slice column d since → (b : Bool) → takes_off d.id e ≡ b →
    IsInState (history ++ e ∷ []) slice column (cond b (Deleted d since (length history + 1)) (Live d since))
live_or_deleted-push history slice column d since e stays is true gone = delete-push history slice column d since e is stays gone
live_or_deleted-push history slice column d since e stays is false kept = live_on-push history slice column d since e is stays kept

-- an event that doesn't concern a column leaves it, unless it takes its document off
pub quiet-push : (history : List Event) (slice column : ℕ) (e : Event) → Quiet slice column e → (x : ColumnState) → IsInState history slice column x →
    IsInState (history ++ e ∷ []) slice column (unless_taken_off (length history + 1) e x)
quiet-push history slice column e quiet Unclaimed is =
    is_claimed-push slice column history e quiet.not_opened ∙ or_from (is_claimed slice column history) (claims slice column e) is quiet.not_claimed
quiet-push history slice column e quiet (Pending pass) is = record {
  taken = in_span-push (takes pass slice column) slice history e quiet.not_opened
      ∙ or_left (list_any (takes pass slice column) (span slice history)) (takes pass slice column e) is.taken;
  not_put = in_span-push (λ x. is_some (put_on slice column x)) slice history e quiet.not_opened
      ∙ or_from (has_put slice column history) (is_some (put_on slice column e)) is.not_put (ap is_some quiet.not_put);
  not_dropped = in_span-push (drops_on slice column) slice history e quiet.not_opened
      ∙ or_from (list_any (drops_on slice column) (span slice history)) (drops_on slice column e) is.not_dropped quiet.not_dropped;
}
quiet-push history slice column e quiet Dropped is =
    in_span-push (drops_on slice column) slice history e quiet.not_opened
    ∙ or_left (list_any (drops_on slice column) (span slice history)) (drops_on slice column e) is
quiet-push history slice column e quiet (Live d since) is =
    live_or_deleted-push history slice column d since e quiet.not_opened is (takes_off d.id e) refl
quiet-push history slice column e quiet (Deleted d since until) is = deleted-push history slice column d since until e is quiet.not_opened

-- and a column's state after it comes from one before it
pub quiet_before : (history : List Event) (slice column : ℕ) (e : Event) → Quiet slice column e → (y : ColumnState) → IsInState (history ++ e ∷ []) slice column y →
    (x : ColumnState) × IsInState history slice column x × (y ≡ unless_taken_off (length history + 1) e x)
quiet_before history slice column e quiet Unclaimed is =
    let parts = or_parts (is_claimed slice column history) (claims slice column e) (sym (is_claimed-push slice column history e quiet.not_opened) ∙ is) in
    (Unclaimed, parts.0, refl)
quiet_before history slice column e quiet (Pending pass) is =
    let taken = or_cases (list_any (takes pass slice column) (span slice history)) (takes pass slice column e)
    (sym (in_span-push (takes pass slice column) slice history e quiet.not_opened) ∙ is.taken) in
    let put = or_parts (has_put slice column history) (is_some (put_on slice column e))
    (sym (in_span-push (λ x. is_some (put_on slice column x)) slice history e quiet.not_opened) ∙ is.not_put) in
    let dropped = or_parts (list_any (drops_on slice column) (span slice history)) (drops_on slice column e)
    (sym (in_span-push (drops_on slice column) slice history e quiet.not_opened) ∙ is.not_dropped) in (
      Pending pass,
      record { taken = ⊎_elim (λ h. h) (λ h. absurd (both_ways (takes pass slice column e) (quiet.not_taken pass) h)) taken; not_put = put.0; not_dropped = dropped.0 },
      refl,
    )
quiet_before history slice column e quiet Dropped is =
    let dropped = or_cases (list_any (drops_on slice column) (span slice history)) (drops_on slice column e)
    (sym (in_span-push (drops_on slice column) slice history e quiet.not_opened) ∙ is) in
    (Dropped, ⊎_elim (λ h. h) (λ h. absurd (both_ways (drops_on slice column e) quiet.not_dropped h)) dropped, refl)
quiet_before history slice column e quiet (Live d since) is =
    let before = live_before history slice column d since e is quiet.not_put in
    (Live d since, before.0, sym (ap (λ b. cond b (Deleted d since (length history + 1)) (Live d since)) before.1))
quiet_before history slice column e quiet (Deleted d since until) is =
    ⊎_elim
    (λ before. (Deleted d since until, before, refl))
    (λ live. (
      Live d since,
      live.0,
      ap (Deleted d since) live.2 ∙ sym (ap (λ b. cond b (Deleted d since (length history + 1)) (Live d since)) live.1),
    ))
    (deleted_before history slice column d since until e is)

-- no document was put on a column since its slice is opened
pub none_put_opened : (history : List Event) (slice column : ℕ) (d : Document) (since : ℕ) (later : List Event) (e : Event) →
    IsPutOn (history ++ e ∷ []) slice column d since later → opens slice e ≡ true → put_on slice column e ≡ None → ⊥
none_put_opened history slice column d since later e put opened none =
    ⊎_elim
    (λ end. let same = ap (put_on slice column) end.2 in let puts = put.puts in cc)
    (λ more. both_ways (opens slice e) (none_of_push (opens slice) more.0 e (ap (list_any (opens slice)) (sym more.1) ∙ put.stays)).1 opened)
    (split_at_end history put.earlier later e put.event put.whole)

-- whether a document was put on a column in this state
abbrev pub has_document : ColumnState → Bool
has_document (Live d since) = true
has_document (Deleted d since until) = true
has_document _ = false

-- an event that doesn't concern a column doesn't change whether a document was put there
pub has_document-unless_taken_off : (until : ℕ) (e : Event) (x : ColumnState) → has_document (unless_taken_off until e x) ≡ has_document x
has_document-unless_taken_off until e (Live d since) = by_test (takes_off d.id e) where
  by_test : (b : Bool) → has_document (cond b (Deleted d since until) (Live d since)) ≡ true
  by_test true = refl
  by_test false = refl
has_document-unless_taken_off until e Unclaimed = refl
has_document-unless_taken_off until e (Pending pass) = refl
has_document-unless_taken_off until e Dropped = refl
has_document-unless_taken_off until e (Deleted d since at) = refl

-- a column that is over stays so
pub over-unless_taken_off : (until : ℕ) (e : Event) (x : ColumnState) → IsOver x → IsOver (unless_taken_off until e x)
over-unless_taken_off until e (Live d since) over = absurd over
over-unless_taken_off until e Unclaimed over = over
over-unless_taken_off until e (Pending pass) over = over
over-unless_taken_off until e Dropped over = over
over-unless_taken_off until e (Deleted d since at) over = over

-- what the events of a column make of it
pub after-take : (slice column : ℕ) (history : List Event) (pass : ℕ) (x : ColumnState) → after slice column history x (event.Take pass slice column) ≡ Pending pass
after-take slice column history pass x = ap (λ b. cond b (Pending pass) x) (this_column slice column)

-- an add on a column makes it live
pub after-add : (slice column : ℕ) (history : List Event) (pass id : ℕ) (text : List ℕ) (bits : List Bit) (x : ColumnState) →
    after slice column history x (event.Add pass id text slice column bits)
    ≡ Live (record { id = id; text = text; place = place history + 1 }) (length history + 1)
after-add slice column history pass id text bits x =
    ap (λ b. cond b (Live (record { id = id; text = text; place = place history + 1 }) (length history + 1)) (after_taken_off id (length history + 1) x))
    (this_column slice column)

-- a move of a live document to a column makes it live
pub after-move : (slice column : ℕ) (history : List Event) (pass : ℕ) (d : Document) (bits : List Bit) (x : ColumnState) → document_with d.id history ≡ Some d →
    after slice column history x (event.Move pass d.id slice column bits) ≡ Live d (length history + 1)
after-move slice column history pass d bits x found =
    ap (λ b. cond b (after_moved (document_with d.id history) (length history + 1) x) (after_taken_off d.id (length history + 1) x)) (this_column slice column)
    ∙ ap (λ o. after_moved o (length history + 1) x) found

-- a drop on a column makes it dropped
pub after-drop : (slice column : ℕ) (history : List Event) (pass id : ℕ) (text : List ℕ) (x : ColumnState) →
    after slice column history x (event.Drop pass id text slice column) ≡ Dropped
after-drop slice column history pass id text x = ap (λ b. cond b Dropped x) (this_column slice column)

-- and so does a void
pub after-void : (slice column : ℕ) (history : List Event) (pass : ℕ) (x : ColumnState) → after slice column history x (event.Void pass slice column) ≡ Dropped
after-void slice column history pass x = ap (λ b. cond b Dropped x) (this_column slice column)

-- an Opened of the slice makes a column unclaimed
pub after-opened : (slice column : ℕ) (history : List Event) (pass : ℕ) (alone : Bool) (x : ColumnState) →
    after slice column history x (event.Opened pass slice alone) ≡ Unclaimed
after-opened slice column history pass alone x = ap (λ b. cond b Unclaimed x) (eq-eqb slice slice refl)
