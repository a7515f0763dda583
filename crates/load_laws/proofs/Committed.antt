-- In the history of a load each add is committed, and each delete.
use Rattle.std.proofs.Common.{◌≡◌, ℕ, ◌+◌, ◌*◌, ◌<◌, ◌≤◌, ◌⊎◌, false, inl, inr, ⊎_elim, List, [], ◌∷◌, ◌++◌, Option, Some, None, refl, sym, ap, ap₂, ◌∙◌, subst, arith, append_assoc}
use Rattle.std.proofs.lemmas.List.Elements.{All-head}
use Rattle.std.proofs.lemmas.List.Sums.{sum_by-append, sum_by-cons}
use Rattle.std.specs.List.{All, sum_by}
use Rattle.std.specs.Option.{option_map_or}
use Rattle.funnel_model.proofs.Histories.{allowed_within, legal_before}
use Rattle.funnel_model.proofs.NothingMoved.{moves_nothing-before}
use Rattle.funnel_model.specs.declared.bit_list.Bit.{Bit}
use Rattle.funnel_model.specs.declared.call.Call.{Call}
use Rattle.funnel_model.specs.declared.call.Call.TheVariants as call
use Rattle.funnel_model.specs.declared.event.Event.{Event}
use Rattle.funnel_model.specs.declared.event.Event.TheVariants as event
use Rattle.funnel_model.specs.declared.reply.Reply.{Reply}
use Rattle.funnel_model.specs.Events.{call_of, pass_of}
use Rattle.funnel_model.specs.History.{MovesNothing, is_live, live}
use Rattle.funnel_model.specs.Legal.{Limits, IsFull, IsIdle, IsLegal}
use Rattle.load_gen.specs.Jobs.{jobs}
use Rattle.load_laws.specs.LonePass.{count_of_takes}
use Rattle.load_laws.specs.Workers.{HasRoomFor, IsLoaded}
use Rattle.load_laws.proofs.Balance.{AddsOnce, added, balanced, by_number, deleted, deleted_was_asked, event_added_was_asked, event_deleted_was_asked, is_number, live_by_count, no_more, none_replaced, not_live_before, number_is}
use Rattle.load_laws.proofs.CallEvents.{add_event, delete_event}
use Rattle.load_laws.proofs.JobCounts.{add_weight, delete_weight, over-one}
use Rattle.load_laws.proofs.JobFacts.{IsOfLoad, at_least_once, at_most_once, deleted_at_most_once, jobs_are_of_load}
use Rattle.load_laws.proofs.Parts.{adds_asked, deletes_asked, parts_asked}
use Rattle.load_laws.proofs.PassTotals.{asked, total-same_below, total-weigh_by, weigh_by}
use Rattle.load_laws.proofs.Quiet.{all_second}
use Rattle.load_laws.proofs.Room.{not_full}
use Rattle.load_laws.proofs.Takes.{before_event, fill_weight, idle_open, pass_takes_filled, take_weight}
use Rattle.load_laws.proofs.Unmoved.{load_moves_nothing}
use Rattle.load_laws.proofs.WorkerEvents.{call_in, idle_in, own_of_load}

-- a sum over a history with an event between
pub sum_around : (f : Event → ℕ) (history earlier : List Event) (e : Event) (later : List Event) → history ≡ earlier ++ e ∷ later →
    sum_by f history ≡ sum_by f earlier + (f e + sum_by f later)
sum_around f history earlier e later whole =
    ap (sum_by f) whole ∙ sum_by-append f earlier (e ∷ later) ∙ ap (λ n. sum_by f earlier + n) (sum_by-cons f e later)

-- all workers' takes were followed by an add or a drop
takes_are_filled : (limits : Limits) (docs words seed workers : ℕ) (history : List Event) (replies : ℕ → List Reply) →
    IsLoaded limits docs words seed workers history replies → sum_by take_weight history ≡ sum_by fill_weight history
takes_are_filled limits docs words seed workers history replies loaded =
    sym (total-weigh_by take_weight workers history loaded.no_other)
    ∙ total-same_below (λ worker. weigh_of take_weight worker) (λ worker. weigh_of fill_weight worker) workers
    (λ worker below. pass_takes_filled limits worker history loaded.legal unmoved (idle_in limits history worker (jobs docs words seed workers worker) (replies worker) (loaded.asked worker below)))
    ∙ total-weigh_by fill_weight workers history loaded.no_other
  where
    unmoved : MovesNothing history
    unmoved = load_moves_nothing limits docs words seed workers history replies loaded

    weigh_of : (Event → ℕ) → ℕ → ℕ
    weigh_of f worker = weigh_by f worker history

-- an add or a drop answers an add
filled_was_asked : (history : List Event) → sum_by fill_weight history ≤ sum_by (asked (add_weight (λ id. 1))) history
filled_was_asked history = no_more fill_weight (asked (add_weight (λ id. 1))) history one where
  one : (e : Event) → fill_weight e ≤ asked (add_weight (λ id. 1)) e
  one (event.Add pass id text slice column bits) = omega arith
  one (event.Drop pass id text slice column) = omega arith
  one _ = omega arith

-- where a pass that is idle answers an add, the engine isn't full
room_in_columns : (limits : Limits) (docs words seed workers : ℕ) (history : List Event) (replies : ℕ → List Reply) →
    IsLoaded limits docs words seed workers history replies → HasRoomFor limits docs →
    (earlier : List Event) (e : Event) (later : List Event) → history ≡ earlier ++ e ∷ later →
    asked (add_weight (λ id. 1)) e ≡ 1 → IsIdle (pass_of e) earlier → IsFull limits earlier → ⊥
room_in_columns limits docs words seed workers history replies loaded room earlier e later whole one idle full =
    let allowed = allowed_within limits history earlier e later loaded.legal whole in
    let columns = room.columns in
    let adds = adds_asked limits docs words seed workers history replies loaded (λ id. 1) ∙ over-one docs in
    let adds_around = sum_around (asked (add_weight (λ id. 1))) history earlier e later whole in
    let takes_around = sum_around take_weight history earlier e later whole in
    let fills_around = sum_around fill_weight history earlier e later whole in
    let filled = takes_are_filled limits docs words seed workers history replies loaded in
    let before = filled_was_asked earlier in
    let after = filled_was_asked later in
    let unmoved = moves_nothing-before history earlier e later whole (load_moves_nothing limits docs words seed workers history replies loaded) in
    let fills_none : fill_weight e ≡ 0 = sym (before_event limits earlier e allowed.rule unmoved.1) ∙ idle_open _ idle in
    let few : count_of_takes earlier < limits.slices * limits.columns =
    omega (arith, columns, adds, adds_around, takes_around, fills_around, filled, before, after, fills_none, one) in
    not_full limits earlier (legal_before limits earlier (e ∷ later) (subst (IsLegal limits) whole loaded.legal)) few full

-- what an event weighs whose call is known
asked_is : (w : Call → ℕ) (e : Event) (c : Call) → call_of e ≡ Some c → asked w e ≡ w c
asked_is w e c is = ap (λ o. option_map_or w o 0) is

-- an event is of a worker's pass
pub pass_below : (limits : Limits) (docs words seed workers : ℕ) (history : List Event) (replies : ℕ → List Reply) →
    IsLoaded limits docs words seed workers history replies →
    (earlier : List Event) (e : Event) (later : List Event) → history ≡ earlier ++ e ∷ later → pass_of e < workers
pass_below limits docs words seed workers history replies loaded earlier e later whole =
    All-head (λ x. pass_of x < workers) e later (all_second (λ x. pass_of x < workers) earlier (e ∷ later) (subst (All (λ x. pass_of x < workers)) whole loaded.no_other))

-- so its call is one of the load's
pub call_of_load : (limits : Limits) (docs words seed workers : ℕ) (history : List Event) (replies : ℕ → List Reply) →
    IsLoaded limits docs words seed workers history replies →
    (earlier : List Event) (e : Event) (later : List Event) → history ≡ earlier ++ e ∷ later → (c : Call) → call_of e ≡ Some c → IsOfLoad docs words seed c
call_of_load limits docs words seed workers history replies loaded earlier e later whole c is =
    let below = pass_below limits docs words seed workers history replies loaded earlier e later whole in
    call_in (IsOfLoad docs words seed) history earlier e later c whole is
    (subst (All (IsOfLoad docs words seed)) (sym (own_of_load limits docs words seed workers history replies loaded (pass_of e) below))
    (jobs_are_of_load docs words seed workers (pass_of e)))

-- no number was asked to be added twice, up to any event
pub adds_once : (limits : Limits) (docs words seed workers : ℕ) (history : List Event) (replies : ℕ → List Reply) →
    IsLoaded limits docs words seed workers history replies → (earlier later : List Event) → history ≡ earlier ++ later → AddsOnce earlier
adds_once limits docs words seed workers history replies loaded earlier later whole = λ id.
    omega (
      arith,
      adds_asked limits docs words seed workers history replies loaded (is_number id),
      at_most_once docs id,
      ap (sum_by (asked (add_weight (is_number id)))) whole ∙ sum_by-append (asked (add_weight (is_number id))) earlier later,
    )

-- so a number isn't live before its add
pub add_is_new : (limits : Limits) (docs words seed workers : ℕ) (history : List Event) (replies : ℕ → List Reply) →
    IsLoaded limits docs words seed workers history replies →
    (earlier : List Event) (e : Event) (later : List Event) → history ≡ earlier ++ e ∷ later → (id : ℕ) (text : List ℕ) → call_of e ≡ Some (call.Add id text) →
    is_live id earlier ≡ false
add_is_new limits docs words seed workers history replies loaded earlier e later whole id text is =
    not_live_before limits earlier e id (legal_before limits earlier (e ∷ later) (subst (IsLegal limits) whole loaded.legal))
    (adds_once limits docs words seed workers history replies loaded (earlier ++ e ∷ []) later (whole ∙ sym (append_assoc earlier (e ∷ []) later)))
    (asked_is (add_weight (is_number id)) e (call.Add id text) is ∙ number_is id)

-- and what was added by any time is what is live and what was deleted
pub balanced_by_then : (limits : Limits) (docs words seed workers : ℕ) (history : List Event) (replies : ℕ → List Reply) →
    IsLoaded limits docs words seed workers history replies → (earlier later : List Event) → history ≡ earlier ++ later → (g : ℕ → ℕ) →
    by_number g (live earlier) + sum_by (deleted g) earlier ≡ sum_by (added g) earlier
balanced_by_then limits docs words seed workers history replies loaded earlier later whole g =
    let legal = legal_before limits earlier later (subst (IsLegal limits) whole loaded.legal) in
    omega (
      arith,
      (balanced limits earlier legal).balance g,
      none_replaced limits earlier legal (adds_once limits docs words seed workers history replies loaded earlier later whole) g,
    )

-- each add of a load is committed
pub add_is_committed : (limits : Limits) (docs words seed workers : ℕ) (history : List Event) (replies : ℕ → List Reply) →
    IsLoaded limits docs words seed workers history replies → HasRoomFor limits docs →
    (earlier : List Event) (e : Event) (later : List Event) → history ≡ earlier ++ e ∷ later → (id : ℕ) (text : List ℕ) → call_of e ≡ Some (call.Add id text) →
    (pass : ℕ) × (slice : ℕ) × (column : ℕ) × (bits : List Bit) × (e ≡ event.Add pass id text slice column bits)
add_is_committed limits docs words seed workers history replies loaded room earlier e later whole id text is =
    let one = asked_is (add_weight (λ n. 1)) e (call.Add id text) is in
    add_event limits earlier e id text (add_is_new limits docs words seed workers history replies loaded earlier e later whole id text is)
    (room_in_columns limits docs words seed workers history replies loaded room earlier e later whole one)
    (allowed_within limits history earlier e later loaded.legal whole) is

-- an event weighs what its call does where it weighs no more, and no less
as_asked : (f : Event → ℕ) (w : Call → ℕ) (e : Event) → f e ≤ asked w e → ((c : Call) → call_of e ≡ Some c → w c ≤ f e) → f e ≡ asked w e
as_asked f w e no_more_than no_less_than = by_call (call_of e) refl where
  by_call : (o : Option Call) → call_of e ≡ o → f e ≡ asked w e
  by_call None is = let none : asked w e ≡ 0 = ap (λ x. option_map_or w x 0) is in omega (arith, none, no_more_than)
  by_call (Some c) is = let less = no_less_than c is in omega (arith, asked_is w e c is, less, no_more_than)

-- so each event adds what it was asked to
pub added_as_asked : (limits : Limits) (docs words seed workers : ℕ) (history : List Event) (replies : ℕ → List Reply) →
    IsLoaded limits docs words seed workers history replies → HasRoomFor limits docs →
    (earlier : List Event) (e : Event) (later : List Event) → history ≡ earlier ++ e ∷ later → (g : ℕ → ℕ) → added g e ≡ asked (add_weight g) e
added_as_asked limits docs words seed workers history replies loaded room earlier e later whole g =
    as_asked (added g) (add_weight g) e (event_added_was_asked g e) no_less where
      no_less : (c : Call) → call_of e ≡ Some c → add_weight g c ≤ added g e
      no_less (call.Add id text) is =
          let by = add_is_committed limits docs words seed workers history replies loaded room earlier e later whole id text is in
          omega (arith, ap (added g) by.4)
      no_less (call.Put id text) is =
          absurd (call_of_load limits docs words seed workers history replies loaded earlier e later whole (call.Put id text) is)
      no_less _ is = omega arith

-- two weights that are the same of each event of a stretch of a history are so together
pub same_stretch : (f g : Event → ℕ) (history : List Event) →
    ((earlier : List Event) (e : Event) (later : List Event) → history ≡ earlier ++ e ∷ later → f e ≡ g e) →
    (front stretch rest : List Event) → history ≡ front ++ (stretch ++ rest) → sum_by f stretch ≡ sum_by g stretch
same_stretch f g history each front [] rest whole = refl
same_stretch f g history each front (e ∷ stretch) rest whole =
    let here = each front e (stretch ++ rest) whole in
    let later = same_stretch f g history each (front ++ e ∷ []) stretch rest (whole ∙ sym (append_assoc front (e ∷ []) (stretch ++ rest))) in
    sum_by-cons f e stretch ∙ ap₂ (λ a b. a + b) here later ∙ sym (sum_by-cons g e stretch)

-- an event of a history comes after its first part, or in it
pub after_or_in : (part more earlier : List Event) (e : Event) (later : List Event) → part ++ more ≡ earlier ++ e ∷ later →
    ((between : List Event) × (earlier ≡ part ++ between)) ⊎ ((between : List Event) × (part ≡ earlier ++ e ∷ between))
after_or_in [] more earlier e later whole = inl (earlier, refl)
after_or_in (x ∷ part) more [] e later whole = inr (part, let same : x ≡ e = cc in ap (λ y. y ∷ part) same)
after_or_in (x ∷ part) more (y ∷ earlier) e later whole =
    let same : x ≡ y = cc in
    ⊎_elim
    (λ after. inl (after.0, ap₂ (λ z zs. z ∷ zs) (sym same) after.1))
    (λ within. inr (within.0, ap₂ (λ z zs. z ∷ zs) same within.1))
    (after_or_in part more earlier e later (cc))

-- it comes after the part where it weighs something and the part weighs nothing
pub after_part : (f : Event → ℕ) (part more earlier : List Event) (e : Event) (later : List Event) → part ++ more ≡ earlier ++ e ∷ later →
    sum_by f part ≡ 0 → 1 ≤ f e → (between : List Event) × (earlier ≡ part ++ between)
after_part f part more earlier e later whole nothing some =
    ⊎_elim
    (λ after. after)
    (λ within. let around = sum_around f part earlier e within.0 within.1 in absurd (omega (arith, around, nothing, some)))
    (after_or_in part more earlier e later whole)

-- each delete of a load is committed
pub delete_is_committed : (limits : Limits) (docs words seed workers : ℕ) (history : List Event) (replies : ℕ → List Reply) →
    IsLoaded limits docs words seed workers history replies → HasRoomFor limits docs →
    (earlier : List Event) (e : Event) (later : List Event) → history ≡ earlier ++ e ∷ later → (id : ℕ) → call_of e ≡ Some (call.Delete id) →
    (pass : ℕ) × (e ≡ event.Del pass id)
delete_is_committed limits docs words seed workers history replies loaded room earlier e later whole id is =
    let p = loaded.parts in
    let parts = parts_asked limits docs words seed workers history replies loaded in
    let allowed = allowed_within limits history earlier e later loaded.legal whole in
    let number = call_of_load limits docs words seed workers history replies loaded earlier e later whole (call.Delete id) is in
    let deletes = deletes_asked limits docs words seed workers history replies loaded (is_number id) in
    let once = deleted_at_most_once docs id in
    let around = sum_around (asked (delete_weight (is_number id))) history earlier e later whole in
    let here = asked_is (delete_weight (is_number id)) e (call.Delete id) is ∙ number_is id in
    let before = deleted_was_asked (is_number id) earlier in
    let split : history ≡ p.adding ++ (p.deleting ++ p.querying) = p.whole ∙ append_assoc p.adding p.deleting p.querying in
    let behind = after_part (asked (delete_weight (is_number id))) p.adding (p.deleting ++ p.querying) earlier e later (sym split ∙ whole)
    (parts.deletes_first (is_number id)) (omega (arith, here)) in
    let committed = same_stretch (added (is_number id)) (asked (add_weight (is_number id))) history
    (λ xs x ys at. added_as_asked limits docs words seed workers history replies loaded room xs x ys at (is_number id))
    [] p.adding (p.deleting ++ p.querying) split in
    let all = parts.adds_first (is_number id) in
    let one_add = at_least_once docs id number.0 number.1 in
    let added_by_then = ap (sum_by (added (is_number id))) behind.1 ∙ sum_by-append (added (is_number id)) p.adding behind.0 in
    let balance = balanced_by_then limits docs words seed workers history replies loaded earlier (e ∷ later) whole (is_number id) in
    delete_event limits earlier e id
    (live_by_count id earlier (omega (arith, deletes, once, around, here, before, committed, all, one_add, added_by_then, balance)))
    allowed is

-- so each event deletes what it was asked to
pub deleted_as_asked : (limits : Limits) (docs words seed workers : ℕ) (history : List Event) (replies : ℕ → List Reply) →
    IsLoaded limits docs words seed workers history replies → HasRoomFor limits docs →
    (earlier : List Event) (e : Event) (later : List Event) → history ≡ earlier ++ e ∷ later → (g : ℕ → ℕ) → deleted g e ≡ asked (delete_weight g) e
deleted_as_asked limits docs words seed workers history replies loaded room earlier e later whole g =
    as_asked (deleted g) (delete_weight g) e (event_deleted_was_asked g e) no_less where
      no_less : (c : Call) → call_of e ≡ Some c → delete_weight g c ≤ deleted g e
      no_less (call.Delete id) is =
          let by = delete_is_committed limits docs words seed workers history replies loaded room earlier e later whole id is in
          omega (arith, ap (deleted g) by.1)
      no_less _ is = omega arith
