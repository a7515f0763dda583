-- Each worker of a load is answered as the summary tells.
use Rattle.std.proofs.Common.{◌≡◌, ℕ, ◌+◌, ◌%◌, ◌<◌, ◌≤◌, ◌==◌, ⊎_elim, Bool, true, false, cond, List, [], ◌∷◌, ◌++◌, length, map, filter, flat_map, Option, Some, refl, sym, ap, ap₂, ◌∙◌, subst, arith, append_assoc}
use Rattle.std.proofs.lemmas.Bool.{eq-eqb}
use Rattle.std.proofs.lemmas.Nat.{mod_below}
use Rattle.std.proofs.lemmas.List.{append-nil, length-append}
use Rattle.std.proofs.lemmas.List.Elements.{All-cons, All-head, All-nil, All-tail}
use Rattle.std.proofs.lemmas.List.Sums.{sum_by-append}
use Rattle.std.specs.List.{All, cons_option, enumerate_from, sum_by}
use Rattle.std.specs.Option.{option_map_or}
use Rattle.funnel_model.proofs.Histories.{legal_before}
use Rattle.funnel_model.proofs.LiveLemmas.{live_all-push}
use Rattle.funnel_model.proofs.StepLemmas.{call_by-own, own-append}
use Rattle.funnel_model.specs.declared.call.Call.{Call}
use Rattle.funnel_model.specs.declared.call.Call.TheVariants as call
use Rattle.funnel_model.specs.declared.event.Event.{Event}
use Rattle.funnel_model.specs.declared.event.Event.TheVariants as event
use Rattle.funnel_model.specs.declared.reply.Reply.{Reply}
use Rattle.funnel_model.specs.declared.reply.Reply.TheVariants as reply
use Rattle.funnel_model.specs.Events.{added_by, call_of, pass_of}
use Rattle.funnel_model.specs.History.{Document, answer, document_at, live, own, place}
use Rattle.funnel_model.specs.Legal.{Limits, IsLegal}
use Rattle.funnel_model.specs.Steps.{IsReply, place_told}
use Rattle.load_gen.specs.declared.limits.TheConstants.{CHECKED_ONE_IN}
use Rattle.load_gen.specs.Documents.{documents, name_of_document}
use Rattle.load_gen.specs.Jobs.{adds_of, deletes_of, is_deleted, jobs, nth_add, queries_of, share}
use Rattle.load_gen.specs.Queries.{queries}
use Rattle.load_gen.specs.Summary.{found, result_of, results_of}
use Rattle.load_laws.specs.Replies.{result_in}
use Rattle.load_laws.specs.Workers.{AreAnswered, HasRoomFor, IsAnswered, IsAnsweredAsTold, IsLoaded, TellsNumbers}
use Rattle.load_laws.proofs.Balance.{added, balanced, by_number, deleted, deleted_was_asked, is_number, no_more, number_is}
use Rattle.load_laws.proofs.CallEvents.{find_event}
use Rattle.load_laws.proofs.Committed.{add_is_committed, add_is_new, added_as_asked, after_or_in, balanced_by_then, call_of_load, delete_is_committed, deleted_as_asked, same_stretch, sum_around}
use Rattle.load_laws.proofs.FoundLive.{IsOfDocuments, found_over, met, met_weighs, one_named, same_result, where_met}
use Rattle.load_laws.proofs.JobCounts.{jobs_keep_names, add_weight, delete_weight, over, where_deleted}
use Rattle.load_laws.proofs.JobFacts.{IsItem, share_items}
use Rattle.load_laws.proofs.Parts.{adds_asked, deletes_asked, parts_asked}
use Rattle.load_laws.proofs.PassTotals.{asked, weigh_by, weigh_by-calls}
use Rattle.load_laws.proofs.RunEvents.{EventOf, HaveEvents, events_of_run, two_parts}
use Rattle.load_laws.proofs.WorkerEvents.{load_is_unspent}

-- the call of an event that adds a document
add_of : (e : Event) (before : ℕ) (d : Document) → document_at before (added_by e) [] ≡ Some d → call_of e ≡ Some (call.Add d.id d.text)
add_of (event.Add pass id text slice column bits) before d is =
    ap (λ o. Some (call.Add (option_map_or (λ (x : Document). x.id) o 0) (option_map_or (λ (x : Document). x.text) o []))) is
add_of e before d is = cc

-- what is live is of the load
pub live_of_load : (limits : Limits) (docs words seed workers : ℕ) (history : List Event) (replies : ℕ → List Reply) →
    IsLoaded limits docs words seed workers history replies → (front stretch rest : List Event) → history ≡ front ++ (stretch ++ rest) →
    All (IsOfDocuments docs words seed) (live front) → All (IsOfDocuments docs words seed) (live (front ++ stretch))
live_of_load limits docs words seed workers history replies loaded front [] rest whole before =
    subst (λ (h : List Event). All (IsOfDocuments docs words seed) (live h)) (sym (append-nil front)) before
live_of_load limits docs words seed workers history replies loaded front (e ∷ stretch) rest whole before =
    subst (λ (h : List Event). All (IsOfDocuments docs words seed) (live h)) (append_assoc front (e ∷ []) stretch)
    (live_of_load limits docs words seed workers history replies loaded (front ++ e ∷ []) stretch rest (whole ∙ sym (append_assoc front (e ∷ []) (stretch ++ rest)))
    (live_all-push (IsOfDocuments docs words seed) front e before
    (λ d is. call_of_load limits docs words seed workers history replies loaded front e (stretch ++ rest) whole (call.Add d.id d.text) (add_of e (place front) d is))))

-- the events of a pass weigh no more than all
pass_weighs : (f : Event → ℕ) (pass : ℕ) (history : List Event) → weigh_by f pass history ≤ sum_by f history
pass_weighs f pass history = no_more (λ e. cond (pass_of e == pass) (f e) 0) f history (λ e. by_test e (pass_of e == pass)) where
  by_test : (e : Event) (b : Bool) → cond b (f e) 0 ≤ f e
  by_test e true = omega arith
  by_test e false = omega arith

-- a find of the name of a document that the worker added, in the first part, finds this document alone
check_finds : (limits : Limits) (docs words seed workers : ℕ) (history : List Event) (replies : ℕ → List Reply) →
    IsLoaded limits docs words seed workers history replies → HasRoomFor limits docs → (worker : ℕ) → worker < workers →
    (done : List Call) (id : ℕ) (given : Reply) → id ≤ docs → 1 ≤ sum_by (add_weight (is_number id)) done →
    length done < length (adds_of (documents docs words seed) workers worker) → EventOf limits worker history done (call.Find (name_of_document id)) given →
    given ≡ reply.Found (id ∷ [])
check_finds limits docs words seed workers history replies loaded room worker below done id given within was_added early is =
    let p = loaded.parts in
    let h = is.earlier in
    let parts = parts_asked limits docs words seed workers history replies loaded in
    let legal = legal_before limits h (is.event ∷ is.later) (subst (IsLegal limits) is.whole loaded.legal) in
    let split : history ≡ p.adding ++ (p.deleting ++ p.querying) = p.whole ∙ append_assoc p.adding p.deleting p.querying in
    let none_deleted : sum_by (deleted (is_number id)) h ≡ 0 =
    ⊎_elim
    (λ after.
    let all = ap length (sym is.calls ∙ ap (own worker) after.1 ∙ own-append worker p.adding after.0) ∙ length-append (own worker p.adding) (own worker after.0) in
    let mine = ap length (p.adds worker below) in
    absurd (omega (arith, all, mine, early)))
    (λ before.
    let around = sum_around (asked (delete_weight (is_number id))) p.adding h is.event before.0 before.1 in
    let nothing = parts.deletes_first (is_number id) in
    let no_more_than = deleted_was_asked (is_number id) h in
    omega (arith, around, nothing, no_more_than))
    (after_or_in p.adding (p.deleting ++ p.querying) h is.event is.later (sym split ∙ is.whole)) in
    let committed = same_stretch (added (is_number id)) (asked (add_weight (is_number id))) history
    (λ xs x ys at. added_as_asked limits docs words seed workers history replies loaded room xs x ys at (is_number id)) [] h (is.event ∷ is.later) is.whole in
    let mine = weigh_by-calls (add_weight (is_number id)) worker h ∙ ap (sum_by (add_weight (is_number id))) is.calls in
    let of_all = pass_weighs (asked (add_weight (is_number id))) worker h in
    let balance = balanced_by_then limits docs words seed workers history replies loaded h (is.event ∷ is.later) is.whole (is_number id) in
    let once = (balanced limits h legal).once id in
    let documents_live = live_of_load limits docs words seed workers history replies loaded [] h (is.event ∷ is.later) is.whole (All-nil (IsOfDocuments docs words seed)) in
    let by = find_event limits h is.event (name_of_document id) given is.call is.reply in
    by.2 ∙ ap reply.Found (one_named docs words seed id (live h) room.few within documents_live
    (omega (arith, none_deleted, committed, mine, of_all, balance, once, was_added)))

-- an add of a worker is committed
add_is_answered : (limits : Limits) (docs words seed workers : ℕ) (history : List Event) (replies : ℕ → List Reply) →
    IsLoaded limits docs words seed workers history replies → HasRoomFor limits docs → (worker : ℕ) (done : List Call) (id : ℕ) (text : List ℕ) (given : Reply) →
    EventOf limits worker history done (call.Add id text) given → IsAnswered (call.Add id text) given
add_is_answered limits docs words seed workers history replies loaded room worker done id text given is =
    let by = add_is_committed limits docs words seed workers history replies loaded room is.earlier is.event is.later is.whole id text is.call in
    let new = add_is_new limits docs words seed workers history replies loaded is.earlier is.event is.later is.whole id text is.call in
    (place is.earlier + 1, subst (λ x. IsReply limits is.earlier x given) by.4 is.reply ∙ ap (λ b. place_told b (place is.earlier + 1)) new)

-- and so is a delete
delete_is_answered : (limits : Limits) (docs words seed workers : ℕ) (history : List Event) (replies : ℕ → List Reply) →
    IsLoaded limits docs words seed workers history replies → HasRoomFor limits docs → (worker : ℕ) (done : List Call) (id : ℕ) (given : Reply) →
    EventOf limits worker history done (call.Delete id) given → IsAnswered (call.Delete id) given
delete_is_answered limits docs words seed workers history replies loaded room worker done id given is =
    let by = delete_is_committed limits docs words seed workers history replies loaded room is.earlier is.event is.later is.whole id is.call in
    (place is.earlier + 1, subst (λ x. IsReply limits is.earlier x given) by.1 is.reply)

deletes_are_answered : (limits : Limits) (docs words seed workers : ℕ) (history : List Event) (replies : ℕ → List Reply) →
    IsLoaded limits docs words seed workers history replies → HasRoomFor limits docs → (worker : ℕ) (done : List Call) (ids : List ℕ) (given : List Reply) →
    HaveEvents limits worker history done (map call.Delete ids) given → AreAnswered (map call.Delete ids) given
deletes_are_answered limits docs words seed workers history replies loaded room worker done [] [] have = tt
deletes_are_answered limits docs words seed workers history replies loaded room worker done (id ∷ ids) (given ∷ others) have = (
  delete_is_answered limits docs words seed workers history replies loaded room worker done id given have.0,
  deletes_are_answered limits docs words seed workers history replies loaded room worker (done ++ call.Delete id ∷ []) ids others have.1,
)
deletes_are_answered limits docs words seed workers history replies loaded room worker done [] (given ∷ others) have = absurd have
deletes_are_answered limits docs words seed workers history replies loaded room worker done (id ∷ ids) [] have = absurd have

-- the calls after a check, or without one
checked : (limits : Limits) (docs words seed workers : ℕ) (history : List Event) (replies : ℕ → List Reply) →
    IsLoaded limits docs words seed workers history replies → HasRoomFor limits docs → (worker : ℕ) → worker < workers → (b : Bool) →
    (done : List Call) (id : ℕ) (calls : List Call) (given : List Reply) → id ≤ docs → 1 ≤ sum_by (add_weight (is_number id)) done →
    done ++ (cond b (call.Find (name_of_document id) ∷ []) [] ++ calls) ≡ adds_of (documents docs words seed) workers worker →
    HaveEvents limits worker history done (cond b (call.Find (name_of_document id) ∷ []) [] ++ calls) given →
    ((before : List Call) (others : List Reply) → before ++ calls ≡ adds_of (documents docs words seed) workers worker →
    HaveEvents limits worker history before calls others → AreAnswered calls others) →
    AreAnswered (cond b (call.Find (name_of_document id) ∷ []) [] ++ calls) given
checked limits docs words seed workers history replies loaded room worker below true done id calls (given ∷ others) within was_added whole have rest =
    let counted = length-append done (call.Find (name_of_document id) ∷ calls) in
    let all = ap length whole in (
      (id, refl, check_finds limits docs words seed workers history replies loaded room worker below done id given within was_added (omega (arith, counted, all)) have.0),
      rest (done ++ call.Find (name_of_document id) ∷ []) others (append_assoc done (call.Find (name_of_document id) ∷ []) calls ∙ whole) have.1,
    )
checked limits docs words seed workers history replies loaded room worker below true done id calls [] within was_added whole have rest = absurd have
checked limits docs words seed workers history replies loaded room worker below false done id calls given within was_added whole have rest = rest done given whole have

adds_are_answered : (limits : Limits) (docs words seed workers : ℕ) (history : List Event) (replies : ℕ → List Reply) →
    IsLoaded limits docs words seed workers history replies → HasRoomFor limits docs → (worker : ℕ) → worker < workers →
    (n : ℕ) (items : List (ℕ × List ℕ)) (done : List Call) (given : List Reply) → All (IsItem docs words seed) items →
    done ++ flat_map nth_add (enumerate_from n items) ≡ adds_of (documents docs words seed) workers worker →
    HaveEvents limits worker history done (flat_map nth_add (enumerate_from n items)) given → AreAnswered (flat_map nth_add (enumerate_from n items)) given
adds_are_answered limits docs words seed workers history replies loaded room worker below n [] done [] are whole have = tt
adds_are_answered limits docs words seed workers history replies loaded room worker below n ((i, text) ∷ items) done (given ∷ others) are whole have =
    let added_it = call.Add (i + 1) text in
    let calls = flat_map nth_add (enumerate_from (n + 1) items) in
    let b = n % CHECKED_ONE_IN == 0 in
    let within = (All-head (IsItem docs words seed) (i, text) items are).0 in
    let counted = sum_by-append (add_weight (is_number (i + 1))) done (added_it ∷ []) in
    let here : sum_by (add_weight (is_number (i + 1))) (added_it ∷ []) ≡ is_number (i + 1) (i + 1) = omega arith in
    let one = number_is (i + 1) in (
      add_is_answered limits docs words seed workers history replies loaded room worker done (i + 1) text given have.0,
      checked limits docs words seed workers history replies loaded room worker below b (done ++ added_it ∷ []) (i + 1) calls others (omega (arith, within))
          (omega (arith, counted, here, one)) (append_assoc done (added_it ∷ []) (cond b (call.Find (name_of_document (i + 1)) ∷ []) [] ++ calls) ∙ whole) have.1
          (λ before rest. adds_are_answered limits docs words seed workers history replies loaded room worker below (n + 1) items before rest
          (All-tail (IsItem docs words seed) (i, text) items are)),
    )
adds_are_answered limits docs words seed workers history replies loaded room worker below n [] done (given ∷ others) are whole have = absurd have
adds_are_answered limits docs words seed workers history replies loaded room worker below n ((i, text) ∷ items) done [] are whole have = absurd have

-- once all have deleted, what is live weighs what the documents weigh that are left
pub left_by_then : (limits : Limits) (docs words seed workers : ℕ) (history : List Event) (replies : ℕ → List Reply) →
    (loaded : IsLoaded limits docs words seed workers history replies) → HasRoomFor limits docs → (earlier rest between : List Event) → history ≡ earlier ++ rest →
    earlier ≡ (loaded.parts.adding ++ loaded.parts.deleting) ++ between → (g : ℕ → ℕ) →
    by_number g (live earlier) + over docs (where_deleted g) ≡ over docs g
left_by_then limits docs words seed workers history replies loaded room earlier rest between whole behind g =
    let p = loaded.parts in
    let parts = parts_asked limits docs words seed workers history replies loaded in
    let adds_were = same_stretch (added g) (asked (add_weight g)) history
    (λ xs x ys at. added_as_asked limits docs words seed workers history replies loaded room xs x ys at g) [] earlier rest whole in
    let deletes_were = same_stretch (deleted g) (asked (delete_weight g)) history
    (λ xs x ys at. deleted_as_asked limits docs words seed workers history replies loaded room xs x ys at g) [] earlier rest whole in
    let adds = asked_by_then (add_weight g) p.adding p.deleting in
    let deletes = asked_by_then (delete_weight g) p.adding p.deleting in
    let all_adds = adds_asked limits docs words seed workers history replies loaded g in
    let all_deletes = deletes_asked limits docs words seed workers history replies loaded g in
    let adds_whole = ap (sum_by (asked (add_weight g))) whole ∙ sum_by-append (asked (add_weight g)) earlier rest in
    let deletes_whole = ap (sum_by (asked (delete_weight g))) whole ∙ sum_by-append (asked (delete_weight g)) earlier rest in
    let first = parts.adds_first g in
    let second = parts.deletes_second g in
    let balance = balanced_by_then limits docs words seed workers history replies loaded earlier rest whole g in
    let adds_there = adds behind in
    let deletes_there = deletes behind in
    omega (arith, adds_were, deletes_were, adds_there, deletes_there, all_adds, all_deletes, adds_whole, deletes_whole, first, second, balance)
  where
    asked_by_then : (w : Call → ℕ) (xs ys : List Event) → earlier ≡ (xs ++ ys) ++ between →
        sum_by (asked w) earlier ≡ sum_by (asked w) xs + sum_by (asked w) ys + sum_by (asked w) between
    asked_by_then w xs ys is =
        ap (sum_by (asked w)) is ∙ sum_by-append (asked w) (xs ++ ys) between ∙ ap (λ n. n + sum_by (asked w) between) (sum_by-append (asked w) xs ys)

-- a query in the third part has the result that the summary tells
query_result : (limits : Limits) (docs words seed workers : ℕ) (history : List Event) (replies : ℕ → List Reply) →
    IsLoaded limits docs words seed workers history replies → HasRoomFor limits docs → (worker : ℕ) → worker < workers →
    (done : List Call) (query : List ℕ) (given : Reply) →
    length (adds_of (documents docs words seed) workers worker ++ deletes_of (documents docs words seed) workers worker) ≤ length done →
    EventOf limits worker history done (call.Find query) given → result_in given ≡ result_of (found (documents docs words seed) query)
query_result limits docs words seed workers history replies loaded room worker below done query given late is =
    let p = loaded.parts in
    let h = is.earlier in
    let texts = documents docs words seed in
    let behind : (between : List Event) × (h ≡ (p.adding ++ p.deleting) ++ between) =
    ⊎_elim
    (λ after. after)
    (λ before.
    let asked_here = own-append worker p.adding p.deleting ∙ ap₂ (λ (xs ys : List Call). xs ++ ys) (p.adds worker below) (p.deletes worker below) in
    let event_call = call_by-own worker is.event is.of_pass ∙ is.call in
    let calls = sym asked_here ∙ ap (own worker) before.1 ∙ own-append worker h (is.event ∷ before.0)
    ∙ ap₂ (λ (cs : List Call) (o : Option Call). cs ++ cons_option o (own worker before.0)) is.calls event_call in
    let counted = ap length calls ∙ length-append done (call.Find query ∷ own worker before.0) in
    absurd (omega (arith, counted, late)))
    (after_or_in (p.adding ++ p.deleting) p.querying h is.event is.later (sym p.whole ∙ is.whole)) in
    let documents_live = live_of_load limits docs words seed workers history replies loaded [] h (is.event ∷ is.later) is.whole (All-nil (IsOfDocuments docs words seed)) in
    let by = find_event limits h is.event query given is.call is.reply in
    ap result_in by.2
    ∙ same_result (met query (live h)) (found texts query)
    (λ v.
    let live_is = met_weighs docs words seed query v (live h) documents_live in
    let left = left_by_then limits docs words seed workers history replies loaded room h (is.event ∷ is.later) behind.0 is.whole behind.1 (where_met words seed query v) in
    let told = found_over docs words seed query v in
    omega (arith, live_is, left, told))

-- a query is answered with numbers
queries_find_numbers : (limits : Limits) (worker : ℕ) (history : List Event) (items : List (ℕ × List ℕ)) (done : List Call) (given : List Reply) →
    HaveEvents limits worker history done (map (λ item. call.Find item.1) items) given → All TellsNumbers given
queries_find_numbers limits worker history [] done [] have = All-nil TellsNumbers
queries_find_numbers limits worker history (item ∷ items) done (given ∷ others) have =
    let is = have.0 in
    let by = find_event limits is.earlier is.event item.1 given is.call is.reply in
    All-cons TellsNumbers given others (answer is.earlier item.1, by.2)
    (queries_find_numbers limits worker history items (done ++ call.Find item.1 ∷ []) others have.1)
queries_find_numbers limits worker history [] done (given ∷ others) have = absurd have
queries_find_numbers limits worker history (item ∷ items) done [] have = absurd have

queries_are_answered : (limits : Limits) (docs words seed workers : ℕ) (history : List Event) (replies : ℕ → List Reply) →
    IsLoaded limits docs words seed workers history replies → HasRoomFor limits docs → (worker : ℕ) → worker < workers →
    (items : List (ℕ × List ℕ)) (done : List Call) (given : List Reply) →
    length (adds_of (documents docs words seed) workers worker ++ deletes_of (documents docs words seed) workers worker) ≤ length done →
    HaveEvents limits worker history done (map (λ item. call.Find item.1) items) given →
    map result_in given ≡ map (λ item. result_of (found (documents docs words seed) item.1)) items
queries_are_answered limits docs words seed workers history replies loaded room worker below [] done [] late have = refl
queries_are_answered limits docs words seed workers history replies loaded room worker below (item ∷ items) done (given ∷ others) late have =
    let more = length-append done (call.Find item.1 ∷ []) in
    ap₂ (λ (r : ℕ × ℕ) (rs : List (ℕ × ℕ)). r ∷ rs)
    (query_result limits docs words seed workers history replies loaded room worker below done item.1 given late have.0)
    (queries_are_answered limits docs words seed workers history replies loaded room worker below items (done ++ call.Find item.1 ∷ []) others
    (omega (arith, late, more)) have.1)
queries_are_answered limits docs words seed workers history replies loaded room worker below [] done (given ∷ others) late have = absurd have
queries_are_answered limits docs words seed workers history replies loaded room worker below (item ∷ items) done [] late have = absurd have

-- a share of what is made of each item is what is made of the share
share-map : {A B : Type 0} (f : A → B) (workers worker n : ℕ) (xs : List A) →
    map (λ (item : ℕ × B). item.1) (filter (λ item. item.0 % workers == worker) (enumerate_from n (map f xs)))
    ≡ map (λ (item : ℕ × A). f item.1) (filter (λ item. item.0 % workers == worker) (enumerate_from n xs))
share-map f workers worker n [] = refl
share-map {A} {B} f workers worker n (x ∷ xs) = by_test (n % workers == worker) (share-map f workers worker (n + 1) xs) where
  made : List (ℕ × B)
  made = filter (λ item. item.0 % workers == worker) (enumerate_from (n + 1) (map f xs))

  given : List (ℕ × A)
  given = filter (λ item. item.0 % workers == worker) (enumerate_from (n + 1) xs)

  by_test : (b : Bool) → map (λ (item : ℕ × B). item.1) made ≡ map (λ (item : ℕ × A). f item.1) given →
      map (λ (item : ℕ × B). item.1) (cond b ((n, f x) ∷ made) made) ≡ map (λ (item : ℕ × A). f item.1) (cond b ((n, x) ∷ given) given)
  by_test true rest = ap (λ (ys : List B). f x ∷ ys) rest
  by_test false rest = rest

-- a list is told by the shares of all workers
pub same_by_shares : {A : Type 0} → (workers n : ℕ) (xs ys : List A) → 0 < workers → length xs ≡ length ys →
    ((worker : ℕ) → worker < workers → map (λ (item : ℕ × A). item.1) (filter (λ item. item.0 % workers == worker) (enumerate_from n xs))
    ≡ map (λ (item : ℕ × A). item.1) (filter (λ item. item.0 % workers == worker) (enumerate_from n ys))) → xs ≡ ys
same_by_shares workers n [] [] some as_long shares = refl
same_by_shares workers n [] (y ∷ ys) some as_long shares = absurd (omega (arith, as_long))
same_by_shares workers n (x ∷ xs) [] some as_long shares = absurd (omega (arith, as_long))
same_by_shares {A} workers n (x ∷ xs) (y ∷ ys) some as_long shares =
    ap₂ (λ (z : A) (zs : List A). z ∷ zs) (first (n % workers == n % workers) (eq-eqb (n % workers) (n % workers) refl) (shares (n % workers) (mod_below n workers some)))
    (same_by_shares workers (n + 1) xs ys some (omega (arith, as_long)) (λ worker below. others worker (n % workers == worker) (shares worker below)))
  where
    of : ℕ → List A → List (ℕ × A)
    of worker items = filter (λ (item : ℕ × A). item.0 % workers == worker) (enumerate_from (n + 1) items)

    first : (b : Bool) → b ≡ true → map (λ (item : ℕ × A). item.1) (cond b ((n, x) ∷ of (n % workers) xs) (of (n % workers) xs))
        ≡ map (λ (item : ℕ × A). item.1) (cond b ((n, y) ∷ of (n % workers) ys) (of (n % workers) ys)) → x ≡ y
    first true is same = cc
    first false is same = cc

    others : (worker : ℕ) (b : Bool) → map (λ (item : ℕ × A). item.1) (cond b ((n, x) ∷ of worker xs) (of worker xs))
        ≡ map (λ (item : ℕ × A). item.1) (cond b ((n, y) ∷ of worker ys) (of worker ys)) →
        map (λ (item : ℕ × A). item.1) (of worker xs) ≡ map (λ (item : ℕ × A). item.1) (of worker ys)
    others worker true same = cc
    others worker false same = same

-- so the results of all workers' queries are those of the summary
pub results_are_told : (docs words seed workers : ℕ) (results : List (ℕ × ℕ)) → 0 < workers → length results ≡ 8 →
    ((worker : ℕ) → worker < workers → map (λ item. item.1) (share results workers worker)
    ≡ map (λ item. item.1) (share (results_of (documents docs words seed)) workers worker)) → results ≡ results_of (documents docs words seed)
results_are_told docs words seed workers results some eight shares =
    same_by_shares workers 0 results (results_of (documents docs words seed)) some eight shares

-- replies in three parts
joined : (all both first second third : List Reply) → all ≡ both ++ third → both ≡ first ++ second → all ≡ first ++ second ++ third
joined all both first second third outer inner = outer ∙ ap (λ (rs : List Reply). rs ++ third) inner

-- a worker's replies are those that the load is to have
pub worker_is_answered : (limits : Limits) (docs words seed workers : ℕ) (history : List Event) (replies : ℕ → List Reply) →
    IsLoaded limits docs words seed workers history replies → HasRoomFor limits docs → (worker : ℕ) → worker < workers →
    IsAnsweredAsTold (documents docs words seed) workers worker (replies worker)
worker_is_answered limits docs words seed workers history replies loaded room worker below =
    let texts = documents docs words seed in
    let was_asked = loaded.asked worker below in
    let few = load_is_unspent limits docs words seed workers history replies loaded.some room.few loaded.legal loaded.no_other loaded.asked in
    let events = room.events in
    let have = events_of_run limits worker [] was_asked.front history [] (jobs docs words seed workers worker) (replies worker) was_asked.run
    (was_asked.seen.later, sym was_asked.seen.whole) (omega (arith, few, events)) was_asked.memory refl
    (jobs_keep_names docs words seed workers worker) in
    let last = two_parts limits worker history [] (adds_of texts workers worker ++ deletes_of texts workers worker) (queries_of workers worker) (replies worker) have in
    let first = two_parts limits worker history [] (adds_of texts workers worker) (deletes_of texts workers worker) last.to_first last.first_events in
    record {
      to_adds = first.to_first;
      to_deletes = first.to_second;
      to_queries = last.to_second;
      whole = joined (replies worker) last.to_first first.to_first first.to_second last.to_second last.whole first.whole;
      added = adds_are_answered limits docs words seed workers history replies loaded room worker below 1 (share texts workers worker) [] first.to_first
          (share_items docs words seed workers worker) refl first.first_events;
      deleted = deletes_are_answered limits docs words seed workers history replies loaded room worker (adds_of texts workers worker)
          (filter is_deleted (map (λ item. item.0 + 1) (share texts workers worker))) first.to_second first.second_events;
      found = queries_find_numbers limits worker history (share queries workers worker) (adds_of texts workers worker ++ deletes_of texts workers worker)
          last.to_second last.second_events;
      results = queries_are_answered limits docs words seed workers history replies loaded room worker below (share queries workers worker)
          (adds_of texts workers worker ++ deletes_of texts workers worker) last.to_second (omega arith) last.second_events
          ∙ sym (share-map (λ query. result_of (found texts query)) workers worker 0 queries);
    }
