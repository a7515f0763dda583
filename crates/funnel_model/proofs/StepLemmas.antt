-- How a step is made of the events of a call.
use Rattle.std.proofs.Common.{◌≡◌, ℕ, ◌+◌, ◌≤◌, Bool, true, false, cond, List, [], ◌∷◌, ◌++◌, length, Option, Some, None, sym, refl, ap, ◌∙◌, subst, append_assoc, arith, inl, inr}
use Rattle.std.proofs.lemmas.List.{append-nil}
use Rattle.std.proofs.lemmas.List.Elements.{filter_map-append}
use Rattle.std.specs.List.{cons_option, list_any}
use Rattle.std.specs.Prelude.{◌==◌}
use mathlib.Core.List.{IsPrefix}
use Rattle.funnel_model.specs.declared.call.Call.{Call}
use Rattle.funnel_model.specs.declared.bit_list.Bit.{Bit}
use Rattle.funnel_model.specs.declared.call.Call.TheVariants as call
use Rattle.funnel_model.specs.declared.config.Config.{Config}
use Rattle.funnel_model.specs.declared.event.Event.{Event}
use Rattle.funnel_model.specs.declared.event.Event.TheVariants as event
use Rattle.funnel_model.specs.declared.expr.Expr.{Expr}
use Rattle.funnel_model.specs.declared.reply.Reply.{Reply}
use Rattle.funnel_model.specs.declared.reply.Reply.TheVariants as reply
use Rattle.std.specs.Option.{IfSome, option_map_or}
use Rattle.std.proofs.lemmas.Bool.{eq-eqb, or_from}
use Rattle.funnel_model.proofs.Moved.{moved_by-append, moved_by-still}
use Rattle.funnel_model.proofs.LiveLemmas.{place-append}
use Rattle.funnel_model.proofs.Spans.{last_by-own}
use Rattle.funnel_model.specs.Events.{call_of, leaves_open, moves, pass_of}
use Rattle.funnel_model.specs.Expressions.{answer_by, tree_of}
use Rattle.funnel_model.specs.History.{answer, call_by, is_live, live_place, moved_by, own, place}
use Rattle.funnel_model.specs.Legal.{Limits, IsIdle, IsLegal}
use Rattle.funnel_model.specs.Steps.{AddsNone, FindsNoMemory, IsReply, IsReplyToRecycle, IsReplyToRefused, Linear, Step, expression_of, is_placed, is_replaced, most_moves, place_told, told_of}
use Rattle.funnel_model.specs.Tunings.{tunings}

pub own-append : (pass : ℕ) (xs ys : List Event) → own pass (xs ++ ys) ≡ own pass xs ++ own pass ys
own-append pass xs ys = filter_map-append (call_by pass) xs ys

-- a front is a prefix of itself, and a prefix of a prefix is one
pub prefix_refl : (history : List Event) → IsPrefix history history
prefix_refl history = ([], append-nil history)

pub prefix_trans : (xs ys zs : List Event) → IsPrefix xs ys → IsPrefix ys zs → IsPrefix xs zs
prefix_trans xs ys zs p q = (p.0 ++ q.0, sym (append_assoc xs p.0 q.0) ∙ ap (λ hs. hs ++ q.0) p.1 ∙ q.1)

-- a call that led to a front without an answer; then come the event that answers it, and some that answer nothing
pub step_made_from : (limits : Limits) (pass : ℕ) (before middle : List Event) (e : Event) (later : List Event) (asked : Call) (given : Reply) →
    IsIdle pass before → IsPrefix before middle → AddsNone pass before middle → moved_by pass middle ≤ moved_by pass before + most_moves asked →
    call_by pass e ≡ Some asked → moves e ≡ false → own pass later ≡ [] → moved_by pass later ≡ 0 →
    IsReply limits middle e given → is_replaced given ≡ false → IsLegal limits (middle ++ e ∷ later) → IsIdle pass (middle ++ e ∷ later) →
    Step limits pass before (middle ++ e ∷ later) asked given
step_made_from limits pass before middle e later asked given idle grows none few call unmoved last still replied replaces_none legal idle_after = record {
  grows = prefix_trans before middle (middle ++ e ∷ later) grows (e ∷ later, refl);
  legal = legal;
  idle_before = idle;
  idle_after = idle_after;
  few_moves =
      let one = moved_by-still pass (e ∷ []) (or_from (moves e) false unmoved refl) in
      let events = moved_by-append pass (e ∷ []) later in
      omega (arith, few, moved_by-append pass middle (e ∷ later), events, one, still);
  outcome = inl (record {
    call = own-append pass middle (e ∷ later)
        ∙ ap (λ cs. cs ++ own pass (e ∷ later)) none
        ∙ ap (λ o. own pass before ++ cons_option o (own pass later)) call
        ∙ ap (λ cs. own pass before ++ asked ∷ cs) last;
    answered = record { earlier = middle; event = e; later = later; whole = refl; call = call; last = last; reply = replied };
    replaces_none = replaces_none;
  });
}

-- what is told of a place is told of an add that is done
placed_told : (b : Bool) (n : ℕ) → is_placed (place_told b n) ≡ true
placed_told true n = refl
placed_told false n = refl

-- a put led to a front without an answer; then come the add of its document, and some events that answer nothing
pub step_put_from : (limits : Limits) (pass : ℕ) (before middle : List Event) (id : ℕ) (text : List ℕ) (slice column : ℕ) (bits : List Bit) (later : List Event) (given : Reply) →
    IsIdle pass before → IsPrefix before middle → AddsNone pass before middle → moved_by pass middle ≤ moved_by pass before + 16 →
    own pass later ≡ [] → moved_by pass later ≡ 0 → given ≡ place_told (is_live id middle) (place middle + 1) →
    IsLegal limits (middle ++ event.Add pass id text slice column bits ∷ later) → IsIdle pass (middle ++ event.Add pass id text slice column bits ∷ later) →
    Step limits pass before (middle ++ event.Add pass id text slice column bits ∷ later) (call.Put id text) given
step_put_from limits pass before middle id text slice column bits later given idle grows none few last still told legal idle_after =
    let e = event.Add pass id text slice column bits in
    let called : call_by pass e ≡ Some (call.Add id text) = ap (λ b. cond b (Some (call.Add id text)) None) (eq-eqb pass pass refl) in
    record {
      grows = prefix_trans before middle (middle ++ e ∷ later) grows (e ∷ later, refl);
      legal = legal;
      idle_before = idle;
      idle_after = idle_after;
      few_moves =
          let one = moved_by-still pass (e ∷ []) refl in
          let events = moved_by-append pass (e ∷ []) later in
          omega (arith, few, moved_by-append pass middle (e ∷ later), events, one, still);
      outcome = inr (inr (inr (inr (record {
        id = id;
        text = text;
        put = refl;
        call = own-append pass middle (e ∷ later)
            ∙ ap (λ cs. cs ++ own pass (e ∷ later)) none
            ∙ ap (λ o. own pass before ++ cons_option o (own pass later)) called
            ∙ ap (λ cs. own pass before ++ call.Add id text ∷ cs) last;
        answered = record { earlier = middle; event = e; later = later; whole = refl; call = called; last = last; reply = told };
        placed = ap is_placed told ∙ placed_told (is_live id middle) (place middle + 1);
      }))));
    }

-- a call that searches led to a front without an answer; then come the find of the empty query, and some events that answer nothing
pub step_judged_from : (limits : Limits) (pass : ℕ) (before middle later : List Event) (asked : Call) (expr : Expr) (given : Reply) → expression_of asked ≡ Some expr →
    IsIdle pass before → IsPrefix before middle → AddsNone pass before middle → moved_by pass middle ≤ moved_by pass before →
    call_by pass (event.Find pass []) ≡ Some (call.Find []) → own pass later ≡ [] → moved_by pass later ≡ 0 → given ≡ told_of asked (answer_by middle (tree_of expr)) →
    IsLegal limits (middle ++ event.Find pass [] ∷ later) → IsIdle pass (middle ++ event.Find pass [] ∷ later) →
    Step limits pass before (middle ++ event.Find pass [] ∷ later) asked given
step_judged_from limits pass before middle later asked expr given searches idle grows none few found last still told legal idle_after = record {
  grows = prefix_trans before middle (middle ++ event.Find pass [] ∷ later) grows (event.Find pass [] ∷ later, refl);
  legal = legal;
  idle_before = idle;
  idle_after = idle_after;
  few_moves =
      let one = moved_by-still pass (event.Find pass [] ∷ []) refl in
      let events = moved_by-append pass (event.Find pass [] ∷ []) later in
      omega (arith, few, moved_by-append pass middle (event.Find pass [] ∷ later), events, one, still);
  outcome = inr (inr (inr (inl (record {
    expr = expr;
    query = searches;
    call = own-append pass middle (event.Find pass [] ∷ later)
        ∙ ap (λ cs. cs ++ own pass (event.Find pass [] ∷ later)) none
        ∙ ap (λ o. own pass before ++ cons_option o (own pass later)) found
        ∙ ap (λ cs. own pass before ++ call.Find [] ∷ cs) last;
    earlier = middle;
    later = later;
    whole = refl;
    none_later = last;
    reply = told;
  }))));
}

-- events that answer nothing add no call of the pass
pub adds_none : (pass : ℕ) (before more : List Event) → own pass more ≡ [] → AddsNone pass before (before ++ more)
adds_none pass before more none = own-append pass before more ∙ ap (λ cs. own pass before ++ cs) none ∙ append-nil (own pass before)

-- a call whose events are these: first some that answer nothing, then the one that answers it, then some that answer nothing
pub step_made : (limits : Limits) (pass : ℕ) (before first : List Event) (e : Event) (later : List Event) (asked : Call) (given : Reply) →
    IsIdle pass before → own pass first ≡ [] → list_any moves first ≡ false → call_by pass e ≡ Some asked → moves e ≡ false → own pass later ≡ [] → list_any moves later ≡ false →
    IsReply limits (before ++ first) e given → is_replaced given ≡ false → IsLegal limits ((before ++ first) ++ e ∷ later) → IsIdle pass ((before ++ first) ++ e ∷ later) →
    Step limits pass before ((before ++ first) ++ e ∷ later) asked given
step_made limits pass before first e later asked given idle none still call unmoved last still_later replied replaces_none legal idle_after =
    step_made_from limits pass before (before ++ first) e later asked given idle (first, refl) (adds_none pass before first none)
    (omega (arith, moved_by-append pass before first, moved_by-still pass first still)) call unmoved last (moved_by-still pass later still_later) replied replaces_none legal idle_after

-- a call that found no memory and made no event
pub step_without_memory : (limits : Limits) (pass : ℕ) (history : List Event) (asked : Call) → IsIdle pass history → IsLegal limits history → FindsNoMemory pass history history asked →
    Step limits pass history history asked reply.Memory
step_without_memory limits pass history asked idle legal found = record {
  grows = prefix_refl history;
  legal = legal;
  idle_before = idle;
  idle_after = idle;
  few_moves = omega arith;
  outcome = inr (inl (record { reply = refl; call = found }));
}

-- one more step at the end
pub linear-push : (limits : Limits) (pass : ℕ) (before middle after : List Event) (calls : List Call) (replies : List Reply) (asked : Call) (given : Reply) →
    Linear limits pass before middle calls replies → Step limits pass middle after asked given → Linear limits pass before after (calls ++ asked ∷ []) (replies ++ given ∷ [])
linear-push limits pass before middle after [] [] asked given is step =
    (after, subst (λ (h : List Event). Step limits pass h after asked given) (sym is) step, refl)
linear-push limits pass before middle after (c ∷ cs) (r ∷ rs) asked given run step =
    (run.0, run.1, linear-push limits pass run.0 middle after cs rs asked given run.2 step)
linear-push limits pass before middle after [] (r ∷ rs) asked given run step = absurd run
linear-push limits pass before middle after (c ∷ cs) [] asked given run step = absurd run

-- calls lead to a front that goes on from their start
pub linear-grows : (limits : Limits) (pass : ℕ) (before after : List Event) (calls : List Call) (replies : List Reply) →
    Linear limits pass before after calls replies → IsPrefix before after
linear-grows limits pass before after [] [] is = ([], append-nil before ∙ is)
linear-grows limits pass before after (c ∷ cs) (r ∷ rs) run =
    prefix_trans before run.0 after run.1.grows (linear-grows limits pass run.0 after cs rs run.2)
linear-grows limits pass before after [] (r ∷ rs) run = absurd run
linear-grows limits pass before after (c ∷ cs) [] run = absurd run

-- which is legal where their start is
pub linear-legal : (limits : Limits) (pass : ℕ) (before after : List Event) (calls : List Call) (replies : List Reply) → IsLegal limits before →
    Linear limits pass before after calls replies → IsLegal limits after
linear-legal limits pass before after [] [] legal is = subst (IsLegal limits) is legal
linear-legal limits pass before after (c ∷ cs) (r ∷ rs) legal run = linear-legal limits pass run.0 after cs rs run.1.legal run.2
linear-legal limits pass before after [] (r ∷ rs) legal run = absurd run
linear-legal limits pass before after (c ∷ cs) [] legal run = absurd run

-- and each call has its reply
pub linear-answered : (limits : Limits) (pass : ℕ) (before after : List Event) (calls : List Call) (replies : List Reply) →
    Linear limits pass before after calls replies → length calls ≡ length replies
linear-answered limits pass before after [] [] is = refl
linear-answered limits pass before after (c ∷ cs) (r ∷ rs) run = let rest = linear-answered limits pass run.0 after cs rs run.2 in omega arith
linear-answered limits pass before after [] (r ∷ rs) run = absurd run
linear-answered limits pass before after (c ∷ cs) [] run = absurd run

-- after an event that ends a call its pass is idle
pub idle_after : (pass : ℕ) (history : List Event) (e : Event) → pass_of e ≡ pass → leaves_open e ≡ false → IsIdle pass (history ++ e ∷ [])
idle_after pass history e own ends =
    subst (λ o. IfSome o (λ x. leaves_open x ≡ false)) (sym (last_by-own pass history e own)) ends

-- the call that an event of the pass answers
pub call_by-own : (pass : ℕ) (e : Event) → pass_of e ≡ pass → call_by pass e ≡ call_of e
call_by-own pass e own = ap (λ b. cond b (call_of e) None) (eq-eqb (pass_of e) pass own)

own-one : (pass : ℕ) (e : Event) → call_of e ≡ None → own pass (e ∷ []) ≡ []
own-one pass e none = by_pass (pass_of e == pass) where
  by_pass : (b : Bool) → cons_option (cond b (call_of e) None) [] ≡ []
  by_pass true = ap (λ o. cons_option o []) none
  by_pass false = refl

-- a call of one event
step_of_one : (limits : Limits) (pass : ℕ) (before : List Event) (e : Event) (asked : Call) (given : Reply) → IsIdle pass before → call_by pass e ≡ Some asked → moves e ≡ false → IsReply limits before e given →
    is_replaced given ≡ false → IsLegal limits (before ++ e ∷ []) → IsIdle pass (before ++ e ∷ []) → Step limits pass before (before ++ e ∷ []) asked given
step_of_one limits pass before e asked given idle call unmoved replied replaces_none legal after =
    step_made_from limits pass before before e [] asked given idle (prefix_refl before) refl (omega arith) call unmoved refl refl replied replaces_none legal after

-- no refused call replaces a document
recycle_replaces_none : (limits : Limits) (history : List Event) (given : Reply) → IsReplyToRecycle limits history given → is_replaced given ≡ false
recycle_replaces_none limits history reply.NothingRetired is = refl
recycle_replaces_none limits history (reply.Guarded slice pass) is = refl
recycle_replaces_none limits history given is = absurd is

pub refused_replaces_none : (limits : Limits) (history : List Event) (asked : Call) (given : Reply) → IsReplyToRefused limits history asked given → is_replaced given ≡ false
refused_replaces_none limits history (call.Add id text) given is = ap is_replaced is ∙ by (live_place id history) where
  by : (o : Option ℕ) → is_replaced (option_map_or reply.Present o reply.Full) ≡ false
  by (Some n) = refl
  by None = refl
refused_replaces_none limits history (call.Put id text) given is = ap is_replaced is
refused_replaces_none limits history (call.Delete id) given is = ap is_replaced is
refused_replaces_none limits history call.Recycle given is = recycle_replaces_none limits history given is
refused_replaces_none limits history asked given is = absurd is

-- a call that was refused before any other event of it
pub step_refused : (limits : Limits) (pass : ℕ) (before : List Event) (asked : Call) (given : Reply) → IsIdle pass before → IsReplyToRefused limits before asked given → IsLegal limits (before ++ event.No pass asked ∷ []) →
    Step limits pass before (before ++ event.No pass asked ∷ []) asked given
step_refused limits pass before asked given idle refused legal =
    step_of_one limits pass before (event.No pass asked) asked given idle (call_by-own pass (event.No pass asked) refl) refl refused
    (refused_replaces_none limits before asked given refused) legal (idle_after pass before (event.No pass asked) refl refl)

-- an event that answers nothing adds no call of the pass
pub adds_none-one : (pass : ℕ) (history : List Event) (e : Event) → call_of e ≡ None → AddsNone pass history (history ++ e ∷ [])
adds_none-one pass history e none = adds_none pass history (e ∷ []) (own-one pass e none)

-- an add of a number that is not live, which took a column and was committed
pub step_added : (limits : Limits) (pass : ℕ) (before : List Event) (id : ℕ) (text : List ℕ) (slice column : ℕ) (bits : List Bit) (n : ℕ) → IsIdle pass before → n ≡ place before + 1 →
    is_live id (before ++ event.Take pass slice column ∷ []) ≡ false →
    IsLegal limits ((before ++ event.Take pass slice column ∷ []) ++ event.Add pass id text slice column bits ∷ []) →
    Step limits pass before ((before ++ event.Take pass slice column ∷ []) ++ event.Add pass id text slice column bits ∷ []) (call.Add id text) (reply.Added n)
step_added limits pass before id text slice column bits n idle is absent legal =
    let taken = event.Take pass slice column in
    let added = event.Add pass id text slice column bits in
    let at : place (before ++ taken ∷ []) + 1 ≡ n = omega (arith, place-append before (taken ∷ []), is) in
    step_made limits pass before (taken ∷ []) added [] (call.Add id text) (reply.Added n) idle (own-one pass taken refl) refl
    (call_by-own pass added refl) refl refl refl (ap (λ k. reply.Added k) (sym at) ∙ ap (λ b. place_told b (place (before ++ taken ∷ []) + 1)) (sym absent)) refl legal
    (idle_after pass (before ++ taken ∷ []) added refl refl)

-- a put that took a column and was committed
pub step_put : (limits : Limits) (pass : ℕ) (before : List Event) (id : ℕ) (text : List ℕ) (slice column : ℕ) (bits : List Bit) (given : Reply) → IsIdle pass before →
    given ≡ place_told (is_live id (before ++ event.Take pass slice column ∷ [])) (place (before ++ event.Take pass slice column ∷ []) + 1) →
    IsLegal limits ((before ++ event.Take pass slice column ∷ []) ++ event.Add pass id text slice column bits ∷ []) →
    Step limits pass before ((before ++ event.Take pass slice column ∷ []) ++ event.Add pass id text slice column bits ∷ []) (call.Put id text) given
step_put limits pass before id text slice column bits given idle told legal =
    let taken = event.Take pass slice column in
    step_put_from limits pass before (before ++ taken ∷ []) id text slice column bits [] given idle (taken ∷ [], refl) (adds_none-one pass before taken refl)
    (omega (arith, moved_by-append pass before (taken ∷ []), moved_by-still pass (taken ∷ []) refl)) refl refl told legal
    (idle_after pass (before ++ taken ∷ []) (event.Add pass id text slice column bits) refl refl)

-- a delete that was committed
pub step_deleted : (limits : Limits) (pass : ℕ) (before : List Event) (id n : ℕ) → IsIdle pass before → n ≡ place before + 1 →
    IsLegal limits (before ++ event.Del pass id ∷ []) → Step limits pass before (before ++ event.Del pass id ∷ []) (call.Delete id) (reply.Deleted n)
step_deleted limits pass before id n idle is legal =
    step_of_one limits pass before (event.Del pass id) (call.Delete id) (reply.Deleted n) idle (call_by-own pass (event.Del pass id) refl) refl
    (ap (λ k. reply.Deleted k) is) refl legal (idle_after pass before (event.Del pass id) refl refl)

-- a tuning
pub step_tuned : (limits : Limits) (pass : ℕ) (before : List Event) (config : Config) (n : ℕ) → IsIdle pass before → n ≡ length (tunings before) + 1 →
    IsLegal limits (before ++ event.Tune pass config ∷ []) →
    Step limits pass before (before ++ event.Tune pass config ∷ []) (call.Tune config) (reply.Tuned n)
step_tuned limits pass before config n idle is legal =
    step_of_one limits pass before (event.Tune pass config) (call.Tune config) (reply.Tuned n) idle (call_by-own pass (event.Tune pass config) refl) refl
    (ap (λ k. reply.Tuned k) is) refl legal (idle_after pass before (event.Tune pass config) refl refl)

-- a call that came after so many events that no call is taken any more
pub step_spent : (limits : Limits) (pass : ℕ) (history : List Event) (asked : Call) → limits.events ≤ length history → IsLegal limits history → IsIdle pass history →
    Step limits pass history history asked reply.Spent
step_spent limits pass history asked many legal idle = record {
  grows = prefix_refl history;
  legal = legal;
  idle_before = idle;
  idle_after = idle;
  few_moves = omega arith;
  outcome = inr (inr (inl (record { reply = refl; call = refl; many = many })));
}

-- a find that began and ended
pub step_found : (limits : Limits) (pass : ℕ) (before : List Event) (query : List ℕ) → IsIdle pass before →
    IsLegal limits ((before ++ event.Find pass query ∷ []) ++ event.End pass ∷ []) →
    Step limits pass before ((before ++ event.Find pass query ∷ []) ++ event.End pass ∷ []) (call.Find query) (reply.Found (answer before query))
step_found limits pass before query idle legal =
    let found = event.Find pass query in
    let same : before ++ found ∷ (event.End pass ∷ []) ≡ (before ++ found ∷ []) ++ event.End pass ∷ [] = sym (append_assoc before (found ∷ []) (event.End pass ∷ [])) in
    subst (λ (h : List Event). Step limits pass before h (call.Find query) (reply.Found (answer before query))) same
    (step_made_from limits pass before before found (event.End pass ∷ []) (call.Find query) (reply.Found (answer before query)) idle (prefix_refl before) refl (omega arith)
    (call_by-own pass found refl) refl (own-one pass (event.End pass) refl) (moved_by-still pass (event.End pass ∷ []) refl) refl refl (subst (IsLegal limits) (sym same) legal)
    (subst (IsIdle pass) (sym same) (idle_after pass (before ++ found ∷ []) (event.End pass) refl refl)))

-- a call that searches, whose find began and ended
pub step_judged : (limits : Limits) (pass : ℕ) (before : List Event) (asked : Call) (expr : Expr) → expression_of asked ≡ Some expr → IsIdle pass before →
    IsLegal limits ((before ++ event.Find pass [] ∷ []) ++ event.End pass ∷ []) →
    Step limits pass before ((before ++ event.Find pass [] ∷ []) ++ event.End pass ∷ []) asked (told_of asked (answer_by before (tree_of expr)))
step_judged limits pass before asked expr searches idle legal =
    let found = event.Find pass [] in
    let given = told_of asked (answer_by before (tree_of expr)) in
    let same : before ++ found ∷ (event.End pass ∷ []) ≡ (before ++ found ∷ []) ++ event.End pass ∷ [] = sym (append_assoc before (found ∷ []) (event.End pass ∷ [])) in
    subst (λ (h : List Event). Step limits pass before h asked given) same
    (step_judged_from limits pass before before (event.End pass ∷ []) asked expr given searches idle (prefix_refl before) refl (omega arith)
    (call_by-own pass found refl) (own-one pass (event.End pass) refl) (moved_by-still pass (event.End pass ∷ []) refl) refl (subst (IsLegal limits) (sym same) legal)
    (subst (IsIdle pass) (sym same) (idle_after pass (before ++ found ∷ []) (event.End pass) refl refl)))
