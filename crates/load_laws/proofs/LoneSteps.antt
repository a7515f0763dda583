-- What a call of a pass that is alone in its history does.
use Rattle.std.proofs.Common.{◌≡◌, ℕ, ◌+◌, ◌*◌, ◌<◌, Bool, true, false, cond, not, List, [], ◌∷◌, ◌++◌, map, filter, sym, refl, ap, ◌∙◌, subst, arith}
use Rattle.std.specs.List.{list_any}
use Rattle.std.specs.Prelude.{◌==◌}
use Rattle.funnel_model.proofs.LiveLemmas.{live-added, live-deletes, live-silent}
use Rattle.funnel_model.specs.declared.bit_list.Bit.{Bit}
use Rattle.funnel_model.specs.declared.call.Call.{Call}
use Rattle.funnel_model.specs.declared.call.Call.TheVariants as call
use Rattle.funnel_model.specs.declared.event.Event.{Event}
use Rattle.funnel_model.specs.declared.event.Event.TheVariants as event
use Rattle.funnel_model.specs.declared.reply.Reply.{Reply}
use Rattle.funnel_model.specs.declared.reply.Reply.TheVariants as reply
use Rattle.funnel_model.specs.Events.{pass_of}
use Rattle.funnel_model.specs.History.{Document, is_live, live, place}
use Rattle.funnel_model.specs.Legal.{Limits, IsFull, IsIdle}
use Rattle.funnel_model.specs.Steps.{IsReply, place_told}
use Rattle.funnel_model.specs.Words.{meets}
use Rattle.load_laws.specs.LonePass.{LoneStep, Adds, Deletes, Finds, count_of_takes}
use Rattle.load_laws.proofs.Quiet.{Quiet, fills_column}
use Rattle.load_laws.proofs.Room.{not_full}
use Rattle.load_laws.proofs.Takes.{takes_filled}
use Rattle.load_laws.proofs.Answering.{Answered, answered, place_after, takes_after}
use Rattle.load_laws.proofs.CallEvents.{add_event, delete_event, find_event}

-- a number is live as long as the documents stay
live_same : (id : ℕ) (before after : List Event) (b : Bool) → Quiet before after → is_live id before ≡ b → is_live id after ≡ b
live_same id before after b quiet is = ap (λ (ds : List Document). list_any (λ d. d.id == id) ds) quiet.documents ∙ is

-- a find of a pass that is alone is answered by the documents that are live before it
finds_by : (limits : Limits) (pass : ℕ) (before after : List Event) (query : List ℕ) (given : Reply) → Answered limits pass before after (call.Find query) given →
    Finds before after query given
finds_by limits pass before after query given is =
    let h = is.earlier in
    let by = find_event limits h is.event query given is.call is.reply in
    let found = event.Find by.0 query in
    let no_commit : place (is.event ∷ []) ≡ 0 = ap (λ x. place (x ∷ [])) by.1 in
    let commits = place_after limits pass before after (call.Find query) given is in
    let takes : count_of_takes after ≡ count_of_takes before + 0 =
    takes_after limits pass before after (call.Find query) given is ∙ ap (λ x. count_of_takes before + cond (fills_column x) 1 0) by.1 in
    record {
      reply = by.2 ∙ ap (λ (ds : List Document). reply.Found (map (λ d. d.id) (filter (λ d. meets d.text query) ds))) is.first.documents;
      documents = is.last.documents ∙ ap (λ x. live (h ++ x ∷ [])) by.1 ∙ live-silent h found (λ id. refl) refl ∙ is.first.documents;
      at_place = omega arith;
      takes = omega arith;
    }

pub finds : (limits : Limits) (pass : ℕ) (before after : List Event) (query : List ℕ) (given : Reply) → LoneStep limits pass before after (call.Find query) given →
    Finds before after query given
finds limits pass before after query given lone =
    finds_by limits pass before after query given (answered limits pass before after (call.Find query) given refl lone)

-- a live document of a pass that is alone is deleted
deletes_it_by : (limits : Limits) (pass : ℕ) (before after : List Event) (id : ℕ) (given : Reply) → Answered limits pass before after (call.Delete id) given →
    is_live id before ≡ true → Deletes before after id given
deletes_it_by limits pass before after id given is present =
    let h = is.earlier in
    let by = delete_event limits h is.event id (live_same id before h true is.first present) is.allowed is.call in
    let told : given ≡ reply.Deleted (place h + 1) = subst (λ x. IsReply limits h x given) by.1 is.reply in
    let one_commit : place (is.event ∷ []) ≡ 1 = ap (λ x. place (x ∷ [])) by.1 in
    let commits = place_after limits pass before after (call.Delete id) given is in
    let takes : count_of_takes after ≡ count_of_takes before + 0 =
    takes_after limits pass before after (call.Delete id) given is ∙ ap (λ x. count_of_takes before + cond (fills_column x) 1 0) by.1 in
    record {
      reply = told ∙ ap (λ n. reply.Deleted (n + 1)) is.first.at_place;
      documents = is.last.documents ∙ ap (λ x. live (h ++ x ∷ [])) by.1 ∙ live-deletes h by.0 id
          ∙ ap (λ (ds : List Document). filter (λ d. not (d.id == id)) ds) is.first.documents;
      at_place = omega arith;
      takes = omega arith;
    }

pub deletes_it : (limits : Limits) (pass : ℕ) (before after : List Event) (id : ℕ) (given : Reply) → LoneStep limits pass before after (call.Delete id) given →
    is_live id before ≡ true → Deletes before after id given
deletes_it limits pass before after id given lone present =
    deletes_it_by limits pass before after id given (answered limits pass before after (call.Delete id) given refl lone) present

-- while a pass that is alone makes an add, the engine isn't full where fewer columns were claimed than it has
room_left : (limits : Limits) (pass : ℕ) (before after : List Event) (asked : Call) (given : Reply) → (is : Answered limits pass before after asked given) →
    count_of_takes before < limits.slices * limits.columns → IsIdle (pass_of is.event) is.earlier → IsFull limits is.earlier → ⊥
room_left limits pass before after asked given is few idle full =
    let takes = takes_filled limits pass is.earlier is.legal is.unmoved is.alone (subst (λ p. IsIdle p is.earlier) is.is_own idle) in
    let first = is.first.filled_same in
    let filled_before = is.filled_before in
    let same : count_of_takes is.earlier ≡ count_of_takes before = omega arith in
    not_full limits is.earlier is.legal (subst (λ n. n < limits.slices * limits.columns) (sym same) few) full

-- the document that is added comes behind those that were live
live_added : (before history : List Event) (pass id : ℕ) (text : List ℕ) (slice column : ℕ) (bits : List Bit) → Quiet before history → is_live id history ≡ false →
    live (history ++ event.Add pass id text slice column bits ∷ []) ≡ live before ++ record { id = id; text = text; place = place before + 1 } ∷ []
live_added before history pass id text slice column bits quiet absent =
    let added = λ (n : ℕ). let d : Document = record { id = id; text = text; place = n + 1 } in d in
    live-added history pass id text slice column bits absent
    ∙ ap (λ (ds : List Document). ds ++ added (place history) ∷ []) quiet.documents
    ∙ ap (λ n. live before ++ added n ∷ []) quiet.at_place

-- a document of a pass that is alone is added, where its number isn't live, and fewer columns were claimed than the engine has
adds_by : (limits : Limits) (pass : ℕ) (before after : List Event) (id : ℕ) (text : List ℕ) (given : Reply) →
    Answered limits pass before after (call.Add id text) given → is_live id before ≡ false →
    count_of_takes before < limits.slices * limits.columns → Adds before after id text given
adds_by limits pass before after id text given is absent few =
    let h = is.earlier in
    let new = live_same id before h false is.first absent in
    let by = add_event limits h is.event id text new
    (room_left limits pass before after (call.Add id text) given is few) is.allowed is.call in
    let told : given ≡ reply.Added (place h + 1) = subst (λ x. IsReply limits h x given) by.4 is.reply ∙ ap (λ b. place_told b (place h + 1)) new in
    let one_commit : place (is.event ∷ []) ≡ 1 = ap (λ x. place (x ∷ [])) by.4 in
    let commits = place_after limits pass before after (call.Add id text) given is in
    let takes : count_of_takes after ≡ count_of_takes before + 1 =
    takes_after limits pass before after (call.Add id text) given is ∙ ap (λ x. count_of_takes before + cond (fills_column x) 1 0) by.4 in
    record {
      reply = told ∙ ap (λ n. reply.Added (n + 1)) is.first.at_place;
      documents = is.last.documents ∙ ap (λ x. live (h ++ x ∷ [])) by.4 ∙ live_added before h by.0 id text by.1 by.2 by.3 is.first new;
      at_place = omega arith;
      takes = omega arith;
    }

pub adds : (limits : Limits) (pass : ℕ) (before after : List Event) (id : ℕ) (text : List ℕ) (given : Reply) →
    LoneStep limits pass before after (call.Add id text) given → is_live id before ≡ false →
    count_of_takes before < limits.slices * limits.columns → Adds before after id text given
adds limits pass before after id text given lone absent few =
    adds_by limits pass before after id text given (answered limits pass before after (call.Add id text) given refl lone) absent few
