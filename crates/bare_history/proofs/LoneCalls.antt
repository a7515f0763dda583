-- The adds and deletes that a call of an engine of one pass makes.
use Rattle.std.proofs.Common.{◌≡◌, ℕ, ◌+◌, ◌<◌, Bool, true, false, cond, List, [], ◌∷◌, ◌++◌, length, map, filter, Option, Some, None, inl, inr, ⊎_elim, sym, refl, ap, ◌∙◌, subst, arith}
use Rattle.std.proofs.lemmas.Bool.{eq-eqb, or_from, or_parts}
use Rattle.std.proofs.lemmas.List.{append-nil, append_cancel_left, length-append}
use Rattle.std.proofs.lemmas.List.Elements.{All-cons, All-head, All-nil, All-tail, All-weaker}
use Rattle.std.specs.List.{All, cons_option, find, list_any}
use Rattle.std.specs.Option.{option_map, option_map_or}
use Rattle.std.specs.Prelude.{◌⊎◌, ◌==◌}
use mathlib.Core.List.{IsPrefix}
use Rattle.bare_history.specs.Bare.{added, bare, bare_of}
use Rattle.bare_history.specs.Lone.{made_by}
use Rattle.bare_history.proofs.BareLemmas.{bare-append, bare_live}
use Rattle.funnel_model.specs.declared.call.Call.{Call}
use Rattle.funnel_model.specs.declared.call.Call.TheVariants as call
use Rattle.funnel_model.specs.declared.event.Event.{Event}
use Rattle.funnel_model.specs.declared.event.Event.TheVariants as event
use Rattle.funnel_model.specs.declared.expr.Expr.{Expr}
use Rattle.funnel_model.specs.declared.reply.Reply.{Reply}
use Rattle.funnel_model.specs.declared.reply.Reply.TheVariants as reply
use Rattle.funnel_model.specs.Events.{call_of, pass_of}
use Rattle.funnel_model.specs.Expressions.{answer_by, keeps, tree_of}
use Rattle.funnel_model.specs.History.{Document, answer, call_by, is_live, live, live_place, own, place}
use Rattle.funnel_model.specs.Legal.{IsAllowed, IsLegal, IsRefused, Limits}
use Rattle.funnel_model.specs.Steps.{AddsCall, AddsNone, FindsNoMemory, IsJudged, IsMade, IsPut, IsReply, IsReplyToRead, IsReplyToRefused, IsSpent, LacksMemory, Step, expression_of, is_placed, is_replaced, place_told, told_of}
use Rattle.funnel_model.specs.Words.{meets}
use Rattle.funnel_model.proofs.Histories.{allowed_within}
use Rattle.funnel_model.proofs.Invariants.{passes_in_range}
use Rattle.funnel_model.proofs.ReplyLemmas.{dropped_at}
use Rattle.funnel_model.proofs.StepLemmas.{own-append}

-- each event is one of the pass 0
abbrev AreSole : List Event → Type 0
AreSole events = All (λ e. pass_of e ≡ 0) events

-- and so answers a call of this pass, where it answers one
sole_call_by : (e : Event) → pass_of e ≡ 0 → call_by 0 e ≡ call_of e
sole_call_by e sole = ap (λ b. cond b (call_of e) None) (eq-eqb (pass_of e) 0 sole)

-- the call makes an add or a delete where it is done
abbrev makes : Call → Bool
makes (call.Add id text) = true
makes (call.Delete id) = true
makes asked = false

-- an event that answers no such call is neither an add nor a delete
quiet_event : (e : Event) → option_map_or makes (call_of e) false ≡ false → bare_of e ≡ None
quiet_event (event.Add pass id text slice column bits) is = cc
quiet_event (event.Del pass id) is = cc
quiet_event _ is = refl

quiet_first : (o : Option Call) (calls : List Call) → list_any makes (cons_option o calls) ≡ false → (option_map_or makes o false ≡ false) × (list_any makes calls ≡ false)
quiet_first None calls is = (refl, is)
quiet_first (Some asked) calls is = or_parts (makes asked) (list_any makes calls) is

-- events that answer no such call have none
quiet_bare : (events : List Event) → AreSole events → list_any makes (own 0 events) ≡ false → bare events ≡ []
quiet_bare [] sole none = refl
quiet_bare (e ∷ events) sole none =
    let parts = quiet_first (call_by 0 e) (own 0 events) none in
    let by = sole_call_by e (All-head (λ x. pass_of x ≡ 0) e events sole) in
    ap (λ o. cons_option o (bare events)) (quiet_event e (ap (λ o. option_map_or makes o false) (sym by) ∙ parts.0))
    ∙ quiet_bare events (All-tail (λ x. pass_of x ≡ 0) e events sole) parts.1

silent_bare : (events : List Event) → AreSole events → own 0 events ≡ [] → bare events ≡ []
silent_bare events sole none = quiet_bare events sole (ap (list_any makes) none)

all_left : {A : Type 0} (P : A → Type 0) (xs ys : List A) → All P (xs ++ ys) → All P xs
all_left P [] ys all = All-nil P
all_left P (x ∷ xs) ys all = All-cons P x xs (All-head P x (xs ++ ys) all) (all_left P xs ys (All-tail P x (xs ++ ys) all))

all_right : {A : Type 0} (P : A → Type 0) (xs ys : List A) → All P (xs ++ ys) → All P ys
all_right P [] ys all = all
all_right P (x ∷ xs) ys all = all_right P xs ys (All-tail P x (xs ++ ys) all)

-- of two parts of one list, one begins with the other
meets_at : {A : Type 0} (xs ys us vs : List A) → xs ++ ys ≡ us ++ vs →
    ((more : List A) × (us ≡ xs ++ more)) ⊎ ((x : A) × (more : List A) × (xs ≡ us ++ x ∷ more) × (vs ≡ x ∷ (more ++ ys)))
meets_at [] ys us vs is = inl (us, refl)
meets_at (x ∷ xs) ys [] vs is = inr (x, xs, refl, sym is)
meets_at {A} (x ∷ xs) ys (u ∷ us) vs is = of (meets_at xs ys us vs rest) where
  first : x ≡ u
  first = cc

  rest : xs ++ ys ≡ us ++ vs
  rest = cc

  of : ((more : List A) × (us ≡ xs ++ more)) ⊎ ((y : A) × (more : List A) × (xs ≡ us ++ y ∷ more) × (vs ≡ y ∷ (more ++ ys))) →
      ((more : List A) × (u ∷ us ≡ x ∷ xs ++ more)) ⊎ ((y : A) × (more : List A) × (x ∷ xs ≡ u ∷ us ++ y ∷ more) × (vs ≡ y ∷ (more ++ ys)))
  of (inl found) = let same = found.1 in inl (found.0, (cc))
  of (inr found) = let same = found.2 in inr (found.0, found.1, (cc), found.3)

-- the event makes what the call did: before it there were the adds and deletes before the call, and behind it none more
record MadeAt (before after earlier : List Event) (e : Event) : Type 0 where
  same : bare earlier ≡ bare before
  adds : bare after ≡ bare before ++ bare (e ∷ [])

-- no more calls, no more of them
no_more : {A : Type 0} (xs more : List A) → length (xs ++ more) ≡ length xs → more ≡ []
no_more xs [] is = refl
no_more xs (x ∷ more) is = absurd (omega (arith, is, length-append xs (x ∷ more)))

module _ (before rest earlier later : List Event) (e : Event) (asked : Call) (sole : AreSole (earlier ++ e ∷ later)) (whole : before ++ rest ≡ earlier ++ e ∷ later)
    (is : call_by 0 e ≡ Some asked) (last : own 0 later ≡ []) (adds : own 0 (earlier ++ e ∷ later) ≡ own 0 before ++ asked ∷ []) where
  own_of_all : own 0 (earlier ++ e ∷ later) ≡ own 0 earlier ++ asked ∷ []
  own_of_all = own-append 0 earlier (e ∷ later) ∙ ap (λ o. own 0 earlier ++ cons_option o (own 0 later)) is ∙ ap (λ cs. own 0 earlier ++ asked ∷ cs) last

  as_many : length (own 0 earlier) ≡ length (own 0 before)
  as_many =
      let both = ap length (sym own_of_all ∙ adds) in
      omega (arith, both, length-append (own 0 earlier) (asked ∷ []), length-append (own 0 before) (asked ∷ []))

  after_earlier : bare (earlier ++ e ∷ later) ≡ bare earlier ++ bare (e ∷ [])
  after_earlier =
      let behind = All-tail (λ x. pass_of x ≡ 0) e later (all_right (λ x. pass_of x ≡ 0) earlier (e ∷ later) sole) in
      bare-append earlier (e ∷ later)
      ∙ ap (λ es. bare earlier ++ es) (bare-append (e ∷ []) later ∙ ap (λ es. bare (e ∷ []) ++ es) (silent_bare later behind last) ∙ append-nil (bare (e ∷ [])))

  before_first : (more : List Event) → earlier ≡ before ++ more → MadeAt before (earlier ++ e ∷ later) earlier e
  before_first more front =
      let calls : own 0 earlier ≡ own 0 before ++ own 0 more = ap (own 0) front ∙ own-append 0 before more in
      let none : own 0 more ≡ [] = no_more (own 0 before) (own 0 more) (sym (ap length calls) ∙ as_many) in
      let sole_front : AreSole (before ++ more) = subst AreSole front (all_left (λ x. pass_of x ≡ 0) earlier (e ∷ later) sole) in
      let same : bare earlier ≡ bare before = ap bare front ∙ bare-append before more
      ∙ ap (λ es. bare before ++ es) (silent_bare more (all_right (λ x. pass_of x ≡ 0) before more sole_front) none) ∙ append-nil (bare before) in
      record { same = same; adds = after_earlier ∙ ap (λ es. es ++ bare (e ∷ [])) same }

  not_before : (x : Event) (more : List Event) → before ≡ earlier ++ x ∷ more → e ∷ later ≡ x ∷ (more ++ rest) → MadeAt before (earlier ++ e ∷ later) earlier e
  not_before x more front also =
      let first : e ≡ x = cc in
      let calls : own 0 before ≡ own 0 earlier ++ cons_option (call_by 0 x) (own 0 more) = ap (own 0) front ∙ own-append 0 earlier (x ∷ more) in
      let told : own 0 before ≡ own 0 earlier ++ asked ∷ own 0 more = calls ∙ ap (λ o. own 0 earlier ++ cons_option o (own 0 more)) (sym (ap (call_by 0) first) ∙ is) in
      absurd (omega (arith, ap length told, length-append (own 0 earlier) (asked ∷ own 0 more), as_many))

  made_at : MadeAt before (earlier ++ e ∷ later) earlier e
  made_at = ⊎_elim (λ found. before_first found.0 found.1) (λ found. not_before found.0 found.1 found.2 found.3) (meets_at before rest earlier (e ∷ later) whole)

-- a call that was made in an engine of one pass
lone_made : (before after : List Event) (asked : Call) → AreSole after → IsPrefix before after → AddsCall 0 before after asked →
    (earlier : List Event) (e : Event) (later : List Event) → after ≡ earlier ++ e ∷ later → call_by 0 e ≡ Some asked → own 0 later ≡ [] →
    MadeAt before after earlier e
lone_made before after asked sole (rest, grows) adds earlier e later whole is last =
    subst (λ (h : List Event). MadeAt before h earlier e) (sym whole)
    (made_at before rest earlier later e asked (subst AreSole whole sole) (grows ∙ whole) is last (subst (λ (h : List Event). own 0 h ≡ own 0 before ++ asked ∷ []) whole adds))

-- and one that made none, or one that is neither an add nor a delete
lone_quiet : (before after : List Event) (calls : List Call) → AreSole after → IsPrefix before after → own 0 after ≡ own 0 before ++ calls → list_any makes calls ≡ false →
    bare after ≡ bare before ++ []
lone_quiet before after calls sole (rest, grows) adds quiet =
    let more : own 0 before ++ own 0 rest ≡ own 0 before ++ calls = sym (own-append 0 before rest) ∙ ap (own 0) grows ∙ adds in
    let same : own 0 rest ≡ calls = append_cancel_left (own 0 before) (own 0 rest) calls more in
    let sole_rest = all_right (λ x. pass_of x ≡ 0) before rest (subst AreSole (sym grows) sole) in
    ap bare (sym grows) ∙ bare-append before rest ∙ ap (λ es. bare before ++ es) (quiet_bare rest sole_rest (ap (list_any makes) same ∙ quiet))

-- an add that replaces none is told as added
told_added : (live : Bool) (n id : ℕ) (text : List ℕ) (given : Reply) → given ≡ place_told live n → is_replaced given ≡ false →
    made_by (call.Add id text) given ≡ added id text ∷ []
told_added true n id text given told none = let never : true ≡ false = sym (ap is_replaced told) ∙ none in cc
told_added false n id text given told none = ap (made_by (call.Add id text)) told

-- a refused call made nothing
told_present : (id : ℕ) (text : List ℕ) (place : Option ℕ) → made_by (call.Add id text) (option_map_or reply.Present place reply.Full) ≡ []
told_present id text None = refl
told_present id text (Some n) = refl

told_refused : (limits : Limits) (earlier : List Event) (asked : Call) (given : Reply) → IsReplyToRefused limits earlier asked given → made_by asked given ≡ []
told_refused limits earlier (call.Add id text) given told = ap (made_by (call.Add id text)) told ∙ told_present id text (live_place id earlier)
told_refused limits earlier (call.Put id text) given told = ap (made_by (call.Put id text)) told
told_refused limits earlier (call.Delete id) given told = ap (made_by (call.Delete id)) told
told_refused limits earlier call.Recycle given told = refl
told_refused limits earlier asked given told = absurd told

-- nor did one that only reads
told_read : (limits : Limits) (earlier : List Event) (asked : Call) (given : Reply) → IsReplyToRead limits earlier asked given → made_by asked given ≡ []
told_read limits earlier (call.Add id text) given told = absurd told
told_read limits earlier (call.Put id text) given told = absurd told
told_read limits earlier (call.Delete id) given told = absurd told
told_read limits earlier asked given told = refl

-- what an event that gives a reply makes, where none is replaced, is what the reply tells
told_made : (limits : Limits) (earlier : List Event) (e : Event) (asked : Call) (given : Reply) → call_of e ≡ Some asked → IsReply limits earlier e given →
    is_replaced given ≡ false → bare (e ∷ []) ≡ made_by asked given
told_made limits earlier (event.Add pass id text slice column bits) asked given is reply none =
    let same : asked ≡ call.Add id text = cc in
    sym (ap (λ a. made_by a given) same ∙ told_added (is_live id earlier) (place earlier + 1) id text given reply none)
told_made limits earlier (event.Drop pass id text slice column) asked given is reply none =
    let same : asked ≡ call.Add id text = cc in
    let told = dropped_at (live_place id earlier) given reply in
    sym (ap (λ a. made_by a given) same ∙ ap (made_by (call.Add id text)) (sym told.2))
told_made limits earlier (event.Del pass id) asked given is reply none =
    let same : asked ≡ call.Delete id = cc in
    sym (ap (λ a. made_by a given) same ∙ ap (made_by (call.Delete id)) reply)
told_made limits earlier (event.Find pass query) asked given is reply none = let same : asked ≡ call.Find query = cc in sym (ap (λ a. made_by a given) same)
told_made limits earlier (event.Opened pass slice true) asked given is reply none = let same : asked ≡ call.Recycle = cc in sym (ap (λ a. made_by a given) same)
told_made limits earlier (event.Opened pass slice false) asked given is reply none = cc
told_made limits earlier (event.Tune pass config) asked given is reply none = let same : asked ≡ call.Tune config = cc in sym (ap (λ a. made_by a given) same)
told_made limits earlier (event.No pass refused) asked given is reply none =
    let same : asked ≡ refused = cc in
    sym (ap (λ a. made_by a given) same ∙ told_refused limits earlier refused given reply)
told_made limits earlier (event.Read pass read) asked given is reply none =
    let same : asked ≡ read = cc in
    sym (ap (λ a. made_by a given) same ∙ told_read limits earlier read given reply)
told_made limits earlier _ asked given is reply none = cc

told_put : (live : Bool) (n id : ℕ) (text : List ℕ) (given : Reply) → given ≡ place_told live n → made_by (call.Put id text) given ≡ added id text ∷ []
told_put true n id text given told = ap (made_by (call.Put id text)) told
told_put false n id text given told = ap (made_by (call.Put id text)) told

not_placed : (place : Option ℕ) → is_placed (option_map_or reply.Present place reply.Full) ≡ false
not_placed None = refl
not_placed (Some n) = refl

-- a put that was done made the add of its document
put_made : (limits : Limits) (earlier : List Event) (e : Event) (id : ℕ) (text : List ℕ) (given : Reply) → call_of e ≡ Some (call.Add id text) →
    IsReply limits earlier e given → is_placed given ≡ true → bare (e ∷ []) ≡ made_by (call.Put id text) given
put_made limits earlier (event.Add pass i t slice column bits) id text given is gives placed =
    let same_id : i ≡ id = cc in
    let same_text : t ≡ text = cc in
    ap (λ n. added n t ∷ []) same_id ∙ ap (λ w. added id w ∷ []) same_text ∙ sym (told_put (is_live i earlier) (place earlier + 1) id text given gives)
put_made limits earlier (event.Drop pass i t slice column) id text given is gives placed =
    let told = dropped_at (live_place i earlier) given gives in
    let never : false ≡ true = ap is_placed told.2 ∙ placed in cc
put_made limits earlier (event.No pass refused) id text given is gives placed =
    let same : refused ≡ call.Add id text = cc in
    let told : given ≡ option_map_or reply.Present (live_place id earlier) reply.Full = subst (λ (a : Call). IsReplyToRefused limits earlier a given) same gives in
    let never : false ≡ true = sym (not_placed (live_place id earlier)) ∙ sym (ap is_placed told) ∙ placed in cc
put_made limits earlier (event.Read pass read) id text given is gives placed =
    let same : read ≡ call.Add id text = cc in
    absurd (subst (λ (a : Call). IsReplyToRead limits earlier a given) same gives)
put_made limits earlier (event.Opened pass slice true) id text given is gives placed = cc
put_made limits earlier (event.Opened pass slice false) id text given is gives placed = cc
put_made limits earlier _ id text given is gives placed = cc

-- a call that lacked memory made no add and no delete, nor did one that came too late
abbrev CallsQuietly : List Event → List Event → Type 0
CallsQuietly before after = (calls : List Call) × (own 0 after ≡ own 0 before ++ calls) × (list_any makes calls ≡ false)

calls_none : (before after : List Event) → AddsNone 0 before after → CallsQuietly before after
calls_none before after none = ([], none ∙ sym (append-nil (own 0 before)), refl)

calls_one : (before after : List Event) (asked : Call) → makes asked ≡ false → AddsNone 0 before after ⊎ AddsCall 0 before after asked → CallsQuietly before after
calls_one before after asked quiet (inl none) = calls_none before after none
calls_one before after asked quiet (inr call) = (asked ∷ [], call, or_from (makes asked) false quiet refl)

lacks_quietly : (before after : List Event) (asked : Call) → FindsNoMemory 0 before after asked → CallsQuietly before after
lacks_quietly before after (call.Add id text) lacks = calls_none before after lacks
lacks_quietly before after (call.Put id text) lacks = calls_none before after lacks
lacks_quietly before after (call.Tune config) lacks = calls_none before after lacks
lacks_quietly before after (call.Find query) lacks = calls_one before after (call.Find query) refl lacks
lacks_quietly before after (call.Query expr) lacks = calls_one before after (call.Find []) refl lacks
lacks_quietly before after (call.Count expr) lacks = calls_one before after (call.Find []) refl lacks
lacks_quietly before after (call.Newest expr most) lacks = calls_one before after (call.Find []) refl lacks
lacks_quietly before after (call.Oldest expr most) lacks = calls_one before after (call.Find []) refl lacks
lacks_quietly before after (call.Get id) lacks = calls_one before after (call.Get id) refl lacks
lacks_quietly before after (call.Journal from) lacks = calls_one before after (call.Journal from) refl lacks
lacks_quietly before after asked lacks = absurd lacks

-- such replies tell so
memory_made : (asked : Call) → made_by asked reply.Memory ≡ []
memory_made (call.Add id text) = refl
memory_made (call.Put id text) = refl
memory_made (call.Delete id) = refl
memory_made asked = refl

spent_made : (asked : Call) → made_by asked reply.Spent ≡ []
spent_made (call.Add id text) = refl
spent_made (call.Put id text) = refl
spent_made (call.Delete id) = refl
spent_made asked = refl

judged_made : (asked : Call) (expr : Expr) (given : Reply) → expression_of asked ≡ Some expr → made_by asked given ≡ []
judged_made (call.Add id text) expr given is = cc
judged_made (call.Put id text) expr given is = cc
judged_made (call.Delete id) expr given is = cc
judged_made asked expr given is = refl

-- a call whose event is an add or a delete answers it
called : (b : Bool) (o : Option Call) (asked : Call) → cond b o None ≡ Some asked → o ≡ Some asked
called true o asked is = is
called false o asked is = cc

-- the event of a call that was made and gives its reply, and came after the adds and deletes before the call and no others
record IsToldBy (limits : Limits) (before : List Event) (asked : Call) (given : Reply) : Type 0 where
  earlier : List Event
  event : Event
  same : bare earlier ≡ bare before
  call : call_of event ≡ Some asked
  allowed : IsAllowed limits earlier event
  reply : IsReply limits earlier event given

-- with the same adds and deletes the same is live
same_live : (history other : List Event) → bare history ≡ bare other → live history ≡ live other
same_live history other same = bare_live history ∙ ap live same ∙ sym (bare_live other)

module _ (limits : Limits) (before after : List Event) (asked : Call) (given : Reply) (sole : AreSole after) (grows : IsPrefix before after) where
  made_is : IsMade limits 0 before after asked given → bare after ≡ bare before ++ made_by asked given
  made_is made =
      let a = made.answered in
      let at = lone_made before after asked sole grows made.call a.earlier a.event a.later a.whole a.call a.last in
      at.adds ∙ ap (λ es. bare before ++ es) (told_made limits a.earlier a.event asked given (called (pass_of a.event == 0) (call_of a.event) asked a.call) a.reply made.replaces_none)

  put_is : IsPut limits 0 before after asked given → bare after ≡ bare before ++ made_by asked given
  put_is put =
      let a = put.answered in
      let add = call.Add put.id put.text in
      let at = lone_made before after add sole grows put.call a.earlier a.event a.later a.whole a.call a.last in
      at.adds
      ∙ ap (λ es. bare before ++ es) (put_made limits a.earlier a.event put.id put.text given (called (pass_of a.event == 0) (call_of a.event) add a.call) a.reply put.placed)
      ∙ ap (λ c. bare before ++ made_by c given) (sym put.put)

  quiet_is : CallsQuietly before after → made_by asked given ≡ [] → bare after ≡ bare before ++ made_by asked given
  quiet_is quiet none = lone_quiet before after quiet.0 sole grows quiet.1 quiet.2 ∙ ap (λ es. bare before ++ es) (sym none)

  outcome_is : IsMade limits 0 before after asked given ⊎ LacksMemory 0 before after asked given ⊎ IsSpent limits 0 before after given ⊎ IsJudged 0 before after asked given
      ⊎ IsPut limits 0 before after asked given → bare after ≡ bare before ++ made_by asked given
  outcome_is (inl made) = made_is made
  outcome_is (inr (inl lacks)) = quiet_is (lacks_quietly before after asked lacks.call) (ap (made_by asked) lacks.reply ∙ memory_made asked)
  outcome_is (inr (inr (inl spent))) = quiet_is (calls_none before after spent.call) (ap (made_by asked) spent.reply ∙ spent_made asked)
  outcome_is (inr (inr (inr (inl judged)))) = quiet_is (call.Find [] ∷ [], judged.call, refl) (judged_made asked judged.expr given judged.query)
  outcome_is (inr (inr (inr (inr put)))) = put_is put

  -- the event of a call that was made: the adds and deletes before it are those before the call, it was allowed, and it gives the reply
  told_is : IsLegal limits after → IsMade limits 0 before after asked given → IsToldBy limits before asked given
  told_is legal made =
      let a = made.answered in
      let at = lone_made before after asked sole grows made.call a.earlier a.event a.later a.whole a.call a.last in
      record {
        earlier = a.earlier;
        event = a.event;
        same = at.same;
        call = called (pass_of a.event == 0) (call_of a.event) asked a.call;
        allowed = allowed_within limits after a.earlier a.event a.later legal a.whole;
        reply = a.reply;
      }

  -- a search is told of what was live
  judged_is : IsJudged 0 before after asked given → (expr : Expr) × (expression_of asked ≡ Some expr) × (given ≡ told_of asked (answer_by before (tree_of expr)))
  judged_is judged =
      let at = lone_made before after (call.Find []) sole grows judged.call judged.earlier (event.Find 0 []) judged.later judged.whole refl judged.none_later in
      (judged.expr, judged.query, judged.reply ∙ ap (λ (ds : List Document). told_of asked (map (λ d. d.id) (filter (λ d. keeps (tree_of judged.expr) d.text) ds))) (same_live judged.earlier before at.same))

-- in an engine of one pass each event is this pass's
pub sole_events : (limits : Limits) (history : List Event) → limits.passes ≡ 1 → IsLegal limits history → AreSole history
sole_events limits history one legal =
    All-weaker (λ e. pass_of e < limits.passes) (λ e. pass_of e ≡ 0) (λ e low. omega (arith, low, one)) history (passes_in_range limits history legal)

pub lone_step : (limits : Limits) (before after : List Event) (asked : Call) (given : Reply) → limits.passes ≡ 1 → Step limits 0 before after asked given →
    bare after ≡ bare before ++ made_by asked given
lone_step limits before after asked given one step =
    outcome_is limits before after asked given (sole_events limits after one step.legal) step.grows step.outcome

-- a call with such a reply has its event
made_event : (limits : Limits) (before after : List Event) (asked : Call) (given : Reply) → limits.passes ≡ 1 → Step limits 0 before after asked given →
    (given ≡ reply.Memory → ⊥) → (given ≡ reply.Spent → ⊥) → ((expr : Expr) → expression_of asked ≡ Some expr → ⊥) → ((id : ℕ) (text : List ℕ) → asked ≡ call.Put id text → ⊥) →
    IsToldBy limits before asked given
made_event limits before after asked given one step memory spent searches puts = of step.outcome where
  of : IsMade limits 0 before after asked given ⊎ LacksMemory 0 before after asked given ⊎ IsSpent limits 0 before after given ⊎ IsJudged 0 before after asked given
      ⊎ IsPut limits 0 before after asked given → IsToldBy limits before asked given
  of (inl made) = told_is limits before after asked given (sole_events limits after one step.legal) step.grows step.legal made
  of (inr (inl lacks)) = absurd (memory lacks.reply)
  of (inr (inr (inl late))) = absurd (spent late.reply)
  of (inr (inr (inr (inl judged)))) = absurd (searches judged.expr judged.query)
  of (inr (inr (inr (inr put)))) = absurd (puts put.id put.text put.put)

-- an event that tells an add that its number is live is told of its place
present_at : (limits : Limits) (earlier : List Event) (e : Event) (id n : ℕ) (text : List ℕ) → call_of e ≡ Some (call.Add id text) → IsReply limits earlier e (reply.Present n) →
    live_place id earlier ≡ Some n
present_at limits earlier (event.Add pass i t slice column bits) id n text is gives = never (is_live i earlier) gives where
  never : (b : Bool) → reply.Present n ≡ place_told b (place earlier + 1) → live_place id earlier ≡ Some n
  never true gives = cc
  never false gives = cc
present_at limits earlier (event.Drop pass i t slice column) id n text is gives =
    let same : i ≡ id = cc in
    let told = dropped_at (live_place i earlier) (reply.Present n) gives in
    let at : told.0 ≡ n = let is_told = told.2 in cc in
    ap (λ x. live_place x earlier) (sym same) ∙ told.1 ∙ ap Some at
present_at limits earlier (event.No pass refused) id n text is gives =
    let same : refused ≡ call.Add id text = cc in
    of (live_place id earlier) (subst (λ (a : Call). IsReplyToRefused limits earlier a (reply.Present n)) same gives)
  where
    of : (o : Option ℕ) → reply.Present n ≡ option_map_or reply.Present o reply.Full → o ≡ Some n
    of None told = cc
    of (Some p) told = let at : p ≡ n = cc in ap Some at
present_at limits earlier (event.Read pass read) id n text is gives =
    let same : read ≡ call.Add id text = cc in
    absurd (subst (λ (a : Call). IsReplyToRead limits earlier a (reply.Present n)) same gives)
present_at limits earlier (event.Opened pass slice true) id n text is gives = cc
present_at limits earlier (event.Opened pass slice false) id n text is gives = cc
present_at limits earlier _ id n text is gives = cc

-- an event that tells a delete that its number is absent comes where it is
absent_at : (limits : Limits) (earlier : List Event) (e : Event) (id : ℕ) → call_of e ≡ Some (call.Delete id) → IsAllowed limits earlier e →
    IsReply limits earlier e reply.Absent → is_live id earlier ≡ false
absent_at limits earlier (event.Del pass i) id is allowed gives = cc
absent_at limits earlier (event.No pass refused) id is allowed gives =
    let same : refused ≡ call.Delete id = cc in
    subst (IsRefused limits earlier) same allowed.rule.refused
absent_at limits earlier (event.Read pass read) id is allowed gives =
    let same : read ≡ call.Delete id = cc in
    absurd (subst (λ (a : Call). IsReplyToRead limits earlier a reply.Absent) same gives)
absent_at limits earlier (event.Opened pass slice true) id is allowed gives = cc
absent_at limits earlier (event.Opened pass slice false) id is allowed gives = cc
absent_at limits earlier _ id is allowed gives = cc

-- an event that tells a find its numbers tells the answer
found_at : (limits : Limits) (earlier : List Event) (e : Event) (query ids : List ℕ) → call_of e ≡ Some (call.Find query) → IsReply limits earlier e (reply.Found ids) →
    ids ≡ answer earlier query
found_at limits earlier (event.Find pass q) query ids is gives =
    let same : q ≡ query = cc in
    let told : ids ≡ answer earlier q = cc in
    told ∙ ap (answer earlier) same
found_at limits earlier (event.No pass refused) query ids is gives =
    let same : refused ≡ call.Find query = cc in
    absurd (subst (λ (a : Call). IsReplyToRefused limits earlier a (reply.Found ids)) same gives)
found_at limits earlier (event.Read pass read) query ids is gives =
    let same : read ≡ call.Find query = cc in
    absurd (subst (λ (a : Call). IsReplyToRead limits earlier a (reply.Found ids)) same gives)
found_at limits earlier (event.Opened pass slice true) query ids is gives = cc
found_at limits earlier (event.Opened pass slice false) query ids is gives = cc
found_at limits earlier _ query ids is gives = cc

-- no event answers a call that searches by an expression
no_query : (limits : Limits) (earlier : List Event) (e : Event) (expr : Expr) (ids : List ℕ) → call_of e ≡ Some (call.Query expr) → IsReply limits earlier e (reply.Found ids) → ⊥
no_query limits earlier (event.No pass refused) expr ids is gives =
    let same : refused ≡ call.Query expr = cc in
    subst (λ (a : Call). IsReplyToRefused limits earlier a (reply.Found ids)) same gives
no_query limits earlier (event.Read pass read) expr ids is gives =
    let same : read ≡ call.Query expr = cc in
    subst (λ (a : Call). IsReplyToRead limits earlier a (reply.Found ids)) same gives
no_query limits earlier (event.Opened pass slice true) expr ids is gives = cc
no_query limits earlier (event.Opened pass slice false) expr ids is gives = cc
no_query limits earlier _ expr ids is gives = cc

-- so the replies tell of what was live before the call
pub lone_present : (limits : Limits) (before after : List Event) (id n : ℕ) (text : List ℕ) → limits.passes ≡ 1 →
    Step limits 0 before after (call.Add id text) (reply.Present n) → live_place id before ≡ Some n
lone_present limits before after id n text one step =
    let told = made_event limits before after (call.Add id text) (reply.Present n) one step (λ is. cc) (λ is. cc) (λ expr is. cc) (λ i t is. cc) in
    ap (λ (ds : List Document). option_map (λ (d : Document). d.place) (find (λ (d : Document). d.id == id) ds)) (sym (same_live told.earlier before told.same))
    ∙ present_at limits told.earlier told.event id n text told.call told.reply

pub lone_absent : (limits : Limits) (before after : List Event) (id : ℕ) → limits.passes ≡ 1 → Step limits 0 before after (call.Delete id) reply.Absent →
    is_live id before ≡ false
lone_absent limits before after id one step =
    let told = made_event limits before after (call.Delete id) reply.Absent one step (λ is. cc) (λ is. cc) (λ expr is. cc) (λ i t is. cc) in
    ap (λ (ds : List Document). list_any (λ (d : Document). d.id == id) ds) (sym (same_live told.earlier before told.same))
    ∙ absent_at limits told.earlier told.event id told.call told.allowed told.reply

pub lone_found : (limits : Limits) (before after : List Event) (query ids : List ℕ) → limits.passes ≡ 1 →
    Step limits 0 before after (call.Find query) (reply.Found ids) → ids ≡ answer before query
lone_found limits before after query ids one step =
    let told = made_event limits before after (call.Find query) (reply.Found ids) one step (λ is. cc) (λ is. cc) (λ expr is. cc) (λ i t is. cc) in
    found_at limits told.earlier told.event query ids told.call told.reply
    ∙ ap (λ (ds : List Document). map (λ (d : Document). d.id) (filter (λ (d : Document). meets d.text query) ds)) (same_live told.earlier before told.same)

pub lone_kept : (limits : Limits) (before after : List Event) (expr : Expr) (ids : List ℕ) → limits.passes ≡ 1 →
    Step limits 0 before after (call.Query expr) (reply.Found ids) → ids ≡ answer_by before (tree_of expr)
lone_kept limits before after expr ids one step = of step.outcome where
  of : IsMade limits 0 before after (call.Query expr) (reply.Found ids) ⊎ LacksMemory 0 before after (call.Query expr) (reply.Found ids) ⊎ IsSpent limits 0 before after (reply.Found ids)
      ⊎ IsJudged 0 before after (call.Query expr) (reply.Found ids) ⊎ IsPut limits 0 before after (call.Query expr) (reply.Found ids) → ids ≡ answer_by before (tree_of expr)
  of (inl made) =
      let told = told_is limits before after (call.Query expr) (reply.Found ids) (sole_events limits after one step.legal) step.grows step.legal made in
      absurd (no_query limits told.earlier told.event expr ids told.call told.reply)
  of (inr (inl lacks)) = let never = lacks.reply in cc
  of (inr (inr (inl late))) = let never = late.reply in cc
  of (inr (inr (inr (inl judged)))) =
      let told = judged_is limits before after (call.Query expr) (reply.Found ids) (sole_events limits after one step.legal) step.grows judged in
      let same : expr ≡ told.0 = let is = told.1 in cc in
      let found : ids ≡ answer_by before (tree_of told.0) = let is = told.2 in cc in
      found ∙ ap (λ e. answer_by before (tree_of e)) (sym same)
  of (inr (inr (inr (inr put)))) = let never = put.put in cc
