-- How a find of the empty query answers a search by an expression.
use Rattle.std.proofs.Common.{◌≡◌, ℕ, ◌≤◌, ◌⊎◌, List, [], ◌∷◌, ◌++◌, length, Some, Result, Ok, Err, refl, sym, ap, subst, ◌∙◌, append_assoc, inl, inr, arith}
use Rattle.bool_query.specs.declared.fault.QueryFault.{QueryFault}
use Rattle.bool_query.specs.declared.fault.QueryFault.TheVariants as syntax
use Rattle.commit_desk.specs.declared.answers.FindFault.{FindFault}
use Rattle.commit_desk.specs.declared.answers.FindFault.TheVariants as find
use Rattle.engine.specs.declared.querying.SearchFault.{SearchFault}
use Rattle.engine.specs.declared.querying.SearchFault.TheVariants as fault
use Rattle.engine.specs.Faults.{of_find, of_text}
use Rattle.engine.specs.Finds.{EndedTurns, RefusedTurn}
use Rattle.engine.specs.Passes.{PassView}
use Rattle.engine.specs.Replies.{reply_of_query_fault, reply_of_search_fault}
use Rattle.engine.specs.Searches.{KeptTurns, MakesCallOf, MakesSearch, MakesTold, SearchTurns, ToldTurns, reply_told}
use Rattle.engine.proofs.Finds.{begins_call, dropped_step, end_is_quiet, found_step, refused_step}
use Rattle.engine.proofs.NotTaken.{taken_late}
use Rattle.funnel_model.specs.declared.call.Call.{Call}
use Rattle.funnel_model.specs.declared.call.Call.TheVariants as call
use Rattle.funnel_model.specs.declared.config.Config.{Config}
use Rattle.funnel_model.specs.declared.event.Event.{Event}
use Rattle.funnel_model.specs.declared.event.Event.TheVariants as event
use Rattle.funnel_model.specs.declared.expr.Expr.{Expr}
use Rattle.funnel_model.specs.declared.reply.Reply.{Reply}
use Rattle.funnel_model.specs.declared.reply.Reply.TheVariants as reply
use Rattle.funnel_model.specs.Expressions.{keeps, tree_of}
use Rattle.funnel_model.specs.History.{answer}
use Rattle.funnel_model.specs.Legal.{IsIdle, IsLegal, Limits}
use Rattle.funnel_model.specs.Steps.{AddsCall, AddsNone, FindsNoMemory, IsJudged, IsMade, IsPut, IsSpent, LacksMemory, Step, expression_of, told_of}
use Rattle.line_proto.specs.Forms.{Told, Ids, Amount, Last, First, Sought}
use Rattle.line_proto.specs.Services.{AnswersSearch, IsNotTaken, IsSought, IsUnread, searched}
use Rattle.slice_recycler.proofs.Steps.{quiet_adds_none, quiet_none, quiet_turn, step_spent_turn}

-- A call that searches has its expression, is told of what this keeps, and for want of memory makes the find of the empty query or none.
searches : (told : Told) (expr : Expr) → expression_of (searched told expr) ≡ Some expr
searches Ids expr = refl
searches Amount expr = refl
searches (Last most) expr = refl
searches (First most) expr = refl

told_is : (told : Told) (expr : Expr) (ids : List ℕ) → reply_told told ids ≡ told_of (searched told expr) ids
told_is Ids expr ids = refl
told_is Amount expr ids = refl
told_is (Last most) expr ids = refl
told_is (First most) expr ids = refl

finds_none : (told : Told) (expr : Expr) (pass : ℕ) (before after : List Event) → AddsNone pass before after ⊎ AddsCall pass before after (call.Find []) →
    FindsNoMemory pass before after (searched told expr)
finds_none Ids expr pass before after calls = calls
finds_none Amount expr pass before after calls = calls
finds_none (Last most) expr pass before after calls = calls
finds_none (First most) expr pass before after calls = calls

-- The step of a search by an expression that tells so, by its turns.
module _ (limits : Limits) (pass : ℕ) (told : Told) (expr : Expr) (before after : List Event) (idle : IsIdle pass before) (legal : IsLegal limits after) (idle_end : IsIdle pass after) where
  abbrev asked : Call
  asked = searched told expr

  -- it made the call of the empty query
  made_call : EndedTurns limits pass [] before after → AddsCall pass before after (call.Find [])
  made_call turns = quiet_adds_none pass 0 turns.middle after (end_is_quiet pass turns.middle after turns.ended) ∙ begins_call limits pass [] before turns.middle turns.begun

  -- the step of the find of the empty query is that of the search
  as_search : (all : Reply) (given : Reply) → Step limits pass before after (call.Find []) all →
      (IsMade limits pass before after asked given ⊎ LacksMemory pass before after asked given ⊎ IsSpent limits pass before after given ⊎ IsJudged pass before after asked given ⊎ IsPut limits pass before after asked given) →
      Step limits pass before after asked given
  as_search all given step outcome = record {
    grows = step.grows;
    legal = step.legal;
    idle_before = step.idle_before;
    idle_after = step.idle_after;
    few_moves = let few = step.few_moves in omega (arith, few);
    outcome = outcome;
  }

  -- it is answered by what the expression keeps
  search_found : (ids : List ℕ) → KeptTurns limits pass (keeps (tree_of expr)) before after ids → Step limits pass before after asked (reply_told told ids)
  search_found ids kept =
      let turns = kept.turns in
      let begun = turns.begun in
      let quiet = end_is_quiet pass turns.middle after turns.ended in
      let all = answer begun.earlier [] in
      as_search (reply.Found all) (reply_told told ids) (found_step limits pass [] before after idle legal idle_end all (record { turns = turns; found = refl }))
      (inr (inr (inr (inl (record {
        expr = expr;
        query = searches told expr;
        call = made_call turns;
        earlier = begun.earlier;
        later = quiet.more;
        whole = quiet.whole ∙ ap (λ (h : List Event). h ++ quiet.more) begun.made ∙ append_assoc begun.earlier (event.Find pass [] ∷ []) quiet.more;
        none_later = quiet.none;
        reply = told_is told expr ids ∙ ap (told_of asked) kept.kept;
      })))))

  -- it found no memory after it had begun
  search_dropped : EndedTurns limits pass [] before after → Step limits pass before after asked reply.Memory
  search_dropped ended =
      as_search reply.Memory reply.Memory (dropped_step limits pass [] before after idle legal idle_end ended)
      (inr (inl (record { reply = refl; call = finds_none told expr pass before after (inr (made_call ended)) })))

  -- the desk refused it
  search_refused : (why : FindFault) → RefusedTurn limits pass before after why → Step limits pass before after asked (reply_of_search_fault (of_find why))
  search_refused find.Memory turn =
      as_search reply.Memory reply.Memory (refused_step limits pass [] before after idle legal idle_end find.Memory (inr turn))
      (inr (inl (record { reply = refl; call = finds_none told expr pass before after (inl (quiet_adds_none pass 0 before after (quiet_turn pass before after [] turn refl refl))) })))
  search_refused (find.Spent events) turn = step_spent_turn limits pass before after asked idle turn turn.answer.many legal

-- the turns of a search that the desk refused
pub refused_search : (limits : Limits) (pass : ℕ) (sought : Sought) (expr : Expr) (before after : List Event) (why : FindFault) → IsSought sought (tree_of expr) →
    RefusedTurn limits pass before after why → SearchTurns limits pass sought before after (Err (of_find why))
refused_search limits pass sought expr before after find.Memory is turn = inr (inl turn)
refused_search limits pass sought expr before after (find.Spent events) is turn = (expr, is, turn)

-- The calls of a search, by its turns: it is the call that tells so, whatever is told.
module _ (limits : Limits) (pass number : ℕ) (same : number ≡ pass) (told : Told) (sought : Sought) (expr : Expr) (is : IsSought sought (tree_of expr)) (before after : List Event) (idle : IsIdle pass before)
    (legal : IsLegal limits after) (idle_end : IsIdle pass after) where
  abbrev view : PassView
  view = record { number = pass; front = before }

  abbrev next : PassView
  next = record { number = number; front = after }

  made : (given : Reply) → Step limits pass before after (searched told expr) given → MakesCallOf told limits sought given view next
  made given step = (expr, is, record { step = step; number = same })

  pub found_call : (ids : List ℕ) → KeptTurns limits pass (keeps (tree_of expr)) before after ids → MakesSearch told limits sought (Ok ids) view next
  found_call ids kept = made (reply_told told ids) (search_found limits pass told expr before after idle legal idle_end ids kept)

  pub dropped_call : EndedTurns limits pass [] before after → MakesSearch told limits sought (Err fault.Memory) view next
  dropped_call ended = inr (made reply.Memory (search_dropped limits pass told expr before after idle legal idle_end ended))

  pub refused_call : (why : FindFault) → RefusedTurn limits pass before after why → MakesSearch told limits sought (Err (of_find why)) view next
  refused_call find.Memory turn = inr (made reply.Memory (search_refused limits pass told expr before after idle legal idle_end find.Memory turn))
  refused_call (find.Spent events) turn = made reply.Spent (search_refused limits pass told expr before after idle legal idle_end (find.Spent events) turn)

-- Of what is refused before anything is called nothing is made.
module _ (limits : Limits) (sought : Sought) where
  pub unread_search : (told : Told) (pass : PassView) (why : QueryFault) → IsUnread sought (reply_of_query_fault why) → MakesSearch told limits sought (Err (of_text why)) pass pass
  unread_search told pass (syntax.Syntax at) is = (is, refl)
  unread_search told pass (syntax.Deep at) is = (is, refl)
  unread_search told pass syntax.Memory is = inl refl

  pub unread_turns : (pass : ℕ) (history : List Event) (why : QueryFault) → IsUnread sought (reply_of_query_fault why) → SearchTurns limits pass sought history history (Err (of_text why))
  unread_turns pass history (syntax.Syntax at) is = (is, refl)
  unread_turns pass history (syntax.Deep at) is = (is, refl)
  unread_turns pass history syntax.Memory is = inl refl

-- the reply to an answer, or to its fault
abbrev pub reply_or : {A : Type 0} → (A → Reply) → Result A SearchFault → Reply
reply_or reply_of (Ok found) = reply_of found
reply_or reply_of (Err why) = reply_of_search_fault why

-- A search as a client's.
module _ (opening : Config) (limits : Limits) (pass number : ℕ) (told : Told) (sought : Sought) (before after : List Event) where
  abbrev before_call : PassView
  before_call = record { number = pass; front = before }

  abbrev after_call : PassView
  after_call = record { number = number; front = after }

  -- it isn't taken without memory where the front has as many events as there may be
  memory_not_taken : limits.events ≤ length before → SearchTurns limits pass sought before after (Err fault.Memory) →
      IsNotTaken (record { opening = opening; limits = limits; pass = pass }) before after reply.Memory
  memory_not_taken many (inl same) =
      record { reply = inr refl; call = subst (λ (h : List Event). AddsNone pass before h) same (quiet_adds_none pass 0 before before (quiet_none pass before)) }
  memory_not_taken many (inr (inl turn)) = absurd (taken_late limits pass before after _ turn many turn.answer)
  memory_not_taken many (inr (inr ended)) = absurd (taken_late limits pass before ended.middle _ ended.begun many ended.begun.answer)

  answered : (ids : List ℕ) (given : Reply) → SearchTurns limits pass sought before after (Ok ids) → MakesCallOf told limits sought given before_call after_call →
      AnswersSearch (record { opening = opening; limits = limits; pass = pass }) before after told sought given
  answered ids given turns (expr, is, made) = inl (record {
    expr = expr;
    reads = is;
    answers = record {
      step = made.step;
      spent = λ many. absurd (taken_late limits pass before turns.2.turns.middle _ turns.2.turns.begun many turns.2.turns.begun.answer);
    };
  })

  refused : (why : SearchFault) → SearchTurns limits pass sought before after (Err why) → MakesSearch told limits sought (Err why) before_call after_call →
      AnswersSearch (record { opening = opening; limits = limits; pass = pass }) before after told sought (reply_of_search_fault why)
  refused (fault.Spent events) turns (expr, is, made) = inl (record {
    expr = expr;
    reads = is;
    answers = record {
      step = made.step;
      spent = λ many. record { reply = inl refl; call = quiet_adds_none pass 0 before after (quiet_turn pass before after [] turns.2 refl refl) };
    };
  })
  refused (fault.Syntax at) turns made = inr (turns.1, turns.0)
  refused (fault.Deep at) turns made = inr (turns.1, turns.0)
  refused fault.Memory turns (inl same) = inr (sym (ap (λ (v : PassView). v.front) same), tt)
  refused fault.Memory turns (inr (expr, is, made)) = inl (record {
    expr = expr;
    reads = is;
    answers = record { step = made.step; spent = λ many. memory_not_taken many turns };
  })

  -- one of whose numbers all are told
  pub client_searches : (answer : Result (List ℕ) SearchFault) → SearchTurns limits pass sought before after answer → MakesSearch told limits sought answer before_call after_call →
      (given : Reply) → given ≡ reply_or (reply_told told) answer → AnswersSearch (record { opening = opening; limits = limits; pass = pass }) before after told sought given
  client_searches (Ok ids) turns made given is =
      subst (AnswersSearch (record { opening = opening; limits = limits; pass = pass }) before after told sought) (sym is) (answered ids (reply_told told ids) turns made)
  client_searches (Err why) turns made given is =
      subst (AnswersSearch (record { opening = opening; limits = limits; pass = pass }) before after told sought) (sym is) (refused why turns made)

  -- and one of whose numbers so much is told
  pub client_told : {A : Type 0} (tells : List ℕ → A) (reply_of : A → Reply) (answer : Result A SearchFault) → ToldTurns tells limits pass sought before after answer →
      MakesTold told reply_of limits sought answer before_call after_call → (given : Reply) → given ≡ reply_or reply_of answer →
      AnswersSearch (record { opening = opening; limits = limits; pass = pass }) before after told sought given
  client_told tells reply_of (Ok found) (ids, is_told, turns) made given is =
      subst (AnswersSearch (record { opening = opening; limits = limits; pass = pass }) before after told sought) (sym is) (answered ids (reply_of found) turns made)
  client_told tells reply_of (Err why) turns made given is =
      subst (AnswersSearch (record { opening = opening; limits = limits; pass = pass }) before after told sought) (sym is) (refused why turns made)
