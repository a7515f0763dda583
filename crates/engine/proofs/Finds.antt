-- How the turns of a find make its step.
use Rattle.std.proofs.Common.{◌≡◌, ◌⊎◌, ℕ, Bool, true, false, not, List, [], ◌∷◌, ◌++◌, filter, inl, inr, sym, refl, ap, subst, ◌∙◌, Contains, Result, Ok, Err, IfOk}
use Rattle.commit_desk.specs.Answers.{AnswersFind, events_of_find}
use Rattle.commit_desk.specs.declared.answers.FindFault.{FindFault}
use Rattle.commit_desk.specs.declared.answers.FindFault.TheVariants as find
use Rattle.commit_desk.specs.declared.find_layouts.FindLayout.{FindLayout}
use Rattle.commit_desk.specs.Desks.{DeskState, Makes}
use Rattle.commit_desk.specs.FindLayouts.{AreFindLayouts}
use Rattle.commit_desk.specs.Judging.{answer_where}
use Rattle.commit_desk.specs.Passes.{IsFinding}
use Rattle.commit_desk.specs.Resolving.{IsRestOf}
use Rattle.engine.specs.Passes.{view_of}
use Rattle.engine.proofs.OpenFinds.{begun_last}
use Rattle.engine.specs.Finds.{EndedTurns, FindBegins, FindEnds, FoundTurns, IsBegunAt, IsJustFinding, IsScanFor, RefusedTurn, RefusedTurns}
use Rattle.engine.specs.Searches.{KeptTurns}
use Rattle.engine.specs.declared.search.Search.{Search}
use Rattle.engine.specs.Replies.{reply_of_find_fault}
use Rattle.funnel_model.proofs.AnswerLemmas.{Contains-filter, Contains-filtered}
use Rattle.funnel_model.proofs.StepLemmas.{call_by-own}
use Rattle.funnel_model.specs.declared.call.Call.TheVariants as call
use Rattle.funnel_model.specs.declared.claim.Token.{Token}
use Rattle.funnel_model.specs.declared.config.Config.{Config}
use Rattle.funnel_model.specs.declared.event.Event.{Event}
use Rattle.funnel_model.specs.declared.event.Event.TheVariants as event
use Rattle.funnel_model.specs.declared.reply.Reply.TheVariants as reply
use Rattle.funnel_model.specs.History.{answer}
use Rattle.funnel_model.specs.Legal.{IsIdle, IsLegal, Limits}
use Rattle.funnel_model.specs.Steps.{AddsCall, Step}
use Rattle.funnel_model.specs.Tokens.{HasToken}
use Rattle.funnel_model.specs.Words.{AreWordsOf}
use Rattle.row_layout.specs.Owners.{is_exact}
use Rattle.row_layout.specs.Sound.{IsSound}
use Rattle.slice_recycler.specs.Turns.{IsTurn}
use Rattle.slice_recycler.proofs.Steps.{IsQuiet, adds_call, own-unanswered, quiet_none, quiet_turn, step_find_without_memory, step_found_without_memory, step_made_within, step_spent_turn}
use Rattle.slice_rule.specs.Pools.{PoolId}
use Rattle.slice_rule.specs.Seats.{PassState}

-- the end of a find answers no call
pub end_is_quiet : (pass : ℕ) (before after : List Event) → FindEnds pass before after → IsQuiet pass 0 before after
end_is_quiet pass before after turn = quiet_turn pass before after (event.End pass ∷ []) turn (own-unanswered pass (event.End pass ∷ []) refl) refl

-- the words that aren't exact are the rest of some words
pub rest_is : (config : Config) (set rest : List (List ℕ)) → rest ≡ filter (λ word. not (is_exact config word)) set → IsRestOf config set rest
rest_is config set rest left = record {
  part = λ word has. (Contains-filtered (λ w. not (is_exact config w)) set word (subst (λ ws. Contains ws word) left has)).0;
  others_exact = λ word has. by_test word has (is_exact config word) refl;
} where
  by_test : (word : List ℕ) → Contains set word → (exact : Bool) → is_exact config word ≡ exact → Contains rest word ⊎ (is_exact config word ≡ true)
  by_test word has true is = inr is
  by_test word has false is = inl (subst (λ ws. Contains ws word) (sym left) (Contains-filter (λ w. not (is_exact config w)) set word has (ap not is)))

-- The turn that begins a find.
module _ (limits : Limits) (pass : ℕ) (query : List ℕ) (before : List Event) where
  pub begins_call : (after : List Event) → FindBegins limits pass query before after → AddsCall pass before after (call.Find query)
  begins_call after turn = adds_call pass before after (event.Find pass query) (call.Find query) turn (call_by-own pass (event.Find pass query) refl)

  -- the pass's last event is that of the turn
  pub begun_by : (next : PassState) → next.number ≡ pass → (turn : FindBegins limits pass query before next.front) → IsBegunAt (view_of next) turn.earlier query
  begun_by next number turn = subst (λ n. next.front ≡ turn.earlier ++ event.Find n query ∷ []) (sym number) turn.made

  -- the find reads its slices by these layouts
  pub just_begun : (pool : PoolId) (next : PassState) (token : Token) (layouts : List FindLayout) → next.number ≡ pass → FindBegins limits pass query before next.front → IsFinding pool token next →
      ((begun : HasToken next.front next.number token.opened_at) → AreFindLayouts pool begun.earlier token layouts) →
      ((begun : HasToken next.front next.number token.opened_at) → IsSound pool.config begun.earlier) → IsJustFinding pool token next layouts
  just_begun pool next token layouts number turn finding laid sound = record {
    finding = finding;
    begun = record { earlier = turn.earlier; query = query; at = begun_by next number turn };
    laid = laid;
    sound = sound;
  }

  -- and looks for the words of its query
  pub scan_begun : (pool : PoolId) (next : PassState) (token : Token) (search : Search) (layouts : List FindLayout) → next.number ≡ pass → FindBegins limits pass query before next.front →
      IsJustFinding pool token next layouts → AreWordsOf search.words query → search.residue.items ≡ [] → IsScanFor pool next token search layouts
  scan_begun pool next token search layouts number turn just of_query none = record {
    just = just;
    of_query = λ begun. subst (AreWordsOf search.words) (begun_last next token.opened_at turn.earlier query (begun_by next number turn) begun).1 of_query;
    no_residue = none;
  }

  -- a find that the desk refused
  pub refused_find : (after : List Event) (fault : FindFault) → IsTurn pass before after (λ history. AnswersFind limits.events limits history (Err fault)) [] → RefusedTurn limits pass before after fault
  refused_find after find.Memory turn = turn
  refused_find after (find.Spent events) turn = turn

  -- did not begin
  pub not_begun : (after : List Event) (fault : FindFault) → RefusedTurn limits pass before after fault → RefusedTurns limits pass before after fault
  not_begun after find.Memory turn = inr turn
  not_begun after (find.Spent events) turn = turn

  -- What follows it is made of the pass as it was then.
  module _ (middle : PassState) (number : middle.number ≡ pass) (begun : FindBegins limits pass query before middle.front) (after : List Event) (ended : FindEnds middle.number middle.front after) where
    abbrev pub ended_turns : EndedTurns limits pass query before after
    ended_turns = record { middle = middle.front; begun = begun; ended = subst (λ n. FindEnds n middle.front after) number ended }

    pub found_turns : (ids : List ℕ) → ((earlier : List Event) (asked : List ℕ) → IsBegunAt (view_of middle) earlier asked → ids ≡ answer earlier asked) → FoundTurns limits pass query before after ids
    found_turns ids found = record { turns = ended_turns; found = found begun.earlier query (begun_by middle number begun) }

-- The step of a find.
module _ (limits : Limits) (pass : ℕ) (query : List ℕ) (before after : List Event) (idle : IsIdle pass before) (legal : IsLegal limits after) where
  -- that did not begin
  pub refused_step : IsIdle pass after → (fault : FindFault) → RefusedTurns limits pass before after fault → Step limits pass before after (call.Find query) (reply_of_find_fault fault)
  refused_step idle_end find.Memory (inl same) =
      step_find_without_memory limits pass before after idle legal idle_end (subst (IsQuiet pass 0 before) same (quiet_none pass before)) query
  refused_step idle_end find.Memory (inr turn) = step_find_without_memory limits pass before after idle legal idle_end (quiet_turn pass before after [] turn refl refl) query
  refused_step idle_end (find.Spent events) turn = step_spent_turn limits pass before after (call.Find query) idle turn turn.answer.many legal

  module _ (idle_end : IsIdle pass after) where
    -- that is answered
    pub found_step : (ids : List ℕ) → FoundTurns limits pass query before after ids → Step limits pass before after (call.Find query) (reply.Found ids)
    found_step ids found =
        let turns = found.turns in
        let e = event.Find pass query in
        step_made_within limits pass before before turns.middle after e (call.Find query) (reply.Found ids) idle (quiet_none pass before) turns.begun (call_by-own pass e refl) refl
        (ap (λ (answered : List ℕ). reply.Found answered) found.found) refl (end_is_quiet pass turns.middle after turns.ended) legal idle_end

    -- that found no memory
    pub dropped_step : EndedTurns limits pass query before after → Step limits pass before after (call.Find query) reply.Memory
    dropped_step turns =
        step_found_without_memory limits pass before turns.middle after query idle turns.begun (call_by-own pass (event.Find pass query) refl)
        (end_is_quiet pass turns.middle after turns.ended) legal idle_end

-- The layouts that the desk told as the find began are those of its slices before it.
pub layouts_then : (pool : PoolId) (before after : DeskState) (seat next : PassState) (query : List ℕ) (answer : Result Token FindFault) (entries : List FindLayout) → before.pool ≡ pool →
    Makes (events_of_find seat.number query answer) before after seat next → IfOk answer (λ token. AreFindLayouts before.pool before.history token entries) →
    IfOk answer (λ token. (begun : HasToken next.front next.number token.opened_at) → AreFindLayouts pool begun.earlier token entries)
layouts_then pool before after seat next query (Ok token) entries of made laid = λ begun.
    let at : IsBegunAt (view_of next) before.history query =
    subst (λ n. next.front ≡ before.history ++ event.Find n query ∷ []) (sym made.number) (made.front ∙ made.history) in
    subst (λ (h : List Event). AreFindLayouts pool h token entries) (begun_last next token.opened_at before.history query at begun).0
    (subst (λ (p : PoolId). AreFindLayouts p before.history token entries) of laid)
layouts_then pool before after seat next query (Err fault) entries of made laid = tt

-- and the adds and moves before it have their bits
pub sound_then : (pool : PoolId) (before after : DeskState) (seat next : PassState) (query : List ℕ) (answer : Result Token FindFault) → before.pool ≡ pool →
    Makes (events_of_find seat.number query answer) before after seat next → IsSound before.pool.config before.history →
    IfOk answer (λ token. (begun : HasToken next.front next.number token.opened_at) → IsSound pool.config begun.earlier)
sound_then pool before after seat next query (Ok token) of made sound = λ begun.
    let at : IsBegunAt (view_of next) before.history query =
    subst (λ n. next.front ≡ before.history ++ event.Find n query ∷ []) (sym made.number) (made.front ∙ made.history) in
    subst (IsSound pool.config) (begun_last next token.opened_at before.history query at begun).0 (subst (λ (p : PoolId). IsSound p.config before.history) of sound)
sound_then pool before after seat next query (Err fault) of made sound = tt

-- the turns of a find that is answered by a test
pub kept_turns : (limits : Limits) (pass : ℕ) (test : List ℕ → Bool) (before : List Event) (middle : PassState) (number : middle.number ≡ pass) (begun : FindBegins limits pass [] before middle.front) (after : List Event)
    (ended : FindEnds middle.number middle.front after) (ids : List ℕ) → ((earlier : List Event) (query : List ℕ) → IsBegunAt (view_of middle) earlier query → ids ≡ answer_where earlier test) →
    KeptTurns limits pass test before after ids
kept_turns limits pass test before middle number begun after ended ids kept = record {
  turns = ended_turns limits pass [] before middle number begun after ended;
  kept = kept begun.earlier [] (begun_by limits pass [] before middle number begun);
}
