-- What a call of one turn at the desk is as a step of its pass.
use Rattle.std.proofs.Common.{◌≡◌, ℕ, ◌<◌, ◌≤◌, List, [], Result, Ok, Err, sym, refl, ap, subst, ⊎_elim, arith}
use Rattle.std.proofs.lemmas.Bool.{cases_lt}
use Rattle.funnel_model.specs.declared.call.Call.TheVariants as call
use Rattle.funnel_model.specs.declared.commit.Commit.{Commit}
use Rattle.funnel_model.specs.declared.event.Event.{Event}
use Rattle.funnel_model.specs.declared.event.Event.TheVariants as event
use Rattle.funnel_model.specs.declared.reply.Reply.TheVariants as reply
use Rattle.funnel_model.specs.declared.stats.Stats.{Stats}
use Rattle.funnel_model.specs.Legal.{IsIdle, IsLegal, Limits}
use Rattle.funnel_model.specs.Steps.{Step}
use Rattle.funnel_model.proofs.ReplyLemmas.{journal_read, journal_trimmed}
use Rattle.funnel_model.proofs.StepLemmas.{call_by-own, step_without_memory}
use Rattle.commit_desk.specs.Answers.{AnswersDelete, AnswersJournal, AnswersPlace, AnswersStats, events_of_delete, events_of_journal, events_of_place, events_of_stats}
use Rattle.commit_desk.specs.declared.answers.DeleteFault.{DeleteFault}
use Rattle.commit_desk.specs.declared.answers.DeleteFault.TheVariants as delete
use Rattle.commit_desk.specs.declared.answers.JournalFault.{JournalFault}
use Rattle.commit_desk.specs.declared.answers.JournalFault.TheVariants as journal
use Rattle.commit_desk.specs.declared.answers.Spent.{Spent}
use Rattle.funnel_model.specs.declared.config.Config.{Config}
use Rattle.engine.specs.declared.retuning.TuneFault.{TuneFault}
use Rattle.engine.specs.declared.retuning.TuneFault.TheVariants as tune
use Rattle.engine.specs.Passes.{PassView}
use Rattle.engine.specs.Replies.{reply_of_delete, reply_of_journal, reply_of_place, reply_of_stats}
use Rattle.engine.specs.Turns.{MakesTuneCall, TuneTurn, fault_of_layout}
use Rattle.funnel_model.specs.Sizes.{words_of_slice}
use Rattle.row_layout.specs.declared.fault.LayoutFault.{LayoutFault}
use Rattle.row_layout.specs.declared.fault.LayoutFault.TheVariants as layout
use Rattle.slice_recycler.specs.Turns.{IsTurn}
use Rattle.slice_recycler.proofs.Steps.{idle_still, quiet_turn, step_journal_without_memory, step_made_by_turn, step_spent_turn}

-- Calls of one turn, and their steps.
module _ (limits : Limits) (pass : ℕ) (before after : List Event) (idle : IsIdle pass before) (legal : IsLegal limits after) where
  pub place_step : (answer : Result ℕ Spent) → IsTurn pass before after (λ history. AnswersPlace limits.events history answer) (events_of_place pass answer) →
      Step limits pass before after call.Place (reply_of_place answer)
  place_step (Ok count) turn =
      let e = event.Read pass call.Place in
      step_made_by_turn limits pass before after e call.Place (reply.Place count) idle turn refl (call_by-own pass e refl) refl refl (ap reply.Place turn.answer.1) refl legal
  place_step (Err spent) turn = step_spent_turn limits pass before after call.Place idle turn turn.answer.many legal

  pub stats_step : (answer : Result Stats Spent) → IsTurn pass before after (λ history. AnswersStats limits.events limits history answer) (events_of_stats pass answer) →
      Step limits pass before after call.Stats (reply_of_stats answer)
  stats_step (Ok stats) turn =
      let e = event.Read pass call.Stats in
      step_made_by_turn limits pass before after e call.Stats (reply.Stats stats) idle turn refl (call_by-own pass e refl) refl refl turn.answer.1 refl legal
  stats_step (Err spent) turn = step_spent_turn limits pass before after call.Stats idle turn turn.answer.many legal

  pub journal_step : (from : ℕ) (answer : Result (List Commit) JournalFault) → IsTurn pass before after (λ history. AnswersJournal limits.events limits history from answer) (events_of_journal pass from answer) →
      Step limits pass before after (call.Journal from) (reply_of_journal answer)
  journal_step from (Ok commits) turn =
      let e = event.Read pass (call.Journal from) in
      step_made_by_turn limits pass before after e (call.Journal from) (reply.Commits commits) idle turn refl (call_by-own pass e refl) refl refl
      (journal_read limits turn.earlier from commits turn.answer.1 turn.answer.2) refl legal
  journal_step from (Err (journal.Trimmed n)) turn =
      let e = event.Read pass (call.Journal from) in
      step_made_by_turn limits pass before after e (call.Journal from) (reply.Trimmed n) idle turn refl (call_by-own pass e refl) refl refl
      (journal_trimmed limits turn.earlier from n turn.answer.1 turn.answer.2) refl legal
  journal_step from (Err (journal.Spent events)) turn = step_spent_turn limits pass before after (call.Journal from) idle turn turn.answer.many legal
  journal_step from (Err journal.Memory) turn =
      step_journal_without_memory limits pass before after idle legal (idle_still pass before after turn idle) (quiet_turn pass before after [] turn refl refl) from

  pub delete_step : (id : ℕ) (answer : Result ℕ DeleteFault) → IsTurn pass before after (λ history. AnswersDelete limits.events history id answer) (events_of_delete pass id answer) →
      Step limits pass before after (call.Delete id) (reply_of_delete answer)
  delete_step id (Ok deleted) turn =
      let e = event.Del pass id in
      step_made_by_turn limits pass before after e (call.Delete id) (reply.Deleted deleted) idle turn refl (call_by-own pass e refl) refl refl (ap reply.Deleted turn.answer.1) refl legal
  delete_step id (Err (delete.Spent events)) turn = step_spent_turn limits pass before after (call.Delete id) idle turn turn.answer.many legal
  delete_step id (Err delete.Absent) turn =
      let e = event.No pass (call.Delete id) in
      step_made_by_turn limits pass before after e (call.Delete id) reply.Absent idle turn refl (call_by-own pass e refl) refl refl
      refl refl legal

  -- the call of a tuning
  pub tune_call : (number : ℕ) → number ≡ pass → (config : Config) (answer : Result ℕ TuneFault) →
      TuneTurn limits config answer (record { number = pass; front = before }) (record { number = number; front = after }) →
      MakesTuneCall limits config answer (record { number = pass; front = before }) (record { number = number; front = after })
  tune_call number same config (Ok count) (room, turn) =
      let e = event.Tune pass config in
      record {
        step = step_made_by_turn limits pass before after e (call.Tune config) (reply.Tuned count) idle turn refl (call_by-own pass e refl) refl refl (ap reply.Tuned turn.answer.1) refl legal;
        number = same;
      }
  tune_call number same config (Err (tune.Spent events)) (room, turn) =
      record { step = step_spent_turn limits pass before after (call.Tune config) idle turn turn.answer.many legal; number = same }
  tune_call number same config (Err tune.Memory) (room, is) =
      let none : before ≡ after = sym (ap (λ (p : PassView). p.front) is) in
      record {
        step = subst (λ (h : List Event). Step limits pass before h (call.Tune config) reply.Memory) none
            (step_without_memory limits pass before (call.Tune config) idle (subst (IsLegal limits) (sym none) legal) refl);
        number = same;
      }
  tune_call number same config (Err (tune.Wide needed room)) turn = tt

-- a tuning whose rows were not laid out
pub unfit_turn : {X : Type 0} (limits : Limits) (config : Config) (room : ℕ) → room ≡ limits.slice_words → (refused : LayoutFault) →
    (room < words_of_slice config → ◌≡◌ {A = Result X LayoutFault} (Err refused) (Err (layout.Wide (words_of_slice config) room))) → (words_of_slice config ≤ room → refused ≡ layout.Memory) →
    (pass : PassView) → TuneTurn limits config (Err (fault_of_layout refused)) pass pass
unfit_turn limits config room is refused wide fits pass =
    ⊎_elim
    (λ (low : room < words_of_slice config).
    let told : refused ≡ layout.Wide (words_of_slice config) room = let h = wide low in cc in
    subst (λ (f : LayoutFault). TuneTurn limits config (Err (fault_of_layout f)) pass pass) (sym told)
    (record { needed_is = refl; room_is = is; wide = low }, refl))
    (λ (enough : words_of_slice config ≤ room).
    subst (λ (f : LayoutFault). TuneTurn limits config (Err (fault_of_layout f)) pass pass) (sym (fits enough)) (omega (arith, enough, is), refl))
    (cases_lt room (words_of_slice config))
