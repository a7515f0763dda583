use Rattle.std.proofs.Common.{ℕ, Bool, List, [], ◌∷◌, Err, refl, ap, append-nil}
use Rattle.funnel_model.specs.declared.call.Call.{Call}
use Rattle.funnel_model.specs.declared.call.Call.TheVariants as call
use Rattle.funnel_model.specs.declared.event.Event.{Event}
use Rattle.funnel_model.specs.declared.event.Event.TheVariants as event
use Rattle.funnel_model.specs.History.{live}
use Rattle.funnel_model.proofs.LiveLemmas.{live-silent}
use Rattle.commit_desk.specs.Answers.{call_asked, events_of_clear, events_of_delete, events_of_take}
use Rattle.commit_desk.specs.Laws.{KeepsDocuments}
use Rattle.commit_desk.specs.declared.answers.AddFault.{AddFault}
use Rattle.commit_desk.specs.declared.answers.AddFault.TheVariants as add
use Rattle.commit_desk.specs.declared.answers.ClearRefusal.{ClearRefusal}
use Rattle.commit_desk.specs.declared.answers.ClearRefusal.TheVariants as clear
use Rattle.commit_desk.specs.declared.answers.DeleteFault.{DeleteFault}
use Rattle.commit_desk.specs.declared.answers.DeleteFault.TheVariants as delete
use Rattle.commit_desk.specs.declared.answers.Taken.TheVariants as taken
use Rattle.commit_desk.proofs.laws.refused_calls_keep_documents.Goals as goal

none : (history : List Event) → KeepsDocuments history []
none history = ap live (append-nil history)

refusal : (history : List Event) (pass : ℕ) (asked : Call) → KeepsDocuments history (event.No pass asked ∷ [])
refusal history pass asked = live-silent history (event.No pass asked) (λ id. refl) refl

take : (history : List Event) (pass : ℕ) (replaces : Bool) (id : ℕ) (text : List ℕ) (fault : AddFault) → KeepsDocuments history (events_of_take pass replaces id text (taken.Refused fault))
take history pass replaces id text (add.Spent events) = none history
take history pass replaces id text (add.Present added) = refusal history pass (call_asked replaces id text)
take history pass replaces id text (add.Full blocks) = refusal history pass (call_asked replaces id text)
take history pass replaces id text add.Memory = none history

deleting : (history : List Event) (pass id : ℕ) (fault : DeleteFault) → KeepsDocuments history (events_of_delete pass id (Err fault))
deleting history pass id (delete.Spent events) = none history
deleting history pass id delete.Absent = refusal history pass (call.Delete id)

clearing : (history : List Event) (pass : ℕ) (fault : ClearRefusal) → KeepsDocuments history (events_of_clear pass (Err fault))
clearing history pass (clear.Spent events) = none history
clearing history pass clear.NoneRetired = refusal history pass call.Recycle
clearing history pass (clear.Guarded slice guard opened_at) = refusal history pass call.Recycle

pub returns : goal.returns
returns c = record {
  take = take;
  commit = λ history pass id text claim bits fault. live-silent history (event.Drop pass id text claim.slice claim.column) (λ n. refl) refl;
  delete = deleting;
  clear = clearing;
}
