-- Events that answer no call leave the live documents, the commits, and the adds and drops.
use Rattle.std.proofs.Common.{◌≡◌, ℕ, ◌+◌, Bool, true, false, cond, List, [], ◌∷◌, ◌++◌, Option, Some, None, sym, refl, ap, ◌∙◌, subst, append_assoc, arith}
use Rattle.std.proofs.lemmas.List.{append-nil}
use Rattle.std.proofs.lemmas.List.Elements.{All-cons, All-head, All-nil, All-tail}
use Rattle.std.proofs.lemmas.List.Sums.{sum_by_push}
use Rattle.std.specs.List.{All, cons_option, count_by}
use Rattle.funnel_model.proofs.LiveLemmas.{live-silent, place-append}
use Rattle.funnel_model.proofs.StepLemmas.{call_by-own}
use Rattle.funnel_model.specs.declared.call.Call.{Call}
use Rattle.funnel_model.specs.declared.event.Event.{Event}
use Rattle.funnel_model.specs.declared.event.Event.TheVariants as event
use Rattle.funnel_model.specs.Events.{added_by, call_of, deletes_or_replaces, pass_of}
use Rattle.funnel_model.specs.History.{live, own, place}
use Rattle.load_laws.specs.LonePass.{IsAlone}

-- whether the event adds or drops a document
abbrev pub fills_column : Event → Bool
fills_column (event.Add pass id text slice column bits) = true
fills_column (event.Drop pass id text slice column) = true
fills_column _ = false

-- how often a document was added or dropped
abbrev pub filled : List Event → ℕ
filled history = count_by fills_column history

-- nothing came that changes the documents, the commits, or the adds and drops
pub record Quiet (before after : List Event) : Type 0 where
  pub documents : live after ≡ live before
  pub at_place : place after ≡ place before
  pub filled_same : filled after ≡ filled before

pub quiet-refl : (history : List Event) → Quiet history history
quiet-refl history = record { documents = refl; at_place = refl; filled_same = refl }

pub quiet-trans : (before middle after : List Event) → Quiet before middle → Quiet middle after → Quiet before after
quiet-trans before middle after first second = record {
  documents = second.documents ∙ first.documents;
  at_place = second.at_place ∙ first.at_place;
  filled_same = second.filled_same ∙ first.filled_same;
}

-- how many adds and drops there are with one more event
pub filled-push : (history : List Event) (e : Event) → filled (history ++ e ∷ []) ≡ filled history + cond (fills_column e) 1 0
filled-push history e = sum_by_push (λ x. cond (fills_column x) 1 0) history e

-- an event that neither deletes nor adds nor drops a document, in the place of another one or not
quiet_by : (history : List Event) (e : Event) → ((id : ℕ) → deletes_or_replaces id e ≡ false) → added_by e ≡ None → place (e ∷ []) ≡ 0 → fills_column e ≡ false →
    Quiet history (history ++ e ∷ [])
quiet_by history e deletes_none adds_none commits_none fills_none = record {
  documents = live-silent history e deletes_none adds_none;
  at_place = omega (arith, place-append history (e ∷ []), commits_none);
  filled_same = filled-push history e ∙ ap (λ b. filled history + cond b 1 0) fills_none ∙ (let h : filled history + 0 ≡ filled history = omega arith in h);
}

-- an event that answers no call is such
pub quiet_event : (history : List Event) (e : Event) → call_of e ≡ None → Quiet history (history ++ e ∷ [])
quiet_event history (event.Take pass slice column) none = quiet_by history (event.Take pass slice column) (λ id. refl) refl refl refl
quiet_event history (event.Move pass id slice column bits) none = quiet_by history (event.Move pass id slice column bits) (λ i. refl) refl refl refl
quiet_event history (event.Void pass slice column) none = quiet_by history (event.Void pass slice column) (λ id. refl) refl refl refl
quiet_event history (event.End pass) none = quiet_by history (event.End pass) (λ id. refl) refl refl refl
quiet_event history (event.Clear pass slice) none = quiet_by history (event.Clear pass slice) (λ id. refl) refl refl refl
quiet_event history (event.Opened pass slice alone) none = quiet_by history (event.Opened pass slice alone) (λ id. refl) refl refl refl
quiet_event history (event.Add pass id text slice column bits) none = cc
quiet_event history (event.Drop pass id text slice column) none = cc
quiet_event history (event.Del pass id) none = cc
quiet_event history (event.Find pass query) none = cc
quiet_event history (event.Tune pass config) none = cc
quiet_event history (event.No pass asked) none = cc
quiet_event history (event.Read pass asked) none = cc

-- where a list with an element that may be missing is empty, it is missing
none_first : (first : Option Call) (calls : List Call) → cons_option first calls ≡ [] → (first ≡ None) × (calls ≡ [])
none_first None calls is = (refl, is)
none_first (Some asked) calls is = cc

-- events of a pass that answer no call
pub quiet_calls : (pass : ℕ) (history later : List Event) → IsAlone pass later → own pass later ≡ [] → Quiet history (history ++ later)
quiet_calls pass history [] alone none = subst (Quiet history) (sym (append-nil history)) (quiet-refl history)
quiet_calls pass history (e ∷ later) alone none =
    let is_own = All-head (λ x. pass_of x ≡ pass) e later alone in
    let both = none_first _ (own pass later) none in
    subst (Quiet history) (append_assoc history (e ∷ []) later)
    (quiet-trans history (history ++ e ∷ []) ((history ++ e ∷ []) ++ later)
    (quiet_event history e (sym (call_by-own pass e is_own) ∙ both.0))
    (quiet_calls pass (history ++ e ∷ []) later (All-tail (λ x. pass_of x ≡ pass) e later alone) both.1))

-- what holds of all of two lists holds of all of each
pub all_first : {A : Type 0} → (P : A → Type 0) (xs ys : List A) → All P (xs ++ ys) → All P xs
all_first P [] ys all = All-nil P
all_first P (x ∷ xs) ys all = All-cons P x xs (All-head P x (xs ++ ys) all) (all_first P xs ys (All-tail P x (xs ++ ys) all))

pub all_second : {A : Type 0} → (P : A → Type 0) (xs ys : List A) → All P (xs ++ ys) → All P ys
all_second P [] ys all = all
all_second P (x ∷ xs) ys all = all_second P xs ys (All-tail P x (xs ++ ys) all)

-- so a pass that is alone in two parts of a history together is alone in each
pub alone_front : (pass : ℕ) (xs ys : List Event) → IsAlone pass (xs ++ ys) → IsAlone pass xs
alone_front pass xs ys all = all_first (λ e. pass_of e ≡ pass) xs ys all

pub alone_rest : (pass : ℕ) (xs ys : List Event) → IsAlone pass (xs ++ ys) → IsAlone pass ys
alone_rest pass xs ys all = all_second (λ e. pass_of e ≡ pass) xs ys all
