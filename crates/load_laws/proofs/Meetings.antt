-- Workers that meet after each part keep to the parts of a load, and have seen all of it at last.
use Rattle.std.proofs.Common.{rules, ◌≡◌, ℕ, zero, suc, ◌<◌, ◌≤◌, ◌==◌, ⊎_elim, false, List, [], ◌∷◌, ◌++◌, length, refl, sym, ap, ◌∙◌, subst, arith, append_assoc}
use Rattle.std.proofs.lemmas.Bool.{cases_lt, or_parts}
use Rattle.std.proofs.lemmas.List.{append-nil, append_cancel_left}
use Rattle.std.proofs.lemmas.List.Elements.{All-contains, Contains-append_right}
use Rattle.std.proofs.lemmas.List.Folds.{list_any-append}
use Rattle.std.specs.List.{All, Contains, list_any}
use mathlib.Core.List.{IsPrefix}
use Rattle.funnel_model.proofs.StepLemmas.{own-append, prefix_refl, prefix_trans}
use Rattle.funnel_model.specs.declared.call.Call.{Call}
use Rattle.funnel_model.specs.declared.event.Event.{Event}
use Rattle.funnel_model.specs.Events.{pass_of}
use Rattle.funnel_model.specs.History.{IsFrontOf, own}
use Rattle.funnel_model.specs.Legal.{IsIdle}
use Rattle.load_gen.specs.Jobs.{adds_of, deletes_of, queries_of}
use Rattle.load_laws.specs.Workers.{Fronts, HasParts, HaveMet}
use Rattle.load_laws.proofs.Answering.{shorter_begins}
use Rattle.load_laws.proofs.FrontLemmas.{calls_in_front, front_between, front_trans, idle_from_front, moved_in_front}

-- of two fronts of a history the shorter one begins the other
begins : (front longer history : List Event) → IsPrefix front history → IsPrefix longer history → length front ≤ length longer → IsPrefix front longer
begins front longer history first second within =
    let between = shorter_begins front first.0 longer second.0 (first.1 ∙ sym second.1) within in
    (between.0, sym between.1)

-- so one of the workers' fronts has all others as beginnings
record Longest (fronts : ℕ → List Event) (n : ℕ) : Type 0 where
  worker : ℕ
  below : worker < n
  longest : (other : ℕ) → other < n → IsPrefix (fronts other) (fronts worker)

longest_of : (fronts : ℕ → List Event) (n : ℕ) (history : List Event) → 0 < n → ((worker : ℕ) → worker < n → IsPrefix (fronts worker) history) →
    Longest fronts n
longest_of fronts zero history some seen = absurd (omega arith)
longest_of fronts (suc zero) history some seen = record {
  worker = 0;
  below = omega arith;
  longest = λ other below. subst (λ (k : ℕ). IsPrefix (fronts k) (fronts 0)) (let h : 0 ≡ other = omega arith in h) (prefix_refl (fronts 0));
}
longest_of fronts (suc (suc n)) history some seen =
    let before = longest_of fronts (suc n) history (omega arith) (λ worker below. seen worker (omega arith)) in
    let last = suc n in
    let is_seen = seen last (omega arith) in
    let in_range = before.below in
    let other_seen = seen before.worker (omega arith) in
    ⊎_elim
    (λ less. record {
      worker = before.worker;
      below = omega arith;
      longest = λ other below. ⊎_elim
          (λ lower. before.longest other lower)
          (λ same. subst (λ (k : ℕ). IsPrefix (fronts k) (fronts before.worker)) (let h : last ≡ other = omega arith in h)
          (begins (fronts last) (fronts before.worker) history is_seen other_seen (omega arith)))
          (cases_lt other last);
    })
    (λ more. record {
      worker = last;
      below = omega arith;
      longest = λ other below. ⊎_elim
          (λ lower. prefix_trans (fronts other) (fronts before.worker) (fronts last) (before.longest other lower)
          (begins (fronts before.worker) (fronts last) history other_seen is_seen more))
          (λ same. subst (λ (k : ℕ). IsPrefix (fronts k) (fronts last)) (let h : last ≡ other = omega arith in h) (prefix_refl (fronts last)))
          (cases_lt other last);
    })
    (cases_lt (length (fronts last)) (length (fronts before.worker)))

-- what a pass made after a front
made_after : (pass : ℕ) (front later whole : List Event) (calls more : List Call) → front ++ later ≡ whole → own pass front ≡ calls →
    own pass whole ≡ calls ++ more → own pass later ≡ more
made_after pass front later whole calls more is was becomes =
    append_cancel_left calls (own pass later) more
    (ap (λ cs. cs ++ own pass later) (sym was) ∙ sym (own-append pass front later) ∙ ap (own pass) is ∙ becomes)

-- workers that met what every other had seen after each part
module _ (texts : List (List ℕ)) (workers : ℕ) (history : List Event) (fronts : ℕ → Fronts) (met : HaveMet texts workers history fronts) where
  -- a worker made no event after its queries
  ended : (worker : ℕ) → worker < workers → IsFrontOf worker (fronts worker).queried history
  ended worker below =
      let keeps = met.keeps worker below in
      front_trans worker (fronts worker).queried (fronts worker).met_queried history keeps.meets_queries keeps.ends

  deleted_seen : (worker : ℕ) → worker < workers → IsPrefix (fronts worker).deleted history
  deleted_seen worker below =
      prefix_trans (fronts worker).deleted (fronts worker).queried history
      (prefix_trans (fronts worker).deleted (fronts worker).met_deleted (fronts worker).queried (met.met_deletes worker worker below below)
      (met.keeps worker below).goes_on_again) ((ended worker below).later, sym (ended worker below).whole)

  added_before : (worker : ℕ) → worker < workers → IsPrefix (fronts worker).added (fronts worker).deleted
  added_before worker below =
      prefix_trans (fronts worker).added (fronts worker).met_added (fronts worker).deleted (met.met_adds worker worker below below)
      (met.keeps worker below).goes_on

  added_seen : (worker : ℕ) → worker < workers → IsPrefix (fronts worker).added history
  added_seen worker below =
      prefix_trans (fronts worker).added (fronts worker).deleted history (added_before worker below) (deleted_seen worker below)

  -- the longest front after each part is where it ends: no worker made an event between its own front and this one
  module _ (first : Longest (λ worker. (fronts worker).added) workers) (second : Longest (λ worker. (fronts worker).deleted) workers) where
    abbrev all_added : List Event
    all_added = (fronts first.worker).added

    abbrev all_deleted : List Event
    all_deleted = (fronts second.worker).deleted

    adds_seen : (worker : ℕ) → worker < workers → IsFrontOf worker (fronts worker).added all_added
    adds_seen worker below =
        front_between worker (fronts worker).added all_added (fronts worker).met_added (met.keeps worker below).meets_adds
        (first.longest worker below) (met.met_adds worker first.worker below first.below)

    deletes_seen : (worker : ℕ) → worker < workers → IsFrontOf worker (fronts worker).deleted all_deleted
    deletes_seen worker below =
        front_between worker (fronts worker).deleted all_deleted (fronts worker).met_deleted (met.keeps worker below).meets_deletes
        (second.longest worker below) (met.met_deletes worker second.worker below second.below)

    adds_there : (worker : ℕ) → worker < workers → own worker all_added ≡ adds_of texts workers worker
    adds_there worker below = calls_in_front worker (fronts worker).added all_added (adds_seen worker below) ∙ (met.keeps worker below).adds

    deletes_there : (worker : ℕ) → worker < workers → own worker all_deleted ≡ adds_of texts workers worker ++ deletes_of texts workers worker
    deletes_there worker below =
        calls_in_front worker (fronts worker).deleted all_deleted (deletes_seen worker below) ∙ (met.keeps worker below).deletes

    between : IsPrefix all_added all_deleted
    between =
        prefix_trans all_added (fronts first.worker).deleted all_deleted (added_before first.worker first.below) (second.longest first.worker first.below)

    rest : IsPrefix all_deleted history
    rest = deleted_seen second.worker second.below

    parts_by : HasParts texts workers history
    parts_by = record {
      adding = all_added;
      deleting = between.0;
      querying = rest.0;
      whole = sym rest.1 ∙ ap (λ (h : List Event). h ++ rest.0) (sym between.1);
      adds = adds_there;
      idle_after_adds = λ worker below. idle_from_front worker (fronts worker).added all_added (adds_seen worker below)
          (met.keeps worker below).idle_after_adds;
      moved = λ worker below. (met.keeps worker below).moved ∙ sym (moved_in_front worker (fronts worker).added all_added (adds_seen worker below));
      deletes = λ worker below. made_after worker all_added between.0 all_deleted (adds_of texts workers worker) (deletes_of texts workers worker)
          between.1 (adds_there worker below) (deletes_there worker below);
      idle_after_deletes = λ worker below. subst (IsIdle worker) (sym between.1)
          (idle_from_front worker (fronts worker).deleted all_deleted (deletes_seen worker below) (met.keeps worker below).idle_after_deletes);
      queries = λ worker below. made_after worker all_deleted rest.0 history (adds_of texts workers worker ++ deletes_of texts workers worker)
          (queries_of workers worker) rest.1 (deletes_there worker below)
          (calls_in_front worker (fronts worker).queried history (ended worker below) ∙ (met.keeps worker below).queries);
    }

  -- no event comes after what a worker has seen that met the others at last
  seen_all : (worker : ℕ) → worker < workers → All (λ e. pass_of e < workers) history → (later : List Event) →
      history ≡ (fronts worker).met_queried ++ later → (fronts worker).met_queried ≡ history
  seen_all worker below no_other [] whole = sym (whole ∙ append-nil (fronts worker).met_queried)
  seen_all worker below no_other (e ∷ rest) whole =
      let there : Contains history e = subst (λ (h : List Event). Contains h e) (sym whole)
      (Contains-append_right (fronts worker).met_queried (e ∷ rest) e (0, omega arith, refl)) in
      let is_worker : pass_of e < workers = All-contains (λ (x : Event). pass_of x < workers) history e no_other there in
      let before = met.met_queries worker (pass_of e) below is_worker in
      let last = ended (pass_of e) is_worker in
      let later : last.later ≡ before.0 ++ e ∷ rest =
      append_cancel_left (fronts (pass_of e)).queried last.later (before.0 ++ e ∷ rest)
      (sym last.whole ∙ whole ∙ ap (λ (h : List Event). h ++ e ∷ rest) (sym before.1)
      ∙ append_assoc (fronts (pass_of e)).queried before.0 (e ∷ rest)) in
      let none = sym (list_any-append (λ x. pass_of x == pass_of e) before.0 (e ∷ rest)) ∙ ap (list_any (λ x. pass_of x == pass_of e)) (sym later) ∙ last.silent in
      let here = (or_parts (list_any (λ x. pass_of x == pass_of e) before.0) (list_any (λ x. pass_of x == pass_of e) (e ∷ rest)) none).1 in
      let itself : (pass_of e == pass_of e) ≡ false = (or_parts (pass_of e == pass_of e) (list_any (λ x. pass_of x == pass_of e) rest) here).0 in
      absurd (search (rules, itself))

pub met_all : (texts : List (List ℕ)) (workers : ℕ) (history : List Event) (fronts : ℕ → Fronts) → HaveMet texts workers history fronts →
    All (λ e. pass_of e < workers) history → (worker : ℕ) → worker < workers → (fronts worker).met_queried ≡ history
met_all texts workers history fronts met no_other worker below =
    let ends = (met.keeps worker below).ends in seen_all texts workers history fronts met worker below no_other ends.later ends.whole

pub parts_of_met : (texts : List (List ℕ)) (workers : ℕ) (history : List Event) (fronts : ℕ → Fronts) → 0 < workers →
    HaveMet texts workers history fronts → HasParts texts workers history
parts_of_met texts workers history fronts some met =
    parts_by texts workers history fronts met
    (longest_of (λ worker. (fronts worker).added) workers history some (added_seen texts workers history fronts met))
    (longest_of (λ worker. (fronts worker).deleted) workers history some (deleted_seen texts workers history fronts met))
