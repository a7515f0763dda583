-- What the desk keeps with a refusal or a read.
use Rattle.std.proofs.Common.{◌≡◌, ℕ, ◌+◌, ◌<◌, false, List, [], ◌∷◌, ◌++◌, length, None, sym, refl, ap, ◌∙◌, subst, length-append}
use Rattle.funnel_model.specs.declared.event.Event.{Event}
use Rattle.funnel_model.specs.declared.event.Event.TheVariants as event
use Rattle.funnel_model.specs.Events.{finds_or_ends, pass_of}
use Rattle.funnel_model.specs.Legal.{IsAllowed, MayFollow, awaited}
use Rattle.funnel_model.proofs.Progress.{allowed_by}
use Rattle.slice_rule.specs.Pools.{PoolId}
use Rattle.commit_desk.specs.Desks.{DeskState}
use Rattle.commit_desk.specs.Kept.{Books, IsDesk, IsPlain}
use Rattle.commit_desk.proofs.Few.{few-start}
use Rattle.commit_desk.proofs.FindEvents.{IsSilent, desk-silent}
use Rattle.commit_desk.proofs.TokenEvents.{tokens-same}

-- a refusal or a read is silent, and begins and ends no find
pub silent_plain : (e : Event) → IsPlain e → IsSilent e
silent_plain (event.No pass asked) plain = record {
  commit = refl;
  leaves = λ slice. record { takes = refl; clears = refl; opens = refl };
  stays = λ slice column history x. refl;
  bits = λ config history. tt;
  tunes_none = refl;
  moves_none = refl;
  awaits = refl;
}
silent_plain (event.Read pass asked) plain = record {
  commit = refl;
  leaves = λ slice. record { takes = refl; clears = refl; opens = refl };
  stays = λ slice column history x. refl;
  bits = λ config history. tt;
  tunes_none = refl;
  moves_none = refl;
  awaits = refl;
}
silent_plain (event.Take pass slice column) plain = absurd plain
silent_plain (event.Add pass id text slice column bits) plain = absurd plain
silent_plain (event.Drop pass id text slice column) plain = absurd plain
silent_plain (event.Del pass id) plain = absurd plain
silent_plain (event.Move pass id slice column bits) plain = absurd plain
silent_plain (event.Void pass slice column) plain = absurd plain
silent_plain (event.Tune pass config) plain = absurd plain
silent_plain (event.Find pass query) plain = absurd plain
silent_plain (event.End pass) plain = absurd plain
silent_plain (event.Clear pass slice) plain = absurd plain
silent_plain (event.Opened pass slice alone) plain = absurd plain

finds_none : (e : Event) → IsPlain e → (pass : ℕ) → finds_or_ends pass e ≡ false
finds_none (event.No by asked) plain pass = refl
finds_none (event.Read by asked) plain pass = refl
finds_none (event.Take by slice column) plain pass = absurd plain
finds_none (event.Add by id text slice column bits) plain pass = absurd plain
finds_none (event.Drop by id text slice column) plain pass = absurd plain
finds_none (event.Del by id) plain pass = absurd plain
finds_none (event.Move by id slice column bits) plain pass = absurd plain
finds_none (event.Void by slice column) plain pass = absurd plain
finds_none (event.Tune by config) plain pass = absurd plain
finds_none (event.Find by query) plain pass = absurd plain
finds_none (event.End by) plain pass = absurd plain
finds_none (event.Clear by slice) plain pass = absurd plain
finds_none (event.Opened by slice alone) plain pass = absurd plain

-- the desk after such an event, under the names that a call has for it
pub desk-plain : (pool next : PoolId) (most : ℕ) (history later : List Event) (books : Books) (events : ℕ) (e : Event) → IsDesk pool most history books → IsPlain e →
    IsAllowed pool.limits history e → length history < most → next ≡ pool → later ≡ history ++ e ∷ [] → events ≡ length later → IsDesk next most later (record books { events = events })
desk-plain pool next most history later books events e is plain allowed below same_pool grown count =
    let events_are : events ≡ length history + 1 = count ∙ ap length grown ∙ length-append history (e ∷ []) in
    let kept = is.kept in
    let desk = desk-silent pool most history books is e allowed (silent_plain e plain) books.tokens (few-start most pool.limits.passes history e below)
    (tokens-same pool.limits history e books.tokens (finds_none e plain) kept.tokens_are) kept.staged.none_before in
    subst (λ (p : PoolId). IsDesk p most later (record books { events = events })) (sym same_pool)
    (subst (λ (h : List Event). IsDesk pool most h (record books { events = events })) (sym grown)
    (subst (λ (n : ℕ). IsDesk pool most (history ++ e ∷ []) (record books { events = n })) (sym events_are) desk))

-- an event of a pass that caught up is allowed where its rule holds
pub allowed_now : (desk now : DeskState) (number : ℕ) (e : Event) → desk ≡ now → awaited desk.history ≡ None → number < now.pool.limits.passes → pass_of e ≡ number →
    MayFollow now.pool.limits now.history e → IsAllowed desk.pool.limits desk.history e
allowed_now desk now number e view none in' own may =
    allowed_by desk.pool.limits desk.history e
    (subst (λ n. n < desk.pool.limits.passes) (sym own) (subst (λ (d : DeskState). number < d.pool.limits.passes) (sym view) in')) none
    (subst (λ (d : DeskState). MayFollow d.pool.limits d.history e) (sym view) may)
