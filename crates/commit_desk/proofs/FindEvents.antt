-- What the desk keeps, when a find begins and when it ends.
use Rattle.std.proofs.Common.{◌≡◌, false, ◌↔◌, ℕ, ◌+◌, ◌<◌, ◌≤◌, List, [], ◌∷◌, ◌++◌, length, set, Option, Some, None, refl, sym, ap, ◌∙◌, subst, arith, Contains}
use Rattle.std.specs.Option.{IfSome}
use Rattle.std.proofs.lemmas.List.{length-append}
use Rattle.funnel_model.specs.declared.claim.Token.{Token}
use Rattle.funnel_model.specs.declared.config.Config.{Config}
use Rattle.token_manager.specs.Guarding.{HasOpened}
use Rattle.funnel_model.specs.declared.event.Event.{Event}
use Rattle.funnel_model.specs.declared.event.Event.TheVariants as event
use Rattle.funnel_model.specs.Events.{commit_of, moves, next_after, tuning_of}
use Rattle.funnel_model.specs.History.{place}
use Rattle.funnel_model.specs.Legal.{Limits, IsAllowed, IsIdle, IsLegal, awaited}
use Rattle.funnel_model.specs.Slices.{ColumnState, IsInUse}
use Rattle.funnel_model.specs.Tokens.{HasToken}
use Rattle.funnel_model.proofs.CausedMoves.{caused-still}
use Rattle.funnel_model.proofs.ColumnStates.{after}
use Rattle.funnel_model.proofs.Histories.{legal-push}
use Rattle.funnel_model.proofs.LastEvents.{token_is_last}
use Rattle.funnel_model.proofs.NextEvents.{awaited-push}
use Rattle.row_layout.proofs.SoundHistories.{sound-push}
use Rattle.row_layout.specs.Sound.{HasItsBits}
use Rattle.slice_rule.specs.Pools.{PoolId}
use Rattle.slice_rule.specs.Seats.{HoldsToken, PassState}
use Rattle.commit_desk.specs.Kept.{AreTokens, Books, HasFew, IsDesk}
use Rattle.commit_desk.proofs.Few.{few-next, few-start}
use Rattle.commit_desk.proofs.Journals.{journal-silent}
use Rattle.commit_desk.proofs.LayoutEvents.{layouts-quiet}
use Rattle.commit_desk.proofs.Marks.{mark-end, mark-find, mark-same}
use Rattle.commit_desk.proofs.RecordsKept.{recorded-same}
use Rattle.commit_desk.proofs.StagesKept.{LeavesSlice, stages-same}
use Rattle.commit_desk.proofs.TokenEvents.{tokens-end, tokens-find}

-- an event that changes no document, no column and no slice, after which any other may come
pub record IsSilent (e : Event) : Type 0 where
  pub commit : commit_of e ≡ None
  pub leaves : (slice : ℕ) → LeavesSlice slice e
  pub stays : (slice column : ℕ) (history : List Event) (x : ColumnState) → after slice column history x e ≡ x
  pub bits : (config : Config) (history : List Event) → HasItsBits config history e
  pub tunes_none : tuning_of e ≡ None
  pub moves_none : moves e ≡ false
  pub awaits : next_after e ≡ None

pub silent_find : (pass : ℕ) (query : List ℕ) → IsSilent (event.Find pass query)
silent_find pass query = record {
  commit = refl;
  leaves = λ slice. record { takes = refl; clears = refl; opens = refl };
  stays = λ slice column history x. refl;
  bits = λ config history. tt;
  tunes_none = refl;
  moves_none = refl;
  awaits = refl;
}

pub silent_end : (pass : ℕ) → IsSilent (event.End pass)
silent_end pass = record {
  commit = refl;
  leaves = λ slice. record { takes = refl; clears = refl; opens = refl };
  stays = λ slice column history x. refl;
  bits = λ config history. tt;
  tunes_none = refl;
  moves_none = refl;
  awaits = refl;
}

-- what is kept after a silent event, with the tokens after it
module _ (pool : PoolId) (most : ℕ) (history : List Event) (books : Books) (is : IsDesk pool most history books) (e : Event) (allowed : IsAllowed pool.limits history e) (silent : IsSilent e) where
  pub desk-silent : (tokens : List (Option ℕ)) → HasFew most pool.limits.passes (history ++ e ∷ []) → AreTokens pool.limits (history ++ e ∷ []) tokens →
      ((pass number : ℕ) → HasOpened tokens pass number → books.stages.mark ≤ number) →
      IsDesk pool most (history ++ e ∷ []) (record books { events = length history + 1; tokens = tokens })
  desk-silent tokens few tokens_are none_before =
      let kept = is.kept in record {
        in_range = is.in_range;
        sizes = is.sizes;
        some = is.some;
        bounded = is.bounded;
        none_awaited = awaited-push history e ∙ silent.awaits;
        kept = record {
          few = few;
          legal = legal-push pool.limits history e kept.legal allowed;
          sound = sound-push pool.config history e kept.sound (silent.bits pool.config history);
          caused = caused-still history e kept.caused silent.moves_none;
          slices_are = kept.slices_are;
          columns_are = kept.columns_are;
          events_are = sym (length-append history (e ∷ []));
          journal_is = journal-silent pool.limits.commits history e books.journal silent.commit kept.journal_is;
          recorded = recorded-same pool.limits history e kept.legal allowed books.table silent.stays (λ slice. ((silent.leaves slice).opens, (silent.leaves slice).clears)) kept.recorded;
          listed = kept.listed;
          tokens_are = tokens_are;
          staged = record {
            count = kept.staged.count;
            columns_are = kept.staged.columns_are;
            each = stages-same pool.limits history books.table books.stages kept.legal kept.recorded kept.staged.count kept.staged.each e silent.leaves;
            mark_within = mark-same history e books.stages.mark kept.staged.mark_within;
            none_before = none_before;
          };
          layouts_are = layouts-quiet pool.config pool.limits.slices history e books.layouts silent.tunes_none (λ slice. (silent.leaves slice).clears) kept.layouts_are;
        };
      }

-- the same under other names
module _ (pool : PoolId) (most : ℕ) (history : List Event) (books : Books) (is : IsDesk pool most history books) (next : PoolId) (later : List Event) (events : ℕ) (tokens : List (Option ℕ)) (same_pool : next ≡ pool) where
  renamed : (e : Event) (after_it : List (Option ℕ)) → later ≡ history ++ e ∷ [] → events ≡ length later → tokens ≡ after_it →
      IsDesk pool most (history ++ e ∷ []) (record books { events = length history + 1; tokens = after_it }) →
      IsDesk next most later (record books { events = events; tokens = tokens })
  renamed e after_it grown count tokens_are desk =
      let events_are : events ≡ length history + 1 = count ∙ ap length grown ∙ length-append history (e ∷ []) in
      subst (λ (p : PoolId). IsDesk p most later (record books { events = events; tokens = tokens })) (sym same_pool)
      (subst (λ (h : List Event). IsDesk pool most h (record books { events = events; tokens = tokens })) (sym grown)
      (subst (λ (n : ℕ). IsDesk pool most (history ++ e ∷ []) (record books { events = n; tokens = tokens })) (sym events_are)
      (subst (λ (ts : List (Option ℕ)). IsDesk pool most (history ++ e ∷ []) (record books { events = length history + 1; tokens = ts })) (sym tokens_are) desk)))

  -- a find begins
  pub desk-find : (pass : ℕ) (query : List ℕ) → IsAllowed pool.limits history (event.Find pass query) → length history < most →
      later ≡ history ++ event.Find pass query ∷ [] → events ≡ length later → tokens ≡ set books.tokens pass (Some events) →
      IsDesk next most later (record books { events = events; tokens = tokens })
  desk-find pass query allowed below grown count tokens_are =
      let e = event.Find pass query in
      let kept = is.kept in
      let events_are : events ≡ length history + 1 = count ∙ ap length grown ∙ length-append history (e ∷ []) in
      let after_it = set books.tokens pass (Some (length history + 1)) in
      renamed e after_it grown count (tokens_are ∙ ap (λ n. set books.tokens pass (Some n)) events_are)
      (desk-silent pool most history books is e allowed (silent_find pass query) after_it (few-start most pool.limits.passes history e below)
      (tokens-find pool.limits history pass query books.tokens allowed.pass kept.tokens_are)
      (mark-find books.tokens pass books.stages.mark (length history) (let c = kept.tokens_are.count in let p = allowed.pass in omega arith) kept.staged.mark_within kept.staged.none_before))

  -- a find ends
  pub desk-end : (pass : ℕ) → IsAllowed pool.limits history (event.End pass) → later ≡ history ++ event.End pass ∷ [] → events ≡ length later → tokens ≡ set books.tokens pass None →
      IsDesk next most later (record books { events = events; tokens = tokens })
  desk-end pass allowed grown count tokens_are =
      let e = event.End pass in
      let kept = is.kept in
      renamed e (set books.tokens pass None) grown count tokens_are
      (desk-silent pool most history books is e allowed (silent_end pass) (set books.tokens pass None)
      (few-next most pool.limits.passes history e (event.Find pass allowed.rule.query) kept.few allowed.pass allowed.rule.begun (omega arith))
      (tokens-end pool.limits history pass books.tokens allowed.pass kept.tokens_are)
      (mark-end books.tokens pass books.stages.mark (let c = kept.tokens_are.count in let p = allowed.pass in omega arith) kept.staged.none_before))

-- a pass that begins a find holds its token
pub token_held : (seat : PassState) (history : List Event) (query : List ℕ) (token : Token) → seat.front ≡ history ++ event.Find seat.number query ∷ [] → token.opened_at ≡ length history + 1 →
    token.place ≡ place history → ((slice : ℕ) → Contains token.slices slice ↔ ((slice < seat.pool.limits.slices) × IsInUse seat.pool.limits.columns slice history)) →
    HoldsToken seat token
token_held seat history query token front number at_place slices = record {
  begun = record { earlier = history; query = query; later = []; whole = front; count = number; stays = refl };
  at_place = at_place;
  slices = slices;
}

-- a pass may end the find of which it has the token
pub end_allowed : (limits : Limits) (history : List Event) (pass number : ℕ) → IsLegal limits history → awaited history ≡ None → pass < limits.passes → HasToken history pass number →
    IsAllowed limits history (event.End pass)
end_allowed limits history pass number legal none in' token =
    let last = token_is_last limits history pass number legal token in record {
      pass = in';
      at_once = subst (λ o. IfSome o (λ next. event.End pass ≡ next)) (sym none) tt;
      rule = record { query = last.0; begun = last.1 };
    }

-- an idle pass may begin one
pub find_allowed : (limits : Limits) (history : List Event) (pass : ℕ) (query : List ℕ) → awaited history ≡ None → pass < limits.passes → IsIdle pass history →
    IsAllowed limits history (event.Find pass query)
find_allowed limits history pass query none in' idle = record {
  pass = in';
  at_once = subst (λ o. IfSome o (λ next. event.Find pass query ≡ next)) (sym none) tt;
  rule = idle;
}
