-- Engines of one pass: no other makes events, so it has seen the whole history, and between its calls no slice is being cleared.
use Rattle.std.proofs.Common.{◌≡◌, ℕ, ◌*◌, ◌<◌, ◌≤◌, ◌++◌, refl, Bool, false, List, [], ◌∷◌, Option, Some, None, ap, sym, subst, ◌∙◌, append-nil, arith}
use Rattle.std.proofs.lemmas.Bool.{eqb-false, or_parts}
use Rattle.std.proofs.lemmas.List.Elements.{All-weaker}
use Rattle.std.specs.List.{All, list_any}
use Rattle.std.specs.Prelude.{◌==◌}
use Rattle.funnel_model.specs.declared.event.Event.{Event}
use Rattle.funnel_model.specs.Events.{pass_of}
use Rattle.funnel_model.specs.History.{IsFrontOf}
use Rattle.funnel_model.specs.Legal.{IsIdle, IsLegal, Limits}
use Rattle.funnel_model.proofs.Histories.{allowed_within, legal_before}
use Rattle.funnel_model.proofs.Invariants.{passes_in_range}
use Rattle.funnel_model.proofs.LastEvents.{nothing_clears}
use Rattle.commit_desk.specs.Answers.{AnswersLastTake, events_of_take}
use Rattle.commit_desk.specs.declared.answers.Taken.{Taken}
use Rattle.commit_desk.specs.Desks.{DeskState, HandsBackWith, Makes}
use Rattle.slice_recycler.specs.Turns.{IsTurn}
use Rattle.slice_rule.specs.Pools.{PoolId}
use Rattle.slice_rule.specs.Seats.{PassState}
use Rattle.engine.specs.Adds.{IsLookForRoom, IsOpenAgain}
use Rattle.engine.specs.Passes.{PassView, view_of}
use Rattle.engine.specs.Solos.{with_one_pass}
use Rattle.funnel_model.specs.Configuration.{IsValid}
use Rattle.funnel_model.specs.declared.config.Config.{Config}
use Rattle.funnel_model.specs.declared.config.TheConstants.{MOST_ROW_WORDS}
use Rattle.funnel_model.specs.Sizes.{base_of_rank, bits_at_rank, bits_of_entry, private_words, ranked_rows, shared_rows, shared_words, wanted_rows, words_of_slice}

module _ (limits : Limits) (one : limits.passes ≡ 1) where
  -- each event is its pass's
  pub sole_events : (history : List Event) → IsLegal limits history → All (λ e. pass_of e ≡ 0) history
  sole_events history legal =
      All-weaker (λ e. pass_of e < limits.passes) (λ e. pass_of e ≡ 0) (λ e low. omega (arith, low, one)) history (passes_in_range limits history legal)

  -- it has seen each
  pub sole_front : (front history : List Event) → IsLegal limits history → IsFrontOf 0 front history → history ≡ front
  sole_front front history legal seen = of seen.later seen.whole seen.silent where
    of : (later : List Event) → history ≡ front ++ later → list_any (λ e. pass_of e == 0) later ≡ false → history ≡ front
    of [] whole silent = whole ∙ append-nil front
    of (e ∷ later) whole silent =
        let low = (allowed_within limits history front e later legal whole).pass in
        let parts = or_parts (pass_of e == 0) (list_any (λ x. pass_of x == 0) later) silent in
        absurd (eqb-false (pass_of e) 0 parts.0 (omega (arith, low, one)))

  -- where it isn't in the middle of a call, no slice is being cleared
  pub none_awaited : (history : List Event) → IsLegal limits history → IsIdle 0 history → (awaited : Option ℕ) → IsOpenAgain history awaited
  none_awaited history legal idle None = tt
  none_awaited history legal idle (Some slice) = nothing_clears limits 0 slice history legal (sole_events history legal) idle

-- so it has nothing to wait for when it looks for room
pub sole_look : (pool : PoolId) (before after : DeskState) (seat next : PassState) → before.pool ≡ pool → before.events_limit ≡ pool.limits.events → pool.limits.passes ≡ 1 →
    seat.number < pool.limits.passes → IsIdle seat.number seat.front → (replaces : Bool) (id : ℕ) (text : List ℕ) (awaited : Option ℕ) (last : Bool) (answer : Taken) →
    AnswersLastTake before.events_limit before.pool.limits before.history seat.number replaces id last answer → HandsBackWith before.pool before.history answer →
    Makes (events_of_take seat.number replaces id text answer) before after seat next →
    IsTurn seat.number seat.front next.front (IsLookForRoom pool seat.number replaces id awaited last answer) (events_of_take seat.number replaces id text answer)
sole_look pool before after seat next at limit one low idle replaces id text awaited last answer answers old made =
    let is : seat.number ≡ 0 = omega (arith, low, one) in
    let events = events_of_take seat.number replaces id text answer in
    let legal_after : IsLegal pool.limits (before.history ++ events) =
    subst (IsLegal pool.limits) made.history (subst (λ (p : PoolId). IsLegal p.limits after.history) (made.pool ∙ at) made.legal) in
    let legal = legal_before pool.limits before.history events legal_after in
    let seen : before.history ≡ seat.front = sole_front pool.limits one seat.front before.history legal (subst (λ n. IsFrontOf n seat.front before.history) is made.seen) in
    record {
      earlier = before.history;
      seen = made.seen;
      answer = record {
        is_open = none_awaited pool.limits one before.history legal (subst (IsIdle 0) (sym seen) (subst (λ n. IsIdle n seat.front) is idle)) awaited;
        look = subst (λ (p : PoolId). AnswersLastTake pool.limits.events p.limits before.history seat.number replaces id last answer) at
            (subst (λ n. AnswersLastTake n before.pool.limits before.history seat.number replaces id last answer) limit answers);
        old = subst (λ (p : PoolId). HandsBackWith p before.history answer) at old;
      };
      made = made.front ∙ made.history;
    }

-- what its seat tells of it
pub sole_view : (seat : PassState) → seat.number ≡ 0 → view_of seat ≡ record { number = 0; front = seat.front }
sole_view seat is = ap (λ (n : ℕ). record { number = n; front = seat.front }) is

-- what a call makes of what its seat told is what it makes of the pass with the number 0
pub sole_call : (P : PassView → PassView → Type 0) (seat next : PassState) → seat.number ≡ 0 → next.number ≡ seat.number → P (view_of seat) (view_of next) →
    P (record { number = 0; front = seat.front }) (record { number = 0; front = next.front })
sole_call P seat next is same made =
    subst (λ (v : PassView). P v (record { number = 0; front = next.front })) (sole_view seat is)
    (subst (P (view_of seat)) (sole_view next (same ∙ is)) made)

-- A slice has as many row words with one pass as with several.
pub same_words : (config : Config) → words_of_slice (with_one_pass config) ≡ words_of_slice config
unfolding base_of_rank private_words shared_words shared_rows wanted_rows bits_at_rank bits_of_entry ranked_rows
same_words config = refl

-- so a configuration is valid with one pass too
pub valid_alone : (config : Config) → IsValid config → IsValid (with_one_pass config)
valid_alone config is =
    let range = is.in_range in
    record {
      in_range = record {
        passes = (omega arith, omega arith);
        slices = range.slices;
        blocks = range.blocks;
        max_rank = range.max_rank;
        commits = range.commits;
        reserve = range.reserve;
        one_in = range.one_in;
        snr = range.snr;
        documents = range.documents;
        tail = range.tail;
        max_rows = range.max_rows;
        private = range.private;
        words = record { few = range.words.few; counted = range.words.counted };
      };
      in_order = is.in_order;
      folded = is.folded;
      few_columns = is.few_columns;
      small_pool = subst (λ n. config.slices * n ≤ MOST_ROW_WORDS) (sym (same_words config)) is.small_pool;
    }
