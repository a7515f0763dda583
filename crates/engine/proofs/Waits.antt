-- What an add came to that waited for slices that were being cleared.
use Rattle.std.proofs.Common.{◌≡◌, ℕ, zero, suc, ◌+◌, Bool, true, false, List, [], Option, refl, ◌∙◌, ⊎_elim, inl, inr, subst, append-nil, arith}
use Rattle.funnel_model.specs.declared.event.Event.{Event}
use Rattle.funnel_model.specs.History.{IsFrontOf}
use Rattle.funnel_model.specs.Legal.{IsFull, Limits}
use Rattle.funnel_model.specs.Slices.{is_clearing}
use Rattle.commit_desk.specs.Answers.{IsBeingCleared, events_of_take}
use Rattle.commit_desk.specs.declared.answers.AddFault.TheVariants as add
use Rattle.commit_desk.specs.declared.answers.Taken.{Taken}
use Rattle.commit_desk.specs.declared.answers.Taken.TheVariants as taken
use Rattle.slice_recycler.specs.Turns.{IsTurn}
use Rattle.slice_rule.specs.Pools.{PoolId}
use Rattle.engine.specs.Adds.{HasWaited, IsLookForRoom, IsOpenAgain, TakeTurns, TurnOfTake}
use Rattle.engine.proofs.Moves.{front_goes_on, front_refl}

module _ (pool : PoolId) (pass : ℕ) where
  abbrev limits : Limits
  limits = pool.limits

  -- one wait more
  one_more_wait : (waits : ℕ) (before full opened : List Event) (slice : ℕ) → HasWaited limits pass before full waits → IsFull limits full → IsBeingCleared limits full slice →
      IsFrontOf pass full opened → is_clearing slice opened ≡ false → HasWaited limits pass before opened (suc waits)
  one_more_wait zero before full opened slice seen is_full clearing later is_open =
      (opened, record { full = full; slice = slice; seen = seen; is_full = is_full; clearing = clearing; later = later; is_open = is_open }, front_refl pass opened)
  one_more_wait (suc waits) before full opened slice some is_full clearing later is_open =
      (some.0, some.1, one_more_wait waits some.0 full opened slice some.2 is_full clearing later is_open)

  -- an add that waited so often before each history that it may look at next
  abbrev pub WaitedBefore : List Event → List Event → Option ℕ → ℕ → Type 0
  WaitedBefore before seen awaited waits = (opened : List Event) → IsFrontOf pass seen opened → IsOpenAgain opened awaited → HasWaited limits pass before opened waits

  module _ (replaces : Bool) (id : ℕ) (waits : ℕ) (before seen after : List Event) (awaited : Option ℕ) (waited : WaitedBefore before seen awaited waits) where
    -- it waited once more where it is to wait
    pub waited_more : (last : Bool) (slice : ℕ) → IsTurn pass seen after (IsLookForRoom pool pass replaces id awaited last (taken.Wait slice)) [] →
        (opened : List Event) → IsFrontOf pass after opened → is_clearing slice opened ≡ false → HasWaited limits pass before opened (waits + 1)
    waited_more last slice turn opened later is_open =
        let next : suc waits ≡ waits + 1 = omega arith in
        let answers = turn.answer.look.answers in
        subst (HasWaited limits pass before opened) next
        (one_more_wait waits before turn.earlier opened slice (waited turn.earlier turn.seen turn.answer.is_open) answers.1 answers.2
        (subst (λ h. IsFrontOf pass h opened) (turn.made ∙ append-nil turn.earlier) later) is_open)

    -- and any other answer is that of the add
    pub take_turns : (text : List ℕ) (last : Bool) (answer : Taken) → IsFrontOf pass before seen → (last ≡ true → waits ≡ limits.passes) →
        ((slice : ℕ) → answer ≡ taken.Wait slice → last ≡ false → ⊥) → IsTurn pass seen after (IsLookForRoom pool pass replaces id awaited last answer) (events_of_take pass replaces id text answer) →
        TakeTurns limits pass replaces id text before after answer
    take_turns text last answer grows enough not_wait turn = of answer not_wait turn where
      took : (answer : Taken) → IsTurn pass seen after (IsLookForRoom pool pass replaces id awaited last answer) (events_of_take pass replaces id text answer) → TurnOfTake limits pass replaces id text before after answer
      took answer turn = record { earlier = turn.earlier; seen = front_goes_on pass before seen turn.earlier grows turn.seen; answer = turn.answer.look.answers; made = turn.made }

      of : (answer : Taken) → ((slice : ℕ) → answer ≡ taken.Wait slice → last ≡ false → ⊥) →
          IsTurn pass seen after (IsLookForRoom pool pass replaces id awaited last answer) (events_of_take pass replaces id text answer) → TakeTurns limits pass replaces id text before after answer
      of (taken.Claim claim layout) not_wait turn = took (taken.Claim claim layout) turn
      of (taken.Clear work layout) not_wait turn = took (taken.Clear work layout) turn
      of (taken.Wait slice) not_wait turn = not_wait slice refl turn.answer.look.waits
      of (taken.Refused (add.Present added)) not_wait turn = record { turn = took (taken.Refused (add.Present added)) turn; may = tt }
      of (taken.Refused (add.Full blocks)) not_wait turn = record {
        turn = took (taken.Refused (add.Full blocks)) turn;
        may = ⊎_elim
            (λ (is : last ≡ true). inr (subst (HasWaited limits pass before turn.earlier) (enough is) (waited turn.earlier turn.seen turn.answer.is_open)))
            (λ none. inl none)
            turn.answer.look.waits;
      }
      of (taken.Refused (add.Spent events)) not_wait turn = record { turn = took (taken.Refused (add.Spent events)) turn; may = tt }
      of (taken.Refused add.Memory) not_wait turn = record { turn = took (taken.Refused add.Memory) turn; may = tt }
