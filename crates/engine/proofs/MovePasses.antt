-- Where a pass stands between the turns of a move.
use Rattle.std.proofs.Common.{◌≡◌, ◌↔◌, ℕ, ◌<◌, ◌≤◌, Bool, IsTrue, List, [], ◌∷◌, length, Option, Some, None, Result, Ok, Err, ap, ◌∙◌, subst, arith, ⊎_elim}
use Rattle.std.proofs.lemmas.Bool.{cases_lt}
use Rattle.std.proofs.lemmas.List.{get_or_past, get_or-set_same, length-set}
use Rattle.document_store.specs.Documents.{Parts}
use Rattle.funnel_model.specs.declared.bit_list.Bit.{Bit}
use Rattle.funnel_model.specs.declared.config.Config.{Config}
use Rattle.funnel_model.specs.declared.event.Event.{Event}
use Rattle.funnel_model.specs.declared.event.Event.TheVariants as event
use Rattle.funnel_model.specs.declared.memory.Memory.{Memory}
use Rattle.funnel_model.specs.History.{IsFrontOf}
use Rattle.funnel_model.specs.Legal.{Limits}
use Rattle.slice_rule.specs.Pools.{PoolId}
use Rattle.slice_rule.specs.Seats.{PassState}
use Rattle.commit_desk.specs.declared.look.Look.{Look}
use Rattle.commit_desk.specs.declared.answers.NotTaken.TheVariants as untaken
use Rattle.commit_desk.specs.declared.answers.TakenMove.{TakenMove}
use Rattle.commit_desk.specs.Desks.{DeskState, Makes}
use Rattle.commit_desk.specs.Moving.{AnswersLook, AnswersTakeMove, IsThereStill, LooksState, MayTakeFor, SomeToBeMoved, event_of_move, with_look}
use Rattle.slice_recycler.specs.Turns.{IsTurn}
use Rattle.slice_recycler.proofs.Steps.{turn_as}
use Rattle.engine.proofs.Moves.{front_refl}
use Rattle.engine.specs.Moves.{AreBitsAt, AreLooksOfOthers, IsLookForMove, IsToBeMoved, LacksMemory, LooksInVain, MoveTurns}

-- the looks of the others, where the pass's own is left out
pub looks_of_others : (limits : Limits) (pass : ℕ) (looks : LooksState) → length looks ≡ limits.passes → AreLooksOfOthers limits pass (with_look looks pass None)
looks_of_others limits pass looks each = record {
  each_pass = length-set looks pass None ∙ each;
  own = ⊎_elim
      (λ (within : pass < length looks). get_or-set_same looks pass None None within)
      (λ (past : length looks ≤ pass). get_or_past (with_look looks pass None) pass None (omega (arith, past, length-set looks pass None)))
      (cases_lt pass (length looks));
}

-- what the desk answers a look of a pass, told of the engine's pool
pub looked_for : (pool : PoolId) (before after : DeskState) (seat next : PassState) (looks : LooksState) (reserve : ℕ) (replaces : Bool) (id : ℕ) (answer : Result (Option Look) Memory) → before.pool ≡ pool →
    before.events_limit ≡ before.pool.limits.events → length looks ≡ before.pool.limits.passes →
    AnswersLook reserve before.events_limit before.pool.limits (with_look looks seat.number None) before.history seat.number replaces id answer → Makes [] before after seat next →
    IsTurn seat.number seat.front next.front (IsLookForMove reserve pool.limits seat.number replaces id answer) []
looked_for pool before after seat next looks reserve replaces id answer of most each answers made =
    let limits = before.pool.limits in
    let others = with_look looks seat.number None in
    subst (λ (p : PoolId). IsTurn seat.number seat.front next.front (IsLookForMove reserve p.limits seat.number replaces id answer) []) of
    (record {
      earlier = before.history;
      seen = made.seen;
      answer = record {
        looks = others;
        of_others = looks_of_others limits seat.number looks each;
        answers = subst (λ n. AnswersLook reserve n limits others before.history seat.number replaces id answer) most answers;
      };
      made = made.front ∙ made.history;
    })

-- the document that the desk names is to be moved, in the turn in which it was looked at
turn_of_look : (reserve : ℕ) (limits : Limits) (pass : ℕ) (replaces : Bool) (id : ℕ) (look : Look) (before after : List Event) → IsTurn pass before after (IsLookForMove reserve limits pass replaces id (Ok (Some look))) [] →
    IsTurn pass before after (λ history. IsToBeMoved reserve limits history pass replaces id look) []
turn_of_look reserve limits pass replaces id look before after =
    turn_as pass before after [] (λ history looked. record { looks = looked.looks; of_others = looked.of_others; at_next = looked.answers.0 })

-- so some document is
turn_of_one : (reserve : ℕ) (limits : Limits) (pass : ℕ) (replaces : Bool) (id : ℕ) (look : Look) (before after : List Event) → IsTurn pass before after (IsLookForMove reserve limits pass replaces id (Ok (Some look))) [] →
    IsTurn pass before after (λ history. SomeToBeMoved reserve limits.events limits history replaces id) []
turn_of_one reserve limits pass replaces id look before after =
    turn_as pass before after [] (λ history looked. let next = looked.answers.0 in (look.slice, next.held, next.empties))

module _ (config : Config) (limits : Limits) (pass : ℕ) (replaces : Bool) (id : ℕ) (before : List Event) where
  -- a look for which there was no memory ends the moves
  pub lacks_memory : (after : List Event) (memory : Memory) → IsTurn pass before after (IsLookForMove config.reserve limits pass replaces id (Err memory)) [] → LacksMemory config limits pass replaces id before after
  lacks_memory after memory turn = record {
    seen = after;
    looked = turn_as pass before after [] (λ history looked. looked.answers) turn;
    later = front_refl pass after;
  }

  module _ (seen : List Event) (look : Look) (looked : IsTurn pass before seen (IsLookForMove config.reserve limits pass replaces id (Ok (Some look))) []) where
    -- so does one for whose document there was none later
    pub lacks_later : (after : List Event) → IsFrontOf pass seen after → LacksMemory config limits pass replaces id before after
    lacks_later after later = record { seen = seen; looked = turn_of_one config.reserve limits pass replaces id look before seen looked; later = later }

    -- and one for which no column was claimed
    pub looks_in_vain : (after : List Event) (doc : Parts) → IsTurn pass seen after (λ history. AnswersTakeMove limits.events limits history pass look (Err (untaken.NoColumn doc))) [] →
        LooksInVain config limits pass replaces id before after
    looks_in_vain after doc turn = record {
      look = look;
      seen = seen;
      looked = turn_of_look config.reserve limits pass replaces id look before seen looked;
      none = turn_as pass seen after [] (λ history none. none.0) turn;
    }

-- The turns of a move whose pass wrote the bits before the last one.
module _ (config : Config) (limits : Limits) (pass : ℕ) (replaces : Bool) (id : ℕ) (before after : List Event) (look : Look) (taken : TakenMove) (bits : List Bit) (moved : Bool) (seen took wrote : PassState) where
  pub move_turns : IsTurn pass before seen.front (IsLookForMove config.reserve limits pass replaces id (Ok (Some look))) [] → seen.number ≡ pass →
      IsTurn seen.number seen.front took.front (λ history. AnswersTakeMove limits.events limits history seen.number look (Ok taken)) (event.Take seen.number taken.claim.slice taken.claim.column ∷ []) →
      taken.look ≡ look → took.number ≡ seen.number → wrote ≡ record took { own = wrote.own } → AreBitsAt config limits wrote.front look.doc.text taken.claim bits →
      IsTurn wrote.number wrote.front after (λ history. IsTrue moved ↔ IsThereStill history taken.look) (event_of_move wrote.number taken.look taken.claim bits moved ∷ []) →
      MoveTurns config limits pass replaces id before after
  move_turns looked number takes same next is of_text ended = record {
    look = look;
    claim = taken.claim;
    bits = bits;
    moved = moved;
    seen = seen.front;
    middle = took.front;
    looked = turn_of_look config.reserve limits pass replaces id look before seen.front looked;
    took =
        subst (λ (n : ℕ). IsTurn n seen.front took.front (λ history. MayTakeFor limits.events limits history n look taken.claim.slice taken.claim.column) (event.Take n taken.claim.slice taken.claim.column ∷ [])) number
        (turn_as seen.number seen.front took.front (event.Take seen.number taken.claim.slice taken.claim.column ∷ []) (λ history answer. answer.0) takes);
    of_text = subst (λ (h : List Event). AreBitsAt config limits h look.doc.text taken.claim bits) (ap (λ (p : PassState). p.front) is) of_text;
    ended = subst (λ (k : Look). IsTurn pass took.front after (λ history. IsTrue moved ↔ IsThereStill history k) (event_of_move pass k taken.claim bits moved ∷ [])) same
        (subst (λ (n : ℕ). IsTurn n took.front after (λ history. IsTrue moved ↔ IsThereStill history taken.look) (event_of_move n taken.look taken.claim bits moved ∷ [])) (next ∙ number)
        (subst (λ (p : PassState). IsTurn p.number p.front after (λ history. IsTrue moved ↔ IsThereStill history taken.look) (event_of_move p.number taken.look taken.claim bits moved ∷ [])) is ended));
  }
