-- The events of a call, from its turns.
use Rattle.std.proofs.Common.{◌≡◌, ℕ, false, List, [], ◌∷◌, Result, Ok, Err, ⊎_elim, sym, ◌∙◌, append-nil}
use Rattle.std.specs.Prelude.{IfOk}
use Rattle.commit_desk.specs.declared.answers.AddFault.{AddFault}
use Rattle.commit_desk.specs.declared.answers.AddFault.TheVariants as add
use Rattle.engine.specs.Adds.{AddTurns, MovesFirst}
use Rattle.engine.specs.Finds.{FindTurns}
use Rattle.commit_desk.specs.declared.answers.FindFault.{FindFault}
use Rattle.engine.proofs.Moves.{all_moved, front_refl, none_moved_without_reserve, turn_from}
use Rattle.engine_tests.specs.Events.{EndsWith, EndsWithAdd, FindsBetween, Makes}
use Rattle.funnel_model.specs.declared.block.Block.{Block}
use Rattle.funnel_model.specs.declared.call.Call.TheVariants as call
use Rattle.funnel_model.specs.declared.config.Config.{Config}
use Rattle.funnel_model.specs.declared.event.Event.{Event}
use Rattle.funnel_model.specs.declared.event.Event.TheVariants as event
use Rattle.funnel_model.specs.Legal.{Limits}

pub ends_with_add : (config : Config) (limits : Limits) (pass id : ℕ) (text : List ℕ) (before after : List Event) (answer : Result ℕ AddFault) →
    AddTurns config limits pass id text before after answer → IfOk answer (λ _. EndsWithAdd config limits pass id text after)
ends_with_add config limits pass id text before after (Ok added) turns = record {
  claimed = turns.own.middle;
  earlier = turns.own.committed.earlier;
  seen = turns.own.committed.seen;
  claim = turns.own.claim;
  bits = turns.own.bits;
  of_text = turns.own.of_text;
  whole = turns.own.committed.made;
}
ends_with_add config limits pass id text before after (Err fault) turns = tt

-- an add that was refused as full ends with its refusal, and makes it alone where no column is to be kept free
module _ (config : Config) (limits : Limits) (pass id : ℕ) (text : List ℕ) (before after : List Event) (blocks : List Block) (turns : AddTurns config limits pass id text before after (Err (add.Full blocks))) where
  pub ends_with_refusal : EndsWith (event.No pass (call.Add id text)) after
  ends_with_refusal = (turns.own.turn.earlier, turns.own.turn.made)

  pub refuses_at_once : config.reserve ≡ 0 → Makes pass before after (event.No pass (call.Add id text) ∷ [])
  refuses_at_once none =
      let refusal = event.No pass (call.Add id text) ∷ [] in
      let turn = turn_from pass before turns.middle after refusal (none_moved_without_reserve config limits pass false id turns.moves.moves before turns.middle none (all_moved config limits pass false id before turns.middle turns.moves)) turns.own.turn in
      record { earlier = turn.earlier; others = turn.seen; whole = turn.made }

-- an add that found no memory makes no event, where no column is to be kept free
pub makes_none : (config : Config) (limits : Limits) (pass id : ℕ) (text : List ℕ) (before after : List Event) → config.reserve ≡ 0 → AddTurns config limits pass id text before after (Err add.Memory) →
    Makes pass before after []
makes_none config limits pass id text before after none turns =
    ⊎_elim (λ (same : before ≡ after). record { earlier = before; others = front_refl pass before; whole = sym same ∙ sym (append-nil before) })
    (λ (moved : MovesFirst config limits pass id text before after (Err add.Memory)).
    let turn = turn_from pass before moved.middle after [] (none_moved_without_reserve config limits pass false id moved.moves.moves before moved.middle none (all_moved config limits pass false id before moved.middle moved.moves)) moved.own in
    record { earlier = turn.earlier; others = turn.seen; whole = turn.made }) turns

pub finds_between : (limits : Limits) (pass : ℕ) (query : List ℕ) (before after : List Event) (answer : Result (List ℕ) FindFault) →
    FindTurns limits pass query before after answer → IfOk answer (FindsBetween pass before after query)
finds_between limits pass query before after (Ok ids) turns =
    let begun = turns.turns.begun in
    let ended = turns.turns.ended in
    record {
      events = record {
        middle = turns.turns.middle;
        begins = record { earlier = begun.earlier; others = begun.seen; whole = begun.made };
        ends = record { earlier = ended.earlier; others = ended.seen; whole = ended.made };
      };
      found = turns.found;
    }
finds_between limits pass query before after (Err fault) turns = tt
