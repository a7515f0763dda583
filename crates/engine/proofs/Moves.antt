-- The turns of moves: what they do to the front of their pass.
use Rattle.std.proofs.Common.{◌≡◌, ℕ, zero, suc, ◌+◌, ◌≤◌, Bool, true, false, ◌==◌, ◌&&◌, cond, List, [], ◌∷◌, ◌++◌, length, refl, sym, ap, ◌∙◌, ⊎_elim, subst, append-nil, append_assoc, arith}
use Rattle.std.proofs.lemmas.Bool.{or_from}
use Rattle.std.proofs.lemmas.List.{length-append}
use Rattle.std.proofs.lemmas.List.Folds.{list_any-append}
use Rattle.std.specs.List.{list_any}
use Rattle.funnel_model.specs.declared.bit_list.Bit.{Bit}
use Rattle.funnel_model.specs.declared.claim.Claim.{Claim}
use Rattle.funnel_model.specs.declared.config.Config.{Config}
use Rattle.funnel_model.specs.declared.event.Event.{Event}
use Rattle.funnel_model.specs.declared.event.Event.TheVariants as event
use Rattle.funnel_model.specs.Events.{moves, pass_of}
use Rattle.funnel_model.specs.History.{IsFrontOf, moved_by, own}
use Rattle.funnel_model.specs.Legal.{Limits}
use Rattle.funnel_model.proofs.Moved.{moved_by-push}
use Rattle.commit_desk.specs.declared.look.Look.{Look}
use Rattle.commit_desk.specs.Moving.{event_of_move}
use Rattle.slice_recycler.specs.Turns.{IsTurn}
use Rattle.slice_recycler.proofs.Steps.{IsQuiet, own-unanswered, quiet_front, quiet_trans, quiet_turn, quiet_weaker}
use Rattle.engine.specs.Moves.{MoveTurns, MovesAll, MovesNone, SomeMoves}

-- a front is one of itself, and of what goes on from it
pub front_refl : (pass : ℕ) (front : List Event) → IsFrontOf pass front front
front_refl pass front = record { later = []; whole = sym (append-nil front); silent = refl }

pub front_goes_on : (pass : ℕ) (front middle history : List Event) → IsFrontOf pass front middle → IsFrontOf pass middle history → IsFrontOf pass front history
front_goes_on pass front middle history first second = record {
  later = first.later ++ second.later;
  whole = second.whole ∙ ap (λ (h : List Event). h ++ second.later) first.whole ∙ append_assoc front first.later second.later;
  silent =
      list_any-append (λ e. pass_of e == pass) first.later second.later
      ∙ or_from (list_any (λ e. pass_of e == pass) first.later) (list_any (λ e. pass_of e == pass) second.later) first.silent second.silent;
}

-- the history that the desk has is no shorter than what the pass had seen
pub no_shorter : (pass : ℕ) (before earlier : List Event) → IsFrontOf pass before earlier → length before ≤ length earlier
no_shorter pass before earlier seen = omega (arith, ap length seen.whole, length-append before seen.later)

-- a turn from what the pass had seen is one from what it had seen before
pub turn_from : {answers : List Event → Type 0} (pass : ℕ) (before middle after events : List Event) → IsFrontOf pass before middle → IsTurn pass middle after answers events → IsTurn pass before after answers events
turn_from pass before middle after events seen turn = record {
  earlier = turn.earlier;
  seen = front_goes_on pass before middle turn.earlier seen turn.seen;
  answer = turn.answer;
  made = turn.made;
}

-- after a turn without an event the history has gone on
pub silent_turn : {answers : List Event → Type 0} (pass : ℕ) (before after : List Event) → IsTurn pass before after answers [] → IsFrontOf pass before after
silent_turn pass before after turn = record {
  later = turn.seen.later;
  whole = turn.made ∙ append-nil turn.earlier ∙ turn.seen.whole;
  silent = turn.seen.silent;
}

-- one event moves at most one document
moved_once : (pass : ℕ) (e : Event) → moved_by pass (e ∷ []) ≤ 1
moved_once pass e = omega (arith, moved_by-push pass [] e, at_most_one (pass_of e == pass && moves e)) where
  at_most_one : (b : Bool) → cond b 1 0 ≤ 1
  at_most_one true = omega arith
  at_most_one false = omega arith

module _ (config : Config) (limits : Limits) (pass : ℕ) (replaces : Bool) (id : ℕ) where
  move_from : (before middle after : List Event) → IsFrontOf pass before middle → MoveTurns config limits pass replaces id middle after → MoveTurns config limits pass replaces id before after
  move_from before middle after seen move = record {
    look = move.look;
    claim = move.claim;
    bits = move.bits;
    moved = move.moved;
    seen = move.seen;
    middle = move.middle;
    looked = turn_from pass before middle move.seen [] seen move.looked;
    took = move.took;
    of_text = move.of_text;
    ended = move.ended;
  }

  next_move : (moves : ℕ) (before middle after : List Event) → SomeMoves config limits pass replaces id before middle moves → MoveTurns config limits pass replaces id middle after →
      SomeMoves config limits pass replaces id before after (suc moves)
  next_move zero before middle after seen move = (after, move_from before middle after seen move, front_refl pass after)
  next_move (suc moves) before middle after some move = (some.0, some.1, next_move moves some.0 middle after some.2 move)

  -- one more move
  pub one_more : (moves : ℕ) (before middle after : List Event) → SomeMoves config limits pass replaces id before middle moves → MoveTurns config limits pass replaces id middle after →
      SomeMoves config limits pass replaces id before after (moves + 1)
  one_more moves before middle after some move =
      let next : suc moves ≡ moves + 1 = omega arith in
      subst (SomeMoves config limits pass replaces id before after) next (next_move moves before middle after some move)

  -- after the last one the history may go on

  pub moves_go_on : (moves : ℕ) (before middle after : List Event) → SomeMoves config limits pass replaces id before middle moves → IsFrontOf pass middle after →
      SomeMoves config limits pass replaces id before after moves
  moves_go_on zero before middle after seen more = front_goes_on pass before middle after seen more
  moves_go_on (suc moves) before middle after some more = (some.0, some.1, moves_go_on moves some.0 middle after some.2 more)

  -- what keeps a pass from one move more makes no event
  none_goes_on : (before after : List Event) → MovesNone config limits pass replaces id before after → IsFrontOf pass before after
  none_goes_on before after none = ⊎_elim
      (λ looked. silent_turn pass before after looked)
      (λ vain. front_goes_on pass before vain.seen after (silent_turn pass before vain.seen vain.looked) (silent_turn pass vain.seen after vain.none))
      none

  -- the moves of an add
  pub all_moved : (before after : List Event) (all : MovesAll config limits pass replaces id before after) → SomeMoves config limits pass replaces id before after all.moves
  all_moved before after all =
      moves_go_on all.moves before all.last after all.moved (⊎_elim (λ most. most.1)
      (λ rest. ⊎_elim (λ none. none_goes_on all.last after none)
      (λ lacks. front_goes_on pass all.last lacks.seen after (silent_turn pass all.last lacks.seen lacks.looked) lacks.later)
      rest)
      all.ended)

  -- the turn that ends a move answers nothing
  ended_quietly : {answers : List Event → Type 0} (middle after : List Event) (look : Look) (claim : Claim) (bits : List Bit) (moved : Bool) →
      IsTurn pass middle after answers (event_of_move pass look claim bits moved ∷ []) → IsQuiet pass 1 middle after
  ended_quietly middle after look claim bits moved turn =
      let e = event_of_move pass look claim bits moved in
      quiet_trans pass 0 1 middle turn.earlier after (quiet_front pass middle turn.earlier turn.seen)
      (record { more = e ∷ []; whole = turn.made; none = unanswered moved; few = moved_once pass e })
    where
      unanswered : (b : Bool) → own pass (event_of_move pass look claim bits b ∷ []) ≡ []
      unanswered true = own-unanswered pass (event_of_move pass look claim bits true ∷ []) refl
      unanswered false = own-unanswered pass (event_of_move pass look claim bits false ∷ []) refl

  move_is_quiet : (before after : List Event) → MoveTurns config limits pass replaces id before after → IsQuiet pass 1 before after
  move_is_quiet before after move =
      let takes = event.Take pass move.claim.slice move.claim.column ∷ [] in
      quiet_trans pass 0 1 before move.seen after (quiet_turn pass before move.seen [] move.looked refl refl)
      (quiet_trans pass 0 1 move.seen move.middle after (quiet_turn pass move.seen move.middle takes move.took (own-unanswered pass takes refl) refl)
      (ended_quietly move.middle after move.look move.claim move.bits move.moved move.ended))

  -- moves answer no call
  pub moves_are_quiet : (moves : ℕ) (before after : List Event) → SomeMoves config limits pass replaces id before after moves → IsQuiet pass moves before after
  moves_are_quiet zero before after seen = quiet_front pass before after seen
  moves_are_quiet (suc moves) before after some =
      quiet_weaker pass (1 + moves) (suc moves) before after (omega arith)
      (quiet_trans pass 1 moves before some.0 after (move_is_quiet before some.0 some.1) (moves_are_quiet moves some.0 after some.2))

  -- nothing is moved where no call is taken any more
  pub none_moved_late : (moves : ℕ) (before after : List Event) → limits.events ≤ length before → SomeMoves config limits pass replaces id before after moves → IsFrontOf pass before after
  none_moved_late zero before after many seen = seen
  none_moved_late (suc moves) before after many some =
      let looked = some.1.looked in
      let few = looked.answer.at_next.empties.may.takes_calls in
      let grows = no_shorter pass before looked.earlier looked.seen in
      absurd (omega (arith, many, few, grows))

  -- nor where no column is to be kept free
  pub none_moved_without_reserve : (moves : ℕ) (before after : List Event) → config.reserve ≡ 0 → SomeMoves config limits pass replaces id before after moves → IsFrontOf pass before after
  none_moved_without_reserve zero before after none seen = seen
  none_moved_without_reserve (suc moves) before after none some =
      let short = some.1.looked.answer.at_next.empties.short in
      let fewer = short.2 in
      absurd (omega (arith, none, fewer))
