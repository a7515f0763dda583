-- The step of an add, from its turns.
use Rattle.std.proofs.Common.{◌≡◌, ℕ, ◌+◌, Bool, false, List, [], ◌∷◌, Some, Result, Ok, Err, refl, sym, ap, ◌∙◌, ⊎_elim, inl, inr, arith}
use Rattle.std.specs.Option.{option_map, option_map_or}
use Rattle.funnel_model.specs.declared.bit_list.Bit.{Bit}
use Rattle.funnel_model.specs.declared.call.Call.TheVariants as call
use Rattle.funnel_model.specs.declared.claim.Claim.{Claim}
use Rattle.funnel_model.specs.declared.config.Config.{Config}
use Rattle.funnel_model.specs.declared.event.Event.{Event}
use Rattle.funnel_model.specs.declared.event.Event.TheVariants as event
use Rattle.funnel_model.specs.declared.reply.Reply.{Reply}
use Rattle.funnel_model.specs.declared.reply.Reply.TheVariants as reply
use Rattle.funnel_model.specs.History.{is_live, live_place, place}
use Rattle.funnel_model.specs.Legal.{IsIdle, IsLegal, Limits}
use Rattle.funnel_model.specs.Steps.{IsReplyToRefused, Step, is_replaced, most_moves, place_told}
use Rattle.funnel_model.proofs.ReplyLemmas.{dropped_at}
use Rattle.funnel_model.proofs.StepLemmas.{call_by-own, refused_replaces_none}
use Rattle.commit_desk.specs.Answers.{call_asked}
use Rattle.commit_desk.specs.declared.answers.AddFault.{AddFault}
use Rattle.commit_desk.specs.declared.answers.AddFault.TheVariants as add
use Rattle.commit_desk.specs.declared.answers.CommitFault.{CommitFault}
use Rattle.commit_desk.specs.declared.answers.CommitFault.TheVariants as commit
use Rattle.slice_recycler.specs.Turns.{IsTurn}
use Rattle.slice_recycler.proofs.Steps.{IsQuiet, idle_still, own-unanswered, quiet_trans, quiet_turn, quiet_weaker, step_add_without_memory, step_made_after, step_spent_after}
use Rattle.engine.specs.Adds.{AddTurns, ClaimTurns, CommitTurns, MovesFirst, OwnTurns, RefusedTurn, fault_of_drop}
use Rattle.engine.specs.Moves.{MovesAll}
use Rattle.engine.specs.Replies.{reply_of_add}
use Rattle.engine.proofs.Moves.{all_moved, moves_are_quiet}
use Rattle.funnel_model.proofs.LiveLemmas.{no_place}

module _ (history : List Event) (id : ℕ) where
  -- what an add is answered whose number is live, and one whose number isn't
  present_reply : (added : ℕ) (rest : Reply) → live_place id history ≡ Some added → reply.Present added ≡ option_map_or reply.Present (live_place id history) rest
  present_reply added rest here = sym (ap (λ o. option_map_or reply.Present o rest) here)

  absent_reply : (rest : Reply) → is_live id history ≡ false → rest ≡ option_map_or reply.Present (live_place id history) rest
  absent_reply rest absent = sym (ap (λ o. option_map_or reply.Present o rest) (no_place id history absent))

module _ (limits : Limits) (pass : ℕ) (replaces : Bool) (id : ℕ) (text : List ℕ) where
  -- to claim a column answers nothing
  claim_is_quiet : (before middle : List Event) (claim : Claim) → ClaimTurns limits pass replaces id text before middle claim → IsQuiet pass 0 before middle
  claim_is_quiet before middle claim turns =
      ⊎_elim
      (λ first. let events = event.Take pass claim.slice claim.column ∷ [] in quiet_turn pass before middle events first.took (own-unanswered pass events refl) refl)
      (λ first.
      let clears = event.Clear pass claim.slice ∷ [] in
      let opens = event.Opened pass claim.slice false ∷ event.Take pass claim.slice 0 ∷ [] in
      quiet_trans pass 0 0 before first.middle middle
      (quiet_turn pass before first.middle clears first.cleared (own-unanswered pass clears refl) refl)
      (quiet_turn pass first.middle middle opens first.opened (own-unanswered pass opens refl) refl))
      turns

  -- An add or a put that may have moved documents first.
  module _ (before start after : List Event) (idle : IsIdle pass before) (first : IsQuiet pass (most_moves (call_asked replaces id text)) before start) where
    pub claimed_quietly : (middle : List Event) (claim : Claim) → ClaimTurns limits pass replaces id text start middle claim → IsQuiet pass (most_moves (call_asked replaces id text)) before middle
    claimed_quietly middle claim turns =
        let most = most_moves (call_asked replaces id text) in
        quiet_weaker pass (most + 0) most before middle (omega arith) (quiet_trans pass most 0 before start middle first (claim_is_quiet start middle claim turns))

    -- one that was refused in the turn that looks for a column
    pub refused_by : {answers : List Event → Type 0} (given : Reply) (turn : IsTurn pass start after answers (event.No pass (call_asked replaces id text) ∷ [])) →
        IsReplyToRefused limits turn.earlier (call_asked replaces id text) given → IsLegal limits after → Step limits pass before after (call_asked replaces id text) given
    refused_by given turn replied legal =
        let asked = call_asked replaces id text in
        let e = event.No pass asked in
        step_made_after limits pass before start after e asked given idle first turn refl (call_by-own pass e refl) refl refl replied
        (refused_replaces_none limits turn.earlier asked given replied) legal

module _ (limits : Limits) (pass id : ℕ) (text : List ℕ) where
  module _ (before after : List Event) where
    pub refused_turns : (config : Config) (fault : AddFault) → RefusedTurn limits pass false id text before after fault → OwnTurns config limits pass id text before after (Err fault)
    refused_turns config (add.Present added) refused = inl refused.turn
    refused_turns config (add.Full blocks) refused = refused
    refused_turns config (add.Spent events) refused = refused.turn
    refused_turns config add.Memory refused = refused.turn

    pub dropped_turns : (config : Config) (fault : CommitFault) → CommitTurns config limits pass id text before after (Err fault) → OwnTurns config limits pass id text before after (Err (fault_of_drop fault))
    dropped_turns config (commit.Present added) turns = inr turns

  -- The step of an add that may have moved documents first.
  module _ (before start after : List Event) (idle : IsIdle pass before) (idle_start : IsIdle pass start) (first : IsQuiet pass (most_moves (call.Add id text)) before start) (legal : IsLegal limits after) where
    quietly : (middle : List Event) (claim : Claim) → ClaimTurns limits pass false id text start middle claim → IsQuiet pass (most_moves (call.Add id text)) before middle
    quietly = claimed_quietly limits pass false id text before start after idle first

    -- an add whose document was added
    added_by : {answers : List Event → Type 0} (added : ℕ) (bits : List Bit) (middle : List Event) (claim : Claim) → ClaimTurns limits pass false id text start middle claim →
        (turn : IsTurn pass middle after answers (event.Add pass id text claim.slice claim.column bits ∷ [])) → is_live id turn.earlier ≡ false → added ≡ place turn.earlier + 1 →
        Step limits pass before after (call.Add id text) (reply.Added added)
    added_by added bits middle claim claimed turn absent at =
        let e = event.Add pass id text claim.slice claim.column bits in
        step_made_after limits pass before middle after e (call.Add id text) (reply.Added added) idle (quietly middle claim claimed) turn refl (call_by-own pass e refl) refl refl
        (ap reply.Added at ∙ ap (λ b. place_told b (place turn.earlier + 1)) (sym absent)) refl legal

    -- an add whose document was dropped
    dropped_by : {answers : List Event → Type 0} (given : Reply) (middle : List Event) (claim : Claim) → ClaimTurns limits pass false id text start middle claim →
        (turn : IsTurn pass middle after answers (event.Drop pass id text claim.slice claim.column ∷ [])) → option_map reply.Present (live_place id turn.earlier) ≡ Some given →
        Step limits pass before after (call.Add id text) given
    dropped_by given middle claim claimed turn replied =
        let e = event.Drop pass id text claim.slice claim.column in
        step_made_after limits pass before middle after e (call.Add id text) given idle (quietly middle claim claimed) turn refl (call_by-own pass e refl) refl refl replied
        (ap is_replaced (sym (dropped_at (live_place id turn.earlier) given replied).2)) legal

    pub own_step : (config : Config) (answer : Result ℕ AddFault) → OwnTurns config limits pass id text start after answer → Step limits pass before after (call.Add id text) (reply_of_add answer)
    own_step config (Ok added) turns = added_by added turns.bits turns.middle turns.claim turns.claimed turns.committed turns.committed.answer.0 turns.committed.answer.1
    own_step config (Err (add.Present added)) turns =
        ⊎_elim
        (λ turn. refused_by limits pass false id text before start after idle first (reply.Present added) turn (present_reply turn.earlier id added reply.Full turn.answer.1.live) legal)
        (λ late. dropped_by (reply.Present added) late.middle late.claim late.claimed late.committed (ap (option_map reply.Present) late.committed.answer.live))
        turns
    own_step config (Err (add.Full blocks)) refused = refused_by limits pass false id text before start after idle first reply.Full refused.turn (absent_reply refused.turn.earlier id reply.Full (refused.turn.answer.0.absent refl)) legal
    own_step config (Err (add.Spent events)) turn = step_spent_after limits pass before start after (call.Add id text) idle idle_start first turn turn.answer.many legal
    own_step config (Err add.Memory) turn =
        let most = most_moves (call.Add id text) in
        step_add_without_memory limits pass before after idle legal (idle_still pass start after turn idle_start) id text
        (quiet_weaker pass (most + 0) most before after (omega arith) (quiet_trans pass most 0 before start after first (quiet_turn pass start after [] turn refl refl)))

  module _ (config : Config) (before start after : List Event) (all : MovesAll config limits pass false id before start) where
    first_moved : (answer : Result ℕ AddFault) → OwnTurns config limits pass id text start after answer → MovesFirst config limits pass id text before after answer
    first_moved answer own = record { middle = start; moves = all; own = own }

    pub moved_turns : (answer : Result ℕ AddFault) → OwnTurns config limits pass id text start after answer → AddTurns config limits pass id text before after answer
    moved_turns (Ok added) own = first_moved (Ok added) own
    moved_turns (Err (add.Present added)) own = first_moved (Err (add.Present added)) own
    moved_turns (Err (add.Full blocks)) own = first_moved (Err (add.Full blocks)) own
    moved_turns (Err (add.Spent events)) own = first_moved (Err (add.Spent events)) own
    moved_turns (Err add.Memory) own = inr (first_moved (Err add.Memory) own)

    pub moved_step : (answer : Result ℕ AddFault) → OwnTurns config limits pass id text start after answer → IsIdle pass before → IsIdle pass start → IsLegal limits after →
        Step limits pass before after (call.Add id text) (reply_of_add answer)
    moved_step answer own idle idle_start legal =
        own_step before start after idle idle_start (quiet_weaker pass all.moves (most_moves (call.Add id text)) before start all.few (moves_are_quiet config limits pass false id all.moves before start (all_moved config limits pass false id before start all))) legal config answer own
