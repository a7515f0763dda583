-- What a pass has done for its add between its turns.
use Rattle.std.proofs.Common.{◌≡◌, ℕ, ◌↔◌, Bool, true, false, List, [], ◌∷◌, Result, sym, ap, ◌∙◌, subst}
use Rattle.std.specs.List.{All, Contains}
use Rattle.column_writer.specs.Written.{SetsBits}
use Rattle.funnel_model.specs.declared.bit_list.Bit.{Bit}
use Rattle.funnel_model.specs.declared.claim.Claim.{Claim}
use Rattle.funnel_model.specs.declared.config.Config.{Config}
use Rattle.funnel_model.specs.declared.event.Event.{Event}
use Rattle.funnel_model.specs.declared.event.Event.TheVariants as event
use Rattle.funnel_model.specs.Legal.{IsInSlice, Limits}
use Rattle.funnel_model.specs.Tunings.{treat}
use Rattle.row_layout.specs.DocumentBits.{AreDocumentBitsIn}
use Rattle.row_layout.specs.Layouts.{LayoutId}
use Rattle.slice_rule.specs.declared.view.Fact.TheVariants as fact
use Rattle.slice_rule.specs.Numbers.{last_number}
use Rattle.slice_rule.specs.Pools.{PoolId}
use Rattle.slice_rule.specs.Seats.{HoldsClaim, PassState}
use Rattle.commit_desk.specs.Answers.{AnswersCommit, AnswersPut, events_of_commit}
use Rattle.commit_desk.specs.Passes.{HasWritten, IsToWrite}
use Rattle.commit_desk.specs.declared.answers.CommitFault.{CommitFault}
use Rattle.commit_desk.specs.declared.answers.Put.{Put}
use Rattle.commit_desk.specs.declared.answers.Taken.TheVariants as taken
use Rattle.commit_desk.specs.declared.answers.ToClear.{ToClear}
use Rattle.commit_desk.proofs.CallEnds.{seated_still}
use Rattle.slice_recycler.specs.Turns.{IsTurn}
use Rattle.engine.specs.Adds.{ClaimTurns, ClearsFirst, CommitTurns, TurnOfTake}
use Rattle.engine.specs.Engines.{IsOfConfig}
use Rattle.engine.specs.Moves.{AreBitsAt}
use Rattle.engine.specs.Puts.{PutsLast}
use Rattle.column_writer.proofs.Writing.{has_set}

-- the layout of the slice of a column that its pass is to write: the treatment of the slice, in the room of the pool's slices
module _ (pool : PoolId) (claim : Claim) (layout : LayoutId) (seat : PassState) (of_config : IsOfConfig pool) (start : IsToWrite pool claim layout seat) where
  pub treated : layout.config ≡ treat pool.config claim.slice seat.front
  treated = ap (λ (l : LayoutId). l.config) start.laid.is

  pub room_is : layout.room ≡ pool.limits.slice_words
  room_is = ap (λ (l : LayoutId). l.room) start.laid.is ∙ sym (ap (λ (l : Limits). l.slice_words) of_config.limits)

-- a pass that set the bits of a document at its column has written it
pub has_written : (pool : PoolId) (claim : Claim) (layout : LayoutId) (set : List (List ℕ)) (bits : List Bit) (seat next : PassState) → IsOfConfig pool → IsToWrite pool claim layout seat →
    SetsBits seat next bits → AreDocumentBitsIn layout.room layout.config set claim.slice claim.column bits → All (λ b. IsInSlice layout.room claim.slice b.word) bits →
    HasWritten pool claim set bits next
has_written pool claim layout set bits seat next of_config start did document inside =
    let is = did.same in
    let words = room_is pool claim layout seat of_config start in
    let front : next.front ≡ seat.front = ap (λ (p : PassState). p.front) is in
    let by_treatment : AreDocumentBitsIn pool.limits.slice_words (treat pool.config claim.slice seat.front) set claim.slice claim.column bits =
    subst (λ (config : Config). AreDocumentBitsIn pool.limits.slice_words config set claim.slice claim.column bits) (treated pool claim layout seat of_config start)
    (subst (λ n. AreDocumentBitsIn n layout.config set claim.slice claim.column bits) words document) in
    record {
      seated = seated_still pool seat next is start.seated;
      holds = subst (λ (p : PassState). HoldsClaim p claim) (sym is) start.holds;
      document = subst (λ (h : List Event). AreDocumentBitsIn pool.limits.slice_words (treat pool.config claim.slice h) set claim.slice claim.column bits) (sym front) by_treatment;
      inside = subst (λ n. All (λ b. IsInSlice n claim.slice b.word) bits) words inside;
      bits_set = λ b. subst (λ n. Contains bits b ↔ Contains next.own (fact.BitSet n b)) (sym (ap (λ (p : PassState). last_number p.number p.front) is))
          (has_set (last_number seat.number seat.front) bits seat.own next.own start.nothing did.facts b);
    }

-- the turns of a claim that cleared a slice between them
pub cleared_first : (limits : Limits) (pass : ℕ) (replaces : Bool) (id : ℕ) (text : List ℕ) (before after : List Event) (to_clear : ToClear) (layout : LayoutId) (claim : Claim) (seat next : PassState) →
    TurnOfTake limits pass replaces id text before seat.front (taken.Clear to_clear layout) → to_clear.slots ≡ limits.columns → seat.number ≡ pass → next ≡ record seat { own = next.own } →
    IsTurn next.number next.front after (λ history. Unit {0}) (event.Opened next.number to_clear.job.slice false ∷ event.Take next.number to_clear.job.slice 0 ∷ []) → claim.slice ≡ to_clear.job.slice → claim.column ≡ 0 →
    ClearsFirst limits pass replaces id text before after claim
cleared_first limits pass replaces id text before after to_clear layout claim seat next cleared slots number is opened slice first = record {
  layout = layout;
  old_layout = to_clear.old_layout;
  middle = seat.front;
  cleared = subst (λ (s : ℕ). TurnOfTake limits pass replaces id text before seat.front
      (taken.Clear (record { job = record { slice = s }; slots = limits.columns; old_layout = to_clear.old_layout }) layout)) (sym slice)
      (subst (λ (n : ℕ). TurnOfTake limits pass replaces id text before seat.front (taken.Clear (record to_clear { slots = n }) layout)) slots cleared);
  opened = subst (λ (s : ℕ). IsTurn pass seat.front after (λ history. Unit {0}) (event.Opened pass s false ∷ event.Take pass s 0 ∷ [])) (sym slice)
      (subst (λ (n : ℕ). IsTurn n seat.front after (λ history. Unit {0}) (event.Opened n to_clear.job.slice false ∷ event.Take n to_clear.job.slice 0 ∷ [])) number
      (subst (λ (p : PassState). IsTurn p.number p.front after (λ history. Unit {0}) (event.Opened p.number to_clear.job.slice false ∷ event.Take p.number to_clear.job.slice 0 ∷ [])) is opened));
  first = first;
}

-- the turns of an add whose pass wrote its bits before the last one
pub commit_turns : (config : Config) (limits : Limits) (pass id : ℕ) (text : List ℕ) (before after : List Event) (claim : Claim) (bits : List Bit) (answer : Result ℕ CommitFault) (seat next : PassState) →
    ClaimTurns limits pass false id text before seat.front claim → seat.number ≡ pass → next ≡ record seat { own = next.own } → AreBitsAt config limits next.front text claim bits →
    IsTurn next.number next.front after (λ history. AnswersCommit history id answer) (events_of_commit next.number id text claim bits answer) →
    CommitTurns config limits pass id text before after answer
commit_turns config limits pass id text before after claim bits answer seat next claimed number is of_text turn = record {
  claim = claim;
  bits = bits;
  middle = seat.front;
  claimed = claimed;
  of_text = subst (λ (h : List Event). AreBitsAt config limits h text claim bits) (ap (λ (p : PassState). p.front) is) of_text;
  committed = subst (λ (n : ℕ). IsTurn n seat.front after (λ history. AnswersCommit history id answer) (events_of_commit n id text claim bits answer)) number
      (subst (λ (p : PassState). IsTurn p.number p.front after (λ history. AnswersCommit history id answer) (events_of_commit p.number id text claim bits answer)) is turn);
}

-- and those of a put
pub put_turns : (config : Config) (limits : Limits) (pass id : ℕ) (text : List ℕ) (before after : List Event) (claim : Claim) (bits : List Bit) (answer : Put) (seat next : PassState) →
    ClaimTurns limits pass true id text before seat.front claim → seat.number ≡ pass → next ≡ record seat { own = next.own } → AreBitsAt config limits next.front text claim bits →
    IsTurn next.number next.front after (λ history. AnswersPut history id answer) (event.Add next.number id text claim.slice claim.column bits ∷ []) →
    PutsLast config limits pass id text before after answer
put_turns config limits pass id text before after claim bits answer seat next claimed number is of_text turn = record {
  claim = claim;
  bits = bits;
  middle = seat.front;
  claimed = claimed;
  of_text = subst (λ (h : List Event). AreBitsAt config limits h text claim bits) (ap (λ (p : PassState). p.front) is) of_text;
  done = subst (λ (n : ℕ). IsTurn n seat.front after (λ history. AnswersPut history id answer) (event.Add n id text claim.slice claim.column bits ∷ [])) number
      (subst (λ (p : PassState). IsTurn p.number p.front after (λ history. AnswersPut history id answer) (event.Add p.number id text claim.slice claim.column bits ∷ [])) is turn);
}
