-- What the calls at the desk leave of a pass.
use Rattle.std.proofs.Common.{◌≡◌, ℕ, ◌<◌, Bool, true, false, List, [], ◌∷◌, ◌++◌, Result, Ok, Err, Some, IfOk, MatchResult, sym, refl, ap, ◌∙◌, subst, append-nil, append_assoc}
use Rattle.std.proofs.lemmas.List.Elements.{All-weaker}
use Rattle.std.specs.List.{All}
use Rattle.std.specs.Prelude.{IfSome}
use Rattle.funnel_model.specs.declared.claim.Claim.{Claim}
use Rattle.funnel_model.specs.declared.claim.ClearJob.{ClearJob}
use Rattle.funnel_model.specs.declared.claim.Token.{Token}
use Rattle.funnel_model.specs.declared.commit.Commit.{Commit}
use Rattle.funnel_model.specs.declared.call.Call.TheVariants as call
use Rattle.funnel_model.specs.declared.event.Event.{Event}
use Rattle.funnel_model.specs.declared.event.Event.TheVariants as event
use Rattle.funnel_model.specs.declared.bit_list.Bit.{Bit}
use Rattle.funnel_model.specs.declared.config.Config.{Config}
use Rattle.funnel_model.specs.declared.stats.Stats.{Stats}
use Rattle.funnel_model.specs.Events.{leaves_open, pass_of}
use Rattle.funnel_model.specs.History.{last_by}
use Rattle.funnel_model.specs.Legal.{IsIdle, IsLegal}
use Rattle.funnel_model.specs.Sizes.{words_of_slice}
use Rattle.funnel_model.specs.Tunings.{treat}
use Rattle.funnel_model.proofs.Claims.{take_within}
use Rattle.funnel_model.proofs.Clears.{last_by-front}
use Rattle.funnel_model.proofs.Histories.{allowed_within, legal_before}
use Rattle.funnel_model.proofs.Spans.{last_by-own}
use Rattle.slice_rule.specs.Pools.{PoolId}
use Rattle.row_layout.specs.Layouts.{LayoutId}
use Rattle.row_layout.specs.Owners.{IsOwnedOnlyAt, OwnsIn}
use Rattle.slice_rule.specs.Seats.{HasNoneOutstanding, HoldsToken, IsSeated, KeepsToColumn, PassState}
use Rattle.commit_desk.specs.Answers.{AnswersClear, AnswersTake, call_asked, events_of_clear, events_of_commit, events_of_delete, events_of_find, events_of_journal, events_of_place, events_of_stats, events_of_take, events_of_text, events_of_tune}
use Rattle.commit_desk.specs.declared.answers.AddFault.TheVariants as add
use Rattle.commit_desk.specs.declared.answers.ClearRefusal.{ClearRefusal}
use Rattle.commit_desk.specs.declared.answers.ClearRefusal.TheVariants as clear
use Rattle.commit_desk.specs.declared.answers.CommitFault.{CommitFault}
use Rattle.commit_desk.specs.declared.answers.DeleteFault.{DeleteFault}
use Rattle.commit_desk.specs.declared.answers.DeleteFault.TheVariants as delete
use Rattle.commit_desk.specs.declared.answers.FindFault.{FindFault}
use Rattle.commit_desk.specs.declared.answers.JournalFault.{JournalFault}
use Rattle.commit_desk.specs.declared.answers.JournalFault.TheVariants as journal
use Rattle.commit_desk.specs.declared.answers.Spent.{Spent}
use Rattle.commit_desk.specs.declared.answers.NotTaken.{NotTaken}
use Rattle.commit_desk.specs.declared.answers.Taken.{Taken}
use Rattle.commit_desk.specs.declared.answers.Taken.TheVariants as taken
use Rattle.commit_desk.specs.declared.answers.TakenMove.{TakenMove}
use Rattle.commit_desk.specs.declared.answers.TextRead.{TextRead}
use Rattle.commit_desk.specs.declared.answers.TextRead.TheVariants as read
use Rattle.commit_desk.specs.declared.answers.ToClear.{ToClear}
use Rattle.commit_desk.specs.declared.look.Look.{Look}
use Rattle.commit_desk.specs.Desks.{DeskState, IsFresh, IsPrepared, IsReused, Makes}
use Rattle.commit_desk.specs.Layouts.{IsLayoutOf}
use Rattle.commit_desk.specs.Moving.{AnswersTakeMove, event_of_move, events_of_take_move}
use Rattle.commit_desk.specs.Passes.{IsFinding, IsResting, IsToClear, IsToDo, IsToWrite, WritesOrRests}

-- the last event of the pass is the one that it made
last_made : (before after : DeskState) (seat next : PassState) (e : Event) → pass_of e ≡ seat.number → Makes (e ∷ []) before after seat next → last_by next.number next.front ≡ Some e
last_made before after seat next e own made =
    ap (λ n. last_by n next.front) made.number ∙ ap (last_by seat.number) (made.front ∙ made.history) ∙ last_by-own seat.number before.history e own

-- or the one that it had made before
last_kept : (before after : DeskState) (seat next : PassState) → Makes [] before after seat next → last_by next.number next.front ≡ last_by seat.number seat.front
last_kept before after seat next made =
    ap (λ n. last_by n next.front) made.number ∙ ap (last_by seat.number) (made.front ∙ made.history ∙ append-nil before.history)
    ∙ last_by-front seat.number seat.front before.history made.seen

module _ (pool : PoolId) (before after : DeskState) (seat next : PassState) (here : seat.pool ≡ pool) (none : HasNoneOutstanding next) where
  seated_by : (events : List Event) → Makes events before after seat next → IsSeated pool next
  seated_by events made = record { same = made.same ∙ here; none_outstanding = none }

  -- a call that makes no event
  pub rests_none : IsIdle seat.number seat.front → Makes [] before after seat next → IsResting pool next
  rests_none idle made = record {
    seated = seated_by [] made;
    idle = subst (λ o. IfSome o (λ e. leaves_open e ≡ false)) (sym (last_kept before after seat next made)) idle;
  }

  -- a call that is over with one event
  pub rests_one : (e : Event) → pass_of e ≡ seat.number → leaves_open e ≡ false → Makes (e ∷ []) before after seat next → IsResting pool next
  rests_one e own shut made = record {
    seated = seated_by (e ∷ []) made;
    idle = subst (λ o. IfSome o (λ x. leaves_open x ≡ false)) (sym (last_made before after seat next e own made)) shut;
  }

  pub rests_commit : (id : ℕ) (text : List ℕ) (claim : Claim) (bits : List Bit) (answer : Result ℕ CommitFault) → Makes (events_of_commit seat.number id text claim bits answer) before after seat next → IsResting pool next
  rests_commit id text claim bits (Ok place) made = rests_one (event.Add seat.number id text claim.slice claim.column bits) refl refl made
  rests_commit id text claim bits (Err fault) made = rests_one (event.Drop seat.number id text claim.slice claim.column) refl refl made

  pub rests_put : (id : ℕ) (text : List ℕ) (claim : Claim) (bits : List Bit) → Makes (event.Add seat.number id text claim.slice claim.column bits ∷ []) before after seat next → IsResting pool next
  rests_put id text claim bits made = rests_one (event.Add seat.number id text claim.slice claim.column bits) refl refl made

  pub rests_moved : (look : Look) (claim : Claim) (bits : List Bit) (moved : Bool) → Makes (event_of_move seat.number look claim bits moved ∷ []) before after seat next → IsResting pool next
  rests_moved look claim bits true made = rests_one (event.Move seat.number look.doc.id claim.slice claim.column bits) refl refl made
  rests_moved look claim bits false made = rests_one (event.Void seat.number claim.slice claim.column) refl refl made

  module _ (idle : IsIdle seat.number seat.front) where
    pub rests_place : (answer : Result ℕ Spent) → Makes (events_of_place seat.number answer) before after seat next → IsResting pool next
    rests_place (Ok place) made = rests_one (event.Read seat.number call.Place) refl refl made
    rests_place (Err spent) made = rests_none idle made

    pub rests_journal : (from : ℕ) (answer : Result (List Commit) JournalFault) → Makes (events_of_journal seat.number from answer) before after seat next → IsResting pool next
    rests_journal from (Ok commits) made = rests_one (event.Read seat.number (call.Journal from)) refl refl made
    rests_journal from (Err (journal.Trimmed n)) made = rests_one (event.Read seat.number (call.Journal from)) refl refl made
    rests_journal from (Err (journal.Spent events)) made = rests_none idle made
    rests_journal from (Err journal.Memory) made = rests_none idle made

    pub rests_text : (id : ℕ) (answer : TextRead) → Makes (events_of_text seat.number id answer) before after seat next → IsResting pool next
    rests_text id (read.Read place) made = rests_one (event.Read seat.number (call.Get id)) refl refl made
    rests_text id read.Absent made = rests_one (event.Read seat.number (call.Get id)) refl refl made
    rests_text id (read.Short bytes) made = rests_none idle made
    rests_text id (read.Spent events) made = rests_none idle made

    pub rests_stats : (answer : Result Stats Spent) → Makes (events_of_stats seat.number answer) before after seat next → IsResting pool next
    rests_stats (Ok stats) made = rests_one (event.Read seat.number call.Stats) refl refl made
    rests_stats (Err spent) made = rests_none idle made

    pub rests_delete : (id : ℕ) (answer : Result ℕ DeleteFault) → Makes (events_of_delete seat.number id answer) before after seat next → IsResting pool next
    rests_delete id (Ok place) made = rests_one (event.Del seat.number id) refl refl made
    rests_delete id (Err (delete.Spent events)) made = rests_none idle made
    rests_delete id (Err delete.Absent) made = rests_one (event.No seat.number (call.Delete id)) refl refl made

    pub rests_tune : (config : Config) (answer : Result ℕ Spent) → Makes (events_of_tune seat.number config answer) before after seat next → IsResting pool next
    rests_tune config (Ok count) made = rests_one (event.Tune seat.number config) refl refl made
    rests_tune config (Err spent) made = rests_none idle made

    pub finds_or_rests : (query : List ℕ) (answer : Result Token FindFault) → IfOk answer (λ token. HoldsToken next token) → Makes (events_of_find seat.number query answer) before after seat next →
        MatchResult answer (λ token. IsFinding pool token next) (λ _. IsResting pool next)
    finds_or_rests query (Ok token) holds made = record { seated = seated_by (event.Find seat.number query ∷ []) made; holds = holds }
    finds_or_rests query (Err fault) holds made = rests_none idle made

    module _ (of : before.pool ≡ pool) (most : ℕ) where
      -- the slice that the pass began to clear
      to_clear : (slice : ℕ) → slice < before.pool.limits.slices → Makes (event.Clear seat.number slice ∷ []) before after seat next → IsToClear pool (record { slice = slice }) next
      to_clear slice in' made =
          let e = event.Clear seat.number slice in record {
            seated = seated_by (e ∷ []) made;
            holds = last_made before after seat next e refl made ∙ ap (λ n. Some (event.Clear n slice)) (sym made.number);
            in_range = subst (λ (p : PoolId). slice < p.limits.slices) of in';
          }

      -- it has as many old slots as a slice of the pool has columns
      old_slots : (work : ToClear) → work.slots ≡ before.pool.limits.columns → work.slots ≡ pool.limits.columns
      old_slots work are = are ∙ ap (λ (p : PoolId). p.limits.columns) of

      pub clears_or_rests : (answer : Result ToClear ClearRefusal) → AnswersClear most before.pool.limits before.history seat.number answer → Makes (events_of_clear seat.number answer) before after seat next →
          MatchResult answer (λ work. IsToClear pool work.job next × (work.slots ≡ pool.limits.columns)) (λ _. IsResting pool next)
      clears_or_rests (Ok work) may made = (to_clear work.job.slice may.1.in_range made, old_slots work may.2)
      clears_or_rests (Err (clear.Spent events)) may made = rests_none idle made
      clears_or_rests (Err clear.NoneRetired) may made = rests_one (event.No seat.number call.Recycle) refl refl made
      clears_or_rests (Err (clear.Guarded slice guard opened_at)) may made = rests_one (event.No seat.number call.Recycle) refl refl made

      -- the column that the pass claimed
      pub to_write : (events : List Event) (slice column : ℕ) (layout : LayoutId) → slice < before.pool.limits.slices → column < before.pool.limits.columns →
          last_by next.number next.front ≡ Some (event.Take next.number slice column) → IsFresh (record { slice = slice; column = column }) layout next → Makes events before after seat next →
          IsToWrite pool (record { slice = slice; column = column }) layout next
      to_write events slice column layout in' within holds fresh made = record {
        seated = seated_by events made;
        holds = holds;
        nothing = fresh.unwritten.nothing;
        laid = subst (λ (p : PoolId). IsLayoutOf p.config slice next.front layout) (made.same ∙ here) fresh.laid;
        in_range = subst (λ (p : PoolId). slice < p.limits.slices) of in';
        column = subst (λ (p : PoolId). column < p.limits.columns) of within;
      }

      -- a column that is taken is one of its slice
      taken_within : (slice column : ℕ) → Makes (event.Take seat.number slice column ∷ []) before after seat next → column < before.pool.limits.columns
      taken_within slice column made =
          let e = event.Take seat.number slice column in
          let legal : IsLegal before.pool.limits (before.history ++ e ∷ []) =
          subst (IsLegal before.pool.limits) made.history (subst (λ (p : PoolId). IsLegal p.limits after.history) made.pool made.legal) in
          take_within before.pool.limits before.history seat.number slice column (legal_before before.pool.limits before.history (e ∷ []) legal)
          (allowed_within before.pool.limits (before.history ++ e ∷ []) before.history e [] legal refl)

      -- so it is with the column that the pass claims by one event
      claims : (claim : Claim) (layout : LayoutId) → claim.slice < before.pool.limits.slices → IsFresh claim layout next → Makes (event.Take seat.number claim.slice claim.column ∷ []) before after seat next →
          IsToWrite pool claim layout next
      claims claim layout in' fresh made =
          let e = event.Take seat.number claim.slice claim.column in
          to_write (e ∷ []) claim.slice claim.column layout in' (taken_within claim.slice claim.column made)
          (last_made before after seat next e refl made ∙ ap (λ n. Some (event.Take n claim.slice claim.column)) (sym made.number)) fresh made

      pub is_to_do : (replaces : Bool) (id : ℕ) (text : List ℕ) (answer : Taken) → AnswersTake most before.pool.limits before.history seat.number replaces id answer → IsPrepared answer next →
          Makes (events_of_take seat.number replaces id text answer) before after seat next → IsToDo pool answer next
      is_to_do replaces id text (taken.Claim claim layout) may fresh made = claims claim layout may.1.in_range fresh made
      is_to_do replaces id text (taken.Clear work layout) may laid made = (
        to_clear work.job.slice may.2.in_range made,
        old_slots work may.3,
        subst (λ (p : PoolId). IsLayoutOf p.config work.job.slice next.front layout) (made.same ∙ here) laid,
      )
      is_to_do replaces id text (taken.Wait slice) may nothing made = rests_none idle made
      is_to_do replaces id text (taken.Refused (add.Spent events)) may nothing made = rests_none idle made
      is_to_do replaces id text (taken.Refused (add.Present added)) may nothing made = rests_one (event.No seat.number (call_asked replaces id text)) refl refl made
      is_to_do replaces id text (taken.Refused (add.Full blocks)) may nothing made = rests_one (event.No seat.number (call_asked replaces id text)) refl refl made
      is_to_do replaces id text (taken.Refused add.Memory) may nothing made = rests_none idle made

      pub writes_or_rests : (look : Look) (answer : Result TakenMove NotTaken) → AnswersTakeMove most before.pool.limits before.history seat.number look answer →
          IfOk answer (λ taken. IsFresh taken.claim taken.layout next) → Makes (events_of_take_move seat.number answer) before after seat next → WritesOrRests pool answer next
      writes_or_rests look (Ok taken) may fresh made = claims taken.claim taken.layout may.0.may.in_range fresh made
      writes_or_rests look (Err fault) may fresh made = rests_none idle made

-- the column that the pass claimed in the slice that it had cleared
pub taken_after : (pool : PoolId) (before after : DeskState) (seat next : PassState) (job : ClearJob) (claim : Claim) (layout : LayoutId) → IsSeated pool seat → HasNoneOutstanding next →
    before.pool ≡ pool → job.slice < pool.limits.slices → claim ≡ record { slice = job.slice; column = 0 } →
    Makes (event.Opened seat.number job.slice false ∷ event.Take seat.number job.slice 0 ∷ []) before after seat next → IsReused job.slice seat next →
    IsLayoutOf seat.pool.config job.slice seat.front layout → IsToWrite pool claim layout next
taken_after pool before after seat next job claim layout seated none of in' claim_is made reused laid =
    let slice = job.slice in
    let opens = event.Opened seat.number slice false in
    let takes = event.Take seat.number slice 0 in
    let first = before.history ++ opens ∷ [] in
    let whole : after.history ≡ first ++ takes ∷ [] = made.history ∙ sym (append_assoc before.history (opens ∷ []) (takes ∷ [])) in
    let limits = before.pool.limits in
    let legal : IsLegal limits (first ++ takes ∷ []) = subst (IsLegal limits) whole (subst (λ (p : PoolId). IsLegal p.limits after.history) made.pool made.legal) in
    let within : 0 < limits.columns =
    take_within limits first seat.number slice 0 (legal_before limits first (takes ∷ []) legal) (allowed_within limits (first ++ takes ∷ []) first takes [] legal refl) in
    let last : last_by next.number next.front ≡ Some (event.Take next.number slice 0) =
    ap (λ n. last_by n next.front) made.number ∙ ap (last_by seat.number) (made.front ∙ whole) ∙ last_by-own seat.number first takes refl
    ∙ ap (λ n. Some (event.Take n slice 0)) (sym made.number) in
    subst (λ (k : Claim). IsToWrite pool k layout next) (sym claim_is) (record {
      seated = record { same = made.same ∙ seated.same; none_outstanding = none };
      holds = last;
      nothing = reused.unwritten.nothing;
      laid = subst (λ (p : PoolId). IsLayoutOf p.config slice next.front layout) (made.same ∙ seated.same) (reused.laid layout laid);
      in_range = in';
      column = subst (λ (p : PoolId). 0 < p.limits.columns) of within;
    })

-- bits that no column of the slice owns but the claimed one, by the layout of the slice, keep to it
pub keep_to_column : (pool : PoolId) (claim : Claim) (layout : LayoutId) (bits : List Bit) (seat : PassState) → pool.limits.slice_words ≡ words_of_slice pool.config →
    IsToWrite pool claim layout seat → All (IsOwnedOnlyAt layout.room layout.config claim.slice claim.column) bits → All (KeepsToColumn seat claim) bits
keep_to_column pool claim layout bits seat rows start =
    All-weaker (IsOwnedOnlyAt layout.room layout.config claim.slice claim.column) (KeepsToColumn seat claim)
    (λ b only column owns.
    let here : OwnsIn pool.limits.slice_words (treat pool.config claim.slice seat.front) claim.slice column b =
    subst (λ (p : PoolId). OwnsIn p.limits.slice_words (treat p.config claim.slice seat.front) claim.slice column b) start.seated.same owns.treated in
    only column
    (subst (λ (l : LayoutId). OwnsIn l.room l.config claim.slice column b) (sym start.laid.is)
    (subst (λ n. OwnsIn n (treat pool.config claim.slice seat.front) claim.slice column b) rows here)))
    bits

-- the pass is seated still after it did something itself
pub seated_still : (pool : PoolId) (seat next : PassState) → next ≡ record seat { own = next.own } → IsSeated pool seat → IsSeated pool next
seated_still pool seat next is seated = record {
  same = ap (λ (p : PassState). p.pool) is ∙ seated.same;
  none_outstanding = subst HasNoneOutstanding (sym is) seated.none_outstanding;
}
