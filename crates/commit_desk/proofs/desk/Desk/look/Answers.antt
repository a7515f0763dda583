use Rattle.std.proofs.Common.{◌≡◌, ⊎_elim, inl, inr, ℕ, List, [], None, Some, Ok, sym, ap, ◌∙◌, subst, append-nil}
use Rattle.funnel_model.specs.declared.event.Event.{Event}
use Rattle.funnel_model.specs.History.{Document, has_cause}
use Rattle.funnel_model.specs.Legal.{Limits}
use Rattle.funnel_model.specs.Reserve.{IsSource}
use Rattle.funnel_model.specs.Slices.{IsInState, Live}
use Rattle.commit_desk.specs.Desks.{DeskState}
use Rattle.commit_desk.specs.Moving.{HasLive, IsLookAtNext, IsLowestFree, IsNamedAgain, IsNextToMove, IsToBeEmptied, LooksState, document_of, looks_after, with_look}
use Rattle.commit_desk.specs.declared.look.Look.{Look}
use Rattle.commit_desk.proofs.Causes.{source_is_caused}
use Rattle.commit_desk.proofs.FindTurns.{desk_is}
use Rattle.commit_desk.proofs.Inside.{books_of}
use Rattle.commit_desk.proofs.desk.Desk.look.Goals as goal
use Rattle.commit_desk.proofs.desk.Desk.look.Goals.{After-next_to_move-column, After-to_be_emptied}

-- the desk that caught up
view_now : (c : After-to_be_emptied) → ◌≡◌ {A = DeskState} (record { pool = c.catch_up.new.home.pool; events_limit = c.self.inside.events_limit; history = c.catch_up.new.home.history }) c.args.self.now
view_now c = desk_is c.args.self.now c.self.inside.home c.catch_up.new.home c.self.inside.events_limit c.self.view_is c.catch_up.ensures.home

pub returns-in_default-clause-answer : goal.returns-in_default-clause-answer
returns-in_default-clause-answer c slice held is =
    c.in_default.ensures.answer slice held (subst (λ (d : DeskState). IsToBeEmptied c.args.reserve d.events_limit d.pool.limits d.history c.args.replaces c.args.id slice held) (sym (view_now c.before)) is)

-- and looked for a slice to be emptied
looked_now : (c : After-next_to_move-column) → c.to_be_emptied.new.self ≡ c.args.self.now
looked_now c = c.in-Some.ensures.same ∙ view_now c.before.before

empties_now : (c : After-next_to_move-column) → (held : ℕ) × IsToBeEmptied c.args.reserve c.args.self.now.events_limit c.args.self.now.pool.limits c.args.self.now.history c.args.replaces c.args.id c.in-Some.slice held
empties_now c =
    subst (λ (d : DeskState). (held : ℕ) × IsToBeEmptied c.args.reserve d.events_limit d.pool.limits d.history c.args.replaces c.args.id c.in-Some.slice held) (view_now c.before.before) c.in-Some.ensures.answer

-- the next column is so with whatever document it has
next_is : (limits : Limits) (looks : LooksState) (history : List Event) (slice column : ℕ) (d e : Document) (since at : ℕ) → IsNextToMove limits looks history slice column d since →
    IsInState history slice column (Live e at) → IsNextToMove limits looks history slice column e at
next_is limits looks history slice column d e since at is lives = record {
  live = lives;
  next = ⊎_elim
      (λ (free : IsLowestFree limits looks history slice column d since). inl (record { free = record { in_range = free.free.in_range; live = lives; unnamed = free.free.unnamed }; lowest = free.lowest }))
      (λ (again : IsNamedAgain limits looks history slice column). inr again) is.next;
}

pub next_to_move-column-requires-clause-live : goal.next_to_move-column-requires-clause-live
next_to_move-column-requires-clause-live c =
    subst (λ (d : DeskState). HasLive d.pool.limits.columns d.history c.in-Some.slice) (sym c.in-Some.ensures.same) c.in-Some.ensures.answer.1.source.can.live

live_now : (c : After-next_to_move-column) (look : Look) {column : ℕ} → look.slice ≡ c.in-Some.slice → look.column ≡ column →
    IsInState c.to_be_emptied.new.self.history c.in-Some.slice column (Live (document_of look) look.since) → IsInState c.args.self.now.history look.slice look.column (Live (document_of look) look.since)
live_now c look {column} of_slice of_column live =
    subst (λ k. IsInState c.args.self.now.history look.slice k (Live (document_of look) look.since)) (sym of_column)
    (subst (λ k. IsInState c.args.self.now.history k column (Live (document_of look) look.since)) (sym of_slice)
    (subst (λ (d : DeskState). IsInState d.history c.in-Some.slice column (Live (document_of look) look.since)) (looked_now c) live))

pub returns-clause-answer : goal.returns-clause-answer
returns-clause-answer c =
    let now = c.args.self.now in
    let up = c.catch_up.ensures in
    let look = c.in_ok-look.look in
    let start = c.before.before.before.before.before.before in
    let number : c.number-pass.result ≡ c.args.seat.now.number = c.number-pass.ensures.number ∙ up.seat.number in
    let forgot : c.forget.new.self ≡ with_look c.args.looks.now c.args.seat.now.number None = c.forget.ensures ∙ ap (λ n. with_look c.args.looks.now n None) number in
    let e = empties_now start in
    let found = c.next_to_move-column.ensures in
    let next : IsNextToMove now.pool.limits c.forget.new.self now.history c.in-Some.slice c.next_to_move-column.result found.0 found.1 =
    subst (λ (d : DeskState). IsNextToMove d.pool.limits c.forget.new.self d.history c.in-Some.slice c.next_to_move-column.result found.0 found.1) (looked_now start) found.2 in
    let lives = live_now start look c.in_ok-look.ensures.slice c.in_ok-look.ensures.column c.in_ok-look.ensures.live in
    let of_slice : IsNextToMove now.pool.limits c.forget.new.self now.history look.slice c.next_to_move-column.result found.0 found.1 =
    subst (λ k. IsNextToMove now.pool.limits c.forget.new.self now.history k c.next_to_move-column.result found.0 found.1) (sym c.in_ok-look.ensures.slice) next in
    let of_column : IsNextToMove now.pool.limits c.forget.new.self now.history look.slice look.column found.0 found.1 =
    subst (λ k. IsNextToMove now.pool.limits c.forget.new.self now.history look.slice k found.0 found.1) (sym c.in_ok-look.ensures.column) of_slice in (
      subst (λ (l : LooksState). IsLookAtNext c.args.reserve now.events_limit now.pool.limits l now.history c.args.replaces c.args.id look) forgot
          (record {
            held = e.0;
            empties = subst (λ k. IsToBeEmptied c.args.reserve now.events_limit now.pool.limits now.history c.args.replaces c.args.id k e.0) (sym c.in_ok-look.ensures.slice) e.1;
            next = next_is now.pool.limits c.forget.new.self now.history look.slice look.column found.0 (document_of look) found.1 look.since of_column lives;
          }),
      c.in_ok-look.ensures.opened ∙ number,
    )

pub returns-clause-look : goal.returns-clause-look
returns-clause-look c =
    let i = c.self.inside in
    let up = c.catch_up.ensures in
    let look = c.in_ok-look.look in
    let front = c.catch_up.new.seat.front in
    let start = c.before.before.before.before.before.before in
    let front_now : c.args.self.now.history ≡ front = sym (ap (λ (d : DeskState). d.history) (view_now start.before.before)) ∙ sym up.front in
    let e = empties_now start in
    let source : IsSource i.home.pool.limits i.home.history c.in-Some.slice e.0 = subst (λ (d : DeskState). IsSource d.pool.limits d.history c.in-Some.slice e.0) (sym c.self.view_is) e.1.source in
    record {
      earlier = front;
      seen = ([], append-nil front);
      live = subst (λ h. IsInState h look.slice look.column (Live (document_of look) look.since)) front_now
          (live_now start look c.in_ok-look.ensures.slice c.in_ok-look.ensures.column c.in_ok-look.ensures.live);
      of_text = c.in_ok-look.ensures.of_text;
      cause = ap has_cause (up.front ∙ up.home.history) ∙ source_is_caused i.home.pool i.events_limit i.home.history (books_of i c.self.invariant.whole) c.in-Some.slice e.0 c.self.invariant.desk source;
    }

-- the looks, without what the pass itself had named
forgot_now : (c : After-to_be_emptied) → c.forget.new.self ≡ with_look c.args.looks.now c.args.seat.now.number None
forgot_now c = c.forget.ensures ∙ ap (λ n. with_look c.args.looks.now n None) (c.number-pass.ensures.number ∙ c.catch_up.ensures.seat.number)

pub returns-in_default-clause-looks : goal.returns-in_default-clause-looks
returns-in_default-clause-looks c = forgot_now c.before

pub returns-clause-looks : goal.returns-clause-looks
returns-clause-looks c =
    c.name.ensures ∙ ap (λ (l : LooksState). looks_after l (Ok (Some c.in_ok-look.look))) (forgot_now c.before.before.before.before.before.before.before.before)
