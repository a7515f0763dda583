use Rattle.std.proofs.Common.{◌≡◌, ◌<◌, Bool, true, false, not, refl, sym, ap, ◌∙◌, subst}
use Rattle.std.proofs.lemmas.Bool.{false≢true}
use Rattle.commit_desk.specs.Desks.{DeskState}
use Rattle.commit_desk.specs.Moving.{IsFreeToMove}
use Rattle.commit_desk.specs.Records.{document_added_at}
use Rattle.commit_desk.proofs.Inside.{books_of}
use Rattle.commit_desk.proofs.Keeping.{same-column}
use Rattle.commit_desk.proofs.KeepingDesks.{column-seen}
use Rattle.commit_desk.proofs.LiveLooks.{none_live}
use Rattle.commit_desk.proofs.RecordFacts.{is_column, live_has_doc, live_recorded}
use Rattle.commit_desk.proofs.desk.Desk.is_free_to_move.Goals as goal

unnamed : (b : Bool) → not b ≡ true → b ≡ false
unnamed true is = absurd (false≢true is)
unnamed false is = refl

pub returns-in-Live : goal.returns-in-Live
returns-in-Live c =
    let i = c.self.inside in
    let kept = c.self.invariant.desk.kept in
    let limits = i.home.pool.limits in
    let history = i.home.history in
    let below = subst (λ (d : DeskState). c.args.column < d.pool.limits.columns) (sym c.self.view_is) c.requires.column in
    let at = is_column limits history c.self.invariant.whole kept.legal kept.recorded c.args.slice c.args.column
    (subst (λ (d : DeskState). c.args.slice < d.pool.limits.slices) (sym c.self.view_is) c.requires.slice) below in
    let column = sym (same-column c.self.invariant.whole c.self.inside.records c.args.slice c.args.column c.self.invariant.left at) ∙ sym c.in-Live.ensures.state in
    let found = live_has_doc limits history c.self.invariant.whole kept.legal kept.recorded c.args.slice c.args.column c.in-Live.place c.in-Live.since at column in
    let lives = live_recorded limits history c.self.invariant.whole kept.legal kept.recorded c.args.slice c.args.column found.0 at
    (record { added = c.in-Live.place; since = c.in-Live.since; column = column; doc_is = found.1 }) in
    let document = document_added_at c.in-Live.place found.0 in (
      λ free. (
        document,
        c.in-Live.since,
        subst (λ (d : DeskState). IsFreeToMove d.pool.limits c.args.looks.now d.history c.args.slice c.args.column document c.in-Live.since) c.self.view_is
            (record { in_range = below; live = lives; unnamed = sym c.is_named.ensures ∙ unnamed c.is_named.result free }),
      ),
      λ free. ap not (c.is_named.ensures ∙ free.2.unnamed),
    )

pub returns-in_default : goal.returns-in_default
returns-in_default c =
    let i = c.self.inside in
    let at = column-seen c.args.self.now i.home i.events_limit (books_of i c.self.invariant.whole) c.self.invariant.desk c.self.view_is c.args.slice c.args.column c.requires.slice c.requires.column in (
      λ none. absurd (false≢true none),
      λ free. absurd (none_live c.args.self.now i.home i.events_limit (books_of i c.self.invariant.whole) c.self.invariant.desk c.self.view_is c.args.slice c.args.column c.state.result (c.state.ensures.state ∙ same-column c.self.invariant.whole c.self.inside.records c.args.slice c.args.column c.self.invariant.left at)
          c.in_default.not-Live free.0 free.1 free.2.live),
    )
