use Rattle.std.proofs.Common.{◌<◌, sym, ◌∙◌, subst}
use Rattle.document_store.specs.Documents.{Parts}
use Rattle.funnel_model.specs.Slices.{IsInState, Live}
use Rattle.funnel_model.specs.Words.{AreWordsOf}
use Rattle.commit_desk.specs.Desks.{DeskState}
use Rattle.commit_desk.specs.Records.{document_added_at}
use Rattle.commit_desk.proofs.Inside.{books_of}
use Rattle.commit_desk.proofs.Keeping.{same-column}
use Rattle.commit_desk.proofs.KeepingDesks.{column-seen, same-doc}
use Rattle.commit_desk.proofs.LiveLooks.{none_live}
use Rattle.commit_desk.proofs.RecordFacts.{is_column, live_not_clearing, live_recorded}
use Rattle.commit_desk.proofs.desk.Desk.look_at.Goals as goal

pub unreachable-requires : goal.unreachable-requires
unreachable-requires c =
    let i = c.self.inside in
    let at = column-seen c.args.self.now i.home i.events_limit (books_of i c.self.invariant.whole) c.self.invariant.desk c.self.view_is c.args.slice c.args.column c.requires.slice c.requires.column in
    none_live c.args.self.now i.home i.events_limit (books_of i c.self.invariant.whole) c.self.invariant.desk c.self.view_is c.args.slice c.args.column c.state.result (c.state.ensures.state ∙ same-column c.self.invariant.whole c.self.inside.records c.args.slice c.args.column c.self.invariant.left at) c.in_default.not-Live
    c.requires.live.0 c.requires.live.1 c.requires.live.2

pub returns-clause-of_text : goal.returns-clause-of_text
returns-clause-of_text c =
    let i = c.self.inside in
    let kept = c.self.invariant.desk.kept in
    let below = subst (λ (d : DeskState). c.args.column < d.pool.limits.columns) (sym c.self.view_is) c.requires.column in
    let at = is_column i.home.pool.limits i.home.history c.self.invariant.whole kept.legal kept.recorded c.args.slice c.args.column
    (subst (λ (d : DeskState). c.args.slice < d.pool.limits.slices) (sym c.self.view_is) c.requires.slice) below in
    let lives = subst (λ (d : DeskState). IsInState d.history c.args.slice c.args.column (Live c.requires.live.0 c.requires.live.1)) (sym c.self.view_is) c.requires.live.2 in
    let uncleared = live_not_clearing i.home.pool.limits i.home.history c.args.slice c.args.column c.requires.live.0 c.requires.live.1 kept.legal below lives in
    let column = sym (same-column c.self.invariant.whole c.self.inside.records c.args.slice c.args.column c.self.invariant.left at) ∙ sym c.in-Live.ensures.state in
    let same = same-doc c.self.invariant.whole c.self.inside.records c.args.slice c.args.column c.in-Live.place c.in-Live.since c.self.invariant.left at column in
    subst (λ (d : Parts). AreWordsOf d.words d.text) (sym c.in_ok-doc.ensures) ((kept.recorded.each c.args.slice c.args.column at uncleared).words_of_text c.in-Some.doc.now (sym same ∙ sym c.in-Some.ensures.doc))

pub returns-clause-live : goal.returns-clause-live
returns-clause-live c =
    let i = c.self.inside in
    let kept = c.self.invariant.desk.kept in
    let at = is_column i.home.pool.limits i.home.history c.self.invariant.whole kept.legal kept.recorded c.args.slice c.args.column
    (subst (λ (d : DeskState). c.args.slice < d.pool.limits.slices) (sym c.self.view_is) c.requires.slice)
    (subst (λ (d : DeskState). c.args.column < d.pool.limits.columns) (sym c.self.view_is) c.requires.column) in
    let column = sym (same-column c.self.invariant.whole c.self.inside.records c.args.slice c.args.column c.self.invariant.left at) ∙ sym c.in-Live.ensures.state in
    let same = same-doc c.self.invariant.whole c.self.inside.records c.args.slice c.args.column c.in-Live.place c.in-Live.since c.self.invariant.left at column in
    let lives =
    live_recorded i.home.pool.limits i.home.history c.self.invariant.whole kept.legal kept.recorded c.args.slice c.args.column c.in-Some.doc.now at
    (record { added = c.in-Live.place; since = c.in-Live.since; column = column; doc_is = sym same ∙ sym c.in-Some.ensures.doc }) in
    subst (λ (d : Parts). IsInState c.args.self.now.history c.args.slice c.args.column (Live (document_added_at c.in-Live.place d) c.in-Live.since)) (sym c.in_ok-doc.ensures)
    (subst (λ (d : DeskState). IsInState d.history c.args.slice c.args.column (Live (document_added_at c.in-Live.place c.in-Some.doc.now) c.in-Live.since)) c.self.view_is lives)
