use Rattle.std.proofs.Common.{◌≡◌, ◌/◌, ◌%◌, inr, refl, sym, ◌∙◌, subst}
use Rattle.document_store.specs.Slots.{slot_at}
use Rattle.document_store.specs.declared.column.Column.TheVariants as became
use Rattle.commit_desk.specs.Desks.{DeskState}
use Rattle.commit_desk.specs.Kept.{Books}
use Rattle.commit_desk.specs.Leaving.{MayGo}
use Rattle.commit_desk.proofs.FreedDocuments.{goes-rightly, let-go-on, passed-over, taken-off}
use Rattle.commit_desk.proofs.Inside.{left_books}
use Rattle.commit_desk.proofs.KeepingDesks.{few-left}
use Rattle.commit_desk.proofs.desk.Desk.free_one.Goals as goal

-- the column is passed over, from which no document was taken off
pub invariant_of-self-in_default-state : goal.invariant_of-self-in_default-state
invariant_of-self-in_default-state c =
    let i = c.self.inside in
    let number = c.in-Some.number in
    let t = taken-off i.home.pool i.events_limit i.home.history (left_books i) i.leaving c.take_first.new.self c.self.invariant number c.in-Some.ensures.first c.in-Some.ensures.within c.in-Some.ensures.off in
    passed-over i.home.pool i.events_limit i.home.history (left_books i) i.leaving c.take_first.new.self c.self.invariant (number / i.columns) (number % i.columns) t.first t.off t.here c.state.ensures.fits
    (λ added since until is. c.in_default-state.not-Over added since until (c.state.ensures.state ∙ is))

pub let_go-requires-clause-few : goal.let_go-requires-clause-few
let_go-requires-clause-few c = let i = c.self.inside in few-left i.home.pool i.events_limit i.home.history (left_books i) i.leaving c.self.invariant

-- its document is kept for a find
pub invariant_of-self-in_default-let_go : goal.invariant_of-self-in_default-let_go
invariant_of-self-in_default-let_go c =
    let i = c.self.inside in
    let number = c.in-Some.number in
    let t = taken-off i.home.pool i.events_limit i.home.history (left_books i) i.leaving c.take_first.new.self c.self.invariant number c.in-Some.ensures.first c.in-Some.ensures.within c.in-Some.ensures.off in
    let over : (slot_at i.records (number / i.columns) (number % i.columns)).column ≡ became.Over c.in-Over.place c.in-Over.since c.in-Over.until = sym c.state.ensures.state ∙ c.in-Over.is in
    let now : Books = record (left_books i) { table = c.let_go.new.records } in
    let-go-on i.home.pool i.events_limit i.home.history (left_books i) i.leaving c.take_first.new.self c.self.invariant (number / i.columns) (number % i.columns) t.first t.off t.here
    c.in-Over.place c.in-Over.since c.in-Over.until over c.let_go.new.leaving c.let_go.new.records c.let_go.result c.let_go.ensures now refl

-- or goes
pub invariant_of-self-2 : goal.invariant_of-self-2
invariant_of-self-2 c =
    let i = c.self.inside in
    let number = c.in-Some.number in
    let t = taken-off i.home.pool i.events_limit i.home.history (left_books i) i.leaving c.take_first.new.self c.self.invariant number c.in-Some.ensures.first c.in-Some.ensures.within c.in-Some.ensures.off in
    let over : (slot_at i.records (number / i.columns) (number % i.columns)).column ≡ became.Over c.in-Over.place c.in-Over.since c.in-Over.until = sym c.state.ensures.state ∙ c.in-Over.is in
    let now : Books = record (left_books i) { table = c.let_go.new.records } in
    let-go-on i.home.pool i.events_limit i.home.history (left_books i) i.leaving c.take_first.new.self c.self.invariant (number / i.columns) (number % i.columns) t.first t.off t.here
    c.in-Over.place c.in-Over.since c.in-Over.until over c.let_go.new.leaving c.let_go.new.records c.let_go.result c.let_go.ensures now refl

pub returns-clause-gone : goal.returns-clause-gone
returns-clause-gone c =
    let i = c.self.inside in
    let number = c.in-Some.number in
    let doc = c.in-Some-let_go.doc in
    let t = taken-off i.home.pool i.events_limit i.home.history (left_books i) i.leaving c.take_first.new.self c.self.invariant number c.in-Some.ensures.first c.in-Some.ensures.within c.in-Some.ensures.off in
    let over : (slot_at i.records (number / i.columns) (number % i.columns)).column ≡ became.Over c.in-Over.place c.in-Over.since c.in-Over.until = sym c.state.ensures.state ∙ c.in-Over.is in
    inr (
      doc,
      subst (λ (d : DeskState). MayGo d.history doc) c.self.view_is
          (goes-rightly i.home.pool i.events_limit i.home.history (left_books i) i.leaving c.take_first.new.self c.self.invariant (number / i.columns) (number % i.columns) t.first t.off t.here
          c.in-Over.place c.in-Over.since c.in-Over.until over c.let_go.new.leaving c.let_go.new.records c.let_go.result c.let_go.ensures doc c.in-Some-let_go.is),
      c.push.ensures,
    )
