use Rattle.std.proofs.Common.{◌≡◌, ◌≢◌, ℕ, List, get_or, set, sym, subst}
use Rattle.std.proofs.lemmas.List.{get_or_read}
use Rattle.document_store.specs.Leaving.{AreLinked, LeavingState, TakesFirst, last_link, leaving_by, no_link, times_on}
use Rattle.document_store.proofs.LeavingLemmas.{first-below, left-linked, taken-off, takes-first}
use Rattle.document_store.proofs.leaving.Leaving.take_first.Goals as goal

-- the link of the first column that is to be freed
link : (links first last : List ℕ) (free now : ℕ) → AreLinked links first last free (leaving_by links first free) → free ≢ last_link → now ≡ get_or links free now → now ≡ get_or links free last_link
link links first last free now are more read =
    get_or_read links free now (first-below links first last free (leaving_by links first free) are more) read last_link

pub invariant_of-self : goal.invariant_of-self
invariant_of-self c =
    let i = c.self.inside in
    subst (λ n. AreLinked (set i.links.items i.to_free no_link) i.first.items i.last.items n (leaving_by (set i.links.items i.to_free no_link) i.first.items n)) (sym (link i.links.items i.first.items i.last.items i.to_free c.index.result.now c.self.invariant c.if-column.false c.index.ensures))
    (left-linked i.links.items i.first.items i.last.items i.to_free c.self.invariant c.if-column.false)

pub returns-clause-first : goal.returns-clause-first
returns-clause-first c =
    let i = c.self.inside in
    subst (λ (l : LeavingState). TakesFirst l i.to_free (leaving_by (set i.links.items i.to_free no_link) i.first.items c.index.result.now)) c.self.view_is
    (subst (λ n. TakesFirst (leaving_by i.links.items i.first.items i.to_free) i.to_free (leaving_by (set i.links.items i.to_free no_link) i.first.items n)) (sym (link i.links.items i.first.items i.last.items i.to_free c.index.result.now c.self.invariant c.if-column.false c.index.ensures))
    (takes-first i.links.items i.first.items i.last.items i.to_free c.self.invariant c.if-column.false))

pub returns-clause-off : goal.returns-clause-off
returns-clause-off c =
    let i = c.self.inside in
    subst (λ n. times_on (leaving_by (set i.links.items i.to_free no_link) i.first.items n) i.to_free ≡ 0) (sym (link i.links.items i.first.items i.last.items i.to_free c.index.result.now c.self.invariant c.if-column.false c.index.ensures))
    (taken-off i.links.items i.first.items i.last.items i.to_free c.self.invariant c.if-column.false)
