use Rattle.std.proofs.Common.{get_or, set, sym, ap, ◌∙◌, subst, arith}
use Rattle.std.proofs.lemmas.List.{get_or_read}
use Rattle.document_store.specs.Leaving.{AreLinked, LeavingState, last_link, leaving_by, with_ended}
use Rattle.document_store.proofs.LeavingLemmas.{ended-below, ended-linked, ended-none, ended-view, lasts-long, pass-first}
use Rattle.document_store.proofs.leaving.Leaving.end.Goals as goal

pub returns-then-first : goal.returns-then-first
returns-then-first c =
    let i = c.self.inside in
    let within = pass-first i.links.items i.first.items i.last.items i.to_free c.self.invariant c.args.self.now c.args.pass c.self.view_is c.requires in
    let from = get_or_read i.first.items c.args.pass c.index-first.result.now within c.index-first.ensures last_link in
    sym c.self.view_is
    ∙ sym (ended-none i.links.items i.first.items i.last.items i.to_free (leaving_by i.links.items i.first.items i.to_free) c.self.invariant c.args.pass within (sym from ∙ c.if-first.true))
    ∙ ap (λ (l : LeavingState). with_ended l c.args.pass) c.self.view_is

pub index_mut-requires : goal.index_mut-requires
index_mut-requires c =
    let i = c.self.inside in
    let within = pass-first i.links.items i.first.items i.last.items i.to_free c.self.invariant c.args.self.now c.args.pass c.self.view_is c.requires in
    let from = get_or_read i.first.items c.args.pass c.index-first.result.now within c.index-first.ensures last_link in
    let last = get_or_read i.last.items c.args.pass c.index-last.result.now (lasts-long i.links.items i.first.items i.last.items i.to_free c.self.invariant c.args.pass within) c.index-last.ensures last_link in
    let below = ended-below i.links.items i.first.items i.last.items i.to_free c.self.invariant c.args.pass within (λ is. c.if-first.false (from ∙ is)) in
    let long = i.links.ok.0 in
    omega (arith, last, below, long)

pub invariant_of-self : goal.invariant_of-self
invariant_of-self c =
    let i = c.self.inside in
    let within = pass-first i.links.items i.first.items i.last.items i.to_free c.self.invariant c.args.self.now c.args.pass c.self.view_is c.requires in
    let from = get_or_read i.first.items c.args.pass c.index-first.result.now within c.index-first.ensures last_link in
    let last = get_or_read i.last.items c.args.pass c.index-last.result.now (lasts-long i.links.items i.first.items i.last.items i.to_free c.self.invariant c.args.pass within) c.index-last.ensures last_link in
    subst (λ n. AreLinked (set i.links.items n i.to_free) (set i.first.items c.args.pass last_link) i.last.items c.index-first.result.now
    (leaving_by (set i.links.items n i.to_free) (set i.first.items c.args.pass last_link) c.index-first.result.now)) (sym last)
    (subst (λ n. AreLinked (set i.links.items (get_or i.last.items c.args.pass last_link) i.to_free) (set i.first.items c.args.pass last_link) i.last.items n
    (leaving_by (set i.links.items (get_or i.last.items c.args.pass last_link) i.to_free) (set i.first.items c.args.pass last_link) n)) (sym from)
    (ended-linked i.links.items i.first.items i.last.items i.to_free c.self.invariant c.args.pass within (λ is. c.if-first.false (from ∙ is))))

pub returns : goal.returns
returns c =
    let i = c.self.inside in
    let within = pass-first i.links.items i.first.items i.last.items i.to_free c.self.invariant c.args.self.now c.args.pass c.self.view_is c.requires in
    let from = get_or_read i.first.items c.args.pass c.index-first.result.now within c.index-first.ensures last_link in
    let last = get_or_read i.last.items c.args.pass c.index-last.result.now (lasts-long i.links.items i.first.items i.last.items i.to_free c.self.invariant c.args.pass within) c.index-last.ensures last_link in
    ap (λ n. leaving_by (set i.links.items n i.to_free) (set i.first.items c.args.pass last_link) c.index-first.result.now) last
    ∙ ap (λ n. leaving_by (set i.links.items (get_or i.last.items c.args.pass last_link) i.to_free) (set i.first.items c.args.pass last_link) n) from
    ∙ ended-view i.links.items i.first.items i.last.items i.to_free c.self.invariant c.args.pass within (λ is. c.if-first.false (from ∙ is))
    ∙ ap (λ (l : LeavingState). with_ended l c.args.pass) c.self.view_is
