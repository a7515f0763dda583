use Rattle.std.proofs.Common.{◌≡◌, ◌<◌, ℕ, List, length, get_or, set, sym, ap, ◌∙◌, subst, arith}
use Rattle.std.proofs.lemmas.List.{get_or_read}
use Rattle.document_store.specs.Leaving.{AreLinked, LeavingState, last_link, last_with, leaving_by, times_on, with_kept}
use Rattle.document_store.proofs.LeavingLemmas.{kept-linked, kept-view, lasts-long, pass-first}
use Rattle.document_store.proofs.leaving.Leaving.keep_for.Goals as goal

-- what the code reads and is called with
record Reads (links first last : List ℕ) (free : ℕ) (told : LeavingState) (pass column from now : ℕ) : Type 0 where
  pass_within : pass < length first
  column_within : column < length links
  on_none : times_on (leaving_by links first free) column ≡ 0
  from_is : from ≡ get_or first pass last_link
  now_is : now ≡ last_with (get_or first pass last_link) column (get_or last pass last_link)

reads : (links first last : List ℕ) (free : ℕ) (are : AreLinked links first last free (leaving_by links first free)) (told : LeavingState) (is : leaving_by links first free ≡ told) (pass column from was now : ℕ) →
    pass < length told.asked → column < told.columns → times_on told column ≡ 0 → from ≡ get_or first pass from → was ≡ get_or last pass was → now ≡ last_with from column was →
    Reads links first last free told pass column from now
reads links first last free are told is pass column from was now pass_in column_in none from_read was_read now_is =
    let within = pass-first links first last free are told pass is pass_in in
    let from_is = get_or_read first pass from within from_read last_link in
    let was_is = get_or_read last pass was (lasts-long links first last free are pass within) was_read last_link in
    let columns = ap (λ (l : LeavingState). l.columns) is in
    record {
      pass_within = within;
      column_within = omega (arith, columns, column_in);
      on_none = ap (λ (l : LeavingState). times_on l column) is ∙ none;
      from_is = from_is;
      now_is = now_is ∙ ap (λ n. last_with n column was) from_is ∙ ap (λ n. last_with (get_or first pass last_link) column n) was_is;
    }

pub invariant_of-self : goal.invariant_of-self
invariant_of-self c =
    let i = c.self.inside in
    let r = reads i.links.items i.first.items i.last.items i.to_free c.self.invariant c.args.self.now c.self.view_is c.args.pass c.args.column c.index-first.result.now c.index.result.now c.last_with-last.result
    c.requires.pass c.requires.column c.requires.on_none c.index-first.ensures c.index.ensures c.last_with-last.ensures in
    subst (λ n. AreLinked (set i.links.items c.args.column n) (set i.first.items c.args.pass c.args.column) (set i.last.items c.args.pass c.last_with-last.result) i.to_free
    (leaving_by (set i.links.items c.args.column n) (set i.first.items c.args.pass c.args.column) i.to_free)) (sym r.from_is)
    (kept-linked i.links.items i.first.items i.last.items i.to_free c.self.invariant c.args.pass c.args.column r.pass_within r.column_within r.on_none c.last_with-last.result r.now_is)

pub returns : goal.returns
returns c =
    let i = c.self.inside in
    let r = reads i.links.items i.first.items i.last.items i.to_free c.self.invariant c.args.self.now c.self.view_is c.args.pass c.args.column c.index-first.result.now c.index.result.now c.last_with-last.result
    c.requires.pass c.requires.column c.requires.on_none c.index-first.ensures c.index.ensures c.last_with-last.ensures in
    ap (λ n. leaving_by (set i.links.items c.args.column n) (set i.first.items c.args.pass c.args.column) i.to_free) r.from_is
    ∙ kept-view i.links.items i.first.items i.last.items i.to_free c.self.invariant c.args.pass c.args.column r.pass_within r.column_within r.on_none c.last_with-last.result r.now_is
    ∙ ap (λ (l : LeavingState). with_kept l c.args.pass c.args.column) c.self.view_is
