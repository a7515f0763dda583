use Rattle.std.proofs.Common.{◌≡◌, ⊎_elim, ℕ, ◌+◌, ◌*◌, ◌<◌, inl, inr, Option, MatchOption, refl, ap, ◌∙◌, subst, arith}
use Rattle.std.proofs.lemmas.Bool.{both_ways, cases_lt}
use Rattle.std.proofs.lemmas.Nat.{mul-add-lt}
use Rattle.document_store.specs.Leaving.{IsLeaving, times_on, with_kept}
use Rattle.token_manager.proofs.Newest.{pass_within}
use Rattle.token_manager.specs.Guarding.{IsNewestAsker, NoneMayAsk}
use Rattle.commit_desk.proofs.leaving.let_go.Goals as goal

-- no find may ask for the document
pub returns-in_default : goal.returns-in_default
returns-in_default c =
    inl (record {
      none_asks = subst (λ (o : Option ℕ). MatchOption o (NoneMayAsk c.args.tokens.now c.args.ended.since c.args.ended.until) (IsNewestAsker c.args.tokens.now c.args.ended.since c.args.ended.until)) c.in_default.is c.asker.ensures;
      leaving = refl;
      doc = c.take_doc.ensures.doc;
      table_is = c.take_doc.ensures.table;
    })

-- the column's number is one of those of all columns
pub has-requires : goal.has-requires
has-requires c =
    let at = c.requires.in_range in
    let within = mul-add-lt c.args.ended.slice c.args.records.now.columns c.args.ended.column c.args.records.now.slices at.slice_in_range at.column_in_range in
    let columns : c.args.ended.slice * c.args.ended.columns ≡ c.args.ended.slice * c.args.records.now.columns = ap (λ n. c.args.ended.slice * n) c.requires.columns in
    let each = c.requires.each in
    omega (arith, within, columns, each)

-- one may, and the column is on a list already
pub returns-then-has : goal.returns-then-has
returns-then-has c =
    let on = c.has.ensures.0 c.if-has.true in
    inr (record {
      pass = c.in-Some.pass;
      asker = c.in-Some.ensures;
      table_is = refl;
      none_goes = refl;
      once = inl (subst (λ n. IsLeaving c.args.leaving.now (c.args.ended.slice * n + c.args.ended.column)) c.requires.columns on, refl);
    })

pub keep_for-requires-clause-pass : goal.keep_for-requires-clause-pass
keep_for-requires-clause-pass c =
    let asker = c.in-Some.ensures in
    let within = pass_within c.args.tokens.now c.in-Some.pass asker.event asker.may_ask.opened in
    let passes = c.requires.passes in
    omega (arith, within, passes)

pub keep_for-requires-clause-column : goal.keep_for-requires-clause-column
keep_for-requires-clause-column c =
    let at = c.requires.in_range in
    let within = mul-add-lt c.args.ended.slice c.args.records.now.columns c.args.ended.column c.args.records.now.slices at.slice_in_range at.column_in_range in
    let columns : c.args.ended.slice * c.args.ended.columns ≡ c.args.ended.slice * c.args.records.now.columns = ap (λ n. c.args.ended.slice * n) c.requires.columns in
    let each = c.requires.each in
    omega (arith, within, columns, each)

pub keep_for-requires-clause-on_none : goal.keep_for-requires-clause-on_none
keep_for-requires-clause-on_none c =
    ⊎_elim (λ (on : 0 < times_on c.args.leaving.now (c.args.ended.slice * c.args.ended.columns + c.args.ended.column)). absurd (both_ways c.has.result c.if-has.false (c.has.ensures.1 on)))
    (λ none. omega (arith, none))
    (cases_lt 0 (times_on c.args.leaving.now (c.args.ended.slice * c.args.ended.columns + c.args.ended.column)))

-- or it is put on the list of the newest that may
pub returns : goal.returns
returns c =
    inr (record {
      pass = c.in-Some.pass;
      asker = c.in-Some.ensures;
      table_is = refl;
      none_goes = refl;
      once = inr (
        subst (λ n. times_on c.args.leaving.now (c.args.ended.slice * n + c.args.ended.column) ≡ 0) c.requires.columns (keep_for-requires-clause-on_none c.before),
        c.keep_for.ensures ∙ ap (λ n. with_kept c.args.leaving.now c.in-Some.pass (c.args.ended.slice * n + c.args.ended.column)) c.requires.columns,
      );
    })
