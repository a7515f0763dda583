use Rattle.std.proofs.Common.{rules, ◌≡◌, ℕ, true, List, [], length, map, refl, sym, subst, ◌∙◌, arith, Result, Ok}
use Rattle.std.proofs.lemmas.Bool.{eqb-true}
use Rattle.std.proofs.lemmas.List.{nil_from_length}
use Rattle.funnel_model.specs.declared.memory.Memory.{Memory}
use Rattle.rank_matcher.specs.Appended.{appended}
use Rattle.row_layout.specs.declared.row.Row.{Row}
use Rattle.rank_matcher.specs.Left.{AreRisingFrom}
use Rattle.rank_matcher.specs.Reads.{ScansTold}
use Rattle.rank_matcher.specs.SliceScans.{ScansSlice}
use Rattle.rank_matcher.proofs.Entries.{none-left}
use Rattle.rank_matcher.proofs.SearchScans.{is_in, rising-left, scans-alone_ok, scans-each, scans-left}
use Rattle.rank_matcher.proofs.search_scan.scan_search.Goals as goal

-- nothing else is asked
pub returns-then-is_empty-clause-scans : goal.returns-then-is_empty-clause-scans
returns-then-is_empty-clause-scans g c searches plans =
    let rows = c.args.rows.now in
    let empty = eqb-true _ 0 (sym c.is_empty.ensures ∙ c.if-is_empty.true) in
    let count : length c.args.search.now.nodes.items ≡ 0 = search (rules, empty) in
    let none = none-left searches c.args.search.now.nodes.items c.args.search.now.rows.items plans count in
    scans-alone_ok (g.R.Rows.told rows) (g.R.Rows.least rows) (g.R.Rows.seen c.scan.new.rows) c.args.layout.now c.args.plan.now searches c.args.slice c.scan.result
    c.args.hits.now.sure c.scan.new.out c.args.hits.now.unsure (g.R.Rows.reads rows) (g.R.Rows.reads c.scan.new.rows) none c.scan.ensures.scans c.scan.ensures.told

pub returns-then-is_empty-clause-alone : goal.returns-then-is_empty-clause-alone
returns-then-is_empty-clause-alone g c none = c.scan.ensures.told

pub returns-then-is_empty-clause-reads : goal.returns-then-is_empty-clause-reads
returns-then-is_empty-clause-reads g c = omega (arith, c.scan.ensures.scans.reads_at_most)

-- no words are required
pub returns-then-len-eq0-clause-scans : goal.returns-then-len-eq0-clause-scans
returns-then-len-eq0-clause-scans g c searches plans =
    let rows = c.args.rows.now in
    scans-each (g.R.Rows.told rows) (g.R.Rows.least rows) (g.R.Rows.seen c.search_slice.new.rows) c.args.layout.now c.args.plan.now searches c.args.slice c.search_slice.result
    c.args.hits.now.sure c.search_slice.new.sure c.args.hits.now.unsure c.search_slice.new.unsure (nil_from_length c.args.plan.now (sym c.len.ensures ∙ c.if-len-eq0.true))
    (c.search_slice.ensures.searched searches (λ _. true) plans (λ column. refl))

pub returns-clause-scans : goal.returns-clause-scans
returns-clause-scans g c searches plans =
    let rows = c.args.rows.now in
    let middle = c.scan-2.new.rows in
    let after = c.search_slice-2.new.rows in
    let layout = c.args.layout.now in
    let plan : List Row = c.args.plan.now in
    let slice : ℕ = c.args.slice in
    let found : List (ℕ × ℕ) = c.scan-2.new.out in
    let did = c.in_ok-scan.ensures in
    let answer : Result (Unit {0}) Memory = Ok c.in_ok-scan.field-0 in
    let stays = did.stays in
    let later = c.search_slice-2.ensures.stays in
    let scan : ScansSlice (g.R.Rows.least rows) (g.R.Rows.seen middle) layout plan slice answer [] found (g.R.Rows.reads rows) (g.R.Rows.reads middle) =
    subst (λ (start : List (ℕ × ℕ)). ScansSlice (g.R.Rows.least rows) (g.R.Rows.seen middle) layout plan slice answer start found (g.R.Rows.reads rows) (g.R.Rows.reads middle)) c.clear.ensures
    did.scans in
    let told : ScansTold (g.R.Rows.told rows) layout plan slice answer (appended [] found) (g.R.Rows.reads rows) (g.R.Rows.reads middle) =
    subst (λ (start : List (ℕ × ℕ)). ScansTold (g.R.Rows.told rows) layout plan slice answer (appended start found) (g.R.Rows.reads rows) (g.R.Rows.reads middle)) c.clear.ensures did.told in
    let rises : AreRisingFrom (is_in (appended [] found)) 0 (map (λ (p : ℕ × ℕ). p.1) c.as_slice.result.now) =
    subst (λ (columns : List (ℕ × ℕ)). AreRisingFrom (is_in (appended [] found)) 0 (map (λ (p : ℕ × ℕ). p.1) columns)) (sym c.as_slice.ensures) (rising-left slice layout found scan.appends) in
    scans-left (g.R.Rows.told rows) (g.R.Rows.told middle) (g.R.Rows.least rows) (g.R.Rows.least middle) (g.R.Rows.seen middle) (g.R.Rows.seen after) layout plan searches slice
    answer c.search_slice-2.result found c.args.hits.now.sure c.search_slice-2.new.sure c.args.hits.now.unsure c.search_slice-2.new.unsure (g.R.Rows.reads rows) (g.R.Rows.reads middle) refl
    stays.told_stays stays.least_stays later.seen_stays scan told (c.search_slice-2.ensures.searched searches (is_in (appended [] found)) plans rises)
