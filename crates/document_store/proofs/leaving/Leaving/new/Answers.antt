use Rattle.std.proofs.Common.{◌≡◌, ◌+◌, ◌<◌, ◌≤◌, ℕ, replicate, ap, arith, rules}
use Rattle.document_store.specs.Leaving.{LeavingState, last_link, no_link}
use Rattle.document_store.proofs.LeavingLemmas.{leaving-begun, linked-new}
use Rattle.document_store.proofs.leaving.Leaving.new.Goals as goal

-- the columns are few enough
few : (columns : ℕ) → columns + 1 < 4294967296 → columns ≤ no_link
few columns short = omega (arith, short)

pub invariant_of-result : goal.invariant_of-result
invariant_of-result c =
    let links : c.in_ok-vec.field-0.items ≡ replicate c.args.columns no_link = search rules in
    let first : c.in_ok-vec-2.field-0.items ≡ replicate c.args.passes last_link = search rules in
    let last : c.in_ok-vec-3.field-0.items ≡ replicate c.args.passes last_link = search rules in
    linked-new c.in_ok-vec.field-0.items c.in_ok-vec-2.field-0.items c.in_ok-vec-3.field-0.items c.args.passes c.args.columns (few c.args.columns c.requires) links first last

pub returns-clause-asked : goal.returns-clause-asked
returns-clause-asked c =
    let links : c.in_ok-vec.field-0.items ≡ replicate c.args.columns no_link = search rules in
    let first : c.in_ok-vec-2.field-0.items ≡ replicate c.args.passes last_link = search rules in
    ap (λ (l : LeavingState). l.asked) (leaving-begun c.in_ok-vec.field-0.items c.in_ok-vec-2.field-0.items c.args.passes c.args.columns (few c.args.columns c.requires) links first)
