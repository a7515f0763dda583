use Rattle.std.proofs.Common.{rules, sym}
use Rattle.std.specs.Ordering.{nat_cmp}
use Rattle.std.specs.Cmp.Lexicographic.{slice_cmp}
use Rattle.std.specs.String.{string_bytes}
use Rattle.std.proofs.lemmas.Fn.{always_returns_same}
use Rattle.treatment.proofs.Lookups.{searchable, found, found_at, long_enough, not_found}
use Rattle.treatment.proofs.classes.count_of.Goals as goal

pub returns-in-Ok-clause-value : goal.returns-in-Ok-clause-value
returns-in-Ok-clause-value c =
    let h = c.in-Ok.ensures.position (λ entry. slice_cmp nat_cmp (string_bytes entry.0) c.args.word.now) (always_returns_same _ _ _ (λ a r g k. search rules)) in
    sym (found _ _ c.as_slice-entries.ensures.entries c.args.word.now _ _ c.as_slice-entries.ensures.in_order c.in-Ok.ensures.bound (h _))

pub returns-in-Ok-clause-listed : goal.returns-in-Ok-clause-listed
returns-in-Ok-clause-listed c =
    let h = c.in-Ok.ensures.position (λ entry. slice_cmp nat_cmp (string_bytes entry.0) c.args.word.now) (always_returns_same _ _ _ (λ a r g k. search rules)) in (
      c.in-Ok.i,
      long_enough _ _ c.as_slice-entries.ensures.entries _ c.in-Ok.ensures.bound,
      found_at _ _ c.as_slice-entries.ensures.entries c.args.word.now _ _ _ c.in-Ok.ensures.bound (h _),
    )

pub returns-in-Err-clause-value : goal.returns-in-Err-clause-value
returns-in-Err-clause-value c =
    let h = c.in-Err.ensures.position (λ entry. slice_cmp nat_cmp (string_bytes entry.0) c.args.word.now) (always_returns_same _ _ _ (λ a r g k. search rules)) in
    sym (not_found _ _ c.args.word.now _ c.as_slice-entries.ensures.entries (h (searchable _ _ c.as_slice-entries.ensures.entries c.args.word.now c.as_slice-entries.ensures.in_order)))
