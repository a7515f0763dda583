use Rattle.std.proofs.Common.{◌≡◌, ℕ, [], ◌∷◌, ◌++◌, rules, refl, ap, sym, ◌∙◌}
use Rattle.commit_desk_tests.proofs.Scans.{columns_push}
use Rattle.commit_desk_tests.specs.Tested.{columns_up_to}
use Rattle.commit_desk_tests.proofs.finding.all_columns.Goals as goal

no_column : (slice : ℕ) → columns_up_to slice 0 ≡ []
unfolding columns_up_to
no_column slice = refl

pub loop-column-init : goal.loop-column-init
loop-column-init c = record { made = search (rules, no_column c.args.slice) }

pub loop-column-preserved : goal.loop-column-preserved
loop-column-preserved c = record {
  made = c.in_ok-push.ensures.added ∙ ap (λ l. l ++ (c.args.slice, c.loop-column.column) ∷ []) c.loop-column.invariant.made ∙ sym (columns_push c.args.slice c.loop-column.column);
}
