use Rattle.std.proofs.Common.{◌-◌, ◌≡◌, ℕ, ◌<◌, ◌≤◌, true, get_or}
use Rattle.document_store.specs.Slots.{free_slot, is_over}
use Rattle.document_store.proofs.slots.Slots.past_over.Given as goal

-- those so far are over
abbrev pub invariant-loop-column : goal.invariant-loop-column
invariant-loop-column l = record {
  onward : l.fn.from ≤ l.column;
  within : l.column ≤ l.fn.columns;
  over : (at : ℕ) → l.fn.from ≤ at → at < l.column → is_over (get_or l.fn.self at free_slot) ≡ true;
}

abbrev pub decreases-loop-column : goal.decreases-loop-column
decreases-loop-column l = l.fn.columns - l.column
