use Rattle.std.proofs.Common.{◌≡◌, ℕ, ◌<◌, false, List, [], ◌∷◌, ◌++◌, refl, arith, inl, inr}
use Rattle.std.specs.List.{list_any}
use Rattle.std.specs.Prelude.{slice_index_or}
use Rattle.funnel_model.specs.declared.block.Block.{Block}
use Rattle.funnel_model.specs.declared.block.Block.TheVariants as block
use Rattle.funnel_model.specs.declared.call.Call.TheVariants as call
use Rattle.funnel_model.specs.declared.event.Event.{Event}
use Rattle.funnel_model.specs.declared.event.Event.TheVariants as event
use Rattle.funnel_model.specs.Blocks.{AreBlocks, IsBlock}
use Rattle.funnel_model.specs.Events.{opens, takes_off}
use Rattle.funnel_model.specs.Example.{episode, first_added, later_added}
use Rattle.funnel_model.specs.RecycleExample.{both_clearing, guarded, held, paired}
use Rattle.funnel_model.proofs.ExampleLemmas.{one_slice, two_columns}
use Rattle.funnel_model.proofs.PairLemmas.{lowest_guard}
use Rattle.funnel_model.proofs.RecycleFacts.{high_guarded, low_guarded}
use Rattle.funnel_model.proofs.SpareLemmas.{not_retired}
use Rattle.funnel_model.proofs.laws.examples.blocks_example.Goals as goal

-- a block for each of two slices
two_blocks : (history : List Event) (low high : Block) → IsBlock 1 history 0 low → IsBlock 1 history 1 high → AreBlocks paired history (low ∷ high ∷ [])
two_blocks history low high is_low is_high = record {
  count = refl;
  each = λ slice d. two_columns (λ s. IsBlock 1 history s (slice_index_or (low ∷ high ∷ []) s d)) is_low is_high slice;
}

-- the document that was added first is the lowest of its slice, while it isn't deleted and the slice isn't opened
first : (columns : ℕ) (later : List Event) → 0 < columns → list_any (opens 0) later ≡ false → list_any (takes_off 9) later ≡ false →
    IsBlock columns (first_added ++ later) 0 (block.Live 0)
first columns later some stays kept = (
  record { id = 9; text = []; place = 1 },
  2,
  record {
    in_range = some;
    is_in = record {
      later = later;
      put = record { earlier = event.Take 0 0 0 ∷ []; event = event.Add 0 9 [] 0 0 []; whole = refl; count = refl; puts = refl; lives = (0, omega arith, refl); stays = stays };
      not_taken_off = kept;
    };
    held = tt;
    lowest = λ lower in'. absurd (omega arith);
  },
)

pub returns-clause-held : goal.returns-clause-held
returns-clause-held c = (
  two_columns _ (inl (one_slice _ refl, not_retired 1 0 0 held (omega arith) refl refl)) (inl (one_slice _ refl, not_retired 1 1 0 held (omega arith) refl refl)),
  two_blocks held (block.Live 0) (block.Pending 0 1) (first 1 (event.Take 1 1 0 ∷ []) (omega arith) refl refl) (record {
    in_range = omega arith;
    is_in = record { taken = refl; not_put = refl; not_dropped = refl };
    held = tt;
    lowest = λ lower in'. absurd (omega arith);
  }),
)

pub returns-clause-mixed : goal.returns-clause-mixed
returns-clause-mixed c = (
  one_slice _ (inl (two_columns _ refl refl, not_retired 2 0 0 later_added (omega arith) refl refl)),
  record {
    count = refl;
    each = λ slice d. one_slice (λ s. IsBlock 2 later_added s (slice_index_or (block.Pending 0 0 ∷ []) s d)) (record {
      in_range = omega arith;
      is_in = record { taken = refl; not_put = refl; not_dropped = refl };
      held = tt;
      lowest = λ lower in'. absurd (omega arith);
    }) slice;
  },
)

pub returns-clause-lowest : goal.returns-clause-lowest
returns-clause-lowest c =
    let later = event.No 0 (call.Add 9 []) ∷ event.Take 0 0 1 ∷ event.Add 0 7 [] 0 1 [] ∷ event.Find 0 [] ∷ event.End 0 ∷ event.No 0 (call.Add 5 []) ∷ [] in (
      one_slice _ (inl (two_columns _ refl refl, not_retired 2 0 0 episode (omega arith) refl refl)),
      record {
        count = refl;
        each = λ slice d. one_slice (λ s. IsBlock 2 episode s (slice_index_or (block.Live 0 ∷ []) s d)) (first 2 later (omega arith) refl refl) slice;
      },
    )

pub returns-clause-guarded : goal.returns-clause-guarded
returns-clause-guarded c = (
  two_columns _ (inr (inl (low_guarded.retired, (1, 6, low_guarded)))) (inr (inl (high_guarded.retired, (1, 6, high_guarded)))),
  two_blocks guarded (block.Guarded 1 6) (block.Guarded 1 6) (lowest_guard guarded 0 6 refl low_guarded) (lowest_guard guarded 1 6 refl high_guarded),
)

pub returns-clause-clearing : goal.returns-clause-clearing
returns-clause-clearing c = (
  two_columns _ (inr (inr refl)) (inr (inr refl)),
  two_blocks both_clearing (block.Clearing 0) (block.Clearing 1) refl refl,
)
