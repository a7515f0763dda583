use Rattle.std.proofs.Common.{true, [], ◌∷◌, ◌++◌, refl, arith}
use Rattle.funnel_model.specs.declared.call.Call.TheVariants as call
use Rattle.funnel_model.specs.declared.event.Event.TheVariants as event
use Rattle.funnel_model.specs.RecycleExample.{high_bit, low_bit, paired, unguarded}
use Rattle.std.proofs.lemmas.Bool.{both_ways}
use Rattle.funnel_model.specs.Slices.{is_clearing}
use Rattle.funnel_model.proofs.Histories.{legal_before}
use Rattle.funnel_model.proofs.RecycleFacts.{recycled_is_legal}
use Rattle.funnel_model.proofs.RowWords.{committed_not_clearing}
use Rattle.funnel_model.proofs.laws.examples.deleted_bits_stay_committed.Goals as goal

pub returns-clause-deleted : goal.returns-clause-deleted
returns-clause-deleted c = record {
  earlier = event.No 0 call.Recycle ∷ event.Take 0 0 0 ∷ [];
  event = event.Add 0 9 (97 ∷ 32 ∷ 99 ∷ 97 ∷ 116 ∷ []) 0 0 (low_bit ∷ []);
  later = event.Take 0 1 0 ∷ event.Add 0 7 (67 ∷ 97 ∷ 116 ∷ []) 1 0 (high_bit ∷ []) ∷ event.Find 1 (65 ∷ []) ∷ event.Del 0 9 ∷ event.Del 0 7 ∷ [];
  whole = refl;
  added = (0, omega arith, refl);
  stays = refl;
}

pub returns-clause-cleared : goal.returns-clause-cleared
returns-clause-cleared c is =
    let cleared = unguarded ++ event.Clear 0 0 ∷ [] in
    let opened = event.Opened 0 0 true ∷ event.Read 0 (call.Journal 0) ∷ event.Read 0 (call.Journal 1) ∷ event.Read 0 (call.Journal 4) ∷ [] in
    let legal = legal_before paired cleared opened recycled_is_legal in
    both_ways (is_clearing 0 cleared) (committed_not_clearing paired cleared 0 low_bit legal is) refl
