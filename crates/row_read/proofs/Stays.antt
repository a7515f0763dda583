-- Reads one after another leave what each of them leaves.
use Rattle.std.proofs.Common.{ℕ, List, refl, ◌∙◌}
use Rattle.std.specs.declared.option.Option.{Option}
use Rattle.funnel_model.specs.declared.bit_list.Bit.{Bit}
use Rattle.row_read.specs.Readable.{StaysReadable}

module _ {S K : Type 0} (reach : S → ℕ → Type 0) (least seen : S → Bit → Type 0) (told : S → Option (List ℕ)) (kept : S → K) where
  -- no read
  pub stays-same : (rows : S) → StaysReadable reach least seen told kept rows rows
  stays-same rows = record {
    reach_stays = λ word. (λ r. r, λ r. r);
    least_stays = λ bit. (λ r. r, λ r. r);
    seen_stays = λ bit has. has;
    told_stays = refl;
    same_kept = refl;
  }

  -- more reads
  pub stays-later : (first second third : S) → StaysReadable reach least seen told kept first second → StaysReadable reach least seen told kept second third →
      StaysReadable reach least seen told kept first third
  stays-later first second third before after = record {
    reach_stays = λ word. (λ r. (after.reach_stays word).0 ((before.reach_stays word).0 r), λ r. (before.reach_stays word).1 ((after.reach_stays word).1 r));
    least_stays = λ bit. (λ r. (after.least_stays bit).0 ((before.least_stays bit).0 r), λ r. (before.least_stays bit).1 ((after.least_stays bit).1 r));
    seen_stays = λ bit has. after.seen_stays bit (before.seen_stays bit has);
    told_stays = after.told_stays ∙ before.told_stays;
    same_kept = after.same_kept ∙ before.same_kept;
  }
