use Rattle.std.proofs.Common.{ℕ, List, ap, arith, inl, inr, length, map, subst, sym}
use Rattle.std.proofs.lemmas.Bool.{cases_eq}
use Rattle.std.proofs.lemmas.List.{length-map, take-map}
use Rattle.fit.proofs.Making.{can_first, can_rank}
use Rattle.fit.specs.Listings.{IsRanking}
use Rattle.fit.specs.Made.{CanBeListed, IsMade, IsWrittenFor}
use Rattle.fit.specs.Steps.{entries_of, ranked}
use Rattle.fit.proofs.fitting.list_most.Goals as goal

pub write_first-requires-clause-can : goal.write_first-requires-clause-can
write_first-requires-clause-can c =
    can_first c.args.frame c.as_slice-ranking.result.now c.min-most.result
    (subst (λ es. CanBeListed c.args.frame (map ranked es)) (sym c.as_slice-ranking.ensures.value)
    (can_rank c.args.frame (entries_of c.args.sample.counts.entries) (map ranked c.in_ok-found.found.items) c.requires.sample c.in_ok-found.ensures))

pub returns-then-len-le-LONGEST : goal.returns-then-len-le-LONGEST
returns-then-len-le-LONGEST c =
    let found = c.as_slice-ranking.result.now in
    let all = c.in_ok-all.ensures in
    let bytes = ap length all.is_text in
    let most = c.min-most.result in
    let same = ap (map ranked) c.as_slice-ranking.ensures.value in
    record {
      ranking = map ranked found;
      ranked = subst (IsRanking c.args.frame.documents (entries_of c.args.sample.counts.entries)) (sym same) c.in_ok-found.ensures;
      lists = record {
        count = most;
        within = omega (arith, c.min-most.ensures, length-map found ranked);
        few = omega (arith, c.min-most.ensures);
        is = subst (λ (es : List (List ℕ × ℕ)). IsWrittenFor c.args.frame es c.in_ok-all.all) (sym (take-map ranked most found)) all;
        short = omega (arith, bytes, c.len.ensures, c.if-len-le-LONGEST.true);
        full = elim (cases_eq most 65536) [
          | inl many ↦ inl many
          | inr fewer ↦ inr (inl (omega (arith, c.min-most.ensures, fewer, length-map found ranked)))
        ];
      };
    }

pub list_fewer-requires-clause-can : goal.list_fewer-requires-clause-can
list_fewer-requires-clause-can c =
    subst (λ es. CanBeListed c.args.frame (map ranked es)) (sym c.as_slice-ranking.ensures.value)
    (can_rank c.args.frame (entries_of c.args.sample.counts.entries) (map ranked c.in_ok-found.found.items) c.requires.sample c.in_ok-found.ensures)

pub list_fewer-requires-clause-too_long : goal.list_fewer-requires-clause-too_long
list_fewer-requires-clause-too_long c =
    let found = c.as_slice-ranking.result.now in
    let all = c.in_ok-all.ensures in
    let bytes = ap length all.is_text in
    record {
      within = omega (arith, c.min-most.ensures, length-map found ranked);
      config = c.in_ok-all.all.config;
      made = subst (λ (es : List (List ℕ × ℕ)). IsMade c.args.frame es c.in_ok-all.all.config) (sym (take-map ranked c.min-most.result found)) all.made;
      long = omega (arith, bytes, c.len.ensures, c.if-len-le-LONGEST.false);
    }
