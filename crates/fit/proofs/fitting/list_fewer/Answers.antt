use Rattle.std.proofs.Common.{◌≡◌, ◌+◌, ◌-◌, ◌/◌, ℕ, List, ap, arith, inl, inr, length, map, subst, sym}
use Rattle.std.proofs.lemmas.Bool.{cases_eq}
use Rattle.std.proofs.lemmas.List.{take-map}
use Rattle.fit.proofs.Making.{can_first, can_take, none_made, none_too_long}
use Rattle.fit.proofs.Writing.{short_text}
use Rattle.fit.specs.Made.{IsMade, IsTooLong, IsWrittenFor}
use Rattle.fit.specs.Steps.{ranked}
use Rattle.fit.proofs.fitting.list_fewer.Goals as goal

pub write_first-requires-clause-can : goal.write_first-requires-clause-can
write_first-requires-clause-can c = can_take c.args.frame (map ranked c.args.ranking.now) 0 c.requires.can

pub loop-over-init : goal.loop-over-init
loop-over-init c =
    let best = c.in_ok-best.ensures in record {
      apart = elim (cases_eq c.args.too_many 0) [
        | inl none ↦ absurd (none_too_long c.args.frame (map ranked c.args.ranking.now) c.requires.sound c.requires.can (subst (IsTooLong c.args.frame (map ranked c.args.ranking.now)) none c.requires.too_long))
        | inr some ↦ omega (arith, some)
      ];
      within = omega arith;
      is = best;
      short = omega (arith, short_text c.in_ok-best.best.config best.in_range (none_made c.args.frame c.in_ok-best.best.config best.made));
      too_long = c.requires.too_long;
    }

pub write_first-requires-in-loop-over-clause-can : goal.write_first-requires-in-loop-over-clause-can
write_first-requires-in-loop-over-clause-can c =
    can_first c.args.frame c.args.ranking.now (c.loop-over.fits + (c.loop-over.over - c.loop-over.fits) / 2) c.requires.can

pub loop-over-preserved-then-len-le-LONGEST : goal.loop-over-preserved-then-len-le-LONGEST
loop-over-preserved-then-len-le-LONGEST c =
    let p = c.loop-over.invariant in
    let middle = c.loop-over.fits + (c.loop-over.over - c.loop-over.fits) / 2 in
    let next = c.in_ok-next.ensures in
    let bytes = ap length next.is_text in record {
      apart = omega (arith, p.apart, c.loop-over-test.true);
      within = p.within;
      is = subst (λ (es : List (List ℕ × ℕ)). IsWrittenFor c.args.frame es c.in_ok-next.next) (sym (take-map ranked middle c.args.ranking.now)) next;
      short = omega (arith, bytes, c.len.ensures, c.if-len-le-LONGEST.true);
      too_long = p.too_long;
    }

pub loop-over-preserved : goal.loop-over-preserved
loop-over-preserved c =
    let p = c.loop-over.invariant in
    let middle = c.loop-over.fits + (c.loop-over.over - c.loop-over.fits) / 2 in
    let next = c.in_ok-next.ensures in
    let bytes = ap length next.is_text in record {
      apart = omega (arith, p.apart, c.loop-over-test.true);
      within = omega (arith, p.within, p.apart);
      is = p.is;
      short = p.short;
      too_long = record {
        within = omega (arith, p.too_long.within, p.apart);
        config = c.in_ok-next.next.config;
        made = subst (λ (es : List (List ℕ × ℕ)). IsMade c.args.frame es c.in_ok-next.next.config) (sym (take-map ranked middle c.args.ranking.now)) next.made;
        long = omega (arith, bytes, c.len.ensures, c.if-len-le-LONGEST.false);
      };
    }

pub returns : goal.returns
returns c =
    let p = c.loop-over.invariant in
    let last : c.loop-over.over ≡ c.loop-over.fits + 1 = omega (arith, p.apart, c.loop-over-test.false) in
    record {
      count = c.loop-over.fits;
      within = omega (arith, p.apart, p.too_long.within);
      few = omega (arith, p.apart, p.within, c.requires.few);
      is = p.is;
      short = p.short;
      full = inr (inr (subst (IsTooLong c.args.frame (map ranked c.args.ranking.now)) last p.too_long));
    }
