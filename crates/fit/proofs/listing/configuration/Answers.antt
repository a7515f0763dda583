use Rattle.std.proofs.Common.{ap, arith, map, refl}
use Rattle.std.proofs.lemmas.List.{length-map}
use Rattle.fit.proofs.Making.{in_range_made, shifted, tail_made}
use Rattle.fit.proofs.Privates.{private_moved}
use Rattle.fit.specs.Steps.{ranked}
use Rattle.fit.proofs.listing.configuration.Goals as goal

pub returns-clause-made : goal.returns-clause-made
returns-clause-made c = record {
  defaults = record {
    passes = refl;
    blocks = ap (λ r. r.default) c.limits.ensures.value;
    commits = ap (λ r. r.default) c.limits-2.ensures.value;
    one_in = ap (λ r. r.default) c.limits-3.ensures.value;
    snr = ap (λ r. r.default) c.limits-4.ensures.value;
    max_rows = ap (λ r. r.default) c.limits-5.ensures.value;
  };
  rank = refl;
  slices = refl;
  reserve = shifted c.args.frame.rank c.requires.sound.low;
  documents = refl;
  words = c.in_ok-listed.ensures.words;
  order = c.in_ok-listed.ensures.order;
  tail = tail_made c.args.frame.words c.args.frame.documents c.together.result c.tail.result (map ranked c.args.first.now) c.in_ok-listed.field-0 c.together.ensures c.in_ok-listed.ensures.words c.tail.ensures;
  private = private_moved c.args.frame.documents c.private_class.result (map ranked c.args.first.now) c.in_ok-listed.field-0 c.in_ok-listed.ensures.words
      c.private_class.ensures;
}

pub returns-clause-in_range : goal.returns-clause-in_range
returns-clause-in_range c =
    let few = c.requires.few in
    in_range_made c.args.frame (map ranked c.args.first.now) _ c.requires.sound c.requires.can (omega (arith, few, length-map c.args.first.now ranked)) (returns-clause-made c)
