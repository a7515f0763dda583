use Rattle.std.proofs.Common.{◌≡◌, ◌*◌, ◌^◌, cond, refl, sym, ap, ◌∙◌, arith}
use Rattle.std.proofs.lemmas.Bool.{le-leb, lt-leb}
use Rattle.shard_set.specs.Parts.{shard_for}
use Rattle.shard_set.proofs.Shards.{least_fits, least_more, shard_below, shard_for-more, shard_for-one}
use Rattle.shard_set.proofs.parting.shard_for.Goals as goal
use Rattle.shard_set.proofs.parting.shard_for.Goals.{then-words-least, else-words-least}

pub loop-k-init : goal.loop-k-init
loop-k-init c = (refl, sym (shard_for-one c.args.words))

pub overflow_mul-least : goal.overflow_mul-least
overflow_mul-least c = least_fits c.loop-k.k c.loop-k.least (omega arith) c.loop-k.invariant.0

pub loop-k-preserved : goal.loop-k-preserved
loop-k-preserved c = (
  least_more c.loop-k.k c.loop-k.least c.loop-k.invariant.0,
  elim c.if-words-least.branch [
    | then-words-least w ↦
        w.shard-is
        ∙ sym (shard_for-more c.loop-k.k c.args.words
        ∙ ap (λ b. cond b c.loop-k.k (shard_for c.loop-k.k c.args.words)) (le-leb (2 * 4 ^ c.loop-k.k) c.args.words (omega (arith, c.loop-k.invariant.0))))
    | else-words-least w ↦
        w.shard-is ∙ c.loop-k.invariant.1
        ∙ sym (shard_for-more c.loop-k.k c.args.words
        ∙ ap (λ b. cond b c.loop-k.k (shard_for c.loop-k.k c.args.words)) (lt-leb (2 * 4 ^ c.loop-k.k) c.args.words (omega (arith, c.loop-k.invariant.0))))
  ],
)

pub returns-clause-in_range : goal.returns-clause-in_range
returns-clause-in_range c =
    let all : c.loop-k.k ≡ c.args.shards = omega arith in
    let low = shard_below c.args.shards c.args.words c.requires.some in
    omega (arith, c.loop-k.invariant.1, ap (λ n. shard_for n c.args.words) all, low)
