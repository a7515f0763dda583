-- No value is a fault, and each number is that of its key.
use Rattle.std.proofs.Common.{◌≡◌, Option, None, refl, arith}
use Rattle.std.specs.Option.{option_or}
use Rattle.serde_json.specs.View.{members_view}
use Rattle.funnel_stats.specs.declared.fault.ConfigFault.{ConfigFault}
use Rattle.funnel_stats.proofs.ConfigLemmas.{config_of-numbers}
use Rattle.funnel_stats.proofs.Validity.{number_at-words}
use Rattle.funnel_stats.proofs.numbers.read_numbers.Goals as goal

neither : (first others : Option ConfigFault) → first ≡ None → others ≡ None → option_or first others ≡ None
neither first others none rest = rw (none, rest)

pub returns-clause-answer : goal.returns-clause-answer
returns-clause-answer c =
    let passes = c.in_ok-passes.ensures.answer in
    let slices = c.in_ok-slices.ensures.answer in
    let blocks = c.in_ok-blocks.ensures.answer in
    let max_rank = c.in_ok-max_rank.ensures.answer in
    let commits = c.in_ok-commits.ensures.answer in
    let reserve = c.in_ok-reserve.ensures.answer in
    let one_in = c.in_ok-one_in.ensures.answer in
    let snr = c.in_ok-snr.ensures.answer in
    let documents = c.in_ok-documents.ensures.answer in
    let tail = c.in_ok-tail.ensures.answer in
    let max_rows = c.in_ok-max_rows.ensures.answer in
    let private = c.in_ok-private.ensures.answer in
    let words = c.in_ok-_count.ensures.answer in (
      neither _ _ passes.0 (neither _ _ slices.0 (neither _ _ blocks.0 (neither _ _ max_rank.0 (neither _ _ commits.0 (
          neither _ _ reserve.0 (neither _ _ one_in.0 (neither _ _ snr.0 (neither _ _ documents.0 (neither _ _ tail.0 (neither _ _ max_rows.0 (
          neither _ _ private.0 (neither _ _ words.0 refl)))))))))))),
      config_of-numbers (members_view c.args.object.now.entries) _ _ _ _ _ _ _ _ _ _ _ _ _
          passes.1 slices.1 blocks.1 max_rank.1 commits.1 reserve.1 one_in.1 snr.1 documents.1 tail.1 max_rows.1 private.1 c.no_words.ensures.words,
    )

pub returns-clause-few : goal.returns-clause-few
returns-clause-few c =
    let listed = number_at-words (members_view c.args.object.now.entries) in
    let count = c.in_ok-_count.ensures.answer.1 in
    omega (arith, listed, count, c.in_ok-_count.ensures.high)
