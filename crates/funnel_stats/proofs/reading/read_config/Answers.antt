-- A fault of taking the bytes is that of the configuration.
use Rattle.std.proofs.lemmas.Result.{err_from_is_err_and}
use Rattle.funnel_stats.proofs.ConfigurationLemmas.{taking_fault}
use Rattle.funnel_stats.proofs.reading.read_config.Goals as goal

pub returns-in_err-bytes-clause-answer : goal.returns-in_err-bytes-clause-answer
returns-in_err-bytes-clause-answer g c =
    let p = err_from_is_err_and c.from_residual.result c.from_residual.ensures.1 in
    let taken = c.in_err-bytes.ensures.taken in
    rw (p.1, p.2) (record {
      bytes = taken.bytes;
      takes = taken.takes;
      few = taken.few;
      answers = taking_fault c.in_err-bytes.field-0.0 taken.bytes _ taken.answers;
    })
