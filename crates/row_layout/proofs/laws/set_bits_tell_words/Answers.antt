use Rattle.funnel_model.specs.RowWords.{IsSetIn}
use Rattle.row_layout.proofs.SetBits.{set-exact, set-live, set-tells, taken-unset}
use Rattle.row_layout.proofs.laws.set_bits_tell_words.Goals as goal

pub returns-clause-exact : goal.returns-clause-exact
returns-clause-exact c limits opening history pool = set-exact limits opening history (IsSetIn pool)

pub returns-clause-live : goal.returns-clause-live
returns-clause-live c limits opening history pool = set-live limits opening history (IsSetIn pool)

pub returns-clause-words : goal.returns-clause-words
returns-clause-words c limits opening history pool = set-tells limits opening history (IsSetIn pool)

pub returns-clause-taken : goal.returns-clause-taken
returns-clause-taken c limits opening history pool = taken-unset limits opening history (IsSetIn pool)
