use Rattle.std.proofs.Common.{refl}
use Rattle.commit_desk.proofs.laws.answers_are_by_tests.Goals as goal

pub returns : goal.returns
returns c = record { query = λ history query. refl; expression = λ history expr. refl }
