-- The draws and the numbers compute.
use Rattle.std.proofs.Common.{refl}
use Rattle.std.specs.Fmt.{digits}
use Rattle.load_gen.proofs.laws.example_jobs.Goals as goal

pub returns-clause-documents : goal.returns-clause-documents
unfolding digits
returns-clause-documents c = refl

pub returns-clause-second : goal.returns-clause-second
unfolding digits
returns-clause-second c = refl

pub returns-clause-hundredth : goal.returns-clause-hundredth
unfolding digits
returns-clause-hundredth c = refl
