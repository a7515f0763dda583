-- The codes that C is answered, and their numbers in `funnel.h`.
use Rattle.std.specs.Prelude.{ℕ}
use Rattle.funnel_c.specs.declared.code.Code.{Code}
use Rattle.funnel_c.specs.declared.code.Code.TheVariants as code

abbrev pub number_of : Code → ℕ
number_of code.Done = 0
number_of code.Closed = 1
number_of code.Open = 2
number_of code.NotUtf8 = 3
number_of code.NoConfig = 4
number_of code.Present = 5
number_of code.Full = 6
number_of code.Absent = 7
number_of code.Trimmed = 8
number_of code.Syntax = 9
number_of code.Deep = 10
number_of code.Spent = 11
number_of code.Memory = 12
number_of code.Misfit = 13
