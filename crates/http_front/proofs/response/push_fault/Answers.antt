use Rattle.std.proofs.Common.{arith}
use Rattle.std.proofs.lemmas.Fmt.{length-decimal-le}
use Rattle.http_front.proofs.response.push_fault.Goals as goal

pub returns-in_err-extend_from_slice-clause-digits : goal.returns-in_err-extend_from_slice-clause-digits
returns-in_err-extend_from_slice-clause-digits c = length-decimal-le 20 c.args.number (omega arith) (omega arith) (omega arith)

pub returns-in_err-extend_from_slice-2-clause-digits : goal.returns-in_err-extend_from_slice-2-clause-digits
returns-in_err-extend_from_slice-2-clause-digits c = length-decimal-le 20 c.args.number (omega arith) (omega arith) (omega arith)

pub returns-in_err-extend_from_slice-3-clause-digits : goal.returns-in_err-extend_from_slice-3-clause-digits
returns-in_err-extend_from_slice-3-clause-digits c = length-decimal-le 20 c.args.number (omega arith) (omega arith) (omega arith)

pub returns-in_err-extend_from_slice-4-clause-digits : goal.returns-in_err-extend_from_slice-4-clause-digits
returns-in_err-extend_from_slice-4-clause-digits c = length-decimal-le 20 c.args.number (omega arith) (omega arith) (omega arith)
