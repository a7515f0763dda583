use Rattle.std.proofs.Common.{◌⊎◌, ◌↔◌, List, subst}
use Rattle.std.specs.List.{Contains}
use Rattle.slice_rule.specs.declared.view.Fact.{Fact}
use Rattle.slice_rule.specs.Numbers.{last_number}
use Rattle.column_writer.specs.Written.{IsBitOf}
use Rattle.pool_tests.proofs.writing.written_as.Goals as goal

pub returns-clause-bits : goal.returns-clause-bits
returns-clause-bits c =
    let number = last_number c.args.seat.number c.args.seat.front in
    subst (λ (fs : List Fact). (f : Fact) → Contains c.write_column.new.seat.own f ↔ (Contains fs f ⊎ IsBitOf number c.args.bits.now.bits f)) c.requires.own c.write_column.ensures.facts
