use Rattle.funnel_stats.proofs.ObjectOrder.{ordered-object_of, IsInNameOrder-entries, IsInNameOrder-listed}
use Rattle.funnel_stats.proofs.laws.entries_are_in_byte_order.Goals as goal

pub returns : goal.returns
returns c bytes object is =
    let ordered = ordered-object_of bytes object is in (IsInNameOrder-entries object ordered, IsInNameOrder-listed object ordered)
