use Rattle.std.proofs.Common.{sym, ap, ◌∙◌}
use Rattle.funnel_io.specs.LineBuffers.{HeldBytes}
use Rattle.funnel_io.proofs.Holding.{clean_without, clean_before, split_at_newline, in_place_searched}
use Rattle.funnel_io.proofs.line_buffer.LineBuffer.take_line.Goals as goal

pub invariant_of-self-in-None : goal.invariant_of-self-in-None
invariant_of-self-in-None c =
    in_place_searched _ _ _ _ _ _ c.self.invariant
    (clean_without c.self.inside.buffer.items c.self.inside.start c.self.inside.searched c.self.inside.end
    c.self.invariant.in_order c.self.invariant.not_past_end c.self.invariant.clean
    (rw c.deref.ensures.value at c.in-None.ensures))

pub returns-in-Some-clause-bytes : goal.returns-in-Some-clause-bytes
returns-in-Some-clause-bytes c =
    ap (λ (held : HeldBytes). held.bytes) (sym c.self.view_is)
    ∙ split_at_newline c.self.inside.buffer.items c.self.inside.start c.self.inside.searched c.self.inside.end c.in-Some.at
    c.self.invariant.in_order c.self.invariant.not_past_end c.self.invariant.within
    (rw c.deref.ensures.value at c.in-Some.ensures)

pub returns-in-Some-clause-clean : goal.returns-in-Some-clause-clean
returns-in-Some-clause-clean c =
    clean_before c.self.inside.buffer.items c.self.inside.start c.self.inside.searched c.self.inside.end c.in-Some.at
    c.self.invariant.in_order c.self.invariant.not_past_end c.self.invariant.within c.self.invariant.clean
    (rw c.deref.ensures.value at c.in-Some.ensures)

pub returns-in-None-clause-clean : goal.returns-in-None-clause-clean
returns-in-None-clause-clean c =
    clean_without c.self.inside.buffer.items c.self.inside.start c.self.inside.searched c.self.inside.end
    c.self.invariant.in_order c.self.invariant.not_past_end c.self.invariant.clean
    (rw c.deref.ensures.value at c.in-None.ensures)
