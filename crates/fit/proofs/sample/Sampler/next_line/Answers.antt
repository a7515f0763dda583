use Rattle.std.proofs.Common.{◌≡◌, ◌∙◌, ℕ, List, None, ap, arith, refl, sym, subst}
use Rattle.funnel_io.specs.Calls.{bytes_read}
use Rattle.fit.proofs.Sampling.{item_of-long, sampled-end, sampled-line, stops, texts_of-none}
use Rattle.fit.specs.Adds.{text_added}
use Rattle.fit.specs.Samples.{texts_of}
use Rattle.fit.specs.Steps.{HasCounted, entries_of}
use Rattle.fit.specs.declared.ends.FitEnd.TheVariants as end_of
use Rattle.line_proto.specs.Forms.{item_of}
use Rattle.fit.proofs.sample.Sampler.next_line.Goals as goal

pub returns-in-Ok-clause-goes_on : goal.returns-in-Ok-clause-goes_on
returns-in-Ok-clause-goes_on g c before p =
    let e = c.in-Whole.ensures in
    let line = c.next_line.new.self.line in
    sampled-line c.args.limit c.args.self.now.left c.next_line.new.left c.args.self.now.reader c.next_line.new.self
    (entries_of c.args.self.now.tally.counts.entries) (entries_of c.count_line.new.tally.counts.entries) _ _ _ _
    before (g.S.Source.incoming c.args.input.now) (g.S.Source.incoming c.next_line.new.conn) p
    (bytes_read e.next.reads) e.next.takes e.next.count e.faults (e.at_end p.knows_end) line (e.next.gives p.taken p.given p.has_given)
    (rw c.line.ensures at c.in-Ok.ensures.counted (texts_of p.given) p.counted) c.in-Ok.ensures.one_more (e.fewer tt)

pub returns-in-Err-clause-ends : goal.returns-in-Err-clause-ends
returns-in-Err-clause-ends g c before p =
    let e = c.in-Whole.ensures in
    stops c.args.limit c.args.self.now.left c.next_line.new.left c.args.self.now.reader _ _ _ before (g.S.Source.incoming c.args.input.now) (g.S.Source.incoming c.next_line.new.conn) p
    (bytes_read e.next.reads) e.next.takes e.next.count end_of.Memory (λ all. (omega arith, e.faults ∙ p.reads_stay))

pub returns-in-Long-clause-goes_on : goal.returns-in-Long-clause-goes_on
returns-in-Long-clause-goes_on g c before p =
    let e = c.in-Long.ensures in
    let gives = e.next.gives p.taken p.given p.has_given in
    let none : text_added (item_of gives.0) ≡ None = ap text_added (item_of-long gives.0 gives.1) in
    sampled-line c.args.limit c.args.self.now.left c.next_line.new.left c.args.self.now.reader c.next_line.new.self
    (entries_of c.args.self.now.tally.counts.entries) (entries_of c.args.self.now.tally.counts.entries) _ _ _ _
    before (g.S.Source.incoming c.args.input.now) (g.S.Source.incoming c.next_line.new.conn) p
    (bytes_read e.next.reads) e.next.takes e.next.count e.faults (e.at_end p.knows_end) gives.0 gives.2
    (subst (λ (texts : List (List ℕ)). HasCounted texts (entries_of c.args.self.now.tally.counts.entries) c.args.self.now.tally.documents c.args.self.now.tally.words)
    (sym (texts_of-none (texts_of p.given) gives.0 none)) p.counted)
    (omega arith) (e.fewer tt)

pub returns-in-Finished-clause-goes_on : goal.returns-in-Finished-clause-goes_on
returns-in-Finished-clause-goes_on g c before p =
    let e = c.in-Finished.ensures in
    let gives = e.next.gives p.taken p.given p.has_given in
    let knows = e.at_end p.knows_end gives.1 in
    sampled-end c.args.limit c.args.self.now.left c.next_line.new.left c.args.self.now.reader c.next_line.new.self
    (entries_of c.args.self.now.tally.counts.entries) (entries_of c.args.self.now.tally.counts.entries) _ _ 0 0
    before (g.S.Source.incoming c.args.input.now) (g.S.Source.incoming c.next_line.new.conn) p
    (bytes_read e.next.reads) e.next.takes e.next.count e.faults gives.0 knows.0 knows.1

pub returns-in-Failed-clause-ends : goal.returns-in-Failed-clause-ends
returns-in-Failed-clause-ends g c before p =
    let e = c.in-Failed.ensures in
    let below = e.limits.below_limit refl in
    stops c.args.limit c.args.self.now.left c.next_line.new.left c.args.self.now.reader _ _ _ before (g.S.Source.incoming c.args.input.now) (g.S.Source.incoming c.next_line.new.conn) p
    (bytes_read e.next.reads) e.next.takes e.next.count end_of.ReadFault (λ all. (omega arith, e.faults ∙ rw p.reads_stay refl))

pub returns-in-Limit-clause-ends : goal.returns-in-Limit-clause-ends
returns-in-Limit-clause-ends g c before p =
    let e = c.in-Limit.ensures in
    let none = e.limits.at_limit refl in
    stops c.args.limit c.args.self.now.left c.next_line.new.left c.args.self.now.reader _ _ _ before (g.S.Source.incoming c.args.input.now) (g.S.Source.incoming c.next_line.new.conn) p
    (bytes_read e.next.reads) e.next.takes e.next.count (end_of.ByteLimit c.args.limit) (λ all. (refl, omega arith, e.faults ∙ p.reads_stay))
