use Rattle.std.proofs.Common.{◌≤◌, sym, ap, ◌∙◌, length, map, take, arith, append-nil}
use Rattle.std.specs.List.{concat}
use Rattle.std.proofs.lemmas.List.{length-map}
use Rattle.funnel_io.specs.Memory.{SourceState, unread}
use Rattle.funnel_io.proofs.PlaceLaws.{concat-read_at, taken-read_at, concat-unread, none-past}
use Rattle.funnel_io.proofs.mem_source.MemSourceSource.read.Goals as goal

pub returns-clause-takes : goal.returns-clause-takes
returns-clause-takes c =
    let next_is = rw c.deref-2.ensures.value at c.next_place-at.ensures.unread in
    let taken_is = rw c.deref-2.ensures.value at c.next_place-at.ensures.taken in
    let read_is = rw (c.piece.ensures, c.deref-3.ensures.value) at c.copy_from-n.ensures.copied in
    let old_is = ap (λ (v : SourceState). unread v.pieces) c.self.view_is in
    let old_taken = ap (λ (v : SourceState). v.taken) c.self.view_is in
    record {
      left = (concat-read_at c.args.self.now.pieces (map (λ piece. piece.items) c.self.inside.pieces.items)
          c.next_place-at.result.0 c.next_place-at.result.1 c.copy_from-n.result
          (take c.copy_from-n.result c.copy_from-n.new.room) (next_is ∙ old_is) read_is);
      taken = (taken-read_at c.args.self.now.taken (map (λ piece. piece.items) c.self.inside.pieces.items)
          c.next_place-at.result.0 c.next_place-at.result.1 c.copy_from-n.result
          (take c.copy_from-n.result c.copy_from-n.new.room) (taken_is ∙ old_taken) read_is);
    }

pub returns-then-at-len-clause-end : goal.returns-then-at-len-clause-end
returns-then-at-len-clause-end c =
    let past : length (map (λ piece. piece.items) c.self.inside.pieces.items) ≤ c.next_place-at.result.0 =
    rw length-map (omega (arith, c.len.ensures)) in
    ap concat (none-past (map (λ piece. piece.items) c.self.inside.pieces.items) c.next_place-at.result.0 c.next_place-at.result.1 past)

pub returns-then-at-len-clause-takes : goal.returns-then-at-len-clause-takes
returns-then-at-len-clause-takes c =
    let next_is = rw c.deref-2.ensures.value at c.next_place-at.ensures.unread in
    let taken_is = rw c.deref-2.ensures.value at c.next_place-at.ensures.taken in
    let old_is = ap (λ (v : SourceState). unread v.pieces) c.self.view_is in
    let old_taken = ap (λ (v : SourceState). v.taken) c.self.view_is in
    record {
      left = sym (ap concat (next_is ∙ old_is) ∙ concat-unread c.args.self.now.pieces);
      taken = taken_is ∙ (old_taken ∙ sym (append-nil c.args.self.now.taken));
    }
