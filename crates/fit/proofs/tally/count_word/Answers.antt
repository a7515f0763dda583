use Rattle.std.proofs.Common.{◌≡◌, ◌+◌, ◌∷◌, [], ◌++◌, ◌∙◌, None, ap, arith, refl, sym, rules}
use Rattle.std.specs.Map.{lookup}
use Rattle.fit.proofs.Counting.{count-le-total, counts-new, counts-set, has_bytes}
use Rattle.fit.specs.Steps.{CountsMore, entries_of}
use Rattle.fit.proofs.tally.count_word.Goals as goal

pub overflow_add-count : goal.overflow_add-count
overflow_add-count c = omega (arith, c.requires.room, count-le-total c.args.word.now c.args.counts.now.entries c.in-Some.count.now (sym c.in-Some.ensures.value))

pub returns-in-Some : goal.returns-in-Some
returns-in-Some c =
    let holds = c.get_mut.follows.holds (c.in-Some.count.now + 1) in
    let was = sym c.in-Some.ensures.value in
    let updates = holds.3 (rw was refl) in
    record {
      counted = counts-set c.args.word.now c.args.counts.now.entries (c.get_mut.follows.lender (c.in-Some.count.now + 1)).entries c.in-Some.count.now was holds.0 updates.3 updates.1 holds.4;
    }

pub returns : goal.returns
returns c =
    let key = c.extend_from_slice.new.self in
    let same : key.items ≡ c.args.word.now = c.in_ok-extend_from_slice.ensures.items ∙ ap (λ bytes. bytes ++ c.args.word.now) c.in_ok-key.ensures.items in
    let before = c.get_mut.follows.lender-at-none in
    let kept : before ≡ c.args.counts.now = c.get_mut.follows.holds-at-none in
    let was : lookup (has_bytes c.args.word.now) c.args.counts.now.entries ≡ None = search (rules, c.in_default.ensures.value) in
    let none : lookup (has_bytes key.items) before.entries ≡ None = rw (same, kept) was in
    let e = c.in_ok-insert.ensures in
    let gone : c.in_ok-insert.field-0 ≡ None = e.old ∙ none in
    let more : CountsMore (entries_of before.entries) (entries_of c.insert.new.self.entries) (key.items ∷ []) =
    counts-new key before.entries c.insert.new.self.entries none (rw gone at e.entries) e.updates.3 e.updates.1 e.unique in
    record { counted = rw (kept, same) at more }
