use Rattle.std.proofs.Common.{◌≡◌, ℕ, Some, None, sym, ◌∙◌, arith}
use Rattle.document_store.specs.Entries.{column_of}
use Rattle.index_tests.proofs.AddedLemmas.{absent-after, free-after, pairs-differ}
use Rattle.index_tests.proofs.live_numbers.fill.Goals as goal

none_some : (x : ℕ × ℕ) → None ≡ Some x → ⊥
none_some x is = cc

pub add-requires-clause-free : goal.add-requires-clause-free
add-requires-clause-free c =
    λ other there. none_some (0, 1) (sym (c.requires.empty other) ∙ there)

pub add-requires-clause-absent : goal.add-requires-clause-absent
add-requires-clause-absent c =
    c.requires.empty c.args.a

pub add-requires-2-clause-free : goal.add-requires-2-clause-free
add-requires-2-clause-free c =
    free-after (column_of c.args.live.now) (column_of c.add.new.self) c.args.a (0, 1) (1, 0) c.add.ensures.columns (pairs-differ 0 1 1 0 (λ s t. omega (arith, s, t)))
    (λ other there. none_some (1, 0) (sym (c.requires.empty other) ∙ there))

pub add-requires-2-clause-absent : goal.add-requires-2-clause-absent
add-requires-2-clause-absent c =
    absent-after (column_of c.args.live.now) (column_of c.add.new.self) c.args.a (Some (0, 1)) c.args.b c.add.ensures.columns (λ e. c.requires.first.0 (sym e))
    (c.requires.empty c.args.b)

pub add-requires-3-clause-free : goal.add-requires-3-clause-free
add-requires-3-clause-free c =
    free-after (column_of c.add.new.self) (column_of c.add-2.new.self) c.args.b (1, 0) (0, 0) c.add-2.ensures.columns (pairs-differ 1 0 0 0 (λ s t. omega (arith, s, t)))
    (free-after (column_of c.args.live.now) (column_of c.add.new.self) c.args.a (0, 1) (0, 0) c.add.ensures.columns (pairs-differ 0 1 0 0 (λ s t. omega (arith, s, t)))
    (λ other there. none_some (0, 0) (sym (c.requires.empty other) ∙ there)))

pub add-requires-3-clause-absent : goal.add-requires-3-clause-absent
add-requires-3-clause-absent c =
    absent-after (column_of c.add.new.self) (column_of c.add-2.new.self) c.args.b (Some (1, 0)) c.args.c c.add-2.ensures.columns (λ e. c.requires.later.0 (sym e))
    (absent-after (column_of c.args.live.now) (column_of c.add.new.self) c.args.a (Some (0, 1)) c.args.c c.add.ensures.columns (λ e. c.requires.first.1 (sym e))
    (c.requires.empty c.args.c))

pub add-requires-4-clause-free : goal.add-requires-4-clause-free
add-requires-4-clause-free c =
    free-after (column_of c.add-2.new.self) (column_of c.add-3.new.self) c.args.c (0, 0) (1, 1) c.add-3.ensures.columns (pairs-differ 0 0 1 1 (λ s t. omega (arith, s, t)))
    (free-after (column_of c.add.new.self) (column_of c.add-2.new.self) c.args.b (1, 0) (1, 1) c.add-2.ensures.columns (pairs-differ 1 0 1 1 (λ s t. omega (arith, s, t)))
    (free-after (column_of c.args.live.now) (column_of c.add.new.self) c.args.a (0, 1) (1, 1) c.add.ensures.columns (pairs-differ 0 1 1 1 (λ s t. omega (arith, s, t)))
    (λ other there. none_some (1, 1) (sym (c.requires.empty other) ∙ there))))

pub add-requires-4-clause-absent : goal.add-requires-4-clause-absent
add-requires-4-clause-absent c =
    absent-after (column_of c.add-2.new.self) (column_of c.add-3.new.self) c.args.c (Some (0, 0)) c.args.d c.add-3.ensures.columns (λ e. c.requires.later.2 (sym e))
    (absent-after (column_of c.add.new.self) (column_of c.add-2.new.self) c.args.b (Some (1, 0)) c.args.d c.add-2.ensures.columns (λ e. c.requires.later.1 (sym e))
    (absent-after (column_of c.args.live.now) (column_of c.add.new.self) c.args.a (Some (0, 1)) c.args.d c.add.ensures.columns (λ e. c.requires.first.2 (sym e))
    (c.requires.empty c.args.d)))

pub returns-clause-only : goal.returns-clause-only
returns-clause-only c id na nb nc nd =
    absent-after (column_of c.add-3.new.self) (column_of c.add-4.new.self) c.args.d (Some (1, 1)) id c.add-4.ensures.columns nd
    (absent-after (column_of c.add-2.new.self) (column_of c.add-3.new.self) c.args.c (Some (0, 0)) id c.add-3.ensures.columns nc
    (absent-after (column_of c.add.new.self) (column_of c.add-2.new.self) c.args.b (Some (1, 0)) id c.add-2.ensures.columns nb
    (absent-after (column_of c.args.live.now) (column_of c.add.new.self) c.args.a (Some (0, 1)) id c.add.ensures.columns na
    (c.requires.empty id))))
