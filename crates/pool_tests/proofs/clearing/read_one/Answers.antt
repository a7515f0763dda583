use Rattle.std.proofs.Common.{◌≡◌, ◌⊎◌, ◌↔◌, ℕ, List, [], refl, ap, subst, inl, arith}
use Rattle.std.specs.List.{Contains}
use Rattle.funnel_model.specs.Legal.{Limits}
use Rattle.pool_tests.proofs.Cleared.{bit_committed, token_held}
use Rattle.pool_tests.proofs.clearing.read_one.Goals as goal

pub read_word-word-requires-clause-token : goal.read_word-word-requires-clause-token
read_word-word-requires-clause-token c =
    let has : (slice : ℕ) → Contains c.add.new.self slice ↔ ((slice ≡ 1) ⊎ Contains [] slice) =
    subst (λ (s : List ℕ). (slice : ℕ) → Contains c.add.new.self slice ↔ ((slice ≡ 1) ⊎ Contains s slice)) c.new-slices.ensures c.add.ensures in
    let seat = c.requires.seat in
    token_held c.add.new.self has c.args.seat c.args.pool.now c.args.opened_at c.requires.sizes seat.0 seat.1 seat.2 c.requires.number

pub read_word-word-requires-clause-inside : goal.read_word-word-requires-clause-inside
read_word-word-requires-clause-inside c =
    let one : c.args.pool.now.limits.slice_words ≡ 1 = ap (λ (l : Limits). l.slice_words) c.requires.sizes in
    (1, (c.add.ensures 1).1 (inl refl), record { from = omega arith; to = omega arith })

pub returns-clause-committed : goal.returns-clause-committed
returns-clause-committed c =
    c.read_word-word.ensures.least 1 5 ((c.add.ensures 1).1 (inl refl)) (bit_committed c.args.seat.front c.requires.seat.2)
