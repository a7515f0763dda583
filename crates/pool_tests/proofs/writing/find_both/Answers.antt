use Rattle.std.proofs.Common.{◌≡◌, ◌⊎◌, ◌↔◌, ℕ, List, [], ◌∷◌, ◌++◌, length, ap, ◌∙◌, subst, inl, refl}
use Rattle.std.specs.List.{Contains}
use Rattle.funnel_model.specs.declared.event.Event.{Event}
use Rattle.funnel_model.specs.declared.event.Event.TheVariants as event
use Rattle.funnel_model.specs.Legal.{IsLegal}
use Rattle.pool_tests.proofs.Histories.{token_held, two_adds}
use Rattle.pool_tests.proofs.writing.find_both.Goals as goal

pub read_both-both-requires-clause-token : goal.read_both-both-requires-clause-token
read_both-both-requires-clause-token c =
    let adds = c.requires.adds in
    let limits = c.args.pool.now.limits in
    let history : c.catch_up.new.home.history ≡ two_adds adds.0 adds.1 adds.2 adds.3 = c.catch_up.ensures.home.history ∙ adds.4 in
    let legal = subst (IsLegal limits) history c.catch_up.ensures.legal in
    let made = c.make_event-opened_at.ensures in
    let front = made.seat.front ∙ ap (λ (h : List Event). h ++ event.Find 0 c.args.query ∷ []) (c.catch_up.ensures.front ∙ history) in
    let whole = made.home.history ∙ ap (λ (h : List Event). h ++ event.Find 0 c.args.query ∷ []) history in
    let number : c.make_event-opened_at.result ≡ 5 = made.number ∙ ap length whole in
    let has : (slice : ℕ) → Contains c.add.new.self slice ↔ ((slice ≡ 0) ⊎ Contains [] slice) =
    subst (λ (s : List ℕ). (slice : ℕ) → Contains c.add.new.self slice ↔ ((slice ≡ 0) ⊎ Contains s slice)) c.new-slices.ensures c.add.ensures in
    token_held adds.0 adds.2 c.args.query adds.1 adds.3 limits legal c.requires.sizes.1 c.requires.sizes.2 c.add.new.self has
    c.make_event-opened_at.new.seat c.args.pool.now c.make_event-opened_at.result refl
    (made.seat.pool ∙ c.catch_up.ensures.seat.pool ∙ c.requires.seat.0) (made.seat.number ∙ c.catch_up.ensures.seat.number ∙ c.requires.seat.1) front number

pub read_both-both-requires-clause-readable : goal.read_both-both-requires-clause-readable
read_both-both-requires-clause-readable c = (c.add.ensures 0).1 (inl refl)
