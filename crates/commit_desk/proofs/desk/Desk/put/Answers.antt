use Rattle.std.proofs.Common.{◌≡◌, ◌+◌, true, false, refl, sym, ap, ◌∙◌, subst}
use Rattle.std.specs.Option.{is_some}
use Rattle.funnel_model.specs.History.{is_live, place}
use Rattle.funnel_model.specs.Legal.{IsLegal}
use Rattle.slice_rule.specs.Pools.{PoolId}
use Rattle.commit_desk.specs.Desks.{DeskState}
use Rattle.commit_desk.specs.Leaving.{GivesBackOld}
use Rattle.commit_desk.specs.Passes.{HasWritten}
use Rattle.commit_desk.proofs.Checks.{absent_by_place, live_by_place}
use Rattle.commit_desk.proofs.FindTurns.{desk_is}
use Rattle.commit_desk.proofs.HeldClaims.{of_words, written_held}
use Rattle.commit_desk.proofs.desk.Desk.put.Goals as goal

-- what the pass wrote it has written still once it has caught up
pub make_add-requires-clause-written : goal.make_add-requires-clause-written
make_add-requires-clause-written c =
    let up = c.catch_up.ensures in
    let home = c.catch_up.new.home in
    let pool : c.args.self.now.pool ≡ home.pool = sym (up.home.pool ∙ ap (λ (d : DeskState). d.pool) c.self.view_is) in
    let whole : c.args.self.now.history ≡ c.catch_up.new.seat.front = sym (ap (λ (d : DeskState). d.history) c.self.view_is) ∙ sym (up.front ∙ up.home.history) in
    let legal : IsLegal c.args.self.now.pool.limits c.catch_up.new.seat.front =
    subst (IsLegal c.args.self.now.pool.limits) whole (subst (λ (d : DeskState). IsLegal d.pool.limits d.history) c.self.view_is c.self.invariant.desk.kept.legal) in
    subst (λ (p : PoolId). HasWritten p c.args.claim c.args.doc.words c.args.bits.now.bits c.catch_up.new.seat) pool
    (written_held c.args.seat.now c.catch_up.new.seat up.seat up.none_since c.args.self.now.pool c.args.claim c.args.doc.words c.args.bits.now.bits legal up.none_outstanding c.requires.written)

pub make_add-requires-clause-of_words : goal.make_add-requires-clause-of_words
make_add-requires-clause-of_words c = of_words c.requires.written.document

pub make_replace-made-requires-clause-written : goal.make_replace-made-requires-clause-written
make_replace-made-requires-clause-written c =
    let up = c.catch_up.ensures in
    let home = c.catch_up.new.home in
    let pool : c.args.self.now.pool ≡ home.pool = sym (up.home.pool ∙ ap (λ (d : DeskState). d.pool) c.self.view_is) in
    let whole : c.args.self.now.history ≡ c.catch_up.new.seat.front = sym (ap (λ (d : DeskState). d.history) c.self.view_is) ∙ sym (up.front ∙ up.home.history) in
    let legal : IsLegal c.args.self.now.pool.limits c.catch_up.new.seat.front =
    subst (IsLegal c.args.self.now.pool.limits) whole (subst (λ (d : DeskState). IsLegal d.pool.limits d.history) c.self.view_is c.self.invariant.desk.kept.legal) in
    subst (λ (p : PoolId). HasWritten p c.args.claim c.args.doc.words c.args.bits.now.bits c.catch_up.new.seat) pool
    (written_held c.args.seat.now c.catch_up.new.seat up.seat up.none_since c.args.self.now.pool c.args.claim c.args.doc.words c.args.bits.now.bits legal up.none_outstanding c.requires.written)

pub make_replace-made-requires-clause-of_words : goal.make_replace-made-requires-clause-of_words
make_replace-made-requires-clause-of_words c = of_words c.requires.written.document

-- a document is added where its number is not live
pub make_add-requires-clause-may : goal.make_add-requires-clause-may
make_add-requires-clause-may c =
    let home = c.catch_up.new.home in (
      subst (λ n. is_live n home.history ≡ false) c.id.ensures
          (absent_by_place home.history c.id.result (ap is_some (sym c.place_of.ensures) ∙ sym c.is_some.ensures ∙ c.if-is_some.false)),
      refl,
    )

-- and takes the place of the live one where it is
pub make_replace-made-requires-clause-present : goal.make_replace-made-requires-clause-present
make_replace-made-requires-clause-present c =
    let home = c.catch_up.new.home in
    subst (λ n. is_live n home.history ≡ true) c.id.ensures
    (live_by_place home.history c.id.result (ap is_some (sym c.place_of.ensures) ∙ sym c.is_some.ensures ∙ c.if-is_some.true))

-- and so it is told
pub returns-then-is_some-clause-answer : goal.returns-then-is_some-clause-answer
returns-then-is_some-clause-answer c =
    let i = c.self.inside in
    let home = c.catch_up.new.home in
    subst (λ (d : DeskState). (is_live c.args.doc.id d.history ≡ true) × (c.make_replace-made.result.0 ≡ place d.history + 1))
    (desk_is c.args.self.now i.home home i.events_limit c.self.view_is c.catch_up.ensures.home) (
      subst (λ n. is_live n home.history ≡ true) c.id.ensures
          (live_by_place home.history c.id.result (ap is_some (sym c.place_of.ensures) ∙ sym c.is_some.ensures ∙ c.if-is_some.true)),
      c.make_replace-made.ensures.place,
    )

pub returns-clause-answer : goal.returns-clause-answer
returns-clause-answer c =
    let i = c.self.inside in
    let home = c.catch_up.new.home in
    subst (λ (d : DeskState). (is_live c.args.doc.id d.history ≡ false) × (c.make_add.result ≡ place d.history + 1))
    (desk_is c.args.self.now i.home home i.events_limit c.self.view_is c.catch_up.ensures.home) (
      subst (λ n. is_live n home.history ≡ false) c.id.ensures
          (absent_by_place home.history c.id.result (ap is_some (sym c.place_of.ensures) ∙ sym c.is_some.ensures ∙ c.if-is_some.false)),
      c.make_add.ensures.place,
    )

-- the old document is given back as it is made to be
pub returns-then-is_some-clause-gone : goal.returns-then-is_some-clause-gone
returns-then-is_some-clause-gone c =
    let i = c.self.inside in
    let home = c.catch_up.new.home in
    subst (λ (d : DeskState). GivesBackOld d.history c.args.doc.id c.make_replace-made.result.1) (desk_is c.args.self.now i.home home i.events_limit c.self.view_is c.catch_up.ensures.home) c.make_replace-made.ensures.gone
