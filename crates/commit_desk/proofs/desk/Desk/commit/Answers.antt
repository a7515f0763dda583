use Rattle.std.proofs.Common.{◌≡◌, true, sym, ap, ◌∙◌, subst}
use Rattle.funnel_model.specs.History.{is_live}
use Rattle.funnel_model.specs.Legal.{IsLegal}
use Rattle.slice_rule.specs.Pools.{PoolId}
use Rattle.commit_desk.specs.Desks.{DeskState}
use Rattle.commit_desk.specs.Passes.{HasWritten}
use Rattle.commit_desk.proofs.Checks.{dropped_is_live}
use Rattle.commit_desk.proofs.HeldClaims.{claim_held, of_words, written_held}
use Rattle.commit_desk.proofs.desk.Desk.commit.Goals as goal

pub make_add-requires-clause-written : goal.make_add-requires-clause-written
make_add-requires-clause-written c =
    let up = c.catch_up.ensures in
    let home = c.catch_up.new.home in
    let pool : c.args.self.now.pool ≡ home.pool = sym (up.home.pool ∙ ap (λ (d : DeskState). d.pool) c.self.view_is) in
    let whole : c.args.self.now.history ≡ c.catch_up.new.seat.front = sym (ap (λ (d : DeskState). d.history) c.self.view_is) ∙ sym (up.front ∙ up.home.history) in
    let legal : IsLegal c.args.self.now.pool.limits c.catch_up.new.seat.front =
    subst (IsLegal c.args.self.now.pool.limits) whole (subst (λ (d : DeskState). IsLegal d.pool.limits d.history) c.self.view_is c.self.invariant.desk.kept.legal) in
    subst (λ (p : PoolId). HasWritten p c.args.claim c.args.doc.words c.args.bits.now.bits c.catch_up.new.seat) pool
    (written_held c.args.seat.now c.catch_up.new.seat up.seat up.none_since c.args.self.now.pool c.args.claim c.args.doc.words c.args.bits.now.bits legal up.none_outstanding c.requires.written)

pub make_add-requires-clause-of_words : goal.make_add-requires-clause-of_words
make_add-requires-clause-of_words c = of_words c.requires.written.document

pub make_drop-requires-clause-claim : goal.make_drop-requires-clause-claim
make_drop-requires-clause-claim c = let up = c.catch_up.ensures in claim_held c.args.seat.now c.catch_up.new.seat up.seat up.none_since c.args.claim c.requires.written.holds

pub make_drop-requires-clause-present : goal.make_drop-requires-clause-present
make_drop-requires-clause-present c =
    let home = c.catch_up.new.home in
    subst (λ n. is_live n home.history ≡ true) c.id.ensures (dropped_is_live home.history c.id.result c.in-Err.fault c.in-Err.ensures)
