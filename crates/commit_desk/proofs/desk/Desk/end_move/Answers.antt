use Rattle.std.proofs.Common.{◌≡◌, sym, ap, ◌∙◌, subst}
use Rattle.funnel_model.specs.History.{has_cause}
use Rattle.funnel_model.specs.Legal.{IsLegal}
use Rattle.slice_rule.specs.Pools.{PoolId}
use Rattle.commit_desk.specs.Desks.{DeskState}
use Rattle.commit_desk.specs.Leaving.{GivesBackOld}
use Rattle.commit_desk.specs.Passes.{HasWritten}
use Rattle.commit_desk.proofs.FindTurns.{desk_is}
use Rattle.commit_desk.proofs.HeldClaims.{claim_held, look_held, of_words, written_held}
use Rattle.commit_desk.proofs.desk.Desk.end_move.Goals as goal

pub make_move-made-requires-clause-written : goal.make_move-made-requires-clause-written
make_move-made-requires-clause-written c =
    let up = c.catch_up.ensures in
    let home = c.catch_up.new.home in
    let pool : c.args.self.now.pool ≡ home.pool = sym (up.home.pool ∙ ap (λ (d : DeskState). d.pool) c.self.view_is) in
    let whole : c.args.self.now.history ≡ c.catch_up.new.seat.front = sym (ap (λ (d : DeskState). d.history) c.self.view_is) ∙ sym (up.front ∙ up.home.history) in
    let legal : IsLegal c.args.self.now.pool.limits c.catch_up.new.seat.front =
    subst (IsLegal c.args.self.now.pool.limits) whole (subst (λ (d : DeskState). IsLegal d.pool.limits d.history) c.self.view_is c.self.invariant.desk.kept.legal) in
    subst (λ (p : PoolId). HasWritten p c.args.claim c.args.look.doc.words c.args.bits.now.bits c.catch_up.new.seat) pool
    (written_held c.args.seat.now c.catch_up.new.seat up.seat up.none_since c.args.self.now.pool c.args.claim c.args.look.doc.words c.args.bits.now.bits legal up.none_outstanding c.requires.written)

pub make_void-requires-clause-claim : goal.make_void-requires-clause-claim
make_void-requires-clause-claim c = let up = c.catch_up.ensures in claim_held c.args.seat.now c.catch_up.new.seat up.seat up.none_since c.args.claim c.requires.written.holds

pub make_move-made-requires-clause-look : goal.make_move-made-requires-clause-look
make_move-made-requires-clause-look c = let up = c.catch_up.ensures in look_held c.args.seat.now c.catch_up.new.seat up.seat up.none_since c.args.look c.requires.look

pub make_move-made-requires-clause-of_words : goal.make_move-made-requires-clause-of_words
make_move-made-requires-clause-of_words c = of_words c.requires.written.document

pub make_void-requires-clause-cause : goal.make_void-requires-clause-cause
make_void-requires-clause-cause c =
    let up = c.catch_up.ensures in
    ap has_cause (sym up.front) ∙ (look_held c.args.seat.now c.catch_up.new.seat up.seat up.none_since c.args.look c.requires.look).cause

-- the document of the old column is given back as it is made to be
pub returns-then-is_there_still-clause-doc : goal.returns-then-is_there_still-clause-doc
returns-then-is_there_still-clause-doc c =
    let i = c.self.inside in
    let home = c.catch_up.new.home in
    subst (λ (d : DeskState). GivesBackOld d.history c.args.look.doc.id c.make_move-made.result.1) (desk_is c.args.self.now i.home home i.events_limit c.self.view_is c.catch_up.ensures.home) c.make_move-made.ensures.gone
