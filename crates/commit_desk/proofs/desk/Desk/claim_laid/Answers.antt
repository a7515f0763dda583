use Rattle.std.proofs.Common.{sym, ap, subst}
use Rattle.funnel_model.specs.declared.claim.Claim.{Claim}
use Rattle.commit_desk.specs.Layouts.{IsLayoutOf}
use Rattle.commit_desk.proofs.TakenRoom.{laid_by_take, legal_from, makes_nothing}
use Rattle.commit_desk.proofs.desk.Desk.claim_laid.Goals as goal

pub returns-in_default-clause-made : goal.returns-in_default-clause-made
returns-in_default-clause-made c =
    makes_nothing c.args.self.now c.args.seat.now c.requires.caught_up (legal_from c.args.self.now c.self.inside c.self.invariant.whole c.self.invariant.desk c.self.view_is)

pub returns-clause-fresh : goal.returns-clause-fresh
returns-clause-fresh c =
    let next = c.claim-claim.new.seat in
    record {
      unwritten = c.claim-claim.ensures.nothing_yet;
      laid = subst (λ k. IsLayoutOf next.pool.config k next.front c.in-Ok.layout) (sym (ap (λ (k : Claim). k.slice) c.claim-claim.ensures.claim))
          (laid_by_take c.args.self.now c.claim-claim.new.self c.args.seat.now next c.in-Ok.layout c.args.seat.now.number c.args.slice c.claim-claim.result.column c.requires.caught_up
          c.claim-claim.ensures.made c.in-Ok.ensures);
    }
