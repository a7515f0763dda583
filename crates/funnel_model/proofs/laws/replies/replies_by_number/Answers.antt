use Rattle.std.proofs.Common.{refl, sym, subst, arith}
use Rattle.funnel_model.specs.Steps.{IsReply}
use Rattle.funnel_model.proofs.Retirement.{same_split}
use Rattle.funnel_model.proofs.laws.replies.replies_by_number.Goals as goal

pub returns-clause-reply : goal.returns-clause-reply
returns-clause-reply c limits before e later given = (
  λ at.
      let count = at.count in
      let split = same_split before at.earlier later at.later e at.event at.whole (omega arith) in
      subst (λ x. IsReply limits before x given) (sym split.1)
      (subst (λ h. IsReply limits h at.event given) (sym split.0) at.reply),
  λ reply. record { earlier = before; event = e; later = later; whole = refl; count = refl; reply = reply },
)

pub returns-clause-none : goal.returns-clause-none
returns-clause-none c limits history given at = let count = at.count in omega arith
