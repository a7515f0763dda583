use Rattle.std.proofs.Common.{subst}
use Rattle.funnel_model.specs.History.{IsFrontOf}
use Rattle.commit_desk.proofs.FindTurns.{token_kept}
use Rattle.commit_desk.proofs.desk.Desk.end_find.Goals as goal

pub make_end-requires-clause-token : goal.make_end-requires-clause-token
make_end-requires-clause-token c =
    let up = c.catch_up.ensures in
    let next = c.catch_up.new.seat in
    token_kept c.args.seat.now next c.args.token up.seat (subst (λ n. IsFrontOf n c.args.seat.now.front next.front) up.seat.number up.none_since) c.requires.token
