use Rattle.std.proofs.Common.{ℕ, ◌-◌, arith, length, subst}
use Rattle.funnel_server.specs.Parts.{MetLast}
use Rattle.funnel_server.proofs.Meetings.{all_met}
use Rattle.funnel_server.proofs.meeting.meet_all.Goals as goal

pub returns : goal.returns
returns g c =
    all_met (length c.args.loaders.now - 1) c.args.loaders.now c.meet_others.new.loaders c.meet_last.new.loaders (omega (arith, c.requires.some)) c.meet_others.ensures
    (subst (λ (n : ℕ). MetLast (n - 1) (n - 1) c.meet_others.new.loaders c.meet_last.new.loaders) c.meet_others.ensures.count c.meet_last.ensures)
