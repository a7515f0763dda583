use Rattle.std.proofs.Common.{◌≡◌, sym, ap, ◌∙◌, subst}
use Rattle.funnel_model.specs.Legal.{IsIdle, NoneCanClear}
use Rattle.slice_rule.specs.Seats.{PassState}
use Rattle.commit_desk.specs.Answers.{RefusesClear, TakesCalls}
use Rattle.commit_desk.specs.Desks.{DeskState}
use Rattle.commit_desk.specs.Layouts.{HandsBackOld}
use Rattle.commit_desk.proofs.Checks.{takes_calls}
use Rattle.commit_desk.proofs.FindTurns.{desk_is}
use Rattle.commit_desk.proofs.Refused.{clear_is_answered}
use Rattle.commit_desk.proofs.Turns.{idle_now}
use Rattle.commit_desk.proofs.desk.Desk.start_clear.Goals as goal

pub begin_clear-requires-clause-idle : goal.begin_clear-requires-clause-idle
begin_clear-requires-clause-idle c =
    let e = c.catch_up.ensures in idle_now c.args.seat.now c.catch_up.new.seat c.catch_up.new.home.history e.seat e.none_since e.front c.requires.idle

pub make_plain-requires-clause-may : goal.make_plain-requires-clause-may
make_plain-requires-clause-may c =
    let e = c.catch_up.ensures in
    let made = c.in_default.ensures.made in
    let home = c.catch_up.new.home in
    let idle = idle_now c.args.seat.now c.catch_up.new.seat home.history e.seat e.none_since e.front c.requires.idle in
    let number = c.number-pass.ensures.number ∙ ap (λ (s : PassState). s.number) made.1 in
    record {
      idle = subst (λ n. IsIdle n c.begin_clear.new.self.history) (sym number) (subst (λ (d : DeskState). IsIdle c.catch_up.new.seat.number d.history) (sym made.0) idle);
      refused = subst (λ (d : DeskState). NoneCanClear d.pool.limits d.history) (sym made.0) c.in_default.ensures.may;
    }

pub returns-clause-answer : goal.returns-clause-answer
returns-clause-answer c =
    let i = c.self.inside in
    let home = c.catch_up.new.home in
    let view = desk_is c.args.self.now i.home home i.events_limit c.self.view_is c.catch_up.ensures.home in
    let whole : c.begin_clear.new.self ≡ c.args.self.now = c.in_default.ensures.made.0 ∙ view in
    let takes : TakesCalls c.args.self.now.events_limit c.args.self.now.history =
    subst (λ (d : DeskState). TakesCalls d.events_limit d.history) view (takes_calls i.events_limit home.history c.if-is_spent.ensures.spent.1) in
    clear_is_answered c.args.self.now.events_limit c.args.self.now.pool.limits c.args.self.now.history c.args.seat.now.number c.clear_refusal-refusal.result takes
    (subst (λ (d : DeskState). NoneCanClear d.pool.limits d.history) view c.in_default.ensures.may)
    (subst (λ (d : DeskState). RefusesClear d.pool.limits d.history c.clear_refusal-refusal.result) whole c.clear_refusal-refusal.ensures)

pub returns-in-Some-clause-old : goal.returns-in-Some-clause-old
returns-in-Some-clause-old c =
    let i = c.self.inside in
    let work = c.in-Some.work in
    let same = desk_is c.args.self.now i.home c.catch_up.new.home i.events_limit c.self.view_is c.catch_up.ensures.home in
    subst (λ (d : DeskState). HandsBackOld d.pool d.history work.job.slice work.old_layout) same c.in-Some.ensures.work.old
