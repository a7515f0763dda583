use Rattle.std.proofs.Common.{◌≡◌, ap, sym, ◌∙◌, subst}
use mathlib.Core.List.{IsPrefix}
use Rattle.funnel_model.specs.History.{IsFrontOf}
use Rattle.slice_rule.specs.Seats.{HomeState, PassState, HasNoneOutstanding, IsSameHome, facts_of_pass}
use Rattle.slice_rule.proofs.Prefixes.{prefix_both}
use Rattle.slice_rule.proofs.Told.{has_joined, told_more}
use Rattle.slice_rule.proofs.pool.Pool.catch_up.Goals as goal

pub returns-clause-home : goal.returns-clause-home
returns-clause-home c =
    subst (λ (h : HomeState). IsSameHome h c.tell_home.new.home) c.tell_pass.ensures.home
    (told_more c.tell_pass.new.home c.tell_home.new.home (facts_of_pass c.tell_pass.new.seat) c.tell_home.ensures.home)

pub returns-clause-front : goal.returns-clause-front
returns-clause-front c =
    let history = c.args.home.now.history in
    let seen = c.tell_pass.new.seat.front in
    let home : c.tell_pass.new.home.history ≡ history = ap (λ (h : HomeState). h.history) c.tell_pass.ensures.home in
    let all : seen ≡ history = prefix_both seen history (subst (IsPrefix seen) home c.tell_home.ensures.met) c.tell_pass.ensures.met in
    ap (λ (p : PassState). p.front) c.tell_home.ensures.seat ∙ all ∙ sym home ∙ sym (ap (λ (h : HomeState). h.history) c.tell_home.ensures.home)

pub returns-clause-none_outstanding : goal.returns-clause-none_outstanding
returns-clause-none_outstanding c =
    let tells = c.tell_pass.ensures in
    let joined = has_joined c.args.seat.now c.tell_pass.new.seat tells.seat c.requires.none_outstanding tells.own tells.asked in
    subst HasNoneOutstanding (sym c.tell_home.ensures.seat) joined.none_outstanding

pub returns-clause-none_since : goal.returns-clause-none_since
returns-clause-none_since c =
    let before = c.args.seat.now in
    let tells = c.tell_pass.ensures in
    let joined = has_joined before c.tell_pass.new.seat tells.seat c.requires.none_outstanding tells.own tells.asked in
    subst (λ (p : PassState). IsFrontOf p.number before.front p.front) (sym c.tell_home.ensures.seat) joined.front
