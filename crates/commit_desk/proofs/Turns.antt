-- What a call makes of the desk and of the pass, from what it made step by step.
use Rattle.std.proofs.Common.{◌≡◌, ℕ, ◌<◌, false, List, [], ◌∷◌, ◌++◌, sym, refl, ap, ◌∙◌, subst, append-nil, append_assoc}
use Rattle.std.specs.Prelude.{IfSome}
use Rattle.funnel_model.specs.declared.event.Event.{Event}
use Rattle.funnel_model.specs.Events.{leaves_open}
use Rattle.funnel_model.specs.History.{IsFrontOf, last_by}
use Rattle.funnel_model.specs.Legal.{IsIdle, IsLegal}
use Rattle.funnel_model.proofs.Clears.{last_by-front}
use Rattle.slice_rule.specs.Seats.{HasMade, HasNoneOutstanding, IsSamePass, IsSeated, PassState}
use Rattle.commit_desk.specs.Desks.{DeskState, IsCaughtUp, Makes}

-- the whole history has no event after itself
pub whole_is_front : (pass : ℕ) (history : List Event) → IsFrontOf pass history history
whole_is_front pass history = record { later = []; whole = sym (append-nil history); silent = refl }

-- one event of a pass that had seen the whole history
pub makes_one : (before after : DeskState) (seat next : PassState) (e : Event) → IsCaughtUp before seat → after.pool ≡ before.pool → after.events_limit ≡ before.events_limit →
    after.history ≡ before.history ++ e ∷ [] → IsLegal after.pool.limits after.history → HasMade e seat next → Makes (e ∷ []) before after seat next
makes_one before after seat next e caught pool limit history legal made = record {
  pool = pool;
  limit = limit;
  history = history;
  legal = legal;
  seen = subst (λ (h : List Event). IsFrontOf seat.number h before.history) (sym caught.front) (whole_is_front seat.number before.history);
  same = made.pool;
  number = made.number;
  front = made.front ∙ ap (λ h. h ++ e ∷ []) caught.front ∙ sym history;
  asked = made.asked;
  own = made.own;
}

-- a pass that saw the whole history first
pub makes_later : (events : List Event) (before after : DeskState) (seat caught next : PassState) → IsSamePass seat caught → IsFrontOf caught.number seat.front caught.front →
    caught.front ≡ before.history → Makes events before after caught next → Makes events before after seat next
makes_later events before after seat caught next same goes front made = record {
  pool = made.pool;
  limit = made.limit;
  history = made.history;
  legal = made.legal;
  seen = subst (λ n. IsFrontOf n seat.front before.history) same.number (subst (λ (h : List Event). IsFrontOf caught.number seat.front h) front goes);
  same = made.same ∙ same.pool;
  number = made.number ∙ same.number;
  front = made.front;
  asked = made.asked ∙ ap (λ h. h ++ events) same.asked;
  own = made.own ∙ same.own;
}

-- events after events
pub makes_more : (first second : List Event) (before middle after : DeskState) (seat between next : PassState) → Makes first before middle seat between → Makes second middle after between next →
    Makes (first ++ second) before after seat next
makes_more first second before middle after seat between next one two = record {
  pool = two.pool ∙ one.pool;
  limit = two.limit ∙ one.limit;
  history = two.history ∙ ap (λ h. h ++ second) one.history ∙ append_assoc before.history first second;
  legal = two.legal;
  seen = one.seen;
  same = two.same ∙ one.same;
  number = two.number ∙ one.number;
  front = two.front;
  asked = two.asked ∙ ap (λ h. h ++ second) one.asked ∙ append_assoc seat.asked first second;
  own = two.own ∙ one.own;
}

-- a pass of the desk that caught up
pub caught_up : (before : DeskState) (seat caught : PassState) → IsSeated before.pool seat → IsSamePass seat caught → caught.front ≡ before.history → HasNoneOutstanding caught →
    caught.number < before.pool.limits.passes → IsCaughtUp before caught
caught_up before seat caught is same front none in' = record {
  seated = record { same = same.pool ∙ is.same; none_outstanding = none };
  in_range = in';
  front = front;
}

-- a pass that made no event since is idle still
pub idle_now : (seat caught : PassState) (history : List Event) → IsSamePass seat caught → IsFrontOf caught.number seat.front caught.front → caught.front ≡ history → IsIdle seat.number seat.front →
    IsIdle caught.number history
idle_now seat caught history same goes front idle =
    subst (λ o. IfSome o (λ e. leaves_open e ≡ false))
    (sym (ap (last_by caught.number) (sym front) ∙ last_by-front caught.number seat.front caught.front goes))
    (subst (λ n. IfSome (last_by n seat.front) (λ e. leaves_open e ≡ false)) (sym same.number) idle)
