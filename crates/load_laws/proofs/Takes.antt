-- Where nothing is moved a pass that is idle has added or dropped a document for each column that it claimed.
use Rattle.std.proofs.Common.{◌≡◌, ℕ, ◌+◌, ⊎_elim, false, cond, List, [], ◌∷◌, ◌++◌, Option, Some, None, sym, refl, ap, ◌∙◌, arith}
use Rattle.std.proofs.lemmas.Bool.{cases_eq}
use Rattle.std.proofs.lemmas.List.Sums.{sum_by_push}
use Rattle.std.specs.Option.{IfSome, option_map_or}
use Rattle.funnel_model.proofs.NothingMoved.{holds_where_nothing_moves}
use Rattle.funnel_model.proofs.Spans.{last_by-other, last_by-own}
use Rattle.funnel_model.specs.declared.event.Event.{Event}
use Rattle.funnel_model.specs.declared.event.Event.TheVariants as event
use Rattle.funnel_model.specs.Events.{leaves_open, moves, pass_of}
use Rattle.funnel_model.specs.History.{MovesNothing, last_by}
use Rattle.funnel_model.specs.Legal.{Limits, IsAllowed, IsIdle, IsLegal, MayFollow}
use Rattle.load_laws.specs.LonePass.{IsAlone, is_take, count_of_takes}
use Rattle.load_laws.proofs.PassTotals.{weigh_by, weigh_by-alone, weigh_by-other, weigh_by-own}
use Rattle.load_laws.proofs.Quiet.{filled, fills_column}

-- one where the last event of a pass is a take
abbrev pub open_take : Option Event → ℕ
open_take last = option_map_or (λ e. cond (is_take e) 1 0) last 0

-- none where the pass is idle
idle_event : (e : Event) → leaves_open e ≡ false → open_take (Some e) ≡ 0
idle_event (event.Take pass slice column) shut = cc
idle_event _ shut = refl

pub idle_open : (last : Option Event) → IfSome last (λ e. leaves_open e ≡ false) → open_take last ≡ 0
idle_open None idle = refl
idle_open (Some e) idle = idle_event e idle

-- where nothing is moved an add or a drop comes after a take, and no other event does
pub before_event : (limits : Limits) (history : List Event) (e : Event) → MayFollow limits history e → moves e ≡ false →
    open_take (last_by (pass_of e) history) ≡ cond (fills_column e) 1 0
before_event limits history (event.Take pass slice column) rule unmoved =
    ⊎_elim (λ r. idle_open (last_by pass history) r.idle) (λ r. ap open_take r.opened) rule
before_event limits history (event.Add pass id text slice column bits) rule unmoved = ap open_take rule.taken
before_event limits history (event.Drop pass id text slice column) rule unmoved = ap open_take rule.taken
before_event limits history (event.Del pass id) rule unmoved = idle_open (last_by pass history) rule.idle
before_event limits history (event.Move pass id slice column bits) rule unmoved = cc
before_event limits history (event.Void pass slice column) rule unmoved = cc
before_event limits history (event.Find pass query) rule unmoved = idle_open (last_by pass history) rule
before_event limits history (event.End pass) rule unmoved = ap open_take rule.begun
before_event limits history (event.Clear pass slice) rule unmoved = idle_open (last_by pass history) rule.idle
before_event limits history (event.Opened pass slice alone) rule unmoved = ap open_take rule.cleared
before_event limits history (event.Tune pass config) rule unmoved = idle_open (last_by pass history) rule
before_event limits history (event.No pass asked) rule unmoved = idle_open (last_by pass history) rule.idle
before_event limits history (event.Read pass asked) rule unmoved = idle_open (last_by pass history) rule.idle

-- how many takes there are with one more event
pub takes-push : (history : List Event) (e : Event) → count_of_takes (history ++ e ∷ []) ≡ count_of_takes history + cond (is_take e) 1 0
takes-push history e = sum_by_push (λ x. cond (is_take x) 1 0) history e

-- one for a take, and for an add or a drop
abbrev pub take_weight : Event → ℕ
take_weight e = cond (is_take e) 1 0

abbrev pub fill_weight : Event → ℕ
fill_weight e = cond (fills_column e) 1 0

-- the takes of a pass are those that were followed by an add or a drop, and one that is its last event
abbrev AreCounted : ℕ → List Event → Type 0
AreCounted pass history =
    weigh_by take_weight pass history ≡ weigh_by fill_weight pass history + open_take (last_by pass history)

counted-own : (limits : Limits) (pass : ℕ) (history : List Event) (e : Event) → AreCounted pass history → IsAllowed limits history e → moves e ≡ false → pass_of e ≡ pass →
    AreCounted pass (history ++ e ∷ [])
counted-own limits pass history e counted allowed unmoved is_own =
    let was : open_take (last_by pass history) ≡ cond (fills_column e) 1 0 =
    ap (λ p. open_take (last_by p history)) (sym is_own) ∙ before_event limits history e allowed.rule unmoved in
    let now : open_take (last_by pass (history ++ e ∷ [])) ≡ cond (is_take e) 1 0 = ap open_take (last_by-own pass history e is_own) in
    let takes = weigh_by-own take_weight pass history e is_own in
    let fills = weigh_by-own fill_weight pass history e is_own in
    omega arith

counted-other : (pass : ℕ) (history : List Event) (e : Event) → AreCounted pass history → (pass_of e ≡ pass → ⊥) → AreCounted pass (history ++ e ∷ [])
counted-other pass history e counted other =
    let now = ap open_take (last_by-other pass history e other) in
    let takes = weigh_by-other take_weight pass history e other in
    let fills = weigh_by-other fill_weight pass history e other in
    omega arith

counted-push : (limits : Limits) (pass : ℕ) (history : List Event) (e : Event) → AreCounted pass history → IsAllowed limits history e → moves e ≡ false →
    AreCounted pass (history ++ e ∷ [])
counted-push limits pass history e counted allowed unmoved =
    ⊎_elim (counted-own limits pass history e counted allowed unmoved) (counted-other pass history e counted) (cases_eq (pass_of e) pass)

-- a pass that is idle has added or dropped a document for each of its takes
pub pass_takes_filled : (limits : Limits) (pass : ℕ) (history : List Event) → IsLegal limits history → MovesNothing history → IsIdle pass history →
    weigh_by take_weight pass history ≡ weigh_by fill_weight pass history
pass_takes_filled limits pass history legal unmoved idle =
    let counted = holds_where_nothing_moves limits (AreCounted pass) refl (counted-push limits pass) history legal unmoved in
    let none = idle_open (last_by pass history) idle in
    omega arith

-- so where it is alone there are as many adds and drops as takes
pub takes_filled : (limits : Limits) (pass : ℕ) (history : List Event) → IsLegal limits history → MovesNothing history → IsAlone pass history → IsIdle pass history →
    count_of_takes history ≡ filled history
takes_filled limits pass history legal unmoved alone idle =
    sym (weigh_by-alone take_weight pass history alone) ∙ pass_takes_filled limits pass history legal unmoved idle ∙ weigh_by-alone fill_weight pass history alone
