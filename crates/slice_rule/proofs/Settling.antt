-- A look at word 0, at which a seat's front becomes the longer of its own and of that of the note that it took in.
use Rattle.std.proofs.Common.{◌≡◌, ℕ, List, length, set, refl, ap, sym, ◌∙◌, subst, arith}
use Rattle.std.proofs.lemmas.List.{set-get_or}
use mathlib.Core.Option.{none}
use mathlib.Core.List.{IsPrefix}
use Rattle.atomic_table.specs.Table.{State, Allows, keeps, step}
use Rattle.funnel_model.specs.declared.event.Event.{Event}
use Rattle.funnel_model.specs.declared.config.Config.{Config}
use Rattle.funnel_model.specs.Legal.{Limits, IsLegal}
use Rattle.funnel_model.proofs.Histories.{legal_before}
use Rattle.slice_rule.specs.declared.view.Role.{Role}
use Rattle.slice_rule.specs.declared.view.Role.TheVariants as role
use Rattle.slice_rule.specs.declared.view.View.{View}
use Rattle.slice_rule.specs.Rule.{FitsRole, HasSizes, IsKept}
use Rattle.slice_rule.specs.Tells.{HasLegalFront, Learns, Seated, Settles}
use Rattle.slice_rule.specs.Views.{longer, settled}
use Rattle.slice_rule.specs.Worlds.{LacksAtMostOne, made_by}
use Rattle.funnel_model.proofs.StepLemmas.{prefix_trans}
use Rattle.slice_rule.proofs.Prefixes.{longer_is, made_by-prefix, prefix_length, prefix_whole}
use Rattle.slice_rule.proofs.Seating.{viewed}

-- between two beginnings of what a pass asked that lacks at most one
pub lacks_between : (made more asked : List Event) → LacksAtMostOne made asked → IsPrefix made more → IsPrefix more asked → LacksAtMostOne more asked
lacks_between made more asked lacks begins within =
    let few = lacks.few in
    let n = prefix_length made more begins in
    record { begins = within; few = omega arith }

module _ (limits : Limits) (config : Config) where
  -- a seat's role with a front between its own and the history
  role_fits : (s : State (Unit {0}) View) (r : IsKept limits config s) (id : ℕ) (before asked front : List Event) → IsPrefix before front → IsPrefix front r.world.history
      → (role : Role) → FitsRole r.world s.words id before asked role → FitsRole r.world s.words id front asked role × Learns role before asked front
  role_fits s r id before asked front begins within (role.Home numbered seats) fits =
      let n = prefix_length front r.world.history within in
      let m = prefix_length before front begins in
      let l : length before ≡ length r.world.history = ap length fits.whole in
      let e : front ≡ r.world.history = prefix_whole front r.world.history within (omega arith) in
      (record { one = fits.one; whole = e; counts = fits.counts; seated = fits.seated }, e ∙ sym fits.whole)
  role_fits s r id before asked front begins within (role.Pass pass) fits =
      let lacks = lacks_between (made_by pass before) (made_by pass front) (r.world.asked pass) fits.seen
      (made_by-prefix pass before front begins)
      (prefix_trans (made_by pass front) (made_by pass r.world.history) (r.world.asked pass)
      (made_by-prefix pass front r.world.history within) (r.asked.made pass).begins) in (
        record { seated = fits.seated; one = fits.one; all = fits.all; seen = lacks },
        subst (LacksAtMostOne (made_by pass front)) (sym fits.all) lacks,
      )
  role_fits s r id before asked front begins within role.Note fits = (tt, tt)
  role_fits s r id before asked front begins within role.Spent fits = (tt, tt)

  legal_front : (s : State (Unit {0}) View) (r : IsKept limits config s) (known : Limits) (front : List Event) → IsPrefix front r.world.history → known ≡ limits → IsLegal known front
  legal_front s r known front within sizes =
      subst (λ (l : Limits). IsLegal l front) (sym sizes) (legal_before limits front within.0 (subst (IsLegal limits) (sym within.1) r.events.legal))

  -- a front of a seat that isn't spent is legal
  sound : (s : State (Unit {0}) View) (r : IsKept limits config s) (known : Limits) (front : List Event) → IsPrefix front r.world.history → (role : Role) → HasSizes limits known role → HasLegalFront role known front
  sound s r known front within role.Spent sizes = tt
  sound s r known front within (role.Home numbered seats) sizes = legal_front s r known front within sizes
  sound s r known front within (role.Pass pass) sizes = legal_front s r known front within sizes
  sound s r known front within role.Note sizes = legal_front s r known front within sizes

  pub settles : (slots id : ℕ) (me : Seated) → Allows (IsKept limits config) slots id me 0 (λ n. n) (Settles (step slots 0 0 0 none) me)
  settles slots id me s r home at small =
      let mine = r.seats id me.0 at in
      let l = longer_is me.0.front me.0.met r.world.history mine.front mine.met in
      let role = role_fits s r id me.0.front me.0.asked (longer me.0.front me.0.met) l.this l.whole me.0.role mine.role in
      let few = r.events.few in
      let n = prefix_length (longer me.0.front me.0.met) r.world.history l.whole in (
        settled me.0,
        keeps,
        tt,
        subst (λ (words : List ℕ). IsKept limits config (record { words = words; homes = s.homes; views = set s.views id (settled me.0) }))
            (sym (set-get_or s.words 0 0))
            (viewed limits config s r id me.0 (settled me.0) at refl (record { sizes = mine.sizes; front = l.whole; met = mine.met; own = mine.own; told = mine.told; role = role.0; bits = mine.bits })),
        record { view = refl; own = l.this; met = l.that; few = omega arith; legal = sound s r me.0.limits (longer me.0.front me.0.met) l.whole me.0.role mine.sizes; role = role.1 },
      )
