-- Where only the first pass of an engine was used, the history is what that pass has seen, and holds its events alone.
use Rattle.std.proofs.Common.{◌≡◌, ℕ, zero, suc, ◌<◌, ◌≤◌, Bool, true, false, List, [], ◌∷◌, ◌++◌, length, map, rules, sym, refl, ap, ◌∙◌, subst, arith, append-nil, slice_index_or}
use Rattle.std.specs.List.{All, Contains, list_any}
use Rattle.std.specs.Prelude.{◌==◌}
use Rattle.engine.specs.Engines.{EndsIn}
use Rattle.funnel_model.specs.declared.event.Event.{Event}
use Rattle.funnel_model.specs.Events.{pass_of}
use Rattle.funnel_model.specs.History.{MovesAreCaused}
use Rattle.funnel_model.specs.Legal.{IsLegal, Limits}
use Rattle.funnel_model.proofs.Invariants.{passes_in_range}
use Rattle.engine.specs.Passes.{PassView}
use Rattle.funnel.specs.Serving.{FirstDid, FirstHasSeen}
use Rattle.engine.specs.Engines.{ClosedState}
use Rattle.funnel_io.specs.declared.end.End.{End}
use Rattle.funnel_io.specs.Streams.{Incoming, Outgoing}
use Rattle.funnel_model.specs.declared.config.Config.{Config}
use Rattle.row_layout.specs.Sound.{IsSound}
use Rattle.session.specs.Ends.{Serves}
use Rattle.slice_rule.specs.Pools.{PoolId}
use Rattle.funnel.specs.declared.ends.Why.{Why}
use Rattle.session.specs.declared.serving.TheConstants.{MOST_BYTES}
use Rattle.funnel.specs.Ends.{why_of_end}
use Rattle.funnel.specs.Runs.{IsOfFirst, Ran, first_caller, limits_by}
use Rattle.std.proofs.lemmas.List.Elements.{All-contains, All-drop}
use Rattle.std.proofs.lemmas.List.Prefix.{front_rest}
use Rattle.std.proofs.lemmas.List.Folds.{list_any_at}
use Rattle.row_layout.proofs.Lists.{Contains-from_map}

-- what no element is, one of them isn't
pub none_with : {X : Type 0} (p : X → Bool) (xs : List X) (x : X) → list_any p xs ≡ false → Contains xs x → p x ≡ false
none_with p xs x none contains = by_value (p x) refl where
  by_value : (b : Bool) → p x ≡ b → p x ≡ false
  by_value false is = is
  by_value true is = let found = list_any_at p xs contains.0 x contains.1 (ap p contains.2 ∙ is) in cc

-- events that are all of one pass, and none of that pass, are no events
none_left : (pass : ℕ) (events : List Event) → All (λ e. pass_of e ≡ pass) events → list_any (λ e. pass_of e == pass) events ≡ false → events ≡ []
none_left pass [] of_pass silent = refl
none_left pass (e ∷ later) of_pass silent = absurd (search (rules, of_pass 0 e, silent))

module _ (limits : Limits) (history front : List Event) (passes : List PassView) (legal : IsLegal limits history) (some : 1 ≤ limits.passes)
    (ends : All (EndsIn history) passes) (seen : All (FirstHasSeen front) passes)
    (every : (pass : ℕ) → pass < limits.passes → Contains (map (λ (seat : PassView). seat.number) passes) pass) where
  -- the pass with a number, as it is handed back
  back : (number : ℕ) → number < limits.passes → (pass : PassView) × Contains passes pass × (number ≡ pass.number)
  back number small = Contains-from_map (λ (seat : PassView). seat.number) passes number (every number small)

  pub all_of_first : All (λ e. pass_of e ≡ 0) history
  all_of_first k d small =
      let e = slice_index_or history k d in
      let pass = back (pass_of e) (passes_in_range limits history legal k d small) in
      of_number (pass_of e) pass.0 refl pass.2 (All-contains (EndsIn history) passes pass.0 ends pass.1) (All-contains (FirstHasSeen front) passes pass.0 seen pass.1) where
        of_number : (number : ℕ) (pass : PassView) → pass_of (slice_index_or history k d) ≡ number → pass_of (slice_index_or history k d) ≡ pass.number →
            EndsIn history pass → FirstHasSeen front pass → pass_of (slice_index_or history k d) ≡ 0
        of_number zero pass is number ended saw = is
        of_number (suc n) pass is number ended saw =
            let whole : history ≡ ended.later = ended.whole ∙ ap (λ h. h ++ ended.later) (saw.other (omega (arith, is, number))) in
            let silent : list_any (λ x. pass_of x == pass.number) history ≡ false = ap (list_any (λ x. pass_of x == pass.number)) whole ∙ ended.silent in
            absurd (search (rules, none_with (λ x. pass_of x == pass.number) history (slice_index_or history k d) silent (k, small, search rules), number))

  pub first_saw_all : history ≡ front
  first_saw_all =
      let pass = back 0 some in
      let ended = All-contains (EndsIn history) passes pass.0 ends pass.1 in
      let saw = All-contains (FirstHasSeen front) passes pass.0 seen pass.1 in
      let whole : history ≡ front ++ ended.later = ended.whole ∙ ap (λ h. h ++ ended.later) (saw.first (sym pass.2)) in
      let later_of_first : All (λ e. pass_of e ≡ 0) ended.later =
      subst (All (λ e. pass_of e ≡ 0)) (front_rest history front ended.later whole) (All-drop (λ e. pass_of e ≡ 0) (length front) history all_of_first) in
      whole ∙ ap (λ h. front ++ h) (none_left 0 ended.later later_of_first (subst (λ n. list_any (λ e. pass_of e == n) ended.later ≡ false) (sym pass.2) ended.silent)) ∙ append-nil front

-- so what the first pass did was all that the engine did
have_done : (pool : PoolId) (config : Config) (passes : List PassView) (did : List Event → Type 0) (closed : ClosedState) →
    pool.limits ≡ limits_by config → pool.config ≡ config → 1 ≤ pool.limits.passes → FirstDid pool passes did →
    IsLegal pool.limits closed.history → MovesAreCaused closed.history → IsSound pool.config closed.history → All (EndsIn closed.history) passes →
    did closed.history × IsOfFirst config closed
have_done pool config passes did closed limits_are config_is some first legal caused sound ends =
    let saw = first_saw_all pool.limits closed.history first.front passes legal some ends first.used.seen first.used.every in (
      subst did (sym saw) first.done,
      record {
        legal = subst (λ (l : Limits). IsLegal l closed.history) limits_are legal;
        caused = caused;
        sound = subst (λ (k : Config). IsSound k closed.history) config_is sound;
        alone = all_of_first pool.limits closed.history first.front passes legal some ends first.used.seen first.used.every;
      },
    )

-- and so was a session of it
pub have_run : (pool : PoolId) (config : Config) (passes : List PassView) (incoming later_incoming : Incoming) (outgoing later_outgoing : Outgoing)
    (end : End) (why : Why) (closed : ClosedState) → pool.limits ≡ limits_by config → pool.config ≡ config → 1 ≤ pool.limits.passes →
    FirstDid pool passes (λ front. Serves (first_caller pool.config pool.limits) MOST_BYTES (record { front = []; incoming = incoming; outgoing = outgoing })
    (record { front = front; incoming = later_incoming; outgoing = later_outgoing }) end) → why ≡ why_of_end end →
    IsLegal pool.limits closed.history → MovesAreCaused closed.history → IsSound pool.config closed.history → All (EndsIn closed.history) passes →
    Ran config incoming later_incoming outgoing later_outgoing why closed
have_run pool config passes incoming later_incoming outgoing later_outgoing end why closed limits_are config_is some served answered legal caused sound ends =
    let done = have_done pool config passes (λ front. Serves (first_caller pool.config pool.limits) MOST_BYTES (record { front = []; incoming = incoming; outgoing = outgoing })
    (record { front = front; incoming = later_incoming; outgoing = later_outgoing }) end) closed limits_are config_is some served legal caused sound ends in
    record {
      end = end;
      answered = answered;
      serves = subst (λ (k : Config). Serves (first_caller k (limits_by config)) MOST_BYTES (record { front = []; incoming = incoming; outgoing = outgoing })
          (record { front = closed.history; incoming = later_incoming; outgoing = later_outgoing }) end) config_is
          (subst (λ (l : Limits). Serves (first_caller pool.config l) MOST_BYTES (record { front = []; incoming = incoming; outgoing = outgoing })
          (record { front = closed.history; incoming = later_incoming; outgoing = later_outgoing }) end) limits_are done.0);
      of_first = done.1;
    }
