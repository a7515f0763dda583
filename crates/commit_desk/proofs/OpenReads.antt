-- What an open find reads is as of the events before it: in its slices nothing was cleared since, and no treatment changed.
use Rattle.std.proofs.Common.{◌≡◌, ℕ, ◌+◌, false, List, [], ◌∷◌, ◌++◌, length, refl, sym, ap, ◌∙◌, subst, append_assoc}
use Rattle.std.proofs.lemmas.Bool.{or_from}
use Rattle.std.proofs.lemmas.List.Folds.{list_any-append}
use Rattle.std.specs.List.{list_any}
use Rattle.funnel_model.proofs.Clears.{read_stays}
use Rattle.funnel_model.proofs.Histories.{legal_before}
use Rattle.funnel_model.proofs.OpenTokens.{token_is_silent}
use Rattle.funnel_model.proofs.RowWords.{reader_sees}
use Rattle.funnel_model.proofs.TuningLemmas.{treat-push, treat_read}
use Rattle.funnel_model.specs.declared.bit_list.Bit.{Bit}
use Rattle.funnel_model.specs.declared.config.Config.{Config}
use Rattle.funnel_model.specs.declared.event.Event.{Event}
use Rattle.funnel_model.specs.declared.event.Event.TheVariants as event
use Rattle.funnel_model.specs.Events.{clears}
use Rattle.funnel_model.specs.History.{IsFrontOf}
use Rattle.funnel_model.specs.Legal.{IsLegal, Limits}
use Rattle.funnel_model.specs.RowWords.{IsCommitted}
use Rattle.funnel_model.specs.Slices.{IsInUse}
use Rattle.funnel_model.specs.Tokens.{MayRead}
use Rattle.funnel_model.specs.Tunings.{treat}
use Rattle.row_layout.proofs.Standing.{stands-later}
use Rattle.row_layout.specs.AtomReads.{IsOfItsOwner}
use Rattle.row_layout.specs.Owners.{Owns, OwnsIn, StandsOn}
use Rattle.slice_rule.specs.Seats.{PassState, WasReadUnder}
use Rattle.commit_desk.specs.Laws.{HasBegunAfter}

-- a bit that is committed is so once a find has begun
committed_find : (earlier : List Event) (pass : ℕ) (query : List ℕ) (slice : ℕ) (bit : Bit) → IsCommitted earlier slice bit → IsCommitted (earlier ++ event.Find pass query ∷ []) slice bit
committed_find earlier pass query slice bit is =
    let find = event.Find pass query in
    record {
      earlier = is.earlier;
      event = is.event;
      later = is.later ++ find ∷ [];
      whole = ap (λ h. h ++ find ∷ []) is.whole ∙ append_assoc is.earlier (is.event ∷ is.later) (find ∷ []);
      added = is.added;
      stays = list_any-append (clears slice) is.later (find ∷ [])
          ∙ or_from (list_any (clears slice) is.later) (list_any (clears slice) (find ∷ [])) is.stays refl;
    }

module _ (limits : Limits) (opening : Config) (earlier : List Event) (pass : PassState) (opened_at : ℕ) (legal : IsLegal limits pass.front)
    (find : HasBegunAfter earlier pass opened_at) where
  whole : pass.front ≡ earlier ++ event.Find pass.number find.begun.query ∷ find.begun.later
  whole = find.begun.whole ∙ ap (λ h. h ++ event.Find pass.number find.begun.query ∷ find.begun.later) find.after

  -- the history before the find is legal
  pub legal_then : IsLegal limits earlier
  legal_then = legal_before limits earlier (event.Find pass.number find.begun.query ∷ find.begun.later) (subst (IsLegal limits) whole legal)

  -- the history at the find
  abbrev start : List Event
  start = earlier ++ event.Find pass.number find.begun.query ∷ []

  abbrev goes : IsFrontOf pass.number start pass.front
  goes = record {
    later = find.begun.later;
    whole = whole ∙ sym (append_assoc earlier (event.Find pass.number find.begun.query ∷ []) find.begun.later);
    silent = token_is_silent limits pass.front pass.number opened_at legal find.begun;
  }

  module _ (slice : ℕ) (in_use : IsInUse limits.columns slice earlier) where
    start_may : MayRead limits.columns start pass.number slice
    start_may = record {
      number = opened_at;
      token = record {
        earlier = earlier;
        query = find.begun.query;
        later = [];
        whole = refl;
        count = find.begun.count ∙ ap (λ h. length h + 1) find.after;
        stays = refl;
      };
      in_use = in_use;
    }

    stays : (list_any (clears slice) find.begun.later ≡ false) × MayRead limits.columns pass.front pass.number slice
    stays = let s = read_stays limits start pass.front pass.number slice legal goes start_may in (s.0, s.1)

    -- a bit that was committed before the find is so still
    pub committed_still : (bit : Bit) → IsCommitted earlier slice bit → IsCommitted pass.front slice bit
    committed_still bit was =
        reader_sees limits start pass.front pass.number slice bit legal goes start_may (committed_find earlier pass.number find.begun.query slice bit was)

    treated_still : treat opening slice pass.front ≡ treat opening slice earlier
    treated_still =
        treat_read limits opening start pass.front pass.number slice legal goes start_may ∙ treat-push opening slice earlier (event.Find pass.number find.begun.query)

    -- a bit that was read as set is of the column's document, where the column owns it
    pub of_its_owner : (column : ℕ) (bit : Bit) → pass.pool.limits ≡ limits → pass.pool.config ≡ opening → WasReadUnder pass opened_at bit →
        IsOfItsOwner limits opening earlier slice column bit
    of_its_owner column bit limits_are opening_is was owns e stands =
        let owns_now : Owns limits opening pass.front slice column bit = record {
          in_engine = owns.in_engine;
          treated = subst (λ (k : Config). OwnsIn limits.slice_words k slice column bit) (sym treated_still) owns.treated;
        } in
        was.owned slice column e
        (subst (λ (l : Limits). MayRead l.columns pass.front pass.number slice) (sym limits_are) stays.1)
        (subst (λ (l : Limits). Owns l pass.pool.config pass.front slice column bit) (sym limits_are)
        (subst (λ (k : Config). Owns limits k pass.front slice column bit) (sym opening_is) owns_now))
        (subst (λ (h : List Event). StandsOn h slice column e) (sym whole)
        (stands-later earlier (event.Find pass.number find.begun.query ∷ find.begun.later) slice column e stays.0 stands))
