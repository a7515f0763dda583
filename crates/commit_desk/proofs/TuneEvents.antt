-- What the desk keeps, when the engine is tuned.
use Rattle.std.proofs.Common.{◌≡◌, ℕ, ◌+◌, ◌<◌, ◌≤◌, List, [], ◌∷◌, ◌++◌, length, Option, Some, None, sym, refl, ap, ◌∙◌, subst, length-append, arith}
use Rattle.std.specs.List.{cons_option}
use Rattle.funnel_model.specs.declared.config.Config.{Config}
use Rattle.funnel_model.specs.declared.event.Event.{Event}
use Rattle.funnel_model.specs.declared.event.Event.TheVariants as event
use Rattle.funnel_model.specs.Events.{tuning_of}
use Rattle.funnel_model.specs.Legal.{IsAllowed, Limits}
use Rattle.funnel_model.specs.Sizes.{words_of_slice}
use Rattle.funnel_model.specs.Tunings.{tunings}
use Rattle.funnel_model.proofs.CausedMoves.{caused-still}
use Rattle.funnel_model.proofs.Histories.{legal-push}
use Rattle.funnel_model.proofs.NextEvents.{awaited-push}
use Rattle.row_layout.proofs.SoundHistories.{sound-push}
use Rattle.row_layout.specs.Layouts.{LayoutId}
use Rattle.slice_rule.specs.Pools.{PoolId}
use Rattle.commit_desk.specs.Kept.{Books, IsDesk}
use Rattle.commit_desk.specs.Layouts.{AreLayoutsOf, LayoutsState, SuitsOpening, TunesWith, with_tuning}
use Rattle.commit_desk.proofs.Few.{few-start}
use Rattle.commit_desk.proofs.Journals.{journal-silent}
use Rattle.commit_desk.proofs.LayoutEvents.{layout_in, layouts-tune}
use Rattle.commit_desk.proofs.Marks.{mark-same}
use Rattle.commit_desk.proofs.RecordsKept.{recorded-same}
use Rattle.commit_desk.proofs.StagesKept.{stages-same}
use Rattle.commit_desk.proofs.TokenEvents.{tokens-same}

-- there are no more tunings than events
few_some : (o : Option Config) (rest : List Config) (n : ℕ) → length rest ≤ n → length (cons_option o rest) ≤ n + 1
few_some None rest n few = omega (arith, few)
few_some (Some config) rest n few = omega (arith, few)

pub few_tunings : (history : List Event) → length (tunings history) ≤ length history
few_tunings [] = omega arith
few_tunings (e ∷ history) = let few = few_some (tuning_of e) (tunings history) (length history) (few_tunings history) in omega (arith, few)

module _ (pool : PoolId) (most : ℕ) (history : List Event) (books : Books) (is : IsDesk pool most history books) (pass : ℕ) (config : Config) (next : Option LayoutId)
    (tunes : TunesWith pool config next) where
  rows : pool.limits.slice_words ≡ words_of_slice pool.config
  rows = ap (λ (l : Limits). l.slice_words) is.sizes

  suits : SuitsOpening pool.config config
  suits = record {
    sized = tunes.tuning.kept;
    in_range = tunes.tuning.in_range;
    fits = subst (λ n. words_of_slice config ≤ n) rows tunes.fits;
  }

  laid : next ≡ Some (layout_in pool.config config)
  laid = tunes.laid ∙ ap (λ n. let l : LayoutId = record { config = config; room = n } in Some l) rows

  -- the desk after the tuning
  desk-tune : IsAllowed pool.limits history (event.Tune pass config) → length history < most →
      IsDesk pool most (history ++ event.Tune pass config ∷ []) (record books { events = length history + 1; layouts = with_tuning books.layouts next })
  desk-tune allowed below =
      let e = event.Tune pass config in
      let kept = is.kept in record {
        in_range = is.in_range;
        sizes = is.sizes;
        some = is.some;
        bounded = is.bounded;
        none_awaited = awaited-push history e;
        kept = record {
          few = few-start most pool.limits.passes history e below;
          legal = legal-push pool.limits history e kept.legal allowed;
          sound = sound-push pool.config history e kept.sound tt;
          caused = caused-still history e kept.caused refl;
          slices_are = kept.slices_are;
          columns_are = kept.columns_are;
          events_are = sym (length-append history (e ∷ []));
          journal_is = journal-silent pool.limits.commits history e books.journal refl kept.journal_is;
          recorded = recorded-same pool.limits history e kept.legal allowed books.table (λ slice column h x. refl) (λ slice. (refl, refl)) kept.recorded;
          listed = kept.listed;
          tokens_are = tokens-same pool.limits history e books.tokens (λ p. refl) kept.tokens_are;
          staged = record {
            count = kept.staged.count;
            columns_are = kept.staged.columns_are;
            each = stages-same pool.limits history books.table books.stages kept.legal kept.recorded kept.staged.count kept.staged.each e
                (λ slice. record { takes = refl; clears = refl; opens = refl });
            mark_within = mark-same history e books.stages.mark kept.staged.mark_within;
            none_before = kept.staged.none_before;
          };
          layouts_are = subst (λ (o : Option LayoutId). AreLayoutsOf pool.config pool.limits.slices (history ++ e ∷ []) (with_tuning books.layouts o)) (sym laid)
              (layouts-tune pool.config pool.limits.slices history pass config books.layouts suits kept.layouts_are);
        };
      }

  -- and under the names that a call has for it
  pub desk-tuned : (now : PoolId) (later : List Event) (events : ℕ) (layouts : LayoutsState) → IsAllowed pool.limits history (event.Tune pass config) → length history < most →
      now ≡ pool → later ≡ history ++ event.Tune pass config ∷ [] → events ≡ length later → layouts ≡ with_tuning books.layouts next →
      IsDesk now most later (record books { events = events; layouts = layouts })
  desk-tuned now later events layouts allowed below same_pool grown count layouts_are =
      let e = event.Tune pass config in
      let events_are : events ≡ length history + 1 = count ∙ ap length grown ∙ length-append history (e ∷ []) in
      subst (λ (p : PoolId). IsDesk p most later (record books { events = events; layouts = layouts })) (sym same_pool)
      (subst (λ (h : List Event). IsDesk pool most h (record books { events = events; layouts = layouts })) (sym grown)
      (subst (λ (n : ℕ). IsDesk pool most (history ++ e ∷ []) (record books { events = n; layouts = layouts })) (sym events_are)
      (subst (λ (l : LayoutsState). IsDesk pool most (history ++ e ∷ []) (record books { events = length history + 1; layouts = l })) (sym layouts_are) (desk-tune allowed below))))
