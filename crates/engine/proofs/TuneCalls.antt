-- How the text of a tuning is read, and answered.
use Rattle.std.proofs.Common.{◌≡◌, ℕ, ◌<◌, ◌≤◌, List, [], length, Result, Ok, Err, IfOk, refl, sym, ap, subst, ◌∙◌, inl, inr, arith}
use Rattle.std.proofs.lemmas.List.Elements.{All-nil}
use Rattle.funnel_model.specs.declared.call.Call.TheVariants as call
use Rattle.funnel_model.specs.declared.config.Config.{Config}
use Rattle.funnel_model.specs.declared.event.Event.{Event}
use Rattle.funnel_model.specs.declared.reply.Reply.TheVariants as reply
use Rattle.funnel_model.specs.Configuration.{IsBetween, IsInRange, IsTuning, with_statistics}
use Rattle.funnel_model.specs.History.{own}
use Rattle.funnel_model.specs.Legal.{IsIdle, IsLegal, Limits}
use Rattle.funnel_model.specs.Sizes.{words_of_slice}
use Rattle.funnel_stats.specs.declared.fault.ConfigFault.{ConfigFault}
use Rattle.funnel_stats.specs.declared.fault.ConfigFault.TheVariants as cause
use Rattle.funnel_stats.specs.FaultNumbers.{number_of_fault}
use Rattle.funnel_stats.specs.Reading.{IsFaultOfBytes}
use Rattle.funnel_stats.specs.Tunings.{Tuned, tuned, tuning}
use Rattle.funnel_stats.proofs.TuningLemmas.{tuned-faulty, tuned-gives, tuned-wide}
use Rattle.line_proto.specs.Services.{AnswersCall, AnswersTuned, Caller, IsNotTaken}
use Rattle.line_proto.proofs.Tunings.{wants_memory}
use Rattle.slice_recycler.proofs.Steps.{quiet_adds_none, quiet_turn}
use Rattle.engine.specs.declared.retuning.TuneFault.{TuneFault}
use Rattle.engine.specs.declared.retuning.TuneFault.TheVariants as tune
use Rattle.engine.specs.Clients.{caller_of}
use Rattle.engine.specs.Passes.{MakesCall, PassView}
use Rattle.engine.specs.Replies.{reply_of_tune, reply_of_tuning_fault}
use Rattle.engine.specs.Turns.{HasRoomFor, IsTooWide, MakesTuneCall, TuneTurn}
use Rattle.engine.proofs.NotTaken.{taken_late}

-- what holds of a configuration that was read
pub if_ok-weaker : (answer : Result Config ConfigFault) (P Q : Config → Type 0) → ((config : Config) → P config → Q config) → IfOk answer P → IfOk answer Q
if_ok-weaker (Ok config) P Q weaker is = weaker config is
if_ok-weaker (Err fault) P Q weaker is = tt

-- the opening configuration without its listed words
module _ (opening base : Config) (is : base ≡ record opening { words = [] }) where
  -- has other statistics at most
  pub base_kept : base ≡ with_statistics opening base
  base_kept = subst (λ (k : Config). k ≡ with_statistics opening k) (sym is) refl

  -- is in range
  pub base_in_range : IsInRange opening → IsInRange base
  base_in_range range = subst IsInRange (sym is) (record {
    passes = range.passes;
    slices = range.slices;
    blocks = range.blocks;
    max_rank = range.max_rank;
    commits = range.commits;
    reserve = range.reserve;
    one_in = range.one_in;
    snr = range.snr;
    documents = range.documents;
    tail = range.tail;
    max_rows = range.max_rows;
    private = range.private;
    words = record { few = omega arith; counted = All-nil (λ (entry : List ℕ × ℕ). IsBetween 1 opening.documents entry.1) };
  })

  -- and is tuned as the opening one is
  pub tunes_by_base : (config : Config) → IsTuning base config → IsTuning opening config
  tunes_by_base config tunes = record {
    kept = subst (λ (k : Config). config ≡ with_statistics k config) is tunes.kept;
    in_range = tunes.in_range;
    in_order = tunes.in_order;
    folded = tunes.folded;
  }

-- A text that gives no configuration, or for which no memory was found: nothing was called.
module _ (opening : Config) (limits : Limits) (pass : ℕ) (front : List Event) (idle : IsIdle pass front) (legal : IsLegal limits front) where
  abbrev caller : Caller
  caller = record { opening = opening; limits = limits; pass = pass }

  by_fault : (text : List ℕ) (fault : ConfigFault) → tuning opening text ≡ Err fault → AnswersTuned caller front front (tuned opening text) (reply.Tuning (number_of_fault fault))
  by_fault text fault is =
      subst (λ (comes : Tuned). AnswersTuned caller front front comes (reply.Tuning (number_of_fault fault))) (sym (tuned-faulty opening text fault is)) (refl, inl refl)

  pub refused_text : (text : List ℕ) (fault : ConfigFault) → IsFaultOfBytes fault (tuning opening text) → AnswersTuned caller front front (tuned opening text) (reply_of_tuning_fault fault)
  refused_text text cause.Memory is = wants_memory caller front idle legal (tuned opening text)
  refused_text text cause.ReadFault is = absurd is
  refused_text text (cause.TooLong limit) is = absurd is
  refused_text text cause.NotJson is = by_fault text cause.NotJson is
  refused_text text (cause.UnknownKey key) is = by_fault text (cause.UnknownKey key) is
  refused_text text (cause.BadValue key kept) is = by_fault text (cause.BadValue key kept) is
  refused_text text (cause.NotWord word) is = by_fault text (cause.NotWord word) is
  refused_text text (cause.WordCount word count) is = by_fault text (cause.WordCount word count) is
  refused_text text (cause.TooManyColumns columns) is = by_fault text (cause.TooManyColumns columns) is
  refused_text text (cause.PoolTooLarge words) is = by_fault text (cause.PoolTooLarge words) is

-- A text that gives a configuration.
module _ (opening : Config) (limits : Limits) (before after : PassView) (config : Config) where
  module _ (text : List ℕ) (is : tuning opening text ≡ Ok config) (room : limits.slice_words ≡ words_of_slice opening) where
    -- its rows have room: it is answered as a call
    answered : (answer : Result ℕ TuneFault) → HasRoomFor limits config → MakesCall limits (call.Tune config) (reply_of_tune answer) before after →
        (limits.events ≤ length before.front → IsNotTaken (caller_of opening limits before) before.front after.front (reply_of_tune answer)) →
        AnswersTuned (caller_of opening limits before) before.front after.front (tuned opening text) (reply_of_tune answer)
    answered answer fits made late =
        let answers : AnswersCall (caller_of opening limits before) before.front after.front (call.Tune config) (reply_of_tune answer) =
        record { step = made.step; spent = late } in
        subst (λ (comes : Tuned). AnswersTuned (caller_of opening limits before) before.front after.front comes (reply_of_tune answer))
        (sym (tuned-gives opening config text is (subst (λ (n : ℕ). words_of_slice config ≤ n) room fits))) answers

    -- or they have none, and nothing was done
    too_wide : (needed most : ℕ) → IsTooWide limits config needed most → after ≡ before →
        AnswersTuned (caller_of opening limits before) before.front after.front (tuned opening text) (reply.Wide needed most)
    too_wide needed most wide same =
        let refusal : reply.Wide needed most ≡ reply.Wide (words_of_slice config) (words_of_slice opening) =
        ap (λ (n : ℕ). reply.Wide n most) wide.needed_is ∙ ap (reply.Wide (words_of_slice config)) (wide.room_is ∙ room) in
        let more : words_of_slice opening < words_of_slice config = omega (arith, wide.wide, wide.needed_is, wide.room_is, room) in
        subst (λ (comes : Tuned). AnswersTuned (caller_of opening limits before) before.front after.front comes (reply.Wide needed most))
        (sym (tuned-wide opening config text is more)) (ap (λ (p : PassView). p.front) (sym same), inl refusal)

    pub given_text : (answer : Result ℕ TuneFault) → MakesTuneCall limits config answer before after → TuneTurn limits config answer before after →
        AnswersTuned (caller_of opening limits before) before.front after.front (tuned opening text) (reply_of_tune answer)
    given_text (Ok count) made (fits, turn) =
        answered (Ok count) fits made (λ many. absurd (taken_late limits before.number before.front after.front _ turn many turn.answer.0))
    given_text (Err (tune.Spent events)) made (fits, turn) =
        answered (Err (tune.Spent events)) fits made
        (λ many.
        record { reply = inl refl; call = quiet_adds_none before.number 0 before.front after.front (quiet_turn before.number before.front after.front [] turn refl refl) })
    given_text (Err tune.Memory) made (fits, same) =
        answered (Err tune.Memory) fits made (λ many. record { reply = inr refl; call = ap (own before.number) (ap (λ (p : PassView). p.front) same) })
    given_text (Err (tune.Wide needed most)) made (wide, same) = too_wide needed most wide same
