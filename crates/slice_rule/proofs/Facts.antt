-- What a seat knows stays true.
use Rattle.std.proofs.Common.{◌≡◌, ℕ, ◌⊎◌, ⊎_elim, inl, inr, Bool, true, List, ◌++◌, sym, ◌∙◌, subst}
use Rattle.std.proofs.lemmas.Bool.{or_left}
use Rattle.std.proofs.lemmas.List.Elements.{All-weaker}
use Rattle.std.proofs.lemmas.List.Folds.{list_any-append}
use Rattle.std.specs.List.{All, list_any}
use Rattle.std.specs.Prelude.{slice_index}
use mathlib.Core.List.{IsPrefix}
use Rattle.funnel_model.specs.declared.bit_list.Bit.{Bit}
use Rattle.funnel_model.specs.declared.event.Event.{Event}
use Rattle.funnel_model.specs.declared.event.Event.TheVariants as event
use Rattle.funnel_model.specs.Events.{clears}
use Rattle.funnel_model.specs.Legal.{Limits}
use Rattle.funnel_model.specs.RowWords.{IsSetIn}
use Rattle.slice_rule.specs.declared.view.Fact.{Fact}
use Rattle.slice_rule.specs.declared.view.Fact.TheVariants as fact
use Rattle.slice_rule.specs.Numbers.{takes_in}
use Rattle.slice_rule.specs.Rule.{IsKnownSet, IsKnownZero, IsTrueFact}
use Rattle.slice_rule.specs.Worlds.{World}
use Rattle.slice_rule.proofs.Since.{event-more}
use Rattle.funnel_model.proofs.StepLemmas.{prefix_trans}

-- an event that is one of some is one of more
any_more : (test : Event → Bool) (later more : List Event) → list_any test later ≡ true → list_any test (later ++ more) ≡ true
any_more test later more is = list_any-append test later more ∙ or_left (list_any test later) (list_any test more) is

module _ (limits : Limits) where
  -- where passes asked more, and the history and the row words are the same
  true_of_more : (world more : World) (rows : List ℕ) → more.history ≡ world.history → ((pass : ℕ) → IsPrefix (world.asked pass) (more.asked pass)) → (f : Fact)
      → IsTrueFact limits world rows f → IsTrueFact limits more rows f
  true_of_more world more rows same asked (fact.Asked pass events) known = prefix_trans events (world.asked pass) (more.asked pass) known (asked pass)
  true_of_more world more rows same asked (fact.BitSet number b) known = subst (λ (h : List Event). IsKnownSet limits h rows number b) (sym same) known
  true_of_more world more rows same asked (fact.WordZero number word) known = subst (λ (h : List Event). IsKnownZero limits h rows number word) (sym same) known
  true_of_more world more rows same asked (fact.WordRead number word value) known = tt

  pub all_of_more : (world more : World) (rows : List ℕ) → more.history ≡ world.history → ((pass : ℕ) → IsPrefix (world.asked pass) (more.asked pass)) → (facts : List Fact)
      → All (IsTrueFact limits world rows) facts → All (IsTrueFact limits more rows) facts
  all_of_more world more rows same asked = All-weaker (IsTrueFact limits world rows) (IsTrueFact limits more rows) (true_of_more world more rows same asked)

  -- where the history goes on
  true_later : (world more : World) (rows : List ℕ) (later : List Event) → more.history ≡ world.history ++ later → ((pass : ℕ) → more.asked pass ≡ world.asked pass) → (f : Fact)
      → IsTrueFact limits world rows f → IsTrueFact limits more rows f
  true_later world more rows later goes asked (fact.Asked pass events) known = subst (IsPrefix events) (sym (asked pass)) known
  true_later world more rows later goes asked (fact.BitSet number b) known =
      subst (λ (h : List Event). IsKnownSet limits h rows number b) (sym goes) (record {
        pass = known.pass;
        slice = known.slice;
        column = known.column;
        take = event-more world.history later number (event.Take known.pass known.slice known.column) known.take;
        inside = known.inside;
        set = ⊎_elim (λ s. inl s) (λ cleared. inr (any_more (clears known.slice) known.take.later later cleared)) known.set;
      })
  true_later world more rows later goes asked (fact.WordZero number word) known =
      subst (λ (h : List Event). IsKnownZero limits h rows number word) (sym goes) (record {
        pass = known.pass;
        slice = known.slice;
        clear = event-more world.history later number (event.Clear known.pass known.slice) known.clear;
        inside = known.inside;
        zero = ⊎_elim (λ z. inl z) (λ taken. inr (any_more (takes_in known.slice) known.clear.later later taken)) known.zero;
      })
  true_later world more rows later goes asked (fact.WordRead number word value) known = tt

  pub all_later : (world more : World) (rows : List ℕ) (later : List Event) → more.history ≡ world.history ++ later → ((pass : ℕ) → more.asked pass ≡ world.asked pass) → (facts : List Fact)
      → All (IsTrueFact limits world rows) facts → All (IsTrueFact limits more rows) facts
  all_later world more rows later goes asked = All-weaker (IsTrueFact limits world rows) (IsTrueFact limits more rows) (true_later world more rows later goes asked)

  -- a bit stays known set, and a word known zero, by what changed row words owe it
  pub still_set : {history : List Event} {rows more : List ℕ} {number : ℕ} {b : Bit} (known : IsKnownSet limits history rows number b)
      → (IsSetIn rows b → IsSetIn more b ⊎ (list_any (clears known.slice) known.take.later ≡ true)) → IsKnownSet limits history more number b
  still_set known stays = record {
    pass = known.pass;
    slice = known.slice;
    column = known.column;
    take = known.take;
    inside = known.inside;
    set = ⊎_elim stays (λ cleared. inr cleared) known.set;
  }

  pub still_zero : {history : List Event} {rows more : List ℕ} {number word : ℕ} (known : IsKnownZero limits history rows number word)
      → (slice_index rows word ≡ 0 → (slice_index more word ≡ 0) ⊎ (list_any (takes_in known.slice) known.clear.later ≡ true)) → IsKnownZero limits history more number word
  still_zero known stays = record {
    pass = known.pass;
    slice = known.slice;
    clear = known.clear;
    inside = known.inside;
    zero = ⊎_elim stays (λ taken. inr taken) known.zero;
  }

  -- what changed row words owe the facts about bits and words
  pub record KeepsFacts (history : List Event) (rows more : List ℕ) : Type 0 where
    pub set : (number : ℕ) (b : Bit) → IsKnownSet limits history rows number b → IsKnownSet limits history more number b
    pub zero : (number word : ℕ) → IsKnownZero limits history rows number word → IsKnownZero limits history more number word

  true_in : (world : World) (rows more : List ℕ) → KeepsFacts world.history rows more → (f : Fact) → IsTrueFact limits world rows f → IsTrueFact limits world more f
  true_in world rows more keeps (fact.Asked pass events) known = known
  true_in world rows more keeps (fact.BitSet number b) known = keeps.set number b known
  true_in world rows more keeps (fact.WordZero number word) known = keeps.zero number word known
  true_in world rows more keeps (fact.WordRead number word value) known = tt

  pub all_in : (world : World) (rows more : List ℕ) → KeepsFacts world.history rows more → (facts : List Fact)
      → All (IsTrueFact limits world rows) facts → All (IsTrueFact limits world more) facts
  all_in world rows more keeps = All-weaker (IsTrueFact limits world rows) (IsTrueFact limits world more) (true_in world rows more keeps)
