-- A walk over the words, of which the first without a count is found.
use Rattle.std.proofs.Common.{◌≡◌, ◌∙◌, ◌++◌, List, Some, map, sym, ap, ap₂, subst, append-nil}
use Rattle.serde_json.specs.View.{members_view}
use Rattle.serde_json.proofs.Views.{Entry}
use Rattle.funnel_model.specs.Listed.{listed_pair, IsInByteOrder}
use Rattle.funnel_stats.specs.Configurations.{word_counts}
use Rattle.funnel_stats.specs.Faults.{word_count}
use Rattle.funnel_stats.specs.Values.{entries, kept}
use Rattle.funnel_stats.specs.declared.fault.ConfigFault.TheVariants.{WordCount}
use Rattle.funnel_stats.proofs.EntryLemmas.{word_count-none, word_count-count, word_count-other, word_counts-count, listed-push, IsInByteOrder-word_counts}
use Rattle.funnel_stats.proofs.listing.count_words.Goals as goal

pub loop-word-preserved : goal.loop-word-preserved
loop-word-preserved c =
    let e : Entry = (c.in-Some.word.now, c.in-Some.value.now) in
    let left = c.next.new.self in
    let is = c.in-Some-count_of.ensures in record {
      fault =
          c.loop-word.invariant.fault
          ∙ ap (λ (es : List Entry). word_count c.args.documents (entries (members_view es))) c.in-Some.ensures.steps
          ∙ word_count-count c.args.documents e left is.0;
      words =
          c.loop-word.invariant.words
          ∙ ap (λ (es : List Entry). map listed_pair c.loop-word.counts.items ++ word_counts (entries (members_view es))) c.in-Some.ensures.steps
          ∙ ap (λ rest. map listed_pair c.loop-word.counts.items ++ rest) (word_counts-count e left c.in-Some-count_of.count is.1)
          ∙ listed-push _ c.push.new.self.items c.in_ok-clone-2.field-0 _ c.in-Some-count_of.count (word_counts (entries (members_view left)))
          c.in_ok-push.ensures.items c.in_ok-clone-2.ensures.cases;
    }

pub returns-in_default-clause-answer : goal.returns-in_default-clause-answer
returns-in_default-clause-answer c =
    let e : Entry = (c.in-Some.word.now, c.in-Some.value.now) in
    c.loop-word.invariant.fault
    ∙ ap (λ (es : List Entry). word_count c.args.documents (entries (members_view es))) c.in-Some.ensures.steps
    ∙ word_count-other c.args.documents e c.next.new.self c.in_default.ensures
    ∙ ap₂ (λ word count. Some (WordCount word count)) (sym (c.new.ensures ∙ c.in_ok-clone.ensures.cases))
    (sym (c.from-kept.ensures ∙ ap kept c.as_u64.ensures))

pub new-requires-2 : goal.new-requires-2
new-requires-2 c =
    let all : word_counts (entries (members_view c.args.listed.now.entries)) ≡ map listed_pair c.loop-word.counts.items =
    c.loop-word.invariant.words
    ∙ ap (λ (es : List Entry). map listed_pair c.loop-word.counts.items ++ word_counts (entries (members_view es))) c.in-None.ensures.steps.0
    ∙ append-nil (map listed_pair c.loop-word.counts.items) in
    subst IsInByteOrder all (IsInByteOrder-word_counts c.args.listed.now.entries c.into_iter-word-iterator.ensures.into_iter_gives.5)

pub returns-clause-answer : goal.returns-clause-answer
returns-clause-answer c = (
  c.loop-word.invariant.fault
      ∙ ap (λ (es : List Entry). word_count c.args.documents (entries (members_view es))) c.in-None.ensures.steps.0
      ∙ word_count-none c.args.documents,
  c.new-2.ensures
      ∙ sym (c.loop-word.invariant.words
      ∙ ap (λ (es : List Entry). map listed_pair c.loop-word.counts.items ++ word_counts (entries (members_view es))) c.in-None.ensures.steps.0
      ∙ append-nil (map listed_pair c.loop-word.counts.items)),
)
