-- A walk over the texts, of which the first that is no word is found.
use Rattle.std.proofs.Common.{◌≡◌, ◌∙◌, List, Some, true, false, string_bytes, sym, ap}
use Rattle.serde_json.specs.View.{members_view}
use Rattle.serde_json.proofs.Views.{Entry}
use Rattle.funnel_stats.specs.Faults.{is_word, not_word}
use Rattle.funnel_stats.specs.Values.{entries}
use Rattle.funnel_stats.specs.declared.fault.ConfigFault.TheVariants.{NotWord}
use Rattle.funnel_stats.proofs.EntryLemmas.{not_word-none, not_word-word, not_word-other}
use Rattle.funnel_stats.proofs.listing.check_words.Goals as goal

pub returns-then-not-branch : goal.returns-then-not-branch
returns-then-not-branch c =
    let e : Entry = (c.in-Some.text.now, c.in-Some.field-0-1.now) in
    let other : is_word (string_bytes e.0) ≡ false = sym (ap is_word c.deref.ensures) ∙ sym c.in_ok-is_word.ensures ∙ c.if-not-branch.true in
    c.loop-text.invariant
    ∙ ap (λ (es : List Entry). not_word (entries (members_view es))) c.in-Some.ensures.steps
    ∙ not_word-other e c.next.new.self other
    ∙ ap (λ text. Some (NotWord text)) (sym (c.new.ensures ∙ c.in_ok-clone.ensures.cases))

pub loop-text-preserved : goal.loop-text-preserved
loop-text-preserved c =
    let e : Entry = (c.in-Some.text.now, c.in-Some.field-0-1.now) in
    let word : is_word (string_bytes e.0) ≡ true = sym (ap is_word c.deref.ensures) ∙ sym c.in_ok-is_word.ensures ∙ c.if-not-branch.false in
    c.loop-text.invariant
    ∙ ap (λ (es : List Entry). not_word (entries (members_view es))) c.in-Some.ensures.steps
    ∙ not_word-word e c.next.new.self word

pub returns : goal.returns
returns c =
    c.loop-text.invariant
    ∙ ap (λ (es : List Entry). not_word (entries (members_view es))) c.in-None.ensures.steps.0
    ∙ not_word-none
