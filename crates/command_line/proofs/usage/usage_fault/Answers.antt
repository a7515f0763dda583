use Rattle.std.proofs.Common.{rules, ◌≡◌, ◌∙◌, List, map, sym, inl, inr}
use Rattle.clap.specs.Words.{Text, kind_of}
use Rattle.clap.specs.declared.error.kind.ErrorKind.TheVariants.{DisplayHelp, DisplayVersion, OutOfMemory}
use Rattle.command_line.specs.Commands.{call_words}
use Rattle.command_line.proofs.TakenNames.{command_where_taken}
use Rattle.command_line.proofs.TakenWords.{parsed_is, refused_is}
use Rattle.command_line.proofs.usage.usage_fault.Goals as goal

pub returns-in-Ok : goal.returns-in-Ok
returns-in-Ok c =
    let words : List Text = map (λ word. word.now) c.args.words.now in
    let words_are : map (λ s. s.now) c.as_slice.result.now ≡ call_words words = search rules in
    let is = parsed_is words _ _ c.in-Ok.field-0 c.in_ok-funnel_app.ensures words_are c.in-Ok.ensures.matches c.in-Ok.ensures.kinds in
    command_where_taken words is.0

pub returns-in-DisplayHelp : goal.returns-in-DisplayHelp
returns-in-DisplayHelp c =
    let words : List Text = map (λ word. word.now) c.args.words.now in
    let words_are : map (λ s. s.now) c.as_slice.result.now ≡ call_words words = search rules in
    refused_is words _ _ (kind_of c.in-Err.error) c.in_ok-funnel_app.ensures words_are c.in-Err.ensures.passes
    (λ memory. elim c.in-DisplayHelp.is [
      | inl help ↦ let other : DisplayHelp ≡ OutOfMemory = sym help ∙ c.kind.ensures ∙ memory in absurd (cc)
      | inr version ↦ let other : DisplayVersion ≡ OutOfMemory = sym version ∙ c.kind.ensures ∙ memory in absurd (cc)
    ])

pub returns : goal.returns
returns c =
    let words : List Text = map (λ word. word.now) c.args.words.now in
    let words_are : map (λ s. s.now) c.as_slice.result.now ≡ call_words words = search rules in
    refused_is words _ _ (kind_of c.in-Err.error) c.in_ok-funnel_app.ensures words_are c.in-Err.ensures.passes
    (λ memory. c.in_default.not-OutOfMemory (c.kind.ensures ∙ memory))
