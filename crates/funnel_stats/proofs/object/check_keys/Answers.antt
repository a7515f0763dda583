-- A walk over the names, of which the first unknown one is found.
use Rattle.std.proofs.Common.{◌≡◌, ◌∙◌, List, Some, true, false, string_bytes, sym, ap}
use Rattle.serde_json.specs.View.{members_view}
use Rattle.serde_json.proofs.Views.{Entry}
use Rattle.funnel_stats.specs.Faults.{unknown_key}
use Rattle.funnel_stats.specs.Keys.{is_name}
use Rattle.funnel_stats.specs.Values.{entries}
use Rattle.funnel_stats.specs.declared.fault.ConfigFault.TheVariants.{UnknownKey}
use Rattle.funnel_stats.proofs.EntryLemmas.{unknown_key-none, unknown_key-known, unknown_key-unknown}
use Rattle.funnel_stats.proofs.object.check_keys.Goals as goal

pub returns-then-not-is_name : goal.returns-then-not-is_name
returns-then-not-is_name c =
    let e : Entry = (c.in-Some.name.now, c.in-Some.field-0-1.now) in
    let unknown : is_name c.args.known.now (string_bytes e.0) ≡ false = sym (ap (is_name c.args.known.now) c.deref.ensures) ∙ sym c.is_name.ensures ∙ c.if-not-is_name.true in
    c.loop-name.invariant
    ∙ ap (λ (es : List Entry). unknown_key c.args.known.now (entries (members_view es))) c.in-Some.ensures.steps
    ∙ unknown_key-unknown c.args.known.now e c.next.new.self unknown
    ∙ ap (λ name. Some (UnknownKey name)) (sym (c.new.ensures ∙ c.in_ok-clone.ensures.cases))

pub loop-name-preserved : goal.loop-name-preserved
loop-name-preserved c =
    let e : Entry = (c.in-Some.name.now, c.in-Some.field-0-1.now) in
    let known : is_name c.args.known.now (string_bytes e.0) ≡ true = sym (ap (is_name c.args.known.now) c.deref.ensures) ∙ sym c.is_name.ensures ∙ c.if-not-is_name.false in
    c.loop-name.invariant
    ∙ ap (λ (es : List Entry). unknown_key c.args.known.now (entries (members_view es))) c.in-Some.ensures.steps
    ∙ unknown_key-known c.args.known.now e c.next.new.self known

pub returns : goal.returns
returns c =
    c.loop-name.invariant
    ∙ ap (λ (es : List Entry). unknown_key c.args.known.now (entries (members_view es))) c.in-None.ensures.steps.0
    ∙ unknown_key-none c.args.known.now
