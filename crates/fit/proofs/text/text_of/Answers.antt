use Rattle.std.proofs.Common.{◌≡◌, ◌≤◌, ◌∙◌, IsUtf8, ap, string_bytes, subst, sym, ℕ, List, Some}
use Rattle.std.proofs.lemmas.Str.{IsUtf8-string_bytes}
use Rattle.serde_json.proofs.Views.{view-Object}
use Rattle.serde_json.specs.Data.{Data, depth, object}
use Rattle.serde_json.specs.Read.{max_depth, read}
use Rattle.serde_json.specs.View.{view}
use Rattle.serde_json.specs.Written.{IsInOrder}
use Rattle.serde_json.specs.declared.value.Value.{Object}
use Rattle.fit.proofs.Writing.{is_shallow, read_newline, written}
use Rattle.fit.specs.Texts.{members_of, text_of}
use Rattle.fit.proofs.text.text_of.Goals as goal

is_text : (c : goal.In_ok-push) → string_bytes c.push.new.self ≡ text_of c.args.config.now
unfolding text_of lib.Utf8.encode
is_text c =
    let value : view (Object c.in_ok-object.object) ≡ object (members_of c.args.config.now) = view-Object c.in_ok-object.object ∙ ap object c.in_ok-object.ensures in
    c.in_ok-push.ensures.bytes ∙ written c.args.config.now (string_bytes c.in_ok-text.text) (view (Object c.in_ok-object.object)) value c.in_ok-text.ensures.text

pub returns-clause-text : goal.returns-clause-text
returns-clause-text c = is_text c

pub returns-clause-utf8 : goal.returns-clause-utf8
returns-clause-utf8 c = subst IsUtf8 (is_text c) (IsUtf8-string_bytes c.push.new.self)

pub returns-clause-read_back : goal.returns-clause-read_back
unfolding lib.Utf8.encode
returns-clause-read_back c =
    let config = c.args.config.now in
    let bytes = string_bytes c.in_ok-text.text in
    let value : view (Object c.in_ok-object.object) ≡ object (members_of config) = view-Object c.in_ok-object.object ∙ ap object c.in_ok-object.ensures in
    let e = c.in_ok-text.ensures in
    let order : IsInOrder bytes (object (members_of config)) = subst (IsInOrder bytes) value e.order in
    let was : read bytes ≡ Some (object (members_of config)) =
    subst (λ (v : Data). depth v ≤ max_depth → read bytes ≡ Some v) value e.reads_back (is_shallow config) in
    subst (λ (text : List ℕ). read text ≡ Some (object (members_of config))) (sym (c.in_ok-push.ensures.bytes) ∙ is_text c) (read_newline config c.requires bytes e.compact order was)
