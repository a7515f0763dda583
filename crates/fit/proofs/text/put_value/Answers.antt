use Rattle.std.proofs.Common.{◌≡◌, ◌∙◌, ℕ, List, ap, string_bytes}
use Rattle.serde_json.proofs.Views.{members_view-insert_entry}
use Rattle.serde_json.specs.Data.{put}
use Rattle.serde_json.specs.View.{members_view, view}
use Rattle.funnel_stats.specs.Keys.{name_of}
use Rattle.fit.proofs.text.put_value.Goals as goal

pub returns : goal.returns
returns c =
    let same : string_bytes c.in_ok-name.name ≡ name_of c.args.key = c.in_ok-name.ensures.ok ∙ c.name.ensures in
    ap members_view c.in_ok-insert.ensures.entries ∙ members_view-insert_entry c.args.object.now.entries c.in_ok-name.name c.args.value
    ∙ ap (λ (name : List ℕ). put name (view c.args.value) (members_view c.args.object.now.entries)) same
