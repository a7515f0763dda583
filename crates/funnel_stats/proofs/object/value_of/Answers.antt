use Rattle.std.proofs.Common.{◌∙◌, ap, option_map}
use Rattle.serde_json.specs.Find.{get_member}
use Rattle.serde_json.specs.View.{view, members_view}
use Rattle.serde_json.proofs.Views.{view_of_ref, view-lookup}
use Rattle.funnel_stats.proofs.object.value_of.Goals as goal

-- what the map finds at the name is what the object has there
pub returns : goal.returns
returns c =
    view_of_ref c.get.result ∙ ap (option_map view) c.get.ensures.value
    ∙ view-lookup c.name.result.now c.args.object.now.entries
    ∙ ap (λ name. get_member name (members_view c.args.object.now.entries)) c.name.ensures
