use Rattle.commit_desk.proofs.KeptNew.{kept-new}
use Rattle.commit_desk.proofs.laws.new_desks_are_kept.Goals as goal

pub returns : goal.returns
returns c config limits most books in_range some new =
    kept-new config limits most books in_range some new.slices new.columns new.events new.journal new.table_slices new.table_columns new.free new.all_there new.none_live new.live_slices new.live_columns new.no_token
    new.stage_columns new.empty new.mark new.layouts
