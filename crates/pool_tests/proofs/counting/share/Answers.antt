use denote.Param.Send.{sendable}
use Rattle.slice_rule.proofs.Sharing.{home_sync, note_sync, pass_sync}
use Rattle.pool_tests.proofs.counting.share.Goals as goal

pub is_shared-requires-2-sync-T : goal.is_shared-requires-2-sync-T
is_shared-requires-2-sync-T c κs = search (sendable, pass_sync) depth 20

pub is_shared-requires-3-sync-T : goal.is_shared-requires-3-sync-T
is_shared-requires-3-sync-T c κs = search (sendable, note_sync) depth 20

pub is_shared-requires-4-sync-T : goal.is_shared-requires-4-sync-T
is_shared-requires-4-sync-T c κs = search (sendable, home_sync) depth 20
