use Rattle.commit_desk_tests.proofs.Settings.{can_clear_slice, cleared}
use Rattle.commit_desk_tests.proofs.setting.Setting.open.Goals as goal

pub clear_slice-requires : goal.clear_slice-requires
clear_slice-requires g c =
    let clearing = c.clearing.inside in
    let range = c.slice_range-room.ensures in
    can_clear_slice g.N.PoolName.pool c.self.inside.layout c.self.inside.pool c.self.inside.desk.pool c.self.inside.base c.self.invariant clearing.seat clearing.to_clear.job c.clearing.invariant.0 range.small_pool c.slice_range-room.result.1 range.words

pub opened-slice-requires-clause-zero : goal.opened-slice-requires-clause-zero
opened-slice-requires-clause-zero g c =
    let clearing = c.clearing.inside in
    (cleared g.N.PoolName.pool c.self.inside.layout c.self.inside.pool c.self.inside.desk.pool c.self.inside.base c.self.invariant clearing.seat c.clear_slice.new.seat clearing.to_clear.job c.clearing.invariant.0 c.clear_slice.ensures).zeros
