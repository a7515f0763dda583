use Rattle.std.proofs.Common.{◌<◌, sym, subst}
use Rattle.std.specs.List.{All}
use Rattle.funnel_model.specs.Legal.{IsInSlice}
use Rattle.funnel_model.specs.Sizes.{columns_of_slice}
use Rattle.row_layout.specs.DocumentBits.{AreDocumentBitsIn}
use Rattle.row_layout.specs.Layouts.{LayoutId}
use Rattle.row_layout.specs.Owners.{IsOwnedOnlyAt}
use Rattle.commit_desk_tests.proofs.Settings.{can_write, claim_fits, written}
use Rattle.commit_desk_tests.proofs.setting.Setting.set_bits.Goals as goal

pub returns-clause-written : goal.returns-clause-written
returns-clause-written g c =
    let self = c.self.inside in
    let claim = c.args.claim.now in
    let set = c.args.words.now in
    let bits = c.fill_bits.new.bits.bits in
    let filled = c.fill_bits.ensures in
    written g.N.PoolName.pool self.layout self.pool self.desk.pool self.base c.self.invariant claim c.args.layout.now c.args.seat.now c.requires.claimed set bits c.write_column.new.seat
    c.write_column.ensures
    (subst (λ (l : LayoutId). AreDocumentBitsIn l.room l.config set claim.slice claim.column bits) c.layout.ensures filled.document_bits)
    (subst (λ (l : LayoutId). All (λ b. IsInSlice l.room claim.slice b.word) bits) c.layout.ensures filled.inside)

pub write_column-requires : goal.write_column-requires
write_column-requires g c =
    let self = c.self.inside in
    let claim = c.args.claim.now in
    let bits = c.fill_bits.new.bits.bits in
    let filled = c.fill_bits.ensures in
    can_write g.N.PoolName.pool self.layout self.pool self.desk.pool self.base c.self.invariant claim c.args.layout.now c.args.seat.now c.requires.claimed bits
    (subst (λ (l : LayoutId). All (λ b. IsInSlice l.room claim.slice b.word) bits) c.layout.ensures filled.inside) filled.of_words
    (subst (λ (l : LayoutId). All (IsOwnedOnlyAt l.room l.config claim.slice claim.column) bits) c.layout.ensures filled.own)

pub fill_bits-requires-clause-slice : goal.fill_bits-requires-clause-slice
fill_bits-requires-clause-slice g c =
    let self = c.self.inside in
    let claim = c.args.claim.now in
    subst (λ (l : LayoutId). claim.slice < l.config.slices) (sym c.layout.ensures)
    (claim_fits g.N.PoolName.pool self.layout self.pool self.desk.pool self.base c.self.invariant claim c.args.layout.now c.args.seat.now c.requires.claimed).0

pub fill_bits-requires-clause-column : goal.fill_bits-requires-clause-column
fill_bits-requires-clause-column g c =
    let self = c.self.inside in
    let claim = c.args.claim.now in
    subst (λ (l : LayoutId). claim.column < columns_of_slice l.config) (sym c.layout.ensures)
    (claim_fits g.N.PoolName.pool self.layout self.pool self.desk.pool self.base c.self.invariant claim c.args.layout.now c.args.seat.now c.requires.claimed).1
