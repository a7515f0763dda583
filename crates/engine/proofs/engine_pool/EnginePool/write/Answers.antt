use Rattle.std.proofs.Common.{◌≡◌, ◌<◌, ap, sym, ◌∙◌, subst}
use Rattle.std.specs.List.{All}
use Rattle.funnel_model.specs.Legal.{IsInSlice, Limits}
use Rattle.funnel_model.specs.Sizes.{columns_of_slice}
use Rattle.funnel_model.specs.declared.config.Config.{Config}
use Rattle.row_layout.specs.DocumentBits.{AreDocumentBitsIn}
use Rattle.row_layout.specs.Layouts.{LayoutId}
use Rattle.slice_rule.specs.Pools.{PoolId}
use Rattle.column_writer.specs.Written.{CanWrite}
use Rattle.engine.specs.Engines.{IsOfConfig}
use Rattle.row_layout.specs.Owners.{IsOwnedOnlyAt}
use Rattle.commit_desk.proofs.CallEnds.{keep_to_column}
use Rattle.engine.proofs.Claims.{has_written, room_is}
use Rattle.engine.proofs.engine_pool.EnginePool.write.Goals as goal

pub fill_bits-requires-clause-slice : goal.fill_bits-requires-clause-slice
fill_bits-requires-clause-slice g c =
    let start = c.requires.claimed in
    let of_config = subst IsOfConfig c.self.view_is c.self.invariant.of_config in
    let in_pool : c.args.claim.now.slice < c.args.self.now.config.slices = subst (λ n. c.args.claim.now.slice < n) (ap (λ (l : Limits). l.slices) of_config.limits) start.in_range in
    subst (λ n. c.args.claim.now.slice < n) (sym (ap (λ (l : LayoutId). l.config.slices) c.layout.ensures ∙ ap (λ (k : Config). k.slices) start.laid.suits.sized)) in_pool

pub fill_bits-requires-clause-column : goal.fill_bits-requires-clause-column
fill_bits-requires-clause-column g c =
    let start = c.requires.claimed in
    let of_config = subst IsOfConfig c.self.view_is c.self.invariant.of_config in
    subst (λ n. c.args.claim.now.column < n)
    (ap (λ (l : Limits). l.columns) of_config.limits ∙ sym (ap (λ (l : LayoutId). columns_of_slice l.config) c.layout.ensures ∙ ap columns_of_slice start.laid.suits.sized)) start.column

pub write-requires : goal.write-requires
write-requires g c =
    let pool = c.args.self.now in
    let claim = c.args.claim.now in
    let layout = c.args.layout.now in
    let pass = c.args.pass.now in
    let bits = c.fill_bits.new.bits.bits in
    let start = c.requires.claimed in
    let filled = c.fill_bits.ensures in
    let view : c.self.inside.pool ≡ pool = c.self.view_is in
    let of_config = subst IsOfConfig view c.self.invariant.of_config in
    subst (λ (p : PoolId). CanWrite p pass claim bits) (sym view)
    (record {
      same = start.seated.same;
      holds = start.holds;
      none_outstanding = start.seated.none_outstanding;
      inside = subst (λ n. All (λ b. IsInSlice n claim.slice b.word) bits) (room_is pool claim layout pass of_config start)
          (subst (λ (l : LayoutId). All (λ b. IsInSlice l.room claim.slice b.word) bits) c.layout.ensures filled.inside);
      of_words = filled.of_words;
      owners = keep_to_column pool claim layout bits pass (ap (λ (l : Limits). l.slice_words) of_config.limits) start
          (subst (λ (l : LayoutId). All (IsOwnedOnlyAt l.room l.config claim.slice claim.column) bits) c.layout.ensures filled.own);
    })

pub returns-clause-written : goal.returns-clause-written
returns-clause-written g c =
    let pool = c.args.self.now in
    let claim = c.args.claim.now in
    let set = c.args.words.now in
    let bits = c.fill_bits.new.bits.bits in
    let of_config = subst IsOfConfig c.self.view_is c.self.invariant.of_config in
    has_written pool claim c.args.layout.now set bits c.args.pass.now c.write.new.seat of_config c.requires.claimed c.write.ensures
    (subst (λ (l : LayoutId). AreDocumentBitsIn l.room l.config set claim.slice claim.column bits) c.layout.ensures c.fill_bits.ensures.document_bits)
    (subst (λ (l : LayoutId). All (λ b. IsInSlice l.room claim.slice b.word) bits) c.layout.ensures c.fill_bits.ensures.inside)
