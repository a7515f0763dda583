-- What a pass of a setting has done between the calls of an add or of a clear.
use Rattle.std.proofs.Common.{◌≡◌, ◌*◌, ◌<◌, ◌≤◌, ◌↔◌, ◌∙◌, ℕ, List, sym, ap, subst}
use Rattle.std.specs.List.{All, Contains}
use Rattle.column_writer.specs.Written.{CanWrite, SetsBits}
use Rattle.commit_desk.specs.Passes.{HasCleared, HasWritten, IsToClear, IsToWrite}
use Rattle.commit_desk.proofs.CallEnds.{keep_to_column, seated_still}
use Rattle.commit_desk_tests.specs.Tested.{IsSetting}
use Rattle.funnel_model.specs.Configuration.{with_statistics}
use Rattle.funnel_model.specs.declared.bit_list.Bit.{Bit}
use Rattle.funnel_model.specs.declared.claim.Claim.{Claim}
use Rattle.funnel_model.specs.declared.claim.ClearJob.{ClearJob}
use Rattle.funnel_model.specs.declared.config.Config.{Config}
use Rattle.funnel_model.specs.declared.config.TheConstants.{MOST_ROW_WORDS}
use Rattle.funnel_model.specs.Legal.{IsInSlice, Limits}
use Rattle.funnel_model.specs.Sizes.{columns_of_slice, words_of_slice}
use Rattle.funnel_model.specs.Tunings.{treat}
use Rattle.row_layout.specs.DocumentBits.{AreDocumentBitsIn}
use Rattle.row_layout.specs.Layouts.{LayoutId}
use Rattle.row_layout.specs.Owners.{IsOwnedOnlyAt}
use Rattle.slice_recycler.proofs.Recycles.{can_clear, has_cleared}
use Rattle.slice_recycler.specs.Cleared.{CanClearSlice, ClearsSlice}
use Rattle.slice_rule.specs.declared.view.Fact.TheVariants as fact
use Rattle.slice_rule.specs.Numbers.{last_number}
use Rattle.slice_rule.specs.Pools.{PoolId, limits_of}
use Rattle.slice_rule.specs.Seats.{HoldsClaim, PassState}
use Rattle.column_writer.proofs.Writing.{has_set}

module _ (name : PoolId) (layout : LayoutId) (pool desk : PoolId) (base : Config) (is : IsSetting name layout pool desk base) where
  -- a slice has the room of the setting's layout, whose pool is small enough, so a pass that is to clear one can
  pub can_clear_slice : (seat : PassState) (job : ClearJob) → IsToClear name job seat → layout.config.slices * layout.room ≤ MOST_ROW_WORDS → (room : ℕ) → room ≡ layout.room → CanClearSlice pool seat job room
  can_clear_slice seat job start small room same_room =
      let limits : pool.limits ≡ limits_of layout.config layout.room = ap (λ (p : PoolId). p.limits) is.of_name ∙ is.laid.limits in
      can_clear pool seat job room (subst (λ (p : PoolId). IsToClear p job seat) (sym is.of_name) start) (record {
        words = same_room ∙ sym (ap (λ (l : Limits). l.slice_words) limits);
        small = subst (λ n. pool.limits.slices * n ≤ MOST_ROW_WORDS) (sym same_room) (subst (λ n. n * layout.room ≤ MOST_ROW_WORDS) (sym (ap (λ (l : Limits). l.slices) limits)) small);
      })

  pub cleared : (seat next : PassState) (job : ClearJob) → IsToClear name job seat → ClearsSlice pool seat next job → HasCleared desk job next
  cleared seat next job start did =
      subst (λ (p : PoolId). HasCleared p job next) (is.of_name ∙ sym is.desk_of_name)
      (has_cleared pool job seat next (subst (λ (p : PoolId). IsToClear p job seat) (sym is.of_name) start) did)

  -- the slices have the room of the setting's layout
  rows : name.limits.slice_words ≡ words_of_slice name.config
  rows = ap (λ (l : Limits). l.slice_words) is.laid.limits ∙ ap (λ (l : LayoutId). l.room) is.laid.laid_out

  module _ (claim : Claim) (own : LayoutId) (seat : PassState) (start : IsToWrite name claim own seat) where
    -- the layout of a claimed column has its slices and columns
    pub claim_fits : (claim.slice < own.config.slices) × (claim.column < columns_of_slice own.config)
    claim_fits =
        let sized : own.config ≡ with_statistics name.config own.config = start.laid.suits.sized in
        let config : layout.config ≡ name.config = ap (λ (l : LayoutId). l.config) is.laid.laid_out in (
          subst (λ n. claim.slice < n) (ap (λ (l : Limits). l.slices) is.laid.limits ∙ ap (λ (k : Config). k.slices) config ∙ sym (ap (λ (k : Config). k.slices) sized)) start.in_range,
          subst (λ n. claim.column < n) (ap (λ (l : Limits). l.columns) is.laid.limits ∙ ap columns_of_slice config ∙ sym (ap columns_of_slice sized)) start.column,
        )

    -- its bits can be written
    pub can_write : (bits : List Bit) → All (λ b. IsInSlice own.room claim.slice b.word) bits → All (λ b. b.bit < 64) bits →
        All (IsOwnedOnlyAt own.room own.config claim.slice claim.column) bits → CanWrite pool seat claim bits
    can_write bits inside of_words only =
        subst (λ (p : PoolId). CanWrite p seat claim bits) (sym is.of_name) (record {
          same = start.seated.same;
          holds = start.holds;
          none_outstanding = start.seated.none_outstanding;
          inside = subst (λ n. All (λ b. IsInSlice n claim.slice b.word) bits) (ap (λ (l : LayoutId). l.room) start.laid.is ∙ sym rows) inside;
          of_words = of_words;
          owners = keep_to_column name claim own bits seat rows start only;
        })

    pub written : (set : List (List ℕ)) (bits : List Bit) (next : PassState) → SetsBits seat next bits → AreDocumentBitsIn own.room own.config set claim.slice claim.column bits →
        All (λ b. IsInSlice own.room claim.slice b.word) bits → HasWritten name claim set bits next
    written set bits next did document inside = record {
      seated = seated_still name seat next did.same start.seated;
      holds = subst (λ (p : PassState). HoldsClaim p claim) (sym did.same) start.holds;
      document = subst (λ (p : PassState). AreDocumentBitsIn name.limits.slice_words (treat name.config claim.slice p.front) set claim.slice claim.column bits) (sym did.same)
          (subst (λ n. AreDocumentBitsIn n (treat name.config claim.slice seat.front) set claim.slice claim.column bits) (sym rows)
          (subst (λ (l : LayoutId). AreDocumentBitsIn l.room l.config set claim.slice claim.column bits) start.laid.is document));
      inside = subst (λ n. All (λ b. IsInSlice n claim.slice b.word) bits) (ap (λ (l : LayoutId). l.room) start.laid.is ∙ sym rows) inside;
      bits_set = λ b. subst (λ n. Contains bits b ↔ Contains next.own (fact.BitSet n b)) (sym (ap (λ (p : PassState). last_number p.number p.front) did.same))
          (has_set (last_number seat.number seat.front) bits seat.own next.own start.nothing did.facts b);
    }
