-- What keeps documents out of each slice of a full engine.
use Rattle.std.proofs.Common.{◌≡◌, ℕ, zero, suc, ◌+◌, ◌<◌, ⊎_elim, Bool, true, false, List, [], ◌∷◌, refl, subst, arith, inl, inr, length, ap, ◌∙◌, sym}
use Rattle.std.proofs.lemmas.Bool.{both_ways, cases_lt, cases_order, and_parts}
use Rattle.std.specs.Prelude.{◌==◌, ◌&&◌, ◌⊎◌, slice_index_or}
use Rattle.funnel_model.specs.Events.{clears, pass_of}
use Rattle.funnel_model.proofs.AnswerLemmas.{any_contained, contained_any}
use Rattle.funnel_model.specs.declared.block.Block.{Block}
use Rattle.funnel_model.specs.declared.block.Block.TheVariants as block
use Rattle.funnel_model.specs.declared.event.Event.{Event}
use Rattle.funnel_model.specs.Blocks.{AreBlocks, IsBlock, IsHeld, IsLowestGuard, IsLowestHeld}
use Rattle.funnel_model.specs.Legal.{Limits, IsFull, IsLegal}
use Rattle.funnel_model.specs.Slices.{ColumnState, Unclaimed, Pending, Dropped, Live, Deleted, IsFilled, IsInState, IsOver, IsRetired, IsRetiredAt, is_claimed, is_clearing, is_clearing_by, span}
use Rattle.funnel_model.specs.Tokens.{Guards, HasToken, IsGuarded}
use Rattle.funnel_model.proofs.Columns.{clearing_is_over, not_retired_by, one_state, some_state}
use Rattle.funnel_model.proofs.LastEvents.{clearer_is_last, clearing_by, one_clearer}
use Rattle.funnel_model.proofs.OpenTokens.{one_token, token_is_one}
use Rattle.funnel_model.proofs.Retirement.{retires_once}

-- the least number below a bound that has a property, where it is known of each number whether it has it
pub least_below : (P : ℕ → Type 0) → ((k : ℕ) → P k ⊎ (P k → ⊥)) → (n : ℕ) →
    ((k : ℕ) × (k < n) × P k × ((lower : ℕ) → lower < k → P lower → ⊥)) ⊎ ((k : ℕ) → k < n → P k → ⊥)
least_below P known zero = inr (λ k below has. absurd (omega arith))
least_below P known (suc n) =
    ⊎_elim
    (λ found. let low = found.1 in inl (found.0, omega arith, found.2, found.3))
    (λ none. ⊎_elim
    (λ has. inl (n, omega arith, has, none))
    (λ has_not. inr (λ k below has.
    ⊎_elim (λ less. none k less has) (λ high. let same : k ≡ n = omega arith in has_not (subst P same has)) (cases_lt k n)))
    (known n))
    (least_below P known n)

-- a state is held or not
held_cases : (x : ColumnState) → IsHeld x ⊎ (IsHeld x → ⊥)
held_cases (Live d since) = inl tt
held_cases (Pending pass) = inl tt
held_cases Unclaimed = inr (λ h. h)
held_cases Dropped = inr (λ h. h)
held_cases (Deleted d since until) = inr (λ h. h)

-- a column of the slice is held
abbrev HasHeld : List Event → ℕ → ℕ → Type 0
HasHeld history slice column = (x : ColumnState) × IsInState history slice column x × IsHeld x

-- in a legal history a column is held or not
held_or_not : (limits : Limits) (history : List Event) (slice : ℕ) → IsLegal limits history → (column : ℕ) →
    HasHeld history slice column ⊎ (HasHeld history slice column → ⊥)
held_or_not limits history slice legal column =
    let is = some_state limits history slice column legal in
    ⊎_elim
    (λ held. inl (is.0, is.1, held))
    (λ not_held. inr (λ other. not_held (subst IsHeld (one_state limits history slice column other.0 is.0 legal other.1 is.1) other.2)))
    (held_cases is.0)

-- a claimed column that isn't held is over
pub over_unless_held : (history : List Event) (slice column : ℕ) (x : ColumnState) → is_claimed slice column history ≡ true → IsInState history slice column x →
    (IsHeld x → ⊥) → IsOver x
over_unless_held history slice column Unclaimed claimed is not_held = absurd (both_ways (is_claimed slice column history) is claimed)
over_unless_held history slice column (Pending pass) claimed is not_held = not_held tt
over_unless_held history slice column Dropped claimed is not_held = tt
over_unless_held history slice column (Live d since) claimed is not_held = not_held tt
over_unless_held history slice column (Deleted d since until) claimed is not_held = tt

-- the lowest column of a slice that is held keeps documents out of it
block_of_held : (columns : ℕ) (history : List Event) (slice column : ℕ) (x : ColumnState) → column < columns → IsInState history slice column x → IsHeld x →
    ((lower : ℕ) → lower < column → HasHeld history slice lower → ⊥) → (b : Block) × IsBlock columns history slice b
block_of_held columns history slice column (Live d since) in' is held lowest = (
  block.Live column,
  (d, since, record { in_range = in'; is_in = is; held = held; lowest = λ lower low x is_x held_x. lowest lower low (x, is_x, held_x) }),
)
block_of_held columns history slice column (Pending pass) in' is held lowest = (
  block.Pending column pass,
  record { in_range = in'; is_in = is; held = held; lowest = λ lower low x is_x held_x. lowest lower low (x, is_x, held_x) },
)
block_of_held columns history slice column Unclaimed in' is held lowest = absurd held
block_of_held columns history slice column Dropped in' is held lowest = absurd held
block_of_held columns history slice column (Deleted d since until) in' is held lowest = absurd held

-- a filled slice that is neither retired nor being cleared has a column that is held
block_of_filled : (limits : Limits) (history : List Event) (slice : ℕ) → IsLegal limits history → IsFilled limits.columns slice history →
    (IsRetired limits.columns slice history → ⊥) → is_clearing slice history ≡ false → (b : Block) × IsBlock limits.columns history slice b
block_of_filled limits history slice legal filled not_retired not_clearing =
    ⊎_elim
    (λ found. block_of_held limits.columns history slice found.0 found.2.0 found.1 found.2.1 found.2.2 found.3)
    (λ none. absurd (not_retired (record {
      over = λ column in'.
          let is = some_state limits history slice column legal in
          (is.0, is.1, over_unless_held history slice column is.0 (filled column in') is.1 (λ held. none column in' (is.0, is.1, held)));
      not_clearing = not_clearing;
    })))
    (least_below (HasHeld history slice) (held_or_not limits history slice legal) limits.columns)

-- a pass guards a slice that retired at this event, or not
pub guards_or_not : (columns slice retired_at : ℕ) (history : List Event) → IsRetired columns slice history →
    IsRetiredAt columns slice history retired_at → (pass : ℕ) →
    ((number : ℕ) × Guards columns history slice pass number) ⊎ ((number : ℕ) × Guards columns history slice pass number → ⊥)
guards_or_not columns slice retired_at history retired at pass =
    ⊎_elim
    (λ one. ⊎_elim
    (λ before. inl (one.0, record { token = one.1; retired = retired; retired_at = retired_at; at_event = at; before = before }))
    (λ after. inr (λ other.
    let guards = other.1 in
    let same = one.2 other.0 guards.token in
    let once = retires_once columns slice retired_at guards.retired_at history at guards.at_event in
    let before = guards.before in
    omega arith))
    (cases_lt one.0 retired_at))
    (λ none. inr (λ other. none other.0 (other.1).token))
    (one_token pass history)

-- the lowest pass that guards a slice
pub lowest_guard : (columns slice : ℕ) (history : List Event) → IsGuarded columns history slice →
    (pass : ℕ) × (number : ℕ) × IsLowestGuard columns history slice pass number
lowest_guard columns slice history guarded =
    let guards = guarded.2 in
    ⊎_elim
    (λ found. (found.0, found.2.0, record { guards = found.2.1; lowest = λ lower low other is. found.3 lower low (other, is) }))
    (λ none. absurd (none guarded.0 (omega arith) (guarded.1, guards)))
    (least_below (λ pass. (number : ℕ) × Guards columns history slice pass number)
    (guards_or_not columns slice guards.retired_at history guards.retired guards.at_event) (guarded.0 + 1))

-- the lowest pass that guards a slice keeps documents out of it
block_of_guarded : (columns slice : ℕ) (history : List Event) → IsGuarded columns history slice → (b : Block) × IsBlock columns history slice b
block_of_guarded columns slice history guarded =
    let guard = lowest_guard columns slice history guarded in (block.Guarded guard.0 guard.1, guard.2)

-- in a full engine something keeps documents out of each slice
pub full_has_block : (limits : Limits) (history : List Event) (slice : ℕ) → IsLegal limits history → IsFull limits history → slice < limits.slices →
    (b : Block) × IsBlock limits.columns history slice b
full_has_block limits history slice legal full in' =
    ⊎_elim
    (λ filled. by_clearing filled.0 filled.1 (is_clearing slice history) refl)
    (λ gone. ⊎_elim
    (λ guarded. block_of_guarded limits.columns slice history guarded.1)
    (λ clearing. block_of_clearing clearing)
    gone)
    (full slice in') where
      block_of_clearing : is_clearing slice history ≡ true → (b : Block) × IsBlock limits.columns history slice b
      block_of_clearing clearing = let by = clearing_by slice history clearing in (block.Clearing by.0, by.1)

      by_clearing : IsFilled limits.columns slice history → (IsRetired limits.columns slice history → ⊥) → (b : Bool) → is_clearing slice history ≡ b →
          (b : Block) × IsBlock limits.columns history slice b
      by_clearing filled not_retired true clearing = block_of_clearing clearing
      by_clearing filled not_retired false clearing = block_of_filled limits history slice legal filled not_retired clearing

-- two lowest numbers of a kind are one
pub one_lowest : (P : ℕ → Type 0) (a b : ℕ) → P a → P b → ((lower : ℕ) → lower < a → P lower → ⊥) → ((lower : ℕ) → lower < b → P lower → ⊥) → a ≡ b
one_lowest P a b has also low_a low_b =
    ⊎_elim
    (λ same. same)
    (λ order. ⊎_elim (λ less. absurd (low_b a less has)) (λ more. absurd (low_a b more also)) order)
    (cases_order a b)

-- the lowest guard of a slice is one pass
pub one_guard : (columns : ℕ) (history : List Event) (slice pass other number also : ℕ) → IsLowestGuard columns history slice pass number →
    IsLowestGuard columns history slice other also → pass ≡ other
one_guard columns history slice pass other number also is is_too =
    one_lowest (λ p. (n : ℕ) × Guards columns history slice p n) pass other (number, is.guards) (also, is_too.guards)
    (λ lower low has. is.lowest lower low has.0 has.1) (λ lower low has. is_too.lowest lower low has.0 has.1)

-- a column that is held isn't over
not_both : (x : ColumnState) → IsHeld x → IsOver x → ⊥
not_both Dropped held over = held
not_both (Deleted d since until) held over = held
not_both _ held over = over

-- the lowest held columns of a slice are one, in one state
one_held : (limits : Limits) (history : List Event) (slice column other : ℕ) (x y : ColumnState) → IsLegal limits history →
    IsLowestHeld limits.columns history slice column x → IsLowestHeld limits.columns history slice other y → (column ≡ other) × (x ≡ y)
one_held limits history slice column other x y legal is also =
    let same : column ≡ other =
    ⊎_elim
    (λ same. same)
    (λ order. ⊎_elim (λ less. absurd (also.lowest column less x is.is_in is.held)) (λ more. absurd (is.lowest other more y also.is_in also.held)) order)
    (cases_order column other) in
    (same, one_state limits history slice other x y legal (subst (λ c. IsInState history slice c x) same is.is_in) also.is_in)

-- a slice that is being cleared has no held column, and nobody guards it
held_not_clearing : (limits : Limits) (history : List Event) (slice column : ℕ) (x : ColumnState) → IsLegal limits history →
    IsLowestHeld limits.columns history slice column x → is_clearing slice history ≡ true → ⊥
held_not_clearing limits history slice column x legal is clearing =
    not_both x is.held (clearing_is_over limits history slice column x legal clearing is.in_range is.is_in)

-- nor has a retired one
held_not_retired : (limits : Limits) (history : List Event) (slice column : ℕ) (x : ColumnState) → IsLegal limits history →
    IsLowestHeld limits.columns history slice column x → IsRetired limits.columns slice history → ⊥
held_not_retired limits history slice column x legal is retired =
    not_retired_by limits history slice column x legal is.in_range is.is_in (not_both x is.held) retired

-- a slice that a pass clears is being cleared
pub by_is_clearing : (pass slice : ℕ) (history : List Event) → is_clearing_by pass slice history ≡ true → is_clearing slice history ≡ true
by_is_clearing pass slice history by =
    let found = contained_any (λ e. pass_of e == pass && clears slice e) (span slice history) by in
    any_contained (clears slice) (span slice history) found.0 found.1 (and_parts (pass_of found.0 == pass) (clears slice found.0) found.2).1

-- one thing keeps documents out of a slice
pub one_block : (limits : Limits) (history : List Event) (slice : ℕ) (a b : Block) → IsLegal limits history →
    IsBlock limits.columns history slice a → IsBlock limits.columns history slice b → a ≡ b
one_block limits history slice (block.Live column) (block.Live other) legal is also =
    ap block.Live (one_held limits history slice column other (Live is.0 is.1) (Live also.0 also.1) legal is.2 also.2).0
one_block limits history slice (block.Live column) (block.Pending other pass) legal is also =
    let same = (one_held limits history slice column other (Live is.0 is.1) (Pending pass) legal is.2 also).1 in cc
one_block limits history slice (block.Live column) (block.Guarded pass number) legal is also =
    absurd (held_not_retired limits history slice column (Live is.0 is.1) legal is.2 also.guards.retired)
one_block limits history slice (block.Live column) (block.Clearing pass) legal is also =
    absurd (held_not_clearing limits history slice column (Live is.0 is.1) legal is.2 (by_is_clearing pass slice history also))
one_block limits history slice (block.Pending column pass) (block.Live other) legal is also =
    let same = (one_held limits history slice column other (Pending pass) (Live also.0 also.1) legal is also.2).1 in cc
one_block limits history slice (block.Pending column pass) (block.Pending other taker) legal is also =
    let same = one_held limits history slice column other (Pending pass) (Pending taker) legal is also in
    let c : column ≡ other = same.0 in
    let states = same.1 in
    let p : pass ≡ taker = cc in
    cc
one_block limits history slice (block.Pending column pass) (block.Guarded guard number) legal is also =
    absurd (held_not_retired limits history slice column (Pending pass) legal is also.guards.retired)
one_block limits history slice (block.Pending column pass) (block.Clearing clearer) legal is also =
    absurd (held_not_clearing limits history slice column (Pending pass) legal is (by_is_clearing clearer slice history also))
one_block limits history slice (block.Guarded pass number) (block.Live column) legal is also =
    absurd (held_not_retired limits history slice column (Live also.0 also.1) legal also.2 is.guards.retired)
one_block limits history slice (block.Guarded pass number) (block.Pending column taker) legal is also =
    absurd (held_not_retired limits history slice column (Pending taker) legal also is.guards.retired)
one_block limits history slice (block.Guarded pass number) (block.Guarded other at) legal is also =
    let p : pass ≡ other = one_guard limits.columns history slice pass other number at is also in
    let token : HasToken history other number = subst (λ q. HasToken history q number) p is.guards.token in
    let n : number ≡ at = token_is_one history other number at token also.guards.token in
    ap (λ q. block.Guarded q number) p ∙ ap (block.Guarded other) n
one_block limits history slice (block.Guarded pass number) (block.Clearing clearer) legal is also =
    absurd (both_ways (is_clearing slice history) is.guards.retired.not_clearing (by_is_clearing clearer slice history also))
one_block limits history slice (block.Clearing pass) (block.Live column) legal is also =
    absurd (held_not_clearing limits history slice column (Live also.0 also.1) legal also.2 (by_is_clearing pass slice history is))
one_block limits history slice (block.Clearing pass) (block.Pending column taker) legal is also =
    absurd (held_not_clearing limits history slice column (Pending taker) legal also (by_is_clearing pass slice history is))
one_block limits history slice (block.Clearing pass) (block.Guarded guard number) legal is also =
    absurd (both_ways (is_clearing slice history) also.guards.retired.not_clearing (by_is_clearing pass slice history is))
one_block limits history slice (block.Clearing pass) (block.Clearing other) legal is also =
    ap block.Clearing (one_clearer limits history pass other slice legal (clearer_is_last limits history pass slice legal is) (clearer_is_last limits history other slice legal also))

-- two lists that agree at each place are one
same_blocks : (xs ys : List Block) → length xs ≡ length ys → ((k : ℕ) (d : Block) → k < length xs → slice_index_or xs k d ≡ slice_index_or ys k d) → xs ≡ ys
same_blocks [] [] count same = refl
same_blocks [] (y ∷ ys) count same = absurd (omega arith)
same_blocks (x ∷ xs) [] count same = absurd (omega arith)
same_blocks (x ∷ xs) (y ∷ ys) count same =
    let first : x ≡ y = same 0 x (omega arith) in
    let rest : xs ≡ ys = same_blocks xs ys (omega arith) (λ k d in'. same (suc k) d (omega arith)) in
    cc

-- so the blocks of an engine are determined
pub one_list_of_blocks : (limits : Limits) (history : List Event) (xs ys : List Block) → IsLegal limits history → AreBlocks limits history xs → AreBlocks limits history ys → xs ≡ ys
one_list_of_blocks limits history xs ys legal is also =
    let count = is.count in
    same_blocks xs ys (is.count ∙ sym also.count) (λ slice d in'.
    let within : slice < limits.slices = omega arith in
    one_block limits history slice (slice_index_or xs slice d) (slice_index_or ys slice d) legal (is.each slice d within) (also.each slice d within))
