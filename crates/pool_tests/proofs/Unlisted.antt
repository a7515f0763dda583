-- Where no word is listed no row is private, so no column owns a bit.
use Rattle.std.proofs.Common.{◌≡◌, ℕ, zero, suc, ◌+◌, ◌<◌, false, Some, List, [], ◌∷◌, ◌++◌, filter, get_or, length, refl, sym, ap, ◌∙◌, subst, arith}
use Rattle.std.proofs.lemmas.Bool.{or_from}
use Rattle.std.proofs.lemmas.List.Folds.{list_any-append}
use Rattle.std.specs.List.{All, list_any}
use Rattle.std.specs.Option.{is_some}
use Rattle.funnel_model.specs.declared.bit_list.Bit.{Bit}
use Rattle.funnel_model.specs.declared.claim.Claim.{Claim}
use Rattle.funnel_model.specs.declared.config.Config.{Config}
use Rattle.funnel_model.specs.declared.event.Event.{Event}
use Rattle.funnel_model.specs.declared.event.Event.TheVariants as event
use Rattle.funnel_model.specs.Events.{tuning_of}
use Rattle.funnel_model.specs.History.{last_by}
use Rattle.funnel_model.specs.Legal.{IsInSlice, Limits}
use Rattle.funnel_model.specs.Sizes.{is_private, private_words}
use Rattle.funnel_model.specs.Tunings.{treat}
use Rattle.funnel_model.proofs.TuningLemmas.{treat_untuned}
use Rattle.row_layout.specs.Owners.{Owns}
use Rattle.row_layout.specs.Rows.{IsPrivateRow}
use Rattle.slice_rule.specs.Pools.{PoolId}
use Rattle.slice_rule.specs.Seats.{HasNoneOutstanding, KeepsToColumn, PassState}
use Rattle.column_writer.specs.Written.{CanWrite}
use Rattle.pool_tests.specs.Cleared.{drops}

-- nothing was tuned
abbrev pub IsUntuned : List Event → Type 0
IsUntuned history = list_any (λ e. is_some (tuning_of e)) history ≡ false

none_owned : (limits : Limits) (config : Config) (history : List Event) (slice column : ℕ) (b : Bit) → config.words ≡ [] → IsUntuned history → Owns limits config history slice column b → ⊥
unfolding private_words
none_owned limits config history slice column b none untuned owns =
    let row = owns.treated.row in
    let private : IsPrivateRow config row = subst (λ (k : Config). IsPrivateRow k row) (treat_untuned config slice history untuned) owns.treated.private in
    omega (arith, private.1, ap (λ words. length (filter (is_private config) words)) none)

-- so each bit keeps to whichever column is claimed
pub keeps : (pool : PoolId) (seat : PassState) (claim : Claim) (b : Bit) → seat.pool ≡ pool → pool.config.words ≡ [] → IsUntuned seat.front → KeepsToColumn seat claim b
keeps pool seat claim b same none untuned column owns =
    absurd (none_owned seat.pool.limits seat.pool.config seat.front claim.slice column b (ap (λ (p : PoolId). p.config.words) same ∙ none) untuned owns)

pub all_keep : (pool : PoolId) (seat : PassState) (claim : Claim) (bits : List Bit) → seat.pool ≡ pool → pool.config.words ≡ [] → IsUntuned seat.front → All (KeepsToColumn seat claim) bits
all_keep pool seat claim bits same none untuned = λ k d small. keeps pool seat claim (get_or bits k d) same none untuned

-- and a pass that claimed a column last may write any bits of its slice there
pub all_writable : (pool : PoolId) (seat : PassState) (claim : Claim) (bits : List Bit) → seat.pool ≡ pool → pool.config.words ≡ [] → (number : ℕ) (front : List Event) →
    seat.number ≡ number → seat.front ≡ front → IsUntuned front → last_by number front ≡ Some (event.Take number claim.slice claim.column) → HasNoneOutstanding seat →
    All (λ b. IsInSlice pool.limits.slice_words claim.slice b.word) bits → All (λ b. b.bit < 64) bits → CanWrite pool seat claim bits
all_writable pool seat claim bits same none number front number_is front_is untuned last none_outstanding inside of_words = record {
  same = same;
  holds = subst (λ (n : ℕ). last_by n seat.front ≡ Some (event.Take n claim.slice claim.column)) (sym number_is)
      (subst (λ (h : List Event). last_by number h ≡ Some (event.Take number claim.slice claim.column)) (sym front_is) last);
  none_outstanding = none_outstanding;
  inside = inside;
  of_words = of_words;
  owners = all_keep pool seat claim bits same none (subst IsUntuned (sym front_is) untuned);
}

untuned_one : (history : List Event) (e : Event) → IsUntuned history → is_some (tuning_of e) ≡ false → IsUntuned (history ++ e ∷ [])
untuned_one history e before none =
    list_any-append (λ x. is_some (tuning_of x)) history (e ∷ [])
    ∙ or_from (list_any (λ x. is_some (tuning_of x)) history) (list_any (λ x. is_some (tuning_of x)) (e ∷ [])) before (or_from (is_some (tuning_of e)) false none refl)

drops_untuned : (k : ℕ) → IsUntuned (drops k)
unfolding drops
drops_untuned zero = refl
drops_untuned (suc k) =
    untuned_one (drops k ++ event.Take 1 0 (k + 1) ∷ []) (event.Drop 1 4 [] 0 (k + 1)) (untuned_one (drops k) (event.Take 1 0 (k + 1)) (drops_untuned k) refl) refl

-- and then a column is taken
pub taken_untuned : (k pass slice column : ℕ) → IsUntuned (drops k ++ event.Take pass slice column ∷ [])
taken_untuned k pass slice column = untuned_one (drops k) (event.Take pass slice column) (drops_untuned k) refl
