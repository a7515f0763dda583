-- A step of a pass's seat on a row word, as contracts see it.
use Rattle.std.proofs.Common.{◌≡◌, ℕ, ◌+◌, ◌^◌, ◌<◌, length, Some, refl, ap, sym, ◌∙◌, subst, arith}
use Rattle.std.proofs.lemmas.List.Elements.{All-cons}
use Rattle.std.specs.List.{Contains}
use Rattle.atomic_table.specs.Seated.{TableId}
use Rattle.funnel_model.specs.declared.config.Config.{Config}
use Rattle.funnel_model.specs.declared.claim.Claim.{Claim}
use Rattle.funnel_model.specs.declared.claim.ClearJob.{ClearJob}
use Rattle.funnel_model.specs.declared.claim.Token.{Token}
use Rattle.funnel_model.specs.declared.bit_list.Bit.{Bit}
use Rattle.funnel_model.specs.declared.event.Event.{Event}
use Rattle.funnel_model.specs.declared.event.Event.TheVariants as event
use Rattle.funnel_model.specs.History.{last_by}
use Rattle.funnel_model.specs.Legal.{IsInSlice, Limits}
use Rattle.funnel_model.specs.Tokens.{MayRead}
use Rattle.funnel_model.proofs.Clears.{pending_in_range}
use Rattle.funnel_model.proofs.Columns.{last_is_pending}
use Rattle.funnel_model.proofs.NextEvents.{clears_in_range}
use Rattle.funnel_model.proofs.OpenTokens.{token_is_silent}
use Rattle.row_layout.specs.Owners.{Owns, StandsOn}
use Rattle.slice_rule.specs.declared.view.Fact.{Fact}
use Rattle.slice_rule.specs.declared.view.Role.{Role}
use Rattle.slice_rule.specs.Numbers.{last_number}
use Rattle.slice_rule.specs.Pools.{PoolId, IsPool, first_row}
use Rattle.slice_rule.specs.Seats.{HasNoneOutstanding, HoldsClaim, HoldsJob, HoldsToken, IsFrom, IsPassSeat, KeepsToColumn, PassState, after_own, number_under, pass_state}
use Rattle.slice_rule.specs.Tells.{Seated}
use Rattle.slice_rule.specs.Views.{last_of, pass_of_role, with_own}
use Rattle.slice_rule.specs.Worlds.{made_by}
use Rattle.slice_rule.proofs.RowChanges.{in_pool}
use Rattle.slice_rule.proofs.Since.{number-in_range, number_is}

-- a word of a slice is one of the pool's words, which can be counted
pub record HasWord (row_base word words : ℕ) : Type 0 where
  pub within : row_base + word < words
  pub fits : row_base + word < 2 ^ 32

pub has_word : {pool : PoolId} (row_base slice word : ℕ) → IsPool row_base pool → slice < pool.limits.slices → IsInSlice pool.limits.slice_words slice word
    → HasWord row_base word pool.table.words
has_word {pool = the_pool} row_base slice word pool in_range inside =
    let at = pool.row in
    let n = pool.words in
    let few = pool.few in
    let within = in_pool the_pool.limits slice word in_range inside in
    record { within = omega arith; fits = omega arith }

-- a pass's seat and its pool, as a method sees both
pub record IsAt (here pool : PoolId) (row_base number asked : ℕ) (table : TableId) (me : Seated) (old : PassState) : Type 0 where
  pub lies : IsPool row_base here
  pub pool_is : here ≡ pool
  pub seat : IsPassSeat number asked me
  pub seat_is : pass_state number table me.0 ≡ old
  pub same : old.pool ≡ pool

pub at : {here pool : PoolId} {row_base number asked : ℕ} {table : TableId} {me : Seated} {old : PassState} → IsPool row_base here → here ≡ pool → IsPassSeat number asked me
    → pass_state number table me.0 ≡ old → old.pool ≡ pool → IsAt here pool row_base number asked table me old
at lies pool_is seat seat_is same = record { lies = lies; pool_is = pool_is; seat = seat; seat_is = seat_is; same = same }

module _ {here pool : PoolId} {row_base number asked : ℕ} {table : TableId} {me : Seated} {old : PassState} (at : IsAt here pool row_base number asked table me old) where
  pub all_seen : HasNoneOutstanding old → me.0.asked ≡ made_by number me.0.front
  all_seen none_out = subst HasNoneOutstanding (sym at.seat_is) none_out

  pub sizes_are : me.0.limits ≡ here.limits
  sizes_are = ap (λ (p : PoolId). p.limits) (ap (λ (s : PassState). s.pool) at.seat_is ∙ at.same ∙ sym at.pool_is)

  pub in_range : number < here.limits.passes
  in_range = subst (λ (l : Limits). number < l.passes) sizes_are at.seat.in_range

  -- where a row word stands in the table
  pub there : (word : ℕ) → row_base + word ≡ first_row me.0.limits + word
  there word = ap (λ n. n + word) (at.lies.row ∙ ap (λ (l : Limits). first_row l) (sym sizes_are))

  pub inside_here : (slice word : ℕ) → IsInSlice pool.limits.slice_words slice word → IsInSlice here.limits.slice_words slice word
  inside_here slice word inside = subst (λ (p : PoolId). IsInSlice p.limits.slice_words slice word) (sym at.pool_is) inside

  word_of : (slice word : ℕ) → slice < me.0.limits.slices → IsInSlice pool.limits.slice_words slice word → HasWord row_base word here.table.words
  word_of slice word in_slices inside = has_word row_base slice word at.lies (subst (λ (l : Limits). slice < l.slices) sizes_are in_slices) (inside_here slice word inside)

  last_of_pass : last_of me.0 ≡ last_number number me.0.front
  last_of_pass = ap (λ p. last_number p me.0.front) (ap pass_of_role at.seat.role)

  pub last_is : last_of me.0 ≡ last_number old.number old.front
  last_is = last_of_pass ∙ ap (λ (s : PassState). last_number s.number s.front) at.seat_is

  -- the pass after it did something itself under its last event, which has the number n
  pub own_view : (f : ℕ → Fact) {n : ℕ} {other : TableId} {after : Seated} → last_of me.0 ≡ n → other ≡ table → after ≡ (with_own me.0 (f (last_of me.0)), me.1)
      → pass_state number other after.0 ≡ after_own old (f n)
  own_view f {n} {other} {after} last same did =
      ap (λ (t : TableId). pass_state number t after.0) same
      ∙ ap (λ (m : Seated). pass_state number table m.0) did
      ∙ ap (λ (s : PassState). after_own s (f (last_of me.0))) at.seat_is
      ∙ ap (λ (k : ℕ). after_own old (f k)) last

  -- and its seat: the number is one of its front
  pub own_seat : (f : Fact) {after : Seated} → number_under f ≡ last_of me.0 → after ≡ (with_own me.0 f, me.1) → IsPassSeat number asked after
  own_seat f under did =
      let seat = at.seat in
      let last = number-in_range (pass_of_role me.0.role) me.0.front in
      subst (IsPassSeat number asked) (sym did) (record {
        alone = seat.alone;
        role = seat.role;
        in_range = seat.in_range;
        count = seat.count;
        few = seat.few;
        legal = seat.legal;
        past = All-cons (IsFrom (length me.0.front)) f me.0.own (omega arith) seat.past;
      })

  pub made_with : me.0.config ≡ here.config
  made_with = ap (λ (p : PoolId). p.config) (ap (λ (s : PassState). s.pool) at.seat_is ∙ at.same ∙ sym at.pool_is)

  -- which columns own a bit, and what stands on them, as the pass has seen
  pub keeps_here : (claim : Claim) (b : Bit) → KeepsToColumn old claim b → (column : ℕ) → Owns here.limits here.config me.0.front claim.slice column b → column ≡ claim.column
  keeps_here claim b keeps column owns =
      subst (λ (s : PassState). KeepsToColumn s claim b) (sym at.seat_is) keeps column
      (subst (λ (k : Config). Owns me.0.limits k me.0.front claim.slice column b) (sym made_with)
      (subst (λ (l : Limits). Owns l here.config me.0.front claim.slice column b) (sym sizes_are) owns))

  pub owns_here : (slice column : ℕ) (b : Bit) → Owns old.pool.limits old.pool.config old.front slice column b → Owns me.0.limits me.0.config me.0.front slice column b
  owns_here slice column b owns = subst (λ (s : PassState). Owns s.pool.limits s.pool.config s.front slice column b) (sym at.seat_is) owns

  pub reads_here : (slice : ℕ) → MayRead old.pool.limits.columns old.front old.number slice → MayRead me.0.limits.columns me.0.front (pass_of_role me.0.role) slice
  reads_here slice may =
      subst (λ (r : Role). MayRead me.0.limits.columns me.0.front (pass_of_role r) slice) (sym at.seat.role)
      (subst (λ (s : PassState). MayRead s.pool.limits.columns s.front s.number slice) (sym at.seat_is) may)

  pub stands_here : (slice column : ℕ) (e : Event) → StandsOn old.front slice column e → StandsOn me.0.front slice column e
  stands_here slice column e stands = subst (λ (s : PassState). StandsOn s.front slice column e) (sym at.seat_is) stands

  pub claim_is : (claim : Claim) → HoldsClaim old claim → last_by number me.0.front ≡ Some (event.Take number claim.slice claim.column)
  claim_is claim holds = subst (λ (s : PassState). HoldsClaim s claim) (sym at.seat_is) holds

  pub claim_word : (claim : Claim) (word : ℕ) → HoldsClaim old claim → IsInSlice pool.limits.slice_words claim.slice word → HasWord row_base word here.table.words
  claim_word claim word holds inside =
      word_of claim.slice word
      (pending_in_range me.0.limits me.0.front claim.slice claim.column number at.seat.legal
      (last_is_pending me.0.limits me.0.front claim.slice claim.column number at.seat.legal (claim_is claim holds))).0 inside

  pub job_is : (job : ClearJob) → HoldsJob old job → last_by number me.0.front ≡ Some (event.Clear number job.slice)
  job_is job holds = subst (λ (s : PassState). HoldsJob s job) (sym at.seat_is) holds

  pub job_word : (job : ClearJob) (word : ℕ) → HoldsJob old job → IsInSlice pool.limits.slice_words job.slice word → HasWord row_base word here.table.words
  job_word job word holds inside = word_of job.slice word (clears_in_range me.0.limits me.0.front at.seat.legal number job.slice (job_is job holds)) inside

  token_is : (token : Token) → HoldsToken old token → HoldsToken (pass_state number table me.0) token
  token_is token holds = subst (λ (s : PassState). HoldsToken s token) (sym at.seat_is) holds

  -- the number of the token is that of the pass's last event
  pub token_number : (token : Token) → HoldsToken old token → last_of me.0 ≡ token.opened_at
  token_number token holds =
      let begun = (token_is token holds).begun in
      last_of_pass
      ∙ number_is number me.0.front token.opened_at (event.Find number begun.query)
      (record { earlier = begun.earlier; later = begun.later; whole = begun.whole; count = begun.count }) refl
      (token_is_silent me.0.limits me.0.front number token.opened_at at.seat.legal begun)

  -- what the token may read, the seat's pass may read
  pub token_reads : (token : Token) → HoldsToken old token → (slice : ℕ) → Contains token.slices slice → MayRead me.0.limits.columns me.0.front (pass_of_role me.0.role) slice
  token_reads token holds slice has =
      let held = token_is token holds in
      subst (λ (r : Role). MayRead me.0.limits.columns me.0.front (pass_of_role r) slice) (sym at.seat.role)
      (record { number = token.opened_at; token = held.begun; in_use = ((held.slices slice).0 has).1 })

  pub token_word : (token : Token) (word : ℕ) → HoldsToken old token → (slice : ℕ) × Contains token.slices slice × IsInSlice pool.limits.slice_words slice word → HasWord row_base word here.table.words
  token_word token word holds inside = word_of inside.0 word (((token_is token holds).slices inside.0).0 inside.1).0 inside.2
