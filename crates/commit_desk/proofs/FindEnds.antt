-- What a find finds of its candidates by the records, and what a pass that catches up still knows of them.
use Rattle.std.proofs.Common.{◌≡◌, ◌↔◌, ℕ, ◌<◌, false, Bool, List, ◌∷◌, ◌++◌, filter_map, sym, ap, ◌∙◌, subst, arith, Contains}
use Rattle.std.specs.List.{list_any}
use Rattle.document_store.specs.Finding.{kept_at, looked_at}
use Rattle.document_store.specs.Slots.{IsColumn, Table}
use Rattle.funnel_model.specs.declared.claim.Token.{Token}
use Rattle.funnel_model.specs.declared.config.Config.{Config}
use Rattle.funnel_model.specs.declared.event.Event.{Event}
use Rattle.funnel_model.specs.declared.event.Event.TheVariants as event
use Rattle.funnel_model.specs.Events.{finds_or_ends}
use Rattle.funnel_model.specs.History.{IsFrontOf}
use Rattle.funnel_model.specs.Legal.{IsLegal, Limits}
use Rattle.funnel_model.specs.Slices.{IsInUse}
use Rattle.funnel_model.specs.Tokens.{HasToken}
use Rattle.funnel_model.proofs.Retirement.{same_split}
use Rattle.row_layout.specs.Sound.{IsSound}
use Rattle.slice_rule.specs.Pools.{PoolId}
use Rattle.slice_rule.specs.Seats.{HasNoneOutstanding, HoldsToken, IsSamePass, PassState}
use Rattle.commit_desk.specs.Records.{AreRecorded}
use Rattle.commit_desk.specs.Judging.{AreGivenWhere}
use Rattle.commit_desk.specs.Passes.{IsFinding}
use Rattle.commit_desk.specs.Resolving.{AreLookedFor}
use Rattle.commit_desk.specs.Scans.{AreOfToken}
use Rattle.commit_desk.proofs.FindTurns.{begun_later, token_kept}
use Rattle.commit_desk.proofs.Found.{table_keeps_each, table_looks}

-- a find began once: the events before it are those before its event, which has its query
pub begun_once : (history : List Event) (pass number : ℕ) (one other : HasToken history pass number) → (one.earlier ≡ other.earlier) × (one.query ≡ other.query)
begun_once history pass number one other =
    let count = one.count in
    let also = other.count in
    let split = same_split one.earlier other.earlier one.later other.later (event.Find pass one.query) (event.Find pass other.query) (sym one.whole ∙ other.whole) (omega arith) in
    (split.0, cc)

-- the find is the same, once the pass has seen more
pub begun_still : (seat next : PassState) (number : ℕ) → next.number ≡ seat.number → IsFrontOf seat.number seat.front next.front → (first : HasToken seat.front seat.number number) →
    (begun : HasToken next.front next.number number) → (begun.earlier ≡ first.earlier) × (begun.query ≡ first.query)
begun_still seat next number same goes first begun =
    let also : HasToken next.front seat.number number = record {
      earlier = begun.earlier;
      query = begun.query;
      later = begun.later;
      whole = begun.whole ∙ ap (λ n. begun.earlier ++ event.Find n begun.query ∷ begun.later) same;
      count = begun.count;
      stays = subst (λ n. list_any (finds_or_ends n) begun.later ≡ false) same begun.stays;
    } in
    begun_once next.front seat.number number also (begun_later seat.number number seat.front next.front first goes)

-- candidates in slices of the token are columns of the table
pub columns_in_table : (limits : Limits) (history : List Event) (table : Table) (seat : PassState) (token : Token) (candidates : List (ℕ × ℕ)) →
    AreRecorded limits history table → seat.pool.limits ≡ limits → HoldsToken seat token → AreOfToken limits.columns token candidates →
    (slice column : ℕ) → Contains candidates (slice, column) → IsColumn table slice column
columns_in_table limits history table seat token candidates recorded same holds of_token slice column has =
    let of = of_token (slice, column) has in
    let slices_are = recorded.slices_are ∙ ap (λ (l : Limits). l.slices) (sym same) in
    record {
      slice_in_range = omega (arith, slices_are, ((holds.slices slice).0 of.slice).0);
      column_in_range = omega (arith, recorded.columns_are, of.column);
    }

-- A find whose pass has seen the history up to its front, and candidates in slices of its token.
module _ (opening : Config) (limits : Limits) (history : List Event) (table : Table) (legal : IsLegal limits history) (sound : IsSound opening history)
    (recorded : AreRecorded limits history table) (seat : PassState) (same : seat.pool.limits ≡ limits)
    (goes : IsFrontOf seat.number seat.front history) (token : Token) (holds : HoldsToken seat token) (candidates : List (ℕ × ℕ))
    (of_token : AreOfToken limits.columns token candidates) (begun : HasToken seat.front seat.number token.opened_at) where
  abbrev now : HasToken history seat.number token.opened_at
  now = begun_later seat.number token.opened_at seat.front history begun goes

  -- the slices were in use
  used_then : (slice : ℕ) → Contains token.slices slice → IsInUse limits.columns slice begun.earlier
  used_then slice has =
      ((subst (λ (h : List Event). (k : ℕ) → Contains token.slices k ↔ ((k < limits.slices) × IsInUse limits.columns k h))
      (begun_once seat.front seat.number token.opened_at holds.begun begun).0
      (subst (λ (l : Limits). (k : ℕ) → Contains token.slices k ↔ ((k < l.slices) × IsInUse l.columns k holds.begun.earlier)) same holds.slices) slice).0 has).1

  -- each candidate is a column of the table, and its slice was in use
  of_table : (candidate : ℕ × ℕ) → Contains candidates candidate → IsColumn table candidate.0 candidate.1 × IsInUse limits.columns candidate.0 begun.earlier
  of_table candidate has = (
    columns_in_table limits history table seat token candidates recorded same holds of_token candidate.0 candidate.1 has,
    used_then candidate.0 (of_token candidate has).slice,
  )

  -- what the records give of a part of the candidates is what these give
  pub part_gives : (test : List ℕ → Bool) (part : List (ℕ × ℕ)) → ((candidate : ℕ × ℕ) → Contains part candidate → Contains candidates candidate) →
      AreGivenWhere begun.earlier test part (filter_map (kept_at table test token.opened_at) part)
  part_gives test part of_part =
      table_keeps_each opening limits history table legal sound recorded seat.number token.opened_at now test part (λ candidate has. of_table candidate (of_part candidate has))

  -- and so many words are looked for in them by the records
  pub candidates_look : (cost : ℕ) → AreLookedFor begun.earlier cost candidates (looked_at table cost token.opened_at)
  candidates_look cost = table_looks opening limits history table legal sound recorded seat.number token.opened_at now cost candidates of_table

-- the pass has the find open still
pub finding_still : (pool : PoolId) (seat next : PassState) (token : Token) → IsSamePass seat next → IsFrontOf seat.number seat.front next.front → HasNoneOutstanding next →
    IsFinding pool token seat → IsFinding pool token next
finding_still pool seat next token same goes none is = record {
  seated = record { same = same.pool ∙ is.seated.same; none_outstanding = none };
  holds = token_kept seat next token same goes is.holds;
}
