-- What a pass that caught up still holds of its claim and of its look.
use Rattle.std.proofs.Common.{◌≡◌, ◌↔◌, ℕ, ◌<◌, All, List, [], ◌++◌, Some, sym, ap, ◌∙◌, subst, append_assoc, append-nil, arith, Contains}
use Rattle.std.proofs.lemmas.List.Elements.{All-contains_itself, All-weaker}
use mathlib.Core.List.{IsPrefix}
use Rattle.funnel_model.specs.declared.bit_list.Bit.{Bit}
use Rattle.funnel_model.specs.declared.claim.Claim.{Claim}
use Rattle.funnel_model.specs.declared.config.Config.{Config}
use Rattle.funnel_model.specs.declared.event.Event.{Event}
use Rattle.funnel_model.specs.declared.event.Event.TheVariants as event
use Rattle.funnel_model.specs.History.{IsFrontOf, has_cause, last_by}
use Rattle.funnel_model.specs.Legal.{IsLegal}
use Rattle.funnel_model.specs.Tunings.{treat}
use Rattle.funnel_model.proofs.CausedMoves.{has_cause-grows}
use Rattle.funnel_model.proofs.Clears.{last_by-front}
use Rattle.funnel_model.proofs.Columns.{last_is_pending}
use Rattle.funnel_model.proofs.Histories.{legal_before}
use Rattle.funnel_model.proofs.StepLemmas.{prefix_trans}
use Rattle.funnel_model.proofs.TuningLemmas.{treat_pending}
use Rattle.row_layout.specs.DocumentBits.{AreDocumentBitsIn}
use Rattle.slice_rule.specs.declared.view.Fact.{Fact}
use Rattle.slice_rule.specs.declared.view.Fact.TheVariants as fact
use Rattle.slice_rule.specs.Numbers.{last_number}
use Rattle.slice_rule.specs.Pools.{PoolId}
use Rattle.slice_rule.specs.Seats.{HasNoneOutstanding, HoldsClaim, IsSamePass, PassState}
use Rattle.slice_rule.proofs.Since.{number-front}
use Rattle.commit_desk.specs.Desks.{DeskState}
use Rattle.commit_desk.specs.Moving.{HoldsLook}
use Rattle.commit_desk.specs.Passes.{HasWritten}
use Rattle.commit_desk.specs.declared.look.Look.{Look}

-- the bits of a document are bits of words
pub of_words : {room : ℕ} {config : Config} {words : List (List ℕ)} {slice column : ℕ} {bits : List Bit} → AreDocumentBitsIn room config words slice column bits →
    All (λ (b : Bit). b.bit < 64) bits
of_words {room} {config} {words} {slice} {column} {bits} are =
    All-weaker (Contains bits) (λ (b : Bit). b.bit < 64)
    (λ b in_bits. let is = (are.exactly b).0 in_bits in let at = ap (λ (b : Bit). b.bit) is.2 in omega (arith, at)) bits (All-contains_itself bits)

-- what a pass that caught up wrote is by the treatment of its slice now
pub bits_now : (before now : DeskState) (seat : PassState) (words : List (List ℕ)) (slice column : ℕ) (bits : List Bit) → now ≡ before → seat.front ≡ before.history →
    AreDocumentBitsIn before.pool.limits.slice_words (treat before.pool.config slice seat.front) words slice column bits →
    AreDocumentBitsIn now.pool.limits.slice_words (treat now.pool.config slice now.history) words slice column bits
bits_now before now seat words slice column bits view front are =
    subst (λ (d : DeskState). AreDocumentBitsIn d.pool.limits.slice_words (treat d.pool.config slice d.history) words slice column bits) (sym view)
    (subst (λ (h : List Event). AreDocumentBitsIn before.pool.limits.slice_words (treat before.pool.config slice h) words slice column bits) front are)

module _ (seat caught : PassState) (same : IsSamePass seat caught) (goes : IsFrontOf caught.number seat.front caught.front) where
  -- the claim itself
  pub claim_held : (claim : Claim) → HoldsClaim seat claim → HoldsClaim caught claim
  claim_held claim held =
      last_by-front caught.number seat.front caught.front goes
      ∙ subst (λ n. last_by n seat.front ≡ Some (event.Take n claim.slice claim.column)) (sym same.number) held

  -- the number of its claim
  number_held : last_number caught.number caught.front ≡ last_number seat.number seat.front
  number_held = number-front caught.number seat.front caught.front goes ∙ ap (λ n. last_number n seat.front) same.number

  -- and the bits that it set under it
  pub bits_held : (bits : List Bit) → ((b : Bit) → Contains bits b ↔ Contains seat.own (fact.BitSet (last_number seat.number seat.front) b)) →
      (b : Bit) → Contains bits b ↔ Contains caught.own (fact.BitSet (last_number caught.number caught.front) b)
  bits_held bits set =
      subst (λ n. (b : Bit) → Contains bits b ↔ Contains caught.own (fact.BitSet n b)) (sym number_held)
      (subst (λ (own : List Fact). (b : Bit) → Contains bits b ↔ Contains own (fact.BitSet (last_number seat.number seat.front) b)) (sym same.own) set)

  -- what it looked at
  pub look_held : (look : Look) → HoldsLook seat look → HoldsLook caught look
  look_held look held = record {
    earlier = held.earlier;
    seen = (held.seen.0 ++ goes.later, sym (append_assoc held.earlier held.seen.0 goes.later) ∙ ap (λ h. h ++ goes.later) held.seen.1 ∙ sym goes.whole);
    live = held.live;
    of_text = held.of_text;
    cause = ap has_cause goes.whole ∙ has_cause-grows seat.front goes.later held.cause;
  }

  -- the treatment of the slice in which it has claimed a column
  treat_held : (pool : PoolId) (claim : Claim) → IsLegal pool.limits caught.front → HoldsClaim seat claim → treat pool.config claim.slice caught.front ≡ treat pool.config claim.slice seat.front
  treat_held pool claim legal held =
      let last : last_by caught.number seat.front ≡ Some (event.Take caught.number claim.slice claim.column) =
      subst (λ n. last_by n seat.front ≡ Some (event.Take n claim.slice claim.column)) (sym same.number) held in
      let before = legal_before pool.limits seat.front goes.later (subst (IsLegal pool.limits) goes.whole legal) in
      treat_pending pool.limits pool.config seat.front caught.front caught.number claim.slice claim.column legal goes
      (last_is_pending pool.limits seat.front claim.slice claim.column caught.number before last)

  -- and all that it wrote
  pub written_held : (pool : PoolId) (claim : Claim) (words : List (List ℕ)) (bits : List Bit) → IsLegal pool.limits caught.front → HasNoneOutstanding caught →
      HasWritten pool claim words bits seat → HasWritten pool claim words bits caught
  written_held pool claim words bits legal none written = record {
    seated = record { same = same.pool ∙ written.seated.same; none_outstanding = none };
    holds = claim_held claim written.holds;
    document = subst (λ (k : Config). AreDocumentBitsIn pool.limits.slice_words k words claim.slice claim.column bits) (sym (treat_held pool claim legal written.holds)) written.document;
    inside = written.inside;
    bits_set = bits_held bits written.bits_set;
  }

-- a pass that looked at a document holds its look while its front grows
pub holds_on : (seat next : PassState) (look : Look) → IsPrefix seat.front next.front → HoldsLook seat look → HoldsLook next look
holds_on seat next look grows held = record {
  earlier = held.earlier;
  seen = prefix_trans held.earlier seat.front next.front held.seen grows;
  live = held.live;
  of_text = held.of_text;
  cause = ap has_cause (sym grows.1) ∙ has_cause-grows seat.front grows.0 held.cause;
}

-- and while it does something itself
pub holds_by_own : (seat next : PassState) (look : Look) → next ≡ record seat { own = next.own } → HoldsLook seat look → HoldsLook next look
holds_by_own seat next look is held = holds_on seat next look ([], append-nil seat.front ∙ sym (ap (λ (p : PassState). p.front) is)) held
