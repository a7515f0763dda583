use Rattle.std.proofs.Common.{◌≡◌, ◌+◌, ◌-◌, ◌++◌, ◌<◌, ◌≤◌, ℕ, Bool, List, [], length, get_or, ap, ◌∙◌, subst, arith, Contains}
use Rattle.std.proofs.lemmas.List.Elements.{Contains-get_or}
use Rattle.std.specs.List.{cons_option}
use Rattle.document_store.specs.Finding.{FoundState, kept_at, kept_in, looked_at, looked_in}
use Rattle.document_store.specs.Slots.{Table, slot_at}
use Rattle.document_store.specs.declared.slots.Slot.{Slot}
use Rattle.document_store.proofs.TurnLemmas.{IsTurnTo, turn_goes_on, turn_is_over}
use Rattle.document_store.proofs.resolving.resolve_part.Goals as goal

pub slot-requires : goal.slot-requires
slot-requires g c =
    let items = c.as_slice.result.now in
    c.requires.in_range _ _
    (subst (λ (xs : List (ℕ × ℕ)). Contains xs (get_or items c.loop-at.at (0, 0))) c.as_slice.ensures
    (Contains-get_or items c.loop-at.at (0, 0) (omega (arith, c.loop-at-test.true, c.min.ensures, c.len.ensures, c.requires.from, ap length c.as_slice.ensures))))

-- the turn so far, with the candidate that was looked at
goes_on : (table : Table) (test : List ℕ → Bool) (cost number : ℕ) (candidates items : List (ℕ × ℕ)) (from : ℕ) (before now next : FoundState) (slot : Slot) (left after at : ℕ) → items ≡ candidates → from ≤ at →
    at < length candidates → slot ≡ slot_at table (get_or items at (0, 0)).0 (get_or items at (0, 0)).1 → next.found ≡ now.found ++ cons_option (kept_in slot test number) [] → after ≡ left - looked_in slot cost number →
    next.room + length next.found ≡ now.room + length now.found → IsTurnTo (kept_at table test number) (looked_at table cost number) candidates from before now left at → 1 ≤ left →
    IsTurnTo (kept_at table test number) (looked_at table cost number) candidates from before next after (at + 1)
goes_on table test cost number candidates items from before now next slot left after at items_are low within slot_is found left_is room is some =
    let same : slot ≡ slot_at table (get_or candidates at (0, 0)).0 (get_or candidates at (0, 0)).1 =
    slot_is ∙ ap (λ (xs : List (ℕ × ℕ)). slot_at table (get_or xs at (0, 0)).0 (get_or xs at (0, 0)).1) items_are in
    turn_goes_on (kept_at table test number) (looked_at table cost number) candidates from before now next left after at (0, 0) low within is some
    (found ∙ ap (λ (s : Slot). now.found ++ cons_option (kept_in s test number) []) same) (left_is ∙ ap (λ (s : Slot). left - looked_in s cost number) same) room

pub returns-then-left-eq0-clause-found : goal.returns-then-left-eq0-clause-found
returns-then-left-eq0-clause-found g c =
    (goes_on c.args.records.now (g.J.Judge.test c.args.judge.now) c.args.cost c.args.opened_at c.args.candidates.now c.as_slice.result.now c.args.from c.args.out.now c.loop-at.out c.look_up-left.new.out c.slot.result.now c.loop-at.left
    c.look_up-left.result c.loop-at.at c.as_slice.ensures c.loop-at.auto.at (omega (arith, c.loop-at-test.true, c.min.ensures, c.len.ensures, c.requires.from)) c.slot.ensures.slot c.look_up-left.ensures.found
    c.look_up-left.ensures.left c.look_up-left.ensures.room c.loop-at.invariant.so_far c.loop-at.invariant.some).found

pub returns-then-left-eq0-clause-turn : goal.returns-then-left-eq0-clause-turn
returns-then-left-eq0-clause-turn g c =
    let find = kept_at c.args.records.now (g.J.Judge.test c.args.judge.now) c.args.opened_at in
    let looked = looked_at c.args.records.now c.args.cost c.args.opened_at in
    turn_is_over find looked c.args.candidates.now c.args.from c.args.out.now c.look_up-left.new.out c.loop-at.at
    (omega (arith, c.loop-at-test.true, c.min.ensures, c.len.ensures, c.requires.from)) c.loop-at.auto.at (omega (arith, c.loop-at-test.true, c.min.ensures))
    (subst (λ left. IsTurnTo find looked c.args.candidates.now c.args.from c.args.out.now c.look_up-left.new.out left (c.loop-at.at + 1)) c.if-left-eq0.true
    (goes_on c.args.records.now (g.J.Judge.test c.args.judge.now) c.args.cost c.args.opened_at c.args.candidates.now c.as_slice.result.now c.args.from c.args.out.now c.loop-at.out c.look_up-left.new.out c.slot.result.now c.loop-at.left
    c.look_up-left.result c.loop-at.at c.as_slice.ensures c.loop-at.auto.at (omega (arith, c.loop-at-test.true, c.min.ensures, c.len.ensures, c.requires.from)) c.slot.ensures.slot c.look_up-left.ensures.found
    c.look_up-left.ensures.left c.look_up-left.ensures.room c.loop-at.invariant.so_far c.loop-at.invariant.some))

pub loop-at-preserved : goal.loop-at-preserved
loop-at-preserved g c = record {
  so_far =
      goes_on c.args.records.now (g.J.Judge.test c.args.judge.now) c.args.cost c.args.opened_at c.args.candidates.now c.as_slice.result.now c.args.from c.args.out.now c.loop-at.out c.look_up-left.new.out c.slot.result.now c.loop-at.left
      c.look_up-left.result c.loop-at.at c.as_slice.ensures c.loop-at.auto.at (omega (arith, c.loop-at-test.true, c.min.ensures, c.len.ensures, c.requires.from)) c.slot.ensures.slot c.look_up-left.ensures.found
      c.look_up-left.ensures.left c.look_up-left.ensures.room c.loop-at.invariant.so_far c.loop-at.invariant.some;
  some = omega (arith, c.if-left-eq0.false);
}
