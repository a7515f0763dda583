-- What is answered of the layouts that are kept, and how the slices of a find come into entries by their treatments.
use Rattle.std.proofs.Common.{◌≡◌, ⊎_elim, inl, inr, ℕ, ◌+◌, ◌<◌, ◌↔◌, true, false, List, [], ◌∷◌, ◌++◌, length, length-take-le, take, get_or, Option, Some, None, Result, Ok, Err, IfOk, sym, ap, ◌∙◌, subst, arith, AllPairs, Contains, MatchOption}
use Rattle.std.proofs.lemmas.Bool.{false≢true}
use Rattle.std.proofs.lemmas.List.{get_or-take, get_or_default, take_more}
use Rattle.std.proofs.lemmas.List.Elements.{Contains-append_left, Contains-get_or, Contains-push, Contains-push_cases}
use Rattle.std.specs.Option.{is_some}
use Rattle.funnel_model.specs.declared.claim.Token.{Token}
use Rattle.funnel_model.specs.declared.event.Event.{Event}
use Rattle.funnel_model.specs.declared.memory.Memory.{Memory}
use Rattle.funnel_model.specs.Sizes.{words_of_slice}
use Rattle.funnel_model.specs.SliceSets.{IsEmpty, IsLowestOf}
use Rattle.row_layout.specs.Layouts.{LayoutId}
use Rattle.slice_rule.specs.Pools.{PoolId}
use Rattle.commit_desk.specs.declared.find_layouts.FindLayout.{FindLayout}
use Rattle.commit_desk.specs.FindLayouts.{AreFindLayouts, IsFindLayout}
use Rattle.commit_desk.specs.Layouts.{AreLayoutsOf, IsEntryOf, IsLayoutOf, LayoutsState, treatment_number}
use Rattle.commit_desk.specs.Treatments.{AddsShare, AreApart, AreShared, IsShare}
use Rattle.commit_desk.proofs.EntriesKept.{pairs-push}

-- an empty list has no element
none_of : {X : Type 0} (x : X) → Contains [] x → ⊥
none_of x (k, within, is) = omega (arith, within)

-- what follows from what holds of a layout that was answered
pub ok_follows : (answer : Result LayoutId Memory) {P Q : LayoutId → Type 0} → ((layout : LayoutId) → P layout → Q layout) → IfOk answer P → IfOk answer Q
ok_follows (Ok found) then holds = then found holds
ok_follows (Err memory) then holds = tt

-- what follows from what holds where an answer was given
pub ok_then : {A : Type 0} (answer : Result A Memory) {P Q : Type 0} → (P → Q) → IfOk answer (λ _. P) → IfOk answer (λ _. Q)
ok_then (Ok found) then holds = then holds
ok_then (Err memory) then holds = tt

-- what holds where a look-up gave nothing, and what holds of what it gave
pub when_none : (N : Type 0) (P : ℕ → Type 0) (answer : Option ℕ) → MatchOption answer N P → is_some answer ≡ false → N
when_none N P None holds none = holds
when_none N P (Some found) holds none = absurd (false≢true (sym none))

pub when_some : (N : Type 0) (P : ℕ → Type 0) (answer : Option ℕ) → MatchOption answer N P → is_some answer ≡ true → (found : ℕ) × P found
when_some N P None holds some = absurd (false≢true some)
when_some N P (Some found) holds some = (found, holds)

-- a set with a lowest slice has some slice
pub some_in : (set : List ℕ) (lowest : Option ℕ) → MatchOption lowest (IsEmpty set) (IsLowestOf set) → is_some lowest ≡ true → (slice : ℕ) × Contains set slice
some_in set lowest is some = let found = when_some _ _ lowest is some in (found.0, found.1.in_set)

-- before any entry none is shared
pub shared-start : (slices : List ℕ) → AreShared [] slices []
shared-start slices = record {
  every = λ whole in'. absurd (none_of whole in');
  each = λ entry in'. absurd (none_of entry in');
  differ = λ i j d less within. absurd (omega (arith, within));
}

shared-push : (front : List FindLayout) (whole : FindLayout) (slices : List ℕ) (before after : List FindLayout) →
    ((other : FindLayout) → Contains front other → AreApart other whole) → AreShared front slices before → AddsShare slices whole before after →
    AreShared (front ++ whole ∷ []) slices after
shared-push front whole slices before after apart is (inl none) = subst (AreShared (front ++ whole ∷ []) slices) (sym none.1) (record {
  every = λ from in' slice has in_set. ⊎_elim
      (λ (old : Contains front from). is.every from old slice has in_set)
      (λ (same : whole ≡ from). absurd (none.0 slice (subst (λ (e : FindLayout). Contains e.slices slice) (sym same) has) in_set))
      (Contains-push_cases front whole from in');
  each = λ entry in'. let from = is.each entry in' in (from.0, Contains-append_left front (whole ∷ []) from.0 from.1, from.2);
  differ = is.differ;
})
shared-push front whole slices before after apart is (inr added) =
    let entry = added.0 in
    let share = added.1 in
    subst (AreShared (front ++ whole ∷ []) slices) (sym added.2) (record {
      every = λ from in' slice has in_set. ⊎_elim
          (λ (old : Contains front from). let there = is.every from old slice has in_set in (there.0, Contains-append_left before (entry ∷ []) there.0 there.1, there.2))
          (λ (same : whole ≡ from). (
            entry,
            Contains-push before entry,
            (share.has slice).1 (subst (λ (e : FindLayout). Contains e.slices slice) (sym same) has, in_set),
          ))
          (Contains-push_cases front whole from in');
      each = λ other in'. ⊎_elim
          (λ (old : Contains before other). let from = is.each other old in (from.0, Contains-append_left front (whole ∷ []) from.0 from.1, from.2))
          (λ (same : entry ≡ other). (whole, Contains-push front whole, subst (IsShare slices whole) same share))
          (Contains-push_cases before entry other in');
      differ = pairs-push (λ (one other : FindLayout). one.number ≡ other.number → ⊥) before entry is.differ
          (λ old in' same. let from = is.each old in' in (apart from.0 from.1).numbers (sym from.2.number_is ∙ same ∙ share.number_is));
    })

-- one entry more is shared
pub shared-more : (wholes : List FindLayout) (index : ℕ) (whole : FindLayout) (slices : List ℕ) (before after : List FindLayout) → AllPairs AreApart wholes →
    index < length wholes → whole ≡ get_or wholes index whole → AreShared (take index wholes) slices before → AddsShare slices whole before after →
    AreShared (take (index + 1) wholes) slices after
shared-more wholes index whole slices before after pairs in' at is adds =
    subst (λ (xs : List FindLayout). AreShared xs slices after)
    (ap (λ (e : FindLayout). take index wholes ++ e ∷ []) at ∙ sym (take_more wholes index whole in'))
    (shared-push (take index wholes) whole slices before after earlier is adds) where
      earlier : (other : FindLayout) → Contains (take index wholes) other → AreApart other whole
      earlier other (k, below, is_other) =
          let size = length-take-le index wholes (omega (arith, in')) in
          let less : k < index = omega (arith, below, size) in
          subst (λ (e : FindLayout). AreApart e whole) (sym (get_or-take index wholes k other less) ∙ is_other)
          (subst (AreApart (get_or wholes k other)) (get_or_default wholes index other whole in' ∙ sym at) (pairs k index other less in'))

-- so a find has the layouts of its slices
module _ (pool : PoolId) (history : List Event) (kept : LayoutsState) (are : AreLayoutsOf pool.config pool.limits.slices history kept)
    (rows : pool.limits.slice_words ≡ words_of_slice pool.config) (token : Token) (slices : List ℕ)
    (same : (slice : ℕ) → Contains token.slices slice ↔ Contains slices slice) (entries : List FindLayout) (shared : AreShared kept.treatments slices entries)
    (below : (slice : ℕ) → Contains slices slice → slice < pool.limits.slices) where
  -- the entry that a slice of a share has is one that is kept
  kept_entry : (entry : FindLayout) (in' : Contains entries entry) (slice : ℕ) → Contains entry.slices slice → IsEntryOf kept slice (shared.each entry in').0
  kept_entry entry in' slice has = record { among = (shared.each entry in').1; has = (((shared.each entry in').2.has slice).0 has).0 }

  laid : (entry : FindLayout) → Contains entries entry → (slice : ℕ) → Contains entry.slices slice → IsLayoutOf pool.config slice history entry.layout
  laid entry in' slice has =
      subst (IsLayoutOf pool.config slice history) (sym (shared.each entry in').2.layout_is) (are.laid slice (shared.each entry in').0 (kept_entry entry in' slice has))

  numbered : (entry : FindLayout) → Contains entries entry → (slice : ℕ) → Contains entry.slices slice → treatment_number slice history ≡ entry.number
  numbered entry in' slice has = are.numbered slice (shared.each entry in').0 (kept_entry entry in' slice has) ∙ sym (shared.each entry in').2.number_is

  find_layout : (entry : FindLayout) → Contains entries entry → IsFindLayout pool history entry
  find_layout entry in' =
      let some = (shared.each entry in').2.some in
      let is = laid entry in' some.0 some.1 in
      record {
        some = some;
        room = ap (λ (l : LayoutId). l.room) is.is ∙ sym rows;
        suits = is.suits;
        treated = λ slice has. ap (λ (l : LayoutId). l.config) (sym (laid entry in' slice has).is);
        numbered = numbered entry in';
      }

  pub find_layouts : AreFindLayouts pool history token entries
  find_layouts = record {
    every = λ slice has.
        let in_set = (same slice).0 has in
        let whole = are.every slice (below slice in_set) in
        shared.every whole.0 whole.1.among slice whole.1.has in_set;
    among = λ entry in' slice has. (same slice).1 (((shared.each entry in').2.has slice).0 has).1;
    apart = λ i j d less within slice one other.
        let i_in = Contains-get_or entries i d (omega (arith, less, within)) in
        let j_in = Contains-get_or entries j d within in
        shared.differ i j d less within (sym (numbered (get_or entries i d) i_in slice one) ∙ numbered (get_or entries j d) j_in slice other);
    differ = shared.differ;
    each = find_layout;
  }
