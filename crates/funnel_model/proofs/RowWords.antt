-- What the row words owe a history, with one more event, and with words that changed.
use Rattle.std.proofs.Common.{◌≡◌, ℕ, ◌+◌, ◌*◌, ◌<◌, ◌≤◌, ⊎_elim, Bool, true, false, cond, List, [], ◌∷◌, ◌++◌, slice_index, Contains, sym, refl, ap, ◌∙◌, subst, append_assoc, arith, inl, inr}
use Rattle.std.proofs.lemmas.Bool.{both_ways, cases_eq, cases_lt, eqb-true, false_from_ne_true, ne_eqb, or_from}
use Rattle.std.proofs.lemmas.List.Elements.{All-contains}
use Rattle.std.proofs.lemmas.Nat.{mul-le}
use Rattle.std.proofs.lemmas.List.Folds.{list_any-append}
use Rattle.std.specs.List.{All, list_any}
use Rattle.std.specs.Prelude.{◌==◌, ◌⊎◌, option_to_list}
use Rattle.funnel_model.specs.declared.bit_list.Bit.{Bit}
use Rattle.funnel_model.specs.declared.event.Event.{Event}
use Rattle.funnel_model.specs.declared.event.Event.TheVariants as event
use Rattle.funnel_model.specs.Events.{bits_added_in, clears, fills, opens, column_taken_in}
use Rattle.funnel_model.specs.History.{IsFrontOf}
use Rattle.funnel_model.specs.Legal.{Limits, IsAllowed, IsInSlice, IsLegal}
use Rattle.funnel_model.specs.RowWords.{AreFresh, Covers, IsCommitted, IsSetIn, IsZeroIn}
use Rattle.funnel_model.specs.Slices.{claimed, is_claimed, is_clearing}
use Rattle.funnel_model.specs.Tokens.{MayRead}
use Rattle.funnel_model.proofs.Clears.{not_clearing-push, not_filled_clearing, read_stays}
use Rattle.funnel_model.proofs.Histories.{allowed_within, holds_of_legal}
use Rattle.funnel_model.proofs.Spans.{claimed-push, none-push, none_of_push, split_at_end}

-- a bit that is committed stays so with an event that doesn't clear the slice
pub committed-stays : (history : List Event) (e : Event) (slice : ℕ) (b : Bit) → clears slice e ≡ false → IsCommitted history slice b →
    IsCommitted (history ++ e ∷ []) slice b
committed-stays history e slice b kept is = record {
  earlier = is.earlier;
  event = is.event;
  later = is.later ++ e ∷ [];
  whole = ap (λ h. h ++ e ∷ []) is.whole ∙ append_assoc is.earlier (is.event ∷ is.later) (e ∷ []);
  added = is.added;
  stays = none-push (clears slice) is.later e is.stays kept;
}

-- an add commits its bits
pub committed-added : (history : List Event) (e : Event) (slice : ℕ) (b : Bit) → Contains (bits_added_in slice e) b → IsCommitted (history ++ e ∷ []) slice b
committed-added history e slice b added = record { earlier = history; event = e; later = []; whole = refl; added = added; stays = refl }

-- a bit that is committed after an event is one that the event adds, or it was before, and the event doesn't clear the slice
pub committed_before : (history : List Event) (e : Event) (slice : ℕ) (b : Bit) → IsCommitted (history ++ e ∷ []) slice b →
    Contains (bits_added_in slice e) b ⊎ (IsCommitted history slice b × (clears slice e ≡ false))
committed_before history e slice b is =
    ⊎_elim
    (λ end. inl (subst (λ x. Contains (bits_added_in slice x) b) (sym end.2) is.added))
    (λ more.
    let kept = none_of_push (clears slice) more.0 e (ap (list_any (clears slice)) (sym more.1) ∙ is.stays) in
    inr (record { earlier = is.earlier; event = is.event; later = more.0; whole = more.2; added = is.added; stays = kept.0 }, kept.1))
    (split_at_end history is.earlier is.later e is.event is.whole)

-- before the first event nothing is committed
pub covers-start : (words : List ℕ) → Covers words []
covers-start words slice b is = absurd (nothing is.earlier is.whole) where
  nothing : (earlier : List Event) → [] ≡ earlier ++ is.event ∷ is.later → ⊥
  nothing [] whole = cc
  nothing (x ∷ xs) whole = let none : [] ≡ x ∷ (xs ++ is.event ∷ is.later) = whole in cc

-- words that cover a history cover it with an event whose bits are set, also where it clears a slice
pub covers-push : (words : List ℕ) (history : List Event) (e : Event) → Covers words history →
    ((slice : ℕ) (b : Bit) → Contains (bits_added_in slice e) b → IsSetIn words b) → Covers words (history ++ e ∷ [])
covers-push words history e covers set slice b is =
    ⊎_elim (λ now. set slice b now) (λ before. covers slice b before.0) (committed_before history e slice b is)

-- with an event that adds no bits
pub covers-silent : (words : List ℕ) (history : List Event) (e : Event) → Covers words history → ((slice : ℕ) → bits_added_in slice e ≡ []) →
    Covers words (history ++ e ∷ [])
covers-silent words history e covers none =
    covers-push words history e covers (λ slice b added. absurd (empty b (subst (λ bs. Contains bs b) (none slice) added))) where
      empty : (b : Bit) → Contains [] b → ⊥
      empty b has = let in' = has.1 in omega arith

-- and with an add of which all bits are set
pub covers-add : (words : List ℕ) (history : List Event) (pass id : ℕ) (text : List ℕ) (slice column : ℕ) (bits : List Bit) → Covers words history →
    All (IsSetIn words) bits → Covers words (history ++ event.Add pass id text slice column bits ∷ [])
covers-add words history pass id text slice column bits covers set =
    covers-push words history (event.Add pass id text slice column bits) covers (λ other b added. by_slice other b (slice == other) added) where
      by_slice : (other : ℕ) (b : Bit) (same : Bool) → Contains (cond same bits []) b → IsSetIn words b
      by_slice other b true added = All-contains (IsSetIn words) bits b set added
      by_slice other b false added = let in' = added.1 in absurd (omega arith)

-- or a move
pub covers-move : (words : List ℕ) (history : List Event) (pass id slice column : ℕ) (bits : List Bit) → Covers words history →
    All (IsSetIn words) bits → Covers words (history ++ event.Move pass id slice column bits ∷ [])
covers-move words history pass id slice column bits covers set =
    covers-push words history (event.Move pass id slice column bits) covers (λ other b added. by_slice other b (slice == other) added) where
      by_slice : (other : ℕ) (b : Bit) (same : Bool) → Contains (cond same bits []) b → IsSetIn words b
      by_slice other b true added = All-contains (IsSetIn words) bits b set added
      by_slice other b false added = let in' = added.1 in absurd (omega arith)

-- words in which each bit stays set cover the history too
pub covers-more : (words more : List ℕ) (history : List Event) → ((b : Bit) → IsSetIn words b → IsSetIn more b) → Covers words history → Covers more history
covers-more words more history kept covers slice b is = kept b (covers slice b is)

-- bits that are there where a test passes
in_bits : (same : Bool) (bits : List Bit) (b : Bit) → Contains (cond same bits []) b → (same ≡ true) × Contains bits b
in_bits true bits b has = (refl, has)
in_bits false bits b has = let none = has.1 in absurd (omega arith)

-- the bit is one of the 64 of a word of the slice, and the event fills the slice: it neither opens nor clears one
record AddsBit (limits : Limits) (slice : ℕ) (e : Event) (b : Bit) : Type 0 where
  inside : IsInSlice limits.slice_words slice b.word
  in_word : b.bit < 64
  fills_it : fills slice e ≡ true
  opens_none : (other : ℕ) → opens other e ≡ false
  clears_none : (other : ℕ) → clears other e ≡ false

-- an event that is allowed and adds a bit in the slice does so: it adds a document there, or moves one there
adds_in : (limits : Limits) (history : List Event) (slice : ℕ) (e : Event) (b : Bit) → IsAllowed limits history e → Contains (bits_added_in slice e) b →
    AddsBit limits slice e b
adds_in limits history slice (event.Add pass id text added column bits) b allowed has =
    let here = in_bits (added == slice) bits b has in
    let same = eqb-true added slice here.0 in
    record {
      inside = subst (λ s. IsInSlice limits.slice_words s b.word) same
          (All-contains (λ (x : Bit). IsInSlice limits.slice_words added x.word) bits b allowed.rule.inside here.1);
      in_word = All-contains (λ (x : Bit). x.bit < 64) bits b allowed.rule.in_word here.1;
      fills_it = here.0;
      opens_none = λ other. refl;
      clears_none = λ other. refl;
    }
adds_in limits history slice (event.Move pass id moved column bits) b allowed has =
    let here = in_bits (moved == slice) bits b has in
    let same = eqb-true moved slice here.0 in
    record {
      inside = subst (λ s. IsInSlice limits.slice_words s b.word) same
          (All-contains (λ (x : Bit). IsInSlice limits.slice_words moved x.word) bits b allowed.rule.inside here.1);
      in_word = All-contains (λ (x : Bit). x.bit < 64) bits b allowed.rule.in_word here.1;
      fills_it = here.0;
      opens_none = λ other. refl;
      clears_none = λ other. refl;
    }
adds_in limits history slice _ b allowed has = let none = has.1 in absurd (omega arith)

-- the words of two slices are apart
pub slices_apart : (slice_words slice other word : ℕ) → IsInSlice slice_words slice word → IsInSlice slice_words other word → slice ≡ other
slices_apart n slice other word in' also =
    ⊎_elim (λ less. absurd (below slice other less in' also)) (λ rest. ⊎_elim (λ less. absurd (below other slice less also in')) (λ most. omega arith) (cases_lt other slice))
    (cases_lt slice other) where
      below : (low high : ℕ) → low < high → IsInSlice n low word → IsInSlice n high word → ⊥
      below low high less in_low in_high =
          let to = in_low.to in
          let from = in_high.from in
          let more : (low + 1) * n ≤ high * n = mul-le (low + 1) n high n (omega arith) (omega arith) in
          omega arith

-- in a legal history a bit that is committed in a slice lies in it
pub committed_in_slice : (limits : Limits) (history : List Event) (slice : ℕ) (b : Bit) → IsLegal limits history → IsCommitted history slice b →
    IsInSlice limits.slice_words slice b.word
committed_in_slice limits history slice b legal is =
    (adds_in limits is.earlier slice is.event b (allowed_within limits history is.earlier is.event is.later legal is.whole) is.added).inside

-- and its place in the word is one of 64
pub committed_in_word : (limits : Limits) (history : List Event) (slice : ℕ) (b : Bit) → IsLegal limits history → IsCommitted history slice b →
    b.bit < 64
committed_in_word limits history slice b legal is =
    (adds_in limits is.earlier slice is.event b (allowed_within limits history is.earlier is.event is.later legal is.whole) is.added).in_word

-- and the slice isn't being cleared
abbrev CommittedStay : List Event → Type 0
CommittedStay history = (slice : ℕ) (b : Bit) → IsCommitted history slice b → is_clearing slice history ≡ false

-- an event that adds bits in a slice fills it, and neither opens nor clears it
committed_stay-push : (limits : Limits) (history : List Event) (e : Event) → IsLegal limits history → CommittedStay history → IsAllowed limits history e →
    CommittedStay (history ++ e ∷ [])
committed_stay-push limits history e legal before allowed slice b is =
    ⊎_elim
    (λ now.
    let add = adds_in limits history slice e b allowed now in
    let open' : is_clearing slice history ≡ false =
    false_from_ne_true (is_clearing slice history) (λ clearing.
    both_ways (fills slice e) (not_filled_clearing limits history e slice legal allowed clearing) add.fills_it) in
    not_clearing-push history e slice false (add.opens_none slice) open' (add.clears_none slice))
    (λ was. not_clearing-push history e slice (opens slice e) refl (before slice b was.0) was.1)
    (committed_before history e slice b is)

pub committed_not_clearing : (limits : Limits) (history : List Event) (slice : ℕ) (b : Bit) → IsLegal limits history → IsCommitted history slice b →
    is_clearing slice history ≡ false
committed_not_clearing limits history slice b legal =
    holds_of_legal limits CommittedStay (λ s x is. absurd (nothing is.earlier is.event is.later is.whole))
    (λ h e is_legal before allowed. committed_stay-push limits h e is_legal before allowed) history legal slice b where
      nothing : (earlier : List Event) (e : Event) (later : List Event) → [] ≡ earlier ++ e ∷ later → ⊥
      nothing [] e later whole = cc
      nothing (x ∷ xs) e later whole = let none : [] ≡ x ∷ (xs ++ e ∷ later) = whole in cc

-- words that changed only in a slice that is being cleared still cover the history
pub covers-cleared : (limits : Limits) (words more : List ℕ) (history : List Event) (slice : ℕ) → IsLegal limits history → is_clearing slice history ≡ true →
    ((b : Bit) → (IsInSlice limits.slice_words slice b.word → ⊥) → IsSetIn words b → IsSetIn more b) → Covers words history → Covers more history
covers-cleared limits words more history slice legal clearing kept covers other b is =
    kept b
    (λ in'.
    let same = slices_apart limits.slice_words other slice b.word (committed_in_slice limits history other b legal is) in' in
    both_ways (is_clearing slice history)
    (ap (λ s. is_clearing s history) (sym same) ∙ committed_not_clearing limits history other b legal is) clearing)
    (covers other b is)

-- what a front of a reader has committed in a slice that it may read is still committed
pub reader_sees : (limits : Limits) (front history : List Event) (pass slice : ℕ) (b : Bit) → IsLegal limits history → IsFrontOf pass front history →
    MayRead limits.columns front pass slice → IsCommitted front slice b → IsCommitted history slice b
reader_sees limits front history pass slice b legal goes read is =
    let kept = (read_stays limits front history pass slice legal goes read).0 in
    record {
      earlier = is.earlier;
      event = is.event;
      later = is.later ++ goes.later;
      whole = goes.whole ∙ ap (λ h. h ++ goes.later) is.whole ∙ append_assoc is.earlier (is.event ∷ is.later) goes.later;
      added = is.added;
      stays = list_any-append (clears slice) is.later goes.later
          ∙ or_from (list_any (clears slice) is.later) (list_any (clears slice) goes.later) is.stays kept;
    }

-- a list that is empty with more has none
empty_front : {A : Type 0} (xs ys : List A) → xs ++ ys ≡ [] → xs ≡ []
empty_front [] ys is = refl
empty_front (x ∷ xs) ys is = let none : x ∷ (xs ++ ys) ≡ [] = is in cc

-- a slice of which no column is claimed after an event that doesn't open it had none claimed before
unclaimed_before : (slice : ℕ) (history : List Event) (e : Event) → opens slice e ≡ false → claimed slice (history ++ e ∷ []) ≡ [] → claimed slice history ≡ []
unclaimed_before slice history e stays none =
    empty_front (claimed slice history) (option_to_list (column_taken_in slice e)) (sym (claimed-push slice history e stays) ∙ none)

-- before the first event each slice is fresh, so all words are zero
pub fresh-start : (limits : Limits) (words : List ℕ) → ((slice : ℕ) → slice < limits.slices → IsZeroIn limits words slice) → AreFresh limits words []
fresh-start limits words zero slice in' none = zero slice in'

-- fresh slices stay so with an event that opens none; a take asks less
pub fresh-push : (limits : Limits) (words : List ℕ) (history : List Event) (e : Event) → ((slice : ℕ) → opens slice e ≡ false) → AreFresh limits words history →
    AreFresh limits words (history ++ e ∷ [])
fresh-push limits words history e stays fresh slice in' none = fresh slice in' (unclaimed_before slice history e (stays slice) none)

-- and with an event that opens a slice whose words are zero
pub fresh-opened : (limits : Limits) (words : List ℕ) (history : List Event) (pass slice : ℕ) (alone : Bool) → AreFresh limits words history → IsZeroIn limits words slice →
    AreFresh limits words (history ++ event.Opened pass slice alone ∷ [])
fresh-opened limits words history pass slice alone fresh zero other in' none =
    ⊎_elim
    (λ same. subst (IsZeroIn limits words) same zero)
    (λ apart. fresh other in' (unclaimed_before other history (event.Opened pass slice alone) (ne_eqb slice other apart) none))
    (cases_eq slice other)

-- words that changed only in a slice with a claimed column are as fresh as before
pub fresh-set : (limits : Limits) (words more : List ℕ) (history : List Event) (slice column : ℕ) → is_claimed slice column history ≡ true →
    ((word : ℕ) → (IsInSlice limits.slice_words slice word → ⊥) → slice_index words word ≡ 0 → slice_index more word ≡ 0) →
    AreFresh limits words history → AreFresh limits more history
fresh-set limits words more history slice column is_claimed' kept fresh other in' none word within =
    kept word
    (λ inside.
    let same = slices_apart limits.slice_words other slice word within inside in
    both_ways (is_claimed slice column history)
    (ap (list_any (λ c. c == column)) (ap (λ s. claimed s history) (sym same) ∙ none)) is_claimed')
    (fresh other in' none word within)

-- words in which each zero stayed are as fresh as before
pub fresh-zeroed : (limits : Limits) (words more : List ℕ) (history : List Event) → ((word : ℕ) → slice_index words word ≡ 0 → slice_index more word ≡ 0) →
    AreFresh limits words history → AreFresh limits more history
fresh-zeroed limits words more history kept fresh slice in' none word within = kept word (fresh slice in' none word within)
