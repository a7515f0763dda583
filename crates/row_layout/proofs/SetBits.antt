-- Set bits that keep to their owners tell words.
use Rattle.std.proofs.Common.{◌≡◌, ℕ, ◌<◌, ◌≤◌, ◌||◌, true, false, List, [], ◌∷◌, ◌++◌, Contains, sym, ap, ◌∙◌, subst, append_assoc, append-nil}
use Rattle.std.proofs.lemmas.Bool.{both_ways, false_from_ne_true, or_parts, or_right, true_from_ne_false}
use Rattle.std.proofs.Math.Bool.{or-false, or_assoc}
use Rattle.std.specs.List.{list_any}
use Rattle.std.specs.Option.{is_some}
use Rattle.funnel_model.proofs.Claims.{claimed_in_range, take_is_unclaimed}
use Rattle.funnel_model.proofs.Columns.{clearing_is_over, one_state}
use Rattle.funnel_model.proofs.Spans.{in_span-push}
use Rattle.funnel_model.specs.Configuration.{IsInRange}
use Rattle.funnel_model.specs.Events.{bits_on, clears, opens}
use Rattle.funnel_model.specs.History.{Document}
use Rattle.funnel_model.specs.Legal.{Limits, IsAllowed, IsLegal}
use Rattle.funnel_model.specs.Sizes.{columns_of_slice, words_of_slice}
use Rattle.funnel_model.specs.Slices.{Live, Unclaimed, IsLiveOn, IsPutOn, is_claimed, is_clearing}
use Rattle.funnel_model.specs.Tunings.{treat}
use Rattle.funnel_model.specs.Words.{words}
use Rattle.funnel_model.specs.declared.bit_list.Bit.{Bit}
use Rattle.funnel_model.specs.declared.config.Config.{Config}
use Rattle.funnel_model.specs.declared.event.Event.{Event}
use Rattle.funnel_model.specs.declared.event.Event.TheVariants as event
use Rattle.row_layout.specs.DocumentBits.{bit_of_row}
use Rattle.row_layout.specs.Owners.{IsOfExactWord, KeepToOwners, Owns, OwnsIn, StandsOn, is_exact}
use Rattle.row_layout.specs.Rows.{rows_of_word}
use Rattle.row_layout.specs.Sound.{IsSound}
use Rattle.row_layout.specs.declared.row.Row.{Row}
use Rattle.row_layout.proofs.Owners.{exact-owned, owned-exact, owned-tells-documents, put_bits-kept}

-- the event that put a document on a column stands there while the slice isn't cleared
pub put_stands : (history : List Event) (slice column : ℕ) (document : Document) (since : ℕ) (later : List Event) →
    (put : IsPutOn history slice column document since later) → list_any (clears slice) later ≡ false → StandsOn history slice column put.event
put_stands history slice column document since later put stays =
    record { earlier = put.earlier; later = later; whole = put.whole; puts = ap is_some put.puts; stays = stays }

-- so a set bit that the column owns is one of an exact word of the document
pub set-exact : (limits : Limits) (opening : Config) (history : List Event) (IsSet : Bit → Type 0) (slice column : ℕ) (document : Document) (since : ℕ)
    (later : List Event) (bit : Bit) → IsLegal limits history → IsSound opening history → limits.slice_words ≡ words_of_slice opening →
    KeepToOwners limits opening history IsSet → IsPutOn history slice column document since later → list_any (clears slice) later ≡ false →
    IsSet bit → Owns limits opening history slice column bit →
    IsOfExactWord (words_of_slice opening) (treat opening slice history) (words document.text) slice column bit
set-exact limits opening history IsSet slice column document since later bit legal sound room keep put stays set owns =
    owned-exact (words_of_slice opening) (treat opening slice history) (words document.text) slice column (bits_on slice column put.event) bit
    (put_bits-kept limits opening history slice column document since later legal sound put stays)
    (subst (λ n. OwnsIn n (treat opening slice history) slice column bit) room owns.treated)
    (keep.among slice column bit put.event set owns (put_stands history slice column document since later put stays))

-- a slice that was cleared and not opened since is being cleared
cleared_since : (slice : ℕ) (before later : List Event) → list_any (opens slice) later ≡ false →
    is_clearing slice (before ++ later) ≡ (is_clearing slice before || list_any (clears slice) later)
cleared_since slice before [] stays = ap (is_clearing slice) (append-nil before) ∙ sym (or-false (is_clearing slice before))
cleared_since slice before (e ∷ later) stays =
    let parts = or_parts (opens slice e) (list_any (opens slice) later) stays in
    ap (is_clearing slice) (sym (append_assoc before (e ∷ []) later))
    ∙ cleared_since slice (before ++ e ∷ []) later parts.1
    ∙ ap (λ b. b || list_any (clears slice) later) (in_span-push (clears slice) slice before e parts.0)
    ∙ or_assoc (is_clearing slice before) (clears slice e) (list_any (clears slice) later)

-- so the slice of a live document wasn't cleared since it was put there
pub live_uncleared : (limits : Limits) (history : List Event) (slice column : ℕ) (document : Document) (since : ℕ) → IsLegal limits history →
    (lives : IsLiveOn history slice column document since) → list_any (clears slice) lives.later ≡ false
live_uncleared limits history slice column document since legal lives =
    let put = lives.put in
    let claimed = true_from_ne_false (is_claimed slice column history)
    (λ unclaimed. let same = one_state limits history slice column (Live document since) Unclaimed legal lives unclaimed in cc) in
    let in_slice = (claimed_in_range limits history slice column legal claimed).1 in
    false_from_ne_true (list_any (clears slice) lives.later) (λ cleared.
    let whole : history ≡ (put.earlier ++ put.event ∷ []) ++ lives.later = put.whole ∙ sym (append_assoc put.earlier (put.event ∷ []) lives.later) in
    let now = ap (is_clearing slice) whole ∙ cleared_since slice (put.earlier ++ put.event ∷ []) lives.later put.stays in
    clearing_is_over limits history slice column (Live document since) legal
    (now ∙ or_right (is_clearing slice (put.earlier ++ put.event ∷ [])) (list_any (clears slice) lives.later) cleared) in_slice lives)

-- and a set bit of its column is one of its exact words
pub set-live : (limits : Limits) (opening : Config) (history : List Event) (IsSet : Bit → Type 0) (slice column : ℕ) (document : Document) (since : ℕ)
    (bit : Bit) → IsLegal limits history → IsSound opening history → limits.slice_words ≡ words_of_slice opening → KeepToOwners limits opening history IsSet →
    IsLiveOn history slice column document since → IsSet bit → Owns limits opening history slice column bit →
    IsOfExactWord (words_of_slice opening) (treat opening slice history) (words document.text) slice column bit
set-live limits opening history IsSet slice column document since bit legal sound room keep lives =
    set-exact limits opening history IsSet slice column document since lives.later bit legal sound room keep lives.put
    (live_uncleared limits history slice column document since legal lives)

-- an exact word whose bit is set at a column is a word of the document that was put there
pub set-tells : (limits : Limits) (opening : Config) (history : List Event) (IsSet : Bit → Type 0) (slice column : ℕ) (document : Document) (since : ℕ)
    (later : List Event) (word : List ℕ) (row : Row) → IsLegal limits history → IsSound opening history → limits.slice_words ≡ words_of_slice opening →
    KeepToOwners limits opening history IsSet → IsPutOn history slice column document since later → list_any (clears slice) later ≡ false →
    IsInRange (treat opening slice history) → column < limits.columns → column < columns_of_slice (treat opening slice history) → words_of_slice (treat opening slice history) ≤ words_of_slice opening →
    is_exact (treat opening slice history) word ≡ true → Contains (rows_of_word (treat opening slice history) word) row →
    IsSet (bit_of_row (words_of_slice opening) slice column row) → Contains (words document.text) word
set-tells limits opening history IsSet slice column document since later word row legal sound room keep put stays range in_engine in_slice fits exact has set =
    let config = treat opening slice history in
    let bit = bit_of_row (words_of_slice opening) slice column row in
    let owns : Owns limits opening history slice column bit = record {
      in_engine = in_engine;
      treated = subst (λ n. OwnsIn n config slice column bit) (sym room) (exact-owned (words_of_slice opening) config slice column word row fits in_slice exact has);
    } in
    owned-tells-documents limits opening history slice column document since later word row legal sound put stays range in_slice exact has
    (keep.among slice column bit put.event set owns
    (put_stands history slice column document since later put stays))

-- a column that may be taken owns no set bit, since it is unclaimed
pub taken-unset : (limits : Limits) (opening : Config) (history : List Event) (IsSet : Bit → Type 0) (pass slice column : ℕ) (bit : Bit) →
    IsLegal limits history → KeepToOwners limits opening history IsSet → IsAllowed limits history (event.Take pass slice column) → IsSet bit →
    Owns limits opening history slice column bit → ⊥
taken-unset limits opening history IsSet pass slice column bit legal keep allowed set owns =
    both_ways (is_claimed slice column history) (take_is_unclaimed limits history pass slice column legal allowed) (keep.claimed slice column bit set owns)
