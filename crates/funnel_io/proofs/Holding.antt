-- What a buffer holds after a search, and after a read.
use Rattle.std.proofs.Common.{◌≡◌, ◌≢◌, ℕ, ◌+◌, ◌-◌, ◌<◌, ◌≤◌, min, Some, None, List, ◌∷◌, ◌++◌, length, get_or, take, drop, sym, ap, ◌∙◌, subst, inl, inr, arith}
use Rattle.std.specs.Prelude.{slice_range}
use Rattle.std.proofs.lemmas.Bool.Decides.{leb_tells}
use Rattle.std.proofs.lemmas.List.{take-take}
use Rattle.std.proofs.lemmas.List.Elements.{All-append}
use Rattle.memchr.specs.Find.{IsFirstByte, is_byte}
use Rattle.funnel_io.specs.Calls.{Read, IsRoomFor}
use Rattle.funnel_io.specs.Lines.{HasNoNewline}
use Rattle.funnel_io.specs.declared.source.Got.{Got}
use Rattle.funnel_io.specs.Streams.{Incoming}
use Rattle.funnel_io.proofs.BufferReads.{range_grown, range_kept}
use Rattle.funnel_io.specs.LineBuffers.{IsInPlace}
use Rattle.funnel_io.specs.BufferReads.{ReadsBehind, ReadsOnce}
use Rattle.funnel_io.proofs.Ranges.{range_cut, range_first, get_or-range, length-range, none_found, none_before, found_byte}

-- two ranges without newline are one without newline
pub clean_both : (buffer : List ℕ) (start between to : ℕ) → start ≤ between → between ≤ to
    → HasNoNewline (slice_range buffer start between) → HasNoNewline (slice_range buffer between to)
    → HasNoNewline (slice_range buffer start to)
clean_both buffer start between to in_order within first second =
    let both = All-append (λ byte. byte ≢ 10) (slice_range buffer start between) (slice_range buffer between to) first second in
    subst HasNoNewline (sym (range_cut buffer start between to in_order within)) both

-- where the search found none, no newline is among the bytes
pub clean_without : (buffer : List ℕ) (start searched end : ℕ) → start ≤ searched → searched ≤ end
    → HasNoNewline (slice_range buffer start searched)
    → IsFirstByte (is_byte 10) (slice_range buffer searched end) None
    → HasNoNewline (slice_range buffer start end)
clean_without buffer start searched end in_order within first none =
    clean_both buffer start searched end in_order within first (none_found (slice_range buffer searched end) none)

-- where the search found a newline, none is before it
pub clean_before : (buffer : List ℕ) (start searched end at : ℕ) → start ≤ searched → searched ≤ end → end ≤ length buffer
    → HasNoNewline (slice_range buffer start searched)
    → IsFirstByte (is_byte 10) (slice_range buffer searched end) (Some at)
    → HasNoNewline (slice_range buffer start (searched + at))
clean_before buffer start searched end at in_order within in_buffer first found =
    let hay : List ℕ = slice_range buffer searched end in
    let inside : at < end - searched = omega (arith, length-range buffer searched end in_buffer, found.0.high) in
    let far : at ≡ (searched + at) - searched = omega arith in
    let near : take at hay ≡ slice_range buffer searched (searched + at) =
    take-take at (end - searched) (drop searched buffer) (omega arith)
    ∙ ap (λ k. take k (drop searched buffer)) far in
    clean_both buffer start searched (searched + at) in_order (omega arith) first
    (subst HasNoNewline near (none_before hay at found))

-- and the bytes are those before it, it, and those after it
pub split_at_newline : (buffer : List ℕ) (start searched end at : ℕ) → start ≤ searched → searched ≤ end → end ≤ length buffer
    → IsFirstByte (is_byte 10) (slice_range buffer searched end) (Some at)
    → slice_range buffer start end
    ≡ slice_range buffer start (searched + at) ++ 10 ∷ slice_range buffer (searched + at + 1) end
split_at_newline buffer start searched end at in_order within in_buffer found =
    let place : ℕ = searched + at in
    let inside : at < end - searched = omega (arith, length-range buffer searched end in_buffer, found.0.high) in
    let byte : get_or buffer place 0 ≡ 10 =
    sym (get_or-range buffer searched end at (omega arith)) ∙ found_byte (slice_range buffer searched end) at found in
    range_cut buffer start place end (omega arith) (omega arith)
    ∙ ap (λ rest. slice_range buffer start place ++ rest)
    (range_first buffer place end (omega arith) in_buffer ∙ ap (λ b. b ∷ slice_range buffer (place + 1) end) byte)

-- a buffer that was searched to the end
pub in_place_searched : (buffer : List ℕ) (line_start line_end start searched end : ℕ)
    → IsInPlace buffer line_start line_end start searched end
    → HasNoNewline (slice_range buffer start end)
    → IsInPlace buffer line_start line_end start end end
in_place_searched buffer line_start line_end start searched end place clean = record {
  size = place.size;
  line = place.line;
  line_within = place.line_within;
  in_order = omega (arith, place.in_order, place.not_past_end);
  not_past_end = omega arith;
  within = place.within;
  clean = clean;
}

pub room_for : (may free : ℕ) → 64 ≤ free → IsRoomFor (min may free) may
room_for may free enough = elim (leb_tells may free) [ inl within ↦ inr (omega (arith, within.1)) | inr more ↦ inl (omega (arith, more.1, enough)) ]

-- where a buffer was read into behind its bytes, the places of a line buffer stay in order
pub in_place_read : {S : Type 0} (incoming : S → Incoming) (gives : S → Read → S → Type 0) (answer : Got) (before after : S)
    (old : List ℕ) (line_start line_end start searched end : ℕ) (new : List ℕ) (end' may may' : ℕ)
    → ReadsBehind incoming gives answer before after old end new end' may may' → IsInPlace old line_start line_end start searched end
    → IsInPlace new line_start line_end start searched end'
in_place_read incoming gives answer before after old line_start line_end start searched end new end' may may' reads place = record {
  size = reads.size ∙ place.size;
  line = place.line;
  line_within = omega (arith, place.line_within, reads.size);
  in_order = place.in_order;
  not_past_end = omega (arith, place.not_past_end, reads.moved);
  within = reads.within;
  clean = subst HasNoNewline
      (sym (range_kept old new reads.read.bytes start searched end end' reads.behind (omega (arith, reads.moved)) place.within place.not_past_end)) place.clean;
}

-- and its bytes stand behind those that were held
pub reads_once : {S : Type 0} (incoming : S → Incoming) (gives : S → Read → S → Type 0) (answer : Got) (before after : S)
    (old : List ℕ) (start end : ℕ) (new : List ℕ) (end' may may' : ℕ)
    → ReadsBehind incoming gives answer before after old end new end' may may' → start ≤ end → end + 64 ≤ length old
    → ReadsOnce incoming gives before after (slice_range old start end) (slice_range new start end') answer may may'
reads_once incoming gives answer before after old start end new end' may may' reads in_order enough = record {
  read = reads.read;
  answered = reads.answered;
  step = reads.step;
  room = subst (λ (room : ℕ). IsRoomFor room may) (sym reads.room) (room_for may (length old - end) (omega (arith, enough)));
  takes = reads.takes;
  grown = range_grown old new reads.read.bytes start end end' reads.behind in_order (omega arith);
  count = reads.count;
}
