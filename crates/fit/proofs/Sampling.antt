-- The texts of the lines of an input, counted one after another.
use Rattle.std.proofs.Common.{◌≡◌, ◌∙◌, ◌+◌, ◌<◌, ◌≤◌, ℕ, true, List, [], ◌∷◌, ◌++◌, Some, None, length, refl, sym, ap, subst, arith, inl, inr, length-append}
use Rattle.std.proofs.lemmas.Bool.{le-ltb, lt-ltb, true≢false}
use Rattle.std.proofs.lemmas.List.{append-nil, map-append}
use Rattle.std.proofs.lemmas.List.Elements.{filter_map-append}
use Rattle.std.specs.Io.KnownBytes.{IsAtEnd}
use Rattle.std.specs.List.{filter_map}
use Rattle.std.specs.Prelude.{if◌then◌else◌}
use Rattle.funnel_io.proofs.Taking.{Takes-nil, Takes-trans}
use Rattle.funnel_io.specs.LineReading.{HasGiven, KnowsEnd, ReaderState, most_lines, unused}
use Rattle.funnel_io.specs.Lines.{lines}
use Rattle.funnel_io.specs.Streams.{Incoming, Takes}
use Rattle.funnel_io.specs.declared.line_reader.TheConstants.{MAX_LINE_LEN}
use Rattle.funnel_model.specs.declared.call.Call.TheVariants as call
use Rattle.line_proto.proofs.Readings.{read-by-forms}
use Rattle.line_proto.specs.Forms.{TooLong, Calls, form_of, item_from, item_of, items_of}
use Rattle.fit.specs.Adds.{text_added}
use Rattle.fit.specs.Samples.{EndsSample, HasSampled, IsSampled, StopsAt, texts_of}
use Rattle.fit.specs.declared.ends.FitEnd.{FitEnd}
use Rattle.fit.specs.Steps.{HasCounted}

-- the text of an add line is no longer than the line
pub text-short : (line text : List ℕ) (id : ℕ) → form_of line ≡ Some (Calls (call.Add id text)) → length text ≤ length line
text-short line text id is =
    let form = (read-by-forms line (Calls (call.Add id text))).0 is in
    let digits = form.form.0 in
    let end = form.form.1 in
    let bytes : length form.bytes ≤ length line = elim form.dropped [
      | inl returned ↦ omega (arith, ap length returned, length-append form.bytes (13 ∷ []))
      | inr same ↦ omega (arith, ap length same.0)
    ] in
    let behind : length text ≤ length end = elim form.form.4 [
      | inl none ↦ omega (arith, ap length none.1)
      | inr spaced ↦ omega (arith, ap length spaced.0)
    ] in
    omega (arith, ap length form.form.2, length-append digits end)

-- the item of a line that is short enough, and of one that isn't
pub item_of-short : (line : List ℕ) → length line ≤ MAX_LINE_LEN → item_of line ≡ item_from (form_of line)
item_of-short line short = ap (λ b. if b then TooLong else item_from (form_of line)) (le-ltb MAX_LINE_LEN (length line) short)

pub item_of-long : (line : List ℕ) → MAX_LINE_LEN < length line → item_of line ≡ TooLong
item_of-long line long = ap (λ b. if b then TooLong else item_from (form_of line)) (lt-ltb MAX_LINE_LEN (length line) long)

-- one more line
pub texts_of-push : (given : List (List ℕ)) (line : List ℕ) → texts_of (given ++ line ∷ []) ≡ texts_of given ++ texts_of (line ∷ [])
texts_of-push given line =
    ap (filter_map text_added) (map-append item_of given (line ∷ [])) ∙ filter_map-append text_added (items_of given) (items_of (line ∷ []))

-- a line that adds no text
pub texts_of-none : (texts : List (List ℕ)) (line : List ℕ) → text_added (item_of line) ≡ None → texts ++ texts_of (line ∷ []) ≡ texts
texts_of-none texts line none = rw none (append-nil texts)

-- a line that adds one
pub texts_of-some : (texts : List (List ℕ)) (line text : List ℕ) → text_added (item_of line) ≡ Some text → texts ++ texts_of (line ∷ []) ≡ texts ++ text ∷ []
texts_of-some texts line text some = rw some refl

-- nothing was read yet
pub sampled_none : (limit : ℕ) (before : Incoming) → HasGiven unused [] [] → HasCounted [] [] 0 0 → HasSampled limit limit unused [] 0 0 before before
sampled_none limit before none counted = record {
  taken = [];
  takes = Takes-nil before;
  count = omega arith;
  given = [];
  has_given = none;
  knows_end = λ is. absurd (true≢false (sym is));
  counted = counted;
  few = omega arith;
  reads_stay = refl;
}

-- a line was read, and counted
module _ (limit may may' : ℕ) (reader reader' : ReaderState) (tally tally' : List (List ℕ × ℕ)) (documents words documents' words' : ℕ) (before now after : Incoming)
    (p : HasSampled limit may reader tally documents words before now) (bytes : List ℕ) (takes : Takes bytes now after) (count : may' + length bytes ≡ may)
    (stay : after.faults ≡ now.faults) where
  pub sampled-line : KnowsEnd reader' after may' → (line : List ℕ) → HasGiven reader' (p.taken ++ bytes) (p.given ++ line ∷ [])
      → HasCounted (texts_of p.given ++ texts_of (line ∷ [])) tally' documents' words' → documents' ≤ documents + 1
      → most_lines reader'.held reader'.long + may' < most_lines reader.held reader.long + may → HasSampled limit may' reader' tally' documents' words' before after
  sampled-line knows line given counted one fewer = record {
    taken = p.taken ++ bytes;
    takes = Takes-trans before now after p.taken bytes p.takes takes;
    count = omega (arith, p.count, count, length-append p.taken bytes);
    given = p.given ++ line ∷ [];
    has_given = given;
    knows_end = knows;
    counted = subst (λ (texts : List (List ℕ)). HasCounted texts tally' documents' words') (sym (texts_of-push p.given line)) counted;
    few = omega (arith, p.few, one, fewer);
    reads_stay = stay ∙ p.reads_stay;
  }

  -- no line was left
  pub sampled-end : lines (p.taken ++ bytes) true ≡ p.given → IsAtEnd after.left → 0 < may' → IsSampled limit before after tally documents words
  sampled-end all end some = record {
    taken = p.taken ++ bytes;
    takes = Takes-trans before now after p.taken bytes p.takes takes;
    within = omega (arith, p.count, count, length-append p.taken bytes);
    at_end = end;
    counted = subst (λ (ls : List (List ℕ)). HasCounted (texts_of ls) tally documents words) (sym all) p.counted;
    reads_stay = stay ∙ p.reads_stay;
  }

-- the sample stops here
pub stops : (limit may may' : ℕ) (reader : ReaderState) (tally : List (List ℕ × ℕ)) (documents words : ℕ) (before now after : Incoming)
    (p : HasSampled limit may reader tally documents words before now) (bytes : List ℕ) → Takes bytes now after → may' + length bytes ≡ may → (end : FitEnd)
    → (length (p.taken ++ bytes) + may' ≡ limit → StopsAt limit end (length (p.taken ++ bytes)) before.faults after.faults) → EndsSample limit before after end
stops limit may may' reader tally documents words before now after p bytes takes count end at = record {
  taken = p.taken ++ bytes;
  takes = Takes-trans before now after p.taken bytes p.takes takes;
  stops = at (omega (arith, p.count, count, length-append p.taken bytes));
}
