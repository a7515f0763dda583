-- What bytes decide that begin with a whole head.
use Rattle.std.proofs.Common.{◌≡◌, ℕ, ◌+◌, ◌-◌, ◌<◌, ◌≤◌, ◌||◌, Bool, List, [], ◌++◌, Some, length, take, drop, map, refl, sym, ap, ◌∙◌, subst, inr, arith, length-append, length-take, length-drop, take_all}
use Rattle.std.specs.Prelude.{slice_range, ◌==◌}
use Rattle.std.proofs.lemmas.List.{drop-drop, drop_at, take-append-drop, length-map}
use Rattle.funnel_io.proofs.Ranges.{range_front}
use Rattle.httparse.specs.Grammar.{ReadsRequest, RequestHead, print_request}
use Rattle.httparse.specs.Spans.{IsRequestOf, IsRequestWithin, IsWithin, header_bytes, name_and_value, span_bytes}
use Rattle.httparse.specs.declared.spans.HeaderSpan.{HeaderSpan}
use Rattle.httparse.specs.declared.spans.RequestSpans.{RequestSpans}
use Rattle.httparse.specs.declared.spans.Span.{Span}
use Rattle.httparse.proofs.GrammarLemmas.{ReadsRequest-append, print_request-append}
use Rattle.http_front.specs.Entries.{IsRefusedAtHead}
use Rattle.http_front.specs.Heads.{HasHead, closes, connections, closes_by, fields_of}
use Rattle.http_front.specs.Steps.{HasHeadAt, IsGoodHead, IsHeadAt, IsRefusedByFields, IsRequest, IsUndecided, closes_with}
use Rattle.http_front.specs.declared.cause.Cause.{Cause}
use Rattle.http_front.specs.declared.cause.Cause.TheVariants as cause
use Rattle.http_front.proofs.HeadLaws.{no_entry_without_body}

-- the spans of a head that was parsed, with those of its fields alone
pub head_at : (first : List ℕ) (spans : List HeaderSpan) (r : RequestSpans) → length first ≤ 16384 → IsRequestWithin first spans r → IsRequestOf first spans r
    → HasHeadAt first (take r.headers spans) r
head_at first spans r few within is = (
  is.0,
  record {
    reads = is.1.reads;
    len = is.1.len;
    short = omega (arith, within.section.len_fits);
    within = within.section.len_fits;
    method = is.1.method;
    method_within = within.method;
    target = is.1.path;
    target_within = within.path;
    version = is.1.version;
    fields_are = is.1.fields;
    fields_within = λ k d inside.
        let h = within.section.headers_fit k d inside in
        ((h.0.0, omega (arith, h.0.1, within.section.len_fits)), (h.1.0, omega (arith, h.1.1, within.section.len_fits)));
  },
)

module _ (bytes first : List ℕ) (fields : List HeaderSpan) (r : RequestSpans) (first_is : first ≡ take 16384 bytes) (head : RequestHead) (is : IsHeadAt first fields r head) where
  reads_all : ReadsRequest bytes head (drop r.len bytes)
  reads_all =
      let more = ReadsRequest-append first head (drop r.len first) (drop 16384 bytes) is.reads in
      let whole : first ++ drop 16384 bytes ≡ bytes = ap (λ f. f ++ drop 16384 bytes) first_is ∙ take-append-drop 16384 bytes in
      let read = subst (λ (b : List ℕ). ReadsRequest b head (drop r.len first ++ drop 16384 bytes)) whole more in
      let rest : drop r.len bytes ≡ drop r.len first ++ drop 16384 bytes =
      ap (drop r.len) read.1 ∙ drop_at (print_request head) (drop r.len first ++ drop 16384 bytes) r.len (sym is.len) in
      subst (ReadsRequest bytes head) (sym rest) read

  fields_count : length fields ≡ length head.fields
  fields_count = sym (length-map fields (header_bytes first)) ∙ ap length is.fields_are ∙ length-map head.fields name_and_value

  head_all : length fields ≤ 32 → HasHead bytes head (drop r.len bytes)
  head_all few = record { reads = reads_all; short = omega (arith, is.len, is.short); few = omega (arith, fields_count, few) }

  few_fields : length (map (header_bytes first) fields) ≤ 32 → length fields ≤ 32
  few_fields few = omega (arith, few, length-map fields (header_bytes first))

  -- the head is refused
  pub judged_refused : (why : Cause) → IsRefusedByFields (map (header_bytes first) fields) why → IsRefusedAtHead bytes why
  judged_refused cause.Head many = inr (inr (record {
    head = head;
    after = drop r.len bytes;
    reads = reads_all;
    short = omega (arith, is.len, is.short);
    many = omega (arith, many, length-map fields (header_bytes first), fields_count);
  }))
  judged_refused cause.Coding bad = (head, drop r.len bytes, head_all (few_fields bad.0), rw (← is.fields_are) bad.1)
  judged_refused cause.Length bad = (head, drop r.len bytes, head_all (few_fields bad.0), rw (← is.fields_are) bad.1)
  judged_refused cause.Long bad = (head, drop r.len bytes, head_all (few_fields bad.0), rw (← is.fields_are) bad.1)
  judged_refused cause.Route bad = absurd bad.1
  judged_refused cause.Body bad = absurd bad.1
  judged_refused cause.Text bad = absurd bad.1
  judged_refused cause.Query bad = absurd bad.1

  module _ (count : ℕ) (good : IsGoodHead (map (header_bytes first) fields) count) where
    good_head : IsGoodHead (fields_of head) count
    good_head = subst (λ (fs : List (List ℕ × List ℕ)). IsGoodHead fs count) is.fields_are good

    -- the body isn't whole
    pub judged_more : length bytes < r.len + count → IsUndecided bytes (r.len + count)
    judged_more short = record {
      more = short;
      fits = omega (arith, is.short, good.short);
      none = λ others few.
          no_entry_without_body (bytes ++ others) head (drop r.len bytes ++ others) count
          (record { reads = ReadsRequest-append bytes head (drop r.len bytes) others reads_all; short = (head_all (few_fields good.few)).short; few = (head_all (few_fields good.few)).few })
          good_head
          (omega (arith, few, length-append {A = ℕ}, length-drop {A = ℕ}, is.within, ap length first_is, length-take {A = ℕ}));
    }

    -- the span is that of the bytes
    same_span : (span : Span) → IsWithin r.len span → span_bytes bytes span ≡ span_bytes first span
    same_span span within =
        range_front bytes first span.start span.end 16384 (omega (arith, within.1, is.short))
        (sym first_is ∙ sym (take_all 16384 first (omega (arith, ap length first_is, length-take {A = ℕ}))))

    span_within : (span : Span) → IsWithin r.len span → r.len ≤ length bytes → IsWithin (length bytes) span
    span_within span within fits = (within.0, omega (arith, within.1, fits))

    some_head : 0 < r.len
    some_head = omega (arith, is.len, is.reads.0.method.0, ap length (print_request-append head []), length-append {A = ℕ})

    closes_head : closes_with r.version (map (header_bytes first) fields) ≡ closes head
    unfolding closes
    closes_head =
        ap (λ v. (v == 0) || closes_by (connections (map (header_bytes first) fields))) is.version
        ∙ ap (λ (fs : List (List ℕ × List ℕ)). (head.minor == 0) || closes_by (connections fs)) is.fields_are

    -- the request is whole
    pub judged_whole : r.len + count ≤ length bytes → (closing : Bool) → closing ≡ closes_with r.version (map (header_bytes first) fields)
        → IsRequest bytes (record { method = r.method; target = r.path; body = record { start = r.len; end = r.len + count }; closes = closing })
    judged_whole fits closing closes_is =
        let body : List ℕ = slice_range bytes r.len (r.len + count) in
        let size : (r.len + count) - r.len ≡ count = omega arith in
        let joined : drop r.len bytes ≡ body ++ drop (r.len + count) bytes =
        sym (take-append-drop ((r.len + count) - r.len) (drop r.len bytes))
        ∙ ap (λ t. body ++ t) (drop-drop ((r.len + count) - r.len) r.len bytes ∙ ap (λ n. drop n bytes) (omega arith)) in
        let body_length : length body ≡ count = omega (arith, length-take {A = ℕ}, length-drop {A = ℕ}) in
        record {
          head = head;
          body = body;
          request = record {
            begins = subst (HasHead bytes head) joined (head_all (few_fields good.few));
            plain = good_head.plain;
            said = good_head.said ∙ ap (λ (n : ℕ). Some n) (sym body_length);
            short = omega (arith, body_length, good.short);
          };
          method = same_span r.method is.method_within ∙ is.method;
          method_within = span_within r.method is.method_within (omega (arith, fits));
          target = same_span r.path is.target_within ∙ is.target;
          target_within = span_within r.path is.target_within (omega (arith, fits));
          body_is = refl;
          body_within = (omega arith, fits);
          some = omega (arith, some_head);
          closes = closes_is ∙ closes_head;
        }
