-- What begins bytes, by the grammar of heads.
use Rattle.std.proofs.Common.{◌≡◌, ◌≢◌, ℕ, ◌+◌, ◌-◌, ◌*◌, ◌<◌, ◌≤◌, List, [], ◌∷◌, ◌++◌, Some, None, Result, Err, length, take, sym, ap, ◌∙◌, subst, inl, inr, arith, append-nil, length-append, take_all, All}
use Rattle.std.proofs.lemmas.List.{nil_from_length}
use Rattle.std.proofs.lemmas.List.Elements.{All-head, All-tail}
use Rattle.std.proofs.lemmas.Bool.Decides.{leb_tells}
use Rattle.std.proofs.Math.Seq.{take-append-add}
use Rattle.httparse.specs.Grammar.{EndsInTarget, Field, HasNoRequest, IsField, LineEnd, MayBecomeRequest, NeverHasRequest, ReadsRequest, RequestHead, crlf, lf, print_end, print_field, print_request, print_section}
use Rattle.httparse.specs.declared.Error.{Error}
use Rattle.httparse.specs.declared.Error.TheVariants.{TooManyHeaders}
use Rattle.httparse.specs.declared.Status.{Status}
use Rattle.httparse.specs.declared.spans.RequestSpans.{RequestSpans}
use Rattle.httparse.specs.Spans.{RequestExceeds}
use Rattle.httparse.proofs.GrammarLemmas.{print_request-append, request_unique}
use Rattle.http_front.specs.Entries.{Entry, HasBadBody, HasNoEntry, IsRefusedAtHead, ReadsEntry}
use Rattle.http_front.specs.Heads.{HasHead, HasRequest, IsBadHead, fields_of, length_said, lengths}
use Rattle.http_front.specs.Steps.{IsGoodHead, IsUndecided}
use Rattle.http_front.specs.declared.cause.Cause.{Cause}
use Rattle.http_front.specs.declared.cause.Cause.TheVariants as cause

-- bytes that hold no head, but can come to, are refused for none
no_refusal : (bytes : List ℕ) → HasNoRequest bytes → MayBecomeRequest bytes → length bytes < 16384 → (why : Cause) → IsRefusedAtHead bytes why → ⊥
no_refusal bytes none may few cause.Head (inl no_prefix) = no_prefix.never may
no_refusal bytes none may few cause.Head (inr (inl long)) = omega (arith, long.many)
no_refusal bytes none may few cause.Head (inr (inr many)) = none _ _ many.reads
no_refusal bytes none may few cause.Coding refused = none _ _ refused.2.reads
no_refusal bytes none may few cause.Length refused = none _ _ refused.2.reads
no_refusal bytes none may few cause.Long refused = none _ _ refused.2.reads
no_refusal bytes none may few cause.Route refused = refused.3
no_refusal bytes none may few cause.Body refused = refused.3
no_refusal bytes none may few cause.Text refused = refused.3
no_refusal bytes none may few cause.Query refused = refused.3

-- and decide nothing
pub no_entry_without_head : (bytes : List ℕ) → HasNoRequest bytes → MayBecomeRequest bytes → length bytes < 16384 → HasNoEntry bytes
no_entry_without_head bytes none may few entry rest (inl whole) = none _ _ whole.whole.begins.reads
no_entry_without_head bytes none may few entry rest (inr cut) = no_refusal bytes none may few cut.why cut.refused

-- so they wait for one more byte
pub undecided_without_head : (bytes : List ℕ) → HasNoRequest (take 16384 bytes) → MayBecomeRequest (take 16384 bytes) → length bytes < 16384 → IsUndecided bytes (length bytes + 1)
undecided_without_head bytes none may few =
    let whole : take 16384 bytes ≡ bytes = take_all 16384 bytes (omega arith) in
    record {
      more = omega arith;
      fits = omega arith;
      none = λ others short.
          let nothing : others ≡ [] = nil_from_length others (omega (arith, length-append bytes others)) in
          subst HasNoEntry (sym (append-nil bytes) ∙ ap (λ o. bytes ++ o) (sym nothing))
          (no_entry_without_head bytes (subst HasNoRequest whole none) (subst MayBecomeRequest whole may) few);
    }

-- a head that is short is read of the bytes that a head may have
first_head : (bytes : List ℕ) (head : RequestHead) (after : List ℕ) (n : ℕ) → ReadsRequest bytes head after → length (print_request head) ≤ n
    → ReadsRequest (take n bytes) head (take (n - length (print_request head)) after)
first_head bytes head after n reads short =
    let text = print_request head in
    let whole : n ≡ length text + (n - length text) = omega arith in
    (reads.0, ap (take n) reads.1 ∙ ap (λ k. take k (text ++ after)) whole ∙ take-append-add text after (n - length text))

-- a head that is read is no bad one
pub never_bad : (bytes : List ℕ) (head : RequestHead) (after : List ℕ) → HasHead bytes head after → IsBadHead bytes → ⊥
never_bad bytes head after has (inl no_prefix) = no_prefix.none head after has.reads
never_bad bytes head after has (inr (inl long)) = long.none head _ (first_head bytes head after 16384 has.reads has.short)
never_bad bytes head after has (inr (inr many)) =
    let same = (request_unique bytes head many.head after many.after has.reads many.reads).0 in
    omega (arith, has.few, many.many, ap (λ (h : RequestHead). length h.fields) same)

-- and no body that is taken a bad one
pub good_body : (fields : List (List ℕ × List ℕ)) (count : ℕ) → IsGoodHead fields count → (why : Cause) → HasBadBody fields why → ⊥
good_body fields count good cause.Coding bad = bad good.plain
good_body fields count good cause.Length bad = let none : Some count ≡ None = sym good.said ∙ bad.1 in cc
good_body fields count good cause.Long bad = let same : Some count ≡ Some bad.1 = sym good.said ∙ bad.2 in let is : count ≡ bad.1 = cc in omega (arith, is, bad.3, good.short)
good_body fields count good cause.Head bad = bad
good_body fields count good cause.Route bad = bad
good_body fields count good cause.Body bad = bad
good_body fields count good cause.Text bad = bad
good_body fields count good cause.Query bad = bad

-- where the body isn't whole, nothing is answered
pub no_entry_without_body : (bytes : List ℕ) (head : RequestHead) (after : List ℕ) (count : ℕ) → HasHead bytes head after → IsGoodHead (fields_of head) count
    → length after < count → HasNoEntry bytes
no_entry_without_body bytes head after count has good short entry rest reads = go entry reads where
  other : (head' : RequestHead) (body rest' : List ℕ) → HasRequest bytes head' body rest' → ⊥
  other head' body rest' is =
      let same = request_unique bytes head head' after (body ++ rest') has.reads is.begins.reads in
      let said : Some (length body) ≡ Some count = sym (subst (λ (h : RequestHead). length_said (lengths (fields_of h)) ≡ Some (length body)) (sym same.0) is.said) ∙ good.said in
      let count_is : length body ≡ count = cc in
      omega (arith, count_is, ap length same.1, length-append body rest')

  same_head : (head' : RequestHead) (after' : List ℕ) → HasHead bytes head' after' → head ≡ head'
  same_head head' after' is = (request_unique bytes head head' after after' has.reads is.reads).0

  at_head : (why : Cause) (head' : RequestHead) (after' : List ℕ) → HasHead bytes head' after' → HasBadBody (fields_of head') why → ⊥
  at_head why head' after' is bad = good_body (fields_of head) count good why (subst (λ (h : RequestHead). HasBadBody (fields_of h) why) (sym (same_head head' after' is)) bad)

  refused : (why : Cause) → IsRefusedAtHead bytes why → ⊥
  refused cause.Head bad = never_bad bytes head after has bad
  refused cause.Coding bad = at_head cause.Coding _ _ bad.2 bad.3
  refused cause.Length bad = at_head cause.Length _ _ bad.2 bad.3
  refused cause.Long bad = at_head cause.Long _ _ bad.2 bad.3
  refused cause.Route bad = bad.3
  refused cause.Body bad = bad.3
  refused cause.Text bad = bad.3
  refused cause.Query bad = bad.3

  go : (entry : Entry) → ReadsEntry bytes entry rest → ⊥
  go entry (inl whole) = other _ _ _ whole.whole
  go entry (inr cut) = refused cut.why cut.refused

-- each field has three bytes at least
end_room : (end : LineEnd) → 1 ≤ length (print_end end)
end_room crlf = omega arith
end_room lf = omega arith

field_room : (f : Field) → IsField f → 3 ≤ length (print_field f)
field_room f is = omega (arith, is.name.0, end_room f.end, length-append {A = ℕ})

fields_room : (fields : List Field) (last : LineEnd) → All IsField fields → 3 * length fields ≤ length (print_section fields last)
fields_room [] last all = omega arith
fields_room (f ∷ fields) last all =
    omega (arith, field_room f (All-head IsField f fields all), fields_room fields last (All-tail IsField f fields all), length-append {A = ℕ})

-- so bytes of a head have fewer fields than that
pub few_fields : (first : List ℕ) → length first ≤ 16384 → RequestExceeds 5461 first → ⊥
few_fields first short (begin, rest, joined, head, reads, many) =
    omega (
      arith,
      many,
      fields_room head.fields head.last reads.0.fields,
      ap length joined,
      ap length reads.1,
      ap length (print_request-append head []),
      length-append {A = ℕ},
    )

-- so an error says that no bytes can follow that make a head
pub never_head : (first : List ℕ) (room : ℕ) (e : Error) → length first ≤ 16384 → room ≡ 5461 → (e ≢ TooManyHeaders → NeverHasRequest first)
    → (◌≡◌ {A = Result (Status RequestSpans) Error} (Err e) (Err TooManyHeaders) → RequestExceeds room first) → NeverHasRequest first
never_head first room e short room_is invalid too_many =
    invalid (λ is. few_fields first short (subst (λ (n : ℕ). RequestExceeds n first) room_is (too_many (ap (λ (x : Error). Err x) is))))

-- the bytes that a head may have never become one
pub bad_start : (bytes : List ℕ) → NeverHasRequest (take 16384 bytes) → (MayBecomeRequest (take 16384 bytes) → ⊥) → IsBadHead bytes
bad_start bytes never no_may =
    let none = subst HasNoRequest (append-nil (take 16384 bytes)) (never []) in
    elim (leb_tells 16384 (length bytes)) [
      | inl many ↦ inr (inl (record { many = many.1; none = none }))
      | inr few ↦
          let whole : take 16384 bytes ≡ bytes = take_all 16384 bytes (omega (arith, few.1)) in
          inl (record { none = subst HasNoRequest whole none; never = λ may. no_may (subst MayBecomeRequest (sym whole) may) })
    ]

-- bytes that never become a head hold none
pub no_head : (bytes : List ℕ) → NeverHasRequest bytes → HasNoRequest bytes
no_head bytes never = subst HasNoRequest (append-nil bytes) (never [])

-- and are no prefix of one, but within a target
pub no_prefix : (bytes : List ℕ) → NeverHasRequest (take 16384 bytes) → (EndsInTarget (take 16384 bytes) → ⊥) → MayBecomeRequest (take 16384 bytes) → ⊥
no_prefix bytes never outside (inl more) = never more.0 more.1 [] more.2
no_prefix bytes never outside (inr within) = outside within
