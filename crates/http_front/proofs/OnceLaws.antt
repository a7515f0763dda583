-- Bytes have one list of requests.
use Rattle.std.proofs.Common.{◌≡◌, ◌⊎◌, ◌||◌, ℕ, Bool, true, false, List, [], ◌∷◌, ◌++◌, Some, None, length, take, drop, refl, sym, ap, ap₂, ◌∙◌, subst, inl, inr, arith}
use Rattle.std.specs.List.{list_any}
use Rattle.std.proofs.lemmas.Bool.{true≢false}
use Rattle.std.proofs.lemmas.List.{length-map}
use Rattle.std.proofs.Math.Seq.{take-append_seam, drop-append_seam}
use Rattle.httparse.proofs.GrammarLemmas.{request_unique}
use Rattle.httparse.specs.Grammar.{RequestHead}
use Rattle.httparse.specs.Spans.{name_and_value}
use Rattle.http_front.proofs.HeadLaws.{good_body, never_bad}
use Rattle.http_front.specs.Entries.{AreRequests, BeginsWith, Entry, HasBadBody, HasNoEntry, IsRefusedAtHead, IsWhole, ReadsEntry, Refused, entry_of, is_last}
use Rattle.http_front.specs.Heads.{HasRequest, fields_of, length_said, lengths}
use Rattle.http_front.specs.Steps.{IsGoodHead}
use Rattle.http_front.specs.declared.cause.Cause.{Cause}
use Rattle.http_front.specs.declared.cause.Cause.TheVariants as cause

-- ---- a head is refused for one cause

one_fault : (fields : List (List ℕ × List ℕ)) (why why' : Cause) → HasBadBody fields why → HasBadBody fields why' → why ≡ why'
one_fault fields cause.Coding cause.Coding a b = refl
one_fault fields cause.Coding cause.Length a b = absurd (a b.0)
one_fault fields cause.Coding cause.Long a b = absurd (a b.0)
one_fault fields cause.Length cause.Coding a b = absurd (b a.0)
one_fault fields cause.Length cause.Length a b = refl
one_fault fields cause.Length cause.Long a b = let both : None ≡ Some b.1 = sym a.1 ∙ b.2 in cc
one_fault fields cause.Long cause.Coding a b = absurd (b a.0)
one_fault fields cause.Long cause.Length a b = let both : Some a.1 ≡ None = sym a.2 ∙ b.1 in cc
one_fault fields cause.Long cause.Long a b = refl
one_fault fields cause.Head why' a b = absurd a
one_fault fields cause.Route why' a b = absurd a
one_fault fields cause.Body why' a b = absurd a
one_fault fields cause.Text why' a b = absurd a
one_fault fields cause.Query why' a b = absurd a
one_fault fields why cause.Head a b = absurd b
one_fault fields why cause.Route a b = absurd b
one_fault fields why cause.Body a b = absurd b
one_fault fields why cause.Text a b = absurd b
one_fault fields why cause.Query a b = absurd b

one_refusal : (bytes : List ℕ) (why why' : Cause) → IsRefusedAtHead bytes why → IsRefusedAtHead bytes why' → why ≡ why'
one_refusal bytes cause.Head cause.Head a b = refl
one_refusal bytes cause.Head why' a b = absurd (never_bad bytes b.0 b.1 b.2 a)
one_refusal bytes why cause.Head a b = absurd (never_bad bytes a.0 a.1 a.2 b)
one_refusal bytes why why' a b =
    let same = (request_unique bytes a.0 b.0 a.1 b.1 a.2.reads b.2.reads).0 in
    one_fault (fields_of b.0) why why' (subst (λ (h : RequestHead). HasBadBody (fields_of h) why) same a.3) b.3

-- ---- bytes begin with one entry

-- a whole request is not refused at its head
not_cut : (bytes : List ℕ) (head : RequestHead) (body rest : List ℕ) → HasRequest bytes head body rest → (why : Cause) → IsRefusedAtHead bytes why → ⊥
not_cut bytes head body rest whole cause.Head refused = never_bad bytes head (body ++ rest) whole.begins refused
not_cut bytes head body rest whole why refused =
    let same = (request_unique bytes head refused.0 (body ++ rest) refused.1 whole.begins.reads refused.2.reads).0 in
    let few = whole.begins.few in
    let good : IsGoodHead (fields_of head) (length body) = record {
      few = omega (arith, few, length-map head.fields name_and_value);
      plain = whole.plain;
      said = whole.said;
      short = whole.short;
    } in
    good_body (fields_of head) (length body) good why (subst (λ (h : RequestHead). HasBadBody (fields_of h) why) (sym same) refused.3)

-- lists of one length before others are the same where the whole is
same_parts : (a b r q : List ℕ) → length a ≡ length b → a ++ r ≡ b ++ q → (a ≡ b) × (r ≡ q)
same_parts a b r q len is = (
  sym (take-append_seam a r) ∙ ap (take (length a)) is ∙ ap (λ n. take n (b ++ q)) len ∙ take-append_seam b q,
  sym (drop-append_seam a r) ∙ ap (drop (length a)) is ∙ ap (λ n. drop n (b ++ q)) len ∙ drop-append_seam b q,
)

one_whole : (bytes : List ℕ) (entry entry' : Entry) (rest rest' : List ℕ) → IsWhole bytes entry rest → IsWhole bytes entry' rest'
    → (entry ≡ entry') × (rest ≡ rest')
one_whole bytes entry entry' rest rest' a b =
    let same = request_unique bytes a.head b.head (a.body ++ rest) (b.body ++ rest') a.whole.begins.reads b.whole.begins.reads in
    let said : Some (length a.body) ≡ Some (length b.body) =
    sym a.whole.said ∙ ap (λ (h : RequestHead). length_said (lengths (fields_of h))) same.0 ∙ b.whole.said in
    let len : length a.body ≡ length b.body = cc in
    let parts = same_parts a.body b.body rest rest' len same.1 in (
      a.is ∙ ap (λ (h : RequestHead). entry_of h a.body) same.0 ∙ ap (entry_of b.head) parts.0 ∙ sym b.is,
      parts.1,
    )

-- the entry, and what comes after it where it doesn't close
record AreOne (entry entry' : Entry) (rest rest' : List ℕ) : Type 0 where
  same : entry ≡ entry'
  rest_same : is_last entry ≡ false → rest ≡ rest'

one_entry : (bytes : List ℕ) (entry entry' : Entry) (rest rest' : List ℕ) → ReadsEntry bytes entry rest → ReadsEntry bytes entry' rest' → AreOne entry entry' rest rest'
one_entry bytes entry entry' rest rest' reads reads' = go reads reads' where
  go : ReadsEntry bytes entry rest → ReadsEntry bytes entry' rest' → AreOne entry entry' rest rest'
  go (inl a) (inl b) = let one = one_whole bytes entry entry' rest rest' a b in record { same = one.0; rest_same = λ open_. one.1 }
  go (inl a) (inr b) = absurd (not_cut bytes a.head a.body rest a.whole b.why b.refused)
  go (inr a) (inl b) = absurd (not_cut bytes b.head b.body rest' b.whole a.why a.refused)
  go (inr a) (inr b) = record {
    same = a.is ∙ ap (λ (why : Cause). Refused why true) (one_refusal bytes a.why b.why a.refused b.refused) ∙ sym b.is;
    rest_same = λ open_. absurd (true≢false (sym (ap is_last a.is) ∙ open_));
  }

-- ---- bytes have one list of entries

-- no entry is missing
abbrev IsAll : List Entry → List ℕ → Type 0
IsAll entries rest = (list_any is_last entries ≡ true) ⊎ HasNoEntry rest

-- behind an entry that doesn't close
all_behind : (entry : Entry) (entries : List Entry) (rest : List ℕ) → is_last entry ≡ false → IsAll (entry ∷ entries) rest → IsAll entries rest
all_behind entry entries rest open_ (inl any) = inl (sym (ap (λ b. b || list_any is_last entries) open_) ∙ any)
all_behind entry entries rest open_ (inr none) = inr none

begins_as : (bytes : List ℕ) (entries entries' : List Entry) (rest rest' : List ℕ) → BeginsWith bytes entries rest → IsAll entries rest
    → BeginsWith bytes entries' rest' → IsAll entries' rest' → entries ≡ entries'
begins_as bytes [] [] rest rest' a all b all' = refl
begins_as bytes [] (entry' ∷ entries') rest rest' a (inl any) b all' = absurd (true≢false (sym any))
begins_as bytes [] (entry' ∷ entries') rest rest' a (inr none) b all' = absurd (none entry' b.0 (subst (λ (bs : List ℕ). ReadsEntry bs entry' b.0) a b.1))
begins_as bytes (entry ∷ entries) [] rest rest' a all b (inl any) = absurd (true≢false (sym any))
begins_as bytes (entry ∷ entries) [] rest rest' a all b (inr none) = absurd (none entry a.0 (subst (λ (bs : List ℕ). ReadsEntry bs entry a.0) b a.1))
begins_as bytes (entry ∷ entries) (entry' ∷ entries') rest rest' a all b all' =
    let one = one_entry bytes entry entry' a.0 b.0 a.1 b.1 in
    let later = λ (begins : BeginsWith b.0 entries rest) (left : IsAll entries rest) (left' : IsAll entries' rest').
    begins_as b.0 entries entries' rest rest' begins left b.3 left' in
    ap₂ (λ (x : Entry) (xs : List Entry). x ∷ xs) one.same (others one later (is_last entry) refl) where
      others : AreOne entry entry' a.0 b.0 → (BeginsWith b.0 entries rest → IsAll entries rest → IsAll entries' rest' → entries ≡ entries')
          → (last : Bool) → is_last entry ≡ last → entries ≡ entries'
      others one later true last = a.2 last ∙ sym (b.2 (sym (ap is_last one.same) ∙ last))
      others one later false open_ =
          later (subst (λ (bs : List ℕ). BeginsWith bs entries rest) (one.rest_same open_) a.3) (all_behind entry entries rest open_ all)
          (all_behind entry' entries' rest' (sym (ap is_last one.same) ∙ open_) all')

pub one_list : (bytes : List ℕ) (entries entries' : List Entry) → AreRequests bytes entries → AreRequests bytes entries' → entries ≡ entries'
one_list bytes entries entries' a b = begins_as bytes entries entries' a.rest b.rest a.begin a.all b.begin b.all
