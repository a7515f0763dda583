-- Bytes cut into lines: one piece after another, and back together.
use Rattle.std.proofs.Common.{◌≡◌, ◌≢◌, ℕ, List, [], ◌∷◌, ◌++◌, refl, sym, ap, ◌∙◌, subst, inl, inr, append_assoc, append-nil}
use Rattle.std.specs.Prelude.{All}
use Rattle.std.specs.List.{fold, AllByRecursion}
use Rattle.std.proofs.lemmas.Bool.Decides.{eqb_tells}
use Rattle.std.proofs.lemmas.List.Elements.{All-from_recursion, recursion_from_All}
use Rattle.std.proofs.lemmas.List.Concat.{flat_map-append}
use Rattle.std.proofs.lemmas.List.Sums.{fold-append}
use Rattle.funnel_io.specs.Lines.{Cut, cut_byte, cut, whole_lines, rest_of, HasNoNewline, with_newlines}

-- `HasNoNewline` by recursion
abbrev pub NoNewline : List ℕ → Type 0
NoNewline = AllByRecursion (λ (byte : ℕ). byte ≢ 10)

-- the cut of some bytes goes on with the bytes after them
pub cut-append : (xs ys : List ℕ) → cut (xs ++ ys) ≡ fold cut_byte (cut xs) ys
cut-append xs ys = fold-append cut_byte (record { whole = []; rest = [] }) xs ys

-- a newline ends the line at hand
pub cut_byte-newline : (now : Cut) (byte : ℕ) → byte ≡ 10
    → cut_byte now byte ≡ record { whole = now.whole ++ now.rest ∷ []; rest = [] }
cut_byte-newline now byte same =
    elim (eqb_tells byte 10) [ inl newline ↦ rw newline.0 | inr other_byte ↦ absurd (other_byte.1 same) ]

-- a byte that is no newline goes to the end of the line at hand
pub cut_byte-other : (now : Cut) (byte : ℕ) → byte ≢ 10
    → cut_byte now byte ≡ record { whole = now.whole; rest = now.rest ++ byte ∷ [] }
cut_byte-other now byte other =
    elim (eqb_tells byte 10) [ inl newline ↦ absurd (other newline.1) | inr other_byte ↦ rw other_byte.0 ]

-- bytes without newline go to the end of the line at hand
pub cut-piece : (now : Cut) (piece : List ℕ) → NoNewline piece
    → fold cut_byte now piece ≡ record { whole = now.whole; rest = now.rest ++ piece }
cut-piece now [] none =
    let back : List ℕ → Cut = λ rest. record { whole = now.whole; rest = rest } in
    ap back (sym (append-nil now.rest))
cut-piece now (byte ∷ piece) none =
    let go : Cut → Cut = λ c. fold cut_byte c piece in
    let back : List ℕ → Cut = λ rest. record { whole = now.whole; rest = rest } in
    ap go (cut_byte-other now byte none.0)
    ∙ (cut-piece (record { whole = now.whole; rest = now.rest ++ byte ∷ [] }) piece none.1
    ∙ ap back (append_assoc now.rest (byte ∷ []) piece))

-- the end of a line and its newline make the line at hand a whole one
pub cut-line : (now : Cut) (piece : List ℕ) → NoNewline piece
    → fold cut_byte now (piece ++ 10 ∷ []) ≡ record { whole = now.whole ++ (now.rest ++ piece) ∷ []; rest = [] }
cut-line now piece none =
    let end : Cut → Cut = λ c. cut_byte c 10 in
    fold-append cut_byte now piece (10 ∷ []) ∙ ap end (cut-piece now piece none)

-- a whole line after whole lines
pub cut-append-line : (bytes line : List ℕ) → rest_of bytes ≡ [] → NoNewline line
    → cut (bytes ++ (line ++ 10 ∷ [])) ≡ record { whole = whole_lines bytes ++ line ∷ []; rest = [] }
cut-append-line bytes line at_start none =
    let back : List ℕ → Cut = λ rest. record { whole = whole_lines bytes ++ (rest ++ line) ∷ []; rest = [] } in
    cut-append bytes (line ++ 10 ∷ []) ∙ (cut-line (cut bytes) line none ∙ ap back at_start)

-- the bytes that a cut stands for
abbrev joined : Cut → List ℕ
joined now = with_newlines now.whole ++ now.rest

joined-newline : (whole : List (List ℕ)) (rest : List ℕ)
    → with_newlines (whole ++ rest ∷ []) ++ [] ≡ (with_newlines whole ++ rest) ++ 10 ∷ []
joined-newline whole rest =
    append-nil (with_newlines (whole ++ rest ∷ []))
    ∙ (flat_map-append (λ line. line ++ 10 ∷ []) whole (rest ∷ [])
    ∙ (ap (λ last. with_newlines whole ++ last) (append-nil (rest ++ 10 ∷ []))
    ∙ sym (append_assoc (with_newlines whole) rest (10 ∷ []))))

joined-cut_byte : (now : Cut) (byte : ℕ) → joined (cut_byte now byte) ≡ joined now ++ byte ∷ []
joined-cut_byte now byte =
    elim (eqb_tells byte 10) [
      | inl newline ↦ ap joined (cut_byte-newline now byte newline.1)
          ∙ (joined-newline now.whole now.rest ∙ ap (λ b. joined now ++ b ∷ []) (sym newline.1))
      | inr other_byte ↦ ap joined (cut_byte-other now byte other_byte.1)
          ∙ sym (append_assoc (with_newlines now.whole) now.rest (byte ∷ []))
    ]

joined-fold : (now : Cut) (bytes : List ℕ) → joined (fold cut_byte now bytes) ≡ joined now ++ bytes
joined-fold now [] = sym (append-nil (joined now))
joined-fold now (byte ∷ bytes) =
    joined-fold (cut_byte now byte) bytes
    ∙ (ap (λ xs. xs ++ bytes) (joined-cut_byte now byte) ∙ append_assoc (joined now) (byte ∷ []) bytes)

-- the whole lines, each with its newline, and then the rest, are the bytes
pub lines_joined : (bytes : List ℕ) → with_newlines (whole_lines bytes) ++ rest_of bytes ≡ bytes
lines_joined bytes = joined-fold (record { whole = []; rest = [] }) bytes

-- no line has a newline
record IsClean (now : Cut) : Type 0 where
  pub whole : AllByRecursion NoNewline now.whole
  pub rest : NoNewline now.rest

all_push : {X : Type 0} (P : X → Type 0) (xs : List X) (x : X) → AllByRecursion P xs → P x → AllByRecursion P (xs ++ x ∷ [])
all_push P [] x all one = (one, tt)
all_push P (y ∷ xs) x all one = (all.0, all_push P xs x all.1 one)

clean_byte : (now : Cut) (byte : ℕ) → IsClean now → IsClean (cut_byte now byte)
clean_byte now byte clean =
    elim (eqb_tells byte 10) [
      | inl newline ↦ subst IsClean (sym (cut_byte-newline now byte newline.1))
          (record { whole = all_push NoNewline now.whole now.rest clean.whole clean.rest; rest = tt })
      | inr other_byte ↦ subst IsClean (sym (cut_byte-other now byte other_byte.1))
          (record { whole = clean.whole; rest = all_push (λ (b : ℕ). b ≢ 10) now.rest byte clean.rest other_byte.1 })
    ]

clean_fold : (now : Cut) (bytes : List ℕ) → IsClean now → IsClean (fold cut_byte now bytes)
clean_fold now [] clean = clean
clean_fold now (byte ∷ bytes) clean = clean_fold (cut_byte now byte) bytes (clean_byte now byte clean)

clean_cut : (bytes : List ℕ) → IsClean (cut bytes)
clean_cut bytes = clean_fold (record { whole = []; rest = [] }) bytes (record { whole = tt; rest = tt })

-- no newline is in the rest
pub rest_has_none : (bytes : List ℕ) → NoNewline (rest_of bytes)
rest_has_none bytes = (clean_cut bytes).rest

-- no newline is in a whole line
pub whole_have_none : (bytes : List ℕ) → AllByRecursion NoNewline (whole_lines bytes)
whole_have_none bytes = (clean_cut bytes).whole

-- lines before those of a cut
abbrev after : List (List ℕ) → Cut → Cut
after before now = record { whole = before ++ now.whole; rest = now.rest }

cut_byte-after : (before : List (List ℕ)) (now : Cut) (byte : ℕ)
    → cut_byte (after before now) byte ≡ after before (cut_byte now byte)
cut_byte-after before now byte =
    let back : List (List ℕ) → Cut = λ whole. record { whole = whole; rest = [] } in
    elim (eqb_tells byte 10) [
      | inl newline ↦ cut_byte-newline (after before now) byte newline.1
          ∙ (ap back (append_assoc before now.whole (now.rest ∷ []))
          ∙ ap (after before) (sym (cut_byte-newline now byte newline.1)))
      | inr other_byte ↦ cut_byte-other (after before now) byte other_byte.1
          ∙ ap (after before) (sym (cut_byte-other now byte other_byte.1))
    ]

fold-after : (before : List (List ℕ)) (now : Cut) (bytes : List ℕ)
    → fold cut_byte (after before now) bytes ≡ after before (fold cut_byte now bytes)
fold-after before now [] = refl
fold-after before now (byte ∷ bytes) =
    let go : Cut → Cut = λ c. fold cut_byte c bytes in
    ap go (cut_byte-after before now byte) ∙ fold-after before (cut_byte now byte) bytes

-- bytes without newline are all rest
pub cut-no_newline : (bytes : List ℕ) → NoNewline bytes → cut bytes ≡ record { whole = []; rest = bytes }
cut-no_newline bytes none = cut-piece (record { whole = []; rest = [] }) bytes none

-- the cut of some bytes and more is that of the rest and more, after the whole lines
pub cut_on : (xs ys : List ℕ)
    → cut (xs ++ ys) ≡ record { whole = whole_lines xs ++ whole_lines (rest_of xs ++ ys); rest = rest_of (rest_of xs ++ ys) }
cut_on xs ys =
    let start : Cut = record { whole = []; rest = rest_of xs } in
    let go : Cut → Cut = λ c. fold cut_byte c ys in
    let back : List (List ℕ) → Cut = λ whole. fold cut_byte (record { whole = whole; rest = rest_of xs }) ys in
    cut-append xs ys
    ∙ (ap back (sym (append-nil (whole_lines xs)))
    ∙ (fold-after (whole_lines xs) start ys
    ∙ ap (after (whole_lines xs)) (sym (cut-append (rest_of xs) ys ∙ ap go (cut-no_newline (rest_of xs) (rest_has_none xs))))))

lines_after : (before whole : List (List ℕ)) (rest : List ℕ) → AllByRecursion NoNewline whole → NoNewline rest
    → fold cut_byte (record { whole = before; rest = [] }) (with_newlines whole ++ rest)
    ≡ record { whole = before ++ whole; rest = rest }
lines_after before [] rest lines_clean rest_clean =
    let back : List (List ℕ) → Cut = λ whole. record { whole = whole; rest = rest } in
    cut-piece (record { whole = before; rest = [] }) rest rest_clean ∙ ap back (sym (append-nil before))
lines_after before (line ∷ whole) rest lines_clean rest_clean =
    let start : Cut = record { whole = before; rest = [] } in
    let over : List ℕ → Cut = λ xs. fold cut_byte start xs in
    let go : Cut → Cut = λ c. fold cut_byte c (with_newlines whole ++ rest) in
    let back : List (List ℕ) → Cut = λ all. record { whole = all; rest = rest } in
    ap over (append_assoc (line ++ 10 ∷ []) (with_newlines whole) rest)
    ∙ (fold-append cut_byte start (line ++ 10 ∷ []) (with_newlines whole ++ rest)
    ∙ (ap go (cut-line start line lines_clean.0)
    ∙ (lines_after (before ++ line ∷ []) whole rest lines_clean.1 rest_clean
    ∙ ap back (append_assoc before (line ∷ []) whole))))

-- lines without newline, each with a newline after it, and a rest without newline are cut into just these
pub cut-joined : (whole : List (List ℕ)) (rest : List ℕ) → AllByRecursion NoNewline whole → NoNewline rest
    → cut (with_newlines whole ++ rest) ≡ record { whole = whole; rest = rest }
cut-joined whole rest lines_clean rest_clean = lines_after [] whole rest lines_clean rest_clean

-- `HasNoNewline` from its form by recursion
pub HasNoNewline-from_recursion : (bytes : List ℕ) → NoNewline bytes → HasNoNewline bytes
HasNoNewline-from_recursion bytes none = All-from_recursion (λ (byte : ℕ). byte ≢ 10) bytes none

-- and back
pub recursion_from_HasNoNewline : (bytes : List ℕ) → HasNoNewline bytes → NoNewline bytes
recursion_from_HasNoNewline bytes none = recursion_from_All (λ (byte : ℕ). byte ≢ 10) bytes none

each_free : (whole : List (List ℕ)) → AllByRecursion NoNewline whole → AllByRecursion HasNoNewline whole
each_free [] all = tt
each_free (line ∷ whole) all = (HasNoNewline-from_recursion line all.0, each_free whole all.1)

each_clean : (whole : List (List ℕ)) → AllByRecursion HasNoNewline whole → AllByRecursion NoNewline whole
each_clean [] all = tt
each_clean (line ∷ whole) all = (recursion_from_HasNoNewline line all.0, each_clean whole all.1)

-- no rest has a newline
pub rest_is_free : (bytes : List ℕ) → HasNoNewline (rest_of bytes)
rest_is_free bytes = HasNoNewline-from_recursion (rest_of bytes) (rest_has_none bytes)

-- no whole line has a newline
pub lines_are_free : (bytes : List ℕ) → All HasNoNewline (whole_lines bytes)
lines_are_free bytes =
    All-from_recursion HasNoNewline (whole_lines bytes) (each_free (whole_lines bytes) (whole_have_none bytes))

-- lines and a rest without newline are the cut of what they are joined to
pub only_cut : (whole : List (List ℕ)) (rest : List ℕ) → All HasNoNewline whole → HasNoNewline rest
    → cut (with_newlines whole ++ rest) ≡ record { whole = whole; rest = rest }
only_cut whole rest lines_free rest_free =
    cut-joined whole rest (each_clean whole (recursion_from_All HasNoNewline whole lines_free))
    (recursion_from_HasNoNewline rest rest_free)
