-- A place in a list of pieces, as it moves over empty rests of pieces and over bytes that are read.
use Rattle.std.proofs.Common.{◌≡◌, ℕ, ◌+◌, ◌<◌, ◌≤◌, List, [], ◌∷◌, ◌++◌, length, take, drop, refl, sym, ap, ◌∙◌, subst, inl, inr, arith, append_assoc, append-nil, add-one, drop-cons, length-drop}
use Rattle.std.specs.List.{concat}
use Rattle.std.proofs.Math.Seq.{take-add, take-nil, take_all, drop-drop, drop-nil}
use Rattle.std.proofs.Math.ListN.{drop_of_length-le}
use Rattle.std.proofs.lemmas.List.{take-append-drop, get_or_past, take_more}
use Rattle.std.proofs.lemmas.List.Folds.{concat-append}
use Rattle.std.proofs.lemmas.Bool.{cases_lt}
use Rattle.funnel_io.specs.Memory.{unread, first_piece, drop_front}
use Rattle.funnel_io.specs.Places.{piece_at, pieces_from, bytes_before, IsPlace}

pub drop_front-zero : (pieces : List (List ℕ)) → drop_front 0 pieces ≡ pieces
drop_front-zero [] = refl
drop_front-zero (piece ∷ pieces) = refl

pub drop_front-drop_front : (n m : ℕ) (pieces : List (List ℕ)) → drop_front (n + m) pieces ≡ drop_front m (drop_front n pieces)
drop_front-drop_front n m [] = refl
drop_front-drop_front n m (piece ∷ pieces) =
    ap (λ first. first ∷ pieces) (sym (drop-drop m n piece))

pub concat-unread : (pieces : List (List ℕ)) → concat (unread pieces) ≡ concat pieces
concat-unread [] = refl
concat-unread ([] ∷ pieces) = concat-unread pieces
concat-unread ((byte ∷ bytes) ∷ pieces) = refl

-- what the pieces hold is the front of the first, and then the rest
pub concat-drop_front : (n : ℕ) (pieces : List (List ℕ))
    → concat pieces ≡ take n (first_piece pieces) ++ concat (drop_front n pieces)
concat-drop_front n [] = sym (append-nil (take n (first_piece [])) ∙ take-nil n)
concat-drop_front n (piece ∷ pieces) =
    ap (λ first. first ++ concat pieces) (sym (take-append-drop n piece))
    ∙ append_assoc (take n piece) (drop n piece) (concat pieces)

-- the pieces from a number on are the one at it and those after it
pieces_at : (pieces : List (List ℕ)) (at : ℕ) → at < length pieces
    → drop at pieces ≡ piece_at pieces at ∷ drop (at + 1) pieces
pieces_at pieces at within = rw (add-one, drop-cons pieces at []) refl

-- over a piece that is used up
pub unread-next : (pieces : List (List ℕ)) (at from : ℕ) → at < length pieces → length (piece_at pieces at) ≤ from
    → unread (pieces_from pieces (at + 1) 0) ≡ unread (pieces_from pieces at from)
unread-next pieces at from within used =
    ap unread (drop_front-zero (drop (at + 1) pieces))
    ∙ (sym (ap (λ first. unread (first ∷ drop (at + 1) pieces)) (drop_of_length-le (piece_at pieces at) used))
    ∙ sym (ap (λ ps. unread (drop_front from ps)) (pieces_at pieces at within)))

-- a piece with bytes left is not passed over
unread-nonempty : (bytes : List ℕ) (pieces : List (List ℕ)) → 0 < length bytes → unread (bytes ∷ pieces) ≡ bytes ∷ pieces
unread-nonempty [] pieces some = absurd (omega arith)
unread-nonempty (byte ∷ bytes) pieces some = refl

-- at a place with bytes left in its piece, or past the last piece, nothing is passed over
pub unread-here : (pieces : List (List ℕ)) (at from : ℕ) → (at < length pieces → from < length (piece_at pieces at))
    → unread (pieces_from pieces at from) ≡ pieces_from pieces at from
unread-here pieces at from bytes_left =
    elim (cases_lt at (length pieces)) [
      | inl within ↦
          let left : 0 < length (drop from (piece_at pieces at)) = omega (arith, length-drop from (piece_at pieces at), bytes_left within) in
          let P : List (List ℕ) → Type 0 = λ ps. unread (drop_front from ps) ≡ drop_front from ps in
          subst P (sym (pieces_at pieces at within))
          (unread-nonempty (drop from (piece_at pieces at)) (drop (at + 1) pieces) left)
      | inr past ↦
          let P : List (List ℕ) → Type 0 = λ ps. unread (drop_front from ps) ≡ drop_front from ps in
          subst P (sym (drop_of_length-le pieces past)) refl
    ]

-- the first piece after a place is what is left of the piece at it
pub first_piece-from : (pieces : List (List ℕ)) (at from : ℕ)
    → first_piece (pieces_from pieces at from) ≡ drop from (piece_at pieces at)
first_piece-from pieces at from =
    elim (cases_lt at (length pieces)) [
      | inl within ↦ ap (λ ps. first_piece (drop_front from ps)) (pieces_at pieces at within)
      | inr past ↦
          ap (λ ps. first_piece (drop_front from ps)) (drop_of_length-le pieces past)
          ∙ (sym (drop-nil from) ∙ ap (drop from) (sym (get_or_past pieces at [] past)))
    ]

-- the bytes before the next piece are those before a place at the end of this one
pub bytes_before-next : (pieces : List (List ℕ)) (at from : ℕ) → at < length pieces → length (piece_at pieces at) ≤ from
    → bytes_before pieces (at + 1) 0 ≡ bytes_before pieces at from
bytes_before-next pieces at from within used =
    append-nil (concat (take (at + 1) pieces))
    ∙ (ap concat (take_more pieces at [] within)
    ∙ (concat-append (take at pieces) (piece_at pieces at ∷ [])
    ∙ ap (λ last. concat (take at pieces) ++ last)
    (append-nil (piece_at pieces at) ∙ sym (take_all from (piece_at pieces at) used))))

-- the bytes before a place further on in the piece
pub bytes_before-on : (pieces : List (List ℕ)) (at from n : ℕ)
    → bytes_before pieces at (from + n) ≡ bytes_before pieces at from ++ take n (drop from (piece_at pieces at))
bytes_before-on pieces at from n =
    ap (λ last. concat (take at pieces) ++ last) (take-add from n (piece_at pieces at))
    ∙ sym (append_assoc (concat (take at pieces)) (take from (piece_at pieces at)) (take n (drop from (piece_at pieces at))))

-- a place that lies where another does, with no pieces but empty ones between them
pub record IsSamePlace (pieces : List (List ℕ)) (at_first from_first at from : ℕ) : Type 0 where
  pub place : IsPlace pieces at from
  pub unread_is : unread (pieces_from pieces at from) ≡ unread (pieces_from pieces at_first from_first)
  pub before_is : bytes_before pieces at from ≡ bytes_before pieces at_first from_first

pub IsSamePlace-start : (pieces : List (List ℕ)) (at from : ℕ) → IsPlace pieces at from → IsSamePlace pieces at from at from
IsSamePlace-start pieces at from place = record { place = place; unread_is = refl; before_is = refl }

pub IsSamePlace-next : (pieces : List (List ℕ)) (at_first from_first at from : ℕ)
    → IsSamePlace pieces at_first from_first at from → at < length pieces → length (piece_at pieces at) ≤ from
    → IsSamePlace pieces at_first from_first (at + 1) 0
IsSamePlace-next pieces at_first from_first at from same within used = record {
  place = record { piece = omega arith; byte = omega arith };
  unread_is = unread-next pieces at from within used ∙ same.unread_is;
  before_is = bytes_before-next pieces at from within used ∙ same.before_is;
}

-- what the pieces hold, once so many bytes of the next one are read
pub concat-read : (n : ℕ) (pieces : List (List ℕ))
    → concat pieces ≡ take n (first_piece (unread pieces)) ++ concat (drop_front n (unread pieces))
concat-read n pieces = sym (concat-unread pieces) ∙ concat-drop_front n (unread pieces)

-- pieces that are all empty hold nothing
pub concat-none : (pieces : List (List ℕ)) → unread pieces ≡ [] → concat pieces ≡ []
concat-none pieces none = sym (concat-unread pieces) ∙ ap concat none

-- the bytes read at the next place and what is left after them are what was left
pub concat-read_at : (old pieces : List (List ℕ)) (at from n : ℕ) (bytes : List ℕ)
    → pieces_from pieces at from ≡ unread old → bytes ≡ take n (drop from (piece_at pieces at))
    → concat old ≡ bytes ++ concat (pieces_from pieces at (from + n))
concat-read_at old pieces at from n bytes next_is read_is =
    concat-read n old
    ∙ (ap (λ ps. take n (first_piece ps) ++ concat (drop_front n ps)) (sym next_is)
    ∙ (ap (λ first. take n first ++ concat (drop_front n (pieces_from pieces at from))) (first_piece-from pieces at from)
    ∙ (ap (λ read. read ++ concat (drop_front n (pieces_from pieces at from))) (sym read_is)
    ∙ ap (λ ps. bytes ++ concat ps) (sym (drop_front-drop_front from n (drop at pieces))))))

-- the bytes taken after a read at the next place are those before and the bytes read
pub taken-read_at : (before : List ℕ) (pieces : List (List ℕ)) (at from n : ℕ) (bytes : List ℕ)
    → bytes_before pieces at from ≡ before → bytes ≡ take n (drop from (piece_at pieces at))
    → bytes_before pieces at (from + n) ≡ before ++ bytes
taken-read_at before pieces at from n bytes before_is read_is =
    bytes_before-on pieces at from n
    ∙ (ap (λ xs. xs ++ take n (drop from (piece_at pieces at))) before_is
    ∙ ap (λ xs. before ++ xs) (sym read_is))

-- past the last piece nothing is left
pub none-past : (pieces : List (List ℕ)) (at from : ℕ) → length pieces ≤ at → pieces_from pieces at from ≡ []
none-past pieces at from past = ap (drop_front from) (drop_of_length-le pieces past)
