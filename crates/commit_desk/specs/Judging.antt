-- What a find keeps of its candidates by a test of their texts. It is told by the history before the find, which later events don't change.
use Rattle.std.specs.Prelude.{◌≡◌, ℕ, Bool, true, false, List, [], ◌∷◌, map, filter, Option, Some, None, Contains}
use Rattle.std.specs.List.{cons_option}
use Rattle.funnel_model.specs.declared.event.Event.{Event}
use Rattle.funnel_model.specs.History.{Document, live}
use Rattle.funnel_model.specs.Slices.{IsLiveOn}

-- the numbers of the live documents whose text passes the test, in the order of their adds
abbrev pub answer_where : List Event → (List ℕ → Bool) → List ℕ
answer_where history test = map (λ d. d.id) (filter (λ d. test d.text) (live history))

-- what a candidate gives: the place and the number of the document that was live in the column before the find and passes the test, where
-- there was one
abbrev pub GivesWhere : List Event → (List ℕ → Bool) → ℕ × ℕ → Option (ℕ × ℕ) → Type 0
GivesWhere earlier test candidate (Some found) =
    (document : Document) × (since : ℕ) × IsLiveOn earlier candidate.0 candidate.1 document since × (test document.text ≡ true)
    × (found ≡ (document.place, document.id))
GivesWhere earlier test candidate None =
    (document : Document) (since : ℕ) → IsLiveOn earlier candidate.0 candidate.1 document since → test document.text ≡ false

-- what several candidates give, in their order
abbrev pub AreGivenWhere : List Event → (List ℕ → Bool) → List (ℕ × ℕ) → List (ℕ × ℕ) → Type 0
AreGivenWhere earlier test [] found = found ≡ []
AreGivenWhere earlier test (candidate ∷ later) found =
    (given : Option (ℕ × ℕ)) × (rest : List (ℕ × ℕ)) × GivesWhere earlier test candidate given × AreGivenWhere earlier test later rest
    × (found ≡ cons_option given rest)

-- each document that was live in a column of one of these slices and passes the test stands in the column of a candidate
abbrev pub GiveAllIn : List Event → (List ℕ → Bool) → List ℕ → List (ℕ × ℕ) → Type 0
GiveAllIn earlier test slices candidates =
    (slice column : ℕ) (document : Document) (since : ℕ) → Contains slices slice → IsLiveOn earlier slice column document since
    → test document.text ≡ true → Contains candidates (slice, column)
