-- Searches: expressions over atoms of any kind, which texts one keeps, and what bits that were read tell of a text.
use Rattle.std.specs.Prelude.{◌≡◌, ℕ, Bool, true, false, not, List, [], ◌∷◌}
use Rattle.std.specs.List.{list_all, list_any}
use Rattle.funnel_model.specs.Words.{has_word}

mutual
  -- an atom, all of several entries, some of several entries, or the contrary of an entry
  pub data Search (A : Type 0) : Type 0 where
    atom_of : A → Search A
    all_of : Searches A → Search A
    some_of : Searches A → Search A
    not_of : Search A → Search A

  -- several of these, in order
  pub data Searches (A : Type 0) : Type 0 where
    no_entries : Searches A
    entry : Search A → Searches A → Searches A

-- a test of atoms
module _ {A : Type 0} (test : A → Bool) where
  abbrev mutual
    -- whether the search passes: an atom by the test, all of several if each does, some if one does, a contrary if its entry doesn't
    pub passes : Search A → Bool
    passes (atom_of a) = test a
    passes (all_of entries) = list_all (λ b. b) (each_passes entries)
    passes (some_of entries) = list_any (λ b. b) (each_passes entries)
    passes (not_of e) = not (passes e)

    pub each_passes : Searches A → List Bool
    each_passes no_entries = []
    each_passes (entry e entries) = passes e ∷ each_passes entries

-- whether a text has every word of an atom
abbrev pub has_all : List ℕ → List (List ℕ) → Bool
has_all text words = list_all (has_word text) words

-- whether a search whose atoms are cut into words keeps a text: an atom keeps each text that has all its words
abbrev pub is_kept : Search (List (List ℕ)) → List ℕ → Bool
is_kept search text = passes (has_all text) search

-- atoms that what was read rules out, and atoms that are known by it
module _ {A : Type 0} (ruled_out known : A → Bool) where
  abbrev mutual
    -- what was read leaves open that the search passes: no atom that is ruled out does, and a contrary does where its entry isn't sure
    pub may : Search A → Bool
    may (atom_of a) = not (ruled_out a)
    may (all_of entries) = list_all (λ b. b) (each_may entries)
    may (some_of entries) = list_any (λ b. b) (each_may entries)
    may (not_of e) = not (sure e)

    pub each_may : Searches A → List Bool
    each_may no_entries = []
    each_may (entry e entries) = may e ∷ each_may entries

    -- what was read tells that the search passes: each atom that is known does, and a contrary does where its entry may not
    pub sure : Search A → Bool
    sure (atom_of a) = known a
    sure (all_of entries) = list_all (λ b. b) (each_sure entries)
    sure (some_of entries) = list_any (λ b. b) (each_sure entries)
    sure (not_of e) = not (may e)

    pub each_sure : Searches A → List Bool
    each_sure no_entries = []
    each_sure (entry e entries) = sure e ∷ each_sure entries

-- atoms of which as much was read as tells whether they are ruled out
module _ {A : Type 0} (IsToldOf : A → Type 0) (ruled_out known : A → Bool) where
  abbrev mutual
    -- as much was read of the search as counts: of each entry, but of an "all of" only up to the first that may not
    pub IsToldWhole : Search A → Type 0
    IsToldWhole (atom_of a) = IsToldOf a
    IsToldWhole (all_of entries) = AreToldWhileTheyMay entries
    IsToldWhole (some_of entries) = AreEachTold entries
    IsToldWhole (not_of e) = IsToldWhole e

    pub AreToldWhileTheyMay : Searches A → Type 0
    AreToldWhileTheyMay no_entries = Unit {0}
    AreToldWhileTheyMay (entry e entries) = IsToldWhole e × (may ruled_out known e ≡ true → AreToldWhileTheyMay entries)

    pub AreEachTold : Searches A → Type 0
    AreEachTold no_entries = Unit {0}
    AreEachTold (entry e entries) = IsToldWhole e × AreEachTold entries

-- a relation between atoms
module _ {A B : Type 0} (Fits : A → B → Type 0) where
  abbrev mutual
    -- the two have one form, and their atoms fit place by place
    pub AreAlike : Search A → Search B → Type 0
    AreAlike (atom_of a) (atom_of b) = Fits a b
    AreAlike (all_of es) (all_of fs) = AreEachAlike es fs
    AreAlike (some_of es) (some_of fs) = AreEachAlike es fs
    AreAlike (not_of e) (not_of f) = AreAlike e f
    AreAlike _ _ = ⊥

    pub AreEachAlike : Searches A → Searches B → Type 0
    AreEachAlike no_entries no_entries = Unit {0}
    AreEachAlike (entry e es) (entry f fs) = AreAlike e f × AreEachAlike es fs
    AreEachAlike _ _ = ⊥

-- what was read of an atom: whether it is ruled out, and whether it is known
pub record Told : Type 0 where
  pub ruled_out : Bool
  pub known : Bool

-- what was read of an atom with these words is right of a text: one that has them all isn't ruled out, and one that is known has them all
pub record IsRightOf (text : List ℕ) (words : List (List ℕ)) (told : Told) : Type 0 where
  pub open_to : has_all text words ≡ true → told.ruled_out ≡ false
  pub has : told.known ≡ true → has_all text words ≡ true

-- The law of searches: where what was read of each atom is right of a text, a search that keeps the text may, and one that is sure
-- keeps it.
abbrev pub ReadSearchesAreRight : Type 0
ReadSearchesAreRight =
    (text : List ℕ) (search : Search (List (List ℕ))) (told : Search Told) → AreAlike (IsRightOf text) search told
    → (is_kept search text ≡ true → may (λ t. t.ruled_out) (λ t. t.known) told ≡ true)
    × (sure (λ t. t.ruled_out) (λ t. t.known) told ≡ true → is_kept search text ≡ true)
