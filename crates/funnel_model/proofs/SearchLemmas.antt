-- What was read of a search, place by place.
use Rattle.std.proofs.Common.{◌≡◌, ◌&&◌, ◌||◌, Bool, true, false, refl, sym, ap, ◌∙◌}
use Rattle.std.proofs.lemmas.Bool.{false≢true}
use Rattle.std.specs.List.{list_all, list_any}
use Rattle.std.specs.Prelude.{not}
use Rattle.funnel_model.specs.Searches.{Search, Searches, atom_of, all_of, some_of, not_of, no_entries, entry, passes, each_passes, may, each_may, sure, each_sure, AreAlike, AreEachAlike, IsRightOf, ReadSearchesAreRight, has_all}

-- a test is no stronger than another
abbrev pub Implies : Bool → Bool → Type 0
Implies a b = a ≡ true → b ≡ true

pub implies-and : (a b c d : Bool) → Implies a b → Implies c d → Implies (a && c) (b && d)
implies-and true b c d first second both = ap (λ (x : Bool). x && d) (first refl) ∙ second both
implies-and false b c d first second both = absurd (false≢true both)

pub implies-or : (a b c d : Bool) → Implies a b → Implies c d → Implies (a || c) (b || d)
implies-or true b c d first second one = ap (λ (x : Bool). x || d) (first refl)
implies-or false true c d first second one = refl
implies-or false false c d first second one = second one

pub implies-not : (a b : Bool) → Implies a b → Implies (not b) (not a)
implies-not true b first is = absurd (false≢true (sym (ap not (first refl)) ∙ is))
implies-not false b first is = refl

module _ {A B : Type 0} (Fits : A → B → Type 0) (test : A → Bool) (ruled_out known : B → Bool)
    (open' : (a : A) (b : B) → Fits a b → test a ≡ true → ruled_out b ≡ false) (told : (a : A) (b : B) → Fits a b → known b ≡ true → test a ≡ true) where
  mutual
    pub search-may : (search : Search A) (read : Search B) → AreAlike Fits search read → Implies (passes test search) (may ruled_out known read)
    search-may (atom_of a) (atom_of b) fits = λ passed. ap not (open' a b fits passed)
    search-may (all_of es) (all_of fs) alike = all-may es fs alike
    search-may (some_of es) (some_of fs) alike = some-may es fs alike
    search-may (not_of e) (not_of f) alike = implies-not (sure ruled_out known f) (passes test e) (search-sure e f alike)
    search-may _ _ alike = absurd alike

    pub search-sure : (search : Search A) (read : Search B) → AreAlike Fits search read → Implies (sure ruled_out known read) (passes test search)
    search-sure (atom_of a) (atom_of b) fits = told a b fits
    search-sure (all_of es) (all_of fs) alike = all-sure es fs alike
    search-sure (some_of es) (some_of fs) alike = some-sure es fs alike
    search-sure (not_of e) (not_of f) alike = implies-not (passes test e) (may ruled_out known f) (search-may e f alike)
    search-sure _ _ alike = absurd alike

    all-may : (es : Searches A) (fs : Searches B) → AreEachAlike Fits es fs →
        Implies (list_all (λ b. b) (each_passes test es)) (list_all (λ b. b) (each_may ruled_out known fs))
    all-may no_entries no_entries alike = λ passed. refl
    all-may (entry e es) (entry f fs) alike =
        implies-and (passes test e) (may ruled_out known f) _ _ (search-may e f alike.0) (all-may es fs alike.1)
    all-may _ _ alike = absurd alike

    some-may : (es : Searches A) (fs : Searches B) → AreEachAlike Fits es fs →
        Implies (list_any (λ b. b) (each_passes test es)) (list_any (λ b. b) (each_may ruled_out known fs))
    some-may no_entries no_entries alike = λ passed. passed
    some-may (entry e es) (entry f fs) alike =
        implies-or (passes test e) (may ruled_out known f) _ _ (search-may e f alike.0) (some-may es fs alike.1)
    some-may _ _ alike = absurd alike

    all-sure : (es : Searches A) (fs : Searches B) → AreEachAlike Fits es fs →
        Implies (list_all (λ b. b) (each_sure ruled_out known fs)) (list_all (λ b. b) (each_passes test es))
    all-sure no_entries no_entries alike = λ is. refl
    all-sure (entry e es) (entry f fs) alike =
        implies-and (sure ruled_out known f) (passes test e) _ _ (search-sure e f alike.0) (all-sure es fs alike.1)
    all-sure _ _ alike = absurd alike

    some-sure : (es : Searches A) (fs : Searches B) → AreEachAlike Fits es fs →
        Implies (list_any (λ b. b) (each_sure ruled_out known fs)) (list_any (λ b. b) (each_passes test es))
    some-sure no_entries no_entries alike = λ is. is
    some-sure (entry e es) (entry f fs) alike =
        implies-or (sure ruled_out known f) (passes test e) _ _ (search-sure e f alike.0) (some-sure es fs alike.1)
    some-sure _ _ alike = absurd alike

-- atoms that fit another way
module _ {A B : Type 0} (Fits Others : A → B → Type 0) (more : (a : A) (b : B) → Fits a b → Others a b) where
  mutual
    pub alike-weaker : (search : Search A) (read : Search B) → AreAlike Fits search read → AreAlike Others search read
    alike-weaker (atom_of a) (atom_of b) alike = more a b alike
    alike-weaker (all_of es) (all_of fs) alike = each-weaker es fs alike
    alike-weaker (some_of es) (some_of fs) alike = each-weaker es fs alike
    alike-weaker (not_of e) (not_of f) alike = alike-weaker e f alike
    alike-weaker _ _ alike = absurd alike

    pub each-weaker : (es : Searches A) (fs : Searches B) → AreEachAlike Fits es fs → AreEachAlike Others es fs
    each-weaker no_entries no_entries alike = tt
    each-weaker (entry e es) (entry f fs) alike = (alike-weaker e f alike.0, each-weaker es fs alike.1)
    each-weaker _ _ alike = absurd alike

-- searches that are alike to a third through a second
module _ {A B C : Type 0} (First : A → B → Type 0) (Second : B → C → Type 0) (Both : A → C → Type 0)
    (join : (a : A) (b : B) (c : C) → First a b → Second b c → Both a c) where
  mutual
    pub alike-through : (s : Search A) (t : Search B) (u : Search C) → AreAlike First s t → AreAlike Second t u → AreAlike Both s u
    alike-through (atom_of a) (atom_of b) (atom_of c) first second = join a b c first second
    alike-through (all_of es) (all_of fs) (all_of gs) first second = each-through es fs gs first second
    alike-through (some_of es) (some_of fs) (some_of gs) first second = each-through es fs gs first second
    alike-through (not_of e) (not_of f) (not_of g) first second = alike-through e f g first second
    alike-through (atom_of a) (atom_of b) _ first second = absurd second
    alike-through (all_of es) (all_of fs) _ first second = absurd second
    alike-through (some_of es) (some_of fs) _ first second = absurd second
    alike-through (not_of e) (not_of f) _ first second = absurd second
    alike-through _ _ _ first second = absurd first

    pub each-through : (es : Searches A) (fs : Searches B) (gs : Searches C) → AreEachAlike First es fs → AreEachAlike Second fs gs → AreEachAlike Both es gs
    each-through no_entries no_entries no_entries first second = tt
    each-through (entry e es) (entry f fs) (entry g gs) first second = (alike-through e f g first.0 second.0, each-through es fs gs first.1 second.1)
    each-through no_entries no_entries (entry g gs) first second = absurd second
    each-through (entry e es) (entry f fs) no_entries first second = absurd second
    each-through _ _ _ first second = absurd first

pub told-right : ReadSearchesAreRight
told-right text search told alike =
    let right = search-may (IsRightOf text) (has_all text) (λ t. t.ruled_out) (λ t. t.known) (λ a b is. is.open_to) (λ a b is. is.has) search told alike in
    let is = search-sure (IsRightOf text) (has_all text) (λ t. t.ruled_out) (λ t. t.known) (λ a b is. is.open_to) (λ a b is. is.has) search told alike in
    (right, is)
