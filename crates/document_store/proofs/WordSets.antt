-- When a set has every word: by membership, and by the test; and when a text has.
use Rattle.std.proofs.Common.{◌≡◌, ◌↔◌, ℕ, Bool, true, List}
use Rattle.std.proofs.lemmas.List.Elements.{All-contains, All-contains_itself, All-weaker}
use Rattle.std.proofs.lemmas.List.Sums.{AllPass-from_list_all, list_all-from_AllPass}
use Rattle.std.specs.List.{Contains, list_all, list_any}
use Rattle.std.specs.Prelude.{IsTrue}
use Rattle.std.specs.Str.{bytes_eq}
use Rattle.funnel_model.proofs.WordLemmas.{Contains-has, one_test}
use Rattle.funnel_model.specs.Words.{AreWordsOf, words}
use Rattle.document_store.specs.Documents.{HasEvery}
use Rattle.document_store.specs.Finding.{has_words}

-- each of the words is in the set
abbrev pub has_every : List (List ℕ) → List (List ℕ) → Bool
has_every set asked = list_all (λ word. list_any (bytes_eq word) set) asked

-- the test holds exactly where each of the words is in the set
pub has_every-decides : (set asked : List (List ℕ)) → HasEvery set asked ↔ (has_every set asked ≡ true)
has_every-decides set asked = (
  λ every. list_all-from_AllPass (λ word. list_any (bytes_eq word) set) asked
      (All-weaker (Contains asked) (λ word. list_any (bytes_eq word) set ≡ true) (λ word has. (Contains-has word set).0 (every word has)) asked (All-contains_itself asked)),
  λ passes word has. (Contains-has word set).1
      (All-contains (λ w. list_any (bytes_eq w) set ≡ true) asked word (AllPass-from_list_all (λ w. list_any (bytes_eq w) set) asked passes) has),
)

-- so a text has each of them exactly where each is one of its words
pub has_words-decides : (text : List ℕ) (asked : List (List ℕ)) → HasEvery (words text) asked ↔ (has_words asked text ≡ true)
has_words-decides text asked = has_every-decides (words text) asked

-- and a set of its words decides it
pub set-decides : (set asked : List (List ℕ)) (text : List ℕ) (b : Bool) → AreWordsOf set text → IsTrue b ↔ HasEvery set asked → b ≡ has_words asked text
set-decides set asked text b of_text decides =
    one_test b (has_words asked text)
    (λ is. (has_words-decides text asked).0 (λ word has. (of_text word).0 (decides.0 is word has)))
    (λ all. decides.1 (λ word has. (of_text word).1 ((has_words-decides text asked).1 all word has)))
