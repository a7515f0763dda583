-- Words in some set.
use Rattle.std.proofs.Common.{◌≡◌, ◌||◌, ℕ, Bool, List, [], ◌∷◌, ◌++◌, refl, sym, ap, ◌∙◌, append_assoc}
use Rattle.std.proofs.lemmas.List.{append-nil}
use Rattle.std.proofs.lemmas.List.Folds.{list_any-append}
use Rattle.std.specs.Str.{bytes_eq}
use Rattle.bool_query.specs.WordLists.{has, in_some, together}

-- a word of all sets together is in one of them
pub has-together : (sets : List (List (List ℕ))) (word : List ℕ) → has (together sets) word ≡ in_some sets word
has-together [] word = refl
has-together (set ∷ sets) word = list_any-append (bytes_eq word) set (together sets) ∙ ap (λ (b : Bool). has set word || b) (has-together sets word)

pub together-push : (sets : List (List (List ℕ))) (set : List (List ℕ)) → together (sets ++ set ∷ []) ≡ together sets ++ set
together-push [] set = append-nil set
together-push (s ∷ sets) set = ap (λ (ws : List (List ℕ)). s ++ ws) (together-push sets set) ∙ sym (append_assoc s (together sets) set)
