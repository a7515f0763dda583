-- One more draw, and the draws of one more document.
use Rattle.std.proofs.Common.{◌≡◌, ℕ, zero, suc, ◌+◌, ◌*◌, ◌/◌, ◌^◌, List, [], ◌∷◌, ◌++◌, flat_map, decimal, add-one, refl, sym, ap, ap₂, ◌∙◌, arith}
use Rattle.std.proofs.lemmas.List.{append_assoc, flat_map_more}
use Rattle.std.proofs.lemmas.List.FromFn.{map-range_with_len_more}
use Rattle.load_gen.specs.Documents.{document, documents}
use Rattle.load_gen.specs.Generator.{next_state, next_words, number_in, state_after, word_at}

-- the state after one more draw
pub state_after-more : (state draws : ℕ) → state_after state (draws + 1) ≡ next_state (state_after state draws)
state_after-more state draws = rw add-one refl

-- the words of one more draw
pub next_words-more : (state draws : ℕ) → next_words state (draws + 1) ≡ next_words state draws ++ word_at (state_after state (draws + 1)) ∷ []
next_words-more state draws = map-range_with_len_more (λ draw. word_at (state_after state draw)) 1 draws (draws + 1) (omega arith)

-- draws after draws
pub state_after-both : (state first then : ℕ) → state_after (state_after state first) then ≡ state_after state (first + then)
state_after-both state first zero = ap (state_after state) (omega arith)
state_after-both state first (suc then) =
    let further : suc (first + then) ≡ first + suc then = omega arith in
    ap next_state (state_after-both state first then) ∙ ap (state_after state) further

-- the draws of one more document
pub state_after-document : (seed i words : ℕ) → state_after (state_after seed (i * words)) words ≡ state_after seed ((i + 1) * words)
state_after-document seed i words =
    let all : i * words + words ≡ (i + 1) * words = omega arith in
    state_after-both seed (i * words) words ∙ ap (state_after seed) all

-- one more document
pub documents-more : (docs words seed : ℕ) → documents (docs + 1) words seed ≡ documents docs words seed ++ document words seed docs ∷ []
documents-more docs words seed = map-range_with_len_more (document words seed) 0 docs docs (omega arith)

-- the text after one more draw
pub words-push : (front before after : List ℕ) (start draws here there number : ℕ) → before ≡ front ++ flat_map (λ word. 32 ∷ word) (next_words start draws) →
    here ≡ state_after start draws → there ≡ next_state here → number ≡ number_in (there / 2 ^ 33) → after ≡ (before ++ 32 ∷ 119 ∷ []) ++ decimal number →
    after ≡ front ++ flat_map (λ word. 32 ∷ word) (next_words start (draws + 1))
words-push front before after start draws here there number were at drawn is pushed =
    let to : there ≡ state_after start (draws + 1) = drawn ∙ ap next_state at ∙ sym (state_after-more start draws) in
    let word : 32 ∷ 119 ∷ decimal number ≡ 32 ∷ word_at (state_after start (draws + 1)) =
    ap (λ n. 32 ∷ 119 ∷ decimal n) is ∙ ap (λ state. 32 ∷ word_at state) to in
    pushed ∙ append_assoc before (32 ∷ 119 ∷ []) (decimal number) ∙ ap₂ (λ (xs ys : List ℕ). xs ++ ys) were word
    ∙ flat_map_more (λ word. 32 ∷ word) front (next_words start draws) (word_at (state_after start (draws + 1)))
    ∙ ap (λ (ws : List (List ℕ)). front ++ flat_map (λ word. 32 ∷ word) ws) (sym (next_words-more start draws))
