-- The lines of the queries that are left to write.
use Rattle.std.proofs.Common.{◌≡◌, ◌⊎◌, inl, inr, ℕ, List, [], ◌∷◌, ◌++◌, Bor, length, map, flat_map, refl, sym, ap, ap₂, ◌∙◌}
use Rattle.std.specs.List.{zip}
use Rattle.std.proofs.lemmas.List.{append-nil, append_assoc}
use Rattle.load_gen.specs.Summary.{query_line}

-- the lines of the queries and results that are left
abbrev pub lines_left : List (Bor (List ℕ)) → List (ℕ × ℕ) → List ℕ
lines_left queries results = flat_map query_line (zip (map (λ q. q.now) queries) results)

-- once a line is written, the later ones are left
pub line-push : (out new text all : List ℕ) (queries later : List (Bor (List ℕ))) (results rest : List (ℕ × ℕ)) (query : Bor (List ℕ)) (result : ℕ × ℕ) →
    new ≡ out ++ query_line (text, result) → text ≡ query.now → queries ≡ query ∷ later → results ≡ result ∷ rest → out ++ lines_left queries results ≡ all →
    new ++ lines_left later rest ≡ all
line-push out new text all queries later results rest query result pushed is first second so_far =
    ap (λ (xs : List ℕ). xs ++ lines_left later rest) (pushed ∙ ap (λ (t : List ℕ). out ++ query_line (t, result)) is)
    ∙ append_assoc out (query_line (query.now, result)) (lines_left later rest)
    ∙ ap₂ (λ qs rs. out ++ lines_left qs rs) (sym first) (sym second)
    ∙ so_far

-- where no query or no result is left, no line is
none_left : (queries : List (Bor (List ℕ))) (results : List (ℕ × ℕ)) → (length queries ≡ 0) ⊎ (length results ≡ 0) → lines_left queries results ≡ []
none_left [] results none = refl
none_left (query ∷ queries) [] none = refl
none_left (query ∷ queries) (result ∷ results) (inl none) = cc
none_left (query ∷ queries) (result ∷ results) (inr none) = cc

-- and then all lines are written
pub lines-end : (out all : List ℕ) (queries : List (Bor (List ℕ))) (results : List (ℕ × ℕ)) → (length queries ≡ 0) ⊎ (length results ≡ 0) →
    out ++ lines_left queries results ≡ all → out ≡ all
lines-end out all queries results none so_far =
    sym (append-nil out) ∙ ap (λ (xs : List ℕ). out ++ xs) (sym (none_left queries results none)) ∙ so_far
