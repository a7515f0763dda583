-- How many documents are deleted.
use Rattle.std.proofs.Common.{◌≡◌, ℕ, zero, suc, ◌+◌, ◌/◌, Bool, true, false, cond, List, [], ◌∷◌, ◌++◌, length, map, filter, add-one, refl, sym, ap, ◌∙◌, arith}
use Rattle.std.specs.List.{range_with_len}
use Rattle.std.proofs.lemmas.Bool.Decides.{nat_tests}
use Rattle.std.proofs.lemmas.List.{length-append, map-id}
use Rattle.std.proofs.lemmas.List.FromFn.{filter_of_map_range_with_len_more}
use Rattle.load_gen.specs.Jobs.{is_deleted}

-- one more document is deleted or not
deleted-more : (docs : ℕ) → filter is_deleted (map (λ n. n) (range_with_len 1 (docs + 1))) ≡ filter is_deleted (map (λ n. n) (range_with_len 1 docs)) ++ cond (is_deleted (docs + 1)) ((docs + 1) ∷ []) []
deleted-more docs = filter_of_map_range_with_len_more is_deleted (λ n. n) 1 docs (docs + 1) (omega arith)

-- and counts as one, or not
pub length-cond : (deleted : Bool) (id : ℕ) (ids : List ℕ) → length (cond deleted (id ∷ ids) ids) ≡ cond deleted 1 0 + length ids
length-cond true id ids = omega arith
length-cond false id ids = omega arith

-- a tenth more
tenths-more : (docs : ℕ) → docs / 10 + cond (is_deleted (docs + 1)) 1 0 ≡ (docs + 1) / 10
tenths-more docs = grind (arith, nat_tests)

deleted_count : (docs : ℕ) → length (filter is_deleted (map (λ n. n) (range_with_len 1 docs))) ≡ docs / 10
deleted_count zero = refl
deleted_count (suc docs) =
    let before = deleted_count docs in
    let one = length-cond (is_deleted (docs + 1)) (docs + 1) [] in
    let tenth = tenths-more docs in
    let more : length (filter is_deleted (map (λ n. n) (range_with_len 1 (docs + 1)))) ≡ (docs + 1) / 10 =
    ap (λ (xs : List ℕ). length xs) (deleted-more docs)
    ∙ length-append (filter is_deleted (map (λ n. n) (range_with_len 1 docs))) (cond (is_deleted (docs + 1)) ((docs + 1) ∷ []) [])
    ∙ omega (arith, before, one, tenth) in
    rw add-one at more

-- one document in ten is deleted
pub each_tenth : (docs : ℕ) → length (filter is_deleted (range_with_len 1 docs)) ≡ docs / 10
each_tenth docs = ap (λ (ns : List ℕ). length (filter is_deleted ns)) (sym (map-id (range_with_len 1 docs))) ∙ deleted_count docs
