-- What finds answer, counted by the numbers of the documents.
use Rattle.std.proofs.Common.{◌≡◌, ℕ, zero, suc, ◌+◌, ◌-◌, ◌^◌, ◌%◌, ◌≤◌, ◌==◌, ⊎_elim, Bool, true, false, cond, not, ◌&&◌, List, [], ◌∷◌, map, filter, refl, sym, ap, ap₂, ◌∙◌, arith}
use Rattle.std.proofs.lemmas.Bool.{cases_eq, eq-eqb, ne_eqb}
use Rattle.std.proofs.lemmas.List.Elements.{All-head, All-tail}
use Rattle.std.proofs.lemmas.List.Sums.{sum_by-cons}
use Rattle.std.specs.List.{All, enumerate_from, range_with_len, sum_by}
use Rattle.funnel_model.specs.History.{Document}
use Rattle.funnel_model.specs.Words.{meets}
use Rattle.load_gen.specs.declared.limits.TheConstants.{MOST_DOCS}
use Rattle.load_gen.specs.Documents.{document, documents, name_of_document}
use Rattle.load_gen.specs.Jobs.{is_deleted}
use Rattle.load_gen.specs.Summary.{found, result_of}
use Rattle.load_laws.proofs.Balance.{by_number, is_number}
use Rattle.load_laws.proofs.JobCounts.{over, where_deleted}
use Rattle.load_laws.proofs.JobFacts.{IsDocument}
use Rattle.load_laws.proofs.PassTotals.{length_is_sum}
use Rattle.load_laws.proofs.PlainQueries.{meets-document}

-- a live document is one of the load's
abbrev pub IsOfDocuments : ℕ → ℕ → ℕ → Document → Type 0
IsOfDocuments docs words seed d = IsDocument docs words seed d.id d.text

-- the numbers of the documents that meet a query
abbrev pub met : List ℕ → List Document → List ℕ
met query ds = map (λ d. d.id) (filter (λ d. meets d.text query) ds)

-- a name finds its document alone
name_tells : (docs words seed id : ℕ) (d : Document) → docs ≤ MOST_DOCS → id ≤ docs → IsOfDocuments docs words seed d → meets d.text (name_of_document id) ≡ (id == d.id)
name_tells docs words seed id d few within is =
    let below = is.1 in
    ap (λ (text : List ℕ). meets text (name_of_document id)) is.3 ∙ meets-document words seed is.0 id (omega (arith, few, below)) (omega (arith, few, within))
    ∙ ap (λ n. id == n) (sym is.2)

none_named : (docs words seed id : ℕ) (ds : List Document) → docs ≤ MOST_DOCS → id ≤ docs → All (IsOfDocuments docs words seed) ds →
    by_number (is_number id) ds ≡ 0 → met (name_of_document id) ds ≡ []
none_named docs words seed id [] few within are none = refl
none_named docs words seed id (d ∷ ds) few within are none =
    let all = sum_by-cons (λ (x : Document). is_number id x.id) d ds in
    let rest = none_named docs words seed id ds few within (All-tail (IsOfDocuments docs words seed) d ds are) (omega (arith, all, none)) in
    let tells = name_tells docs words seed id d few within (All-head (IsOfDocuments docs words seed) d ds are) in
    ⊎_elim
    (λ same. let one : is_number id d.id ≡ 1 = ap (λ b. cond b 1 0) (eq-eqb d.id id same) in absurd (omega (arith, all, none, one)))
    (λ other. ap (λ b. map (λ (x : Document). x.id) (cond b (d ∷ filter (λ x. meets x.text (name_of_document id)) ds) (filter (λ x. meets x.text (name_of_document id)) ds)))
    (tells ∙ ne_eqb id d.id (λ same. other (sym same))) ∙ rest)
    (cases_eq d.id id)

pub one_named : (docs words seed id : ℕ) (ds : List Document) → docs ≤ MOST_DOCS → id ≤ docs → All (IsOfDocuments docs words seed) ds →
    by_number (is_number id) ds ≡ 1 → met (name_of_document id) ds ≡ id ∷ []
one_named docs words seed id [] few within are one = absurd (omega (arith, one))
one_named docs words seed id (d ∷ ds) few within are one =
    let all = sum_by-cons (λ (x : Document). is_number id x.id) d ds in
    let later = All-tail (IsOfDocuments docs words seed) d ds are in
    let tells = name_tells docs words seed id d few within (All-head (IsOfDocuments docs words seed) d ds are) in
    let first = λ (b : Bool). map (λ (x : Document). x.id) (cond b (d ∷ filter (λ x. meets x.text (name_of_document id)) ds) (filter (λ x. meets x.text (name_of_document id)) ds)) in
    ⊎_elim
    (λ same.
    let counts : is_number id d.id ≡ 1 = ap (λ b. cond b 1 0) (eq-eqb d.id id same) in
    let rest = none_named docs words seed id ds few within later (omega (arith, all, one, counts)) in
    ap first (tells ∙ eq-eqb id d.id (sym same)) ∙ ap₂ (λ n ns. n ∷ ns) same rest)
    (λ other.
    let counts : is_number id d.id ≡ 0 = ap (λ b. cond b 1 0) (ne_eqb d.id id other) in
    let rest = one_named docs words seed id ds few within later (omega (arith, all, one, counts)) in
    ap first (tells ∙ ne_eqb id d.id (λ same. other (sym same))) ∙ rest)
    (cases_eq d.id id)

-- what a number weighs, where the document of this number meets the query
abbrev pub where_met : ℕ → ℕ → List ℕ → (ℕ → ℕ) → ℕ → ℕ
where_met words seed query v id = cond (meets (document words seed (id - 1)) query) (v id) 0

-- the numbers that a query finds among documents of a load weigh what they do
pub met_weighs : (docs words seed : ℕ) (query : List ℕ) (v : ℕ → ℕ) (ds : List Document) → All (IsOfDocuments docs words seed) ds →
    sum_by v (met query ds) ≡ by_number (where_met words seed query v) ds
met_weighs docs words seed query v [] are = refl
met_weighs docs words seed query v (d ∷ ds) are =
    let is = All-head (IsOfDocuments docs words seed) d ds are in
    let number = is.2 in
    let at : is.0 ≡ d.id - 1 = omega (arith, number) in
    let text : meets d.text query ≡ meets (document words seed (d.id - 1)) query =
    ap (λ (t : List ℕ). meets t query) (is.3 ∙ ap (document words seed) at) in
    by_test (meets d.text query) (ap (λ b. cond b (v d.id) 0) (sym text)) (met_weighs docs words seed query v ds (All-tail (IsOfDocuments docs words seed) d ds are))
    (sum_by-cons (λ (x : Document). where_met words seed query v x.id) d ds)
  where
    rest : List Document
    rest = filter (λ x. meets x.text query) ds

    by_test : (b : Bool) → where_met words seed query v d.id ≡ cond b (v d.id) 0 → sum_by v (met query ds) ≡ by_number (where_met words seed query v) ds →
        by_number (where_met words seed query v) (d ∷ ds) ≡ where_met words seed query v d.id + by_number (where_met words seed query v) ds →
        sum_by v (map (λ (x : Document). x.id) (cond b (d ∷ rest) rest)) ≡ by_number (where_met words seed query v) (d ∷ ds)
    by_test true here later all = sum_by-cons v d.id (met query ds) ∙ omega (arith, here, later, all)
    by_test false here later all = omega (arith, here, later, all)

-- the numbers of the documents from this place on that are left and meet the query
abbrev found_from : ℕ → ℕ → List ℕ → ℕ → ℕ → List ℕ
found_from words seed query n k =
    map (λ (item : ℕ × List ℕ). item.0)
    (filter (λ item. not (is_deleted item.0) && meets item.1 query) (enumerate_from (n + 1) (map (document words seed) (range_with_len n k))))

-- with those that were deleted they weigh what all do that meet it
found_weighs : (words seed : ℕ) (query : List ℕ) (v : ℕ → ℕ) (n k : ℕ) →
    sum_by v (found_from words seed query n k) + sum_by (where_deleted (where_met words seed query v)) (range_with_len (n + 1) k)
    ≡ sum_by (where_met words seed query v) (range_with_len (n + 1) k)
found_weighs words seed query v n zero = refl
found_weighs words seed query v n (suc k) =
    let at : n + 1 - 1 ≡ n = omega arith in
    let here : where_met words seed query v (n + 1) ≡ cond (meets (document words seed n) query) (v (n + 1)) 0 =
    ap (λ m. cond (meets (document words seed m) query) (v (n + 1)) 0) at in
    by_tests (is_deleted (n + 1)) (meets (document words seed n) query) here (found_weighs words seed query v (n + 1) k)
    (sum_by-cons (where_met words seed query v) (n + 1) (range_with_len (n + 1 + 1) k))
    (sum_by-cons (where_deleted (where_met words seed query v)) (n + 1) (range_with_len (n + 1 + 1) k))
  where
    item : ℕ × List ℕ
    item = (n + 1, document words seed n)

    rest : List (ℕ × List ℕ)
    rest = filter (λ x. not (is_deleted x.0) && meets x.1 query) (enumerate_from (n + 1 + 1) (map (document words seed) (range_with_len (n + 1) k)))

    all : ℕ
    all = sum_by (where_met words seed query v) (range_with_len (n + 1) (suc k))

    gone : ℕ
    gone = sum_by (where_deleted (where_met words seed query v)) (range_with_len (n + 1) (suc k))

    by_tests : (out meets_it : Bool) → where_met words seed query v (n + 1) ≡ cond meets_it (v (n + 1)) 0 →
        sum_by v (map (λ (x : ℕ × List ℕ). x.0) rest) + sum_by (where_deleted (where_met words seed query v)) (range_with_len (n + 1 + 1) k)
        ≡ sum_by (where_met words seed query v) (range_with_len (n + 1 + 1) k) →
        all ≡ where_met words seed query v (n + 1) + sum_by (where_met words seed query v) (range_with_len (n + 1 + 1) k) →
        gone ≡ cond out (where_met words seed query v (n + 1)) 0 + sum_by (where_deleted (where_met words seed query v)) (range_with_len (n + 1 + 1) k) →
        sum_by v (map (λ (x : ℕ × List ℕ). x.0) (cond (not out && meets_it) (item ∷ rest) rest)) + gone ≡ all
    by_tests true meets_it here later alls gones = omega (arith, here, later, alls, gones)
    by_tests false true here later alls gones =
        let first = sum_by-cons v (n + 1) (map (λ (x : ℕ × List ℕ). x.0) rest) in
        omega (arith, here, later, alls, gones, first)
    by_tests false false here later alls gones = omega (arith, here, later, alls, gones)

pub found_over : (docs words seed : ℕ) (query : List ℕ) (v : ℕ → ℕ) →
    sum_by v (found (documents docs words seed) query) + over docs (where_deleted (where_met words seed query v)) ≡ over docs (where_met words seed query v)
found_over docs words seed query v = found_weighs words seed query v 0 docs

-- lists whose elements weigh the same in each way have the same result
pub same_result : (xs ys : List ℕ) → ((v : ℕ → ℕ) → sum_by v xs ≡ sum_by v ys) → result_of xs ≡ result_of ys
same_result xs ys same =
    ap₂ (λ (n m : ℕ). (n, m % 2 ^ 64)) (length_is_sum xs ∙ same (λ x. 1) ∙ sym (length_is_sum ys)) (same (λ x. x))
