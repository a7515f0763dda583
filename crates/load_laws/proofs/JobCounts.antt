-- What the calls of all workers weigh together.
use Rattle.std.proofs.Common.{◌≡◌, ℕ, zero, suc, ◌+◌, ◌%◌, ◌<◌, ◌==◌, ◌||◌, Bool, true, false, cond, List, [], ◌∷◌, ◌++◌, length, map, filter, flat_map, refl, sym, ap, ap₂, ◌∙◌, arith}
use Rattle.std.proofs.lemmas.List.Sums.{sum_by-append, sum_by-cons}
use Rattle.std.proofs.lemmas.Bool.{or_from}
use Rattle.std.proofs.lemmas.List.Folds.{list_any-append}
use Rattle.std.specs.List.{enumerate_from, list_any, range_with_len, sum_by}
use Rattle.funnel_model.specs.declared.call.Call.{Call}
use Rattle.funnel_model.specs.declared.call.Call.TheVariants as call
use Rattle.funnel_model.proofs.StepCauses.{is_put, is_query}
use Rattle.funnel_model.specs.Steps.{most_moves}
use Rattle.load_gen.specs.declared.limits.TheConstants.{CHECKED_ONE_IN}
use Rattle.load_gen.specs.Documents.{documents, name_of_document}
use Rattle.load_gen.specs.Jobs.{add_and_check, adds_of, deletes_of, is_deleted, jobs, nth_add, queries_of, share}
use Rattle.load_gen.specs.Queries.{queries}
use Rattle.load_gen.proofs.Shares.{weigh, weigh-shares}
use Rattle.load_gen.proofs.Totals.{total, total-none, total-same}
use Rattle.load_laws.proofs.OneWorker.{length-documents}

-- an add weighs what its number does, as does a put, by which one is made, and so does a delete
abbrev pub add_weight : (ℕ → ℕ) → Call → ℕ
add_weight g (call.Add id text) = g id
add_weight g (call.Put id text) = g id
add_weight g _ = 0

abbrev pub delete_weight : (ℕ → ℕ) → Call → ℕ
delete_weight g (call.Delete id) = g id
delete_weight g _ = 0

-- where checks weigh nothing a worker's first part weighs what its adds do
adds_weigh : (w : Call → ℕ) → ((query : List ℕ) → w (call.Find query) ≡ 0) → (n : ℕ) (items : List (ℕ × List ℕ)) →
    sum_by w (flat_map nth_add (enumerate_from n items)) ≡ weigh (λ item. w (call.Add (item.0 + 1) item.1)) items
adds_weigh w none n [] = refl
adds_weigh w none n ((i, text) ∷ items) =
    sum_by-append w (add_and_check n (i + 1, text)) (flat_map nth_add (enumerate_from (n + 1) items))
    ∙ ap₂ (λ a b. a + b) (one (n % CHECKED_ONE_IN == 0)) (adds_weigh w none (n + 1) items)
  where
    one : (b : Bool) → sum_by w (call.Add (i + 1) text ∷ cond b (call.Find (name_of_document (i + 1)) ∷ []) []) ≡ w (call.Add (i + 1) text)
    one true = let nothing = none (name_of_document (i + 1)) in omega arith
    one false = omega arith

-- and its second part what its deletes do
deletes_weigh : (w : Call → ℕ) (items : List (ℕ × List ℕ)) →
    sum_by w (map call.Delete (filter is_deleted (map (λ item. item.0 + 1) items)))
    ≡ weigh (λ item. cond (is_deleted (item.0 + 1)) (w (call.Delete (item.0 + 1))) 0) items
deletes_weigh w [] = refl
deletes_weigh w (item ∷ items) = by_test (is_deleted (item.0 + 1)) (deletes_weigh w items) where
  rest : List ℕ
  rest = filter is_deleted (map (λ x. x.0 + 1) items)

  by_test : (b : Bool) → sum_by w (map call.Delete rest) ≡ weigh (λ x. cond (is_deleted (x.0 + 1)) (w (call.Delete (x.0 + 1))) 0) items →
      sum_by w (map call.Delete (cond b ((item.0 + 1) ∷ rest) rest))
      ≡ cond b (w (call.Delete (item.0 + 1))) 0 + weigh (λ x. cond (is_deleted (x.0 + 1)) (w (call.Delete (x.0 + 1))) 0) items
  by_test true later = sum_by-cons w (call.Delete (item.0 + 1)) (map call.Delete rest) ∙ ap (λ n. w (call.Delete (item.0 + 1)) + n) later
  by_test false later = omega (arith, later)

-- queries weigh nothing where finds do
queries_weigh : (w : Call → ℕ) → ((query : List ℕ) → w (call.Find query) ≡ 0) → (items : List (ℕ × List ℕ)) → sum_by w (map (λ item. call.Find item.1) items) ≡ 0
queries_weigh w none [] = refl
queries_weigh w none (item ∷ items) =
    let first = none item.1 in
    let later = queries_weigh w none items in
    sum_by-cons w (call.Find item.1) (map (λ x. call.Find x.1) items) ∙ omega arith

-- deletes and queries move nothing
pub deletes_move_nothing : (texts : List (List ℕ)) (workers worker : ℕ) → sum_by most_moves (deletes_of texts workers worker) ≡ 0
deletes_move_nothing texts workers worker = of_numbers (filter is_deleted (map (λ item. item.0 + 1) (share texts workers worker))) where
  of_numbers : (ids : List ℕ) → sum_by most_moves (map call.Delete ids) ≡ 0
  of_numbers [] = refl
  of_numbers (id ∷ ids) = omega (arith, sum_by-cons most_moves (call.Delete id) (map call.Delete ids), of_numbers ids)

pub queries_move_nothing : (workers worker : ℕ) → sum_by most_moves (queries_of workers worker) ≡ 0
queries_move_nothing workers worker = queries_weigh most_moves (λ query. refl) (share queries workers worker)

-- whether a call is made by another name: a search by an expression as a find, and a put that is done as an add
abbrev pub is_renamed : Call → Bool
is_renamed asked = is_query asked || is_put asked

-- a worker asks no such call in any of its parts
none_renamed : (n : ℕ) (items : List (ℕ × List ℕ)) → list_any is_renamed (flat_map nth_add (enumerate_from n items)) ≡ false
none_renamed n [] = refl
none_renamed n ((i, text) ∷ items) =
    list_any-append is_renamed (add_and_check n (i + 1, text)) (flat_map nth_add (enumerate_from (n + 1) items))
    ∙ or_from (list_any is_renamed (add_and_check n (i + 1, text))) (list_any is_renamed (flat_map nth_add (enumerate_from (n + 1) items)))
    (one (n % CHECKED_ONE_IN == 0)) (none_renamed (n + 1) items)
  where
    one : (b : Bool) → list_any is_renamed (call.Add (i + 1) text ∷ cond b (call.Find (name_of_document (i + 1)) ∷ []) []) ≡ false
    one true = refl
    one false = refl

pub adds_keep_names : (texts : List (List ℕ)) (workers worker : ℕ) → list_any is_renamed (adds_of texts workers worker) ≡ false
adds_keep_names texts workers worker = none_renamed 1 (share texts workers worker)

pub deletes_keep_names : (texts : List (List ℕ)) (workers worker : ℕ) → list_any is_renamed (deletes_of texts workers worker) ≡ false
deletes_keep_names texts workers worker = of_numbers (filter is_deleted (map (λ item. item.0 + 1) (share texts workers worker))) where
  of_numbers : (ids : List ℕ) → list_any is_renamed (map call.Delete ids) ≡ false
  of_numbers [] = refl
  of_numbers (id ∷ ids) = of_numbers ids

pub finds_keep_names : (workers worker : ℕ) → list_any is_renamed (queries_of workers worker) ≡ false
finds_keep_names workers worker = of_texts (share queries workers worker) where
  of_texts : (items : List (ℕ × List ℕ)) → list_any is_renamed (map (λ item. call.Find item.1) items) ≡ false
  of_texts [] = refl
  of_texts (item ∷ items) = of_texts items

-- so it asks none at all
pub jobs_keep_names : (docs words seed workers worker : ℕ) → list_any is_renamed (jobs docs words seed workers worker) ≡ false
jobs_keep_names docs words seed workers worker =
    let texts = documents docs words seed in
    let adds = adds_of texts workers worker in
    let deletes = deletes_of texts workers worker in
    list_any-append is_renamed (adds ++ deletes) (queries_of workers worker)
    ∙ or_from (list_any is_renamed (adds ++ deletes)) (list_any is_renamed (queries_of workers worker))
    (list_any-append is_renamed adds deletes
    ∙ or_from (list_any is_renamed adds) (list_any is_renamed deletes) (adds_keep_names texts workers worker) (deletes_keep_names texts workers worker))
    (finds_keep_names workers worker)

-- the documents weigh what their numbers do
weigh-numbers : (g : ℕ → ℕ) (n : ℕ) (texts : List (List ℕ)) → weigh (λ item. g (item.0 + 1)) (enumerate_from n texts) ≡ sum_by g (range_with_len (n + 1) (length texts))
weigh-numbers g n [] = refl
weigh-numbers g n (text ∷ texts) =
    ap (λ m. g (n + 1) + m) (weigh-numbers g (n + 1) texts) ∙ sym (sum_by-cons g (n + 1) (range_with_len (n + 1 + 1) (length texts)))

-- what a number weighs, where it is deleted
abbrev pub where_deleted : (ℕ → ℕ) → ℕ → ℕ
where_deleted g id = cond (is_deleted id) (g id) 0

-- what the numbers of all documents weigh
abbrev pub over : ℕ → (ℕ → ℕ) → ℕ
over docs g = sum_by g (range_with_len 1 docs)

nothing_weighs : (items : List (ℕ × List ℕ)) → weigh (λ item. 0) items ≡ 0
nothing_weighs [] = refl
nothing_weighs (item ∷ items) = let later = nothing_weighs items in omega arith

nothing_weighs_deleted : (items : List (ℕ × List ℕ)) → weigh (λ item. cond (is_deleted (item.0 + 1)) 0 0) items ≡ 0
nothing_weighs_deleted [] = refl
nothing_weighs_deleted (item ∷ items) = by_test (is_deleted (item.0 + 1)) (nothing_weighs_deleted items) where
  by_test : (b : Bool) → weigh (λ x. cond (is_deleted (x.0 + 1)) 0 0) items ≡ 0 → cond b 0 0 + weigh (λ x. cond (is_deleted (x.0 + 1)) 0 0) items ≡ 0
  by_test true later = omega (arith, later)
  by_test false later = omega (arith, later)

-- the adds and the deletes of all workers, in each part
pub adds_in_adds : (g : ℕ → ℕ) (docs words seed workers : ℕ) → 0 < workers →
    total (λ worker. sum_by (add_weight g) (adds_of (documents docs words seed) workers worker)) workers ≡ over docs g
adds_in_adds g docs words seed workers some =
    let texts = documents docs words seed in
    total-same (λ worker. sum_by (add_weight g) (adds_of texts workers worker)) (λ worker. weigh (λ item. g (item.0 + 1)) (share texts workers worker)) workers
    (λ worker. adds_weigh (add_weight g) (λ query. refl) 1 (share texts workers worker))
    ∙ weigh-shares (λ item. g (item.0 + 1)) (enumerate_from 0 texts) workers some
    ∙ weigh-numbers g 0 texts ∙ ap (λ n. over n g) (length-documents docs words seed)

pub deletes_in_adds : (g : ℕ → ℕ) (texts : List (List ℕ)) (workers : ℕ) →
    total (λ worker. sum_by (delete_weight g) (adds_of texts workers worker)) workers ≡ 0
deletes_in_adds g texts workers =
    total-same (λ worker. sum_by (delete_weight g) (adds_of texts workers worker)) (λ worker. 0) workers
    (λ worker. adds_weigh (delete_weight g) (λ query. refl) 1 (share texts workers worker) ∙ nothing_weighs (share texts workers worker))
    ∙ total-none workers

pub adds_in_deletes : (g : ℕ → ℕ) (texts : List (List ℕ)) (workers : ℕ) →
    total (λ worker. sum_by (add_weight g) (deletes_of texts workers worker)) workers ≡ 0
adds_in_deletes g texts workers =
    total-same (λ worker. sum_by (add_weight g) (deletes_of texts workers worker)) (λ worker. 0) workers
    (λ worker. deletes_weigh (add_weight g) (share texts workers worker) ∙ nothing_weighs_deleted (share texts workers worker))
    ∙ total-none workers

pub deletes_in_deletes : (g : ℕ → ℕ) (docs words seed workers : ℕ) → 0 < workers →
    total (λ worker. sum_by (delete_weight g) (deletes_of (documents docs words seed) workers worker)) workers ≡ over docs (where_deleted g)
deletes_in_deletes g docs words seed workers some =
    let texts = documents docs words seed in
    total-same (λ worker. sum_by (delete_weight g) (deletes_of texts workers worker)) (λ worker. weigh (λ item. where_deleted g (item.0 + 1)) (share texts workers worker)) workers
    (λ worker. deletes_weigh (delete_weight g) (share texts workers worker))
    ∙ weigh-shares (λ item. where_deleted g (item.0 + 1)) (enumerate_from 0 texts) workers some
    ∙ weigh-numbers (where_deleted g) 0 texts ∙ ap (λ n. over n (where_deleted g)) (length-documents docs words seed)

pub none_in_queries : (w : Call → ℕ) → ((query : List ℕ) → w (call.Find query) ≡ 0) → (workers : ℕ) →
    total (λ worker. sum_by w (queries_of workers worker)) workers ≡ 0
none_in_queries w none workers =
    total-same (λ worker. sum_by w (queries_of workers worker)) (λ worker. 0) workers (λ worker. queries_weigh w none (share queries workers worker))
    ∙ total-none workers

-- how many numbers there are
pub over-one : (docs : ℕ) → over docs (λ id. 1) ≡ docs
over-one docs = from 1 docs where
  from : (n m : ℕ) → sum_by (λ id. 1) (range_with_len n m) ≡ m
  from n zero = refl
  from n (suc m) = let later = from (n + 1) m in sum_by-cons (λ (id : ℕ). 1) n (range_with_len (n + 1) m) ∙ omega arith
