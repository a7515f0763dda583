-- The second part of a load: each delete is of a document that is held, and what is left are the documents that are not to be deleted.
use Rattle.std.proofs.Common.{◌≡◌, ℕ, ◌+◌, ◌==◌, ◌<◌, Bool, true, false, cond, not, List, [], ◌∷◌, ◌++◌, length, map, filter, refl, sym, ap, ap₂, ◌∙◌, subst, arith}
use Rattle.std.specs.List.{All, enumerate_from, range_with_len}
use Rattle.std.proofs.lemmas.Bool.{or_left, or_right}
use Rattle.std.proofs.lemmas.Bool.Decides.{nat_tests}
use Rattle.std.proofs.lemmas.List.{append_assoc}
use Rattle.std.proofs.lemmas.List.Elements.{All-head, All-nil, All-tail, All-weaker, filter-append}
use Rattle.funnel_model.specs.declared.call.Call.{Call}
use Rattle.funnel_model.specs.declared.call.Call.TheVariants as call
use Rattle.funnel_model.specs.declared.reply.Reply.TheVariants as reply
use Rattle.load_gen.specs.Jobs.{is_deleted}
use Rattle.load_laws.specs.Loads.{AreInTurn, answers_from, held_after, holds, without}
use Rattle.load_laws.proofs.AddsPart.{IsBelow, all_below}

-- each delete is answered with its place
pub deletes_answered : (place : ℕ) (held : List (ℕ × List ℕ)) (ids : List ℕ) → answers_from place held (map call.Delete ids) ≡ map reply.Deleted (range_with_len (place + 1) (length ids))
deletes_answered place held [] = refl
deletes_answered place held (id ∷ ids) = ap (λ rs. reply.Deleted (place + 1) ∷ rs) (deletes_answered (place + 1) (without id held) ids)

-- nothing is taken away where all numbers are below, or above
without_lower : (id : ℕ) (held : List (ℕ × List ℕ)) → All (IsBelow id) held → without id held ≡ held
without_lower id [] below = refl
without_lower id (d ∷ ds) below =
    ap (λ b. cond b (d ∷ without id ds) (without id ds)) (differs d.0 (All-head (IsBelow id) d ds below))
    ∙ ap (λ rest. d ∷ rest) (without_lower id ds (All-tail (IsBelow id) d ds below))
  where
    differs : (n : ℕ) → n < id → not (n == id) ≡ true
    differs n less = grind (arith, nat_tests)

without_higher : (id n : ℕ) (texts : List (List ℕ)) → id < n → without id (enumerate_from n texts) ≡ enumerate_from n texts
without_higher id n [] higher = refl
without_higher id n (text ∷ texts) higher =
    let rest = without id (enumerate_from (n + 1) texts) in
    let differs : not (n == id) ≡ true = grind (arith, nat_tests) in
    ap (λ b. cond b ((n, text) ∷ rest) rest) differs ∙ ap (λ others. (n, text) ∷ others) (without_higher id (n + 1) texts (omega arith))

-- the document of a number is taken away from between those with lower and those with higher numbers
without_between : (id : ℕ) (kept : List (ℕ × List ℕ)) (text : List ℕ) (texts : List (List ℕ)) → All (IsBelow id) kept →
    without id (kept ++ (id, text) ∷ enumerate_from (id + 1) texts) ≡ kept ++ enumerate_from (id + 1) texts
without_between id kept text texts below =
    let rest = without id (enumerate_from (id + 1) texts) in
    let same : not (id == id) ≡ false = grind (arith, nat_tests) in
    filter-append (λ d. not (d.0 == id)) kept ((id, text) ∷ enumerate_from (id + 1) texts)
    ∙ ap₂ (λ (xs ys : List (ℕ × List ℕ)). xs ++ ys) (without_lower id kept below)
    (ap (λ b. cond b ((id, text) ∷ rest) rest) same ∙ without_higher id (id + 1) texts (omega arith))

-- and it is held there
held_between : (id : ℕ) (text : List ℕ) (kept later : List (ℕ × List ℕ)) → holds id (kept ++ (id, text) ∷ later) ≡ true
held_between id text [] later = let same : (id == id) ≡ true = grind (arith, nat_tests) in or_left (id == id) (holds id later) same
held_between id text (d ∷ ds) later = or_right (d.0 == id) (holds id (ds ++ (id, text) ∷ later)) (held_between id text ds later)

-- the calls are in turn for what is held, and leave this
abbrev Leaves : List (ℕ × List ℕ) → List Call → List (ℕ × List ℕ) → Type 0
Leaves held calls left = (held_after held calls ≡ left) × AreInTurn held calls

-- one more document is deleted or kept
deleted_or_kept : (id : ℕ) (kept : List (ℕ × List ℕ)) (text : List ℕ) (texts : List (List ℕ)) (ids : List ℕ) (left : List (ℕ × List ℕ)) → All (IsBelow id) kept →
    ((held : List (ℕ × List ℕ)) → All (IsBelow (id + 1)) held → Leaves (held ++ enumerate_from (id + 1) texts) (map call.Delete ids) (held ++ left)) → (b : Bool) →
    Leaves (kept ++ (id, text) ∷ enumerate_from (id + 1) texts) (map call.Delete (cond b (id ∷ ids) ids)) (kept ++ cond (not b) ((id, text) ∷ left) left)
deleted_or_kept id kept text texts ids left below others true =
    let rest = subst (λ held. Leaves held (map call.Delete ids) (kept ++ left)) (sym (without_between id kept text texts below))
    (others kept (All-weaker (IsBelow id) (IsBelow (id + 1)) (λ d less. omega (arith, less)) kept below)) in
    (rest.0, (held_between id text kept (enumerate_from (id + 1) texts), rest.1))
deleted_or_kept id kept text texts ids left below others false =
    subst (λ held. Leaves held (map call.Delete ids) (kept ++ (id, text) ∷ left)) (append_assoc kept ((id, text) ∷ []) (enumerate_from (id + 1) texts))
    (subst (λ end. Leaves ((kept ++ (id, text) ∷ []) ++ enumerate_from (id + 1) texts) (map call.Delete ids) end) (append_assoc kept ((id, text) ∷ []) left)
    (others (kept ++ (id, text) ∷ []) (all_below id text kept below)))

deletes_from : (id : ℕ) (kept : List (ℕ × List ℕ)) (texts : List (List ℕ)) → All (IsBelow id) kept →
    Leaves (kept ++ enumerate_from id texts) (map call.Delete (filter is_deleted (range_with_len id (length texts))))
    (kept ++ filter (λ d. not (is_deleted d.0)) (enumerate_from id texts))
deletes_from id kept [] below = (refl, tt)
deletes_from id kept (text ∷ texts) below =
    deleted_or_kept id kept text texts (filter is_deleted (range_with_len (id + 1) (length texts))) (filter (λ d. not (is_deleted d.0)) (enumerate_from (id + 1) texts)) below
    (λ held less. deletes_from (id + 1) held texts less) (is_deleted id)

-- the deletes of a load leave the documents that are not to be deleted
pub deletes_leave : (texts : List (List ℕ)) →
    held_after (enumerate_from 1 texts) (map call.Delete (filter is_deleted (range_with_len 1 (length texts)))) ≡ filter (λ d. not (is_deleted d.0)) (enumerate_from 1 texts)
deletes_leave texts = (deletes_from 1 [] texts (All-nil (IsBelow 1))).0

pub deletes_in_turn : (texts : List (List ℕ)) →
    AreInTurn (enumerate_from 1 texts) (map call.Delete (filter is_deleted (range_with_len 1 (length texts))))
deletes_in_turn texts = (deletes_from 1 [] texts (All-nil (IsBelow 1))).1
