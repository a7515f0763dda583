-- The first part of a load: each add is answered with its place, and each find of a name finds the document just added.
use Rattle.std.proofs.Common.{◌≡◌, ℕ, ◌+◌, ◌%◌, ◌^◌, ◌==◌, ◌<◌, Bool, true, false, cond, List, [], ◌∷◌, ◌++◌, length, map, filter, flat_map, refl, sym, ap, ap₂, ◌∙◌, arith}
use Rattle.std.specs.List.{All, enumerate_from, range_with_len}
use Rattle.std.proofs.lemmas.Bool.{or_from}
use Rattle.std.proofs.lemmas.Bool.Decides.{nat_tests}
use Rattle.std.proofs.lemmas.List.{append-nil, append_assoc}
use Rattle.std.proofs.lemmas.List.Elements.{All-append, All-cons, All-head, All-nil, All-tail, All-weaker, filter-append}
use Rattle.funnel_model.specs.declared.call.Call.{Call}
use Rattle.funnel_model.specs.declared.call.Call.TheVariants as call
use Rattle.funnel_model.specs.declared.reply.Reply.TheVariants as reply
use Rattle.funnel_model.specs.Words.{meets}
use Rattle.load_gen.specs.declared.limits.TheConstants.{CHECKED_ONE_IN}
use Rattle.load_gen.specs.Documents.{name_of_document}
use Rattle.load_laws.specs.Loads.{AreInTurn, answers_from, numbers_meeting, held_after, holds}
use Rattle.load_laws.specs.Replies.{lone_add, replies_to_add}

-- a document that is found by its own name alone
abbrev pub IsNamed : ℕ × List ℕ → Type 0
IsNamed d = (asked : ℕ) → asked < 2 ^ 64 → meets d.1 (name_of_document asked) ≡ (asked == d.0)

-- its number is below this one
abbrev pub IsBelow : ℕ → ℕ × List ℕ → Type 0
IsBelow id d = d.0 < id

not_held : (id : ℕ) (held : List (ℕ × List ℕ)) → All (IsBelow id) held → holds id held ≡ false
not_held id [] below = refl
not_held id (d ∷ ds) below =
    or_from (d.0 == id) (holds id ds) (differs d.0 (All-head (IsBelow id) d ds below)) (not_held id ds (All-tail (IsBelow id) d ds below)) where
      differs : (n : ℕ) → n < id → (n == id) ≡ false
      differs n less = grind (arith, nat_tests)

-- no document with a lower number is found by a name
lower_not_found : (id : ℕ) (held : List (ℕ × List ℕ)) → id < 2 ^ 64 → All (IsBelow id) held → All IsNamed held → filter (λ d. meets d.1 (name_of_document id)) held ≡ []
lower_not_found id [] small below named = refl
lower_not_found id (d ∷ ds) small below named =
    let rest = filter (λ d. meets d.1 (name_of_document id)) ds in
    ap (λ b. cond b (d ∷ rest) rest) (All-head IsNamed d ds named id small ∙ differs d.0 (All-head (IsBelow id) d ds below))
    ∙ lower_not_found id ds small (All-tail (IsBelow id) d ds below) (All-tail IsNamed d ds named)
  where
    differs : (n : ℕ) → n < id → (id == n) ≡ false
    differs n less = grind (arith, nat_tests)

-- the name of the last document finds this document alone
last_is_found : (id : ℕ) (text : List ℕ) (held : List (ℕ × List ℕ)) → id < 2 ^ 64 → All (IsBelow id) held → All IsNamed held → IsNamed (id, text) →
    numbers_meeting (held ++ (id, text) ∷ []) (name_of_document id) ≡ id ∷ []
last_is_found id text held small below named own =
    ap (λ (ds : List (ℕ × List ℕ)). map (λ d. d.0) ds)
    (filter-append (λ d. meets d.1 (name_of_document id)) held ((id, text) ∷ [])
    ∙ ap₂ (λ (xs ys : List (ℕ × List ℕ)). xs ++ ys) (lower_not_found id held small below named) (ap (λ b. cond b ((id, text) ∷ []) []) (own id small ∙ same id)))
  where
    same : (n : ℕ) → (n == n) ≡ true
    same n = grind (arith, nat_tests)

-- a number that is below another is below the next one
below_next : (id : ℕ) (d : ℕ × List ℕ) → IsBelow id d → IsBelow (id + 1) d
below_next id d below = omega (arith, below)

-- documents below a number, and the one with the number, are below the next one
pub all_below : (id : ℕ) (text : List ℕ) (held : List (ℕ × List ℕ)) → All (IsBelow id) held → All (IsBelow (id + 1)) (held ++ (id, text) ∷ [])
all_below id text held below =
    let last : IsBelow (id + 1) (id, text) = omega arith in
    All-append (IsBelow (id + 1)) held ((id, text) ∷ []) (All-weaker (IsBelow id) (IsBelow (id + 1)) (below_next id) held below)
    (All-cons (IsBelow (id + 1)) (id, text) [] last (All-nil (IsBelow (id + 1))))

-- a find that may come first
checked_answers : (b : Bool) (place : ℕ) (held : List (ℕ × List ℕ)) (query ids : List ℕ) (calls : List Call) → numbers_meeting held query ≡ ids →
    answers_from place held (cond b (call.Find query ∷ []) [] ++ calls) ≡ cond b (reply.Found ids ∷ []) [] ++ answers_from place held calls
checked_answers true place held query ids calls finds = ap (λ found. reply.Found found ∷ answers_from place held calls) finds
checked_answers false place held query ids calls finds = refl

checked_held : (b : Bool) (held : List (ℕ × List ℕ)) (query : List ℕ) (calls : List Call) →
    held_after held (cond b (call.Find query ∷ []) [] ++ calls) ≡ held_after held calls
checked_held true held query calls = refl
checked_held false held query calls = refl

checked_in_turn : (b : Bool) (held : List (ℕ × List ℕ)) (query : List ℕ) (calls : List Call) → AreInTurn held calls →
    AreInTurn held (cond b (call.Find query ∷ []) [] ++ calls)
checked_in_turn true held query calls turn = turn
checked_in_turn false held query calls turn = turn

-- the adds of documents whose numbers go on from the place, and the finds between them
pub record AddsAnswered (place : ℕ) (held texts : List (ℕ × List ℕ)) : Type 0 where
  pub replies : answers_from place held (flat_map lone_add texts) ≡ flat_map replies_to_add (range_with_len (place + 1) (length texts))
  pub after : held_after held (flat_map lone_add texts) ≡ held ++ texts
  pub in_turn : AreInTurn held (flat_map lone_add texts)

pub adds_answered : (place : ℕ) (held : List (ℕ × List ℕ)) (texts : List (List ℕ)) → place + length texts < 2 ^ 64 → All (IsBelow (place + 1)) held →
    All IsNamed held → All IsNamed (enumerate_from (place + 1) texts) → AddsAnswered place held (enumerate_from (place + 1) texts)
adds_answered place held [] small below named own = record { replies = refl; after = sym (append-nil held); in_turn = tt }
adds_answered place held (text ∷ texts) small below named own =
    let id = place + 1 in
    let first = All-head IsNamed (id, text) (enumerate_from (id + 1) texts) own in
    let later = All-tail IsNamed (id, text) (enumerate_from (id + 1) texts) own in
    let grown = held ++ (id, text) ∷ [] in
    let calls = flat_map lone_add (enumerate_from (id + 1) texts) in
    let checked = id % CHECKED_ONE_IN == 0 in
    let finds = last_is_found id text held (omega (arith, small)) below named first in
    let rest = adds_answered id grown texts (omega (arith, small)) (all_below id text held below)
    (All-append IsNamed held ((id, text) ∷ []) named (All-cons IsNamed (id, text) [] first (All-nil IsNamed))) later in
    record {
      replies = ap (λ rs. reply.Added id ∷ rs)
          (checked_answers checked id grown (name_of_document id) (id ∷ []) calls finds ∙ ap (λ rs. cond checked (reply.Found (id ∷ []) ∷ []) [] ++ rs) rest.replies);
      after = checked_held checked grown (name_of_document id) calls ∙ rest.after ∙ append_assoc held ((id, text) ∷ []) (enumerate_from (id + 1) texts);
      in_turn = (not_held id held below, checked_in_turn checked grown (name_of_document id) calls rest.in_turn);
    }
