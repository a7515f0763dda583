use Rattle.std.proofs.Common.{◌≡◌, ℕ, ◌+◌, ◌<◌, List, [], ◌∷◌, ◌++◌, length, set, get_or, drop, replicate, sym, ap, ◌∙◌, arith}
use Rattle.std.proofs.lemmas.List.{append_assoc, drop_more, length-replicate, replicate_more, set_at}
use Rattle.document_store.specs.Slots.{free_slot}
use Rattle.document_store.proofs.slots.free_all.Goals as goal

-- one more item of the front is y
one_more : {X : Type 0} (n : ℕ) (y : X) (xs : List X) → n < length xs → set (replicate n y ++ drop n xs) n y ≡ replicate (n + 1) y ++ drop (n + 1) xs
one_more n y xs within =
    ap (λ rest. set (replicate n y ++ rest) n y) (drop_more xs n y within)
    ∙ set_at (replicate n y) (get_or xs n y) (drop (n + 1) xs) y n (length-replicate n y)
    ∙ sym (append_assoc (replicate n y) (y ∷ []) (drop (n + 1) xs))
    ∙ ap (λ front. front ++ drop (n + 1) xs) (replicate_more n y)

pub loop-slot-preserved : goal.loop-slot-preserved
loop-slot-preserved c =
    ap (set c.loop-slot.slots c.loop-slot.slot-index) c.free.ensures
    ∙ ap (λ slots. set slots c.loop-slot.slot-index free_slot) c.loop-slot.invariant
    ∙ one_more c.loop-slot.slot-index free_slot c.args.slots.now (omega arith)
