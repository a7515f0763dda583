-- Sound histories, event by event.
use Rattle.std.proofs.Common.{◌≡◌, ℕ, ◌%◌, ⊎_elim, Bool, true, false, cond, List, [], ◌∷◌, ◌++◌, Contains, refl, sym, ap, ◌∙◌, subst, append_assoc, arith}
use Rattle.std.proofs.lemmas.Bool.{and_parts, eqb-true}
use Rattle.std.specs.Prelude.{◌==◌, ◌&&◌}
use Rattle.funnel_model.specs.Sizes.{words_of_slice}
use Rattle.funnel_model.specs.Tunings.{treat}
use Rattle.funnel_model.specs.Words.{words}
use Rattle.funnel_model.specs.declared.bit_list.Bit.{Bit}
use Rattle.funnel_model.specs.declared.config.Config.{Config}
use Rattle.funnel_model.specs.declared.event.Event.{Event}
use Rattle.funnel_model.specs.declared.event.Event.TheVariants as event
use Rattle.funnel_model.proofs.Spans.{not_empty, split_at_end}
use Rattle.row_layout.specs.DocumentBits.{AreDocumentBitsIn}
use Rattle.row_layout.specs.Laws.{SoundBitsStandAtTheirColumn}
use Rattle.row_layout.specs.Sound.{HasItsBits, IsSound}

-- the empty history is sound
pub sound-start : (config : Config) → IsSound config []
sound-start config earlier e later whole = absurd (not_empty earlier later e (sym whole))

-- a sound history stays so with an event that has its bits
pub sound-push : (config : Config) (history : List Event) (e : Event) → IsSound config history → HasItsBits config history e → IsSound config (history ++ e ∷ [])
sound-push config history e sound its earlier x later whole =
    ⊎_elim
    (λ end. subst (HasItsBits config earlier) end.2 (subst (λ h. HasItsBits config h e) end.1 its))
    (λ more. sound earlier x more.0 more.2)
    (split_at_end history earlier later e x whole)

-- and its fronts are sound
pub sound_before : (config : Config) (history later : List Event) → IsSound config (history ++ later) → IsSound config history
sound_before config history later sound earlier e rest whole =
    sound earlier e (rest ++ later) (ap (λ h. h ++ later) whole ∙ append_assoc earlier (e ∷ rest) later)

-- the bits of a document at a column stand at the column's place in their words
placed : (room : ℕ) (config : Config) (set : List (List ℕ)) (slice column at : ℕ) (b : Bool) (bits : List Bit) (bit : Bit) → AreDocumentBitsIn room config set slice at bits →
    (b ≡ true → at ≡ column) → Contains (cond b bits []) bit → bit.bit ≡ column % 64
placed room config set slice column at true bits bit are same has =
    let from = (are.exactly bit).0 has in ap (λ (x : Bit). x.bit) from.2 ∙ ap (λ c. c % 64) (same refl)
placed room config set slice column at false bits bit are same has = absurd (omega (arith, has.1))

-- so do those of a sound add or move on the column
pub sound-place : SoundBitsStandAtTheirColumn
sound-place opening history (event.Add pass id text s c bits) slice column bit its has =
    placed (words_of_slice opening) (treat opening s history) (words text) s column c (s == slice && c == column) bits bit its
    (λ here. eqb-true c column (and_parts (s == slice) (c == column) here).1) has
sound-place opening history (event.Move pass id s c bits) slice column bit its has =
    placed (words_of_slice opening) (treat opening s history) (words (its.0).text) s column c (s == slice && c == column) bits bit its.3
    (λ here. eqb-true c column (and_parts (s == slice) (c == column) here).1) has
sound-place opening history _ slice column bit its has = absurd (omega (arith, has.1))
