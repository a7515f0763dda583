-- A handle and its parts own what a box at the same types owns, and a handle without an index owns nothing. Assumes `Logic`.
use Rattle.std.proofs.Common.{◌≡◌, List, [], ◌∷◌, refl}
use lib.Dec.{T, lit<}
use seplogic.Ra.Ura.{Ura}
use mir.Raw.{raw as bare}
use mir.Syntax.{impl, tnil, dnil}
use mir.Val.{Val, vstruct, vcons, vnil, vnull, has_ty, WT}
use base.Logic.{ent, guard, via, snd∗}
use types.Logic.{Logic, sem}
use types.Kit.{Goal, Item, Seq, ‵, feq_l}
use contract.Monad.{fact_use}
use base.Logic.{guard_i}
use base.Fraction.{full_share}
use denote.Memory.{lone}
use denote.RawPtr.{Ptr, Testable, lies_at, null_ptr}
use denote.Signature.{Slot, plain}
use Rattle.std.proofs.GlobalToken.{dealloc_token-Testable}
use Rattle.std.proofs.alloc.Calls.{Fits, α}
use Rattle.std.specs.declared.option.Option.{Option}
use Rattle.std.specs.declared.option.Option.TheVariants.{None, Some}
use Rattle.std.specs.Global.{Global}
use Rattle.std.specs.Box.Ownership.{box_owns}
use Rattle.std_alloc.proofs.ResultValues.{and_tt}
use Rattle.std_alloc.proofs.BoxSteps.Form.{Bx, box_ty}
use Rattle.std_heap.specs.contracts.Global as Heap
use Rattle.std_heap.specs.contracts.GlobalAllocator.TheImpl.{ghosts, dict}
use Rattle.std_heap.proofs.Global.TheLaws as heap
use Rattle.funnel_c.specs.contracts.index.Index as Index
use Rattle.funnel_c.proofs.index.Index.TheLaws as index
use Rattle.funnel_c.specs.contracts.handle.parts.Parts as Parts
use Rattle.funnel_c.specs.contracts.handle.Handle as Handle
use Rattle.funnel_c.specs.Handles.{handle_owns}

abbrev pub E : Bx
E = record { row = Index.the_row; laws = index.the_row_laws; al = record { row = Heap.the_row; laws = heap.the_row_laws; g = ghosts; d = dict; drops = impl [] tnil dnil } }

abbrev pub FromParts : Slot 0
FromParts = plain (λ _. Parts.the_row Index.the_row Heap.the_row ghosts)

abbrev pub FromHandle : Slot 0
FromHandle = plain (λ _. Handle.the_row)

-- the machine value of a handle
abbrev pub both : Val → Val → Val
both v w = vstruct (vcons v (vcons w vnil))

pub null_typed : (hv : Val) → Fits E.al hv → T (has_ty (box_ty E) (both vnull hv)) × WT (both vnull hv)
null_typed hv fa = (and_tt (has_ty (α E.al) hv) fa.0, (record { fits = lit< tt }, (fa.1, tt)))

abbrev pub boxed : Global → Ptr → Index.the_row.Denot → base.Fml.Fml
boxed a = box_owns (ghosts.dealloc_token a) Index.the_row

-- the pointer of a box may be compared with null
pub tested : {M : Type 1} {𝓤 : Ura M} (𝓛 : Logic 𝓤) (a : Global) (p : Ptr) (x : Index.the_row.Denot)
    → ent 𝓤 (sem 𝓛 (boxed a p x)) (guard 𝓤 (Testable p) (sem 𝓛 (boxed a p x)))
tested {𝓤 = 𝓤} 𝓛 a p x = let τ = bare (lone Index.the_row.mir) in
    fact_use 𝓤 (Testable p) (via 𝓤 _ (snd∗ 𝓤 (sem 𝓛 (lies_at Index.the_row full_share p x)) (sem 𝓛 (ghosts.dealloc_token a τ p))) (dealloc_token-Testable 𝓛 a τ p)) (guard_i 𝓤 (Testable p) (sem 𝓛 (boxed a p x)))

module _ {M : Type 1} {𝓤 : Ura M} {𝓛 : Logic 𝓤} {K : Type 0} {Γ : List (Item 𝓤)} {G : Goal 𝓤 𝓛.H} where
  -- a handle has an index or none
  pub either : K → (a : Global) (p : Ptr) (k : Option Index.the_row.Denot) → (k ≡ None → p ≡ null_ptr → Seq K 𝓛 Γ G)
      → ((x : Index.the_row.Denot) → k ≡ Some x → Seq K 𝓛 (‵ (boxed a p x) ∷ Γ) G) → Seq K 𝓛 (‵ (handle_owns a p k) ∷ Γ) G
  either t a p None none one = feq_l t (λ e. none refl e)
  either t a p (Some x) none one = one x refl
