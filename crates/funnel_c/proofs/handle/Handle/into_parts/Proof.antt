-- `into_parts` tests the pointer, and what the handle owns goes with it.
use mathlib.Core.Path.{◌≡◌, refl, sym, subst}
use mathlib.Core.List.{List, [], ◌∷◌, ◌++◌}
use lib.Dec.{T, lit<}
use mir.Val.{Val, vnull, vcons, vnil, vstruct, of_list, has_ty, WT}
use base.Logic.{SProp, ent, emp, id⊢}
use base.Fml.{ftrue, fsep}
use prog.Wp.{WpFn}
use types.Kit.{Item, ‵, raw, ◌⊛◌, given, at_ret, ◌$◌, ◌∵◌, !, qed, by, move, keep, drop, use0, use1, split, learn, fsplit, fjoin, fpick, feq_l, join, suffices, done}
use types.Part.{whole, sub, agg}
use types.Match.{live}
use types.Run.{stop, fld, lit, of_opd, bin, no_more, and_then, first, branches, exec, returns, enter}
use types.ByLocal.{alloc_all, pass_all, free_all, look_at, get, get_in, sets, sets_last, env}
use contract.Running.{tables}
use denote.Exit.{yes}
use denote.RawPtr.{Ptr, block_ptr, ptr_val, Testable, tests_null}
use denote.Param.{layout}
use denote.RattleType.{RattleType}
use denote.Signature.{type_at}
use denote.Steps.{nothing}
use denote.Triple.Walked.{Stays, stay_dropped, walk_of, ends_at, says, Goes-dropped}
use Rattle.std.proofs.VecSteps.Shapes.{after}
use Rattle.std.proofs.raw_atomic.Walks.{proved_at}
use Rattle.std.proofs.option.Made.{Some-of, none_of}
use Rattle.std.proofs.alloc.Calls.{handle_tells}
use Rattle.std.specs.declared.option.Option.TheVariants.{None, Some}
use Rattle.std_alloc.proofs.ResultValues.{and_tt}
use Rattle.std_alloc.proofs.BoxSteps.Form.{D, B, word, box_typed}
use Rattle.std_alloc.proofs.BoxSteps.Steps.{box_out, box_in}
use Rattle.std_heap.specs.contracts.Global as Heap
use Rattle.std_heap.specs.contracts.GlobalAllocator.TheImpl.{ghosts}
use Rattle.funnel_c.specs.contracts.index.Index as Index
use Rattle.funnel_c.specs.contracts.handle.parts.Parts as Parts
use Rattle.funnel_c.proofs.AsBox.{E, FromHandle as From, both, boxed, null_typed, tested, either}
use Rattle.funnel_c.specs.contracts.handle.Handle as Handle
use Rattle.funnel_c.specs.contracts.handle.Handle.into_parts as F
use Rattle.funnel_c.specs.contracts.handle.Handle.into_parts.Key.{name as #self}
use Rattle.funnel_c.proofs.handle.Handle.into_parts.Statement as stated
use Rattle.funnel_c.proofs.handle.Handle.into_parts.Code as code

abbrev stayed : Stays (F.ended).signature.params (F.ended).kept
stayed = (stay_dropped From yes, tt)

abbrev To : RattleType
To = Parts.the_row Index.the_row Heap.the_row ghosts

pub into_parts_spec : {M : Type 1} → stated.statement M
into_parts_spec 𝓤 𝓛 𝓜 𝓡 wired =
    let H = 𝓛.H in let 𝓣 = tables 𝓤 H 𝓜 𝓡 𝓡.env in let c = F.clauses 𝓛 𝓜.mem 𝓡.returns in let fn = code.function in
    proved_at 𝓛 F.ended stayed c 𝓜 𝓡 (Goes-dropped 𝓛 0 From yes (λ κs x f. refl), tt) #self fn (code.unfolded 𝓤 H 𝓜 𝓡 wired) (λ z are.
    let Post = (walk_of 𝓛 F.ended stayed c).post z in let d = z.0.3.0 in let vs = z.0.4.0 in let Out : RattleType = type_at (F.ended).signature.result tt in
    let Run : List Val → SProp 𝓤 = λ us. WpFn 𝓤 H 𝓣.C 𝓣.Λ fn (us ++ []) Post in
    qed 𝓛 ((‵ ftrue ⊛ ‵ (fsep (Handle.the_row.own_val d vs) ftrue)) ∷ raw (emp 𝓤) ∷ []) ∵ split ! $ drop ! $ fsplit ! $ fsplit ! $ move ! (1 ∷ []) $
    either ! d.alloc d.ptr d.index
    (λ none at_null. fpick ! (λ vss. fsplit ! $ feq_l ! (λ ev. fsplit ! $ feq_l ! (λ ep. fsplit ! $ handle_tells E.al ! d.alloc vss.1.0 (λ hv ea fa.
    let w : Val = both vnull hv in let typed = null_typed hv fa in
    let ws = subst (λ (p : Ptr). vs ≡ both (ptr_val p) hv ∷ []) at_null
    (subst (λ (us : List Val). vs ≡ vstruct (of_list (ptr_val d.ptr ∷ (us ++ []))) ∷ []) ea (subst (λ (ps : List Val). vs ≡ vstruct (of_list (ps ++ (vss.1.0 ++ []))) ∷ []) ep ev)) in
    let Γ : List (Item 𝓤) = ‵ (Heap.the_row.own_val d.alloc (hv ∷ [])) ∷ ‵ ftrue ∷ ‵ ftrue ∷ raw (emp 𝓤) ∷ [] in
    by ! (subst (λ (us : List Val). ent 𝓤 (types.Kit.⋆ 𝓛 Γ) (Run us)) (sym ws)
    (qed 𝓛 Γ ∵ enter ! 𝓣.C 𝓣.Λ fn (w ∷ []) Post $ alloc_all ! (λ ls. pass_all ! refl (typed, tt) $ let En = env fn.locals ls in
    sets ! (of_opd ! (get_in ! (fld ! refl (stop !)) (sub ! 0 refl (whole !)))) refl (tt, record { fits = lit< tt }) $ sets ! (of_opd ! (get_in ! (fld ! refl (stop !)) (sub ! 1 refl (whole !)))) refl fa $
    sets ! (bin ! (get ! refl) (lit ! tt) tt) refl (tt, tt) $ first ! $ branches ! (get ! refl)
    (λ _. sets_last ! (agg ! (and_then ! (lit ! tt) (no_more !))) refl (tt, (record { fits = lit< tt }, tt)) $ exec ! 𝓣.C 𝓣.Λ En (after 4 fn.body) (at_ret En Post) $
    sets ! (of_opd ! (get ! refl)) refl (tt, (record { fits = lit< tt }, tt)) $ returns ! (look_at ! 0 refl) $ free_all ! refl $
    drop ! $ drop ! $ drop ! $ drop ! $ use0 𝓛 (‵ (Out.own_val None (live 0 vnil ∷ []))) (none_of 𝓛 To) $
    suffices ! _ (ends_at 𝓛 F.ended stayed c z (live 0 vnil) None (tt, tt) (tt, tt)) $ says ! none $
    nothing ! $ nothing ! $ fjoin ! $ join ! $ nothing ! $ join ! $ done !)
    (λ wrong. absurd wrong)))))))))
    (λ x is. use1 𝓛 (given (Testable d.ptr) (‵ (boxed d.alloc d.ptr x))) (tested 𝓛 d.alloc d.ptr x) $ learn ! (λ may. move ! (1 ∷ 0 ∷ []) $ fjoin ! $
    let v : D E = record { ptr = d.ptr; alloc = d.alloc; value = x } in let made : To.Denot = record { ptr = d.ptr; alloc = d.alloc; value = x } in
    use1 𝓛 (‵ ((B E).own_val v vs)) (id⊢ 𝓤 _) $ box_out E ! v vs (λ b o hv e ws fa. box_in E ! v b o x e refl $ use1 𝓛 (‵ (To.own_val made (word E hv b o ∷ []))) (id⊢ 𝓤 _) $
    let w : Val = word E hv b o in let typed = box_typed E hv b o fa in let out : Val = live 1 (vcons w vnil) in
    let good : T (has_ty (layout Out) out) × WT out = (and_tt _ typed.0, (record { fits = lit< tt }, (typed.1, tt))) in
    let Γ : List (Item 𝓤) = ‵ (To.own_val made (w ∷ [])) ∷ ‵ ftrue ∷ raw (emp 𝓤) ∷ [] in
    by ! (subst (λ (us : List Val). ent 𝓤 (types.Kit.⋆ 𝓛 Γ) (Run us)) (sym ws)
    (qed 𝓛 Γ ∵ enter ! 𝓣.C 𝓣.Λ fn (w ∷ []) Post $ alloc_all ! (λ ls. pass_all ! refl (typed, tt) $ let En = env fn.locals ls in
    sets ! (of_opd ! (get_in ! (fld ! refl (stop !)) (sub ! 0 refl (whole !)))) refl (tt, tt) $ sets ! (of_opd ! (get_in ! (fld ! refl (stop !)) (sub ! 1 refl (whole !)))) refl fa $
    sets ! (bin ! (get ! refl) (lit ! tt) (tests_null (block_ptr b o) (subst Testable e may))) refl (tt, tt) $ first ! $ branches ! (get ! refl) (λ wrong. absurd wrong)
    (λ _. sets ! (of_opd ! (get ! refl)) refl (tt, tt) $ sets ! (agg ! (and_then ! (get ! refl) (and_then ! (get ! refl) (no_more !)))) refl typed $
    sets_last ! (agg ! (and_then ! (lit ! tt) (and_then ! (get ! refl) (no_more !)))) refl good $ exec ! 𝓣.C 𝓣.Λ En (after 4 fn.body) (at_ret En Post) $
    sets ! (of_opd ! (get ! refl)) refl good $ returns ! (look_at ! 0 refl) $ free_all ! refl $
    use1 𝓛 (‵ (Out.own_val (Some made) (out ∷ []))) (Some-of 𝓛 To made w) $ move ! (1 ∷ 2 ∷ []) $ drop ! $ drop ! $
    suffices ! _ (ends_at 𝓛 F.ended stayed c z out (Some made) (tt, tt) (tt, tt)) $ says ! is $
    nothing ! $ nothing ! $ fjoin ! $ join ! $ nothing ! $ join ! $ done !))))))))
