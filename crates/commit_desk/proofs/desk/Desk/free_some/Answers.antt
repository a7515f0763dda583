use Rattle.std.proofs.Common.{◌≡◌, ◌⊎◌, ⊎_elim, ℕ, zero, suc, ◌+◌, ◌≤◌, List, [], ◌∷◌, ◌++◌, length, length-append, All, sym, ap, ◌∙◌, subst, arith}
use Rattle.std.proofs.lemmas.List.Elements.{All-append}
use Rattle.document_store.specs.Documents.{Parts}
use Rattle.commit_desk.specs.Desks.{DeskState}
use Rattle.commit_desk.specs.Leaving.{MayGo}
use Rattle.commit_desk.proofs.desk.Desk.free_some.Goals as goal

single : (P : Parts → Type 0) (doc : Parts) → P doc → All P (doc ∷ [])
single P doc here zero d below = here
single P doc here (suc k) d below = absurd (omega (arith, below))

-- nothing or one document more went, which might
abbrev GoesOne : DeskState → List Parts → List Parts → Type 0
GoesOne desk old new = (new ≡ old) ⊎ ((doc : Parts) × MayGo desk.history doc × (new ≡ old ++ doc ∷ []))

one-more : (before desk : DeskState) (old new : List Parts) → before ≡ desk → All (MayGo desk.history) old → GoesOne before old new → All (MayGo desk.history) new
one-more before desk old new same all goes =
    ⊎_elim (λ none. subst (All (MayGo desk.history)) (sym none) all)
    (λ one.
    subst (All (MayGo desk.history)) (sym one.2)
    (All-append (MayGo desk.history) old (one.0 ∷ []) all (single (MayGo desk.history) one.0 (subst (λ (d : DeskState). MayGo d.history one.0) same one.1))))
    goes

few-more : (desk : DeskState) (old new : List Parts) (n : ℕ) → length old ≤ n → GoesOne desk old new → length new ≤ n + 1
few-more desk old new n few goes =
    ⊎_elim (λ none. let long = ap length none in omega (arith, long, few))
    (λ one. let long = ap length one.2 in let both = length-append old (one.0 ∷ []) in omega (arith, long, both, few)) goes

pub returns-then-not-free_one-clause-gone : goal.returns-then-not-free_one-clause-gone
returns-then-not-free_one-clause-gone c =
    one-more c.loop.self c.args.self.now c.loop.gone c.free_one.new.gone c.loop.invariant.same c.loop.invariant.may_go c.free_one.ensures.gone

pub loop-preserved : goal.loop-preserved
loop-preserved c = record {
  few = few-more c.loop.self c.loop.gone c.free_one.new.gone c.loop.counter c.loop.invariant.few c.free_one.ensures.gone;
  may_go = one-more c.loop.self c.args.self.now c.loop.gone c.free_one.new.gone c.loop.invariant.same c.loop.invariant.may_go c.free_one.ensures.gone;
  same = c.free_one.ensures.same ∙ c.loop.invariant.same;
}
