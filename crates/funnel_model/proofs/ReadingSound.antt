-- The readings of the tokens of expressions: each factor is read whole, and what was read can be completed.
use Rattle.std.proofs.Common.{◌≡◌, ℕ, ◌+◌, ◌<◌, List, [], ◌∷◌, ◌++◌, length, refl, sym, ap, ap₂, ◌∙◌, subst, append_assoc, add-one, arith}
use Rattle.std.proofs.lemmas.List.{append-nil, length-append}
use Rattle.funnel_model.specs.Expressions.{Tree, Trees, atom, every, some, contrary, no_trees, tree, trees_of}
use Rattle.funnel_model.specs.Queries.{right, Spelled, spelled, in_order, parted, behind_bars, IsFactor, IsTerm, HaveFactors, AreFactors, HaveTerms, AreTerms}
use Rattle.funnel_model.specs.Readings.{Level, Reading, fresh, signed, with_factor, terms_with_last, IsComplete, Takes, opened_around, opened, Reads}
use Rattle.funnel_model.proofs.ReadingLemmas.{spell}

-- one reading after another
pub reads-append : (a : Reading) (xs : List Spelled) (b : Reading) (ys : List Spelled) (c : Reading) → Reads a xs b → Reads b ys c → Reads a (xs ++ ys) c
reads-append a [] b ys c first second = subst (λ (r : Reading). Reads r ys c) (sym first) second
reads-append a (x ∷ xs) b ys c first second = (first.0, first.1, first.2, reads-append first.1 xs b ys c first.3 second)

-- the trees as a list
abbrev pub list_of : Trees → List Tree
list_of no_trees = []
list_of (tree t ts) = t ∷ list_of ts

pub trees-list : (ts : Trees) → trees_of (list_of ts) ≡ ts
trees-list no_trees = refl
trees-list (tree t ts) = ap (tree t) (trees-list ts)

-- the level with these factors behind its own
abbrev pub with_factors : Level → Trees → Level
with_factors level fs = record { terms = level.terms; factors = level.factors ++ list_of fs; minuses = 0 }

-- the factors of a term
abbrev pub factors_of : Tree → Trees
factors_of (every fs) = fs
factors_of (atom bytes) = no_trees
factors_of (some ts) = no_trees
factors_of (contrary f) = no_trees

-- a level that was read to the end of an expression of these terms
pub record IsRead (before : Reading) (spelling : List Spelled) (terms : List Tree) : Type 0 where
  pub level : Level
  pub reads : Reads before spelling (record { inner = level; outer = before.outer })
  pub complete : IsComplete level
  pub same : terms_with_last level ≡ terms

factors-some : (level : Level) (fs : Trees) → HaveFactors fs → 0 < length (level.factors ++ list_of fs)
factors-some level no_trees have = absurd have
factors-some level (tree f fs) have = omega (arith, length-append level.factors (f ∷ list_of fs))

mutual
  -- a factor that comes next is read, with the minus signs before it
  pub reads-factor : (f : Tree) (r : Reading) → IsFactor f → Reads r (spelled (opened r) f) (record { inner = with_factor r.inner f; outer = r.outer })
  reads-factor (atom bytes) r is = (refl, record { inner = with_factor r.inner (atom bytes); outer = r.outer }, refl, refl)
  reads-factor (every fs) r is = absurd is
  reads-factor (contrary f) r is =
      let next : Reading = record { inner = record { terms = r.inner.terms; factors = r.inner.factors; minuses = r.inner.minuses + 1 }; outer = r.outer } in
      let deeper : opened next ≡ opened r + 1 = omega arith in
      let read : Reads next (spelled (opened r + 1) f) (record { inner = with_factor next.inner f; outer = r.outer }) =
      subst (λ (n : ℕ). Reads next (spelled n f) (record { inner = with_factor next.inner f; outer = r.outer })) deeper (reads-factor f next is) in (
        refl,
        next,
        refl,
        subst (λ (m : ℕ). Reads next (spelled (opened r + 1) f)
            (record { inner = record { terms = r.inner.terms; factors = r.inner.factors ++ signed m f ∷ []; minuses = 0 }; outer = r.outer }))
            (add-one r.inner.minuses) read,
      )
  reads-factor (some ts) r is =
      let opening : Reading = record { inner = fresh; outer = r.inner ∷ r.outer } in
      let read : IsRead opening (parted (opened r + 1) ts) (list_of ts) = reads-parted ts (r.inner ∷ r.outer) is in
      let end : Reading = record { inner = read.level; outer = r.inner ∷ r.outer } in
      let closed : Reading = record { inner = with_factor r.inner (some ts); outer = r.outer } in
      let same : trees_of (terms_with_last read.level) ≡ ts = ap trees_of read.same ∙ trees-list ts in
      let level : opened r + 1 ≡ opened end = omega (arith, read.complete.unsigned) in
      let closing : Takes end right closed =
      (read.complete, ap (λ (us : Trees). record { inner = with_factor r.inner (some us); outer = r.outer }) (sym same)) in
      let last : Reads end (spell right (opened r + 1) ∷ []) closed = (level, closed, closing, refl) in
      (refl, opening, refl, reads-append opening (parted (opened r + 1) ts) end (spell right (opened r + 1) ∷ []) closed read.reads last)

  -- so are the factors of a term
  pub reads-factors : (fs : Trees) (level : Level) (outer : List Level) → AreFactors fs → level.minuses ≡ 0 →
      Reads (record { inner = level; outer = outer }) (in_order (opened_around outer) fs) (record { inner = with_factors level fs; outer = outer })
  reads-factors no_trees level outer are unsigned =
      ap₂ (λ (factors : List Tree) (m : ℕ). record { inner = record { terms = level.terms; factors = factors; minuses = m }; outer = outer })
      (sym (append-nil level.factors)) unsigned
  reads-factors (tree f fs) level outer are unsigned =
      let here : Reading = record { inner = level; outer = outer } in
      let next : Reading = record { inner = record { terms = level.terms; factors = level.factors ++ f ∷ []; minuses = 0 }; outer = outer } in
      let end : Reading = record { inner = with_factors level (tree f fs); outer = outer } in
      let first : Reads here (spelled (opened_around outer) f) next =
      subst (λ (n : ℕ). Reads here (spelled n f) next) (omega (arith, unsigned))
      (subst (λ (m : ℕ). Reads here (spelled (opened here) f) (record { inner = record { terms = level.terms; factors = level.factors ++ signed m f ∷ []; minuses = 0 }; outer = outer }))
      unsigned (reads-factor f here are.0)) in
      let later : Reads next (in_order (opened_around outer) fs) end =
      subst (λ (factors : List Tree). Reads next (in_order (opened_around outer) fs) (record { inner = record { terms = level.terms; factors = factors; minuses = 0 }; outer = outer }))
      (append_assoc level.factors (f ∷ []) (list_of fs)) (reads-factors fs next.inner outer are.1 refl) in
      reads-append here (spelled (opened_around outer) f) next (in_order (opened_around outer) fs) end first later

  -- a term that comes next is read
  pub reads-term : (t : Tree) (terms : List Tree) (outer : List Level) → IsTerm t →
      Reads (record { inner = record { terms = terms; factors = []; minuses = 0 }; outer = outer }) (spelled (opened_around outer) t)
      (record { inner = record { terms = terms; factors = list_of (factors_of t); minuses = 0 }; outer = outer })
      × (0 < length (list_of (factors_of t))) × (every (factors_of t) ≡ t)
  reads-term (every no_trees) terms outer is = absurd is
  reads-term (every (tree f fs)) terms outer is =
      (reads-factors (tree f fs) (record { terms = terms; factors = []; minuses = 0 }) outer is refl, omega arith, refl)
  reads-term (atom bytes) terms outer is = absurd is
  reads-term (some ts) terms outer is = absurd is
  reads-term (contrary f) terms outer is = absurd is

  -- so are terms behind bars
  pub reads-behind : (ts : Trees) (level : Level) (outer : List Level) → AreTerms ts → IsComplete level →
      IsRead (record { inner = level; outer = outer }) (behind_bars (opened_around outer) ts) (terms_with_last level ++ list_of ts)
  reads-behind no_trees level outer are complete =
      record { level = level; reads = refl; complete = complete; same = sym (append-nil (terms_with_last level)) }
  reads-behind (tree t ts) level outer are complete =
      let n = opened_around outer in
      let here : Reading = record { inner = level; outer = outer } in
      let bars : Reading = record { inner = record { terms = terms_with_last level; factors = []; minuses = 0 }; outer = outer } in
      let read = reads-term t (terms_with_last level) outer are.0 in
      let last : Level = record { terms = terms_with_last level; factors = list_of (factors_of t); minuses = 0 } in
      let rest : IsRead (record { inner = last; outer = outer }) (behind_bars n ts) (terms_with_last last ++ list_of ts) =
      reads-behind ts last outer are.1 (record { unsigned = refl; any = read.1 }) in
      let end : Reading = record { inner = rest.level; outer = outer } in
      record {
        level = rest.level;
        reads = (
          omega (arith, complete.unsigned),
          bars,
          (complete, refl),
          reads-append bars (spelled n t) (record { inner = last; outer = outer }) (behind_bars n ts) end read.0 rest.reads,
        );
        complete = rest.complete;
        same = rest.same
            ∙ ap (λ (u : Tree). (terms_with_last level ++ u ∷ []) ++ list_of ts) (ap every (trees-list (factors_of t)) ∙ read.2)
            ∙ append_assoc (terms_with_last level) (t ∷ []) (list_of ts);
      }

  -- and an expression
  pub reads-parted : (ts : Trees) (outer : List Level) → HaveTerms ts →
      IsRead (record { inner = fresh; outer = outer }) (parted (opened_around outer) ts) (list_of ts)
  reads-parted no_trees outer have = absurd have
  reads-parted (tree t ts) outer have =
      let n = opened_around outer in
      let read = reads-term t [] outer have.0 in
      let first : Level = record { terms = []; factors = list_of (factors_of t); minuses = 0 } in
      let rest : IsRead (record { inner = first; outer = outer }) (behind_bars n ts) (terms_with_last first ++ list_of ts) =
      reads-behind ts first outer have.1 (record { unsigned = refl; any = read.1 }) in
      record {
        level = rest.level;
        reads = reads-append (record { inner = fresh; outer = outer }) (spelled n t) (record { inner = first; outer = outer }) (behind_bars n ts)
            (record { inner = rest.level; outer = outer }) read.0 rest.reads;
        complete = rest.complete;
        same = rest.same ∙ ap (λ (u : Tree). u ∷ list_of ts) (ap every (trees-list (factors_of t)) ∙ read.2);
      }
