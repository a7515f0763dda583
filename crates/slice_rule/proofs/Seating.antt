-- What holds of each seat, through moves that change no word.
use Rattle.std.proofs.Common.{◌≡◌, ℕ, zero, suc, List, [], ◌∷◌, ◌++◌, length, set, ◌<◌, refl, ap, sym, ◌∙◌, subst, arith, ⊎_elim, ◌⊎◌, inl, inr}
use Rattle.std.proofs.lemmas.Bool.{cases_eq}
use Rattle.std.proofs.lemmas.List.Elements.{All-append, All-cons, All-nil}
use mathlib.Core.Option.{some, some-injective, some-ne-none}
use mathlib.Core.List.{IsPrefix}
use lib.ListN.{get_elem?}
use Rattle.atomic_table.specs.Table.{State, Splits, Joins}
use Rattle.atomic_table.proofs.Lists.{at_longer, at_set, set_else, set_here}
use Rattle.funnel_model.specs.declared.config.Config.{Config}
use Rattle.funnel_model.specs.Legal.{Limits}
use Rattle.slice_rule.specs.declared.view.View.{View}
use Rattle.slice_rule.specs.Rule.{Fits, FitsRole, HasSizes, HaveSeats, IsHomeRole, IsKept, IsPassRole, IsSeatOfKind, IsTrueFact, KnowsByRole}
use Rattle.slice_rule.specs.declared.view.Role.{Role}
use Rattle.slice_rule.specs.declared.view.Role.TheVariants as role
use Rattle.slice_rule.specs.declared.view.Fact.{Fact}
use Rattle.slice_rule.specs.declared.view.Fact.TheVariants as fact
use Rattle.slice_rule.specs.Pools.{row_words}
use Rattle.slice_rule.specs.Views.{facts_of, note_of, spent, taken_in}
use Rattle.slice_rule.specs.Worlds.{World}
use Rattle.funnel_model.proofs.StepLemmas.{prefix_trans}
use Rattle.slice_rule.proofs.Prefixes.{prefix_self}
use Rattle.std.specs.List.{All}

-- a place where something stands is one of the list
there_is : {A : Type 0} (l : List A) (i : ℕ) (a : A) → get_elem? l i ≡ some a → i < length l
there_is [] i a e = absurd (some-ne-none a (sym e))
there_is (x ∷ xs) zero a e = omega arith
there_is (x ∷ xs) (suc i) a e = let n = there_is xs i a e in omega arith

-- what a seat's new role owes: it is that of the home, or of a pass, where the old one was
pub record KeepsKind (before after : Role) : Type 0 where
  pub home : IsHomeRole before → IsHomeRole after
  pub pass : (pass : ℕ) → IsPassRole pass before → IsPassRole pass after

pub same_kind : (before after : Role) → after ≡ before → KeepsKind before after
same_kind before after same = record {
  home = subst IsHomeRole (sym same);
  pass = λ pass. subst (IsPassRole pass) (sym same);
}

-- a note is neither
pub note_kind : (before after : Role) → before ≡ role.Note → KeepsKind before after
note_kind before after is = record {
  home = λ home. absurd (subst IsHomeRole is home);
  pass = λ pass other. absurd (let both = sym is ∙ other in cc);
}

-- the home stays the home
pub home_kind : (before after : Role) (numbered seats : ℕ) → before ≡ role.Home numbered seats → IsHomeRole after → KeepsKind before after
home_kind before after numbered seats is still = record {
  home = λ _. still;
  pass = λ pass other. absurd (let both = sym is ∙ other in cc);
}

-- a seat of a kind is there still where a seat gets a view of that kind, if it had one
kind-set : (HasKind : Role → Type 0) (views : List View) (id at_id : ℕ) (v w : View) → get_elem? views id ≡ some v → (HasKind v.role → HasKind w.role)
    → IsSeatOfKind HasKind views at_id → IsSeatOfKind HasKind (set views id w) at_id
kind-set HasKind views id at_id v w at keeps has =
    ⊎_elim
    (λ (here : at_id ≡ id).
    let same : has.view ≡ v = some-injective has.view v (sym has.at ∙ ap (get_elem? views) here ∙ at) in
    record {
      view = w;
      at = ap (get_elem? (set views id w)) here ∙ set_here views id w (there_is views id v at);
      kind = keeps (subst (λ (x : View). HasKind x.role) same has.kind);
    })
    (λ (other : at_id ≡ id → ⊥). record { view = has.view; at = set_else views id at_id w other ∙ has.at; kind = has.kind })
    (cases_eq at_id id)

-- and where there is a new seat
pub kind-snoc : (HasKind : Role → Type 0) (views : List View) (id : ℕ) (w : View) → IsSeatOfKind HasKind views id → IsSeatOfKind HasKind (views ++ w ∷ []) id
kind-snoc HasKind views id w has = record { view = has.view; at = at_longer views (w ∷ []) id has.view has.at; kind = has.kind }

-- the home and each pass have their seats still where a seat gets a view of the same kind
pub given-set : (world : World) (views : List View) (id : ℕ) (v w : View) → get_elem? views id ≡ some v → KeepsKind v.role w.role → HaveSeats world views → HaveSeats world (set views id w)
given-set world views id v w at keeps given = record {
  home = kind-set IsHomeRole views id world.home v w at keeps.home given.home;
  passes = λ pass small. kind-set (IsPassRole pass) views id (world.seat pass) v w at (keeps.pass pass) (given.passes pass small);
}

-- and where there is a new seat
pub given-snoc : (world : World) (views : List View) (w : View) → HaveSeats world views → HaveSeats world (views ++ w ∷ [])
given-snoc world views w given = record {
  home = kind-snoc IsHomeRole views world.home w given.home;
  passes = λ pass small. kind-snoc (IsPassRole pass) views (world.seat pass) w (given.passes pass small);
}

abbrev pub EachSeat : (ℕ → View → Type 0) → List View → Type 0
EachSeat P views = (id : ℕ) (v : View) → get_elem? views id ≡ some v → P id v

-- a new last element stands at the length
pub at_snoc_at : {A : Type 0} (l : List A) (a b : A) (j : ℕ) → get_elem? (l ++ a ∷ []) j ≡ some b → (get_elem? l j ≡ some b) ⊎ ((j ≡ length l) × (a ≡ b))
at_snoc_at [] a b zero e = inr (refl, some-injective a b e)
at_snoc_at [] a b (suc j) e = absurd (some-ne-none b (sym e))
at_snoc_at (x ∷ xs) a b zero e = inl e
at_snoc_at (x ∷ xs) a b (suc j) e = ⊎_elim (λ t. inl t) (λ t. let n = t.0 in inr (omega arith, t.1)) (at_snoc_at xs a b j e)

-- of each seat where one has a new view
pub each-set : (P : ℕ → View → Type 0) (views : List View) (id : ℕ) (w : View) → P id w
    → ((j : ℕ) (v : View) → (j ≡ id → ⊥) → get_elem? views j ≡ some v → P j v) → EachSeat P (set views id w)
each-set P views id w here others j v at =
    ⊎_elim (λ t. subst (λ (x : ℕ). P x v) (sym t.0) (subst (P id) t.1 here)) (λ t. others j v t.0 t.1) (at_set views id j w v at)

-- and where there is a new seat
pub each-snoc : (P : ℕ → View → Type 0) (views : List View) (w : View) → EachSeat P views → P (length views) w → EachSeat P (views ++ w ∷ [])
each-snoc P views w each here j v at =
    ⊎_elim (each j v) (λ t. subst (λ (x : ℕ). P x v) (sym t.0) (subst (P (length views)) t.1 here)) (at_snoc_at views w v j at)

-- the seat isn't spent
abbrev pub IsLive : Role → Type 0
IsLive role.Spent = ⊥
IsLive _ = Unit {0}

-- and so it has the sizes of the pool
pub live_sizes : (limits known : Limits) (role : Role) → IsLive role → HasSizes limits known role → known ≡ limits
live_sizes limits known (role.Home numbered seats) live sizes = sizes
live_sizes limits known (role.Pass pass) live sizes = sizes
live_sizes limits known role.Note live sizes = sizes
live_sizes limits known role.Spent live sizes = absurd live

module _ (limits : Limits) (config : Config) where
  -- no word changes
  seats_change : (s : State (Unit {0}) View) (r : IsKept limits config s) (views : List View) → HaveSeats r.world views → EachSeat (Fits limits config r.world s.words) views
      → IsKept limits config (record { words = s.words; homes = s.homes; views = views })
  seats_change s r views given seats = record {
    world = r.world;
    laid = r.laid;
    events = r.events;
    passes = r.passes;
    asked = r.asked;
    covers = r.covers;
    owners = r.owners;
    fresh = r.fresh;
    given = given;
    seats = seats;
  }

  -- one seat has a new view, and no word changes
  pub viewed : (s : State (Unit {0}) View) (r : IsKept limits config s) (id : ℕ) (v w : View) → get_elem? s.views id ≡ some v → w.role ≡ v.role → Fits limits config r.world s.words id w
      → IsKept limits config (record { words = s.words; homes = s.homes; views = set s.views id w })
  viewed s r id v w at same fits =
      seats_change s r (set s.views id w) (given-set r.world s.views id v w at (same_kind v.role w.role same) r.given)
      (each-set (Fits limits config r.world s.words) s.views id w fits (λ j x _. r.seats j x))

  -- a seat fits another world and other words, by what these owe its fronts, its facts, its role and what it has to know of owned bits
  pub refits : (world more : World) (words new : List ℕ) (id : ℕ) (v : View) → IsPrefix world.history more.history
      → ((facts : List Fact) → All (IsTrueFact limits world (row_words limits words)) facts → All (IsTrueFact limits more (row_words limits new)) facts)
      → (FitsRole world words id v.front v.asked v.role → FitsRole more new id v.front v.asked v.role)
      → (KnowsByRole limits config world.history (row_words limits words) v.asked v.own v.role → KnowsByRole limits config more.history (row_words limits new) v.asked v.own v.role)
      → Fits limits config world words id v → Fits limits config more new id v
  refits world more words new id v goes keeps role bits fits = record {
    sizes = fits.sizes;
    front = prefix_trans v.front world.history more.history fits.front goes;
    met = prefix_trans v.met world.history more.history fits.met goes;
    own = keeps v.own fits.own;
    told = keeps v.told fits.told;
    role = role fits.role;
    bits = bits fits.bits;
  }

  -- all that a seat can tell is true
  tells : (s : State (Unit {0}) View) (r : IsKept limits config s) (id : ℕ) (v : View) (role : Role) → Fits limits config r.world s.words id v → FitsRole r.world s.words id v.front v.asked role
      → All (IsTrueFact limits r.world (row_words limits s.words)) (facts_of role v)
  tells s r id v (role.Home numbered seats) fits role_fits = fits.told
  tells s r id v (role.Pass pass) fits role_fits =
      All-cons (IsTrueFact limits r.world (row_words limits s.words)) (fact.Asked pass v.asked) (v.own ++ v.told)
      (subst (IsPrefix v.asked) role_fits.all (prefix_self v.asked))
      (All-append (IsTrueFact limits r.world (row_words limits s.words)) v.own v.told fits.own fits.told)
  tells s r id v role.Note fits role_fits = fits.told
  tells s r id v role.Spent fits role_fits = fits.told

  -- a note fits where the seat that it is split from does
  pub note_fits : (s : State (Unit {0}) View) (r : IsKept limits config s) (id : ℕ) (v : View) (other : ℕ) → IsLive v.role → Fits limits config r.world s.words id v → Fits limits config r.world s.words other (note_of v)
  note_fits s r id v other live fits = record {
    sizes = live_sizes limits v.limits v.role live fits.sizes;
    front = fits.front;
    met = (r.world.history, refl);
    own = All-nil (IsTrueFact limits r.world (row_words limits s.words));
    told = tells s r id v v.role fits fits.role;
    role = tt;
    bits = tt;
  }

  pub splits_note : (id : ℕ) (v : View) → IsLive v.role → Splits (IsKept limits config) id v v (note_of v)
  splits_note id v live s r at =
      let views = set s.views id v in
      seats_change s r (views ++ note_of v ∷ [])
      (given-snoc r.world views (note_of v) (given-set r.world s.views id v v at (same_kind v.role v.role refl) r.given))
      (each-snoc (Fits limits config r.world s.words) views (note_of v)
      (each-set (Fits limits config r.world s.words) s.views id v (r.seats id v at) (λ j w _. r.seats j w))
      (note_fits s r id v (length views) live (r.seats id v at)))

  pub joins_note : (id : ℕ) (v : View) (other : ℕ) (w : View) → w.role ≡ role.Note → Joins (IsKept limits config) id v other w (taken_in v w) spent
  joins_note id v other w is_note s r at apart there =
      let mine = r.seats id v at in
      let others : EachSeat (Fits limits config r.world s.words) (set s.views id v) = each-set (Fits limits config r.world s.words) s.views id v mine (λ j x _. r.seats j x) in
      let note : Fits limits config r.world s.words other w =
      ⊎_elim (λ t. absurd (apart t.0)) (λ t. r.seats other w t.1) (at_set s.views id other (taken_in v w) w there) in
      let both : Fits limits config r.world s.words id (taken_in v w) = record {
        sizes = mine.sizes;
        front = mine.front;
        met = note.front;
        own = mine.own;
        told = All-append (IsTrueFact limits r.world (row_words limits s.words)) w.told v.told note.told mine.told;
        role = mine.role;
        bits = mine.bits;
      } in
      let nothing = All-nil (IsTrueFact limits r.world (row_words limits s.words)) in
      let views = set s.views id (taken_in v w) in
      seats_change s r (set views other spent)
      (given-set r.world views other w spent there (note_kind w.role role.Spent is_note)
      (given-set r.world s.views id v (taken_in v w) at (same_kind v.role v.role refl) r.given))
      (each-set (Fits limits config r.world s.words) views other spent
      (record { sizes = tt; front = (r.world.history, refl); met = (r.world.history, refl); own = nothing; told = nothing; role = tt; bits = tt })
      (λ j x _ here. each-set (Fits limits config r.world s.words) s.views id (taken_in v w) both (λ k y _. r.seats k y) j x here))
