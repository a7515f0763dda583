-- What was read of searches at a column: of one, of all of several, and of some of several, entry by entry.
use Rattle.std.proofs.Common.{◌≡◌, ℕ, ◌&&◌, ◌||◌, Bool, true, false, not, List, refl, sym, ap, ap₂, ◌∙◌, subst}
use Rattle.std.specs.List.{list_all, list_any}
use Rattle.std.specs.declared.option.Option.{Option}
use Rattle.std.proofs.lemmas.Bool.{false_from_ne_true, false≢true}
use Rattle.std.proofs.lemmas.List.Elements.{All-weaker}
use Rattle.funnel_model.proofs.SearchLemmas.{alike-weaker, each-weaker}
use Rattle.funnel_model.specs.Searches.{Search, Searches, AreAlike, AreEachAlike, AreEachTold, AreToldWhileTheyMay, all_of, atom_of, each_may, each_sure, entry, may, no_entries, not_of, some_of, sure}
use Rattle.funnel_model.specs.declared.bit_list.Bit.{Bit}
use Rattle.row_layout.specs.AtomReads.{AtomPlan, AtomRead, BitRead, Tells, as_set, as_zero, is_known, is_ruled_out, unread}
use Rattle.row_layout.specs.DocumentBits.{bit_from}
use Rattle.row_layout.specs.declared.row.Row.{Row}
use Rattle.rank_matcher.proofs.Entries.{joined}
use Rattle.rank_matcher.proofs.RowReads.{unread_rows, unread-rows, unread-tells}
use Rattle.rank_matcher.specs.Evaluation.{HasReadAll, HasReadRows, HasReadSearch, HasReadSome, IsToldOf, WasReadAt, WasReadSet, WasReadZero}

not-not : (b : Bool) → not (not b) ≡ b
not-not true = refl
not-not false = refl

one-of : (b : Bool) → (not b || b) ≡ true
one-of true = refl
one-of false = refl

and-true : (b : Bool) → (b && true) ≡ b
and-true true = refl
and-true false = refl

or-false : (b : Bool) → (b || false) ≡ b
or-false true = refl
or-false false = refl

and-last : (a b c : Bool) → ((a && b) && c) ≡ (a && (b && c))
and-last true b c = refl
and-last false b c = refl

or-last : (a b c : Bool) → ((a || b) || c) ≡ (a || (b || c))
or-last true b c = refl
or-last false b c = refl

-- one entry more
module _ {A B : Type 0} (Fits : A → B → Type 0) where
  alike-push : (es : Searches A) (fs : Searches B) (e : Search A) (f : Search B) → AreEachAlike Fits es fs → AreAlike Fits e f →
      AreEachAlike Fits (joined es (entry e no_entries)) (joined fs (entry f no_entries))
  alike-push no_entries no_entries e f alike is = (is, tt)
  alike-push (entry x es) (entry y fs) e f alike is = (alike.0, alike-push es fs e f alike.1 is)
  alike-push no_entries (entry y fs) e f alike is = absurd alike
  alike-push (entry x es) no_entries e f alike is = absurd alike

  alike-join : (es : Searches A) (fs : Searches B) (later : Searches A) (reads : Searches B) → AreEachAlike Fits es fs → AreEachAlike Fits later reads →
      AreEachAlike Fits (joined es later) (joined fs reads)
  alike-join no_entries no_entries later reads alike are = are
  alike-join (entry x es) (entry y fs) later reads alike are = (alike.0, alike-join es fs later reads alike.1 are)
  alike-join no_entries (entry y fs) later reads alike are = absurd alike
  alike-join (entry x es) no_entries later reads alike are = absurd alike

abbrev may_of : Search AtomRead → Bool
may_of = may is_ruled_out is_known

abbrev all_may : Searches AtomRead → Bool
all_may reads = list_all (λ b. b) (each_may is_ruled_out is_known reads)

abbrev all_sure : Searches AtomRead → Bool
all_sure reads = list_all (λ b. b) (each_sure is_ruled_out is_known reads)

abbrev some_may : Searches AtomRead → Bool
some_may reads = list_any (λ b. b) (each_may is_ruled_out is_known reads)

abbrev some_sure : Searches AtomRead → Bool
some_sure reads = list_any (λ b. b) (each_sure is_ruled_out is_known reads)

all_may-join : (reads later : Searches AtomRead) → all_may (joined reads later) ≡ (all_may reads && all_may later)
all_may-join no_entries later = refl
all_may-join (entry r reads) later = ap (λ b. may_of r && b) (all_may-join reads later) ∙ sym (and-last (may_of r) (all_may reads) (all_may later))

all_sure-join : (reads later : Searches AtomRead) → all_sure (joined reads later) ≡ (all_sure reads && all_sure later)
all_sure-join no_entries later = refl
all_sure-join (entry r reads) later =
    ap (λ b. sure is_ruled_out is_known r && b) (all_sure-join reads later) ∙ sym (and-last (sure is_ruled_out is_known r) (all_sure reads) (all_sure later))

some_may-join : (reads later : Searches AtomRead) → some_may (joined reads later) ≡ (some_may reads || some_may later)
some_may-join no_entries later = refl
some_may-join (entry r reads) later = ap (λ b. may_of r || b) (some_may-join reads later) ∙ sym (or-last (may_of r) (some_may reads) (some_may later))

some_sure-join : (reads later : Searches AtomRead) → some_sure (joined reads later) ≡ (some_sure reads || some_sure later)
some_sure-join no_entries later = refl
some_sure-join (entry r reads) later =
    ap (λ b. sure is_ruled_out is_known r || b) (some_sure-join reads later) ∙ sym (or-last (sure is_ruled_out is_known r) (some_sure reads) (some_sure later))

abbrev ToldWhile : Searches AtomRead → Type 0
ToldWhile = AreToldWhileTheyMay IsToldOf is_ruled_out is_known

abbrev ToldEach : Searches AtomRead → Type 0
ToldEach = AreEachTold IsToldOf is_ruled_out is_known

while-join : (reads later : Searches AtomRead) → ToldWhile reads → (all_may reads ≡ true → ToldWhile later) → ToldWhile (joined reads later)
while-join no_entries later told more = more refl
while-join (entry r reads) later told more =
    (told.0, λ open'. while-join reads later (told.1 open') (λ all. more (ap (λ b. b && all_may reads) open' ∙ all)))

told-join : (reads later : Searches AtomRead) → ToldEach reads → ToldEach later → ToldEach (joined reads later)
told-join no_entries later told more = more
told-join (entry r reads) later told more = (told.0, told-join reads later told.1 more)

-- what was read under other names of the same words
module _ (told other : Option (List ℕ)) (least must seen after : Bit → Type 0) (first column : ℕ)
    (same : other ≡ told) (fewer : (bit : Bit) → must bit → least bit) (more : (bit : Bit) → seen bit → after bit) where
  tells-again : (read : BitRead) (bit : Bit) → Tells (WasReadZero told least) (WasReadSet told seen) read bit → Tells (WasReadZero other must) (WasReadSet other after) read bit
  tells-again unread bit tells = tt
  tells-again as_zero bit tells = record { not_least = λ has. tells.not_least (fewer bit has); told_is = λ words is. tells.told_is words (sym same ∙ is) }
  tells-again as_set bit tells = record { was_seen = more bit tells.was_seen; told_is = λ words is. tells.told_is words (sym same ∙ is) }

  at-again : (plan : AtomPlan) (read : AtomRead) → WasReadAt told least seen first column plan read → WasReadAt other must after first column plan read
  at-again plan read was = record {
    of_plan = was.of_plan;
    tells = All-weaker (λ b. Tells (WasReadZero told least) (WasReadSet told seen) b.1 (bit_from first column b.0))
        (λ b. Tells (WasReadZero other must) (WasReadSet other after) b.1 (bit_from first column b.0)) (λ b. tells-again b.1 (bit_from first column b.0)) read.bits was.tells;
  }

  pub search-again : (search : Search AtomPlan) (m s : Bool) → HasReadSearch told least seen first column search m s → HasReadSearch other must after first column search m s
  search-again search m s has = record {
    read = has.read;
    was_read = alike-weaker (WasReadAt told least seen first column) (WasReadAt other must after first column) at-again search has.read has.was_read;
    whole = has.whole;
    may_is = has.may_is;
    sure_as = has.sure_as;
  }

  each-again : (searches : Searches AtomPlan) (reads : Searches AtomRead) → AreEachAlike (WasReadAt told least seen first column) searches reads →
      AreEachAlike (WasReadAt other must after first column) searches reads
  each-again = each-weaker (WasReadAt told least seen first column) (WasReadAt other must after first column) at-again

  pub all-again : (searches : Searches AtomPlan) (m s : Bool) → HasReadAll told least seen first column searches m s → HasReadAll other must after first column searches m s
  all-again searches m s has = record {
    reads = has.reads;
    were_read = each-again searches has.reads has.were_read;
    whole = has.whole;
    may_is = has.may_is;
    sure_as = has.sure_as;
  }

  pub some-again : (searches : Searches AtomPlan) (m s : Bool) → HasReadSome told least seen first column searches m s → HasReadSome other must after first column searches m s
  some-again searches m s has = record {
    reads = has.reads;
    were_read = each-again searches has.reads has.were_read;
    whole = has.whole;
    may_is = has.may_is;
    sure_as = has.sure_as;
  }

module _ (told : Option (List ℕ)) (least seen : Bit → Type 0) (first column : ℕ) where
  abbrev Fits : AtomPlan → AtomRead → Type 0
  Fits = WasReadAt told least seen first column

  -- a search of which nothing was read
  abbrev mutual
    blank : Search AtomPlan → Search AtomRead
    blank (atom_of plan) = atom_of (record { bits = unread_rows told least first column plan.rows; exact = plan.exact })
    blank (all_of es) = all_of (blanks es)
    blank (some_of es) = some_of (blanks es)
    blank (not_of e) = not_of (blank e)

    blanks : Searches AtomPlan → Searches AtomRead
    blanks no_entries = no_entries
    blanks (entry e es) = entry (blank e) (blanks es)

  mutual
    blank-read : (search : Search AtomPlan) → AreAlike Fits search (blank search)
    blank-read (atom_of plan) = record {
      of_plan = record { rows = unread-rows told least first column plan.rows; exact = refl };
      tells = unread-tells told least first column seen plan.rows;
    }
    blank-read (all_of es) = blanks-read es
    blank-read (some_of es) = blanks-read es
    blank-read (not_of e) = blank-read e

    blanks-read : (searches : Searches AtomPlan) → AreEachAlike Fits searches (blanks searches)
    blanks-read no_entries = tt
    blanks-read (entry e es) = (blank-read e, blanks-read es)

  -- an atom
  pub read-atom : (plan : AtomPlan) (exact : Bool) (rows : List Row) (left : Bool) → plan.exact ≡ exact → rows ≡ plan.rows →
      HasReadRows told least seen first column rows left → HasReadSearch told least seen first column (atom_of plan) left (exact && left)
  read-atom plan exact rows left same are has = record {
    read = atom_of (record { bits = has.bits; exact = exact });
    was_read = record { of_plan = record { rows = has.rows_are ∙ are; exact = sym same }; tells = has.tells };
    whole = ap₂ (λ a b. a || b) has.zero has.set ∙ one-of left;
    may_is = ap not has.zero ∙ not-not left;
    sure_as = ap (λ b. exact && b) has.set;
  }

  -- the contrary of a search
  pub read-not : (e : Search AtomPlan) (m s : Bool) → HasReadSearch told least seen first column e m s → HasReadSearch told least seen first column (not_of e) (not s) (not m)
  read-not e m s has = record { read = not_of has.read; was_read = has.was_read; whole = has.whole; may_is = ap not has.sure_as; sure_as = ap not has.may_is }

  pub read-all : (es : Searches AtomPlan) (m s : Bool) → HasReadAll told least seen first column es m s → HasReadSearch told least seen first column (all_of es) m s
  read-all es m s has = record { read = all_of has.reads; was_read = has.were_read; whole = has.whole; may_is = has.may_is; sure_as = has.sure_as }

  pub read-some : (es : Searches AtomPlan) (m s : Bool) → HasReadSome told least seen first column es m s → HasReadSearch told least seen first column (some_of es) m s
  read-some es m s has = record { read = some_of has.reads; was_read = has.were_read; whole = has.whole; may_is = has.may_is; sure_as = has.sure_as }

  -- none of several
  pub all-none : HasReadAll told least seen first column no_entries true true
  all-none = record { reads = no_entries; were_read = tt; whole = tt; may_is = refl; sure_as = refl }

  pub some-none : HasReadSome told least seen first column no_entries false false
  some-none = record { reads = no_entries; were_read = tt; whole = tt; may_is = refl; sure_as = refl }

  -- one more, which was read
  pub all-read : (es : Searches AtomPlan) (e : Search AtomPlan) (m s m' s' : Bool) → HasReadAll told least seen first column es m s → m ≡ true →
      HasReadSearch told least seen first column e m' s' → HasReadAll told least seen first column (joined es (entry e no_entries)) m' (s && s')
  all-read es e m s m' s' has open' next = record {
    reads = joined has.reads (entry next.read no_entries);
    were_read = alike-push Fits es has.reads e next.read has.were_read next.was_read;
    whole = while-join has.reads (entry next.read no_entries) has.whole (λ all. (next.whole, λ is. tt));
    may_is = all_may-join has.reads (entry next.read no_entries)
        ∙ ap₂ (λ a b. a && b) (has.may_is ∙ open') (and-true (may_of next.read) ∙ next.may_is);
    sure_as = all_sure-join has.reads (entry next.read no_entries)
        ∙ ap₂ (λ a b. a && b) has.sure_as (and-true (sure is_ruled_out is_known next.read) ∙ next.sure_as);
  }

  -- more of them, behind one that may not
  pub all-unread : (es later : Searches AtomPlan) (m s : Bool) → HasReadAll told least seen first column es m s → m ≡ false → s ≡ false →
      HasReadAll told least seen first column (joined es later) false false
  all-unread es later m s has out unsure = record {
    reads = joined has.reads (blanks later);
    were_read = alike-join Fits es has.reads later (blanks later) has.were_read (blanks-read later);
    whole = while-join has.reads (blanks later) has.whole (λ all. absurd (false≢true (sym (has.may_is ∙ out) ∙ all)));
    may_is = all_may-join has.reads (blanks later) ∙ ap (λ b. b && all_may (blanks later)) (has.may_is ∙ out);
    sure_as = all_sure-join has.reads (blanks later) ∙ ap (λ b. b && all_sure (blanks later)) (has.sure_as ∙ unsure);
  }

  -- one more, which was read where those before it may
  pub all-step : (es : Searches AtomPlan) (e : Search AtomPlan) (m s m' s' : Bool) → HasReadAll told least seen first column es m s →
      (m ≡ true → HasReadSearch told least seen first column e m' s') → (m' ≡ true → m ≡ true) → (s ≡ true → m ≡ true) →
      HasReadAll told least seen first column (joined es (entry e no_entries)) m' (s && s')
  all-step es e true s m' s' has next within unsure = all-read es e true s m' s' has refl (next refl)
  all-step es e false s m' s' has next within unsure =
      let out : m' ≡ false = false_from_ne_true m' (λ is. false≢true (within is)) in
      let none : s ≡ false = false_from_ne_true s (λ is. false≢true (unsure is)) in
      subst (λ b. HasReadAll told least seen first column (joined es (entry e no_entries)) m' (b && s')) (sym none)
      (subst (λ b. HasReadAll told least seen first column (joined es (entry e no_entries)) b false) (sym out)
      (all-unread es (entry e no_entries) false s has refl none))

  -- one of which some may be kept
  pub some-read : (es : Searches AtomPlan) (e : Search AtomPlan) (m s m' s' : Bool) → HasReadSome told least seen first column es m s →
      HasReadSearch told least seen first column e m' s' → HasReadSome told least seen first column (joined es (entry e no_entries)) (m || m') (s || s')
  some-read es e m s m' s' has next = record {
    reads = joined has.reads (entry next.read no_entries);
    were_read = alike-push Fits es has.reads e next.read has.were_read next.was_read;
    whole = told-join has.reads (entry next.read no_entries) has.whole (next.whole, tt);
    may_is = some_may-join has.reads (entry next.read no_entries) ∙ ap₂ (λ a b. a || b) has.may_is (or-false (may_of next.read) ∙ next.may_is);
    sure_as = some_sure-join has.reads (entry next.read no_entries)
        ∙ ap₂ (λ a b. a || b) has.sure_as (or-false (sure is_ruled_out is_known next.read) ∙ next.sure_as);
  }
