-- Scans for a search, word by word.
use Rattle.std.proofs.Common.{◌≡◌, ◌↔◌, ℕ, ◌+◌, ◌-◌, ◌*◌, ◌%◌, ◌<◌, ◌≤◌, ◌&&◌, ◌||◌, Bool, true, false, not, zero, suc, inl, inr, eqb, List, [], ◌∷◌, ◌++◌, Contains, map, refl, sym, ap, ap₂, ◌∙◌, subst, arith}
use Rattle.std.specs.Prelude.{IsOk, OnOk, Result, Ok, Err}
use Rattle.std.specs.List.{All, list_any}
use Rattle.std.specs.List.Sorted.{IsStrictlySortedBy}
use Rattle.std.specs.Ordering.{nat_cmp}
use Rattle.std.specs.declared.option.Option.{Option}
use Rattle.std.specs.declared.option.Option.TheVariants.{Some}
use Rattle.std.proofs.lemmas.Bool.{and_parts, cases_lt, false≢true, or_cases}
use Rattle.std.proofs.lemmas.Bool.Decides.{nat_tests}
use Rattle.std.proofs.lemmas.List.{append-nil}
use Rattle.std.proofs.lemmas.Map.Keys.{below_from_sorted}
use Rattle.std.proofs.lemmas.List.Elements.{All-contains, All-nil, All-weaker}
use Rattle.funnel_model.proofs.AnswerLemmas.{Contains-cons}
use Rattle.funnel_model.proofs.WordLemmas.{one_test}
use Rattle.funnel_model.specs.Searches.{Searches, no_entries}
use Rattle.funnel_model.specs.Sizes.{columns_of_slice}
use Rattle.funnel_model.specs.declared.bit_list.Bit.{Bit}
use Rattle.funnel_model.specs.declared.memory.Memory.{Memory}
use Rattle.row_layout.specs.AtomReads.{AtomPlan}
use Rattle.row_layout.specs.DocumentBits.{bit_of_row, slice_start}
use Rattle.row_layout.specs.Layouts.{LayoutId}
use Rattle.row_layout.specs.declared.row.Row.{Row}
use Rattle.rank_matcher.specs.Appended.{AppendsColumns, HasBits, HasEachWithBits, appended, candidates_of}
use Rattle.rank_matcher.specs.Evaluation.{ForEachBit, HasReadAll, IsWithin}
use Rattle.rank_matcher.specs.Hits.{hits, is_hit}
use Rattle.rank_matcher.specs.Left.{AreRisingFrom}
use Rattle.rank_matcher.specs.Reads.{ScansTold, ScansWords}
use Rattle.rank_matcher.specs.SearchScans.{HasSearched, IsLeftBy, ScansFor}
use Rattle.rank_matcher.specs.SetBits.{set_bits}
use Rattle.rank_matcher.specs.SliceScans.{ScansSlice}
use Rattle.rank_matcher.specs.Walk.{has_column, passing}
use Rattle.rank_matcher.proofs.Intersections.{when_told}
use Rattle.rank_matcher.proofs.Passing.{appended-is, candidates-append, joined, joined-before, joined-from, passing-none, passing-same, passing-split, passing-word}
use Rattle.rank_matcher.proofs.Ranges.{passing-all, passing-contains, passing-rising}
use Rattle.rank_matcher.proofs.Bits.{has_bit-zero}
use Rattle.rank_matcher.proofs.SetBits.{no_set_bits}
use Rattle.rank_matcher.proofs.SearchReads.{all-again, all-none}
use Rattle.rank_matcher.proofs.Walks.{on_ok}
use Rattle.row_read.specs.Bits.{has_bit}

and-within : (a b : Bool) → (b ≡ true → a ≡ true) → (a && b) ≡ b
and-within true b within = refl
and-within false true within = within refl
and-within false false within = refl

-- before the first word no column is searched
pub searched-none : (told : Option (List ℕ)) (least seen : Bit → Type 0) (first : ℕ) (searches : Searches AtomPlan) (is_left : ℕ → Bool) (slice : ℕ) (sure unsure : List (ℕ × ℕ))
    → HasSearched told least seen first searches is_left slice 0 sure sure unsure unsure
searched-none told least seen first searches is_left slice sure unsure = record {
  may_be = λ _. false;
  sure_is = λ _. false;
  read = λ column low. absurd (omega (arith, low));
  appends_sure = sym (append-nil sure) ∙ ap (λ (xs : List ℕ). sure ++ candidates_of slice xs) (sym (passing-none (λ column. is_left column && false) 0));
  appends_unsure = sym (append-nil unsure) ∙ ap (λ (xs : List ℕ). unsure ++ candidates_of slice xs) (sym (passing-none (λ column. is_left column && (false && not false)) 0));
}

-- the columns of one more word are searched
module _ (told : Option (List ℕ)) (least seen after : Bit → Type 0) (more : (bit : Bit) → seen bit → after bit) (first : ℕ) (searches : Searches AtomPlan) (is_left : ℕ → Bool)
    (slice word : ℕ) (sure sure_now sure_after unsure unsure_now unsure_after : List (ℕ × ℕ)) (mask may_word sure_word unsure_word : ℕ)
    (is : HasSearched told least seen first searches is_left slice (64 * word) sure sure_now unsure unsure_now)
    (mask_is : (bit : ℕ) → bit < 64 → has_bit mask bit ≡ is_left (64 * word + bit))
    (told_of : ForEachBit (λ column. HasReadAll told least after first column searches) word mask may_word sure_word)
    (within : IsWithin may_word mask) (surely : IsWithin sure_word may_word)
    (unsure_is : (bit : ℕ) → bit < 64 → has_bit unsure_word bit ≡ (has_bit may_word bit && not (has_bit sure_word bit)))
    (pushed_sure : sure_after ≡ sure_now ++ candidates_of slice (map (λ bit. 64 * word + bit) (set_bits sure_word)))
    (pushed_unsure : unsure_after ≡ unsure_now ++ candidates_of slice (map (λ bit. 64 * word + bit) (set_bits unsure_word))) where
  abbrev may_next : ℕ → Bool
  may_next = joined (64 * word) is.may_be (has_column may_word)

  abbrev sure_next : ℕ → Bool
  sure_next = joined (64 * word) is.sure_is (has_column sure_word)

  bit_of : (column : ℕ) → 64 * word ≤ column → column < 64 * (word + 1) → 64 * word + column % 64 ≡ column
  bit_of column high low = omega (arith, high, low)

  left_is : (column : ℕ) → 64 * word ≤ column → column < 64 * (word + 1) → is_left column ≡ has_bit mask (column % 64)
  left_is column high low = sym (mask_is (column % 64) (omega arith) ∙ ap is_left (bit_of column high low))

  read_next : (column : ℕ) → column < 64 * (word + 1) → is_left column ≡ true → HasReadAll told least after first column searches (may_next column) (sure_next column)
  read_next column low left = elim (cases_lt column (64 * word)) [
    | inl before ↦
        subst (λ m. HasReadAll told least after first column searches m (sure_next column)) (sym (joined-before (64 * word) is.may_be (has_column may_word) column before))
        (subst (λ s. HasReadAll told least after first column searches (is.may_be column) s) (sym (joined-before (64 * word) is.sure_is (has_column sure_word) column before))
        (all-again told told least least seen after first column refl (λ bit has. has) more searches (is.may_be column) (is.sure_is column) (is.read column before left)))
    | inr high ↦
        let bit = column % 64 in
        let at : HasReadAll told least after first column searches (has_column may_word column) (has_column sure_word column) =
        subst (λ n. HasReadAll told least after first n searches (has_bit may_word bit) (has_bit sure_word bit)) (bit_of column high low)
        (told_of bit (omega arith) (sym (left_is column high low) ∙ left)) in
        subst (λ m. HasReadAll told least after first column searches m (sure_next column)) (sym (joined-from (64 * word) is.may_be (has_column may_word) column high))
        (subst (λ s. HasReadAll told least after first column searches (has_column may_word column) s) (sym (joined-from (64 * word) is.sure_is (has_column sure_word) column high)) at)
  ]

  sure_here : (column : ℕ) → 64 * word ≤ column → column < 64 * (word + 1) → (is_left column && sure_next column) ≡ has_column sure_word column
  sure_here column high low =
      ap (λ b. is_left column && b) (joined-from (64 * word) is.sure_is (has_column sure_word) column high)
      ∙ and-within (is_left column) (has_column sure_word column)
      (λ set. left_is column high low ∙ within (column % 64) (omega arith) (surely (column % 64) (omega arith) set))

  unsure_here : (column : ℕ) → 64 * word ≤ column → column < 64 * (word + 1) → (is_left column && (may_next column && not (sure_next column))) ≡ has_column unsure_word column
  unsure_here column high low =
      ap₂ (λ m s. is_left column && (m && not s)) (joined-from (64 * word) is.may_be (has_column may_word) column high) (joined-from (64 * word) is.sure_is (has_column sure_word) column high)
      ∙ and-within (is_left column) (has_column may_word column && not (has_column sure_word column))
      (λ both. left_is column high low ∙ within (column % 64) (omega arith) ((and_parts (has_column may_word column) (not (has_column sure_word column)) both).0))
      ∙ sym (unsure_is (column % 64) (omega arith))

  -- the columns that pass up to the end of the word
  passed : (test old : ℕ → Bool) (w : ℕ) → ((column : ℕ) → column < 64 * word → test column ≡ old column)
      → ((column : ℕ) → 64 * word ≤ column → column < 64 * (word + 1) → test column ≡ has_column w column)
      → passing test 0 (64 * (word + 1)) ≡ passing old 0 (64 * word) ++ map (λ bit. 64 * word + bit) (set_bits w)
  passed test old w before here =
      passing-split test 0 (64 * word) (64 * (word + 1)) (omega arith) (omega arith)
      ∙ ap (λ (xs : List ℕ). xs ++ passing test (64 * word) (64 * (word + 1))) (passing-same test old 0 (64 * word) (λ column from to. before column to))
      ∙ ap (λ (xs : List ℕ). passing old 0 (64 * word) ++ xs) (passing-same test (has_column w) (64 * word) (64 * (word + 1)) here ∙ passing-word w word)

  pub searched-more : HasSearched told least after first searches is_left slice (64 * (word + 1)) sure sure_after unsure unsure_after
  searched-more = record {
    may_be = may_next;
    sure_is = sure_next;
    read = read_next;
    appends_sure =
        candidates-append slice sure sure_now sure_after (passing (λ column. is_left column && is.sure_is column) 0 (64 * word)) (map (λ bit. 64 * word + bit) (set_bits sure_word)) is.appends_sure pushed_sure
        ∙ ap (λ (xs : List ℕ). sure ++ candidates_of slice xs)
        (sym (passed (λ column. is_left column && sure_next column) (λ column. is_left column && is.sure_is column) sure_word
        (λ column before. ap (λ b. is_left column && b) (joined-before (64 * word) is.sure_is (has_column sure_word) column before)) sure_here));
    appends_unsure =
        candidates-append slice unsure unsure_now unsure_after (passing (λ column. is_left column && (is.may_be column && not (is.sure_is column))) 0 (64 * word)) (map (λ bit. 64 * word + bit) (set_bits unsure_word)) is.appends_unsure pushed_unsure
        ∙ ap (λ (xs : List ℕ). unsure ++ candidates_of slice xs)
        (sym (passed (λ column. is_left column && (may_next column && not (sure_next column))) (λ column. is_left column && (is.may_be column && not (is.sure_is column))) unsure_word
        (λ column before.
        ap₂ (λ m s. is_left column && (m && not s)) (joined-before (64 * word) is.may_be (has_column may_word) column before) (joined-before (64 * word) is.sure_is (has_column sure_word) column before))
        unsure_here));
  }

-- What the columns that pass a test are among those that are appended.
module _ (layout : LayoutId) (slice : ℕ) (test : ℕ → Bool) (old new : List (ℕ × ℕ)) (pushed : new ≡ old ++ candidates_of slice (passing test 0 (columns_of_slice layout.config))) where
  abbrev width : ℕ
  width = columns_of_slice layout.config

  appended_is : appended old new ≡ passing test 0 width
  appended_is = appended-is slice old new (passing test 0 width) pushed

  pub appends_passing : AppendsColumns layout slice old new
  appends_passing = record {
    appends = pushed ∙ ap (λ (xs : List ℕ). old ++ candidates_of slice xs) (sym appended_is);
    in_slice = subst (All (λ column. column < width)) (sym appended_is) (passing-all test (λ column. column < width) 0 (width - 0) (λ k low passes. omega (arith, low)));
    rising = subst (IsStrictlySortedBy nat_cmp) (sym appended_is) (passing-rising test (width - 0));
  }

  pub among_passing : (column : ℕ) → column < width → Contains (appended old new) column ↔ (test column ≡ true)
  among_passing column low = (
    λ has.
        All-contains (λ k. test k ≡ true) (appended old new) column
        (subst (All (λ k. test k ≡ true)) (sym appended_is) (passing-all test (λ k. test k ≡ true) 0 (width - 0) (λ k within passes. passes))) has,
    λ passes. subst (λ (xs : List ℕ). Contains xs column) (sym appended_is) (passing-contains test (width - 0) column (omega (arith, low)) passes),
  )

-- a scan that searched each column of the slice that is left
pub scans-from_searched : (told : Option (List ℕ)) (least seen : Bit → Type 0) (layout : LayoutId) (plan : List Row) (searches : Searches AtomPlan) (slice : ℕ) (is_left : ℕ → Bool)
    (sure sure_after unsure unsure_after : List (ℕ × ℕ)) → ((column : ℕ) → column < columns_of_slice layout.config → IsLeftBy told least seen layout plan slice column (is_left column))
    → HasSearched told least seen (slice_start layout.room slice) searches is_left slice (columns_of_slice layout.config) sure sure_after unsure unsure_after
    → ScansFor told least seen layout plan searches slice sure unsure sure_after unsure_after
scans-from_searched told least seen layout plan searches slice is_left sure sure_after unsure unsure_after left is = record {
  appends_sure = appends_passing layout slice (λ column. is_left column && is.sure_is column) sure sure_after is.appends_sure;
  appends_unsure = appends_passing layout slice (λ column. is_left column && (is.may_be column && not (is.sure_is column))) unsure unsure_after is.appends_unsure;
  each = λ column low. record {
    is_left = is_left column;
    may_be = is.may_be column;
    sure_is = is.sure_is column;
    left = left column low;
    read = is.read column low;
    among_sure = among_passing layout slice (λ k. is_left k && is.sure_is k) sure sure_after is.appends_sure column low;
    among_unsure = among_passing layout slice (λ k. is_left k && (is.may_be k && not (is.sure_is k))) unsure unsure_after is.appends_unsure column low;
  };
}

-- whether a number is in a list
abbrev pub is_in : List ℕ → ℕ → Bool
is_in xs column = list_any (λ x. eqb x column) xs

pub in-from : (xs : List ℕ) (column : ℕ) → is_in xs column ≡ true → Contains xs column
in-from [] column is = absurd (false≢true is)
in-from (x ∷ xs) column is = elim (or_cases (eqb x column) (is_in xs column) is) [
  | inl here ↦ (let same : x ≡ column = grind (arith, nat_tests) in (0, omega arith, same))
  | inr later ↦ Contains-cons x xs column (in-from xs column later)
]

pub in-to : (xs : List ℕ) (column : ℕ) → Contains xs column → is_in xs column ≡ true
in-to [] column (k, within, is) = absurd (omega (arith, within))
in-to (x ∷ xs) column (zero, within, is) = let here : eqb x column ≡ true = grind (arith, nat_tests) in rw here refl
in-to (x ∷ xs) column (suc k, within, is) = either (eqb x column) (is_in xs column) (in-to xs column (k, omega (arith, within), is))
  where
    either : (a b : Bool) → b ≡ true → (a || b) ≡ true
    either true b is = refl
    either false b is = is

-- the columns that a scan of the required words found are left, and no others
module _ (told : Option (List ℕ)) (least seen : Bit → Type 0) (layout : LayoutId) (plan : List Row) (slice : ℕ) (columns : List ℕ) where
  hit-in : (words : List ℕ) (column : ℕ) → column < columns_of_slice layout.config → is_in (hits layout words plan slice) column ≡ is_hit layout words plan slice column
  unfolding hits
  hit-in words column low =
      one_test (is_in (hits layout words plan slice) column) (is_hit layout words plan slice column)
      (λ is.
      All-contains (λ k. is_hit layout words plan slice k ≡ true) (hits layout words plan slice) column
      (passing-all (is_hit layout words plan slice) (λ k. is_hit layout words plan slice k ≡ true) 0 (columns_of_slice layout.config) (λ k within passes. passes))
      (in-from (hits layout words plan slice) column is))
      (λ hit. in-to (hits layout words plan slice) column (passing-contains (is_hit layout words plan slice) (columns_of_slice layout.config) column low hit))

  pub left-found : HasEachWithBits least layout plan slice columns → All (HasBits seen layout plan slice) columns
      → ((words : List ℕ) → told ≡ Some words → columns ≡ hits layout words plan slice)
      → (column : ℕ) → column < columns_of_slice layout.config → IsLeftBy told least seen layout plan slice column (is_in columns column)
  left-found covered were_seen told_is column low = record {
    covered = λ bits. in-to columns column (covered column low bits);
    were_seen = λ is. All-contains (HasBits seen layout plan slice) columns column were_seen (in-from columns column is);
    told_is = λ words is. ap (λ (xs : List ℕ). is_in xs column) (told_is words is) ∙ hit-in words column low;
  }

  -- a scan of a search that asks nothing else
  pub scans-alone : (searches : Searches AtomPlan) (sure sure_after unsure : List (ℕ × ℕ)) → searches ≡ no_entries → columns ≡ appended sure sure_after → AppendsColumns layout slice sure sure_after
      → HasEachWithBits least layout plan slice columns → All (HasBits seen layout plan slice) columns
      → ((words : List ℕ) → told ≡ Some words → columns ≡ hits layout words plan slice)
      → ScansFor told least seen layout plan searches slice sure unsure sure_after unsure
  scans-alone searches sure sure_after unsure none are appends covered were_seen told_is =
      let no_more : appended unsure unsure ≡ [] = appended-is slice unsure unsure [] (sym (append-nil unsure)) in
      record {
        appends_sure = appends;
        appends_unsure = record {
          appends = sym (append-nil unsure) ∙ ap (λ (xs : List ℕ). unsure ++ candidates_of slice xs) (sym no_more);
          in_slice = subst (All (λ column. column < columns_of_slice layout.config)) (sym no_more) (All-nil (λ column. column < columns_of_slice layout.config));
          rising = subst (IsStrictlySortedBy nat_cmp) (sym no_more) (passing-rising (λ _. false) 0);
        };
        each = λ column low. record {
          is_left = is_in columns column;
          may_be = true;
          sure_is = true;
          left = left-found covered were_seen told_is column low;
          read = λ is. subst (λ (es : Searches AtomPlan). HasReadAll told least seen (slice_start layout.room slice) column es true true) (sym none)
              (all-none told least seen (slice_start layout.room slice) column);
          among_sure = subst (λ (xs : List ℕ). Contains xs column ↔ ((is_in columns column && true) ≡ true)) are
              (λ has. and-true-to (is_in columns column) (in-to columns column has), λ is. in-from columns column (and-true-from (is_in columns column) is));
          among_unsure = (
            λ has. absurd (let inside = subst (λ (xs : List ℕ). Contains xs column) no_more has in omega (arith, inside.1)),
            λ is. absurd (and-false (is_in columns column) is),
          );
        };
      }
    where
      and-true-to : (b : Bool) → b ≡ true → (b && true) ≡ true
      and-true-to true is = refl
      and-true-to false is = is

      and-true-from : (b : Bool) → (b && true) ≡ true → b ≡ true
      and-true-from true is = refl
      and-true-from false is = is

      and-false : (b : Bool) → (b && (true && not true)) ≡ true → ⊥
      and-false true is = false≢true is
      and-false false is = false≢true is

-- a scan of the required words that came to its end has told each of its columns
pub found-all : (told : Option (List ℕ)) (least seen : Bit → Type 0) (layout : LayoutId) (plan : List Row) (slice : ℕ) (answer : Result (Unit {0}) Memory) (old new : List (ℕ × ℕ)) (before after : ℕ)
    → ScansTold told layout plan slice answer (appended old new) before after → OnOk answer ((words : List ℕ) → told ≡ Some words → appended old new ≡ hits layout words plan slice)
found-all told least seen layout plan slice (Ok a) old new before after is = λ words told_is.
    (when_told (λ ws. ScansWords layout ws plan slice (Ok a) (appended old new) before after) told words told_is is).all
found-all told least seen layout plan slice (Err e) old new before after is = tt

-- where no column of a word is left, none is searched there
pub searched-nothing : (told : Option (List ℕ)) (least seen : Bit → Type 0) (first : ℕ) (searches : Searches AtomPlan) (is_left : ℕ → Bool) (slice word : ℕ)
    (sure sure_now unsure unsure_now : List (ℕ × ℕ)) (mask : ℕ) → mask ≡ 0
    → HasSearched told least seen first searches is_left slice (64 * word) sure sure_now unsure unsure_now
    → ((bit : ℕ) → bit < 64 → has_bit mask bit ≡ is_left (64 * word + bit))
    → HasSearched told least seen first searches is_left slice (64 * (word + 1)) sure sure_now unsure unsure_now
searched-nothing told least seen first searches is_left slice word sure sure_now unsure unsure_now mask empty is mask_is =
    let none : (bit : ℕ) → has_bit mask bit ≡ false = λ bit. ap (λ n. has_bit n bit) empty ∙ has_bit-zero bit in
    let no_bit : (bit : ℕ) → has_bit 0 bit ≡ true → ⊥ = λ bit has. false≢true (sym (has_bit-zero bit) ∙ has) in
    let no_push : (now : List (ℕ × ℕ)) → now ≡ now ++ candidates_of slice (map (λ bit. 64 * word + bit) (set_bits 0)) =
    λ now. sym (append-nil now) ∙ ap (λ (xs : List ℕ). now ++ candidates_of slice (map (λ bit. 64 * word + bit) xs)) (sym no_set_bits) in
    searched-more told least seen seen (λ bit has. has) first searches is_left slice word sure sure_now sure_now unsure unsure_now unsure_now mask 0 0 0 is mask_is
    (λ bit few set. absurd (false≢true (sym (none bit) ∙ set)))
    (λ bit few has. absurd (no_bit bit has))
    (λ bit few has. absurd (no_bit bit has))
    (λ bit few. has_bit-zero bit ∙ sym (ap (λ b. b && not b) (has_bit-zero bit)))
    (no_push sure_now) (no_push unsure_now)

-- what was searched under other names of the same words, when more was seen
pub searched-again : (told other : Option (List ℕ)) (least must seen after : Bit → Type 0) → other ≡ told → ((bit : Bit) → must bit → least bit) → ((bit : Bit) → seen bit → after bit)
    → (first : ℕ) (searches : Searches AtomPlan) (is_left : ℕ → Bool) (slice n : ℕ) (sure sure_now unsure unsure_now : List (ℕ × ℕ))
    → HasSearched told least seen first searches is_left slice n sure sure_now unsure unsure_now → HasSearched other must after first searches is_left slice n sure sure_now unsure unsure_now
searched-again told other least must seen after same fewer more first searches is_left slice n sure sure_now unsure unsure_now is = record {
  may_be = is.may_be;
  sure_is = is.sure_is;
  read = λ column low left. all-again told other least must seen after first column same fewer more searches (is.may_be column) (is.sure_is column) (is.read column low left);
  appends_sure = is.appends_sure;
  appends_unsure = is.appends_unsure;
}

-- where there are no required words, each column is left
pub all-left : (told : Option (List ℕ)) (least seen : Bit → Type 0) (layout : LayoutId) (plan : List Row) (slice column : ℕ) → plan ≡ [] → IsLeftBy told least seen layout plan slice column true
all-left told least seen layout plan slice column none =
    subst (λ (rows : List Row). IsLeftBy told least seen layout rows slice column true) (sym none)
    (record { covered = λ bits. refl; were_seen = λ is. All-nil (λ row. seen (bit_of_row layout.room slice column row)); told_is = λ words is. refl })

-- the columns that a scan of the required words found rise, and are those that are left
pub rising-left : (slice : ℕ) (layout : LayoutId) (found : List (ℕ × ℕ)) → AppendsColumns layout slice [] found → AreRisingFrom (is_in (appended [] found)) 0 (map (λ (p : ℕ × ℕ). p.1) found)
rising-left slice layout found appends = record {
  rising = λ i j d lt within. below_from_sorted (appended [] found) i j d appends.rising lt within;
  from = λ j d within. omega arith;
  exactly = λ column low. (λ has. in-to (appended [] found) column has, λ is. in-from (appended [] found) column is);
}

-- so a scan of the required words alone is one of a search that asks nothing else
pub scans-alone_ok : (told : Option (List ℕ)) (least seen : Bit → Type 0) (layout : LayoutId) (plan : List Row) (searches : Searches AtomPlan) (slice : ℕ) (answer : Result (Unit {0}) Memory)
    (sure sure_after unsure : List (ℕ × ℕ)) (before after : ℕ) → searches ≡ no_entries → ScansSlice least seen layout plan slice answer sure sure_after before after
    → ScansTold told layout plan slice answer (appended sure sure_after) before after → OnOk answer (ScansFor told least seen layout plan searches slice sure unsure sure_after unsure)
scans-alone_ok told least seen layout plan searches slice (Ok a) sure sure_after unsure before after none scan is =
    scans-alone told least seen layout plan slice (appended sure sure_after) searches sure sure_after unsure none refl scan.appends scan.bits.covered scan.bits.were_seen
    (found-all told least seen layout plan slice (Ok a) sure sure_after before after is)
scans-alone_ok told least seen layout plan searches slice (Err e) sure sure_after unsure before after none scan is = tt

-- bits that were seen before are seen still
pub seen-later : (seen after : Bit → Type 0) (more : (bit : Bit) → seen bit → after bit) (layout : LayoutId) (plan : List Row) (slice : ℕ) (columns : List ℕ)
    → All (HasBits seen layout plan slice) columns → All (HasBits after layout plan slice) columns
seen-later seen after more layout plan slice columns were =
    All-weaker (HasBits seen layout plan slice) (HasBits after layout plan slice)
    (λ column bits. All-weaker (λ row. seen (bit_of_row layout.room slice column row)) (λ row. after (bit_of_row layout.room slice column row)) (λ row has. more (bit_of_row layout.room slice column row) has) plan bits)
    columns were

-- so a scan of the required words, and then a search of the columns that it found, is a scan for the search
pub scans-left : (told now : Option (List ℕ)) (least must seen after : Bit → Type 0) (layout : LayoutId) (plan : List Row) (searches : Searches AtomPlan) (slice : ℕ)
    (found_as searched_as : Result (Unit {0}) Memory) (found sure sure_after unsure unsure_after : List (ℕ × ℕ)) (before middle : ℕ) → IsOk found_as → now ≡ told
    → ((bit : Bit) → least bit ↔ must bit) → ((bit : Bit) → seen bit → after bit)
    → ScansSlice least seen layout plan slice found_as [] found before middle → ScansTold told layout plan slice found_as (appended [] found) before middle
    → OnOk searched_as (HasSearched now must after (slice_start layout.room slice) searches (is_in (appended [] found)) slice (columns_of_slice layout.config) sure sure_after unsure unsure_after)
    → OnOk searched_as (ScansFor told least after layout plan searches slice sure unsure sure_after unsure_after)
scans-left told now least must seen after layout plan searches slice (Ok a) searched_as found sure sure_after unsure unsure_after before middle ok same fewer more scan told_is is =
    let columns : List ℕ = appended [] found in
    on_ok searched_as
    (λ did.
    scans-from_searched told least after layout plan searches slice (is_in columns) sure sure_after unsure unsure_after
    (left-found told least after layout plan slice columns scan.bits.covered (seen-later seen after more layout plan slice columns scan.bits.were_seen)
    (found-all told least seen layout plan slice (Ok a) [] found before middle told_is))
    (searched-again now told must least after after (sym same) (λ bit. (fewer bit).0) (λ bit has. has) (slice_start layout.room slice) searches (is_in columns) slice
    (columns_of_slice layout.config) sure sure_after unsure unsure_after did)) is
scans-left told now least must seen after layout plan searches slice (Err e) searched_as found sure sure_after unsure unsure_after before middle ok same fewer more scan told_is is = absurd (false≢true ok)

-- where there are no required words, a search of each column is a scan for the search
pub scans-each : (told : Option (List ℕ)) (least seen : Bit → Type 0) (layout : LayoutId) (plan : List Row) (searches : Searches AtomPlan) (slice : ℕ) (answer : Result (Unit {0}) Memory)
    (sure sure_after unsure unsure_after : List (ℕ × ℕ)) → plan ≡ []
    → OnOk answer (HasSearched told least seen (slice_start layout.room slice) searches (λ _. true) slice (columns_of_slice layout.config) sure sure_after unsure unsure_after)
    → OnOk answer (ScansFor told least seen layout plan searches slice sure unsure sure_after unsure_after)
scans-each told least seen layout plan searches slice answer sure sure_after unsure unsure_after none is =
    on_ok answer
    (λ did.
    scans-from_searched told least seen layout plan searches slice (λ _. true) sure sure_after unsure unsure_after
    (λ column low. all-left told least seen layout plan slice column none) did) is
