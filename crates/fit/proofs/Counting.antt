-- A word that is counted once more in a map, by the list of the words with their counts.
use Rattle.std.proofs.Common.{◌≡◌, ◌↔◌, ◌∙◌, ◌+◌, ◌≤◌, ℕ, Bool, true, false, cond, List, [], ◌∷◌, ◌++◌, All, Some, None, IsPermutation, Vec, Global, map, length, length-append, count_by, sum, unwrap_or, refl, sym, ap, subst, arith}
use Rattle.std.proofs.lemmas.Cmp.{nat_list_eq_equiv}
use Rattle.std.proofs.lemmas.List.Elements.{All-cons, All-head, All-nil, All-tail}
use Rattle.std.proofs.lemmas.List.Sorted.{All-permutation, IsPermutation-map, sum_by-IsPermutation}
use Rattle.std.proofs.lemmas.List.Sums.{sum-map, sum_by-append, sum_by-cons}
use Rattle.std.proofs.lemmas.Map.Steps.{lookup-le-sum}
use Rattle.std.proofs.lemmas.Slice.Eq.{bytes_eq-Decides}
use Rattle.std.specs.List.{AllByRecursion, Contains, IsDistinct}
use Rattle.std.specs.Map.{KeepsOthers, keys_of, lookup, set_value, values_of}
use Rattle.std.specs.Str.{IsUtf8, bytes_eq}
use Rattle.funnel_io.specs.declared.line_reader.TheConstants.{MAX_LINE_LEN}
use Rattle.funnel_model.specs.Words.{IsRising, words as words_of_text}
use Rattle.fit.proofs.Sets.{count_of-push, counted_of_text, length-set}
use Rattle.fit.specs.Steps.{CountsMore, HasCounted, entries_of}
use Rattle.fit.specs.Tallies.{count_in, count_of, total}

-- a key of the map
abbrev pub Key : Type 0
Key = Vec ℕ Global

-- keys with the same bytes
abbrev pub same_key : Key → Key → Bool
same_key x y = bytes_eq x.items y.items

-- the key has these bytes
abbrev pub has_bytes : List ℕ → Key → Bool
has_bytes word key = bytes_eq word key.items

pub lookup-entries : (word : List ℕ) (es : List (Key × ℕ)) → lookup (bytes_eq word) (entries_of es) ≡ lookup (has_bytes word) es
lookup-entries word [] = refl
lookup-entries word (e ∷ es) = ap (cond (bytes_eq word e.0.items) (Some e.1)) (lookup-entries word es)

apart-entries : (x : Key) (es : List (Key × ℕ)) → AllByRecursion (λ y. same_key x y ≡ false) (keys_of es)
    → AllByRecursion (λ y. bytes_eq x.items y ≡ false) (map (λ entry. entry.0) (entries_of es))
apart-entries x [] apart = tt
apart-entries x (e ∷ es) apart = (apart.0, apart-entries x es apart.1)

pub distinct-entries : (es : List (Key × ℕ)) → IsDistinct same_key (keys_of es) → IsDistinct bytes_eq (map (λ entry. entry.0) (entries_of es))
unfolding IsDistinct
distinct-entries [] distinct = tt
distinct-entries (e ∷ es) distinct = (apart-entries e.0 es distinct.0, distinct-entries es distinct.1)

-- after a change at one word
module _ (word : List ℕ) (old new : List (Key × ℕ)) (count : ℕ) (kept : KeepsOthers same_key (has_bytes word) old new)
    (is : lookup (has_bytes word) new ≡ Some count) where
  other_kept : (other : List ℕ) → bytes_eq word other ≡ false → lookup (has_bytes other) new ≡ lookup (has_bytes other) old
  unfolding KeepsOthers
  other_kept other apart =
      kept (has_bytes other) (λ x y has. nat_list_eq_equiv.congr other x.items y.items has)
      (λ key has. nat_list_eq_equiv.symm other key.items ∙ sym (nat_list_eq_equiv.congr word key.items other has) ∙ apart)

  count-at : (other : List ℕ) (b : Bool) → bytes_eq word other ≡ b
      → count_in (entries_of new) other ≡ cond b count (count_in (entries_of old) other)
  count-at other true same =
      let here : word ≡ other = (bytes_eq-Decides word other).0 same in
      ap (λ o. unwrap_or o 0) (lookup-entries other new ∙ subst (λ w. lookup (has_bytes w) new ≡ Some count) here is)
  count-at other false apart =
      ap (λ o. unwrap_or o 0) (lookup-entries other new ∙ other_kept other apart ∙ sym (lookup-entries other old))

  count-one : (other : List ℕ) (b : Bool) → bytes_eq word other ≡ b → count_by (bytes_eq other) (word ∷ []) ≡ cond b 1 0
  count-one other b same = sum_by-cons (λ (w : List ℕ). cond (bytes_eq other w) 1 0) word [] ∙ rw (nat_list_eq_equiv.symm other word ∙ same) (omega arith)

  -- where the count is one more than before
  counts-more : count ≡ count_in (entries_of old) word + 1
      → (other : List ℕ) → count_in (entries_of new) other ≡ count_in (entries_of old) other + count_by (bytes_eq other) (word ∷ [])
  counts-more more other = counts (bytes_eq word other) refl
    where
      counts : (b : Bool) → bytes_eq word other ≡ b → count_in (entries_of new) other ≡ count_in (entries_of old) other + count_by (bytes_eq other) (word ∷ [])
      counts true same =
          let here : word ≡ other = (bytes_eq-Decides word other).0 same in
          let one : count_by (bytes_eq other) (word ∷ []) ≡ 1 = count-one other true same in
          omega (arith, count-at other true same, more, ap (λ w. count_in (entries_of old) w) here, one)
      counts false apart =
          let none : count_by (bytes_eq other) (word ∷ []) ≡ 0 = count-one other false apart in
          omega (arith, count-at other false apart, none)

total-first : (word : List ℕ) (e : Key × ℕ) (es : List (Key × ℕ)) (before after : ℕ) (b : Bool) → bytes_eq word e.0.items ≡ b
    → cond b (Some e.1) (lookup (has_bytes word) es) ≡ Some before
    → (lookup (has_bytes word) es ≡ Some before → total (entries_of (set_value (has_bytes word) es after)) + before ≡ total (entries_of es) + after)
    → total (entries_of (cond b ((e.0, after) ∷ es) (e ∷ set_value (has_bytes word) es after))) + before ≡ total (entries_of (e ∷ es)) + after
total-first word e es before after true here is later =
    let count : e.1 ≡ before = cc in
    omega (arith, count, sum_by-cons (λ (entry : List ℕ × ℕ). entry.1) (e.0.items, after) (entries_of es), sum_by-cons (λ (entry : List ℕ × ℕ). entry.1) (e.0.items, e.1) (entries_of es))
total-first word e es before after false apart is later =
    omega (
      arith,
      later is,
      sum_by-cons (λ (entry : List ℕ × ℕ). entry.1) (e.0.items, e.1) (entries_of (set_value (has_bytes word) es after)),
      sum_by-cons (λ (entry : List ℕ × ℕ). entry.1) (e.0.items, e.1) (entries_of es),
    )

total-set : (word : List ℕ) (es : List (Key × ℕ)) (before after : ℕ) → lookup (has_bytes word) es ≡ Some before
    → total (entries_of (set_value (has_bytes word) es after)) + before ≡ total (entries_of es) + after
total-set word [] before after is = absurd (let e : None ≡ Some before = is in cc)
total-set word (e ∷ es) before after is = total-first word e es before after (bytes_eq word e.0.items) refl is (total-set word es before after)

abbrev HasCount : List ℕ × ℕ → Type 0
HasCount entry = 1 ≤ entry.1

some-first : (word : List ℕ) (e : Key × ℕ) (es : List (Key × ℕ)) (after : ℕ) (b : Bool) → 1 ≤ after → All HasCount (entries_of (e ∷ es))
    → (All HasCount (entries_of es) → All HasCount (entries_of (set_value (has_bytes word) es after)))
    → All HasCount (entries_of (cond b ((e.0, after) ∷ es) (e ∷ set_value (has_bytes word) es after)))
some-first word e es after true one all later = All-cons HasCount (e.0.items, after) (entries_of es) one (All-tail HasCount (e.0.items, e.1) (entries_of es) all)
some-first word e es after false one all later =
    All-cons HasCount (e.0.items, e.1) (entries_of (set_value (has_bytes word) es after)) (All-head HasCount (e.0.items, e.1) (entries_of es) all)
    (later (All-tail HasCount (e.0.items, e.1) (entries_of es) all))

some-set : (word : List ℕ) (es : List (Key × ℕ)) (after : ℕ) → 1 ≤ after → All HasCount (entries_of es) → All HasCount (entries_of (set_value (has_bytes word) es after))
some-set word [] after one all = all
some-set word (e ∷ es) after one all = some-first word e es after (bytes_eq word e.0.items) one all (some-set word es after one)

-- the word was there: its count rose by one
pub counts-set : (word : List ℕ) (old new : List (Key × ℕ)) (before : ℕ) → lookup (has_bytes word) old ≡ Some before → new ≡ set_value (has_bytes word) old (before + 1)
    → KeepsOthers same_key (has_bytes word) old new → lookup (has_bytes word) new ≡ Some (before + 1) → IsDistinct same_key (keys_of new)
    → CountsMore (entries_of old) (entries_of new) (word ∷ [])
counts-set word old new before was is kept now distinct = record {
  once = λ _. distinct-entries new distinct;
  some = λ all. subst (λ (es : List (Key × ℕ)). All HasCount (entries_of es)) (sym is) (some-set word old (before + 1) (omega arith) all);
  counts = counts-more word old new (before + 1) kept now (ap (λ o. unwrap_or o 0 + 1) (sym (lookup-entries word old ∙ was)));
  together = let sums : total (entries_of new) + before ≡ total (entries_of old) + (before + 1) = subst (λ (es : List (Key × ℕ)). total (entries_of es) + before ≡ total (entries_of old) + (before + 1)) (sym is) (total-set word old before (before + 1) was) in omega arith;
}

-- the word was not there: it has the count 1
pub counts-new : (key : Key) (old new : List (Key × ℕ)) → lookup (has_bytes key.items) old ≡ None → IsPermutation ((key, 1) ∷ old) new
    → KeepsOthers same_key (has_bytes key.items) old new → lookup (has_bytes key.items) new ≡ Some 1 → IsDistinct same_key (keys_of new)
    → CountsMore (entries_of old) (entries_of new) (key.items ∷ [])
counts-new key old new none permuted kept now distinct =
    let moved : IsPermutation ((key.items, 1) ∷ entries_of old) (entries_of new) = IsPermutation-map (λ (entry : Key × ℕ). (entry.0.items, entry.1)) ((key, 1) ∷ old) new permuted in
    record {
      once = λ _. distinct-entries new distinct;
      some = λ all. All-permutation HasCount ((key.items, 1) ∷ entries_of old) (entries_of new) moved (All-cons HasCount (key.items, 1) (entries_of old) (omega arith) all);
      counts = counts-more key.items old new 1 kept now (ap (λ o. unwrap_or o 0 + 1) (sym (lookup-entries key.items old ∙ none)));
      together = omega (arith, sum_by-IsPermutation (λ (entry : List ℕ × ℕ). entry.1) ((key.items, 1) ∷ entries_of old) (entries_of new) moved, sum_by-cons (λ (entry : List ℕ × ℕ). entry.1) (key.items, 1) (entries_of old));
    }

values-entries : (es : List (Key × ℕ)) → map (λ entry. entry.1) (entries_of es) ≡ values_of es
values-entries [] = refl
values-entries (e ∷ es) = ap (λ counts. e.1 ∷ counts) (values-entries es)

-- a count is at most all counts together
pub count-le-total : (word : List ℕ) (es : List (Key × ℕ)) (count : ℕ) → lookup (has_bytes word) es ≡ Some count → count ≤ total (entries_of es)
count-le-total word es count is =
    let sums : total (entries_of es) ≡ sum (values_of es) = sym (sum-map (λ (entry : List ℕ × ℕ). entry.1) (entries_of es)) ∙ ap sum (values-entries es) in
    let found : unwrap_or (lookup (has_bytes word) es) 0 ≡ count = ap (λ o. unwrap_or o 0) is in
    omega (arith, sums, found, lookup-le-sum (has_bytes word) es)

-- nothing was counted, and then further words
pub counts-none : (es : List (List ℕ × ℕ)) → CountsMore es es []
counts-none es = record {
  once = λ distinct. distinct;
  some = λ all. all;
  counts = λ word. omega arith;
  together = omega arith;
}

pub counts-push : (before between after : List (List ℕ × ℕ)) (words : List (List ℕ)) (word : List ℕ) → CountsMore before between words → CountsMore between after (word ∷ [])
    → CountsMore before after (words ++ word ∷ [])
counts-push before between after words word first then = record {
  once = λ distinct. then.once (first.once distinct);
  some = λ all. then.some (first.some all);
  counts = λ other. omega (arith, first.counts other, then.counts other, sum_by-append (λ (w : List ℕ). cond (bytes_eq other w) 1 0) words (word ∷ []));
  together = omega (arith, first.together, then.together, length-append words (word ∷ []));
}

-- no text has a word
pub counted_none : HasCounted [] [] 0 0
unfolding count_of IsDistinct
counted_none = record {
  tallied = record {
    once = tt;
    some = All-nil HasCount;
    counts = λ word. refl;
  };
  many = refl;
  sums = record { together = refl; few = omega arith };
}

-- the set of a further text's words was counted
pub counted-push : (texts : List (List ℕ)) (before after : List (List ℕ × ℕ)) (documents words : ℕ) (text : List ℕ) (set : List (List ℕ))
    → IsUtf8 text → length text ≤ MAX_LINE_LEN → IsRising set → ((word : List ℕ) → Contains set word ↔ Contains (words_of_text text) word) → CountsMore before after set
    → HasCounted texts before documents words → HasCounted (texts ++ text ∷ []) after (documents + 1) (words + length set)
counted-push texts before after documents words text set utf8 short rising same more counted = record {
  tallied = record {
    once = more.once counted.tallied.once;
    some = more.some counted.tallied.some;
    counts = λ word. omega (arith, more.counts word, counted.tallied.counts word, counted_of_text text set rising same word, count_of-push texts text word);
  };
  many = omega (arith, counted.many, length-append texts (text ∷ []));
  sums = record {
    together = omega (arith, counted.sums.together, more.together);
    few = omega (arith, counted.sums.few, length-set text set rising same utf8);
  };
}
