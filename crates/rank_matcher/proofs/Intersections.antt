-- The bits that the words of rows at one place leave of others, row by row.
use Rattle.std.proofs.Common.{◌≡◌, ℕ, ◌+◌, ◌<◌, ◌≤◌, ◌&&◌, List, ◌++◌, [], ◌∷◌, Bool, true, false, cond, eqb, take, drop, get_or, length, ap, sym, subst, ◌∙◌, refl, arith, drop-cons, add-one}
use Rattle.std.proofs.Math.ListN.{drop_of_length-le}
use Rattle.std.specs.Prelude.{◌↔◌, IfSome, bit_and, slice_index}
use Rattle.std.specs.List.{All}
use Rattle.std.specs.declared.option.Option.{Option}
use Rattle.std.specs.declared.option.Option.TheVariants.{Some, None}
use Rattle.std.proofs.lemmas.Bool.Decides.{nat_tests}
use Rattle.std.proofs.lemmas.List.Elements.{All-cons, All-head, All-nil, All-push, All-tail, All-weaker}
use Rattle.std.proofs.lemmas.List.Folds.{list_all-append}
use Rattle.std.proofs.lemmas.List.{take_more, take-append-drop}
use Rattle.funnel_model.specs.declared.bit_list.Bit.{Bit}
use Rattle.rank_matcher.specs.Walk.{all_have, bit_in, reads_left}
use Rattle.rank_matcher.proofs.Bits.{both_give, both_have, has_bit-and, has_bit-zero}
use Rattle.row_layout.specs.declared.row.Row.{Row}
use Rattle.row_read.specs.Bits.{has_bit, is_set}

-- a fact that is told of the words, by what is told
pub if_told : {A : Type 0} (P : A → Type 0) (told : Option A) → ((a : A) → told ≡ Some a → P a) → IfSome told P
if_told P (Some a) each = each a refl
if_told P None each = tt

pub when_told : {A : Type 0} (P : A → Type 0) (told : Option A) (a : A) → told ≡ Some a → IfSome told P → P a
when_told P told a is holds = subst (λ o. IfSome o P) is holds

pub and_true : (b : Bool) → (b && true) ≡ b
and_true true = refl
and_true false = refl

and_regroup : (a b c : Bool) → ((a && b) && c) ≡ (a && (b && c))
and_regroup true b c = refl
and_regroup false b c = refl

-- the word has the bits that are left of the running ones after these rows
abbrev pub IsLeft : List ℕ → ℕ → ℕ → List Row → ℕ → Type 0
IsLeft words place running rows left = (bit : ℕ) → has_bit left bit ≡ (has_bit running bit && all_have words place rows bit)

pub left-none : (words : List ℕ) (place running : ℕ) → IsLeft words place running [] running
left-none words place running bit = sym (and_true (has_bit running bit))

pub left-next : (words : List ℕ) (place running : ℕ) (rows : List Row) (i : ℕ) (row : Row) (left read : ℕ) → i < length rows → IsLeft words place running (take i rows) left
    → read ≡ slice_index words (place + (get_or rows i row).start) → IsLeft words place running (take (i + 1) rows) (bit_and left read)
left-next words place running rows i row left read within before is bit =
    let front : List Row = take i rows in
    let next : Row = get_or rows i row in
    has_bit-and left read bit
    ∙ ap (λ b. b && has_bit read bit) (before bit)
    ∙ ap (λ n. (has_bit running bit && all_have words place front bit) && has_bit n bit) is
    ∙ and_regroup (has_bit running bit) (all_have words place front bit) (is_set words (bit_in place bit next))
    ∙ ap (λ b. has_bit running bit && (all_have words place front bit && b)) (sym (and_true (is_set words (bit_in place bit next))))
    ∙ ap (λ b. has_bit running bit && b) (sym (list_all-append (λ r. is_set words (bit_in place bit r)) front (next ∷ [])))
    ∙ ap (λ (xs : List Row). has_bit running bit && all_have words place xs bit) (sym (take_more rows i row within))

-- where none is left after some of the rows, none is left after all of them
pub left-zero : (words : List ℕ) (place running : ℕ) (rows : List Row) (n left : ℕ) → left ≡ 0 → IsLeft words place running (take n rows) left → IsLeft words place running rows 0
left-zero words place running rows n left zero is bit =
    let front : List Row = take n rows in
    let a : Bool = has_bit running bit in
    let b : Bool = all_have words place front bit in
    let c : Bool = all_have words place (drop n rows) bit in
    let none : (a && b) ≡ false = sym (is bit) ∙ ap (λ k. has_bit k bit) zero ∙ has_bit-zero bit in
    has_bit-zero bit
    ∙ ap (λ t. t && c) (sym none)
    ∙ and_regroup a b c
    ∙ ap (λ t. a && t) (sym (list_all-append (λ r. is_set words (bit_in place bit r)) front (drop n rows)))
    ∙ ap (λ (xs : List Row). a && all_have words place xs bit) (take-append-drop n rows)

-- what holds of all of a list and one more holds of the list and of the one
pub All-split : {A : Type 0} (P : A → Type 0) (xs ys : List A) → All P (xs ++ ys) → All P xs × All P ys
All-split P [] ys h = (All-nil P, h)
All-split P (x ∷ xs) ys h =
    let rest = All-split P xs ys (All-tail P x (xs ++ ys) h) in
    (All-cons P x xs (All-head P x (xs ++ ys) h) rest.0, rest.1)

pub All-joined : {A : Type 0} (P : A → Type 0) (xs ys : List A) → All P xs → All P ys → All P (xs ++ ys)
All-joined P [] ys h k = k
All-joined P (x ∷ xs) ys h k = All-cons P x (xs ++ ys) (All-head P x xs h) (All-joined P xs ys (All-tail P x xs h) k)

-- the word has each of the running bits that every read of these rows has
abbrev pub HasLeast : (Bit → Type 0) → ℕ → ℕ → List Row → ℕ → Type 0
HasLeast least place running rows left = (bit : ℕ) → has_bit running bit ≡ true → All (λ row. least (bit_in place bit row)) rows → has_bit left bit ≡ true

pub least-next : (least now : Bit → Type 0) → ((bit : Bit) → least bit ↔ now bit) → (place running : ℕ) (rows : List Row) (i : ℕ) (row : Row) (left read : ℕ) → i < length rows
    → HasLeast least place running (take i rows) left → ((bit : ℕ) → now (bit_in place bit (get_or rows i row)) → has_bit read bit ≡ true)
    → HasLeast least place running (take (i + 1) rows) (bit_and left read)
least-next least now same place running rows i row left read within before is bit runs all =
    let next : Row = get_or rows i row in
    let P : Row → Type 0 = λ r. least (bit_in place bit r) in
    let two = All-split P (take i rows) (next ∷ []) (subst (All P) (take_more rows i row within) all) in
    both_give left read bit (before bit runs two.0) (is bit ((same (bit_in place bit next)).0 (All-head P next [] two.1)))

pub least-zero : (least : Bit → Type 0) (place running : ℕ) (rows : List Row) (n left : ℕ) → left ≡ 0 → HasLeast least place running (take n rows) left → HasLeast least place running rows 0
least-zero least place running rows n left zero is bit runs all =
    let P : Row → Type 0 = λ r. least (bit_in place bit r) in
    ap (λ k. has_bit k bit) (sym zero) ∙ is bit runs ((All-split P (take n rows) (drop n rows) (subst (All P) (sym (take-append-drop n rows)) all)).0)

-- each bit of the word was seen in these rows
abbrev pub WasSeen : (Bit → Type 0) → ℕ → List Row → ℕ → Type 0
WasSeen seen place rows left = (bit : ℕ) → has_bit left bit ≡ true → All (λ row. seen (bit_in place bit row)) rows

pub seen-next : (before after : Bit → Type 0) → ((bit : Bit) → before bit → after bit) → (place : ℕ) (rows : List Row) (i : ℕ) (row : Row) (left read : ℕ) → i < length rows
    → WasSeen before place (take i rows) left → ((bit : ℕ) → has_bit read bit ≡ true → after (bit_in place bit (get_or rows i row)))
    → WasSeen after place (take (i + 1) rows) (bit_and left read)
seen-next before after stays place rows i row left read within seen is bit has =
    let two = both_have left read bit has in
    subst (All (λ r. after (bit_in place bit r))) (sym (take_more rows i row within))
    (All-push (λ r. after (bit_in place bit r)) (take i rows) (get_or rows i row)
    (All-weaker (λ r. before (bit_in place bit r)) (λ r. after (bit_in place bit r)) (λ r. stays (bit_in place bit r)) (take i rows) (seen bit two.0))
    (is bit two.1))

-- no bit of zero was seen
pub seen-zero : (seen : Bit → Type 0) (place : ℕ) (rows : List Row) → WasSeen seen place rows 0
seen-zero seen place rows bit has = absurd (let e : false ≡ true = sym (has_bit-zero bit) ∙ has in cc)

-- the reads of the rows from one on, with its own
reads-here : (words : List ℕ) (place left : ℕ) (rows : List Row) (i : ℕ) (row : Row) (read : ℕ) → i < length rows → read ≡ slice_index words (place + (get_or rows i row).start)
    → reads_left words place left (drop i rows) ≡ 1 + cond (eqb (bit_and left read) 0) 0 (reads_left words place (bit_and left read) (drop (i + 1) rows))
reads-here words place left rows i row read within is =
    ap (reads_left words place left) (drop-cons rows i row within ∙ ap (λ n. get_or rows i row ∷ drop n rows) (sym (add-one i)))
    ∙ ap (λ n. 1 + cond (eqb (bit_and left n) 0) 0 (reads_left words place (bit_and left n) (drop (i + 1) rows))) (sym is)

pub reads-next : (words : List ℕ) (place running left : ℕ) (rows : List Row) (i : ℕ) (row : Row) (read : ℕ) → i < length rows → read ≡ slice_index words (place + (get_or rows i row).start)
    → 0 < bit_and left read → reads_left words place running rows ≡ i + reads_left words place left (drop i rows)
    → reads_left words place running rows ≡ i + 1 + reads_left words place (bit_and left read) (drop (i + 1) rows)
reads-next words place running left rows i row read within is some before =
    let t : eqb (bit_and left read) 0 ≡ false = grind (arith, nat_tests) in
    let here = reads-here words place left rows i row read within is
    ∙ ap (λ b. 1 + cond b 0 (reads_left words place (bit_and left read) (drop (i + 1) rows))) t in
    omega (arith, before, here)

pub reads-zero : (words : List ℕ) (place running left : ℕ) (rows : List Row) (i : ℕ) (row : Row) (read : ℕ) → i < length rows → read ≡ slice_index words (place + (get_or rows i row).start)
    → bit_and left read ≡ 0 → reads_left words place running rows ≡ i + reads_left words place left (drop i rows)
    → i + 1 ≡ reads_left words place running rows
reads-zero words place running left rows i row read within is none before =
    let t : eqb (bit_and left read) 0 ≡ true = grind (arith, nat_tests) in
    let here = reads-here words place left rows i row read within is
    ∙ ap (λ b. 1 + cond b 0 (reads_left words place (bit_and left read) (drop (i + 1) rows))) t in
    omega (arith, before, here)

pub reads-all : (words : List ℕ) (place running left : ℕ) (rows : List Row) (i : ℕ) → length rows ≤ i → reads_left words place running rows ≡ i + reads_left words place left (drop i rows)
    → i ≡ reads_left words place running rows
reads-all words place running left rows i end before =
    let none = ap (reads_left words place left) (drop_of_length-le rows end) in omega (arith, before, none)
