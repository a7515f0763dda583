-- Numbers of first bytes are in the order of their words.
use Rattle.std.proofs.Common.{◌≡◌, ℕ, zero, suc, ◌+◌, ◌-◌, ◌*◌, ◌/◌, ◌%◌, ◌^◌, ◌<◌, ◌≤◌, List, [], ◌∷◌, length, take, drop, get_or, refl, ap, ap₂, sym, ◌∙◌, subst, ⊎_elim, arith}
use Rattle.std.proofs.lemmas.Bool.{cases_order}
use Rattle.std.proofs.lemmas.Cmp.{nat_list_cmp_total, ranked}
use Rattle.std.proofs.lemmas.List.{get_or_past, get_or-drop, length-take, take-take}
use Rattle.std.proofs.lemmas.Nat.{div-mul-add, mul-le, pow-add}
use Rattle.std.proofs.Math.Nat.{one-le-pow, pow-suc}
use Rattle.std.specs.Cmp.{nat_cmp_is}
use Rattle.std.specs.Cmp.Lexicographic.{slice_cmp}
use Rattle.std.specs.Ordering.{MatchOrdering, nat_cmp, ordering_then, ordering_reverse}
use Rattle.std.specs.declared.cmp.Ordering.{Ordering}
use Rattle.std.specs.declared.cmp.Ordering.TheVariants.{Less, Equal, Greater}
use Rattle.word_cut.specs.Keys.{first_bytes}

-- each byte is below 256
abbrev pub AreBytes : List ℕ → Type 0
AreBytes bytes = (i : ℕ) → get_or bytes i 0 < 256

-- a number of n bytes
pub first-below : (n : ℕ) (bytes : List ℕ) → AreBytes bytes → first_bytes n bytes < 256 ^ n
unfolding first_bytes
first-below zero bytes small = omega arith
first-below (suc n) [] small = omega (arith, one-le-pow (suc n) 256 (omega arith))
first-below (suc n) (byte ∷ bytes) small =
    let h = first-below n bytes (λ i. small (suc i)) in
    let m : byte * 256 ^ n ≤ 255 * 256 ^ n = mul-le byte (256 ^ n) 255 (256 ^ n) (omega (arith, small 0)) (omega arith) in
    let p : 256 ^ suc n ≡ 256 ^ n * 256 = pow-suc 256 n in
    omega arith

nat_less : (a b : ℕ) → a < b → nat_cmp a b ≡ Less
nat_less a b less = sym (nat_cmp_is a b Less less)

nat_same : (a b : ℕ) → a ≡ b → nat_cmp a b ≡ Equal
nat_same a b same = sym (nat_cmp_is a b Equal same)

-- a lower number is that of a word before
pub first-less : (n : ℕ) (a b : List ℕ) → AreBytes a → AreBytes b → first_bytes n a < first_bytes n b → slice_cmp nat_cmp a b ≡ Less
unfolding first_bytes
first-less zero a b small small' less = absurd (omega arith)
first-less (suc n) [] [] small small' less = absurd (omega arith)
first-less (suc n) [] (y ∷ ys) small small' less = refl
first-less (suc n) (x ∷ xs) [] small small' less = absurd (omega arith)
first-less (suc n) (x ∷ xs) (y ∷ ys) small small' less =
    let u = first-below n xs (λ i. small (suc i)) in
    let v = first-below n ys (λ i. small' (suc i)) in
    ⊎_elim
    (λ (same : x ≡ y).
    let product : x * 256 ^ n ≡ y * 256 ^ n = ap (λ (k : ℕ). k * 256 ^ n) same in
    ap (λ (o : Ordering). ordering_then o (slice_cmp nat_cmp xs ys)) (nat_same x y same)
    ∙ first-less n xs ys (λ i. small (suc i)) (λ i. small' (suc i)) (omega arith))
    (⊎_elim
    (λ (below : x < y). ap (λ (o : Ordering). ordering_then o (slice_cmp nat_cmp xs ys)) (nat_less x y below))
    (λ (above : y < x).
    let product : (y + 1) * 256 ^ n ≤ x * 256 ^ n = mul-le (y + 1) (256 ^ n) x (256 ^ n) (omega arith) (omega arith) in
    absurd (omega arith)))
    (cases_order x y)

pub first-greater : (n : ℕ) (a b : List ℕ) → AreBytes a → AreBytes b → first_bytes n b < first_bytes n a → slice_cmp nat_cmp a b ≡ Greater
first-greater n a b small small' less = nat_list_cmp_total.antisymm a b ∙ ap ordering_reverse (first-less n b a small' small less)

more : (n : ℕ) (bytes : List ℕ) → first_bytes (suc n) bytes ≡ first_bytes n bytes * 256 + get_or bytes n 0
unfolding first_bytes
more zero [] = refl
more zero (byte ∷ bytes) = omega arith
more (suc n) [] = refl
more (suc n) (byte ∷ bytes) =
    let h = more n bytes in
    let p : 256 ^ suc n ≡ 256 ^ n * 256 = pow-suc 256 n in
    let q : byte * 256 ^ suc n ≡ byte * (256 ^ n * 256) = ap (λ (k : ℕ). byte * k) p in
    omega arith

-- one byte more
pub first-more : (n : ℕ) (bytes : List ℕ) → first_bytes (n + 1) bytes ≡ first_bytes n bytes * 256 + get_or bytes n 0
first-more n bytes = ap (λ (k : ℕ). first_bytes k bytes) (let h : n + 1 ≡ suc n = omega arith in h) ∙ more n bytes

-- bytes that are missing are 0
pub first-padded : (n k : ℕ) (bytes : List ℕ) → length bytes ≤ n → first_bytes (n + k) bytes ≡ first_bytes n bytes * 256 ^ k
first-padded n zero bytes short = ap (λ (m : ℕ). first_bytes m bytes) (let h : n + 0 ≡ n = omega arith in h) ∙ (let h : first_bytes n bytes ≡ first_bytes n bytes * 256 ^ 0 = omega arith in h)
first-padded n (suc k) bytes short =
    let before = first-padded n k bytes short in
    let zero_byte = get_or_past bytes (n + k) 0 (omega arith) in
    let p : 256 ^ suc k ≡ 256 ^ k * 256 = pow-suc 256 k in
    let q : first_bytes n bytes * 256 ^ suc k ≡ first_bytes n bytes * (256 ^ k * 256) = ap (λ (m : ℕ). first_bytes n bytes * m) p in
    let e : n + suc k ≡ n + k + 1 = omega arith in
    ap (λ (m : ℕ). first_bytes m bytes) e ∙ first-more (n + k) bytes
    ∙ (let h : first_bytes (n + k) bytes * 256 + get_or bytes (n + k) 0 ≡ first_bytes n bytes * 256 ^ suc k = omega arith in h)

-- the first eight bytes, each at its place
pub first-eight : (bytes : List ℕ) → first_bytes 8 bytes ≡ get_or bytes 0 0 * 72057594037927936 + get_or bytes 1 0 * 281474976710656 + get_or bytes 2 0 * 1099511627776
    + get_or bytes 3 0 * 4294967296 + get_or bytes 4 0 * 16777216 + get_or bytes 5 0 * 65536 + get_or bytes 6 0 * 256 + get_or bytes 7 0
unfolding first_bytes
first-eight bytes =
    omega (arith, first-more 0 bytes, first-more 1 bytes, first-more 2 bytes, first-more 3 bytes, first-more 4 bytes, first-more 5 bytes, first-more 6 bytes, first-more 7 bytes)

-- a power of 256 as one of 2
pub two-power : (k : ℕ) → 2 ^ (8 * k) ≡ 256 ^ k
two-power zero = refl
two-power (suc k) =
    ap (λ (m : ℕ). 2 ^ m) (let h : 8 * suc k ≡ 8 * k + 8 = omega arith in h) ∙ pow-add 2 (8 * k) 8
    ∙ (let h = two-power k in let p : 256 ^ suc k ≡ 256 ^ k * 256 = pow-suc 256 k in let r : 2 ^ (8 * k) * 2 ^ 8 ≡ 256 ^ suc k = omega arith in r)

-- words whose numbers differ are in the order of these
pub by_number : (n : ℕ) (a b : List ℕ) (o : Ordering) → AreBytes a → AreBytes b → o ≡ nat_cmp (first_bytes n a) (first_bytes n b) → (o ≡ Equal → ⊥) → o ≡ slice_cmp nat_cmp a b
by_number n a b o small small' is other = go o (ranked (first_bytes n a) (first_bytes n b) o is) other
  where
    go : (o : Ordering) → MatchOrdering o (first_bytes n a < first_bytes n b) (first_bytes n a ≡ first_bytes n b) (first_bytes n b < first_bytes n a) → (o ≡ Equal → ⊥) → o ≡ slice_cmp nat_cmp a b
    go Less below other = sym (first-less n a b small small' below)
    go Equal same other = absurd (other refl)
    go Greater above other = sym (first-greater n a b small small' above)

-- a number of fewer than eight bytes, moved up to the place of eight
pub first-shifted : (bytes : List ℕ) (first : ℕ) → AreBytes bytes → length bytes < 8 → first ≡ first_bytes (length bytes) bytes →
    first * 2 ^ (8 * (7 - length bytes)) % 18446744073709551616 * 256 % 18446744073709551616 ≡ first_bytes 8 bytes
first-shifted bytes first small short is =
    let n = length bytes in
    let k = 7 - n in
    let low : first < 256 ^ n = subst (λ (m : ℕ). m < 256 ^ n) (sym is) (first-below n bytes small) in
    let power : 2 ^ (8 * k) ≡ 256 ^ k = two-power k in
    let seven : 256 ^ n * 256 ^ k ≡ 256 ^ 7 = sym (pow-add 256 n k) ∙ ap (λ (m : ℕ). 256 ^ m) (let h : n + k ≡ 7 = omega arith in h) in
    let below : first * 256 ^ k < 256 ^ 7 =
    (let m : (first + 1) * 256 ^ k ≤ 256 ^ n * 256 ^ k = mul-le (first + 1) (256 ^ k) (256 ^ n) (256 ^ k) (omega arith) (omega arith) in
    omega (arith, one-le-pow k 256 (omega arith))) in
    let moved : first * 2 ^ (8 * k) ≡ first * 256 ^ k = ap (λ (m : ℕ). first * m) power in
    let padded : first_bytes 8 bytes ≡ first_bytes n bytes * 256 ^ (k + 1) = ap (λ (m : ℕ). first_bytes m bytes) (let h : 8 ≡ n + (k + 1) = omega arith in h) ∙ first-padded n (k + 1) bytes (omega arith) in
    let last : 256 ^ (k + 1) ≡ 256 ^ k * 256 = ap (λ (m : ℕ). 256 ^ m) (let h : k + 1 ≡ suc k = omega arith in h) ∙ pow-suc 256 k in
    let whole : first_bytes n bytes * 256 ^ (k + 1) ≡ first * (256 ^ k * 256) = ap₂ (λ (a b : ℕ). a * b) (sym is) last in
    omega arith

-- the number reads the first bytes alone
pub first-take : (n : ℕ) (bytes : List ℕ) → first_bytes n (take n bytes) ≡ first_bytes n bytes
unfolding first_bytes
first-take zero bytes = refl
first-take (suc n) [] = refl
first-take (suc n) (byte ∷ bytes) = ap (λ (m : ℕ). byte * 256 ^ n + m) (first-take n bytes)

pub AreBytes-drop : (n : ℕ) (bytes : List ℕ) → AreBytes bytes → AreBytes (drop n bytes)
AreBytes-drop n bytes small i = subst (λ (b : ℕ). b < 256) (sym (get_or-drop n bytes i 0)) (small (n + i))

-- the digits before a place and those behind it
first-split : (n k : ℕ) (bytes : List ℕ) → first_bytes (n + k) bytes ≡ first_bytes n bytes * 256 ^ k + first_bytes k (drop n bytes)
unfolding first_bytes
first-split n zero bytes = ap (λ (m : ℕ). first_bytes m bytes) (let h : n + 0 ≡ n = omega arith in h) ∙ (let h : first_bytes n bytes ≡ first_bytes n bytes * 256 ^ 0 + 0 = omega arith in h)
first-split n (suc k) bytes =
    let before = first-split n k bytes in
    let digit : get_or (drop n bytes) k 0 ≡ get_or bytes (n + k) 0 = get_or-drop n bytes k 0 in
    let behind = more k (drop n bytes) in
    let p : 256 ^ suc k ≡ 256 ^ k * 256 = pow-suc 256 k in
    let q : first_bytes n bytes * 256 ^ suc k ≡ first_bytes n bytes * (256 ^ k * 256) = ap (λ (m : ℕ). first_bytes n bytes * m) p in
    let e : n + suc k ≡ n + k + 1 = omega arith in
    ap (λ (m : ℕ). first_bytes m bytes) e ∙ first-more (n + k) bytes
    ∙ (let h : first_bytes (n + k) bytes * 256 + get_or bytes (n + k) 0 ≡ first_bytes n bytes * 256 ^ suc k + first_bytes (suc k) (drop n bytes) = omega arith in h)

-- the first of eight bytes as one number, the others made 0
pub first-part : (n k : ℕ) (bytes : List ℕ) → AreBytes bytes → n + k ≡ 8 → first_bytes 8 bytes / 2 ^ (8 * k) * 2 ^ (8 * k) ≡ first_bytes 8 (take n bytes)
first-part n k bytes small eight =
    let power = two-power k in
    let front : first_bytes (n + k) bytes / 256 ^ k ≡ first_bytes n bytes =
    ap (λ (m : ℕ). m / 256 ^ k) (first-split n k bytes) ∙ div-mul-add (first_bytes n bytes) (256 ^ k) (first_bytes k (drop n bytes)) (first-below k (drop n bytes) (AreBytes-drop n bytes small)) in
    ap (λ (m : ℕ). first_bytes 8 bytes / m * m) power ∙ ap (λ (m : ℕ). first_bytes m bytes / 256 ^ k * 256 ^ k) (sym eight)
    ∙ ap (λ (m : ℕ). m * 256 ^ k) (front ∙ sym (first-take n bytes))
    ∙ sym (first-padded n k (take n bytes) (let h : length (take n bytes) ≤ n = omega (arith, length-take n bytes) in h))
    ∙ ap (λ (m : ℕ). first_bytes m (take n bytes)) eight

-- a number of eight bytes is told by them, however many follow
pub first-long : (n : ℕ) (bytes : List ℕ) → 8 ≤ n → first_bytes 8 bytes ≡ first_bytes 8 (take n bytes)
first-long n bytes long = sym (first-take 8 bytes) ∙ ap (first_bytes 8) (sym (take-take 8 n bytes long)) ∙ first-take 8 (take n bytes)

-- short words of one length that have one number are the same
pub first-same : (n : ℕ) (a b : List ℕ) → AreBytes a → AreBytes b → length a ≡ length b → length a ≤ n → first_bytes n a ≡ first_bytes n b → a ≡ b
unfolding first_bytes
first-same n [] [] small small' long short same = refl
first-same n [] (y ∷ ys) small small' long short same = absurd (omega arith)
first-same n (x ∷ xs) [] small small' long short same = absurd (omega arith)
first-same zero (x ∷ xs) (y ∷ ys) small small' long short same = absurd (omega arith)
first-same (suc n) (x ∷ xs) (y ∷ ys) small small' long short same =
    let u = first-below n xs (λ i. small (suc i)) in
    let v = first-below n ys (λ i. small' (suc i)) in
    ⊎_elim
    (λ (here : x ≡ y).
    let product : x * 256 ^ n ≡ y * 256 ^ n = ap (λ (k : ℕ). k * 256 ^ n) here in
    ap₂ (λ (z : ℕ) (zs : List ℕ). z ∷ zs) here (first-same n xs ys (λ i. small (suc i)) (λ i. small' (suc i)) (omega arith) (omega arith) (omega arith)))
    (⊎_elim
    (λ (below : x < y).
    let product : (x + 1) * 256 ^ n ≤ y * 256 ^ n = mul-le (x + 1) (256 ^ n) y (256 ^ n) (omega arith) (omega arith) in
    absurd (omega arith))
    (λ (above : y < x).
    let product : (y + 1) * 256 ^ n ≤ x * 256 ^ n = mul-le (y + 1) (256 ^ n) x (256 ^ n) (omega arith) (omega arith) in
    absurd (omega arith)))
    (cases_order x y)
