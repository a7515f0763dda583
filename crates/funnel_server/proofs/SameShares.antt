-- A worker's share of a list.
use Rattle.std.proofs.Common.{◌≡◌, ℕ, suc, ◌+◌, ◌<◌, Bool, true, false, cond, List, [], ◌∷◌, length, refl, ap, ◌∙◌, subst, arith, slice_index_or, zero-add}
use Rattle.std.proofs.lemmas.Bool.{eqb-true}
use Rattle.std.specs.List.{enumerate_from, filter}
use Rattle.std.specs.Prelude.{◌%◌, ◌==◌}
use Rattle.load_gen.specs.Jobs.{share}

-- lists that have the same at the places of a share have the same share
module _ {A : Type 0} (workers worker : ℕ) where
  same_from : (from : ℕ) (xs ys : List A) → length xs ≡ length ys →
      ((k : ℕ) (d : A) → k < length xs → ((from + k) % workers == worker) ≡ true → slice_index_or xs k d ≡ slice_index_or ys k d) →
      filter (λ item. item.0 % workers == worker) (enumerate_from from xs) ≡ filter (λ item. item.0 % workers == worker) (enumerate_from from ys)
  same_from from [] [] long same = refl
  same_from from [] (y ∷ ys) long same = absurd (omega (arith, long))
  same_from from (x ∷ xs) [] long same = absurd (omega (arith, long))
  same_from from (x ∷ xs) (y ∷ ys) long same =
      by_case (from % workers == worker) refl
      (same_from (from + 1) xs ys (omega (arith, long)) (λ k d small is.
      same (suc k) d (omega (arith, small)) (let next : from + 1 + k ≡ from + suc k = omega arith in subst (λ n. (n % workers == worker) ≡ true) next is)))
    where
      by_case : (b : Bool) → (from % workers == worker) ≡ b →
          filter (λ item. item.0 % workers == worker) (enumerate_from (from + 1) xs) ≡ filter (λ item. item.0 % workers == worker) (enumerate_from (from + 1) ys) →
          cond b ((from, x) ∷ filter (λ item. item.0 % workers == worker) (enumerate_from (from + 1) xs)) (filter (λ item. item.0 % workers == worker) (enumerate_from (from + 1) xs))
          ≡ cond b ((from, y) ∷ filter (λ item. item.0 % workers == worker) (enumerate_from (from + 1) ys)) (filter (λ item. item.0 % workers == worker) (enumerate_from (from + 1) ys))
      by_case true is later =
          ap (λ z. (from, z) ∷ filter (λ item. item.0 % workers == worker) (enumerate_from (from + 1) xs)) (same 0 x (omega arith) (let here : from ≡ from + 0 = omega arith in subst (λ n. (n % workers == worker) ≡ true) here is))
          ∙ ap (λ zs. (from, y) ∷ zs) later
      by_case false is later = later

  pub share_same : (xs ys : List A) → length xs ≡ length ys →
      ((k : ℕ) (d : A) → k < length xs → k % workers ≡ worker → slice_index_or xs k d ≡ slice_index_or ys k d) → share xs workers worker ≡ share ys workers worker
  share_same xs ys long same = same_from 0 xs ys long (λ k d small is. same k d small (eqb-true (k % workers) worker (subst (λ n. (n % workers == worker) ≡ true) (zero-add k) is)))
