-- Sums over a list whose elements are read by `get_elem?`, and over the numbers below some n.
use Rattle.std.proofs.Common.{◌≡◌, ℕ, zero, suc, ◌+◌, ◌<◌, ◌≤◌, List, [], ◌∷◌, length, get_or, set, sum_by, sym, refl, ap, subst, arith, le_refl}
use mathlib.Core.Option.{some, some-injective, some-ne-none}
use lib.ListN.{get_elem?}
use Rattle.std.proofs.lemmas.Bool.Decides.{nat_tests}
use Rattle.std.proofs.lemmas.List.Sums.{get_or-le-sum_by, sum_by-cons, sum_by-set}
use Rattle.shared_work.specs.work.Claims.{below, at, past}

module _ {A : Type 0} where
  -- what is read stands at its place
  found : (l : List A) (j : ℕ) (v : A) → get_elem? l j ≡ some v → (j < length l) × (get_or l j v ≡ v)
  found [] j v e = absurd (some-ne-none v (sym e))
  found (x ∷ xs) zero v e = (omega arith, some-injective x v e)
  found (x ∷ xs) (suc j) v e = let more = found xs j v e in (omega (arith, more.0), more.1)

  pub sum-set : (f : A → ℕ) (l : List A) (j : ℕ) (v w : A) → get_elem? l j ≡ some v → sum_by f (set l j w) + f v ≡ sum_by f l + f w
  sum-set f l j v w e = let stands = found l j v e in subst (λ x. sum_by f (set l j w) + f x ≡ sum_by f l + f w) stands.1 (sum_by-set f l j w v stands.0)

  pub term-le : (f : A → ℕ) (l : List A) (j : ℕ) (v : A) → get_elem? l j ≡ some v → f v ≤ sum_by f l
  term-le f l j v e = let stands = found l j v e in subst (λ x. f x ≤ sum_by f l) stands.1 (get_or-le-sum_by f l j v stands.0)

  pub sum-le : (f g : A → ℕ) (l : List A) → ((j : ℕ) (v : A) → get_elem? l j ≡ some v → f v ≤ g v) → sum_by f l ≤ sum_by g l
  sum-le f g [] h = le_refl 0
  sum-le f g (x ∷ xs) h = omega (arith, sum_by-cons f x xs, sum_by-cons g x xs, h zero x refl, sum-le f g xs (λ j v e. h (suc j) v e))

  module _ (f g : A → ℕ) where
    -- who has none of g has none of f
    abbrev GoesWith : List A → Type 0
    GoesWith l = (i : ℕ) (u : A) → get_elem? l i ≡ some u → g u ≡ 0 → f u ≡ 0

    sum-none : (l : List A) → GoesWith l → sum_by g l ≡ 0 → sum_by f l ≡ 0
    sum-none [] goes none = refl
    sum-none (x ∷ xs) goes none =
        let all = sum_by-cons g x xs in
        omega (arith, sum_by-cons f x xs, goes zero x refl (omega arith), sum-none xs (λ i u. goes (suc i) u) (omega arith))

    -- who has all of g has all of f
    pub sum-alone : (l : List A) (j : ℕ) (v : A) → get_elem? l j ≡ some v → GoesWith l → sum_by g l ≡ g v → sum_by f l ≡ f v
    sum-alone [] j v e goes all = absurd (some-ne-none v (sym e))
    sum-alone (x ∷ xs) zero v e goes all =
        let same = some-injective x v e in
        omega (arith, sum_by-cons f x xs, ap f same, sum-none xs (λ i u. goes (suc i) u) (omega (arith, sum_by-cons g x xs, ap g same)))
    sum-alone (x ∷ xs) (suc j) v e goes all =
        let whole = sum_by-cons g x xs in
        let mine = term-le g xs j v e in
        omega (arith, sum_by-cons f x xs, goes zero x refl (omega arith), sum-alone xs j v e (λ i u. goes (suc i) u) (omega arith))

pub sum-count : {A : Type 0} (l : List A) → sum_by (λ _. 1) l ≡ length l
sum-count [] = refl
sum-count (x ∷ xs) = omega (arith, sum_by-cons (λ _. 1) x xs, sum-count xs)

below-past : (k n : ℕ) → n ≤ k → below (at k) n ≡ 0
below-past k zero le = refl
below-past k (suc n) le = grind (arith, nat_tests, below-past k n)

pub below-hit : (k n : ℕ) → k < n → below (at k) n ≡ 1
below-hit k zero lt = absurd (omega arith)
below-hit k (suc n) lt = grind (arith, nat_tests, below-past k n, below-hit k n)

pub below-count : (n : ℕ) → below (λ _. 1) n ≡ n
below-count zero = refl
below-count (suc n) = omega (arith, below-count n)

-- the numbers below n are pieces, and then the numbers past them
pub below-over : (pieces n : ℕ) → n ≤ pieces + below (past pieces) n
below-over pieces zero = omega arith
below-over pieces (suc n) = grind (arith, nat_tests, below-over pieces n)

pub below-none : (pieces n : ℕ) → n ≤ pieces → below (past pieces) n ≡ 0
below-none pieces zero le = refl
below-none pieces (suc n) le = grind (arith, nat_tests, below-none pieces n)
