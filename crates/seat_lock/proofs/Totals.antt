-- Sums over a list whose elements are read by `get_elem?`, and sums over the numbers below some n.
use Rattle.std.proofs.Common.{◌≡◌, ◌≢◌, ℕ, zero, suc, ◌+◌, ◌<◌, ◌≤◌, ◌==◌, if◌then◌else◌, List, [], ◌∷◌, ◌++◌, length, set, sym, refl, ap, arith, le_refl}
use Rattle.std.proofs.lemmas.Bool.Decides.{nat_tests}
use Rattle.seat_lock.proofs.Common.{some, some-injective, some-ne-none, get_elem?, Claim, total, below, lane_weight, fresh_claims, first_claim, other_claims}

module _ {A : Type 0} (f : A → ℕ) where
  pub total-set : (l : List A) (j : ℕ) (v w : A) → get_elem? l j ≡ some v → total f (set l j w) + f v ≡ total f l + f w
  total-set [] j v w e = absurd (some-ne-none v (sym e))
  total-set (x ∷ xs) zero v w e = omega (arith, ap f (some-injective x v e))
  total-set (x ∷ xs) (suc j) v w e = omega (arith, total-set xs j v w e)

  pub total-append : (l m : List A) → total f (l ++ m) ≡ total f l + total f m
  total-append [] m = omega arith
  total-append (x ∷ xs) m = omega (arith, total-append xs m)

  pub term-le : (l : List A) (j : ℕ) (v : A) → get_elem? l j ≡ some v → f v ≤ total f l
  term-le [] j v e = absurd (some-ne-none v (sym e))
  term-le (x ∷ xs) zero v e = omega (arith, ap f (some-injective x v e))
  term-le (x ∷ xs) (suc j) v e = omega (arith, term-le xs j v e)

  pub terms-le : (l : List A) (i j : ℕ) (v w : A) → i ≢ j → get_elem? l i ≡ some v → get_elem? l j ≡ some w → f v + f w ≤ total f l
  terms-le [] i j v w apart a b = absurd (some-ne-none v (sym a))
  terms-le (x ∷ xs) zero zero v w apart a b = absurd (apart refl)
  terms-le (x ∷ xs) zero (suc j) v w apart a b = omega (arith, ap f (some-injective x v a), term-le xs j w b)
  terms-le (x ∷ xs) (suc i) zero v w apart a b = omega (arith, ap f (some-injective x w b), term-le xs i v a)
  terms-le (x ∷ xs) (suc i) (suc j) v w apart a b = omega (arith, terms-le xs i j v w (λ e. apart (ap suc e)) a b)

pub total-le : {A : Type 0} (f g : A → ℕ) (l : List A) → ((j : ℕ) (v : A) → get_elem? l j ≡ some v → f v ≤ g v) → total f l ≤ total g l
total-le f g [] h = le_refl 0
total-le f g (x ∷ xs) h = let here : f x ≤ g x = h zero x refl in let more : total f xs ≤ total g xs = total-le f g xs (λ j v e. h (suc j) v e) in omega arith

pub total-ext : {A : Type 0} (f g : A → ℕ) (l : List A) → ((v : A) → f v ≡ g v) → total f l ≡ total g l
total-ext f g [] h = refl
total-ext f g (x ∷ xs) h = let here : f x ≡ g x = h x in let more : total f xs ≡ total g xs = total-ext f g xs h in omega arith

-- 1 at k, and else 0
abbrev pub at : ℕ → ℕ → ℕ
at k n = if n == k then 1 else 0

pub at-same : (k n : ℕ) → n ≡ k → at k n ≡ 1
at-same k n e = grind (arith, nat_tests)

pub below-past : (k n : ℕ) → n ≤ k → below (at k) n ≡ 0
below-past k zero le = refl
below-past k (suc n) le = grind (arith, nat_tests, below-past k n)

pub below-hit : (k n : ℕ) → k < n → below (at k) n ≡ 1
below-hit k zero lt = absurd (omega arith)
below-hit k (suc n) lt = grind (arith, nat_tests, below-past k n, below-hit k n)

pub below-most : (k n : ℕ) → below (at k) n ≤ 1
below-most k zero = omega arith
below-most k (suc n) = grind (arith, nat_tests, below-past k n, below-most k n)

pub below-count : (n : ℕ) → below (λ _. 1) n ≡ n
below-count zero = refl
below-count (suc n) = omega (arith, below-count n)

module _ {C R : Type 0} where
  pub lane_weight-count : (claims : List (Claim C R)) → lane_weight (λ _. 1) claims ≡ length claims
  lane_weight-count [] = refl
  lane_weight-count (c ∷ cs) = omega (arith, lane_weight-count cs)

  pub lane_weight-append : (h : ℕ → ℕ) (a b : List (Claim C R)) → lane_weight h (a ++ b) ≡ lane_weight h a + lane_weight h b
  lane_weight-append h a b = total-append (λ (c : Claim C R). h c.lane) a b

  pub lane_weight-cut : (h : ℕ → ℕ) (claims : List (Claim C R)) → lane_weight h (first_claim claims) + lane_weight h (other_claims claims) ≡ lane_weight h
      claims
  lane_weight-cut h [] = refl
  lane_weight-cut h (c ∷ cs) = omega arith

module _ (C R : Type 0) where
  pub length-fresh : (from n : ℕ) → length (fresh_claims {C = C} {R = R} from n) ≡ n
  length-fresh from zero = refl
  length-fresh from (suc n) = ap suc (length-fresh (suc from) n)

  pub fresh-past : (lane from n : ℕ) → lane < from → lane_weight (at lane) (fresh_claims {C = C} {R = R} from n) ≡ 0
  fresh-past lane from zero lt = refl
  fresh-past lane from (suc n) lt = grind (arith, nat_tests, fresh-past lane (suc from) n)

  pub fresh-most : (lane from n : ℕ) → lane_weight (at lane) (fresh_claims {C = C} {R = R} from n) ≤ 1
  fresh-most lane from zero = omega arith
  fresh-most lane from (suc n) = grind (arith, nat_tests, fresh-past lane (suc from) n, fresh-most lane (suc from) n)

  pub fresh-within : (lane from n : ℕ) → 1 ≤ lane_weight (at lane) (fresh_claims {C = C} {R = R} from n) → lane < from + n
  fresh-within lane from zero some_one = absurd (omega arith)
  fresh-within lane from (suc n) some_one = grind (arith, nat_tests, fresh-within lane (suc from) n)
