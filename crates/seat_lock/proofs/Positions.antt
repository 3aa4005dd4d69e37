-- Each position of a log is that of one call of one lane.
use Rattle.std.proofs.Common.{
  ◌≡◌,
  ℕ,
  zero,
  suc,
  ◌+◌,
  ◌<◌,
  ◌≤◌,
  ◌==◌,
  if◌then◌else◌,
  cond,
  Bool,
  List,
  [],
  ◌∷◌,
  length,
  get_or,
  filter,
  count_by,
  sum_by,
  nat_lt,
  sym,
  refl,
  ◌∙◌,
  arith,
}
use Rattle.std.proofs.lemmas.Bool.Decides.{nat_tests}
use Rattle.seat_lock.proofs.Common.{enumerate_from, LoggedCall, calls_of, below, Laned}
use Rattle.std.proofs.lemmas.List.Sums.{sum_by-cons}
use Rattle.seat_lock.proofs.Totals.{at}

below-ext : (f h : ℕ → ℕ) (n : ℕ) → ((k : ℕ) → f k ≡ h k) → below f n ≡ below h n
below-ext f h zero e = refl
below-ext f h (suc n) e = let here : f n ≡ h n = e n in let more : below f n ≡ below h n = below-ext f h n e in omega arith

below-zero : (n : ℕ) → below (λ _. 0) n ≡ 0
below-zero zero = refl
below-zero (suc n) = omega (arith, below-zero n)

below-sum : (f h : ℕ → ℕ) (n : ℕ) → below (λ k. f k + h k) n ≡ below f n + below h n
below-sum f h zero = refl
below-sum f h (suc n) = omega (arith, below-sum f h n)

below-shift : (h : ℕ → ℕ) (n : ℕ) → below h (suc n) ≡ h 0 + below (λ k. h (suc k)) n
below-shift h zero = refl
below-shift h (suc n) = let more : below h (suc n) ≡ h 0 + below (λ k. h (suc k)) n = below-shift h n in omega arith

-- a sum over a list whose elements are known by their places
sum-below : {A : Type 0} (f : A → ℕ) (h : ℕ → ℕ) (xs : List A) → ((k : ℕ) (d : A) → k < length xs → f (get_or xs k d) ≡ h k) → sum_by f xs ≡ below h (length xs)
sum-below f h [] e = refl
sum-below f h (x ∷ xs) e =
    let here : f x ≡ h 0 = e 0 x (omega arith) in
    let more : sum_by f xs ≡ below (λ k. h (suc k)) (length xs) = sum-below f (λ k. h (suc k)) xs (λ k d lt. e (suc k) d (omega arith)) in
    sum_by-cons f x xs ∙ (let z : f x + sum_by f xs ≡ h 0 + below (λ k. h (suc k)) (length xs) = omega arith in z) ∙ sym (below-shift h (length xs))

-- 1 at a position from m on, of so many
abbrev in_range : ℕ → ℕ → ℕ → ℕ
in_range n m zero = 0
in_range n m (suc len) = at n m + in_range n (m + 1) len

in_range-past : (n m len : ℕ) → n < m → in_range n m len ≡ 0
in_range-past n m zero lt = refl
in_range-past n m (suc len) lt = grind (arith, nat_tests, in_range-past n (m + 1) len)

in_range-is : (n m len : ℕ) → m ≤ n → in_range n m len ≡ (if nat_lt n (m + len) then 1 else 0)
in_range-is n m zero le = grind (arith, nat_tests)
in_range-is n m (suc len) le = grind (arith, nat_tests, in_range-past n (m + 1) len, in_range-is n (m + 1) len)

-- of the lanes below so many, one is this
pick-past : (w lane n : ℕ) → n ≤ lane → below (λ k. if lane == k then w else 0) n ≡ 0
pick-past w lane zero le = refl
pick-past w lane (suc n) le = grind (arith, nat_tests, pick-past w lane n)

pick : (w lane n : ℕ) → lane < n → below (λ k. if lane == k then w else 0) n ≡ w
pick w lane zero lt = absurd (omega arith)
pick w lane (suc n) lt = grind (arith, nat_tests, pick-past w lane n, pick w lane n)

module _ {C R : Type 0} (n : ℕ) where
  -- how many of these calls have the position n
  abbrev pub calls_at : List (ℕ × LoggedCall C R) → ℕ
  calls_at calls = count_by (λ c. c.0 == n) calls

  abbrev hits : ℕ → List (LoggedCall C R) → ℕ → ℕ
  hits m es lane = calls_at (filter (λ p. p.1.lane == lane) (enumerate_from m es))

  one_more : (b : Bool) (x : ℕ × LoggedCall C R) (xs : List (ℕ × LoggedCall C R)) → calls_at (cond b (x ∷ xs) xs) ≡ (if b then at n x.0 else 0) + calls_at xs
  one_more b x xs = grind (arith, sum_by-cons (λ (c : ℕ × LoggedCall C R). cond (c.0 == n) 1 0) x xs)

  all_hits : (m : ℕ) (es : List (LoggedCall C R)) (lanes : ℕ) → Laned lanes es → below (hits m es) lanes ≡ in_range n m (length es)
  all_hits m [] lanes l = below-zero lanes
  all_hits m (e ∷ es) lanes l =
      let cut = below-ext (hits m (e ∷ es)) (λ k. (if e.lane == k then at n m else 0) + hits (m + 1) es k) lanes
      (λ k. one_more (e.lane == k) (m, e) (filter (λ p. p.1.lane == k) (enumerate_from (m + 1) es))) in
      let sum = below-sum (λ k. if e.lane == k then at n m else 0) (hits (m + 1) es) lanes in
      let here = pick (at n m) e.lane lanes l.0 in
      let more = all_hits (m + 1) es lanes l.1 in
      cut ∙ sum ∙ (λ i. here i + more i)

-- a number below the length of the log is the position of one call, and another is that of none
pub each_once : {A C R : Type 0} (n : ℕ) (since : List (LoggedCall C R)) (calls : A → List (ℕ × LoggedCall C R)) (passes : List A) →
    ((k : ℕ) (d : A) → k < length passes → calls (get_or passes k d) ≡ calls_of k since) → Laned (length passes) since
    → sum_by (λ p. count_by (λ c. c.0 == n) (calls p)) passes ≡ (if nat_lt n (length since) then 1 else 0)
each_once {A} n since calls passes cut laned = grind (arith, nat_tests, sum-below, (all_hits n 0 since), (in_range-is n 0))
