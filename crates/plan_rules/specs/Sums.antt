use Rattle.std.specs.Prelude.{ℕ, suc, zero, ◌+◌, Bool, true, ◌&&◌, if◌then◌else◌, ℤ, pos, ◌+ℤ◌, Option, Some, None}
use Rattle.std.specs.Int.{int_min}

-- the sum of f at the numbers below n
abbrev pub sum_below : ℕ → (ℕ → ℕ) → ℕ
sum_below zero f = 0
sum_below (suc n) f = sum_below n f + f n

-- how many numbers below n pass the test
abbrev pub count_below : ℕ → (ℕ → Bool) → ℕ
count_below n test = sum_below n (λ k. if test k then 1 else 0)

-- whether all numbers below n pass the test
abbrev pub all_below : ℕ → (ℕ → Bool) → Bool
all_below zero test = true
all_below (suc n) test = all_below n test && test n

-- the sum of f at the numbers below n, where f may be negative
abbrev pub int_sum_below : ℕ → (ℕ → ℤ) → ℤ
int_sum_below zero f = pos 0
int_sum_below (suc n) f = int_sum_below n f +ℤ f n

-- the lesser of a number that may be missing and another one
abbrev pub lesser : Option ℤ → ℤ → ℤ
lesser None z = z
lesser (Some y) z = int_min y z

-- the least of f at the numbers below n that pass the test, where there is one
abbrev pub least_below : ℕ → (ℕ → Bool) → (ℕ → ℤ) → Option ℤ
least_below zero test f = None
least_below (suc n) test f = if test n then Some (lesser (least_below n test f) (f n)) else least_below n test f
