-- Sums, counts and least values over the numbers below n.
use Rattle.std.proofs.Common.{
  ◌≡◌,
  ◌==◌,
  ◌⊎◌,
  ℕ,
  zero,
  suc,
  ◌+◌,
  ◌*◌,
  ◌<◌,
  ◌≤◌,
  Bool,
  true,
  false,
  cond,
  ◌||◌,
  ◌&&◌,
  if◌then◌else◌,
  ltb,
  ℤ,
  pos,
  ◌+ℤ◌,
  ◌-ℤ◌,
  ◌≤ℤ◌,
  Option,
  Some,
  None,
  refl,
  sym,
  ◌∙◌,
  subst,
  inl,
  inr,
  arith,
  add-one,
  ne_eqb,
  int_lt,
  rules,
}
use Rattle.plan_rules.proofs.Common.{
  same_Some,
  none-some,
  int_min,
  ints,
  int_min_is,
  nat_tests,
  cases_eq,
  cases_Bool,
  cond_both,
  cond-true,
  cond-false,
  and_from,
  sum_below,
  count_below,
  all_below,
  int_sum_below,
  lesser,
  least_below,
}

-- ---- sums of naturals

pub sum_below_more : (n : ℕ) (f : ℕ → ℕ) → sum_below (n + 1) f ≡ sum_below n f + f n
sum_below_more n f = rw add-one refl

pub sum_below_same : (n : ℕ) (f h : ℕ → ℕ) → ((k : ℕ) → k < n → f k ≡ h k) → sum_below n f ≡ sum_below n h
sum_below_same zero f h e = refl
sum_below_same (suc n) f h e = omega (arith, sum_below_same n f h (λ k l. e k (omega arith)), e n (omega arith))

pub sum_below_plus : (n : ℕ) (f h : ℕ → ℕ) → sum_below n (λ k. f k + h k) ≡ sum_below n f + sum_below n h
sum_below_plus zero f h = refl
sum_below_plus (suc n) f h = omega (arith, sum_below_plus n f h)

pub sum_below_scale : (n c : ℕ) (f : ℕ → ℕ) → sum_below n (λ k. c * f k) ≡ c * sum_below n f
sum_below_scale zero c f = omega arith
sum_below_scale (suc n) c f = omega (arith, sum_below_scale n c f)

pub sum_below_zero : (n : ℕ) → sum_below n (λ _. 0) ≡ 0
sum_below_zero zero = refl
sum_below_zero (suc n) = omega (arith, sum_below_zero n)

pub sum_below_swap : (n m : ℕ) (f : ℕ → ℕ → ℕ) → sum_below n (λ v. sum_below m (f v)) ≡ sum_below m (λ r. sum_below n (λ v. f v r))
sum_below_swap zero m f = sym (sum_below_zero m)
sum_below_swap (suc n) m f = omega (arith, sum_below_swap n m f, sum_below_plus m (λ r. sum_below n (λ v. f v r)) (f n))

-- ---- counts

-- 1 where the test passes, and else 0
abbrev pub flag : Bool → ℕ
flag b = if b then 1 else 0

pub flag-true : (b : Bool) → b ≡ true → flag b ≡ 1
flag-true b e = cond-true b 1 0 e

pub flag-false : (b : Bool) → b ≡ false → flag b ≡ 0
flag-false b e = cond-false b 1 0 e

-- of two tests that never pass both, one at most counts
pub flag-or : (a b : Bool) → (a ≡ true → b ≡ true → ⊥) → flag (a || b) ≡ flag a + flag b
flag-or true true h = absurd (h refl refl)
flag-or true false h = omega arith
flag-or false b h = omega arith

pub count_below_more : (n : ℕ) (p : ℕ → Bool) → count_below (n + 1) p ≡ count_below n p + flag (p n)
count_below_more n p = sum_below_more n (λ k. flag (p k))

-- where none passes, none is counted
pub count_below_none : (n : ℕ) (p : ℕ → Bool) → ((k : ℕ) → k < n → p k ≡ false) → count_below n p ≡ 0
count_below_none zero p e = refl
count_below_none (suc n) p e = omega (arith, count_below_none n p (λ k l. e k (omega arith)), flag-false (p n) (e n (omega arith)))

-- a number below n is counted once
pub count_below_single : (n x : ℕ) → x < n → count_below n (λ r. x == r) ≡ 1
count_below_single zero x l = absurd (omega arith)
count_below_single (suc n) x l = search (rules, nat_tests, count_below_none, ne_eqb, (count_below_single n x))

-- one that passes is counted
pub count_below_some : (n : ℕ) (p : ℕ → Bool) (k : ℕ) → k < n → p k ≡ true → 1 ≤ count_below n p
count_below_some zero p k l e = absurd (omega arith)
count_below_some (suc n) p k l e = grind (arith, count_below_some n p k)

-- two that pass are counted twice
pub count_below_two : (n : ℕ) (p : ℕ → Bool) (j k : ℕ) → j < n → k < n → (j ≡ k → ⊥) → p j ≡ true → p k ≡ true → 2 ≤ count_below n p
count_below_two zero p j k a b d e f = absurd (omega arith)
count_below_two (suc n) p j k a b d e f = grind (arith, count_below_two n p j k, count_below_some n p j, count_below_some n p k)

-- where something is counted, something passes
pub count_below_found : (n : ℕ) (p : ℕ → Bool) → 1 ≤ count_below n p → (k : ℕ) × (k < n) × (p k ≡ true)
count_below_found zero p h = absurd (omega arith)
count_below_found (suc n) p h = search (rules, cases_Bool, flag-false, (count_below_found n p))

-- ---- all

pub all_below_at : (n : ℕ) (p : ℕ → Bool) (k : ℕ) → all_below n p ≡ true → k < n → p k ≡ true
all_below_at zero p k e l = absurd (omega arith)
all_below_at (suc n) p k e l = grind (arith, all_below_at n p k)

pub all_below_from : (n : ℕ) (p : ℕ → Bool) → ((k : ℕ) → k < n → p k ≡ true) → all_below n p ≡ true
all_below_from zero p e = refl
all_below_from (suc n) p e = search (rules, and_from, (all_below_from n p))

pub all_below_fails : (n : ℕ) (p : ℕ → Bool) (k : ℕ) → k < n → p k ≡ false → all_below n p ≡ false
all_below_fails zero p k l e = absurd (omega arith)
all_below_fails (suc n) p k l e = grind (arith, all_below_fails n p k)

pub all_below_same : (n : ℕ) (p q : ℕ → Bool) → ((k : ℕ) → k < n → p k ≡ q k) → all_below n p ≡ all_below n q
all_below_same zero p q e = refl
all_below_same (suc n) p q e = λ i. all_below_same n p q (λ k l. e k (omega arith)) i && e n (omega arith) i

-- ---- sums of integers

pub int_sum_more : (n : ℕ) (f : ℕ → ℤ) → int_sum_below (n + 1) f ≡ int_sum_below n f +ℤ f n
int_sum_more n f = rw add-one refl

pub int_sum_same : (n : ℕ) (f h : ℕ → ℤ) → ((k : ℕ) → k < n → f k ≡ h k) → int_sum_below n f ≡ int_sum_below n h
int_sum_same zero f h e = refl
int_sum_same (suc n) f h e = omega (arith, ints, int_sum_same n f h (λ k l. e k (omega arith)), e n (omega arith))

pub int_sum_le : (n : ℕ) (f h : ℕ → ℤ) → ((k : ℕ) → k < n → f k ≤ℤ h k) → int_sum_below n f ≤ℤ int_sum_below n h
int_sum_le zero f h e = omega (arith, ints)
int_sum_le (suc n) f h e = omega (arith, ints, int_sum_le n f h (λ k l. e k (omega arith)), e n (omega arith))

pub int_sum_plus : (n : ℕ) (f h : ℕ → ℤ) → int_sum_below n (λ k. f k +ℤ h k) ≡ int_sum_below n f +ℤ int_sum_below n h
int_sum_plus zero f h = refl
int_sum_plus (suc n) f h = omega (arith, ints, int_sum_plus n f h)

pub int_sum_minus : (n : ℕ) (f h : ℕ → ℤ) → int_sum_below n (λ k. f k -ℤ h k) ≡ int_sum_below n f -ℤ int_sum_below n h
int_sum_minus zero f h = refl
int_sum_minus (suc n) f h = omega (arith, ints, int_sum_minus n f h)

pub int_sum_pos : (n : ℕ) (f : ℕ → ℕ) → int_sum_below n (λ k. pos (f k)) ≡ pos (sum_below n f)
int_sum_pos zero f = refl
int_sum_pos (suc n) f = omega (arith, ints, int_sum_pos n f)

pub int_sum_zero : (n : ℕ) → int_sum_below n (λ _. pos 0) ≡ pos 0
int_sum_zero zero = refl
int_sum_zero (suc n) = omega (arith, ints, int_sum_zero n)

pub int_sum_swap : (n m : ℕ) (f : ℕ → ℕ → ℤ) → int_sum_below n (λ v. int_sum_below m (f v)) ≡ int_sum_below m (λ r. int_sum_below n (λ v. f v r))
int_sum_swap zero m f = sym (int_sum_zero m)
int_sum_swap (suc n) m f = omega (arith, ints, int_sum_swap n m f, int_sum_plus m (λ r. int_sum_below n (λ v. f v r)) (f n))

-- the number where the test passes, and else nothing
abbrev pub part : Bool → ℤ → ℤ
part b z = cond b z (pos 0)

-- of two tests that never pass both, one at most counts
pub part-or : (a b : Bool) (z : ℤ) → (a ≡ true → b ≡ true → ⊥) → part (a || b) z ≡ part a z +ℤ part b z
part-or true true z h = absurd (h refl refl)
part-or true false z h = omega (arith, ints)
part-or false b z h = omega (arith, ints)

-- a sum in which one number counts
int_sum_past : (n x : ℕ) (f : ℕ → ℤ) → n ≤ x → int_sum_below n (λ r. part (x == r) (f r)) ≡ pos 0
int_sum_past zero x f l = refl
int_sum_past (suc n) x f l = grind (arith, ints, nat_tests, int_sum_past n x f)

pub int_sum_single : (n x : ℕ) (f : ℕ → ℤ) → x < n → int_sum_below n (λ r. part (x == r) (f r)) ≡ f x
int_sum_single zero x f l = absurd (omega arith)
int_sum_single (suc n) x f l = search (rules, ints, nat_tests, int_sum_past, (int_sum_single n x f))

-- what is counted at most once counts once where it is counted
pub int_sum_once : (n : ℕ) (p : ℕ → Bool) (z : ℤ) → count_below n p ≤ 1 → int_sum_below n (λ v. part (p v) z) ≡ part (ltb 0 (count_below n p)) z
int_sum_once zero p z h = refl
int_sum_once (suc n) p z h = grind (arith, ints, nat_tests, int_sum_once n p z)

-- ---- least values

pub lesser-le_right : (o : Option ℤ) (z : ℤ) → lesser o z ≤ℤ z
lesser-le_right None z = omega (arith, ints)
lesser-le_right (Some y) z = omega (arith, ints, int_min_is y z)

pub lesser-le_left : (y z : ℤ) → lesser (Some y) z ≤ℤ y
lesser-le_left y z = omega (arith, ints, int_min_is y z)

pub least_below_more : (n : ℕ) (p : ℕ → Bool) (f : ℕ → ℤ) → least_below (n + 1) p f ≡ (if p n then Some (lesser (least_below n p f) (f n)) else least_below n p
    f)
least_below_more n p f = rw add-one refl

-- what the least value is, where one passes
pub least_below_some : (n : ℕ) (p : ℕ → Bool) (f : ℕ → ℤ) (k : ℕ) → k < n → p k ≡ true → (z : ℤ) × (least_below n p f ≡ Some z) × (z ≤ℤ f k)
least_below_some zero p f k l e = absurd (omega arith)
least_below_some (suc n) p f k l e = elim (cases_eq k n) [
  | inl here ↦
      let passes : p n ≡ true = subst (λ j. p j ≡ true) here e in (
        lesser (least_below n p f) (f n),
        rw passes refl,
        subst (λ j. lesser (least_below n p f) (f n) ≤ℤ f j) (sym here)
            (lesser-le_right (least_below n p f) (f n)),
      )
  | inr other ↦
      let w = least_below_some n p f k (omega arith) e in elim (cases_Bool (p n)) [
        | inl passes ↦ (lesser (Some w.0) (f n), rw (passes, w.1) refl, omega (arith, ints, lesser-le_left w.0 (f n), w.2))
        | inr fails ↦ (w.0, rw fails w.1, w.2)
      ]
]

-- none passes, none is least
pub least_below_none : (n : ℕ) (p : ℕ → Bool) (f : ℕ → ℤ) → ((k : ℕ) → k < n → p k ≡ false) → least_below n p f ≡ None
least_below_none zero p f e = refl
least_below_none (suc n) p f e = search (rules, cond-false, (least_below_none n p f))

pub int_min_cases : (x y : ℤ) → (int_min x y ≡ x) ⊎ (int_min x y ≡ y)
int_min_cases x y = cond_both (int_lt y x) y x (λ (m : ℤ). (m ≡ x) ⊎ (m ≡ y)) (λ e. inr refl) (λ e. inl refl)

-- some number below n passes and has this value
abbrev Reaches : ℕ → (ℕ → Bool) → (ℕ → ℤ) → ℤ → Type 0
Reaches n p f z = (k : ℕ) × (k < n) × (p k ≡ true) × (z ≡ f k)

from_lesser : (n : ℕ) (p : ℕ → Bool) (f : ℕ → ℤ) (z : ℤ) → p n ≡ true → (o : Option ℤ) → ((y : ℤ) → o ≡ Some y → Reaches n p f y) → lesser o (f n) ≡ z →
    Reaches (suc n) p f z
from_lesser n p f z passed None before value = (n, omega arith, passed, sym value)
from_lesser n p f z passed (Some y) before value = elim (int_min_cases y (f n)) [
  | inl left ↦ let w = before y refl in (w.0, omega (arith, w.1), w.2, sym value ∙ left ∙ w.3)
  | inr right ↦ (n, omega arith, passed, sym value ∙ right)
]

-- the least value is reached
pub least_below_found : (n : ℕ) (p : ℕ → Bool) (f : ℕ → ℤ) (z : ℤ) → least_below n p f ≡ Some z → Reaches n p f z
least_below_found zero p f z e = absurd (none-some z e)
least_below_found (suc n) p f z e =
    cond_both (p n) (Some (lesser (least_below n p f) (f n))) (least_below n p f) (λ (o : Option ℤ). o ≡ Some z → Reaches (suc n) p f z)
    (λ yes e. from_lesser n p f z yes (least_below n p f) (λ y is. least_below_found n p f y is) (same_Some _ _ e))
    (λ no e. let w = least_below_found n p f z e in (w.0, omega arith, w.2, w.3))
    e
