-- How many choices of rows there are.
use Rattle.std.proofs.Common.{◌≡◌, ℕ, zero, suc, ◌+◌, ◌-◌, ◌*◌, ◌<◌, ◌≤◌, Bool, true, false, length, max, refl, subst, ⊎_elim, arith, eq-eqb, add-suc, add-zero}
use Rattle.report_audit.proofs.Common.{cases_lt, eqb_tells, count_below, Graph, row_vehicle, IsStartOf, is_usable_by, every_row, product_below, choice_count}
use Rattle.std.proofs.Math.Nat.{mul-le-mul_left}

-- how many of the first n numbers pass a test that those from s to e pass, and no others
record CountsTo (s e n count : ℕ) : Type 0 where
  low : n ≤ s → count ≡ 0
  among : s ≤ n → n ≤ e → count + s ≡ n
  high : e ≤ n → count + s ≡ e

count_part : (test : ℕ → Bool) (s e most : ℕ) → s ≤ e → ((k : ℕ) → k < most → k < s → test k ≡ false) → ((k : ℕ) → k < most → s ≤ k → k < e → test k ≡ true) →
    ((k : ℕ) → k < most → e ≤ k → test k ≡ false)
    → (n : ℕ) → n ≤ most → CountsTo s e n (count_below n test)
count_part test s e most up before here after zero h = record { low = λ a. refl; among = λ a b. omega (arith, a); high = λ a. omega (arith, a, up) }
count_part test s e most up before here after (suc n) h =
    let so_far = count_part test s e most up before here after n (omega (arith, h)) in
    ⊎_elim
    (λ (less : n < s).
    let no = before n (omega (arith, h)) less in let zero_so_far = so_far.low (omega (arith, less)) in
    rw no (record {
      low = λ a. omega (arith, zero_so_far);
      among = λ a b. omega (arith, zero_so_far, less, a);
      high =
          λ a. omega (arith, zero_so_far, less, a, up);
    }))
    (λ (ge : s ≤ n). ⊎_elim
    (λ (less : n < e).
    let yes = here n (omega (arith, h)) ge less in let known = so_far.among ge (omega (arith, less)) in
    rw yes (record { low = λ a. omega (arith, ge, a); among = λ a b. omega (arith, known); high = λ a. omega (arith, known, less, a) }))
    (λ (past : e ≤ n).
    let no = after n (omega (arith, h)) past in let known = so_far.high past in
    rw no (record { low = λ a. omega (arith, ge, a); among = λ a b. omega (arith, past, b); high = λ a. omega (arith, known) }))
    (cases_lt n e))
    (cases_lt n s)

pub rows_counted : (g : Graph) (v s e : ℕ) → s ≤ e → IsStartOf g v s → IsStartOf g (v + 1) e → count_below (length g.rows) (is_usable_by g every_row v) ≡ e - s
rows_counted g v s e up start end =
    let n = length g.rows in
    let all = count_part (is_usable_by g every_row v) s e n up
    (λ k h less. let lower = start.below k less in not_own k (let ne : row_vehicle g k ≡ v → ⊥ = (λ q. omega (arith, lower, q)) in ne))
    (λ k h ge less. let low = start.above k ge h in let high = end.below k less in own k (omega (arith, low, high)))
    (λ k h past. let high = end.above k past h in not_own k (let ne : row_vehicle g k ≡ v → ⊥ = (λ q. omega (arith, high, q)) in ne))
    n (omega arith) in
    let known = all.high end.within in
    omega (arith, known, up)
  where
    own : (k : ℕ) → row_vehicle g k ≡ v → is_usable_by g every_row v k ≡ true
    own k e = rw (eq-eqb (row_vehicle g k) v e) refl

    not_own : (k : ℕ) → (row_vehicle g k ≡ v → ⊥) → is_usable_by g every_row v k ≡ false
    not_own k ne = ⊎_elim (λ yes. absurd (ne yes.1)) (λ no. rw no.0 refl) (eqb_tells (row_vehicle g k) v)

pub product_rises : (f : ℕ → ℕ) → ((v : ℕ) → 1 ≤ f v) → (m n : ℕ) → product_below n f ≤ product_below (n + m) f
product_rises f some zero n = rw add-zero (omega arith)
product_rises f some (suc m) n =
    let rest = product_rises f some m n in let more = some (n + m) in
    let step : product_below (n + m) f * 1 ≤ product_below (n + m) f * f (n + m) = mul-le-mul_left (product_below (n + m) f) more in
    rw add-suc (omega (arith, rest, step))

-- how many choices of rows a vehicle has
abbrev pub row_choices : Graph → ℕ → ℕ
row_choices g v = max 1 (count_below (length g.rows) (is_usable_by g every_row v))

pub choices_all : (g : Graph) → choice_count g every_row ≡ product_below g.vehicles (row_choices g)
unfolding choice_count
choices_all g = refl

-- fewer vehicles have no more choices
pub choices_more : (g : Graph) (v : ℕ) → v ≤ g.vehicles → product_below v (row_choices g) ≤ choice_count g every_row
choices_more g v h =
    let rises = product_rises (row_choices g) (λ w. one_or_more (count_below (length g.rows) (is_usable_by g every_row w))) (g.vehicles - v) v in
    let all : v + (g.vehicles - v) ≡ g.vehicles = omega (arith, h) in
    let known : product_below v (row_choices g) ≤ product_below g.vehicles (row_choices g) =
    subst (λ (n : ℕ). product_below v (row_choices g) ≤ product_below n (row_choices g)) all rises in
    let same = choices_all g in
    omega (arith, known, same)
  where
    one_or_more : (n : ℕ) → 1 ≤ max 1 n
    one_or_more n = omega arith
