-- Leaf values where the usable rows of one vehicle alone changed.
use Rattle.std.proofs.Common.{
  ◌≡◌,
  ◌≢◌,
  ℕ,
  zero,
  suc,
  ◌<◌,
  List,
  ℤ,
  pos,
  negsuc,
  ◌+ℤ◌,
  ◌-ℤ◌,
  FitsSigned,
  to_z,
  of_z,
  sym,
  ap,
  ◌∙◌,
  inl,
  inr,
  arith,
  unwrap_or,
  rules,
}
use Rattle.assignment_search.proofs.Common.{
  w128,
  ints,
  cases_eq,
  int_sum_below,
  Graph,
  row_vehicle,
  Usable,
  vehicle_term,
  leaf_value,
  IsSmall,
  IsSmallSum,
  only_row,
  without_row,
  int_sum_same,
  least_below_agrees,
  nat_tests,
}
use Rattle.std.proofs.lemmas.Int.{to_z-of_z}
use Rattle.assignment_search.specs.work.Apart.{AgreeApart}

-- two sums whose terms differ at one number alone
int_sum_moved : (n v : ℕ) (f h : ℕ → ℤ) → v < n → ((w : ℕ) → w < n → w ≢ v → f w ≡ h w) → int_sum_below n h ≡ (int_sum_below n f -ℤ f v) +ℤ h v
int_sum_moved zero v f h l e = absurd (omega (arith, l))
int_sum_moved (suc n) v f h l e = elim (cases_eq v n) [
  | inl here ↦ omega (arith, ints, int_sum_same n f h (λ w low. e w (omega (arith, low)) (λ is. omega (arith, low, is, here))), ap f here, ap h here)
  | inr other ↦ omega (
    arith,
    ints,
    int_sum_moved n v f h (omega (arith, l, other)) (λ w low. e w (omega (arith, low))),
    e n (omega arith)
        (λ is. other (sym is)),
  )
]

term_apart : (g : Graph) (u w : Usable) (ms : List ℤ) (v x : ℕ) → AgreeApart g v u w → x ≢ v → vehicle_term g u ms x ≡ vehicle_term g w ms x
term_apart g u w ms v x e other = search (rules, unwrap_or, least_below_agrees, nat_tests)

-- a value changes by the changed vehicle's part
pub value_moved : (g : Graph) (u w : Usable) (ms : List ℤ) (v : ℕ) (z old new : ℤ) → v < g.vehicles → AgreeApart g v u w → z ≡ leaf_value g u ms →
    old ≡ vehicle_term g u ms v → new ≡ vehicle_term g w ms v → (z -ℤ old) +ℤ new ≡ leaf_value g w ms
unfolding leaf_value
value_moved g u w ms v z old new low e value was is =
    let moved = int_sum_moved g.vehicles v (vehicle_term g u ms) (vehicle_term g w ms) low (λ x l other. term_apart g u w ms v x e other) in
    omega (arith, ints, moved, value, was, is)

-- ---- in 128 bits

fits : (z : ℤ) → IsSmallSum 1502 z → FitsSigned w128 z
fits (pos n) h = record { sfits = omega (arith, ints, h.high) }
fits (negsuc n) h = record { sfits = omega (arith, ints, h.low) }

pub back : (z : ℤ) → IsSmallSum 1502 z → to_z w128 (of_z w128 z) ≡ z
back z h = to_z-of_z w128 z (fits z h)

-- nothing is lost as the value is computed
pub computed : (z old new : ℤ) → IsSmallSum 1500 z → IsSmall old → IsSmall new
    → to_z w128 (of_z w128 (to_z w128 (of_z w128 (to_z w128 (of_z w128 z) -ℤ to_z w128 (of_z w128 old))) +ℤ to_z w128 (of_z w128 new))) ≡ (z -ℤ old) +ℤ new
computed z old new h ho hn = search (rules, to_z, of_z, back, ints)

-- ---- the two ends of a branch

pub only_apart : (g : Graph) (u : Usable) (v k : ℕ) → AgreeApart g v u (only_row g u v k)
only_apart g u v k j l other = grind (arith, nat_tests, other)

pub without_apart : (g : Graph) (u : Usable) (v k : ℕ) → row_vehicle g k ≡ v → AgreeApart g v u (without_row u k)
without_apart g u v k own j l other = grind (arith, nat_tests, λ (is : j ≡ k). other (ap (row_vehicle g) is ∙ own))
