-- Rows: rising riders, and the order of vehicles.
use Rattle.std.proofs.Common.{
  ◌≡◌,
  ◌==◌,
  ◌⊎◌,
  ℕ,
  zero,
  suc,
  ◌+◌,
  ◌-◌,
  ◌<◌,
  ◌≤◌,
  true,
  false,
  List,
  [],
  ◌∷◌,
  ◌++◌,
  length,
  get_or,
  eqb,
  not,
  Ordering,
  Less,
  Equal,
  Greater,
  nat_cmp,
  refl,
  ap,
  inl,
  inr,
  arith,
  rules,
}
use Rattle.plan_rules.proofs.Common.{
  ordering_then,
  ordering_index,
  get_or_push,
  get_or_append_left,
  cases_eq,
  both_ways,
  nat_tests,
  Graph,
  row_at,
  row_vehicle,
  IsInOrder,
  AreRisingBelow,
  IsStartOf,
  row_cmp,
}
use Rattle.plan_rules.specs.GraphFault.{HasRowsInOrder, IsFirstUnordered}

-- the first i numbers rise and are below `riders`, and `least` is one above the last of them
pub record IsRisingSoFar (riders least i : ℕ) (xs : List ℕ) : Type 0 where
  pub start : i ≡ 0 → least ≡ 0
  pub last : (k : ℕ) → k + 1 ≡ i → least ≡ get_or xs k 0 + 1
  pub below : (k : ℕ) → k < i → get_or xs k 0 < riders
  pub rising : (k : ℕ) → k + 1 < i → get_or xs k 0 < get_or xs (k + 1) 0

-- a number that is too low or too high breaks the order
pub not_rising : (riders least i : ℕ) (xs : List ℕ) → IsRisingSoFar riders least i xs → i < length xs → (get_or xs i 0 < least) ⊎ (riders ≤ get_or xs i 0) →
    AreRisingBelow riders xs → ⊥
not_rising riders least i xs h l (inr high) all = search rules
not_rising riders least zero xs h l (inl low) all = search rules
not_rising riders least (suc k) xs h l (inl low) all =
    let e : k + 1 ≡ suc k = omega arith in
    let last : least ≡ get_or xs k 0 + 1 = h.last k e in
    let up : get_or xs k 0 < get_or xs (k + 1) 0 = all.rising k (omega arith) in
    let same : get_or xs (k + 1) 0 ≡ get_or xs (suc k) 0 = ap (λ (j : ℕ). get_or xs j 0) e in
    omega arith

-- ---- the order of vehicles

less_vehicle : (a b : ℕ) (o : Ordering) → ordering_then (nat_cmp a b) o ≡ Less → a ≤ b
less_vehicle a b o e = grind (arith, nat_tests)

pub vehicle_rises : (g : Graph) (k : ℕ) → IsInOrder g k → row_vehicle g k ≤ row_vehicle g (suc k)
vehicle_rises g k e = less_vehicle (row_vehicle g k) (row_vehicle g (suc k)) _ e

pub vehicles_rise : (g : Graph) → HasRowsInOrder g → (j n : ℕ) → j + n < length g.rows → row_vehicle g j ≤ row_vehicle g (j + n)
vehicles_rise g order j zero l = search rules
vehicles_rise g order j (suc n) l = grind (arith, vehicle_rises, (vehicles_rise g order j n))

-- where the rows of vehicle v end, those of the next one start
pub start_next : (g : Graph) (v row end : ℕ) → HasRowsInOrder g → IsStartOf g v row → row ≤ end → end ≤ length g.rows →
    ((k : ℕ) → row ≤ k → k < end → row_vehicle g k ≡ v) → (end < length g.rows → row_vehicle g end ≡ v → ⊥) → IsStartOf g (v + 1) end
start_next g v row end order start up within own next = record {
  within = within;
  below = λ k l. grind (arith, l, start.below k, own k);
  above = λ k a b.
      let first : v ≤ row_vehicle g end = start.above end up (omega (arith, a, b)) in
      let differs = next (omega (arith, a, b)) in
      let same : end + (k - end) ≡ k = omega (arith, a) in
      let rise : row_vehicle g end ≤ row_vehicle g (end + (k - end)) = vehicles_rise g order end (k - end) (omega (arith, a, b)) in
      let e : row_vehicle g (end + (k - end)) ≡ row_vehicle g k = ap (row_vehicle g) same in
      omega (arith, first, differs, rise, e);
}

-- the start of one more vehicle at the end of the list
pub starts_push : (g : Graph) (starts : List ℕ) (row n : ℕ) → length starts ≡ n → ((v : ℕ) → v < n → IsStartOf g v (get_or starts v 0)) → IsStartOf g n row →
    (v : ℕ) → v < n + 1 → IsStartOf g v (get_or (starts ++ row ∷ []) v 0)
starts_push g starts row n long before here v l = search (rules, get_or_push, get_or_append_left, cases_eq)

-- the first row that isn't above the one before it
pub first_unordered : (g : Graph) (k : ℕ) → 1 ≤ k → k < length g.rows → ((j : ℕ) → suc j < k → IsInOrder g j) →
    (row_cmp (row_at g (k - 1)) (row_at g k) ≡ Less → ⊥) → IsFirstUnordered g k
first_unordered g zero low within before wrong = absurd (omega (arith, low))
first_unordered g (suc j) low within before wrong = search rules

not_less : (o : Ordering) → not (eqb (ordering_index o) 0) ≡ true → o ≡ Less → ⊥
not_less Less h e = absurd (both_ways false refl h)
not_less Equal h e = cc
not_less Greater h e = cc

pub not_less_index : (o : Ordering) → not (ordering_index o == 0) ≡ true → o ≡ Less → ⊥
not_less_index o h e = not_less o h e
