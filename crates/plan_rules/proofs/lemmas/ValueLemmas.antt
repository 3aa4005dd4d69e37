-- Leaf values, term by term.
use Rattle.std.proofs.lemmas.Bool.Decides.{nat_tests}
use Rattle.std.proofs.Common.{
  ◌≡◌,
  ℕ,
  zero,
  suc,
  ◌+◌,
  ◌-◌,
  ◌<◌,
  ◌≤◌,
  Bool,
  true,
  false,
  List,
  length,
  get_or,
  drop,
  Option,
  Some,
  None,
  ℤ,
  ◌+ℤ◌,
  ap,
  ◌∙◌,
  arith,
  ne_eqb,
  eq-eqb,
  rules,
}
use Rattle.plan_rules.proofs.Common.{
  ints,
  and_left,
  and_right,
  and_from,
  cond-true,
  cond-false,
  at_drop_more,
  least_below,
  lesser,
  Graph,
  row_vehicle,
  IsStartOf,
  Usable,
  multiplier_at,
  multiplier_sum,
  is_usable_by,
}
use Rattle.plan_rules.proofs.lemmas.SumLemmas.{least_below_none, least_below_more}

-- the sum so far and that of the riders to come is that of all
pub sum_more : (ms : List ℤ) (xs : List ℕ) (i : ℕ) (sum whole : ℤ) → i < length xs → sum +ℤ multiplier_sum ms (drop i xs) ≡ whole →
    (sum +ℤ multiplier_at ms (get_or xs i 0)) +ℤ multiplier_sum ms (drop (i + 1) xs) ≡ whole
sum_more ms xs i sum whole l e =
    let more : multiplier_sum ms (drop i xs) ≡ multiplier_at ms (get_or xs i 0) +ℤ multiplier_sum ms (drop (i + 1) xs) =
    at_drop_more (multiplier_sum ms) xs i 0 l in
    omega (arith, ints)

-- rows before the vehicle's first one aren't its own, nor are those from its end on
pub none_before : (g : Graph) (usable : Usable) (f : ℕ → ℤ) (v start : ℕ) → IsStartOf g v start → least_below start (is_usable_by g usable v) f ≡ None
none_before g usable f v start first = search (rules, least_below_none, and_left, ne_eqb)

least_below_plus : (n m : ℕ) (p : ℕ → Bool) (f : ℕ → ℤ) → ((k : ℕ) → n ≤ k → k < n + m → p k ≡ false) → least_below (n + m) p f ≡ least_below n p f
least_below_plus n zero p f h = let e : n + zero ≡ n = omega arith in ap (λ (j : ℕ). least_below j p f) e
least_below_plus n (suc m) p f h =
    let e : n + suc m ≡ (n + m) + 1 = omega arith in
    ap (λ (j : ℕ). least_below j p f) e
    ∙ least_below_more (n + m) p f
    ∙ cond-false (p (n + m)) (Some (lesser (least_below (n + m) p f) (f (n + m)))) (least_below (n + m) p f) (h (n + m) (omega arith) (omega arith))
    ∙ least_below_plus n m p f (λ k a b. h k a (omega arith))

pub none_after : (g : Graph) (usable : Usable) (f : ℕ → ℤ) (v end : ℕ) → IsStartOf g (v + 1) end →
    least_below (length g.rows) (is_usable_by g usable v) f ≡ least_below end (is_usable_by g usable v) f
none_after g usable f v end next = grind (arith, nat_tests, (least_below_plus end (length g.rows - end)))

-- one more row of the vehicle
pub least_taken : (g : Graph) (usable : Usable) (f : ℕ → ℤ) (v k : ℕ) (o : Option ℤ) (z : ℤ) → row_vehicle g k ≡ v → usable k ≡ true →
    o ≡ least_below k (is_usable_by g usable v) f → z ≡ f k → Some (lesser o z) ≡ least_below (k + 1) (is_usable_by g usable v) f
least_taken g usable f v k o z own may e value = search (rules, least_below_more, cond-true, and_from, eq-eqb)

pub least_passed : (g : Graph) (usable : Usable) (f : ℕ → ℤ) (v k : ℕ) (o : Option ℤ) → usable k ≡ false → o ≡ least_below k (is_usable_by g usable v) f →
    o ≡ least_below (k + 1) (is_usable_by g usable v) f
least_passed g usable f v k o out e = search (rules, least_below_more, cond-false, and_right)

-- a vehicle's rows don't end before they start
pub starts_rise : (g : Graph) (v start end : ℕ) → IsStartOf g v start → IsStartOf g (v + 1) end → start ≤ end
starts_rise g v start end first second = grind (arith, first.below end, second.above end, first.within)
