-- The riders whom chosen rows serve: their marks, and how many they are.
use Rattle.std.proofs.Common.{
  ◌≡◌,
  ◌==◌,
  ◌||◌,
  ℕ,
  zero,
  suc,
  ◌+◌,
  ◌<◌,
  ◌≤◌,
  Bool,
  true,
  false,
  List,
  [],
  ◌∷◌,
  length,
  get_or,
  replicate,
  nat_lt,
  Option,
  Some,
  None,
  refl,
  sym,
  ap,
  ◌∙◌,
  arith,
  ltb-true,
  le-ltb,
  rules,
}
use Rattle.plan_rules.proofs.Common.{
  list_any,
  IsStrictlyIncreasing,
  both_ways,
  get_or-replicate,
  length-replicate,
  sum_below,
  count_below,
  Graph,
  row_at,
  riders_at,
  choice_at,
  is_in,
  times_served,
  IsGraphRow,
  IsGoodGraph,
  IsLawful,
  times_chosen,
  left_out,
  choice_size,
  IsServedOnce,
  MarksServed,
  nat_tests,
}
use Rattle.plan_rules.proofs.lemmas.SumLemmas.{
  flag,
  flag-or,
  sum_below_same,
  sum_below_plus,
  sum_below_zero,
  sum_below_swap,
  count_below_single,
  count_below_two,
}
use Rattle.plan_rules.proofs.lemmas.GraphLemmas.{
  has,
  tail_rises,
  head_apart,
  rider_below,
  times_served_more,
  times_served_none,
  times_served_found,
  times_served_as_count,
}
use Rattle.plan_rules.proofs.lemmas.MarkLemmas.{marked_one}
use Rattle.plan_rules.proofs.lemmas.HeldLemmas.{or_flag, unmarked_apart}
use Rattle.plan_rules.proofs.lemmas.PlanLemmas.{plan_rows}

-- ---- marks

-- at first nobody is marked
pub served_at_first : (g : Graph) (chosen : List (Option ℕ)) (size : ℕ) → g.riders ≤ size → MarksServed g chosen 0 (replicate size false)
served_at_first g chosen size fits = search (rules, length-replicate, times_served_none, get_or-replicate, le-ltb)

pub once_at_first : (g : Graph) (chosen : List (Option ℕ)) → IsServedOnce g chosen 0
once_at_first g chosen r = omega (arith, times_served_none g chosen r)

-- one more vehicle's riders are marked
pub served_more : (g : Graph) (chosen : List (Option ℕ)) (n : ℕ) (old new : List Bool) → MarksServed g chosen n old → length new ≡ length old
    → ((r : ℕ) → r < length old → get_or new r false ≡ (get_or old r false || is_in g (choice_at chosen n) r)) → MarksServed g chosen (n + 1) new
served_more g chosen n old new before len marked = search (rules, flag, is_in, times_served_more, or_flag, nat_lt)

-- nobody new is marked where a vehicle is given no row
pub served_kept : (g : Graph) (chosen : List (Option ℕ)) (n : ℕ) (marks : List Bool) → MarksServed g chosen n marks → choice_at chosen n ≡ None →
    MarksServed g chosen (n + 1) marks
served_kept g chosen n marks before none = grind (arith, nat_tests, (served_more g chosen n marks marks before), (is_in g))

-- where the next vehicle's riders are served by none before it, still nobody is served twice
pub once_more : (g : Graph) (chosen : List (Option ℕ)) (n : ℕ) → IsServedOnce g chosen n →
    ((r : ℕ) → is_in g (choice_at chosen n) r ≡ true → times_served g chosen n r ≡ 0) → IsServedOnce g chosen (n + 1)
once_more g chosen n before apart r = grind (arith, times_served_more g chosen n r, before r, apart r)

pub once_kept : (g : Graph) (chosen : List (Option ℕ)) (n : ℕ) → IsServedOnce g chosen n → choice_at chosen n ≡ None → IsServedOnce g chosen (n + 1)
once_kept g chosen n before none = search (rules, once_more, both_ways, is_in)

-- a row none of whose riders is marked
pub once_apart : (g : Graph) (chosen : List (Option ℕ)) (n k : ℕ) (marks : List Bool) → MarksServed g chosen n marks → IsServedOnce g chosen n →
    choice_at chosen n ≡ Some k → IsGraphRow g.vehicles g.riders (row_at g k) → list_any (λ q. get_or marks q false) (riders_at g k) ≡ false →
    IsServedOnce g chosen (n + 1)
once_apart g chosen n k marks marked before choice row none = search (rules, once_more, unmarked_apart, is_in)

-- where one of a row's riders is marked, she is served twice
pub served_twice : (g : Graph) (chosen : List (Option ℕ)) (n k : ℕ) (marks : List Bool) → MarksServed g chosen n marks → n < g.vehicles →
    choice_at chosen n ≡ Some k → IsGraphRow g.vehicles g.riders (row_at g k) → list_any (λ q. get_or marks q false) (riders_at g k) ≡ true →
    IsServedOnce g chosen g.vehicles → ⊥
served_twice g chosen n k marks marked within choice row some once =
    let w = marked_one marks (riders_at g k) some in
    let r : ℕ = w.0 in
    let low : w.0 < g.riders = rider_below g k (w.0) row (w.1) in
    let before : 0 < times_served g chosen n (w.0) = ltb-true 0 (times_served g chosen n (w.0)) (sym (marked.marks (w.0) low) ∙ w.2) in
    let other = times_served_found g chosen n (w.0) (omega arith) in
    let here : is_in g (choice_at chosen n) (w.0) ≡ true = ap (λ (o : Option ℕ). is_in g o (w.0)) choice ∙ w.1 in
    let two : 2 ≤ count_below g.vehicles (λ v. is_in g (choice_at chosen v) (w.0)) = count_below_two g.vehicles (λ v. is_in g (choice_at chosen v) (w.0))
    (other.0) n (omega (arith, other.1)) within (λ e. omega (arith, other.1, e)) (other.2) here in
    omega (arith, once (w.0), times_served_as_count g chosen g.vehicles (w.0))

-- ---- how many

-- of rising numbers below n so many are counted as there are
rising_counted : (n : ℕ) (xs : List ℕ) → IsStrictlyIncreasing xs → ((i : ℕ) → i < length xs → get_or xs i 0 < n) → length xs ≡ count_below n (has xs)
rising_counted n [] rises low = sym (sum_below_zero n)
rising_counted n (x ∷ xs) rises low =
    let rest : length xs ≡ count_below n (has xs) = rising_counted n xs (tail_rises x xs rises) (λ i l. low (suc i) (omega arith)) in
    let first : count_below n (λ r. x == r) ≡ 1 = count_below_single n x (low 0 (omega arith)) in
    let split = sum_below_same n (λ r. flag (x == r || has xs r)) (λ r. flag (x == r) + flag (has xs r))
    (λ r l. flag-or (x == r) (has xs r) (head_apart x xs r rises)) in
    let both = sum_below_plus n (λ r. flag (x == r)) (λ r. flag (has xs r)) in
    omega arith

-- a choice has as many riders as are in it
choice_counted : (g : Graph) (c : Option ℕ) → IsGoodGraph g → ((k : ℕ) → c ≡ Some k → k < length g.rows) → choice_size g c ≡ count_below g.riders (is_in g c)
choice_counted g None good fits = sym (sum_below_zero g.riders)
choice_counted g (Some k) good fits = grind (arith, nat_tests, (rising_counted g.riders))

-- whoever is served at most once is served once or left out
once_or_left : (n : ℕ) → n ≤ 1 → n + flag (n == 0) ≡ 1
once_or_left n l = grind (arith, nat_tests)

-- the riders of a lawful plan's rows and those who are left out are all riders
pub served_or_left : (g : Graph) (chosen : List (Option ℕ)) → IsGoodGraph g → IsLawful g chosen →
    sum_below g.vehicles (λ v. choice_size g (choice_at chosen v)) + left_out g chosen ≡ g.riders
served_or_left g chosen good lawful =
    let sizes = sum_below_same g.vehicles (λ v. choice_size g (choice_at chosen v)) (λ v. count_below g.riders (is_in g (choice_at chosen v)))
    (λ v l. choice_counted g (choice_at chosen v) good (λ k e. plan_rows g chosen lawful.plan v k e)) in
    let swapped = sum_below_swap g.vehicles g.riders (λ v r. flag (is_in g (choice_at chosen v) r)) in
    let times = sum_below_same g.riders (λ r. count_below g.vehicles (λ v. is_in g (choice_at chosen v) r)) (times_chosen g chosen)
    (λ r l. sym (times_served_as_count g chosen g.vehicles r)) in
    let both = sum_below_plus g.riders (times_chosen g chosen) (λ r. flag (times_chosen g chosen r == 0)) in
    let each = sum_below_same g.riders (λ r. times_chosen g chosen r + flag (times_chosen g chosen r == 0)) (λ _. 1)
    (λ r l. once_or_left (times_chosen g chosen r) (lawful.once r)) in
    let all : sum_below g.riders (λ _. 1) ≡ g.riders = ones g.riders in
    omega arith
  where
    ones : (n : ℕ) → sum_below n (λ _. 1) ≡ n
    ones zero = refl
    ones (suc n) = omega (arith, ones n)
