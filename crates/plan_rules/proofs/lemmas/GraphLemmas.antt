-- Riders of rows, and how often riders are served.
use Rattle.std.proofs.Common.{
  ◌≡◌,
  ◌==◌,
  ℕ,
  zero,
  suc,
  ◌+◌,
  ◌<◌,
  ◌≤◌,
  Bool,
  true,
  false,
  List,
  [],
  ◌∷◌,
  length,
  get_or,
  Option,
  Some,
  None,
  refl,
  ap,
  ◌∙◌,
  subst,
  arith,
  add-one,
  eq-eqb,
  rules,
}
use Rattle.plan_rules.proofs.Common.{
  list_any,
  IsStrictlyIncreasing,
  both_ways,
  list_any_at,
  get_or_read,
  count_below,
  TripRow,
  Graph,
  no_row,
  row_at,
  riders_at,
  has_rider,
  IsRowOf,
  HasNoRow,
  choice_at,
  is_in,
  times_served,
  IsGraphRow,
  HoldsRightly,
  IsStartOf,
  nat_tests,
  false_from_ne_true,
}
use Rattle.plan_rules.proofs.lemmas.SumLemmas.{flag, count_below_more, count_below_none, count_below_some, count_below_found}

-- ---- lists of riders

-- the list has this number
abbrev pub has : List ℕ → ℕ → Bool
has xs r = list_any (λ x. x == r) xs

-- x is below each number of the list
abbrev IsBelow : ℕ → List ℕ → Type 0
IsBelow x xs = (r : ℕ) → has xs r ≡ true → x < r

pub tail_rises : (x : ℕ) (xs : List ℕ) → IsStrictlyIncreasing (x ∷ xs) → IsStrictlyIncreasing xs
tail_rises x xs h k l =
    let e : suc k + 1 ≡ suc (k + 1) = omega arith in
    subst (λ (j : ℕ). get_or xs k 0 < get_or (x ∷ xs) j 0) e (h (suc k) (omega arith))

below_tail : (x : ℕ) (xs : List ℕ) → IsStrictlyIncreasing (x ∷ xs) → IsBelow x xs
below_tail x [] h r e = absurd (both_ways false refl e)
below_tail x (y ∷ ys) h r e = grind (arith, nat_tests, h 0 (omega arith), below_tail y ys (tail_rises x (y ∷ ys) h) r)

-- the first of rising riders stands nowhere else
pub head_apart : (x : ℕ) (xs : List ℕ) (r : ℕ) → IsStrictlyIncreasing (x ∷ xs) → (x == r) ≡ true → has xs r ≡ true → ⊥
head_apart x xs r h here later = grind (arith, nat_tests, below_tail x xs h r later)

-- what holds of each number at its place holds of each in the list
pub has_below : (n : ℕ) (xs : List ℕ) (r : ℕ) → ((i : ℕ) → i < length xs → get_or xs i 0 < n) → has xs r ≡ true → r < n
has_below n [] r h e = absurd (both_ways false refl e)
has_below n (x ∷ xs) r h e = grind (arith, nat_tests, h 0 (omega arith), has_below n xs r (λ i l. h (suc i) (omega arith)))

pub has_at : (xs : List ℕ) (i : ℕ) → i < length xs → has xs (get_or xs i 0) ≡ true
has_at xs i l = list_any_at (λ x. x == get_or xs i 0) xs i 0 l (eq-eqb (get_or xs i 0) (get_or xs i 0) refl)

-- a rider of a row is one of the graph's
pub rider_below : (g : Graph) (k r : ℕ) → IsGraphRow g.vehicles g.riders (row_at g k) → has_rider g k r ≡ true → r < g.riders
rider_below g k r row e = has_below g.riders (riders_at g k) r row.below e

-- a row's vehicle is one of the graph's
pub vehicle_below : (g : Graph) (v k : ℕ) → ((k : ℕ) → k < length g.rows → IsGraphRow g.vehicles g.riders (row_at g k)) → IsRowOf g v k → v < g.vehicles
vehicle_below g v k rows row = omega (arith, (rows k row.within).vehicle, row.own)

-- ---- how often a rider is served

pub times_served_more : (g : Graph) (chosen : List (Option ℕ)) (n r : ℕ) → times_served g chosen (n + 1) r ≡ times_served g chosen n r + flag
    (is_in g (choice_at chosen n) r)
unfolding times_served
times_served_more g chosen n r = count_below_more n (λ v. is_in g (choice_at chosen v) r)

pub times_served_none : (g : Graph) (chosen : List (Option ℕ)) (r : ℕ) → times_served g chosen 0 r ≡ 0
unfolding times_served
times_served_none g chosen r = refl

pub times_served_found : (g : Graph) (chosen : List (Option ℕ)) (n r : ℕ) → 1 ≤ times_served g chosen n r →
    (v : ℕ) × (v < n) × (is_in g (choice_at chosen v) r ≡ true)
unfolding times_served
times_served_found g chosen n r h = count_below_found n (λ v. is_in g (choice_at chosen v) r) h

pub times_served_some : (g : Graph) (chosen : List (Option ℕ)) (n r v : ℕ) → v < n → is_in g (choice_at chosen v) r ≡ true → 1 ≤ times_served g chosen n r
unfolding times_served
times_served_some g chosen n r v l e = count_below_some n (λ v. is_in g (choice_at chosen v) r) v l e

pub times_served_as_count : (g : Graph) (chosen : List (Option ℕ)) (n r : ℕ) → times_served g chosen n r ≡ count_below n (λ v. is_in g (choice_at chosen v) r)
unfolding times_served
times_served_as_count g chosen n r = refl

-- who is in a choice is in the trip of its row
pub in_choice : (g : Graph) (c : Option ℕ) (r : ℕ) → is_in g c r ≡ true → (k : ℕ) × (c ≡ Some k) × (has_rider g k r ≡ true)
in_choice g None r e = absurd (both_ways false refl e)
in_choice g (Some k) r e = (k, refl, e)

-- no trip has a rider whom the graph hasn't
pub times_served_outside : (g : Graph) (chosen : List (Option ℕ)) (n r : ℕ) → ((k : ℕ) → k < length g.rows → IsGraphRow g.vehicles g.riders (row_at g k)) →
    ((v k : ℕ) → v < n → choice_at chosen v ≡ Some k → k < length g.rows) → g.riders ≤ r → times_served g chosen n r ≡ 0
unfolding times_served
times_served_outside g chosen n r rows fits out = search (rules, count_below_none, is_in, false_from_ne_true, in_choice, rider_below)

-- ---- rows of vehicles

-- between two starts stand the rows of one vehicle
pub row_between : (g : Graph) (v k start next : ℕ) → IsStartOf g v start → IsStartOf g (v + 1) next → start ≤ k → k < next → IsRowOf g v k
row_between g v k start next first second low high = search rules

pub between_row : (g : Graph) (v k start next : ℕ) → IsStartOf g v start → IsStartOf g (v + 1) next → IsRowOf g v k → (start ≤ k) × (k < next)
between_row g v k start next first second row = (grind (arith, first.below k, row.own), grind (arith, second.above k, row.own, row.within))

pub no_row_between : (g : Graph) (v start : ℕ) → IsStartOf g v start → IsStartOf g (v + 1) start → HasNoRow g v
no_row_between g v start first second k row = search (rules, between_row)

-- where a vehicle has no row, its rows start where they end
pub starts_meet : (g : Graph) (v start next : ℕ) → IsStartOf g v start → IsStartOf g (v + 1) next → HasNoRow g v → start ≡ next
starts_meet g v start next first second none = search (rules, row_between)

-- ---- held rows

-- the first n vehicles hold a rider at most once
pub held_once : (g : Graph) (n r : ℕ) → n ≤ g.vehicles → ((v : ℕ) → v < n → HoldsRightly g v) → times_served g g.held n r ≤ 1
held_once g zero r low holds = omega (arith, times_served_none g g.held r)
held_once g (suc n) r low holds = grind (
  arith,
  nat_tests,
  (is_in g),
  (add-one n),
  (times_served_more g g.held n r),
  (HasNoRow g n),
  (both_ways false),
  (held_once g n r),
)

-- ---- reads

-- a row that was read is the graph's
pub row_read : (g : Graph) (rows : List TripRow) (k : ℕ) (x : TripRow) → rows ≡ g.rows → k < length g.rows → x ≡ get_or rows k x → x ≡ row_at g k
row_read g rows k x e l is = get_or_read g.rows k x l (is ∙ ap (λ (r : List TripRow). get_or r k x) e) no_row

-- what is not none is some
pub some_choice : (o : Option ℕ) → (o ≡ None → ⊥) → (k : ℕ) × (o ≡ Some k)
some_choice None h = absurd (h refl)
some_choice (Some k) h = (k, refl)
