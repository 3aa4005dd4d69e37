-- The first-fit pass.
use Rattle.std.proofs.Common.{
  rules,
  ◌≡◌,
  ℕ,
  zero,
  suc,
  ◌+◌,
  ◌<◌,
  List,
  [],
  ◌∷◌,
  ◌++◌,
  length,
  get_or,
  set,
  ℤ,
  pos,
  ◌-ℤ◌,
  ◌*ℤ◌,
  refl,
  sym,
  ◌∙◌,
  arith,
  add-one,
  ◌+ℤ◌,
}
use Rattle.assignment_search.proofs.Common.{
  ints,
  get_or_push,
  get_or_append_left,
  get_or_past,
  length_push,
  Graph,
  row_at,
  Usable,
  multiplier_at,
  multiplier_sum,
  least_cost,
  room_at,
  first_fit_of,
  first_fit_below,
  TripRow,
  IsModest,
}
use Rattle.std.proofs.lemmas.List.{get_or-set_same, get_or-set_other, ext_get_or}

-- what holds of each number at its place holds with one more at the end
pub push_all : (P : ℕ → ℤ → Type 0) (xs : List ℤ) (n : ℕ) (z : ℤ) → length xs ≡ n → ((v : ℕ) → v < n → P v (get_or xs v (pos 0))) → P n z → (v : ℕ) →
    v < n + 1 → P v (get_or (xs ++ z ∷ []) v (pos 0))
push_all P xs n z long before here v l = search (rules, get_or_push, get_or_append_left)

pub room_from : (g : Graph) (usable : Usable) (ms : List ℤ) (k : ℕ) (x : TripRow) (least value : ℤ) → x ≡ row_at g k → least ≡ least_cost g usable x.vehicle →
    value ≡ (pos 1024 *ℤ (pos x.cost -ℤ least) -ℤ multiplier_sum ms x.riders.items) → value ≡ room_at g usable ms k
room_from g usable ms k x least value read cheapest is = search rules

-- ---- the multipliers so far

pub multiplier_sum_same : (aa bb : List ℤ) → ((r : ℕ) → multiplier_at aa r ≡ multiplier_at bb r) → (xs : List ℕ) → multiplier_sum aa xs ≡ multiplier_sum bb xs
multiplier_sum_same aa bb e [] = refl
multiplier_sum_same aa bb e (x ∷ xs) = λ i. e x i +ℤ multiplier_sum_same aa bb e xs i

pub first_fit_of_same : (g : Graph) (usable : Usable) (aa bb : List ℤ) (r : ℕ) → ((q : ℕ) → multiplier_at aa q ≡ multiplier_at bb q) →
    first_fit_of g usable aa r ≡ first_fit_of g usable bb r
first_fit_of_same g usable aa bb r e = search (rules, multiplier_sum_same)

pub first_fit_none : (g : Graph) (usable : Usable) (r : ℕ) → multiplier_at (first_fit_below g usable 0) r ≡ pos 0
unfolding first_fit_below
first_fit_none g usable r = refl

pub length-first_fit : (g : Graph) (usable : Usable) (n : ℕ) → length (first_fit_below g usable n) ≡ n
unfolding first_fit_below
length-first_fit g usable zero = refl
length-first_fit g usable (suc n) = search (rules, length_push, (length-first_fit g usable n))

first_fit_suc : (g : Graph) (usable : Usable) (n : ℕ) → first_fit_below g usable (n + 1) ≡ first_fit_below g usable n ++ first_fit_of g usable
    (first_fit_below g usable n) n ∷ []
unfolding first_fit_below
first_fit_suc g usable n = rw add-one refl

-- one more rider's multiplier
pub first_fit_more : (g : Graph) (usable : Usable) (n : ℕ) (ms : List ℤ) (m : ℤ) → n < length ms →
    ((r : ℕ) → multiplier_at ms r ≡ multiplier_at (first_fit_below g usable n) r) → m ≡ first_fit_of g usable ms n
    → (r : ℕ) → multiplier_at (set ms n m) r ≡ multiplier_at (first_fit_below g usable (n + 1)) r
first_fit_more g usable n ms m l same value r = search (
  rules,
  length-first_fit,
  first_fit_of_same,
  first_fit_suc,
  get_or-set_same,
  get_or_push,
  get_or-set_other,
  get_or_append_left,
  get_or_past,
  length_push,
)

pub first_fit_done : (g : Graph) (usable : Usable) (n : ℕ) (ms : List ℤ) → length ms ≡ n →
    ((r : ℕ) → multiplier_at ms r ≡ multiplier_at (first_fit_below g usable n) r) → ms ≡ first_fit_below g usable n
first_fit_done g usable n ms long same =
    ext_get_or (pos 0) ms (first_fit_below g usable n) (long ∙ sym (length-first_fit g usable n)) (λ r l. same r)

pub modest_zero : (z : ℤ) → z ≡ pos 0 → IsModest z
modest_zero z e = record { low = omega (arith, ints, e); high = omega (arith, ints, e) }

-- what holds of each number of a list holds with one set
pub set_all : (P : ℕ → ℤ → Type 0) (xs : List ℤ) (n : ℕ) (z d : ℤ) → n < length xs → P n z → ((r : ℕ) → P r (get_or xs r d)) → (r : ℕ) →
    P r (get_or (set xs n z) r d)
set_all P xs n z d low here others r = search (rules, get_or-set_same, get_or-set_other)
