-- The first-fit pass over a list of the rider's rows.
use Rattle.std.proofs.lemmas.Bool.Decides.{nat_tests}
use Rattle.std.proofs.Common.{
  rules,
  ◌≡◌,
  ◌==◌,
  ◌⊎◌,
  ◌&&◌,
  ℕ,
  suc,
  ◌+◌,
  ◌<◌,
  ◌≤◌,
  Bool,
  true,
  false,
  List,
  [],
  ◌∷◌,
  length,
  get_or,
  Option,
  Some,
  None,
  ℤ,
  ◌≤ℤ◌,
  refl,
  sym,
  ap,
  subst,
  ⊎_elim,
  inl,
  inr,
  arith,
  eqb-true,
}
use Rattle.assignment_search.proofs.Common.{
  same_Some,
  none-some,
  int_min,
  both_ways,
  and_parts,
  least_below,
  lesser,
  Graph,
  riders_at,
  has_rider,
  Usable,
  room_at,
  least_below_some,
  least_below_found,
  lesser-le_right,
  lesser-le_left,
  list_start,
  list_end,
  IsListed,
  IsIndexOf,
  or_cases,
}
use Rattle.std.specs.List.{list_any}
use Rattle.plan_rules.proofs.lemmas.SumLemmas.{int_min_cases}
use Rattle.assignment_search.specs.declared.rider_index.RiderIndex.{RiderIndex}

-- the least of f at the numbers below n that pass and stand at these places of a list, where there is one
pub record IsLeastListed (n : ℕ) (p : ℕ → Bool) (f : ℕ → ℤ) (listed : List ℕ) (from to : ℕ) (least : Option ℤ) : Type 0 where
  pub covers : (q : ℕ) → from ≤ q → q < to → q < length listed → get_or listed q 0 < n → p (get_or listed q 0) ≡ true →
      (z : ℤ) × (least ≡ Some z) × (z ≤ℤ f (get_or listed q 0))
  pub reached : (z : ℤ) → least ≡ Some z → (k : ℕ) × (k < n) × (p k ≡ true) × (z ≡ f k)

lesser_cases : (o : Option ℤ) (x : ℤ) → (o ≡ Some (lesser o x)) ⊎ (lesser o x ≡ x)
lesser_cases None x = inr refl
lesser_cases (Some y) x = ⊎_elim (λ (left : int_min y x ≡ y). inl (ap Some (sym left))) (λ (right : int_min y x ≡ x). inr right) (int_min_cases y x)

-- what is least over all that pass is the least
pub least_is : (n : ℕ) (p : ℕ → Bool) (f : ℕ → ℤ) (o : Option ℤ) → ((k : ℕ) → k < n → p k ≡ true → (z : ℤ) × (o ≡ Some z) × (z ≤ℤ f k)) →
    ((z : ℤ) → o ≡ Some z → (k : ℕ) × (k < n) × (p k ≡ true) × (z ≡ f k)) → (m : Option ℤ) → least_below n p f ≡ m → o ≡ m
least_is n p f None covers reached None e = refl
least_is n p f (Some y) covers reached None e = grind (arith, nat_tests, (least_below_some n p f), none-some)
least_is n p f o covers reached (Some z) e = grind (arith, nat_tests, (least_below_found n p f z e), (least_below_some n p f), same_Some)

pub listed_take : (n : ℕ) (p : ℕ → Bool) (f : ℕ → ℤ) (listed : List ℕ) (from to k : ℕ) (o new : Option ℤ) (x : ℤ) → IsLeastListed n p f listed from to o →
    get_or listed to 0 ≡ k → k < n → p k ≡ true → x ≡ f k → new ≡ Some (lesser o x)
    → IsLeastListed n p f listed from (to + 1) new
listed_take n p f listed from to k o new x before here low passes value is = search (rules, lesser-le_right, lesser-le_left, same_Some, lesser_cases)

pub listed_pass : (n : ℕ) (p : ℕ → Bool) (f : ℕ → ℤ) (listed : List ℕ) (from to : ℕ) (o : Option ℤ) → IsLeastListed n p f listed from to o →
    (to < length listed → get_or listed to 0 < n → p (get_or listed to 0) ≡ false)
    → IsLeastListed n p f listed from (to + 1) o
listed_pass n p f listed from to o before fails = search (rules, both_ways)

-- what holds at each place of a list holds of a number that it has
pub at_of : (P : ℕ → Type 0) (xs : List ℕ) (r : ℕ) → ((i : ℕ) → i < length xs → P (get_or xs i 0)) → list_any (λ x. x == r) xs ≡ true → P r
at_of P [] r all e = absurd (both_ways false refl e)
at_of P (x ∷ xs) r all e =
    ⊎_elim
    (λ (here : (x == r) ≡ true). subst P (eqb-true x r here) (all 0 (omega arith)))
    (λ (later : list_any (λ y. y == r) xs ≡ true). at_of P xs r (λ i l. all (suc i) (omega (arith, l))) later)
    (or_cases (x == r) (list_any (λ y. y == r) xs) e)

-- the least over a rider's list is the least over all rows
pub listed_done : (g : Graph) (usable : Usable) (ms : List ℤ) (index : RiderIndex) (r to : ℕ) (o : Option ℤ) → IsIndexOf g index → list_end index r ≤ to
    → IsLeastListed (length g.rows) (λ k. usable k && has_rider g k r) (room_at g usable ms) index.rows.items (list_start index r) to o
    → o ≡ least_below (length g.rows) (λ k. usable k && has_rider g k r) (room_at g usable ms)
listed_done g usable ms index r to o all ended least =
    let n = length g.rows in
    let p : ℕ → Bool = λ k. usable k && has_rider g k r in
    let f : ℕ → ℤ = room_at g usable ms in
    least_is n p f o
    (λ k l yes.
    let has : has_rider g k r ≡ true = (and_parts (usable k) (has_rider g k r) yes).1 in
    let here = at_of (λ (q : ℕ). IsListed index.rows.items (list_start index q) (list_end index q) k) (riders_at g k) r (λ i low. all k i l low) has in
    let w = least.covers here.place here.from_on (omega (arith, here.before, ended)) here.within (subst (λ (j : ℕ). j < n) (sym here.row) l)
    (subst (λ (j : ℕ). p j ≡ true) (sym here.row) yes) in
    (w.0, w.1, subst (λ (j : ℕ). w.0 ≤ℤ f j) here.row (w.2)))
    least.reached (least_below n p f) refl
