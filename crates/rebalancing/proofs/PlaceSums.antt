use Rattle.std.proofs.Common.{
  ◌≡◌,
  ◌≢◌,
  ℕ,
  zero,
  suc,
  ◌+◌,
  ◌*◌,
  ◌<◌,
  ◌≤◌,
  ◌⊎◌,
  List,
  [],
  ◌∷◌,
  length,
  get_or,
  set,
  All,
  AllPairs,
  Any,
  sum,
  sum_by,
  refl,
  sym,
  ap,
  ◌∙◌,
  subst,
  inl,
  inr,
  ⊎_elim,
  arith,
  rules,
}
use Rattle.rebalancing.proofs.Common.{cases_eq, cases_lt, set_past, All-head, All-tail, All-from_get_or, sum_by-cons, sum_by-set, sum_by-le, sum_by-le-sum_by}
use Rattle.std.proofs.lemmas.List.{length-set, get_or-set_same, get_or-set_other}

-- sums of equal terms are equal
pub sum_by_same : {X : Type 0} (f g : X → ℕ) (xs : List X) → All (λ x. f x ≡ g x) xs → sum_by f xs ≡ sum_by g xs
sum_by_same f g [] h = refl
sum_by_same f g (x ∷ xs) h =
    let first : f x ≡ g x = All-head (λ y. f y ≡ g y) x xs h in
    let rest : sum_by f xs ≡ sum_by g xs = sum_by_same f g xs (All-tail (λ y. f y ≡ g y) x xs h) in
    omega (arith, sum_by-cons g x xs, sum_by-cons f x xs)

-- an element with a property is the first or one of the rest
pub Any-split : {X : Type 0} (P : X → Type 0) (x : X) (xs : List X) → Any P (x ∷ xs) → P x ⊎ Any P xs
Any-split P x xs (zero, y, within, is, p) = inl (subst P (sym is) p)
Any-split P x xs (suc k, y, within, is, p) = inr (k, y, omega arith, is, p)

-- a sum of zeros is zero
pub sum_of_zeros : (a : List ℕ) → ((i : ℕ) → i < length a → get_or a i 0 ≡ 0) → sum a ≡ 0
sum_of_zeros a h =
    let most : sum a ≤ length a * 0 = sum_by-le (λ x. x) 0 a (All-from_get_or (λ x. x ≤ 0) a 0
    (λ i within. let e : get_or a i 0 ≡ 0 = h i within in omega arith)) in
    omega arith

-- an element set to 0 is no greater
pub set_0-le : (a : List ℕ) (i k : ℕ) → get_or (set a i 0) k 0 ≤ get_or a k 0
set_0-le a i k = search (rules, get_or-set_same, set_past, cases_lt, get_or-set_other, cases_eq)

-- the sum over different places is at most the whole sum
pub sum_over_different : {X : Type 0} (f : X → ℕ) (xs : List X) (a : List ℕ) → All (λ x. f x < length a) xs → AllPairs (λ x y. f x ≢ f y) xs →
    sum_by (λ x. get_or a (f x) 0) xs ≤ sum a
sum_over_different f [] a within apart = omega arith
sum_over_different {X} f (x ∷ xs) a within apart =
    let first : f x < length a = All-head (λ y. f y < length a) x xs within in
    let rest_within : All (λ y. f y < length (set a (f x) 0)) xs = λ k d h. rw length-set (All-tail (λ y. f y < length a) x xs within k d h) in
    let rest_apart : AllPairs (λ y z. f y ≢ f z) xs = λ i j d h l. apart (suc i) (suc j) d (omega arith) (omega arith) in
    let rest : sum_by (λ y. get_or (set a (f x) 0) (f y) 0) xs ≤ sum (set a (f x) 0) = sum_over_different f xs (set a (f x) 0) rest_within rest_apart in
    let unchanged : All (λ y. get_or a (f y) 0 ≡ get_or (set a (f x) 0) (f y) 0) xs = λ k d h. sym
    (get_or-set_other a (f x) (f (get_or xs k d)) 0 0 (λ e. apart 0 (suc k) d (omega arith) (omega arith) (sym e))) in
    let same : sum_by (λ y. get_or a (f y) 0) xs ≡ sum_by (λ y. get_or (set a (f x) 0) (f y) 0) xs =
    sum_by_same (λ y. get_or a (f y) 0) (λ y. get_or (set a (f x) 0) (f y) 0) xs unchanged in
    let whole : sum_by (λ y. get_or a (f y) 0) (x ∷ xs) ≡ get_or a (f x) 0 + sum_by (λ y. get_or a (f y) 0) xs =
    sum_by-cons (λ (y : X). get_or a (f y) 0) x xs in
    let written : sum (set a (f x) 0) + get_or a (f x) 0 ≡ sum a + 0 = sum_by-set (λ y. y) a (f x) 0 0 first in
    omega arith

-- where every other place is 0, the whole sum is at most the sum over the chosen places
pub sum_over_covering : {X : Type 0} (f : X → ℕ) (xs : List X) (a : List ℕ) → ((i : ℕ) → i < length a → (Any (λ x. f x ≡ i) xs → ⊥) → get_or a i 0 ≡ 0) →
    sum a ≤ sum_by (λ x. get_or a (f x) 0) xs
sum_over_covering f [] a covered = search (rules, sum_of_zeros)
sum_over_covering {X} f (x ∷ xs) a covered =
    let rest_covered : (i : ℕ) → i < length (set a (f x) 0) → (Any (λ y. f y ≡ i) xs → ⊥) → get_or (set a (f x) 0) i 0 ≡ 0 =
    λ i h no.
    let within : i < length a = rw length-set at h in
    ⊎_elim
    (λ (e : i ≡ f x). rw e (get_or-set_same a (f x) 0 0 (rw e at within)))
    (λ (other : i ≢ f x). get_or-set_other a (f x) i 0 0 other ∙ covered i within (λ any. ⊎_elim (λ p. other (sym p)) no (Any-split (λ y. f y ≡ i) x xs any)))
    (cases_eq i (f x))
    in
    let rest : sum (set a (f x) 0) ≤ sum_by (λ y. get_or (set a (f x) 0) (f y) 0) xs = sum_over_covering f xs (set a (f x) 0) rest_covered in
    let less : sum_by (λ y. get_or (set a (f x) 0) (f y) 0) xs ≤ sum_by (λ y. get_or a (f y) 0) xs =
    sum_by-le-sum_by (λ (y : X). get_or (set a (f x) 0) (f y) 0) (λ (y : X). get_or a (f y) 0) xs (λ y. set_0-le a (f x) (f y)) in
    let whole : sum_by (λ y. get_or a (f y) 0) (x ∷ xs) ≡ get_or a (f x) 0 + sum_by (λ y. get_or a (f y) 0) xs =
    sum_by-cons (λ (y : X). get_or a (f y) 0) x xs in
    ⊎_elim
    (λ (within : f x < length a). let written : sum (set a (f x) 0) + get_or a (f x) 0 ≡ sum a + 0 = sum_by-set (λ y. y) a (f x) 0 0 within in omega arith)
    (λ (past : length a ≤ f x). let same : sum (set a (f x) 0) ≡ sum a = ap sum (set_past a (f x) 0 past) in omega arith)
    (cases_lt (f x) (length a))

-- terms of at least w, and of exactly w, in three parts
pub sum_at_least : {X : Type 0} (s f g : X → ℕ) (w : ℕ) (xs : List X) → All (λ x. w ≤ s x + f x + g x) xs →
    length xs * w ≤ sum_by s xs + sum_by f xs + sum_by g xs
sum_at_least s f g w [] h = omega arith
sum_at_least s f g w (x ∷ xs) h =
    let first : w ≤ s x + f x + g x = All-head (λ y. w ≤ s y + f y + g y) x xs h in
    let rest : length xs * w ≤ sum_by s xs + sum_by f xs + sum_by g xs = sum_at_least s f g w xs (All-tail (λ y. w ≤ s y + f y + g y) x xs h) in
    omega (arith, sum_by-cons s x xs, sum_by-cons f x xs, sum_by-cons g x xs)

pub sum_exactly : {X : Type 0} (s f g : X → ℕ) (w : ℕ) (xs : List X) → All (λ x. w ≡ s x + f x + g x) xs →
    length xs * w ≡ sum_by s xs + sum_by f xs + sum_by g xs
sum_exactly s f g w [] h = omega arith
sum_exactly s f g w (x ∷ xs) h =
    let first : w ≡ s x + f x + g x = All-head (λ y. w ≡ s y + f y + g y) x xs h in
    let rest : length xs * w ≡ sum_by s xs + sum_by f xs + sum_by g xs = sum_exactly s f g w xs (All-tail (λ y. w ≡ s y + f y + g y) x xs h) in
    omega (arith, sum_by-cons s x xs, sum_by-cons f x xs, sum_by-cons g x xs)
