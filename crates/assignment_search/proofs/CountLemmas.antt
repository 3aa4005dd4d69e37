-- How many choices there are, and how long a tree can be.
use Rattle.std.proofs.Common.{
  ◌≡◌,
  ◌==◌,
  ◌&&◌,
  ◌||◌,
  not,
  ℕ,
  zero,
  suc,
  ◌+◌,
  ◌*◌,
  ◌<◌,
  ◌≤◌,
  max,
  Bool,
  List,
  [],
  ◌∷◌,
  length,
  take,
  drop,
  get_or,
  ℤ,
  refl,
  sym,
  subst,
  inl,
  inr,
  ap,
  ◌∙◌,
  arith,
  rules,
}
use Rattle.assignment_search.proofs.Common.{
  cases_eq,
  count_below,
  Graph,
  IsRowOf,
  row_vehicle,
  Usable,
  is_usable_by,
  every_row,
  only_row,
  without_row,
  CanBranch,
  ReadsTo,
  IsGrown,
  Node,
  Branch,
  Leaf,
  Dead,
  flag,
  sum_below_same,
  sum_below_plus,
  count_below_some,
  product_below,
  choice_count,
  nat_tests,
}
use Rattle.std.proofs.Math.Nat.{add-mul, mul-add, le-max_left}
use Rattle.assignment_search.proofs.GrowthLemmas.{IsSplit, grown_reads}

-- ---- products

product_same : (n : ℕ) (f h : ℕ → ℕ) → ((w : ℕ) → w < n → f w ≡ h w) → product_below n f ≡ product_below n h
product_same zero f h e = refl
product_same (suc n) f h e = λ i. product_same n f h (λ w l. e w (omega (arith, l))) i * e n (omega arith) i

product_some : (n : ℕ) (f : ℕ → ℕ) → ((w : ℕ) → 1 ≤ f w) → 1 ≤ product_below n f
product_some zero f e = omega arith
product_some (suc n) f e = some (product_below n f) (f n) (product_some n f e) (e n)
  where
    some : (a b : ℕ) → 1 ≤ a → 1 ≤ b → 1 ≤ a * b
    some (suc a) (suc b) la lb = omega arith
    some a b la lb = absurd (omega (arith, la, lb))

-- where one factor is a sum, so is the product
product_split : (n : ℕ) (f a b : ℕ → ℕ) (v : ℕ) → v < n → ((w : ℕ) → (w ≡ v → ⊥) → f w ≡ a w) → ((w : ℕ) → (w ≡ v → ⊥) → f w ≡ b w) → f v ≡ a v + b v →
    product_below n f ≡ product_below n a + product_below n b
product_split zero f a b v l first second both = absurd (omega (arith, l))
product_split (suc n) f a b v l first second both = elim (cases_eq v n) [
  | inl last ↦
      let one = product_same n f a (λ w lt. first w (λ e. omega (arith, lt, last, e))) in
      let two = product_same n f b (λ w lt. second w (λ e. omega (arith, lt, last, e))) in
      let here : f n ≡ a n + b n = rw last at both in
      ap (λ (x : ℕ). product_below n f * x) here ∙ mul-add (product_below n f) (a n) (b n) ∙ (λ i. one i * a n + two i * b n)
  | inr before ↦
      let other : n ≡ v → ⊥ = λ e. before (sym e) in
      ap (λ (x : ℕ). x * f n) (product_split n f a b v (omega (arith, l, before)) first second both) ∙ add-mul (product_below n a) (product_below n b) (f n)
      ∙ (λ i. product_below n a * first n other i + product_below n b * second n other i)
]

-- ---- the choices at a branch

max_one : (n : ℕ) → 1 ≤ n → max 1 n ≡ n
max_one n l = omega arith

flag_parts : (a b c : Bool) → flag (a && b) ≡ flag (a && (b && (not a || c))) + flag (a && (b && not c))
flag_parts a b c = grind (arith, nat_tests)

-- how many rows the vehicle may use
abbrev usable_count : Graph → Usable → ℕ → ℕ
usable_count g u v = count_below (length g.rows) (is_usable_by g u v)

count_split : (g : Graph) (u : Usable) (v k : ℕ) → usable_count g u v ≡ usable_count g (only_row g u v k) v + usable_count g (without_row u k) v
count_split g u v k =
    sum_below_same (length g.rows) (λ j. flag (is_usable_by g u v j)) (λ j. flag (is_usable_by g (only_row g u v k) v j) + flag
    (is_usable_by g (without_row u k) v j))
    (λ j l. flag_parts (row_vehicle g j == v) (u j) (j == k))
    ∙ sum_below_plus (length g.rows) (λ j. flag (is_usable_by g (only_row g u v k) v j)) (λ j. flag (is_usable_by g (without_row u k) v j))

count_only_other : (g : Graph) (u : Usable) (v k w : ℕ) → (w ≡ v → ⊥) → usable_count g u w ≡ usable_count g (only_row g u v k) w
count_only_other g u v k w other = search rules

count_without_other : (g : Graph) (u : Usable) (v k w : ℕ) → IsRowOf g v k → (w ≡ v → ⊥) → usable_count g u w ≡ usable_count g (without_row u k) w
count_without_other g u v k w row other = search rules

count_only_some : (g : Graph) (u : Usable) (v k : ℕ) → CanBranch g u v k → 1 ≤ usable_count g (only_row g u v k) v
count_only_some g u v k can =
    let may = can.row in
    count_below_some (length g.rows) (is_usable_by g (only_row g u v k) v) k may.row.within (grind (arith, nat_tests, may.row.own, may.usable_row))

count_without_some : (g : Graph) (u : Usable) (v k : ℕ) → CanBranch g u v k → 1 ≤ usable_count g (without_row u k) v
count_without_some g u v k can =
    let may = can.other_row in
    count_below_some (length g.rows) (is_usable_by g (without_row u k) v) can.other may.row.within
    (grind (arith, nat_tests, may.row.own, may.usable_row, can.differs))

pub choices_some : (g : Graph) (u : Usable) → 1 ≤ choice_count g u
unfolding choice_count
choices_some g u = product_some g.vehicles (λ v. max 1 (usable_count g u v)) (λ w. le-max_left 1 (usable_count g u w))

-- a branch parts the choices
pub choices_split : (g : Graph) (u : Usable) (v k : ℕ) → v < g.vehicles → CanBranch g u v k →
    choice_count g u ≡ choice_count g (only_row g u v k) + choice_count g (without_row u k)
unfolding choice_count
choices_split g u v k low can =
    product_split g.vehicles (λ w. max 1 (usable_count g u w)) (λ w. max 1 (usable_count g (only_row g u v k) w))
    (λ w. max 1 (usable_count g (without_row u k) w)) v low
    (λ w other. ap (max 1) (count_only_other g u v k w other))
    (λ w other. ap (max 1) (count_without_other g u v k w can.row.row other))
    here
  where
    here : max 1 (usable_count g u v) ≡ max 1 (usable_count g (only_row g u v k) v) + max 1 (usable_count g (without_row u k) v)
    here =
        let split : usable_count g u v ≡ usable_count g (only_row g u v k) v + usable_count g (without_row u k) v = count_split g u v k in
        let one : 1 ≤ usable_count g (only_row g u v k) v = count_only_some g u v k can in
        let two : 1 ≤ usable_count g (without_row u k) v = count_without_some g u v k can in
        max_one (usable_count g u v) (omega (arith, split, one, two)) ∙ split
        ∙ (λ i. sym (max_one (usable_count g (only_row g u v k) v) one) i + sym (max_one (usable_count g (without_row u k) v) two) i)

-- ---- how long a tree can be

-- the choices at these subtrees together
abbrev all_choices : Graph → List Usable → ℕ
all_choices g [] = 0
all_choices g (u ∷ us) = choice_count g u + all_choices g us

-- nodes that lead from these subtrees to those are not many
reads_short : (g : Graph) → ((k : ℕ) → k < length g.rows → row_vehicle g k < g.vehicles) → (nodes : List Node) (coming rest : List Usable) →
    ReadsTo g coming nodes rest → length nodes + 2 * all_choices g rest + length coming ≤ 2 * all_choices g coming + length rest
reads_short g exist [] coming rest h = search rules
reads_short g exist (n ∷ nodes) [] rest h = absurd h
reads_short g exist (Branch v k ∷ nodes) (u ∷ us) rest h =
    let can = h.0 in
    let low : v < g.vehicles = subst (λ (w : ℕ). w < g.vehicles) can.row.row.own (exist k can.row.row.within) in
    omega (arith, reads_short g exist nodes (only_row g u v k ∷ without_row u k ∷ us) rest (h.1), choices_split g u v k low can)
reads_short g exist (n ∷ nodes) (u ∷ us) rest h = omega (arith, reads_short g exist nodes us rest (h.1), choices_some g u)

drop_length : (xs : List Node) (i : ℕ) → i < length xs → length (take i xs) + 1 + length (drop (suc i) xs) ≡ length xs
drop_length [] i l = absurd (omega (arith, l))
drop_length (x ∷ xs) zero l = omega arith
drop_length (x ∷ xs) (suc i) l = omega (arith, drop_length xs i (omega (arith, l)))

-- while a leaf of a sound tree has a vehicle with two rows, the tree is short
pub tree_short : (g : Graph) (low : ℤ) (limit : ℕ) (nodes : List Node) (values : List ℤ) (i v k : ℕ) (ms : List ℤ) →
    ((k : ℕ) → k < length g.rows → row_vehicle g k < g.vehicles)
    → i < length nodes → get_or nodes i Dead ≡ Leaf ms → (s : IsSplit g low limit (every_row ∷ []) nodes values [] i) → v < g.vehicles →
    CanBranch g s.usable v k → length nodes + 3 ≤ 2 * choice_count g every_row
tree_short g low limit nodes values i v k ms exist l leaf s below can =
    let after : IsGrown g low limit s.later (drop (suc i) nodes) (drop (suc i) values) [] = rw leaf at s.after in
    omega (
      arith,
      reads_short g exist (take i nodes) (every_row ∷ []) (s.usable ∷ s.later) (grown_reads g low limit (take i nodes) (take i values) (every_row ∷ [])
          (s.usable ∷ s.later) s.before),
      reads_short g exist (drop (suc i) nodes) s.later [] (grown_reads g low limit (drop (suc i) nodes) (drop (suc i) values) s.later [] after),
      drop_length nodes i l,
      choices_split g s.usable v k below can,
      choices_some g (only_row g s.usable v k),
      choices_some g (without_row s.usable k),
    )
