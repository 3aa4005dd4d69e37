-- The heap of a tree's open leaves.
use Rattle.std.proofs.Common.{
  ◌≡◌,
  ◌==◌,
  ℕ,
  zero,
  suc,
  ◌+◌,
  ◌<◌,
  ◌≤◌,
  false,
  cond,
  List,
  [],
  ◌∷◌,
  ◌++◌,
  length,
  take,
  drop,
  get_or,
  ℤ,
  pos,
  ◌≤ℤ◌,
  refl,
  sym,
  ap,
  ◌∙◌,
  subst,
  ⊎_elim,
  arith,
  int_lt,
}
use Rattle.assignment_search.proofs.Common.{
  AllByRecursion,
  IsHeap,
  Reverse,
  ints,
  cases_eq,
  sum_by-cons,
  sum_by_popped,
  Node,
  Branch,
  Leaf,
  Dead,
  IsLowest,
  HasLeaf,
  OpenLeaf,
  leaf_cmp,
  leaf_sum,
  AreOpen,
  nat_tests,
}
use Rattle.std.specs.List.{sum_by}
use Rattle.std.specs.List.Sorted.{IsPermutation}
use Rattle.std.specs.Ordering.{ordering_then, int_cmp, is_lt}
use Rattle.std.specs.BinaryHeap.{heap_items}
use Rattle.std.specs.declared.cmp.Ordering.{Ordering}
use Rattle.assignment_search.specs.declared.growth.Growing.{Growing}
use Rattle.assignment_search.proofs.EditLemmas.{Origin, Old, First, Second, edit_length, edit_origin, moved}

-- ---- sums over leaves

leaf_cons : (f : ℕ → ℤ → ℕ) (q : ℕ) (n : Node) (z : ℤ) (numbers : List ℕ) (nodes : List Node) (values : List ℤ) →
    leaf_sum f (q ∷ numbers) (n ∷ nodes) (z ∷ values) ≡ leaf_sum f (q ∷ []) (n ∷ []) (z ∷ []) + leaf_sum f numbers nodes values
leaf_cons f q (Leaf ms) z numbers nodes values = omega arith
leaf_cons f q n z numbers nodes values = omega arith

-- the leaf at i goes, and its ends come
sum_edit : (f : ℕ → ℤ → ℕ) (numbers : List ℕ) (nodes : List Node) (values : List ℤ) (i p q v k : ℕ) (first second : Node) (a b : ℤ) (ms : List ℤ) →
    i < length nodes → length numbers ≡ length nodes → length values ≡ length nodes → get_or nodes i Dead ≡ Leaf ms
    → leaf_sum f (take i numbers ++ (get_or numbers i 0 ∷ p ∷ q ∷ drop (suc i) numbers)) (take i nodes ++ (Branch v k ∷ first ∷ second ∷ drop (suc i) nodes))
    (take i values ++ (get_or values i (pos 0) ∷ a ∷ b ∷ drop (suc i) values)) + f (get_or numbers i 0) (get_or values i (pos 0))
    ≡ leaf_sum f (q ∷ []) (second ∷ []) (b ∷ []) + (leaf_sum f (p ∷ []) (first ∷ []) (a ∷ []) + leaf_sum f numbers nodes values)
sum_edit f (x ∷ numbers) (n ∷ nodes) (z ∷ values) zero p q v k first second a b ms l same long is =
    let one = leaf_cons f p first a (q ∷ numbers) (second ∷ nodes) (b ∷ values) in
    let two = leaf_cons f q second b numbers nodes values in
    let old : leaf_sum f (x ∷ numbers) (n ∷ nodes) (z ∷ values) ≡ f x z + leaf_sum f numbers nodes values =
    ap (λ (m : Node). leaf_sum f (x ∷ numbers) (m ∷ nodes) (z ∷ values)) is in
    omega (arith, one, two, old)
sum_edit f (x ∷ numbers) (n ∷ nodes) (z ∷ values) (suc i) p q v k first second a b ms l same long is =
    let rest = sum_edit f numbers nodes values i p q v k first second a b ms (omega (arith, l)) (omega (arith, same)) (omega (arith, long)) is in
    let new = leaf_cons f x n z (take i numbers ++ (get_or numbers i 0 ∷ p ∷ q ∷ drop (suc i) numbers))
    (take i nodes ++ (Branch v k ∷ first ∷ second ∷ drop (suc i) nodes)) (take i values ++ (get_or values i (pos 0) ∷ a ∷ b ∷ drop (suc i) values)) in
    let old = leaf_cons f x n z numbers nodes values in
    omega (arith, rest, new, old)
sum_edit f numbers nodes values i p q v k first second a b ms l same long is = absurd (omega (arith, l, same, long))

-- a leaf counts in the sum
sum_at : (f : ℕ → ℤ → ℕ) (numbers : List ℕ) (nodes : List Node) (values : List ℤ) (i : ℕ) (ms : List ℤ) → i < length nodes → length numbers ≡ length nodes →
    length values ≡ length nodes → get_or nodes i Dead ≡ Leaf ms
    → f (get_or numbers i 0) (get_or values i (pos 0)) ≤ leaf_sum f numbers nodes values
sum_at f (x ∷ numbers) (n ∷ nodes) (z ∷ values) zero ms l same long is =
    let old : leaf_sum f (x ∷ numbers) (n ∷ nodes) (z ∷ values) ≡ f x z + leaf_sum f numbers nodes values =
    ap (λ (m : Node). leaf_sum f (x ∷ numbers) (m ∷ nodes) (z ∷ values)) is in
    omega (arith, old)
sum_at f (x ∷ numbers) (n ∷ nodes) (z ∷ values) (suc i) ms l same long is =
    let rest = sum_at f numbers nodes values i ms (omega (arith, l)) (omega (arith, same)) (omega (arith, long)) is in
    omega (arith, rest, leaf_cons f x n z numbers nodes values)
sum_at f numbers nodes values i ms l same long is = absurd (omega (arith, l, same, long))

-- what counts in the sum is a leaf
record IsCounted (f : ℕ → ℤ → ℕ) (numbers : List ℕ) (nodes : List Node) (values : List ℤ) : Type 0 where
  place : ℕ
  multipliers : List ℤ
  within : place < length nodes
  leaf : get_or nodes place Dead ≡ Leaf multipliers
  counts : 1 ≤ f (get_or numbers place 0) (get_or values place (pos 0))

counted_later : (f : ℕ → ℤ → ℕ) (q : ℕ) (n : Node) (z : ℤ) (numbers : List ℕ) (nodes : List Node) (values : List ℤ) → IsCounted f numbers nodes values →
    IsCounted f (q ∷ numbers) (n ∷ nodes) (z ∷ values)
counted_later f q n z numbers nodes values h = record {
  place = suc h.place;
  multipliers = h.multipliers;
  within = omega (arith, h.within);
  leaf =
      h.leaf;
  counts = h.counts;
}

counted : (f : ℕ → ℤ → ℕ) (numbers : List ℕ) (nodes : List Node) (values : List ℤ) → 1 ≤ leaf_sum f numbers nodes values → IsCounted f numbers nodes values
counted f (q ∷ numbers) (Leaf ms ∷ nodes) (z ∷ values) some =
    ⊎_elim
    (λ (none : f q z ≡ 0). counted_later f q (Leaf ms) z numbers nodes values (counted f numbers nodes values (omega (arith, some, none))))
    (λ (here : f q z ≡ 0 → ⊥). record { place = 0; multipliers = ms; within = omega arith; leaf = refl; counts = omega (arith, here) })
    (cases_eq (f q z) 0)
counted f (q ∷ numbers) (n ∷ nodes) (z ∷ values) some = counted_later f q n z numbers nodes values (counted f numbers nodes values some)
counted f numbers nodes values some = absurd (omega (arith, some))

-- ---- weights

-- whether a leaf's value is less than this
abbrev less : ℤ → ℕ → ℤ → ℕ
less v q z = cond (int_lt z v) 1 0

-- whether a leaf has this number and this value
abbrev equal : ℕ → ℤ → ℕ → ℤ → ℕ
equal p v q z = cond (int_lt z v) 0 (cond (int_lt v z) 0 (cond (q == p) 1 0))

less_none : (v z : ℤ) (q : ℕ) → less v q z ≡ 0 → v ≤ℤ z
less_none v z q e = grind (arith, ints)

-- the heap's order is by value first
not_less : (v z : ℤ) (q : ℕ) (o : Ordering) → is_lt (ordering_then (int_cmp z v) o) ≡ false → less v q z ≡ 0
not_less v z q o e = grind (arith, ints)

equal_some : (p : ℕ) (v : ℤ) (q : ℕ) (z : ℤ) → 1 ≤ equal p v q z → (q ≡ p) × (z ≡ v)
equal_some p v q z some = (grind (arith, ints, nat_tests), grind (arith, ints, nat_tests))

equal_same : (p : ℕ) (v : ℤ) → equal p v p v ≡ 1
equal_same p v = grind (arith, ints, nat_tests)

none_less : (x : Reverse OpenLeaf) (heap : List (Reverse OpenLeaf)) → AllByRecursion (λ y. is_lt (leaf_cmp y.0 x.0) ≡ false) heap →
    sum_by (λ leaf. less x.0.value leaf.0.number leaf.0.value) heap ≡ 0
none_less x [] h = refl
none_less x (y ∷ heap) h =
    let rest = none_less x heap (h.1) in
    let here = not_less x.0.value y.0.value y.0.number _ h.0 in
    omega (arith, sum_by-cons (λ (leaf : Reverse OpenLeaf). less x.0.value leaf.0.number leaf.0.value) y heap, rest, here)

-- ---- the leaf that comes first

module _ (leaves : Growing) (nodes : List Node) (values : List ℤ) (are : AreOpen leaves nodes values) where
  pub some_open : HasLeaf nodes → 1 ≤ length (heap_items leaves.heap)
  some_open h =
      let one = sum_at (λ q z. 1) leaves.numbers.items nodes values h.place h.multipliers h.within are.sized are.valued h.leaf in
      some (heap_items leaves.heap) (omega (arith, one, are.same (λ q z. 1)))
    where
      some : (heap : List (Reverse OpenLeaf)) → 1 ≤ sum_by (λ leaf. 1) heap → 1 ≤ length heap
      some [] h = absurd (omega (arith, h))
      some (y ∷ ys) h = omega arith

  pub open_number : (x : Reverse OpenLeaf) → 1 ≤ sum_by (λ leaf. equal x.0.number x.0.value leaf.0.number leaf.0.value) (heap_items leaves.heap) →
      (i : ℕ) × ((i < length leaves.numbers.items) × (get_or leaves.numbers.items i 0 ≡ x.0.number))
  open_number x inside =
      let found = counted (equal x.0.number x.0.value) leaves.numbers.items nodes values (omega (arith, inside, are.same (equal x.0.number x.0.value))) in
      let equals = equal_some x.0.number x.0.value (get_or leaves.numbers.items found.place 0) (get_or values found.place (pos 0)) found.counts in
      (found.place, (omega (arith, found.within, are.sized), equals.0))

  module _ (place : ℕ) (x : Reverse OpenLeaf) (within : place < length nodes) (here : get_or leaves.numbers.items place 0 ≡ x.0.number)
      (inside : 1 ≤ sum_by (λ leaf. equal x.0.number x.0.value leaf.0.number leaf.0.value) (heap_items leaves.heap)) where
    pub open_leaf : (ms : List ℤ) × (get_or nodes place Dead ≡ Leaf ms) × (get_or values place (pos 0) ≡ x.0.value)
    open_leaf =
        let found = counted (equal x.0.number x.0.value) leaves.numbers.items nodes values (omega (arith, inside, are.same (equal x.0.number x.0.value))) in
        let equals = equal_some x.0.number x.0.value (get_or leaves.numbers.items found.place 0) (get_or values found.place (pos 0)) found.counts in
        let at : found.place ≡ place = are.apart found.place place found.within within (equals.0 ∙ sym here) in (
          found.multipliers,
          subst (λ (i : ℕ). get_or nodes i Dead ≡ Leaf found.multipliers) at found.leaf,
          subst
              (λ (i : ℕ). get_or values i (pos 0) ≡ x.0.value) at (equals.1),
        )

    pub lowest_is : AllByRecursion (λ y. is_lt (leaf_cmp y.0 x.0) ≡ false) (heap_items leaves.heap) → IsLowest nodes values place
    lowest_is least = record {
      within = within;
      multipliers = open_leaf.0;
      leaf = open_leaf.1;
      least = λ k ms l is.
          let counts = sum_at (less x.0.value) leaves.numbers.items nodes values k ms l are.sized are.valued is in
          let none = none_less x (heap_items leaves.heap) least in
          let zero_at : less x.0.value (get_or leaves.numbers.items k 0) (get_or values k (pos 0)) ≡ 0 =
          omega (arith, counts, none, are.same (less x.0.value)) in
          subst (λ (z : ℤ). z ≤ℤ get_or values k (pos 0)) (sym (open_leaf.2)) (less_none x.0.value (get_or values k (pos 0)) (get_or leaves.numbers.items k 0)
          zero_at);
    }

-- the top is inside
pub top_inside : (x : Reverse OpenLeaf) (heap : List (Reverse OpenLeaf)) → 1 ≤ length heap → x ≡ get_or heap 0 x →
    1 ≤ sum_by (λ leaf. equal x.0.number x.0.value leaf.0.number leaf.0.value) heap
top_inside x [] some is = absurd (omega (arith, some))
top_inside x (y ∷ ys) some is =
    let w : Reverse OpenLeaf → ℕ = λ leaf. equal x.0.number x.0.value leaf.0.number leaf.0.value in
    let one : w y ≡ 1 = ap w (sym is) ∙ equal_same x.0.number x.0.value in
    omega (arith, sum_by-cons w y ys, one)

-- ---- a leaf gives way to its ends

module _ (numbers : List ℕ) (i : ℕ) (within : i < length numbers) (fresh : (k : ℕ) → k < length numbers → get_or numbers k 0 < length numbers)
    (apart : (j k : ℕ) → j < length numbers → k < length numbers → get_or numbers j 0 ≡ get_or numbers k 0 → j ≡ k) where
  abbrev edited : List ℕ
  edited = take i numbers ++ (get_or numbers i 0 ∷ length numbers ∷ (length numbers + 1) ∷ drop (suc i) numbers)

  origin : (j : ℕ) → j < length numbers + 2 → Origin numbers i (length numbers) (length numbers + 1) 0 j
  origin j l = edit_origin numbers i j (length numbers) (length numbers + 1) 0 within l

  pub edited_fresh : (j : ℕ) → j < length numbers + 2 → get_or edited j 0 < length numbers + 2
  edited_fresh j l = by (origin j l)
    where
      by : Origin numbers i (length numbers) (length numbers + 1) 0 j → get_or edited j 0 < length numbers + 2
      by (Old k low at is) = omega (arith, is, fresh k low)
      by (First at is) = omega (arith, is)
      by (Second at is) = omega (arith, is)

  pub edited_apart : (j k : ℕ) → j < length numbers + 2 → k < length numbers + 2 → get_or edited j 0 ≡ get_or edited k 0 → j ≡ k
  edited_apart j k lj lk same = by (origin j lj) (origin k lk)
    where
      by : Origin numbers i (length numbers) (length numbers + 1) 0 j → Origin numbers i (length numbers) (length numbers + 1) 0 k → j ≡ k
      by (Old a la ja isa) (Old b lb kb isb) = ja ∙ ap (moved i) (apart a b la lb (sym isa ∙ same ∙ isb)) ∙ sym kb
      by (Old a la ja isa) (First kb isb) = absurd (omega (arith, same, isa, isb, fresh a la))
      by (Old a la ja isa) (Second kb isb) = absurd (omega (arith, same, isa, isb, fresh a la))
      by (First ja isa) (Old b lb kb isb) = absurd (omega (arith, same, isa, isb, fresh b lb))
      by (First ja isa) (First kb isb) = ja ∙ sym kb
      by (First ja isa) (Second kb isb) = absurd (omega (arith, same, isa, isb))
      by (Second ja isa) (Old b lb kb isb) = absurd (omega (arith, same, isa, isb, fresh b lb))
      by (Second ja isa) (First kb isb) = absurd (omega (arith, same, isa, isb))
      by (Second ja isa) (Second kb isb) = ja ∙ sym kb

pub open_parted : (old new : Growing) (nodes : List Node) (values : List ℤ) (place v k : ℕ) (first second : Node) (a b : ℤ) (x : Reverse OpenLeaf)
    (rest : List (Reverse OpenLeaf)) → AreOpen old nodes values → place < length nodes
    → get_or old.numbers.items place 0 ≡ x.0.number → 1 ≤ sum_by (λ leaf. equal x.0.number x.0.value leaf.0.number leaf.0.value) (heap_items old.heap) →
    IsPermutation (heap_items old.heap) (x ∷ rest)
    → new.numbers.items ≡ take place old.numbers.items ++ (get_or old.numbers.items place 0 ∷ length old.numbers.items ∷ (length old.numbers.items + 1) ∷ drop
    (suc place) old.numbers.items)
    → IsHeap (λ x y. leaf_cmp y.0 x.0) (heap_items new.heap)
    → ((f : ℕ → ℤ → ℕ) → sum_by (λ leaf. f leaf.0.number leaf.0.value) (heap_items new.heap) ≡ leaf_sum f ((length old.numbers.items + 1) ∷ []) (second ∷ [])
    (b ∷ []) + (leaf_sum f (length old.numbers.items ∷ []) (first ∷ []) (a ∷ []) + sum_by (λ leaf. f leaf.0.number leaf.0.value) rest))
    → AreOpen new (take place nodes ++ (Branch v k ∷ first ∷ second ∷ drop (suc place) nodes))
    (take place values ++ (get_or values place (pos 0) ∷ a ∷ b ∷ drop (suc place) values))
open_parted old new nodes values place v k first second a b x rest are within here inside popped is order sums =
    let numbers = old.numbers.items in
    let leaf = open_leaf old nodes values are place x within here inside in
    let below : place < length numbers = omega (arith, within, are.sized) in
    let size_nodes = edit_length nodes place (Branch v k) first second within in
    let size_values = edit_length values place (get_or values place (pos 0)) a b (omega (arith, within, are.valued)) in
    let size_numbers = ap (λ (ns : List ℕ). length ns) is ∙ edit_length numbers place (get_or numbers place 0) (length numbers) (length numbers + 1) below in
    let fresh : (i : ℕ) → i < length numbers → get_or numbers i 0 < length numbers = λ i l. omega
    (arith, are.fresh i (omega (arith, l, are.sized)), are.sized) in
    let apart : (i j : ℕ) → i < length numbers → j < length numbers → get_or numbers i 0 ≡ get_or numbers j 0 → i ≡ j =
    λ i j li lj e. are.apart i j (omega (arith, li, are.sized)) (omega (arith, lj, are.sized)) e in
    record {
      sized = omega (arith, size_nodes, size_numbers, are.sized);
      valued = omega (arith, size_nodes, size_values, are.valued);
      ordered = order;
      same = λ f.
          let edit = sum_edit f numbers nodes values place (length numbers) (length numbers + 1) v k first second a b (leaf.0) within are.sized are.valued
          (leaf.1) in
          let gone = sum_by_popped (λ (y : Reverse OpenLeaf). f y.0.number y.0.value) x (heap_items old.heap) rest popped in
          let top : f x.0.number x.0.value ≡ f (get_or numbers place 0) (get_or values place (pos 0)) = λ i. f (sym here i) (sym (leaf.2) i) in
          let list = ap (λ (ns : List ℕ). leaf_sum f ns (take place nodes ++ (Branch v k ∷ first ∷ second ∷ drop (suc place) nodes))
          (take place values ++ (get_or values place (pos 0) ∷ a ∷ b ∷ drop (suc place) values))) is in
          omega (arith, sums f, gone, edit, are.same f, top, list);
      fresh = λ i l. let low = edited_fresh numbers place below fresh apart i (omega (arith, l, size_nodes, are.sized)) in
          omega (arith, low, ap (λ (ns : List ℕ). get_or ns i 0) is, size_nodes, are.sized);
      apart = λ i j li lj e. edited_apart numbers place below fresh apart i j (omega (arith, li, size_nodes, are.sized))
          (omega (arith, lj, size_nodes, are.sized))
          (sym (ap (λ (ns : List ℕ). get_or ns i 0) is) ∙ e ∙ ap (λ (ns : List ℕ). get_or ns j 0) is);
    }

pub open_start : (leaves : Growing) (ms : List ℤ) (z : ℤ) → leaves.numbers.items ≡ 0 ∷ [] → IsHeap (λ x y. leaf_cmp y.0 x.0) (heap_items leaves.heap) →
    ((f : ℕ → ℤ → ℕ) → sum_by (λ leaf. f leaf.0.number leaf.0.value) (heap_items leaves.heap) ≡ f 0 z) → AreOpen leaves (Leaf ms ∷ []) (z ∷ [])
open_start leaves ms z is order sums = record {
  sized = ap (λ (ns : List ℕ). length ns) is;
  valued = refl;
  ordered = order;
  same = λ f. let list : leaf_sum f leaves.numbers.items (Leaf ms ∷ []) (z ∷ []) ≡ f 0 z + 0 =
      ap (λ (ns : List ℕ). leaf_sum f ns (Leaf ms ∷ []) (z ∷ [])) is in omega (arith, sums f, list);
  fresh = λ i l. let zero_at : i ≡ 0 = omega (arith, l) in
      let is_at : get_or leaves.numbers.items i 0 ≡ 0 = ap (λ (ns : List ℕ). get_or ns i 0) is ∙ ap (λ (j : ℕ). get_or (0 ∷ []) j 0) zero_at in
      omega (arith, is_at);
  apart = λ i j li lj e. omega (arith, li, lj);
}
