-- Nodes in the order of their keys.
use Rattle.std.proofs.Common.{
  ◌≡◌,
  ℕ,
  ◌+◌,
  ◌-◌,
  ◌*◌,
  ◌%◌,
  ◌<◌,
  ◌≤◌,
  false,
  eqb,
  List,
  length,
  get_or,
  slice_index,
  map,
  All,
  sym,
  ap,
  ◌∙◌,
  subst,
  inl,
  inr,
  arith,
}
use Rattle.travel_times.proofs.Common.{
  cases_eq,
  cases_lt,
  nat_tests,
  length-map,
  get_or-map,
  get_or_default,
  Contains-get_or,
  Arc,
  degree,
  key_of,
  IsNodeOrder,
  IsRanking,
  ne_eqb,
  ext_get_or,
}
use Rattle.std.specs.List.{IsDistinct}
use Rattle.std.specs.List.Sorted.{IsPermutation, IsStrictlyIncreasing, IsSorted}
use Rattle.std.specs.Ordering.{nat_cmp, ordering_then, is_lt}
use Rattle.std.proofs.lemmas.List.Sorted.{
  IsNonDecreasingBy-from_sort,
  IsPermutation-sym,
  IsPermutation-map,
  All-permutation,
  Contains-permutation,
  length_permutation,
}
use Rattle.std.proofs.lemmas.Map.Keys.{
  IsDistinct-from_apart,
  IsDistinct-IsPermutation,
  IsStrictlyIncreasing-from_distinct,
  sorted_from_strictly_increasing,
  below_from_sorted,
}
use Rattle.travel_times.proofs.labels.Keys.{key_lower}

node_of_number : (a i : ℕ) → i < 100000 → (a * 100000 + i) % 100000 ≡ i
node_of_number a i within = omega (arith, within)

-- the node of a key
pub node_of_key : (arcs : List Arc) (node : ℕ) → node < 100000 → key_of arcs node % 100000 ≡ node
node_of_key arcs node within = node_of_number (1000000 - degree arcs node) node within

eqb_flips : (x y : ℕ) → eqb x y ≡ eqb y x
eqb_flips x y = grind (arith, nat_tests)

pub node_order : (arcs : List Arc) (n : ℕ) (keys sorted : List ℕ) → n ≤ 100000 → length keys ≡ n →
    ((node : ℕ) → node < n → slice_index keys node ≡ key_of arcs node) → IsPermutation keys sorted → IsSorted nat_cmp sorted
    → IsNodeOrder arcs n (map (λ key. key % 100000) sorted)
node_order arcs n keys sorted few each are moved rise =
    let apart : IsDistinct eqb keys = IsDistinct-from_apart eqb keys (λ i j d lt h. ne_eqb (get_or keys i d) (get_or keys j d) (λ same.
    let hj : j < n = omega (arith, h, each) in
    let hi : i < n = omega (arith, lt, hj) in
    let e : key_of arcs i ≡ key_of arcs j = sym (get_or_default keys i d 0 (omega (arith, lt, h)) ∙ are i hi) ∙ same ∙ get_or_default keys j d 0 h ∙ are j hj in
    omega (arith, lt, node_of_key arcs i (omega arith), ap (λ (k : ℕ). k % 100000) e, node_of_key arcs j (omega arith)))) in
    let distinct : IsDistinct eqb sorted = IsDistinct-IsPermutation eqb eqb_flips keys sorted moved apart in
    let strict : IsStrictlyIncreasing sorted = IsStrictlyIncreasing-from_distinct sorted (IsNonDecreasingBy-from_sort (λ (x : ℕ). x) sorted rise) distinct in
    let long = length-map sorted (λ (key : ℕ). key % 100000) in
    let from : (r : ℕ) → r < length sorted → (node : ℕ) × (node < n) × (slice_index sorted r ≡ key_of arcs node) = λ r h.
    let has = Contains-permutation sorted keys (get_or sorted r 0) (IsPermutation-sym keys sorted moved) (Contains-get_or sorted r 0 h) in
    (has.0, omega (arith, has.1, each), sym (sym (are has.0 (omega (arith, has.1, each))) ∙ get_or_default keys has.0 0 (get_or sorted r 0) has.1 ∙ has.2)) in
    let node_at : (r : ℕ) (h : r < length sorted) → slice_index (map (λ (key : ℕ). key % 100000) sorted) r ≡ (from r h).0 = λ r h.
    get_or-map (λ (key : ℕ). key % 100000) sorted r 0 0 h ∙ ap (λ (k : ℕ). k % 100000) ((from r h).2) ∙
    node_of_key arcs (from r h).0 (omega (arith, (from r h).1)) in
    let key_at : (r : ℕ) (h : r < length sorted) → key_of arcs (slice_index (map (λ (key : ℕ). key % 100000) sorted) r) ≡ slice_index sorted r =
    λ r h. ap (key_of arcs) (node_at r h) ∙ sym ((from r h).2) in
    record {
      each = long ∙ length_permutation keys sorted moved ∙ each;
      within = λ r h. let inside : r < length sorted = omega (arith, h, long) in rw (node_at r inside) ((from r inside).1);
      rising = λ r s lt h.
          let hs : s < length sorted = omega (arith, h, long) in
          rw (key_at r (omega (arith, lt, hs)), key_at s hs) (below_from_sorted sorted r s 0 (sorted_from_strictly_increasing sorted strict) lt hs);
      all = λ node h.
          let has = Contains-permutation keys sorted (get_or keys node 0) moved (Contains-get_or keys node 0 (omega (arith, h, each))) in
          let key : slice_index sorted has.0 ≡ key_of arcs node = get_or_default sorted has.0 0 (get_or keys node 0) has.1 ∙ has.2 ∙ are node h in (
            has.0,
            omega (arith, has.1, long),
            get_or-map (λ (key : ℕ). key % 100000) sorted has.0 0 0 has.1 ∙ ap (λ (k : ℕ). k % 100000) key ∙
                node_of_key arcs node (omega arith),
          );
    }

-- ---- pairs of what is missing to the most arcs, and the node

-- the key of a pair
abbrev number : ℕ × ℕ → ℕ
number key = key.0 * 100000 + key.1

ordered : (a i b j : ℕ) → i < 100000 → is_lt (ordering_then (nat_cmp b a) (nat_cmp j i)) ≡ false → a * 100000 + i ≤ b * 100000 + j
ordered a i b j within e = grind (arith, nat_tests)

not_less : (x y : ℕ) → x ≤ y → is_lt (nat_cmp y x) ≡ false
not_less x y le = grind (arith, nat_tests)

-- pairs in order are nodes by rank
pub pair_order : (arcs : List Arc) (n : ℕ) (keys sorted : List (ℕ × ℕ)) → n ≤ 100000 → length keys ≡ n →
    ((node : ℕ) → node < n → get_or keys node (0, 0) ≡ (1000000 - degree arcs node, node)) → IsPermutation keys sorted →
    IsSorted (λ s t. ordering_then (nat_cmp s.0 t.0) (nat_cmp s.1 t.1)) sorted
    → IsNodeOrder arcs n (map (λ key. key.1) sorted)
pair_order arcs n keys sorted few each are moved rise =
    let long = length-map sorted number in
    let small : All (λ key. key.1 < 100000) sorted = All-permutation (λ key. key.1 < 100000) keys sorted moved (λ k d h.
    omega (arith, h, each, ap (λ (key : ℕ × ℕ). key.1) (get_or_default keys k d (0, 0) h ∙ are k (omega (arith, h, each))))) in
    let numbers : (node : ℕ) → node < n → slice_index (map number keys) node ≡ key_of arcs node = λ node h.
    get_or-map number keys node (0, 0) 0 (omega (arith, h, each)) ∙ ap number (are node h) in
    let rises : IsSorted nat_cmp (map number sorted) = λ k d low h.
    let inside : k + 1 < length sorted = omega (arith, h, long) in
    let here : k < length sorted = omega (arith, inside) in
    let s = get_or sorted k (0, 0) in
    let t = get_or sorted (k + 1) (0, 0) in
    rw (get_or-map number sorted k (0, 0) d here, get_or-map number sorted (k + 1) (0, 0) d inside)
    (not_less (number s) (number t) (ordered s.0 s.1 t.0 t.1 (small k (0, 0) here) (rise k (0, 0) low inside))) in
    let lengths = length-map (map number sorted) (λ (key : ℕ). key % 100000) in
    let nodes : map (λ (key : ℕ). key % 100000) (map number sorted) ≡ map (λ (key : ℕ × ℕ). key.1) sorted =
    ext_get_or 0 (map (λ (key : ℕ). key % 100000) (map number sorted)) (map (λ (key : ℕ × ℕ). key.1) sorted)
    (lengths ∙ long ∙ sym (length-map sorted (λ (key : ℕ × ℕ). key.1))) (λ r h.
    let inside : r < length sorted = omega (arith, h, long, lengths) in
    let k = get_or sorted r (0, 0) in
    get_or-map (λ (key : ℕ). key % 100000) (map number sorted) r 0 0 (omega (arith, inside, long)) ∙
    ap (λ (key : ℕ). key % 100000) (get_or-map number sorted r (0, 0) 0 inside)
    ∙ node_of_number k.0 k.1 (small r (0, 0) inside) ∙ sym (get_or-map (λ (key : ℕ × ℕ). key.1) sorted r (0, 0) 0 inside)) in
    subst (IsNodeOrder arcs n) nodes (node_order arcs n (map number keys) (map number sorted) few (length-map keys number ∙ each) numbers
    (IsPermutation-map number keys sorted moved) rises)

-- the places of nodes by rank rank them
pub ranking : (arcs : List Arc) (n : ℕ) (order rank : List ℕ) → n ≤ 100000 → length arcs ≤ 400000 → IsNodeOrder arcs n order → length rank ≡ n →
    ((r : ℕ) → r < length order → slice_index rank (slice_index order r) ≡ r) → IsRanking arcs n rank
ranking arcs n order rank few few_arcs of each placed =
    let place : (a : ℕ) → a < n → (r : ℕ) × (r < length order) × (slice_index order r ≡ a) × (slice_index rank a ≡ r) = λ a h.
    let at = of.all a h in
    (at.0, at.1, at.2, sym (ap (slice_index rank) at.2) ∙ placed at.0 at.1) in
    let keys : (a b : ℕ) → a < n → b < n → slice_index rank a < slice_index rank b → key_of arcs a < key_of arcs b = λ a b ha hb lt.
    let p = place a ha in
    let q = place b hb in
    rw (p.2, q.2) at (of.rising p.0 q.0 (omega (arith, lt, p.3, q.3)) q.1) in
    let same : (a b : ℕ) → a < n → b < n → slice_index rank a ≡ slice_index rank b → a ≡ b = λ a b ha hb e.
    let p = place a ha in
    let q = place b hb in
    sym p.2 ∙ ap (slice_index order) (sym p.3 ∙ e ∙ q.3) ∙ q.2 in
    record {
      each = each;
      lower = λ a b ha hb. (
        (λ lower. elim (cases_lt (slice_index rank a) (slice_index rank b)) [
          | inl lt ↦ lt
          | inr ge ↦
              let less = (key_lower arcs a b few_arcs (omega arith) (omega arith)).0 lower in
              elim (cases_eq (slice_index rank a) (slice_index rank b)) [
                | inl e ↦ absurd (omega (arith, less, ap (key_of arcs) (same a b ha hb e)))
                | inr ne ↦ absurd (omega (arith, less, keys b a hb ha (omega arith)))
              ]
        ]),
        (λ lt. (key_lower arcs a b few_arcs (omega arith) (omega arith)).1 (keys a b ha hb lt)),
      );
      apart = same;
    }
