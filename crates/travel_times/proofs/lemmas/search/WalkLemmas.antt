use Rattle.std.proofs.Common.{
  rules,
  ◌≡◌,
  ℕ,
  ◌+◌,
  ◌*◌,
  ◌<◌,
  ◌≤◌,
  ◌⊎◌,
  Bool,
  true,
  false,
  eqb,
  List,
  [],
  ◌∷◌,
  ◌++◌,
  length,
  All,
  Contains,
  refl,
  ◌∙◌,
  inl,
  inr,
  arith,
}
use Rattle.travel_times.proofs.Common.{
  IsDistinct,
  list_any,
  AllByRecursion,
  cases_Bool,
  cases_eq,
  nat_tests,
  or_parts,
  All-contains,
  sum_by-cons,
  sum_by_push,
  sum_by-append,
  never,
  longest,
  Arc,
  IsWalk,
  IsTimeBetween,
  walk_seconds,
  IsArcAmong,
}
use Rattle.std.proofs.lemmas.Map.Steps.{length-le_from_distinct_below}

-- one walk after another
pub IsWalk-append : (arcs walk other : List Arc) (start via goal : ℕ) → IsWalk arcs start walk via → IsWalk arcs via other goal →
    IsWalk arcs start (walk ++ other) goal
IsWalk-append arcs [] other start via goal walks onward = rw walks onward
IsWalk-append arcs (first ∷ rest) other start via goal walks onward = (walks.0, walks.1, IsWalk-append arcs rest other first.to via goal walks.2 onward)

pub walk_seconds-append : (walk other : List Arc) → walk_seconds (walk ++ other) ≡ walk_seconds walk + walk_seconds other
walk_seconds-append walk other = sum_by-append (λ (a : Arc). a.seconds) walk other

-- a walk with one more arc at its end
pub IsWalk-push : (arcs walk : List Arc) (arc : Arc) (start goal : ℕ) → IsWalk arcs start walk goal → Contains arcs arc → arc.from ≡ goal →
    IsWalk arcs start (walk ++ arc ∷ []) arc.to
IsWalk-push arcs walk arc start goal walks among from = IsWalk-append arcs walk (arc ∷ []) start goal arc.to walks (among, from, refl)

pub walk_seconds-push : (walk : List Arc) (arc : Arc) → walk_seconds (walk ++ arc ∷ []) ≡ walk_seconds walk + arc.seconds
walk_seconds-push walk arc = sum_by_push (λ (a : Arc). a.seconds) walk arc

-- a walk ends at a node of the network
pub goal_within : (arcs walk : List Arc) (n start goal : ℕ) → All (IsArcAmong n) arcs → IsWalk arcs start walk goal → start < n → goal < n
goal_within arcs [] n start goal among walks within = rw (← walks) within
goal_within arcs (first ∷ rest) n start goal among walks within = goal_within arcs rest n first.to goal among walks.2
    ((All-contains (IsArcAmong n) arcs first among walks.0).1)

-- the nodes of a walk, in order
abbrev nodes_of : ℕ → List Arc → List ℕ
nodes_of start [] = start ∷ []
nodes_of start (arc ∷ rest) = start ∷ nodes_of arc.to rest

-- whether a walk passes a node
abbrev passes : ℕ → ℕ → List Arc → Bool
passes node start walk = list_any (eqb node) (nodes_of start walk)

-- a walk that passes no node twice
abbrev IsSimple : ℕ → List Arc → Type 0
IsSimple start walk = IsDistinct eqb (nodes_of start walk)

length-nodes_of : (start : ℕ) (walk : List Arc) → length (nodes_of start walk) ≡ length walk + 1
length-nodes_of start [] = refl
length-nodes_of start (arc ∷ rest) = omega (arith, length-nodes_of arc.to rest)

-- no element is equal to what the list doesn't have
apart_from : (x : ℕ) (xs : List ℕ) → list_any (eqb x) xs ≡ false → AllByRecursion (λ y. eqb x y ≡ false) xs
apart_from x [] h = tt
apart_from x (y ∷ ys) h = let both = or_parts (eqb x y) (list_any (eqb x) ys) h in (both.0, apart_from x ys both.1)

-- the rest of a simple walk from a node that it passes
rest_from : (arcs walk : List Arc) (node start goal : ℕ) → IsWalk arcs start walk goal → IsSimple start walk → passes node start walk ≡ true
    → (other : List Arc) × IsWalk arcs node other goal × IsSimple node other × (walk_seconds other ≤ walk_seconds walk)
unfolding IsDistinct
rest_from arcs [] node start goal walks simple on = let e : node ≡ start = grind (arith, nat_tests) in ([], e ∙ walks, (tt, tt), omega arith)
rest_from arcs (arc ∷ rest) node start goal walks simple on = elim (cases_eq node start) [
  | inl e ↦ rw e (arc ∷ rest, walks, simple, omega arith)
  | inr ne ↦
      let onward = rest_from arcs rest node arc.to goal walks.2 simple.1 (grind (arith, nat_tests)) in
      (onward.0, onward.1, onward.2, omega (arith, onward.3, sum_by-cons (λ (a : Arc). a.seconds) arc rest))
]

-- for every walk there is a simple one that takes no longer
simple_walk : (arcs walk : List Arc) (start goal : ℕ) → IsWalk arcs start walk goal
    → (other : List Arc) × IsWalk arcs start other goal × IsSimple start other × (walk_seconds other ≤ walk_seconds walk)
unfolding IsDistinct
simple_walk arcs [] start goal walks = ([], walks, (tt, tt), omega arith)
simple_walk arcs (arc ∷ rest) start goal walks =
    let onward = simple_walk arcs rest arc.to goal walks.2 in
    let more = sum_by-cons (λ (a : Arc). a.seconds) arc in
    elim (cases_Bool (passes start arc.to onward.0)) [
      | inl h ↦ let cut = rest_from arcs onward.0 start arc.to goal onward.1 onward.2 h in (cut.0, cut.1, cut.2, omega (arith, more rest, onward.3, cut.3))
      | inr h ↦ (
        arc ∷ onward.0,
        (walks.0, walks.1, onward.1),
        (apart_from start (nodes_of arc.to onward.0) h, onward.2),
        omega
            (arith, more rest, more onward.0, onward.3),
      )
    ]

-- a walk of a network passes only its nodes
passes_within : (arcs walk : List Arc) (n start goal : ℕ) → All (IsArcAmong n) arcs → IsWalk arcs start walk goal → start < n → (node : ℕ) →
    passes node start walk ≡ true → node < n
passes_within arcs [] n start goal among walks within node on = grind (arith, nat_tests)
passes_within arcs (arc ∷ rest) n start goal among walks within node on = search (rules, All-contains, (passes_within arcs rest n arc.to goal among walks.2))

-- the arcs of a walk take at most the longest arc's seconds each
walk_seconds-most : (arcs walk : List Arc) (n start goal : ℕ) → All (IsArcAmong n) arcs → IsWalk arcs start walk goal → walk_seconds walk ≤ length walk * 10000
walk_seconds-most arcs [] n start goal among walks = omega arith
walk_seconds-most arcs (arc ∷ rest) n start goal among walks =
    omega (
      arith,
      (All-contains (IsArcAmong n) arcs arc among walks.0).2,
      walk_seconds-most arcs rest n arc.to goal among walks.2,
      sum_by-cons
          (λ (a : Arc). a.seconds) arc rest,
    )

-- for every walk of a network with at most 100,000 nodes there is one that takes no longer, and at most 999,990,000 seconds
pub short_walk : (arcs walk : List Arc) (n start goal : ℕ) → All (IsArcAmong n) arcs → n ≤ 100000 → start < n → IsWalk arcs start walk goal
    → (other : List Arc) × IsWalk arcs start other goal × (walk_seconds other ≤ walk_seconds walk) × (walk_seconds other ≤ 999990000)
short_walk arcs walk n start goal among few within walks =
    let simple = simple_walk arcs walk start goal walks in
    let nodes = length-le_from_distinct_below (nodes_of start simple.0) n simple.2 (passes_within arcs simple.0 n start goal among simple.1 within) in
    (simple.0, simple.1, simple.3, omega (arith, nodes, length-nodes_of start simple.0, walk_seconds-most arcs simple.0 n start goal among simple.1))

-- a travel time is at most the longest one, or `never`
pub time_range : (arcs : List Arc) (n a b seconds : ℕ) → All (IsArcAmong n) arcs → n ≤ 100000 → a < n → IsTimeBetween arcs a b seconds →
    (seconds ≤ longest) ⊎ (seconds ≡ never)
time_range arcs n a b seconds among few ha (inr none) = inr none.1
time_range arcs n a b seconds among few ha (inl least) = grind (arith, nat_tests, (short_walk arcs least.walk n a b among few ha least.walks))

-- a travel time to the place itself is 0
pub time_to_itself : (arcs : List Arc) (node seconds : ℕ) → IsTimeBetween arcs node node seconds → seconds ≡ 0
time_to_itself arcs node seconds (inl least) = omega (arith, least.least [] refl)
time_to_itself arcs node seconds (inr none) = absurd (none.0 [] refl)

-- no detour is shorter
pub time_triangle : (arcs : List Arc) (a b c ab bc ac : ℕ) → IsTimeBetween arcs a b ab → IsTimeBetween arcs b c bc → IsTimeBetween arcs a c ac → ac ≤ never →
    ac ≤ ab + bc
time_triangle arcs a b c ab bc ac (inr none) second third most = omega (arith, none.1)
time_triangle arcs a b c ab bc ac (inl first) (inr none) third most = omega (arith, none.1)
time_triangle arcs a b c ab bc ac (inl first) (inl second) third most = grind (
  arith,
  nat_tests,
  (IsWalk-append arcs first.walk second.walk a b c first.walks second.walks),
  (walk_seconds-append first.walk second.walk),
)
