-- Degrees, counted node by node.
use Rattle.std.proofs.Common.{rules, ◌≡◌, ℕ, ◌+◌, ◌<◌, ◌≤◌, ◌&&◌, Bool, true, false, cond, eqb, ltb, List, [], ◌∷◌, length, map, count_by, All, refl, arith}
use Rattle.travel_times.proofs.Common.{
  nat_tests,
  All-head,
  All-tail,
  sum_by-cons,
  length-filter,
  count_by-le-length,
  Arc,
  Hop,
  IsArcAmong,
  hop_of,
  leaving,
  degree,
  reaching_before,
  lt-ltb,
  le-ltb,
}

-- 1 where a test passes
abbrev one_if : Bool → ℕ
one_if b = cond b 1 0

-- a test of one arc, at one node more
one_more : (f k : ℕ) → cond (ltb f (k + 1)) 1 0 ≡ cond (ltb f k) 1 0 + cond (eqb f k) 1 0
one_more f k = grind (arith, nat_tests)

none_below : (f : ℕ) → one_if (ltb f 0) ≡ 0
none_below f = rw (le-ltb f 0 (omega arith)) refl

step : (t : Bool) (f k : ℕ) → cond (t && ltb f (k + 1)) 1 0 ≡ cond (t && ltb f k) 1 0 + cond (eqb f k) (cond t 1 0) 0
step true f k = one_more f k
step false f k = elim (eqb f k) as (λ b. 0 ≡ 0 + cond b 0 0) [ true ↦ refl | false ↦ refl ]

-- the hops of an arc, where it is kept
kept : (b : Bool) (node : ℕ) (arc : Arc) (rest : List Arc) → count_by (λ (hop : Hop). eqb hop.to node) (map hop_of (cond b (arc ∷ rest) rest)) ≡ cond b
    (cond (eqb arc.to node) 1 0) 0 + count_by (λ (hop : Hop). eqb hop.to node) (map hop_of rest)
kept true node arc rest = sum_by-cons (λ (hop : Hop). cond (eqb hop.to node) 1 0) (hop_of arc) (map hop_of rest)
kept false node arc rest = omega arith

pub reaching_none : (arcs : List Arc) (node : ℕ) → reaching_before arcs 0 node ≡ 0
reaching_none [] node = refl
reaching_none (arc ∷ rest) node = search (rules, sum_by-cons, none_below, (reaching_none rest node))

pub reaching_more : (arcs : List Arc) (k node : ℕ) → reaching_before arcs (k + 1) node ≡ reaching_before arcs k node + count_by (λ (hop : Hop). eqb hop.to node)
    (map hop_of (leaving k arcs))
reaching_more [] k node = refl
reaching_more (arc ∷ rest) k node =
    let more = sum_by-cons (λ (a : Arc). cond (eqb a.to node && ltb a.from (k + 1)) 1 0) arc rest in
    let before = sum_by-cons (λ (a : Arc). cond (eqb a.to node && ltb a.from k) 1 0) arc rest in
    omega (arith, reaching_more rest k node, more, before, kept (eqb arc.from k) node arc (leaving k rest), step (eqb arc.to node) arc.from k)

pub reaching_all : (arcs : List Arc) (n node : ℕ) → All (IsArcAmong n) arcs → reaching_before arcs n node ≡ count_by (λ (arc : Arc). eqb arc.to node) arcs
reaching_all [] n node among = refl
reaching_all (arc ∷ rest) n node among =
    let within : arc.from < n = (All-head (IsArcAmong n) arc rest among).0 in
    let first = sum_by-cons (λ (a : Arc). cond (eqb a.to node && ltb a.from n) 1 0) arc rest in
    let second = sum_by-cons (λ (a : Arc). cond (eqb a.to node) 1 0) arc rest in
    let here : one_if (eqb arc.to node && ltb arc.from n) ≡ one_if (eqb arc.to node) = rw (lt-ltb arc.from n within)
    (elim (eqb arc.to node) as (λ b. one_if (b && true) ≡ one_if b) [ true ↦ refl | false ↦ refl ]) in
    omega (arith, reaching_all rest n node (All-tail (IsArcAmong n) arc rest among), first, second, here)

pub leaving_few : (arcs : List Arc) (node : ℕ) → length (leaving node arcs) ≤ length arcs
leaving_few arcs node = rw (length-filter (λ (a : Arc). eqb a.from node) arcs) (count_by-le-length (λ (a : Arc). eqb a.from node) arcs)

pub reaching_few : (arcs : List Arc) (k node : ℕ) → reaching_before arcs k node ≤ length arcs
reaching_few arcs k node = count_by-le-length (λ (a : Arc). eqb a.to node && ltb a.from k) arcs

pub degree_is : (arcs : List Arc) (n node : ℕ) → All (IsArcAmong n) arcs → length (leaving node arcs) + reaching_before arcs n node ≡ degree arcs node
degree_is arcs n node among = search (rules, length-filter, reaching_all)
