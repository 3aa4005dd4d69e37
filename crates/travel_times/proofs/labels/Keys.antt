-- Rank as a number.
use Rattle.std.proofs.lemmas.Bool.Decides.{nat_tests}
use Rattle.std.proofs.Common.{rules, ℕ, ◌+◌, ◌-◌, ◌*◌, ◌<◌, ◌≤◌, ◌↔◌, eqb, List, length, arith}
use Rattle.travel_times.proofs.Common.{count_by-le-length, Arc, degree, IsOfLowerRank, key_of, mul-le-mul_right}

-- no degree is above twice the number of arcs
pub degree_most : (arcs : List Arc) (node : ℕ) → length arcs ≤ 400000 → degree arcs node ≤ 800000
degree_most arcs node few = omega (
  arith,
  few,
  count_by-le-length (λ (arc : Arc). eqb arc.from node) arcs,
  count_by-le-length (λ (arc : Arc). eqb arc.to node)
      arcs,
)

-- rank and key agree
key_rises : (x y a b : ℕ) → y < x → x ≤ 1000000 → a < 100000 → (1000000 - x) * 100000 + a < (1000000 - y) * 100000 + b
key_rises x y a b less most within = search (rules, mul-le-mul_right)

pub key_lower : (arcs : List Arc) (a b : ℕ) → length arcs ≤ 400000 → a < 100000 → b < 100000 → IsOfLowerRank arcs a b ↔ (key_of arcs a < key_of arcs b)
key_lower arcs a b few ha hb = grind (arith, nat_tests, (degree_most arcs a few), (degree_most arcs b few), key_rises)
