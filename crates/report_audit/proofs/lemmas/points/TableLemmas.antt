-- A network has one table of travel times between the same places.
use Rattle.std.proofs.Common.{◌≡◌, ℕ, ◌<◌, List, length, get_or, sym, ◌∙◌, inl, inr, arith}
use Rattle.std.proofs.Math.Path.{fun_ext}
use Rattle.std.proofs.lemmas.Bool.{cases_lt}
use Rattle.pool_base.specs.Times.{point_count, travel_time}
use Rattle.pool_base.specs.declared.times.Times.{Times}
use Rattle.road_network.specs.declared.arc.Arc.{Arc}
use Rattle.road_network.specs.Walk.{IsTimeBetween}

one_time : (arcs : List Arc) (a b s t : ℕ) → IsTimeBetween arcs a b s → IsTimeBetween arcs a b t → s ≡ t
one_time arcs a b s t (inl x) (inl y) = let p = x.least y.walk y.walks in let q = y.least x.walk x.walks in let e = x.takes in let f =
    y.takes in omega (arith, p, q, e, f)
one_time arcs a b s t (inl x) (inr y) = absurd (y.0 x.walk x.walks)
one_time arcs a b s t (inr x) (inl y) = absurd (x.0 y.walk y.walks)
one_time arcs a b s t (inr x) (inr y) = x.1 ∙ sym y.1

-- the cells between so many places, which need no more be said of
pub one_table : (arcs : List Arc) (places : List ℕ) (t u : Times) → point_count t ≡ length places → point_count u ≡ length places
    → ((i j : ℕ) → i < length places → j < length places → IsTimeBetween arcs (get_or places i 0) (get_or places j 0) (travel_time t i j))
    → ((i j : ℕ) → i < length places → j < length places → IsTimeBetween arcs (get_or places i 0) (get_or places j 0) (travel_time u i j))
    → travel_time t ≡ travel_time u
one_table arcs places t u n m cells others = fun_ext (λ i. fun_ext (λ j. at i j))
  where
    at : (i j : ℕ) → travel_time t i j ≡ travel_time u i j
    at i j = elim (cases_lt i (length places)) as (λ _. travel_time t i j ≡ travel_time u i j) [
      | inr past ↦ t.table.times.from_outside i j (omega (arith, n, past)) ∙ sym (u.table.times.from_outside i j (omega (arith, m, past)))
      | inl less ↦ elim (cases_lt j (length places)) as (λ _. travel_time t i j ≡ travel_time u i j) [
        | inr past ↦ t.table.times.to_outside i j (omega (arith, n, past)) ∙ sym (u.table.times.to_outside i j (omega (arith, m, past)))
        | inl also ↦ one_time arcs (get_or places i 0) (get_or places j 0) (travel_time t i j) (travel_time u i j) (cells i j less also) (others i j less also)
      ]
    ]
