use Rattle.std.proofs.Common.{◌≡◌, ℕ, ◌+◌, ◌<◌, List, [], ◌∷◌, ◌++◌, length, refl, arith, rules}
use Rattle.trip_graph.proofs.Common.{cases_lt, length_push, get_or_append_left, get_or_push, Settled, IsTrip, IsRrEdge, CanServe, IsTripRule}
use Rattle.std.specs.List.{remove}
use Rattle.std.specs.List.Sorted.{IsStrictlyIncreasing}
use Rattle.std.proofs.lemmas.List.Edits.{length-remove, get_or-remove_below, get_or-remove_above}
use Rattle.pool_base.specs.TravelTime.{IsTravelTime}
use Rattle.stop_orders.specs.task.Sound.{IsSound}
use Rattle.stop_orders.specs.Laws.{SubTripsAreServable, PairsAreEdges}

-- a trip without one of its riders
trip_without : (riders : ℕ) (t : List ℕ) (i : ℕ) → i < length t → IsTrip riders t → IsTrip riders (remove t i)
trip_without riders t i h trip = search (rules, length-remove, cases_lt, get_or-remove_below, get_or-remove_above)

last_two_rise : (front : List ℕ) (a b : ℕ) → IsStrictlyIncreasing ((front ++ a ∷ []) ++ b ∷ []) → a < b
last_two_rise front a b up =
    let n = length_push front a in let n' = length_push (front ++ a ∷ []) b in
    let first : length front < length (front ++ a ∷ []) = omega arith in
    let second : length (front ++ a ∷ []) ≡ length front + 1 = n in
    let h = up (length front) (omega arith) in
    rw (
      get_or_append_left (front ++ a ∷ []) (b ∷ []) 0 (length front) first,
      get_or_push front a 0 (length front) refl,
      get_or_push (front ++ a ∷ []) b 0
          (length front + 1) second,
    ) at h

-- the law on smaller trips, in the form that growth uses
pub rule_of : SubTripsAreServable → (points : ℕ) (tau : ℕ → ℕ → ℕ) (settled : Settled) (v : ℕ) → IsTravelTime points tau → IsSound 6 points tau settled
    → v < length settled.vehicles → IsTripRule (length settled.riders) (CanServe 6 tau settled v)
rule_of law points tau settled v travel sound h =
    record {
      within = λ t s k lt. s.riders.within k 0 lt;
      rising = λ front a b s. last_two_rise front a b s.riders.rising;
      without = λ t k s lt. record {
        vehicle = h;
        riders = trip_without (length settled.riders) t k lt s.riders;
        size = (let n = length-remove t k lt in let few = s.size in omega arith);
        servable = law 6 points tau settled v t k travel sound h s.riders s.size lt s.servable;
      };
    }

-- two riders that the vehicle can serve are an edge between riders
pub edge_of : PairsAreEdges → (points : ℕ) (tau : ℕ → ℕ → ℕ) (settled : Settled) (v : ℕ) → IsTravelTime points tau → IsSound 6 points tau settled
    → v < length settled.vehicles → (a b : ℕ) → CanServe 6 tau settled v (a ∷ b ∷ []) → IsRrEdge tau settled a b
edge_of law points tau settled v travel sound h a b s = search rules
