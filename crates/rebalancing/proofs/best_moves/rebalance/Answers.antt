use Rattle.std.proofs.Common.{◌≡◌, ℕ, ◌<◌, length, slice_index, map, pos, neg_ℤ, ◌∙◌, arith}
use Rattle.rebalancing.proofs.Common.{travel_time, weight_of, IsPricedMatching, weight_in, IsMatching}
use Rattle.rebalancing.proofs.Choosing.{IsMatching-chosen, total-chosen, ArePotentials-chosen}
use Rattle.rebalancing.proofs.MatchingLaw.{IsMatching-short, best_by_prices, ArePrices-from_potentials}
use Rattle.rebalancing.proofs.best_moves.rebalance.Goals as goal

pub seconds_of_pairs-total-requires-clause-few : goal.seconds_of_pairs-total-requires-clause-few
seconds_of_pairs-total-requires-clause-few c =
    let s = c.in_ok-matching.matching in
    let tau = travel_time c.args.times.now in
    let weights : (i j : ℕ) → i < length c.args.idle.now → j < length c.args.wanted.now → weight_in s i j ≡ weight_of
    (tau (slice_index c.args.idle.now i) (slice_index c.args.wanted.now j)) =
    λ i j hi hj. rw (c.in_ok-matching.ensures.weights, c.in_ok-matching.ensures.riders) (c.in_ok-weights.ensures.weights i j hi hj) in
    let priced : IsPricedMatching s.vehicles s.vehicles s = rw (← c.in_ok-matching.ensures.vehicles) at c.in_ok-matching.ensures.priced in
    let matching : IsMatching tau c.args.idle.now c.args.wanted.now c.in_ok-pairs.pairs.items =
    IsMatching-chosen tau c.args.idle.now c.args.wanted.now s c.in_ok-pairs.pairs.items c.in_ok-matching.ensures.vehicles c.in_ok-matching.ensures.riders
    weights priced c.in_ok-pairs.ensures in
    rw c.deref.ensures.value (omega (arith, IsMatching-short tau c.args.idle.now c.args.wanted.now c.in_ok-pairs.pairs.items matching, c.requires.few_idle))

pub returns : goal.returns
returns c =
    let s = c.in_ok-matching.matching in
    let idle = c.args.idle.now in
    let wanted = c.args.wanted.now in
    let pairs = c.in_ok-pairs.pairs.items in
    let tau = travel_time c.args.times.now in
    let weights : (i j : ℕ) → i < length c.args.idle.now → j < length c.args.wanted.now → weight_in s i j ≡ weight_of
    (tau (slice_index c.args.idle.now i) (slice_index c.args.wanted.now j)) =
    λ i j hi hj. rw (c.in_ok-matching.ensures.weights, c.in_ok-matching.ensures.riders) (c.in_ok-weights.ensures.weights i j hi hj) in
    let priced : IsPricedMatching s.vehicles s.vehicles s = rw (← c.in_ok-matching.ensures.vehicles) at c.in_ok-matching.ensures.priced in
    let matching = IsMatching-chosen tau idle wanted s pairs c.in_ok-matching.ensures.vehicles c.in_ok-matching.ensures.riders weights priced
    c.in_ok-pairs.ensures in
    let potentials = ArePotentials-chosen tau idle wanted s pairs c.in_ok-matching.ensures.vehicles c.in_ok-matching.ensures.riders weights priced
    c.in_ok-pairs.ensures in
    let from : c.of-2.result ≡ map (λ (p : ℕ). neg_ℤ (pos p)) s.vehicle_price.items = c.of-2.ensures ∙ rw c.deref-2.ensures.value at c.in_ok-from.ensures in
    let to : c.of-3.result ≡ map (λ (p : ℕ). neg_ℤ (pos p)) s.rider_price.items = c.of-3.ensures ∙ rw c.deref-3.ensures.value at c.in_ok-to.ensures in
    record {
      best = rw c.of.ensures
          (best_by_prices tau idle wanted pairs _ _ (λ a b h. c.args.times.now.table.times.range a b h) c.requires.few_idle matching
          (ArePrices-from_potentials tau idle wanted pairs _ _ matching potentials));
      rising = rw c.of.ensures c.in_ok-pairs.ensures.rising;
      total = rw c.of.ensures
          (rw c.deref.ensures.value at c.seconds_of_pairs-total.ensures
          ∙ total-chosen tau idle wanted s pairs c.in_ok-matching.ensures.vehicles c.in_ok-matching.ensures.riders weights priced c.in_ok-pairs.ensures);
      potentials = rw (c.of.ensures, from, to) potentials;
    }
