-- Moves of idle vehicles to riders who were left out.
use Rattle.std.proofs.Common.{◌≡◌, ℕ, zero, suc, ◌<◌, List, [], ◌∷◌, length, get_or, refl, sym, ap, subst, arith}
use Rattle.dispatch_engine.proofs.Common.{
  length-map,
  All-nil,
  All-map,
  IsMatching,
  IsBestMatching,
  MoveLine,
  IsTrip,
  vehicle_at,
  rider_at,
  IsSound,
  no_leg,
  Settled,
  AreMoves,
  HasPlaces,
  origins_of,
  starts_of,
}
use Rattle.std.specs.List.{All}
use Rattle.dispatch_engine.proofs.lemmas.outcome.TripLemmas.{no_trip}

-- the places of a sound batch that has vehicles
pub has_places : (k points : ℕ) (tau : ℕ → ℕ → ℕ) (settled : Settled) → IsSound k points tau settled → 0 < length settled.vehicles → HasPlaces points settled
has_places k points tau settled sound some = record {
  vehicles = λ v l. ((sound.each v l).tasks [] (no_trip (length settled.riders)) (omega arith)).start;
  riders = λ r l. (((sound.each 0 some).tasks (r ∷ []) (alone r l) (omega arith)).riders 0 no_leg (omega arith)).origin;
}
  where
    under : (r : ℕ) → r < length settled.riders → (i d : ℕ) → i < 1 → get_or (r ∷ []) i d < length settled.riders
    under r low zero d l = low
    under r low (suc i) d l = absurd (omega arith)

    alone : (r : ℕ) → r < length settled.riders → IsTrip (length settled.riders) (r ∷ [])
    alone r low = record { rising = λ i l. absurd (omega arith); within = λ i d l. under r low i d l }

module _ (points : ℕ) (settled : Settled) (places : HasPlaces points settled) where
  pub starts_within : (vehicles : List ℕ) → All (λ v. v < length settled.vehicles) vehicles → All (λ p. p < points) (starts_of settled vehicles)
  starts_within vehicles within =
      All-map (λ p. p < points) (λ v. (vehicle_at settled v).start) vehicles (λ i d l. places.vehicles (get_or vehicles i d) (within i d l))

  pub origins_within : (riders : List ℕ) → All (λ r. r < length settled.riders) riders → All (λ p. p < points) (origins_of settled riders)
  origins_within riders within =
      All-map (λ p. p < points) (λ r. (rider_at settled r).leg.origin) riders (λ i d l. places.riders (get_or riders i d) (within i d l))

module _ (tau : ℕ → ℕ → ℕ) (settled : Settled) (idle left : List ℕ) where
  -- the pairs of a matching are within the lists whose places it joins
  pub pairs_within : (pairs : List (ℕ × ℕ)) → IsMatching tau (starts_of settled idle) (origins_of settled left) pairs →
      All (λ (p : ℕ × ℕ). (p.0 < length idle) × (p.1 < length left)) pairs
  pairs_within pairs m i d l =
      let starts : length (starts_of settled idle) ≡ length idle = length-map idle (λ v. (vehicle_at settled v).start) in
      let origins : length (origins_of settled left) ≡ length left = length-map left (λ r. (rider_at settled r).leg.origin) in
      let w = m.within i d l in
      (omega (arith, w.0), omega (arith, w.1))

-- there is nothing to match without vehicles
pub none_matched : (tau : ℕ → ℕ → ℕ) (to : List ℕ) (pairs : List (ℕ × ℕ)) → IsMatching tau [] to pairs → pairs ≡ []
none_matched tau to [] m = refl
none_matched tau to (p ∷ ps) m = let w = m.within 0 p (omega arith) in absurd (omega (arith, w.0))

best_of_none : (tau : ℕ → ℕ → ℕ) (to : List ℕ) → IsBestMatching tau [] to []
best_of_none tau to = record {
  matching = record { within = All-nil _; reachable = All-nil _; once_from = λ i j d a b. absurd (omega arith); once_to = λ i j d a b. absurd (omega arith) };
  most_pairs = λ other m. let e = ap length (none_matched tau to other m) in omega (arith, e);
  least_total = λ other m e. omega arith;
}

pub no_moves : (tau : ℕ → ℕ → ℕ) (settled : Settled) (idle left : List ℕ) (moves : List MoveLine) → idle ≡ [] → moves ≡ [] →
    AreMoves tau settled idle left moves
no_moves tau settled idle left moves none told =
    subst (λ (vs : List ℕ). AreMoves tau settled vs left moves) (sym none)
    (record { pairs = []; best = best_of_none tau (origins_of settled left); rising = λ i j d a b. absurd (omega arith); told = told })
