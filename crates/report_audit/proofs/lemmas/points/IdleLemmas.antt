-- Idle vehicles and riders who are left out stand at places of the table, each once.
use Rattle.std.proofs.lemmas.Bool.Decides.{nat_tests}
use Rattle.std.proofs.Common.{◌≡◌, ℕ, ◌<◌, List, [], length, map, All, sym, ap, ◌∙◌, subst, arith}
use Rattle.report_audit.proofs.Common.{
  rising_once,
  IsStrictlyIncreasing,
  length-map,
  get_or-map,
  MoveLine,
  Settled,
  SettledRider,
  SettledVehicle,
  rider_at,
  no_rider,
  no_vehicle,
  IsSound,
  AreMoves,
  move_line,
  rider_id,
  vehicle_id,
  has_places,
  none_matched,
  HaveOwnPlaces,
}

-- rising ids tell riders and vehicles apart
pub one_rider : (settled : Settled) → IsStrictlyIncreasing (map (λ (r : SettledRider). r.id) settled.riders) → (r s : ℕ) → r < length settled.riders →
    s < length settled.riders → rider_id settled r ≡ rider_id settled s → r ≡ s
one_rider settled rising r s a b e =
    let long = length-map settled.riders (λ (x : SettledRider). x.id) in
    rising_once (map (λ (x : SettledRider). x.id) settled.riders) rising r s (omega (arith, long, a)) (omega (arith, long, b))
    (get_or-map (λ (x : SettledRider). x.id) settled.riders r no_rider 0 a ∙ e ∙ sym (get_or-map (λ (x : SettledRider). x.id) settled.riders s no_rider 0 b))

pub one_vehicle : (settled : Settled) → IsStrictlyIncreasing (map (λ (v : SettledVehicle). v.id) settled.vehicles) → (v w : ℕ) → v < length settled.vehicles →
    w < length settled.vehicles → vehicle_id settled v ≡ vehicle_id settled w → v ≡ w
one_vehicle settled rising v w a b e =
    let long = length-map settled.vehicles (λ (x : SettledVehicle). x.id) in
    rising_once (map (λ (x : SettledVehicle). x.id) settled.vehicles) rising v w (omega (arith, long, a)) (omega (arith, long, b))
    (get_or-map (λ (x : SettledVehicle). x.id) settled.vehicles v no_vehicle 0 a ∙ e ∙ sym
    (get_or-map (λ (x : SettledVehicle). x.id) settled.vehicles w no_vehicle 0 b))

pub own_places : (k points : ℕ) (tau : ℕ → ℕ → ℕ) (settled : Settled) (idle left : List ℕ) → IsSound k points tau settled → 0 < length settled.vehicles →
    All (λ v. v < length settled.vehicles) idle → All (λ r. r < length settled.riders) left
    → IsStrictlyIncreasing idle → IsStrictlyIncreasing left → HaveOwnPlaces points settled idle left
own_places k points tau settled idle left sound some vehicles riders up vp = grind (
  arith,
  nat_tests,
  (has_places k points tau settled sound some),
  (rising_once idle up),
  (rising_once left vp),
  (one_vehicle settled sound.vehicle_ids),
  (one_rider settled sound.rider_ids),
)

-- without vehicles there is no move
pub none_move : (tau : ℕ → ℕ → ℕ) (settled : Settled) (idle left : List ℕ) (moves : List MoveLine) → idle ≡ [] → AreMoves tau settled idle left moves →
    moves ≡ []
none_move tau settled idle left moves none are =
    let same : AreMoves tau settled [] left moves = subst (λ (vs : List ℕ). AreMoves tau settled vs left moves) none are in
    same.told ∙ ap (λ (ps : List (ℕ × ℕ)). map (move_line tau settled [] left) ps) (none_matched tau (map (λ r. (rider_at settled r).leg.origin) left)
    same.pairs same.best.matching)
