-- By which point lines fail that tell what no outcome can.
use Rattle.std.proofs.Common.{◌≢◌, ℕ, ◌<◌, ◌≤◌, true, List, Contains, length, IfSome, ⊎_elim, arith}
use Rattle.report_audit.proofs.Common.{
  cases_lt,
  All-contains,
  Batch,
  point_place,
  Point,
  lines_of,
  BlockLine,
  TripRow,
  Trip,
  Late,
  LateText,
  TripRowText,
  TripText,
  Outcome,
  Settings,
  Roads,
  BeginsWithWrong,
  CanBeTold,
  HasTrips,
  judged_outcome,
  nothing_told,
  told_by,
}
use Rattle.report_audit.proofs.block.NumberedLemmas.{vehicle_ids}
use Rattle.report_audit.proofs.block.OutcomeLemmas.{judged_few, lines_are}
use Rattle.report_audit.proofs.lemmas.points.VerdictLemmas.{last_place}
use Rattle.report_audit.proofs.block.TellingLemmas.{told_below}
use Rattle.report_audit.proofs.block.BlockListsLemmas.{AreShort, IsShort, all_short}
use Rattle.dispatch_engine.specs.declared.outcome.point.Point.TheVariants as point

not_above : (n place : ℕ) → (n < place → ⊥) → place ≤ n
not_above n place none = ⊎_elim (λ (above : n < place). absurd (none above)) (λ (low : place ≤ n). low) (cases_lt n place)

module _ (settings : Settings) (roads : Roads) (batch : Batch) (text : List ℕ) (found : Point) (wrong : BeginsWithWrong settings roads batch text found) where
  -- what the points before the one that fails ask for can be told
  told_before : (q : Point) → point_place q < point_place found → CanBeTold q (told_by wrong.lines)
  told_before q less = (wrong.fails.0 q less).2

  pub untold_fails : ((n : ℕ) (outcome : Outcome) → HasTrips outcome.answer → wrong.lines ≢ lines_of true n outcome) → point_place found ≤ 5
  untold_fails none = not_above 5 (point_place found) (λ (late : 5 < point_place found).
      none (told_by wrong.lines).batch (judged_outcome (vehicle_ids batch) (told_by wrong.lines)) (judged_few (vehicle_ids batch) (told_by wrong.lines)).1
      (lines_are (vehicle_ids batch) wrong.lines wrong.block.begins.order wrong.block.ended
      (λ q. told_below (told_by wrong.lines) 9 (λ h. told_before point.Graphs (omega (arith, late))) (λ h. told_before point.Late (omega (arith, late)))
      (λ h. told_before point.Trips (omega (arith, late))) (λ h. told_before point.Bound late) q (last_place q))))

  breaks : (p : Point) (line : BlockLine) → (CanBeTold p (told_by wrong.lines) → AreShort p (told_by wrong.lines)) → Contains wrong.lines line →
      (IsShort p line → ⊥) → point_place found ≤ point_place p
  breaks p line short stands long = not_above (point_place p) (point_place found) (λ (late : point_place p < point_place found).
      long (All-contains (IsShort p) wrong.lines line (all_short p nothing_told wrong.lines (short (told_before p late))).1 stands))

  pub long_row_fails : (row : TripRowText) → Contains wrong.lines (TripRow row) → 6 < length row.riders → point_place found ≤ 1
  long_row_fails row stands long = breaks point.Graphs (TripRow row) (λ all. all) stands (λ few. omega (arith, few, long))

  pub long_late_fails : (late : LateText) → Contains wrong.lines (Late late) → (IfSome late.stops (λ stops. length stops ≤ 10) → ⊥) → point_place found ≤ 2
  long_late_fails late stands long = breaks point.Late (Late late) (λ all. all) stands long

  pub long_trip_fails : (trip : TripText) → Contains wrong.lines (Trip trip) → 22 < length trip.stops → point_place found ≤ 3
  long_trip_fails trip stands long = breaks point.Trips (Trip trip) (λ all. all) stands (λ few. omega (arith, few, long))
