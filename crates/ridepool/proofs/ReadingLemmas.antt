-- Why a source stopped a run, from why it wasn't read to its end and from why its bytes are refused.
use Rattle.std.proofs.Common.{
  ◌≡◌,
  ℕ,
  ◌+◌,
  ◌≤◌,
  List,
  Option,
  Some,
  None,
  Result,
  Ok,
  Err,
  IfSome,
  IfOk,
  IfErr,
  MatchResult,
  length,
  sym,
  ap,
  subst,
  ◌∙◌,
  arith,
  length-append,
  ◌<◌,
  ◌↔◌,
}
use Rattle.ridepool.proofs.Common.{
  Vehicle,
  Which,
  Rose,
  Input,
  Roads,
  NumberedLanes,
  HidesNoMemory,
  IsWithin,
  Reads,
  most_bytes,
  network_in,
  vehicles_in,
  IsFleetIn,
  script_in,
  Change,
  SourceView,
  RunStatus,
  Network,
  Fleet,
  Script,
  TooLong,
  ReadFault,
  OutOfMemory,
  IsUnread,
  StopsAt,
  RefusesNetwork,
  RefusesFleet,
  RefusesRounds,
}
use Rattle.pool_io.specs.Source.{Loses}
use Rattle.pool_io.specs.declared.reading.ReadAll.{ReadAll}
use Rattle.pool_base.specs.declared.which.Which.TheVariants as file
use Rattle.pool_io.specs.declared.reading.ReadAll.TheVariants as of_read

-- bytes that were lost were told, where any were
pub told_so_many : (old new : Option (List ℕ)) (count least : ℕ) → Loses old new count → least < count → IfSome old (λ left. least < length left)
told_so_many None new count least lost below = tt
told_so_many (Some xs) None count least lost below = absurd lost.1
told_so_many (Some xs) (Some ys) count least lost below =
    let whole : length xs ≡ length lost.0 + length ys = ap length lost.1 ∙ length-append lost.0 ys in
    omega (arith, whole, lost.2, below)

-- what holds of the bytes that were read
pub reads_as : {w : Which} (s : Change SourceView) (bytes : List ℕ) (P : List ℕ → Type 0) → Reads w s (λ came. came ≡ bytes) → P bytes → Reads w s P
reads_as s bytes P whole holds =
    record { bytes = whole.bytes; told = whole.told; ended = whole.ended; taken = whole.taken; short = whole.short; holds = subst P (sym whole.holds) holds }

-- a source that was read to its end gave no more than may be
pub reads_within : {w : Which} (s : Change SourceView) (P : List ℕ → Type 0) → Reads w s P → IsWithin w s
reads_within s P r = omega (arith, r.taken, r.short)

-- why a source wasn't read to its end, by the answer that came
module _ {A : Type 0} (s : Change SourceView) (which : Which) (most : ℕ) (its : most ≡ most_bytes which) (r : Result A ReadAll)
    (moved : (count : ℕ) × (count ≤ most + 1) × (s.after.taken ≡ s.before.taken + count) × Loses s.before.left s.after.left count)
    (too_long : (r ≡ Err (of_read.TooLong most)) ↔ (s.after.taken ≡ s.before.taken + (most + 1))) where
  within : ((s.after.taken ≡ s.before.taken + (most + 1)) → ⊥) → IsWithin which s
  within few = (let at : s.after.taken ≡ s.before.taken + moved.0 = moved.2 in let least : moved.0 ≤ most + 1 = moved.1 in omega (arith, at, least, few, its))

  pub read_failed : r ≡ Err of_read.ReadFault → (r ≡ Err of_read.ReadFault → Rose s.before.faults s.after.faults) → IsUnread s which (ReadFault which)
  read_failed is fault = IsUnread.failed (within (λ long. cc (is, too_long.1 long))) (fault is)

  pub no_memory_left : r ≡ Err of_read.OutOfMemory → IsUnread s which OutOfMemory
  no_memory_left is = IsUnread.memory (within (λ long. cc (is, too_long.1 long)))

  pub was_too_long : (limit : ℕ) → r ≡ Err (of_read.TooLong limit) → ((bound : ℕ) → r ≡ Err (of_read.TooLong bound) → bound ≡ most) →
      IsUnread s which (TooLong which)
  was_too_long limit is bound =
      let taken : s.after.taken ≡ s.before.taken + (most + 1) = too_long.0 (is ∙ ap (λ b. Err (of_read.TooLong b)) (bound limit is)) in
      let at : s.after.taken ≡ s.before.taken + moved.0 = moved.2 in
      let count : moved.0 ≡ most + 1 = omega (arith, taken, at) in
      IsUnread.long (record {
        taken = omega (arith, taken, its);
        told = told_so_many s.before.left s.after.left moved.0 (most_bytes which) moved.3
            (omega (arith, count, its));
      })

module _ (s : Change SourceView) where
  stops_for_memory : {A F : Type 0} (which : Which) (refusal : Input F → RunStatus) (read : List ℕ → Result A (Input F)) (bytes : List ℕ)
      → Reads which s (λ came. came ≡ bytes) → StopsAt s which refusal read OutOfMemory
  stops_for_memory which refusal read bytes whole = StopsAt.unread OutOfMemory (IsUnread.memory (reads_within s (λ came. came ≡ bytes) whole))

  pub network_stops : (bytes : List ℕ) (status : RunStatus) → Reads file.Network s (λ came. came ≡ bytes) → RefusesNetwork bytes status → HidesNoMemory status
      → StopsAt s file.Network Network network_in status
  network_stops bytes (Network fault) whole why hides = StopsAt.refused fault (reads_as s bytes (λ b. network_in b ≡ Err fault) whole why) hides
  network_stops bytes OutOfMemory whole why hides = stops_for_memory file.Network Network network_in bytes whole
  network_stops bytes _ whole why hides = absurd why

  pub fleet_stops : (nodes bytes : List ℕ) (status : RunStatus) → Reads file.Fleet s (λ came. came ≡ bytes) → RefusesFleet nodes bytes status →
      HidesNoMemory status
      → StopsAt s file.Fleet Fleet (vehicles_in nodes) status
  fleet_stops nodes bytes (Fleet fault) whole why hides = StopsAt.refused fault (reads_as s bytes (λ b. vehicles_in nodes b ≡ Err fault) whole why) hides
  fleet_stops nodes bytes OutOfMemory whole why hides = stops_for_memory file.Fleet Fleet (vehicles_in nodes) bytes whole
  fleet_stops nodes bytes _ whole why hides = absurd why

  pub script_stops : (bytes : List ℕ) (status : RunStatus) → Reads file.Script s (λ came. came ≡ bytes) → RefusesRounds (script_in bytes) status →
      HidesNoMemory status
      → StopsAt s file.Script Script script_in status
  script_stops bytes (Script fault) whole why hides = StopsAt.refused fault (reads_as s bytes (λ b. script_in b ≡ Err fault) whole why) hides
  script_stops bytes OutOfMemory whole why hides = stops_for_memory file.Script Script script_in bytes whole
  script_stops bytes _ whole why hides = absurd why

-- what came of an input, from what came of its bytes
pub network_read : (s : Change SourceView) (items bytes : List ℕ) (r : Result Roads RunStatus) → Reads file.Network s (λ came. came ≡ items) → bytes ≡ items
    → IfOk r (λ roads. network_in bytes ≡ Ok roads) → IfErr r (RefusesNetwork bytes) → IfErr r HidesNoMemory
    → MatchResult r (λ roads. Reads file.Network s (λ b. network_in b ≡ Ok roads)) (StopsAt s file.Network Network network_in)
network_read s items bytes (Ok roads) whole is ok why hides = reads_as s items (λ b. network_in b ≡ Ok roads) whole (subst (λ b. network_in b ≡ Ok roads) is ok)
network_read s items bytes (Err e) whole is ok why hides = network_stops s items e whole (subst (λ b. RefusesNetwork b e) is why) hides

pub fleet_read : (s : Change SourceView) (nodes items bytes : List ℕ) (r : Result (List Vehicle) RunStatus) → Reads file.Fleet s (λ came. came ≡ items) →
    bytes ≡ items
    → IfOk r (λ fleet. IsFleetIn nodes bytes fleet) → IfErr r (RefusesFleet nodes bytes) → IfErr r HidesNoMemory
    → MatchResult r (λ fleet. Reads file.Fleet s (λ b. IsFleetIn nodes b fleet)) (StopsAt s file.Fleet Fleet (vehicles_in nodes))
fleet_read s nodes items bytes (Ok fleet) whole is ok why hides = reads_as s items (λ b. IsFleetIn nodes b fleet) whole
    (subst (λ b. IsFleetIn nodes b fleet) is ok)
fleet_read s nodes items bytes (Err e) whole is ok why hides = fleet_stops s nodes items e whole (subst (λ b. RefusesFleet nodes b e) is why) hides

pub script_read : (s : Change SourceView) (items bytes : List ℕ) (r : Result (List NumberedLanes) RunStatus) → Reads file.Script s (λ came. came ≡ items) →
    bytes ≡ items
    → IfOk r (λ rounds. script_in bytes ≡ Ok rounds) → IfErr r (RefusesRounds (script_in bytes)) → IfErr r HidesNoMemory
    → MatchResult r (λ rounds. Reads file.Script s (λ b. script_in b ≡ Ok rounds)) (StopsAt s file.Script Script script_in)
script_read s items bytes (Ok rounds) whole is ok why hides = reads_as s items (λ b. script_in b ≡ Ok rounds) whole (subst (λ b. script_in b ≡ Ok rounds) is ok)
script_read s items bytes (Err e) whole is ok why hides = script_stops s items e whole (subst (λ b. RefusesRounds (script_in b) e) is why) hides
