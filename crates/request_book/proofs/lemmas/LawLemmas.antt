-- The laws of steps and journals.
use Rattle.std.proofs.Common.{
  rules,
  ◌≡◌,
  ℕ,
  ◌+◌,
  ◌-◌,
  ◌^◌,
  true,
  List,
  [],
  ◌∷◌,
  ◌++◌,
  length,
  Option,
  Some,
  refl,
  arith,
  min,
  is_some,
  option_map,
  option_and_then,
  ◌↔◌,
}
use Rattle.request_book.proofs.Common.{
  nat_tests,
  IsFleet,
  Vehicle,
  Command,
  Entry,
  BookRefusal,
  Refused,
  BookRider,
  Aboard,
  State,
  next_position,
  opening,
  IsConsistent,
  IsPassenger,
  seat_in,
  status_in,
  state_after,
  step,
}
use Rattle.std.proofs.lemmas.List.{length-append}
use Rattle.request_book.proofs.lemmas.BookLemmas.{opening-consistent}
use Rattle.request_book.proofs.lemmas.ConsistentLemmas.{step-consistent}

-- a refused command changes nothing
pub refused-keeps : (nodes : List ℕ) (wait : ℕ) (s : State) (command : Command) (refusal : BookRefusal) → (step nodes wait s command).1 ≡ Refused refusal →
    (step nodes wait s command).0 ≡ s
unfolding step
refused-keeps nodes wait s command refusal e = grind arith

-- runs
pub rounds-join : (nodes : List ℕ) (wait : ℕ) (s : State) (round later : List Entry) → state_after nodes wait s (round ++ later) ≡ state_after nodes wait
    (state_after nodes wait s round) later
unfolding state_after
rounds-join nodes wait s [] later = refl
rounds-join nodes wait s (e ∷ es) later = rounds-join nodes wait (step nodes wait s e.command).0 es later

run-consistent : (nodes : List ℕ) (wait : ℕ) (s : State) (entries : List Entry) → IsConsistent s → IsConsistent (state_after nodes wait s entries)
unfolding state_after
run-consistent nodes wait s [] kept = kept
run-consistent nodes wait s (e ∷ es) kept = run-consistent nodes wait (step nodes wait s e.command).0 es (step-consistent nodes wait s e.command kept)

pub reached-consistent : (nodes : List ℕ) (wait : ℕ) (vehicles : List Vehicle) (entries : List Entry) → IsFleet vehicles →
    IsConsistent (state_after nodes wait (opening vehicles) entries)
reached-consistent nodes wait vehicles entries fleet = run-consistent nodes wait (opening vehicles) entries (opening-consistent nodes vehicles fleet)

-- a seat is there exactly where the status names the vehicle
seated-exactly : (vehicle : ℕ) (o : Option BookRider) → (is_some (option_and_then (seat_in vehicle) o) ≡ true) ↔
    (option_map (λ r. r.status) o ≡ Some (Aboard vehicle))
seated-exactly vehicle o = (λ e. grind (arith, nat_tests), λ e. grind (arith, nat_tests))

pub passengers-exactly : (s : State) (vehicle rider : ℕ) → IsConsistent s → IsPassenger s vehicle rider ↔ (status_in s rider ≡ Some (Aboard vehicle))
passengers-exactly s vehicle rider kept = search (rules, seated-exactly)

-- positions
saturating : (most first a b both : ℕ) → both ≡ a + b → min (min (first + a) most + b) most ≡ min (first + both) most
saturating most first a b both e = omega arith

pub positions-count : (first : ℕ) (round later : List Entry) → next_position (next_position first round) later ≡ next_position first (round ++ later)
positions-count first round later = saturating (2 ^ 64 - 1) first (length round) (length later) (length (round ++ later)) (length-append round later)
