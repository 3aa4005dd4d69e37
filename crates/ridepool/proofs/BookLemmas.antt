-- How a call begins: its book before the first round, positions from there on, and notifiers.
use Rattle.std.proofs.Common.{◌≡◌, ℕ, ◌-◌, ◌^◌, ◌≤◌, List, [], ◌∷◌, sym, ap, ◌∙◌, arith, Bool, true, false, not, ◌==◌}
use Rattle.ridepool.proofs.Common.{IsReady, position_after_run, BookView, next_position, opening, Inputs}
use Rattle.std.proofs.lemmas.Bool.{eqb-true, false≢true}
use Rattle.request_book.specs.values.Kept.{IsFleet}
use Rattle.request_book.specs.declared.values.journal.Journal.{Journal}
use Rattle.route_drive.specs.Driven.{IsNewBook}

-- the book of a call before its first round
abbrev pub opened : Inputs → BookView
opened i = record { nodes = i.roads.nodes; wait = i.settings.wait; first = 0; base = opening i.vehicles; entries = []; state = opening i.vehicles; spare = 0 }

-- the book of a call is new
pub new_book : (i : Inputs) (book : BookView) → IsFleet i.vehicles → book ≡ opened i → IsNewBook i.settings i.roads book
new_book i book fleet is =
    record {
      vehicles = i.vehicles;
      fleet = fleet;
      nodes = ap (λ b. b.nodes) is;
      wait = ap (λ b. b.wait) is;
      first = ap (λ b. b.first) is;
      entries = ap (λ b. b.entries) is;
      base = ap (λ b. b.base) is;
      state = ap (λ b. b.state) is;
    }

pub ready_book : (i : Inputs) (book : BookView) → book ≡ opened i → IsReady i.settings i.roads book
ready_book i book is = record { nodes = ap (λ b. b.nodes) is; wait = ap (λ b. b.wait) is; closed = ap (λ b. b.state.sealed) is }

-- positions stay below 2 ^ 64
pub position_after_run-most : (position : ℕ) (js : List Journal) → position ≤ 2 ^ 64 - 1 → position_after_run position js ≤ 2 ^ 64 - 1
position_after_run-most position [] most = most
position_after_run-most position (k ∷ js) most = position_after_run-most (next_position position k.entries) js (omega arith)

-- no position lies behind the last
pub last_position : (js : List Journal) → next_position (position_after_run 0 js) [] ≡ position_after_run 0 js
last_position js = omega (arith, position_after_run-most 0 js (omega arith))

-- where nobody is told anything, there is no notifier
pub nobody_told : (len size : ℕ) (none told : Bool) → size ≡ len → none ≡ (len == 0) → told ≡ not none → told ≡ false → size ≡ 0
nobody_told len size true told same empty is nobody = same ∙ eqb-true len 0 (sym empty)
nobody_told len size false told same empty is nobody = absurd (false≢true (sym nobody ∙ is))
