-- What each step of a turn needs of the seat that makes it.
use Rattle.std.specs.Prelude.{◌≡◌, ℕ, ◌^◌, ◌<◌, List, [], ◌∷◌, ◌++◌, length, Some}
use Rattle.atomic_table.specs.Table.{Me}
use Rattle.atomic_table.specs.declared.shared.Seat.{Seat}
use Rattle.seat_lock.specs.declared.logged.LoggedCall.{LoggedCall}
use Rattle.seat_lock.specs.declared.view.View.{View}
use Rattle.seat_lock.specs.declared.view.Stage.TheVariants.{Idle, InTurn}
use Rattle.seat_lock.specs.work.Views.{lane_view}
use Rattle.seat_lock.specs.work.Rule.{Sound}
use Rattle.std.specs.Prelude.{Option}

module _ {B C R : Type 0} where
  -- it is the same seat
  abbrev pub IsSameSeat : Seat (Option B) (View B C R) → Seat (Option B) (View B C R) → Type 0
  IsSameSeat old new = (new.table_id ≡ old.table_id) × (new.id ≡ old.id)

  -- the seat has a claim, no ticket and no slot
  pub record CanDraw (m : Me (Option B) (View B C R)) : Type 0 where
    pub idle : m.0.stage ≡ Idle
    pub claims : 0 < length m.0.claims
    pub empty_handed : m.1 ≡ []

  -- the log of the value has one entry more than the seat knows, a call of its lane
  pub record CanNote (log : B → List (LoggedCall C R)) (m : Me (Option B) (View B C R)) : Type 0 where
    pub start : B
    pub value : B
    pub last : LoggedCall C R
    pub lane : ℕ
    pub seen : ℕ
    pub ticket : ℕ
    pub calls : List (ℕ × LoggedCall C R)
    pub entries : List (LoggedCall C R)
    pub is : m ≡ (lane_view start lane calls seen (InTurn ticket entries), (0, Some value) ∷ [])
    pub grown : log value ≡ (log start ++ entries) ++ last ∷ []
    pub own : last.lane ≡ lane
    pub short : length (log value) < 2 ^ 63

  -- the value that the seat gives back is sound
  pub record CanServe {Root : Type 0} (root : B → Root) (log : B → List (LoggedCall C R)) (spare : B → ℕ) (m : Me (Option B) (View B C R)) : Type 0 where
    pub start : B
    pub value : B
    pub lane : ℕ
    pub seen : ℕ
    pub ticket : ℕ
    pub calls : List (ℕ × LoggedCall C R)
    pub entries : List (LoggedCall C R)
    pub is : m ≡ (lane_view start lane calls seen (InTurn ticket entries), (0, Some value) ∷ [])
    pub sound : Sound root log spare start entries value
