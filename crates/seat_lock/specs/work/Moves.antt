-- What each step at the lock's table tells its seat: of the step, the view and the slots held before, the number found, and the view and the slots after.
use Rattle.std.specs.Prelude.{◌≡◌, ◌≢◌, ℕ, ◌%◌, ◌^◌, ◌<◌, ◌≤◌, List, [], ◌∷◌, length, drop, Option, Some, None}
use Rattle.atomic_table.specs.Table.{Me, Step, rest}
use Rattle.seat_lock.specs.declared.logged.LoggedCall.{LoggedCall}
use Rattle.seat_lock.specs.declared.view.View.{View}
use Rattle.seat_lock.specs.declared.view.Claim.{Claim}
use Rattle.seat_lock.specs.declared.view.Stage.{Stage}
use Rattle.seat_lock.specs.declared.view.Stage.TheVariants.{Idle, Waiting, InTurn}
use Rattle.seat_lock.specs.Values.{calls_of}
use Rattle.seat_lock.specs.work.Views.{with_stage, in_turn, lane_view}
use Rattle.seat_lock.specs.work.Rule.{Sound, Claimed}

-- the entries that the log of b has gained since the start
abbrev pub since : {B C R : Type 0} → (B → List (LoggedCall C R)) → B → B → List (LoggedCall C R)
since log start b = drop (length (log start)) (log b)

-- the value of the slot that the seat holds
abbrev pub held : {S : Type 0} → List (ℕ × Option S) → Option S
held [] = None
held (x ∷ xs) = x.1

module _ {B C R : Type 0} where
  -- the seat has the ticket whose number was found
  abbrev pub drew : Step (Option B) → Me (Option B) (View B C R) → ℕ → Me (Option B) (View B C R) → Type 0
  drew st m n m' = (x : ℕ) × (x % 2 ^ 64 ≡ n) × (m' ≡ (with_stage (Waiting x) m.0, m.1))

  -- the turn of the ticket x has come, and the seat holds the value
  pub record TakesTurn {Root : Type 0} (root : B → Root) (log : B → List (LoggedCall C R)) (spare : B → ℕ) (v : View B C R) (x : ℕ) (m' : Me (Option B) (View B C R)) : Type 0 where
    pub start : B
    pub value : B
    pub entries : List (LoggedCall C R)
    pub opened : v.start ≡ Some start
    pub sound : Sound root log spare start entries value
    pub short : length entries < 2 ^ 63
    pub behind : v.seen ≤ length entries
    pub claimed : Claimed entries v.claims
    pub now : m' ≡ (in_turn x entries (length entries) v, (0, Some value) ∷ [])

  module _ {Root : Type 0} (root : B → Root) (log : B → List (LoggedCall C R)) (spare : B → ℕ) where
    -- what a look tells at each stage of the seat
    abbrev pub LooksAt : Me (Option B) (View B C R) → ℕ → Me (Option B) (View B C R) → Stage C R → Type 0
    LooksAt m n m' Idle = Unit {0}
    LooksAt m n m' (Waiting x) = (x % 2 ^ 64 ≡ n → TakesTurn root log spare m.0 x m') × (x % 2 ^ 64 ≢ n → m' ≡ m)
    LooksAt m n m' (InTurn x entries) = Unit {0}

    -- where the number found is that of the seat's ticket, its turn has come
    abbrev pub looked : Step (Option B) → Me (Option B) (View B C R) → ℕ → Me (Option B) (View B C R) → Type 0
    looked st m n m' = LooksAt m n m' m.0.stage

  module _ (log : B → List (LoggedCall C R)) where
    -- what a note tells, by the start, the value held, the claims and the stage
    abbrev pub NotesAt : Option B → Option B → List (Claim C R) → Stage C R → ℕ → Me (Option B) (View B C R) → Type 0
    NotesAt (Some start) (Some b) (c ∷ cs) (InTurn x entries) n m' =
        (n ≡ length entries)
        × (m' ≡ (lane_view start c.lane (calls_of c.lane (since log start b)) (length (since log start b)) (InTurn x (since log start b)), (0, Some b) ∷ []))
    NotesAt _ _ _ _ n m' = Unit {0}

    -- the number of entries was found, and the seat knows those that the value has now
    abbrev pub noted : Step (Option B) → Me (Option B) (View B C R) → ℕ → Me (Option B) (View B C R) → Type 0
    noted st m n m' = NotesAt m.0.start (held m.1) m.0.claims m.0.stage n m'

  -- the seat has neither ticket nor value
  abbrev pub gave_way : Step (Option B) → Me (Option B) (View B C R) → ℕ → Me (Option B) (View B C R) → Type 0
  gave_way st m n m' = m' ≡ (with_stage Idle m.0, rest m.1)
