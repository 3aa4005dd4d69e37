-- What a seat at the lock's table knows, and what its pass shows of it.
use Rattle.std.specs.Prelude.{◌≡◌, ℕ, zero, suc, List, [], ◌∷◌, ◌++◌, Option, Some, None}
use Rattle.atomic_table.specs.declared.shared.Seat.{Seat}
use Rattle.seat_lock.specs.declared.logged.LoggedCall.{LoggedCall}
use Rattle.seat_lock.specs.declared.view.View.{View}
use Rattle.seat_lock.specs.declared.view.Claim.{Claim}
use Rattle.seat_lock.specs.declared.view.Stage.{Stage}
use Rattle.seat_lock.specs.declared.view.Stage.TheVariants.{Idle, InTurn}
use Rattle.seat_lock.specs.Values.{PassValue}

module _ {C R : Type 0} where
  -- a lane with its calls
  abbrev pub claim : ℕ → List (ℕ × LoggedCall C R) → Claim C R
  claim lane calls = record { lane = lane; calls = calls }

  -- the calls of the first claim
  abbrev pub calls_in : List (Claim C R) → List (ℕ × LoggedCall C R)
  calls_in [] = []
  calls_in (c ∷ cs) = c.calls

  -- so many lanes from this one on, none of which has made a call
  abbrev pub fresh_claims : ℕ → ℕ → List (Claim C R)
  fresh_claims lane zero = []
  fresh_claims lane (suc n) = claim lane [] ∷ fresh_claims (suc lane) n

  -- the first claim alone, if there is one
  abbrev pub first_claim : List (Claim C R) → List (Claim C R)
  first_claim [] = []
  first_claim (c ∷ cs) = c ∷ []

  -- the claims after the first
  abbrev pub other_claims : List (Claim C R) → List (Claim C R)
  other_claims [] = []
  other_claims (c ∷ cs) = cs

module _ {B C R : Type 0} where
  -- the view at another stage, or with other claims
  abbrev pub with_stage : Stage C R → View B C R → View B C R
  with_stage stage v = record { start = v.start; claims = v.claims; seen = v.seen; stage = stage }

  abbrev pub with_claims : List (Claim C R) → View B C R → View B C R
  with_claims claims v = record { start = v.start; claims = claims; seen = v.seen; stage = v.stage }

  -- the seat whose turn has come, at its ticket, and that knows all entries
  abbrev pub in_turn : ℕ → List (LoggedCall C R) → ℕ → View B C R → View B C R
  in_turn ticket entries seen v = record { start = v.start; claims = v.claims; seen = seen; stage = InTurn ticket entries }

  -- the view of one lane's seat
  abbrev pub lane_view : B → ℕ → List (ℕ × LoggedCall C R) → ℕ → Stage C R → View B C R
  lane_view start lane calls seen stage = record { start = Some start; claims = claim lane calls ∷ []; seen = seen; stage = stage }

  -- the view of the first seat, with so many lanes left from this one on
  abbrev pub lanes_view : B → ℕ → ℕ → View B C R
  lanes_view start lane left = record { start = Some start; claims = fresh_claims lane left; seen = 0; stage = Idle }

  -- the first seat claims all lanes
  abbrev pub first_view : B → ℕ → View B C R
  first_view start lanes = lanes_view start 0 lanes

  -- a seat that was joined into another knows nothing
  abbrev pub spent_view : View B C R
  spent_view = record { start = None; claims = []; seen = 0; stage = Idle }

  -- a new seat takes the first lane, and the old one keeps the others
  abbrev pub lane_given : View B C R → View B C R
  lane_given v = with_claims (first_claim v.claims) v

  abbrev pub lanes_kept : View B C R → View B C R
  lanes_kept v = with_claims (other_claims v.claims) v

  -- the lanes of another seat come before this one's
  abbrev pub lanes_joined : View B C R → View B C R → View B C R
  lanes_joined v w = with_claims (w.claims ++ v.claims) v

  -- what contracts see of a pass with this seat
  abbrev pub pass_value : Seat (Option B) (View B C R) → ℕ → PassValue B C R
  pass_value s lane = record { table = s.table_id; start = s.me.0.start; lane = lane; calls = calls_in s.me.0.claims; seen = s.me.0.seen }

  -- the seat rests, and claims the calls of this lane
  pub record IsPass (s : Seat (Option B) (View B C R)) (lane : ℕ) : Type 0 where
    pub rests : s.me.0.stage ≡ Idle
    pub claims : s.me.0.claims ≡ claim lane (calls_in s.me.0.claims) ∷ []
    pub empty_handed : s.me.1 ≡ []
