-- What holds of the lock's table between any two steps.
-- Word 0 is how many tickets were drawn and word 1 how many were served, both as remainders by 2^64. Word 2 is how many entries the log has gained.
-- The slot is at home with the value, or out with the seat whose turn it is.
use Rattle.std.specs.Prelude.{◌≡◌, ℕ, zero, suc, ◌+◌, ◌%◌, ◌^◌, ◌<◌, ◌≤◌, ◌⊎◌, List, [], ◌∷◌, ◌++◌, length, Option, Some}
use mathlib.Core.Option as maybe
use mathlib.Core.Option.{some, none}
use lib.ListN.{get_elem?}
use Rattle.atomic_table.specs.Table.{State}
use Rattle.seat_lock.specs.declared.logged.LoggedCall.{LoggedCall}
use Rattle.seat_lock.specs.declared.view.View.{View}
use Rattle.seat_lock.specs.declared.view.Claim.{Claim}
use Rattle.seat_lock.specs.declared.view.Stage.{Stage}
use Rattle.seat_lock.specs.declared.view.Stage.TheVariants.{Idle, Waiting, InTurn}
use Rattle.seat_lock.specs.Values.{calls_of}
use Rattle.seat_lock.specs.work.Views.{fresh_claims}

-- f of each, added up
abbrev pub total : {A : Type 0} → (A → ℕ) → List A → ℕ
total f [] = 0
total f (x ∷ xs) = f x + total f xs

-- h of each number below n, added up
abbrev pub below : (ℕ → ℕ) → ℕ → ℕ
below h zero = 0
below h (suc n) = h n + below h n

module _ {C R : Type 0} where
  -- h of the ticket that the seat has, if it has one
  abbrev pub ticket_weight : (ℕ → ℕ) → Stage C R → ℕ
  ticket_weight h Idle = 0
  ticket_weight h (Waiting x) = h x
  ticket_weight h (InTurn x entries) = h x

  -- h of each lane claimed
  abbrev pub lane_weight : (ℕ → ℕ) → List (Claim C R) → ℕ
  lane_weight h claims = total (λ c. h c.lane) claims

  -- the seat's turn has come
  abbrev pub IsInTurn : Stage C R → Type 0
  IsInTurn Idle = ⊥
  IsInTurn (Waiting x) = ⊥
  IsInTurn (InTurn x entries) = Unit {0}

  -- the calls of each claim are those of its lane among these entries
  abbrev pub Claimed : List (LoggedCall C R) → List (Claim C R) → Type 0
  Claimed entries [] = Unit {0}
  Claimed entries (c ∷ cs) = (c.calls ≡ calls_of c.lane entries) × Claimed entries cs

  -- each entry is of one of so many lanes
  abbrev pub Laned : ℕ → List (LoggedCall C R) → Type 0
  Laned lanes [] = Unit {0}
  Laned lanes (e ∷ es) = (e.lane < lanes) × Laned lanes es

  -- the seat whose turn it is has the number served, and knows the entries
  abbrev pub Knows : ℕ → List (LoggedCall C R) → Stage C R → Type 0
  Knows served entries Idle = Unit {0}
  Knows served entries (Waiting x) = Unit {0}
  Knows served entries (InTurn x known) = (x ≡ served) × (known ≡ entries)

-- the view agrees with the entries so far. Only a seat with a claim has a ticket
pub record Agrees {B C R : Type 0} (start : B) (served : ℕ) (entries : List (LoggedCall C R)) (v : View B C R) : Type 0 where
  pub opened : 0 < length v.claims → v.start ≡ Some start
  pub behind : v.seen ≤ length entries
  pub claimed : Claimed entries v.claims
  pub knows : Knows served entries v.stage
  pub queued : ticket_weight (λ _. 1) v.stage ≤ length v.claims

-- the value has the root that it had at the start, its log has gained just these entries, and its spare room has shrunk by one for each at most
pub record Sound {B C R Root : Type 0} (root : B → Root) (log : B → List (LoggedCall C R)) (spare : B → ℕ) (start : B) (entries : List (LoggedCall C R)) (b : B) : Type 0 where
  pub rooted : root b ≡ root start
  pub logged : log b ≡ log start ++ entries
  pub roomy : spare start ≤ spare b + length entries

-- the slot has a sound value, and it is nobody's turn
pub record IsHome {B C R Root : Type 0} (root : B → Root) (log : B → List (LoggedCall C R)) (spare : B → ℕ) (start : B) (entries : List (LoggedCall C R)) (homes : List (maybe.Option (Option B))) (views : List (View B C R)) : Type 0 where
  pub value : B
  pub lies : homes ≡ some (Some value) ∷ []
  pub sound : Sound root log spare start entries value
  pub nobody : (j : ℕ) (v : View B C R) → get_elem? views j ≡ some v → ¬ IsInTurn v.stage

-- the slot is out, and it is somebody's turn
pub record IsOut {B C R : Type 0} (homes : List (maybe.Option (Option B))) (views : List (View B C R)) : Type 0 where
  pub lies : homes ≡ none ∷ []
  pub who : ℕ
  pub view : View B C R
  pub at : get_elem? views who ≡ some view
  pub turn : IsInTurn view.stage

-- the whole rule, for a lock that was started with this value and so many lanes
pub record Kept {B C R Root : Type 0} (root : B → Root) (log : B → List (LoggedCall C R)) (spare : B → ℕ) (start : B) (lanes : ℕ) (s : State (Option B) (View B C R)) : Type 0 where
  pub drawn : ℕ
  pub served : ℕ
  pub entries : List (LoggedCall C R)
  pub few : lanes ≤ 16
  pub words : s.words ≡ (drawn % 2 ^ 64) ∷ (served % 2 ^ 64) ∷ length entries ∷ []
  pub short : length entries < 2 ^ 63
  pub laned : Laned lanes entries
  -- the tickets out are the numbers from `served` up to `drawn`, each in one view
  pub queue : (h : ℕ → ℕ) → total (λ v. ticket_weight h v.stage) s.views + below h served ≡ below h drawn
  -- each lane is claimed in one view
  pub lanes_out : (h : ℕ → ℕ) → total (λ v. lane_weight h v.claims) s.views ≡ lane_weight h (fresh_claims {C = C} {R = R} 0 lanes)
  pub each_view : (j : ℕ) (v : View B C R) → get_elem? s.views j ≡ some v → Agrees start served entries v
  pub slot : IsHome root log spare start entries s.homes s.views ⊎ IsOut s.homes s.views
