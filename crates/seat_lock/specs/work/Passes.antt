-- Passes as they are handed out and taken back.
use Rattle.std.specs.Prelude.{◌≡◌, ℕ, List, [], ◌++◌, map, All, Option, Some}
use Rattle.atomic_table.specs.Seated.{TableId}
use Rattle.atomic_table.specs.Table.{Me}
use Rattle.seat_lock.specs.declared.logged.LoggedCall.{LoggedCall}
use Rattle.seat_lock.specs.declared.view.View.{View}
use Rattle.seat_lock.specs.declared.view.Claim.{Claim}
use Rattle.seat_lock.specs.declared.view.Stage.TheVariants.{Idle}
use Rattle.seat_lock.specs.Values.{PassValue}
use Rattle.seat_lock.specs.work.Views.{claim}
use Rattle.seat_lock.specs.work.Rule.{Claimed, Laned}

module _ {B C R : Type 0} where
  -- a pass that has made no call
  abbrev pub new_pass : TableId → B → ℕ → PassValue B C R
  new_pass table start lane = record { table = table; start = Some start; lane = lane; calls = []; seen = 0 }

  -- the passes are of this table
  abbrev pub AreReturned : TableId → List (PassValue B C R) → Type 0
  AreReturned table passes = All (λ p. p.table ≡ table) passes

  -- what the pass claims
  abbrev pub claim_of : PassValue B C R → Claim C R
  claim_of p = claim p.lane p.calls

  -- the seat rests, and its claims are those of the passes
  pub record HasAll (passes : List (PassValue B C R)) (m : Me (Option B) (View B C R)) : Type 0 where
    pub idle : m.0.stage ≡ Idle
    pub claims : m.0.claims ≡ map claim_of passes
    pub empty_handed : m.1 ≡ []

-- the log of b has gained just the claimed calls since the start, of so many lanes, and its root is as it was
pub record IsClosed {B C R Root : Type 0} (root : B → Root) (log : B → List (LoggedCall C R)) (start : B) (lanes : ℕ) (claims : List (Claim C R)) (b : B) : Type 0 where
  pub entries : List (LoggedCall C R)
  pub rooted : root b ≡ root start
  pub logged : log b ≡ log start ++ entries
  pub claimed : Claimed entries claims
  pub laned : Laned lanes entries
