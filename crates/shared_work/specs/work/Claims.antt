-- What holds of the claim word between any two steps. It is the number of numbers drawn.
use Rattle.std.specs.Prelude.{◌≡◌, ℕ, zero, suc, ◌+◌, ◌-◌, ◌^◌, ◌<◌, ◌≤◌, ◌==◌, if◌then◌else◌, nat_lt, List, [], ◌∷◌, ◌++◌, length, sum_by}
use mathlib.Core.Option.{some}
use lib.ListN.{get_elem?}
use Rattle.atomic_table.specs.Table.{State, Me, Step}
use Rattle.shared_work.specs.declared.claims.Drawn.{Drawn}

-- h of each number below n, added up
abbrev pub below : (ℕ → ℕ) → ℕ → ℕ
below h zero = 0
below h (suc n) = h n + below h n

-- 1 at k, and else 0
abbrev pub at : ℕ → ℕ → ℕ
at k n = if n == k then 1 else 0

-- 1 at a number that is no piece, and else 0
abbrev pub past : ℕ → ℕ → ℕ
past pieces n = if nat_lt n pieces then 0 else 1

-- for so many workers, these numbers were drawn
abbrev pub draws : ℕ → List ℕ → Drawn
draws parts numbers = record { parts = parts; numbers = numbers }

-- a new seat stands for one worker, and the old one for the others
abbrev pub others_kept : Drawn → Drawn
others_kept v = draws (v.parts - 1) v.numbers

abbrev pub one_given : Drawn → Drawn
one_given v = draws 1 []

-- two seats together
abbrev pub joined : Drawn → Drawn → Drawn
joined v w = draws (v.parts + w.parts) (v.numbers ++ w.numbers)

-- each worker drew at most one number past the pieces, and who stands for no worker drew none
pub record Agrees (pieces : ℕ) (v : Drawn) : Type 0 where
  pub few_past : sum_by (past pieces) v.numbers ≤ v.parts
  pub idle : v.parts ≡ 0 → v.numbers ≡ []

-- the whole rule, for so many pieces and workers
pub record Kept (pieces workers : ℕ) (s : State (Unit {0}) Drawn) : Type 0 where
  pub drawn : ℕ
  pub words : s.words ≡ drawn ∷ []
  pub small : pieces < 2 ^ 32
  pub few : workers ≤ 64
  -- the numbers drawn are those below the word, each in one view
  pub once : (h : ℕ → ℕ) → sum_by (λ v. sum_by h v.numbers) s.views ≡ below h drawn
  pub whole : sum_by (λ v. v.parts) s.views ≡ workers
  pub each_view : (j : ℕ) (v : Drawn) → get_elem? s.views j ≡ some v → Agrees pieces v

-- a draw tells the number, which is no less than how many the seat drew before
abbrev pub drew : Step (Unit {0}) → Me (Unit {0}) Drawn → ℕ → Me (Unit {0}) Drawn → Type 0
drew st m n m' = (length m.0.numbers ≤ n) × (m' ≡ (draws m.0.parts (m.0.numbers ++ n ∷ []), m.1))
