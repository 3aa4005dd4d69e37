use Rattle.std.specs.Prelude.{◌≡◌, ◌≢◌, ℕ, ◌+◌, ◌*◌, ◌<◌, List, length}
use Rattle.pool_base.specs.TravelTime.{never, longest, cell_of}
use Rattle.pool_base.specs.declared.times.TimesFault.{TimesFault}
use Rattle.pool_base.specs.declared.times.TimesFault.TheVariants.{Size, TooLong, Diagonal, Triangle}

-- the place is the first below n where the fact holds
pub record IsFirst (n : ℕ) (P : ℕ → Type 0) (a : ℕ) : Type 0 where
  pub within : a < n
  pub holds : P a
  pub before : (i : ℕ) → i < a → P i → ⊥

-- the first pair of places where the fact holds, by its first place, then by its second
pub record IsFirstPair (n : ℕ) (P : ℕ → ℕ → Type 0) (a b : ℕ) : Type 0 where
  pub first : IsFirst n (λ i. (j : ℕ) × (j < n) × P i j) a
  pub second : IsFirst n (P a) b

-- the first three places where the fact holds, by the first, then by the second, then by the third
pub record IsFirstTriple (n : ℕ) (P : ℕ → ℕ → ℕ → Type 0) (a b c : ℕ) : Type 0 where
  pub first : IsFirst n (λ i. (j : ℕ) × (k : ℕ) × (j < n) × (k < n) × P i j k) a
  pub others : IsFirstPair n (P a) b c

-- the cell is above the longest travel time, and isn't `never`
abbrev pub IsTooLong : ℕ → List ℕ → ℕ → ℕ → Type 0
IsTooLong n cells a b = (longest < cell_of n cells a b) × (cell_of n cells a b < never)

-- the way from the place to itself takes time
abbrev pub IsOffZero : ℕ → List ℕ → ℕ → Type 0
IsOffZero n cells a = cell_of n cells a a ≢ 0

-- the way from a to c takes longer than the detour over b
abbrev pub IsDetourShorter : ℕ → List ℕ → ℕ → ℕ → ℕ → Type 0
IsDetourShorter n cells a b c = cell_of n cells a b + cell_of n cells b c < cell_of n cells a c

-- no cell is too long
abbrev pub NoneTooLong : ℕ → List ℕ → Type 0
NoneTooLong n cells = (a b : ℕ) → a < n → b < n → IsTooLong n cells a b → ⊥

-- no place takes time to itself
abbrev pub NoneOffZero : ℕ → List ℕ → Type 0
NoneOffZero n cells = (a : ℕ) → a < n → IsOffZero n cells a → ⊥

-- what is wrong first with cells that are no table: their number, then a cell that is too long, then the
-- diagonal, then a detour that is shorter, each over the whole table at its first place
abbrev pub IsFirstFault : ℕ → List ℕ → TimesFault → Type 0
IsFirstFault n cells Size = length cells ≢ n * n
IsFirstFault n cells (TooLong a b) = (length cells ≡ n * n) × IsFirstPair n (IsTooLong n cells) a b
IsFirstFault n cells (Diagonal a) = (length cells ≡ n * n) × NoneTooLong n cells × IsFirst n (IsOffZero n cells) a
IsFirstFault n cells (Triangle a b c) =
    (length cells ≡ n * n) × NoneTooLong n cells × NoneOffZero n cells × IsFirstTriple n (IsDetourShorter n cells) a b c
