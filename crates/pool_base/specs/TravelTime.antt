use Rattle.std.specs.Prelude.{◌≡◌, ℕ, ◌+◌, ◌*◌, ◌<◌, ◌≤◌, ◌&&◌, List, length, slice_index_or, nat_lt, if◌then◌else◌}

-- what stands for "cannot be reached": it is above every travel time
abbrev pub never : ℕ
never = 4294967295

-- the longest travel time, in seconds
abbrev pub longest : ℕ
longest = 1000000000

-- the cell of row a and column b of a square table, and `never` outside it
unfoldable pub cell_of : ℕ → List ℕ → ℕ → ℕ → ℕ
cell_of n cells a b = if nat_lt a n && nat_lt b n then slice_index_or cells (a * n + b) never else never

-- seconds between places that behave like shortest times; places from `points` on are out of reach
pub record IsTravelTime (points : ℕ) (tau : ℕ → ℕ → ℕ) : Type 0 where
  -- a place is at itself at once
  pub diagonal : (a : ℕ) → a < points → tau a a ≡ 0
  -- no detour is shorter
  pub triangle : (a b c : ℕ) → tau a c ≤ tau a b + tau b c
  -- a travel time is at most the longest one, or `never`
  pub range : (a b : ℕ) → tau a b < never → tau a b ≤ longest
  pub most : (a b : ℕ) → tau a b ≤ never
  pub from_outside : (a b : ℕ) → points ≤ a → tau a b ≡ never
  pub to_outside : (a b : ℕ) → points ≤ b → tau a b ≡ never

-- the cells, row by row, are a table of travel times between so many places
pub record IsTable (points : ℕ) (cells : List ℕ) : Type 0 where
  pub square : length cells ≡ points * points
  pub times : IsTravelTime points (cell_of points cells)
