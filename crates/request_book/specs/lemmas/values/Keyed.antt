use Rattle.std.specs.Prelude.{ℕ, ◌==◌, List, filter, not}

-- the elements of other keys
unfoldable pub without : {X : Type 0} → (X → ℕ) → ℕ → List X → List X
without key k xs = filter (λ x. not (key x == k)) xs
