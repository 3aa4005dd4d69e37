use Rattle.std.specs.Prelude.{ℕ, List, [], ◌∷◌}
use Rattle.request_book.specs.values.Keyed.{changed_at}

-- the elements, with a change of each of these keys in turn
unfoldable pub changed_in_turn : {X : Type 0} → (X → ℕ) → (X → X) → List ℕ → List X → List X
changed_in_turn key change [] xs = xs
changed_in_turn key change (k ∷ ks) xs = changed_in_turn key change ks (changed_at key k change xs)
