-- Lists whose elements have a number as their key.
use Rattle.std.specs.Prelude.{◌≡◌, ℕ, ◌==◌, ◌<◌, List, [], ◌∷◌, Option, None, find, map, nat_lt, if◌then◌else◌}

module _ {X : Type 0} (key : X → ℕ) where
  -- the first element of this key
  unfoldable pub look_up : ℕ → List X → Option X
  look_up k xs = find (λ x. key x == k) xs

  -- the elements, with a change of those of this key
  unfoldable pub changed_at : ℕ → (X → X) → List X → List X
  changed_at k change xs = map (λ x. if key x == k then change x else x) xs

  -- every key is above this one
  unfoldable pub AllAbove : ℕ → List X → Type 0
  AllAbove k [] = Unit {0}
  AllAbove k (x ∷ xs) = (k < key x) × AllAbove k xs

  -- the keys rise strictly
  unfoldable pub KeysRise : List X → Type 0
  KeysRise [] = Unit {0}
  KeysRise (x ∷ xs) = AllAbove (key x) xs × KeysRise xs

  -- no key stands twice
  unfoldable pub KeysDiffer : List X → Type 0
  KeysDiffer [] = Unit {0}
  KeysDiffer (x ∷ xs) = (look_up (key x) xs ≡ None) × KeysDiffer xs

  -- the element put in before the first of a greater key
  unfoldable pub placed : X → List X → List X
  placed x [] = x ∷ []
  placed x (y ∷ ys) = if nat_lt (key x) (key y) then x ∷ y ∷ ys else y ∷ placed x ys

  -- the elements by rising key
  unfoldable pub by_key : List X → List X
  by_key [] = []
  by_key (x ∷ xs) = placed x (by_key xs)
