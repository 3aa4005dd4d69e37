-- What reading a text gives.
use Rattle.std.specs.Prelude.{List, ℕ, ◌++◌, ◌≡◌, ◌≢◌, Bool, true, not, [], ◌∷◌, Option, None, Some}
use Rattle.std.specs.Char.{is_ascii_digit}

-- the texts of a pair, one behind the other
abbrev pub both_texts : {X Y : Type 0} → (X → List ℕ) → (Y → List ℕ) → X × Y → List ℕ
both_texts first second p = first p.0 ++ second p.1

-- each of a pair is lawful
abbrev pub BothAre : {X Y : Type 0} → (X → Type 0) → (Y → Type 0) → X × Y → Type 0
BothAre First Second p = First p.0 × Second p.1

-- a number may end before this: no digit follows
abbrev pub ends_number : List ℕ → Bool
ends_number [] = true
ends_number (c ∷ cs) = not (is_ascii_digit c)

-- the text begins with that of a thing, and no number goes on behind it
pub record BeginsWith {X : Type 0} (text_of : X → List ℕ) (Is : X → Type 0) (text : List ℕ) (x : X) (rest : List ℕ) : Type 0 where
  pub whole : text ≡ text_of x ++ rest
  pub lawful : Is x
  pub ends : ends_number rest ≡ true

-- the text begins with that of no such thing
abbrev pub BeginsWithNone : {X : Type 0} → (X → List ℕ) → (X → Type 0) → List ℕ → Type 0
BeginsWithNone {X} text_of Is text = (x : X) (rest : List ℕ) → BeginsWith text_of Is text x rest → ⊥

-- what a line is read as: the thing whose text it is, or nothing where it is the text of no such thing
abbrev pub IsReadAs : {X : Type 0} → (X → List ℕ) → (X → Type 0) → List ℕ → Option X → Type 0
IsReadAs {X} text_of Is line None = (x : X) → Is x → line ≢ text_of x
IsReadAs text_of Is line (Some x) = Is x × (line ≡ text_of x)
