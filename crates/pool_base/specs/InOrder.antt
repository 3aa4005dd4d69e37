use Rattle.std.specs.Prelude.{ℕ, zero, suc, Bool, true, false, List, [], ◌∷◌, ◌++◌, Option, None, Result, Ok, Err}
use Rattle.std.specs.Option.{option_or}

-- what comes next, unless there is a refusal
infixl 10 ◌>>=◌
abbrev pub ◌>>=◌ : {A B F : Type 0} → Result A F → (A → Result B F) → Result B F
(Ok x) >>= next = next x
(Err fault) >>= next = Err fault

-- a refusal where a test holds
abbrev pub refused_where : {F : Type 0} → Bool → F → Result (Unit {0}) F
refused_where true fault = Err fault
refused_where false fault = Ok tt

-- what the first so many places give, in their order, or the first refusal among them
abbrev pub all_or_first : {A F : Type 0} → (ℕ → Result A F) → ℕ → Result (List A) F
all_or_first at zero = Ok []
all_or_first at (suc place) = do
  earlier ← all_or_first at place
  here ← at place
  Ok (earlier ++ here ∷ [])

-- the first fault among the first so many places, if one of them has a fault
abbrev pub first_fault : {F : Type 0} → (ℕ → Option F) → ℕ → Option F
first_fault at zero = None
first_fault at (suc place) = option_or (first_fault at place) (at place)
