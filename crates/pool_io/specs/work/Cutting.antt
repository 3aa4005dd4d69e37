use Rattle.std.specs.Prelude.{◌≡◌, ◌≤◌, ℕ, zero, suc, List, [], ◌∷◌, take, drop, slice_index, slice_range}

-- a flat list of fields, cut into so many records of so many fields
abbrev pub cut_rows : ℕ → ℕ → List (List ℕ) → List (List (List ℕ))
cut_rows zero columns fields = []
cut_rows (suc count) columns fields = take columns fields ∷ cut_rows count columns (drop columns fields)

-- the fields that lie one behind the other from a place on, each up to its end
abbrev pub cut_fields : ℕ → List ℕ → List ℕ → List (List ℕ)
cut_fields start [] bytes = []
cut_fields start (end ∷ ends) bytes = slice_range bytes start end ∷ cut_fields end ends bytes

-- the ends rise from a place on, and the last of them is the end of all
abbrev pub AreEnds : ℕ → List ℕ → ℕ → Type 0
AreEnds start [] all = start ≡ all
AreEnds start (end ∷ ends) all = (start ≤ end) × AreEnds end ends all

-- where the field at a place begins
abbrev pub start_at : ℕ → List ℕ → ℕ → ℕ
start_at start ends zero = start
start_at start ends (suc place) = slice_index ends place
