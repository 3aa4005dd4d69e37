use Rattle.std.specs.Prelude.{ℕ, ◌==◌, not, List, [], ◌∷◌}
use Rattle.std.specs.List.{filter}

-- numbers, each once, in the order in which they first come
abbrev pub distinct : List ℕ → List ℕ
distinct [] = []
distinct (n ∷ ns) = n ∷ filter (λ m. not (m == n)) (distinct ns)
