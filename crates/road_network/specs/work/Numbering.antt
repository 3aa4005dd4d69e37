use Rattle.std.specs.Prelude.{ℕ, List}
use Rattle.pool_base.specs.Numbering.{with_name}
use Rattle.pool_base.specs.Numeral.{number_at}

-- the nodes named so far, and those of a row that are new, `from` before `to`
abbrev pub with_row : List ℕ → List (List ℕ) → List ℕ
with_row nodes fields = with_name (with_name nodes (number_at fields 0)) (number_at fields 1)
