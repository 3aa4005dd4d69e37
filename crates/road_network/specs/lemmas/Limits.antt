use Rattle.std.specs.Prelude.{ℕ}

-- the numbers of the definitions and contracts, as proofs call them
abbrev pub most_nodes : ℕ
most_nodes = 100000

abbrev pub most_arcs : ℕ
most_arcs = 400000

abbrev pub longest_arc : ℕ
longest_arc = 10000

abbrev pub greatest_name : ℕ
greatest_name = 1000000000
