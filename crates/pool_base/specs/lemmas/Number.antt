use Rattle.std.specs.Prelude.{ℕ, ◌+◌, ◌-◌, ◌*◌, List, fold}

-- the value of the digits so far, followed by these
abbrev pub value_after : ℕ → List ℕ → ℕ
value_after n text = fold (λ m c. m * 10 + (c - 48)) n text
