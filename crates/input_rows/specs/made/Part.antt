use Rattle.std.specs.Prelude.{ℕ, zero, suc, ◌%◌, List, [], ◌++◌}
use Rattle.rand_core.specs.Stream.{Stream, next_u64}
use Rattle.input_rows.specs.declared.made.row.Field.{Field}

-- a number below n, which is the next 64-bit output's remainder, and the draws that are left
unfoldable pub draw : ℕ → Stream → ℕ × Stream
draw n s = ((next_u64 s).0 % n, (next_u64 s).1)

-- rows, and the draws that they leave
abbrev pub Part : Type 0
Part = Stream → List (List Field) × Stream

-- rows without a draw
abbrev pub plain : List (List Field) → Part
plain rows s = (rows, s)

-- one part behind another
abbrev pub both : Part → Part → Part
both first second s =
    let here = first s in
    let rest = second here.1 in
    (here.0 ++ rest.0, rest.1)

-- the parts of the numbers below a count, one behind another
abbrev pub each : (ℕ → Part) → ℕ → Part
each parts zero s = ([], s)
each parts (suc n) s =
    let before = each parts n s in
    let here = parts n before.1 in
    (before.0 ++ here.0, here.1)
