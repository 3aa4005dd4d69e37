use Rattle.std.proofs.Common.{◌≡◌, [], replicate, vec_len, vec_capacity}
use Rattle.input_rows.proofs.script.round.Round.new.Given as goal

abbrev pub invariant-loop : goal.invariant-loop
invariant-loop l = record { items : l.lanes.items ≡ replicate l.counter []; len : vec_len l.lanes ≡ l.counter; room : vec_capacity l.lanes ≡ 16 }
