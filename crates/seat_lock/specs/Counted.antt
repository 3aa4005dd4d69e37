-- The log of a counter.
use Rattle.std.specs.Prelude.{ℕ}
use Rattle.seat_lock.specs.declared.counter.Addition.{Addition}
use Rattle.seat_lock.specs.declared.logged.LoggedCall.{LoggedCall}

-- what was added, by whom, and the count after it
abbrev pub counted_entry : Addition → LoggedCall ℕ ℕ
counted_entry a = record { lane = a.lane; call = a.amount; reply = a.count }
