use Rattle.std.proofs.Common.{◌≡◌, ◌≤◌, false, length, map, take, Bool, List}
use Rattle.ridepool.proofs.Common.{position_after_run, Settings, notifier_seen, Roads, DayRound, journals_of, HoldsRounds, HasPut}
use Rattle.ridepool.proofs.held_day.write_held.Given as goal

abbrev pub invariant-loop-round : goal.invariant-loop-round
invariant-loop-round g l = record {
  put : (settings : Settings) (roads : Roads) (told : Bool) (made : List DayRound) → HoldsRounds settings roads told made l.rounds →
      (told ≡ false → length l.initial.notifiers.items ≡ 0)
      → HasPut settings roads (take l.round-index made) (g.K.Sink.written l.initial.out) (g.K.Sink.written l.out)
      (map (λ n. notifier_seen (goal.Notifier-dyn g (n.vtable, n.value)) n.value) l.initial.notifiers.items)
      (map (λ n. notifier_seen (goal.Notifier-dyn g (n.vtable, n.value)) n.value) l.notifiers.items)
      × (l.position ≡ position_after_run 0 (journals_of (take l.round-index made)));
  fewer : length l.notifiers.items ≤ length l.initial.notifiers.items;
  up : g.K.Sink.faults l.initial.out ≤ g.K.Sink.faults l.out;
}
