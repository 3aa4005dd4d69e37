use Rattle.std.proofs.Common.{◌≡◌, ℕ, ◌<◌, ◌-◌, [], vec_len, vec_capacity, slice_index_or}
use Rattle.seat_lock.proofs.Common.{lanes_view, new_pass}
use Rattle.seat_lock.proofs.hand_out.hand_out.Given as goal

abbrev pub invariant-loop-lane : goal.invariant-loop-lane
invariant-loop-lane g l = record {
  own : l.first.table_id ≡ l.queue.shared.table_id;
  view : l.first.me ≡ (lanes_view l.queue.shared.key.opening.value l.lane (l.lanes - l.lane), []);
  len : vec_len l.passes ≡ l.lane;
  room : vec_capacity l.passes ≡ l.lanes;
  each : (k : ℕ) (d : _) → k < l.lane → slice_index_or l.passes.items k d ≡ new_pass l.queue.shared.table_id l.queue.shared.key.opening.value k;
}
