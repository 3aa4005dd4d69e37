use Rattle.std.proofs.Common.{◌≡◌, ◌-◌, [], All, vec_len, vec_capacity}
use Rattle.shared_work.specs.work.Claims.{draws}
use Rattle.shared_work.specs.work.Workers.{IsReady}
use Rattle.shared_work.proofs.crew.hire.Given as goal

abbrev pub invariant-loop : goal.invariant-loop
invariant-loop g l = record {
  own : l.first.table_id ≡ l.claims.shared.table_id;
  parts : l.first.me ≡ (draws (l.workers - l.counter) [], []);
  len : vec_len l.crew ≡ l.counter;
  room : vec_capacity l.crew ≡ l.workers;
  ready : All (IsReady l.claims.shared.table_id) l.crew.items;
}
