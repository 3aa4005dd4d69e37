use Rattle.std.proofs.Common.{◌<◌, length, ◌∙◌, arith}
use Rattle.route_drive.proofs.Common.{first_fault-some, first_fault-none, fault_at}
use Rattle.route_drive.proofs.DayLemmas.{fault_here, latest-more}
use Rattle.route_drive.proofs.day.is_day.Goals as goal

pub loop-round-preserved : goal.loop-round-preserved
loop-round-preserved c =
    let rounds = c.rounds-round-items.result.now in
    let i = c.loop-round.round-index in
    let within : c.loop-round.round-index < length c.rounds-round-items.result.now = omega arith in
    let here = fault_here rounds i c.loop-round.latest c.round-item.result within c.round-item.is c.loop-round.invariant.latest in
    record {
      none = first_fault-none (fault_at rounds) i c.loop-round.invariant.none (here ∙ c.in-Ok.ensures.0);
      latest = c.in-Ok.ensures.1 ∙ latest-more rounds i c.loop-round.latest c.round-item.result within c.round-item.is c.loop-round.invariant.latest;
    }

pub returns-in-Err : goal.returns-in-Err
returns-in-Err c =
    let rounds = c.rounds-round-items.result.now in
    let i = c.loop-round.round-index in
    let within : c.loop-round.round-index < length c.rounds-round-items.result.now = omega arith in
    let here = fault_here rounds i c.loop-round.latest c.round-item.result within c.round-item.is c.loop-round.invariant.latest in
    rw (← c.rounds-round-items.ensures.rounds) (first_fault-some (fault_at rounds) (length rounds) i c.in-Err.fault within c.loop-round.invariant.none
    (here ∙ c.in-Err.ensures))
