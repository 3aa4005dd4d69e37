use Rattle.std.proofs.Common.{Err, ap, arith}
use Rattle.ridepool.proofs.WriteLemmas.{written_none, written_next, written_whole, round_fault, run_written, run_lacks_end}
use Rattle.ridepool.proofs.writing.write_each.Goals as goal

pub loop-round-init : goal.loop-round-init
loop-round-init g c = (
  written_none c.args.solver.now.settings.now c.args.solver.now.network.now c.args.book (g.K.Sink.written c.args.out.now) _
      c.requires.empty c.requires.ready,
  omega arith,
)

pub loop-round-preserved : goal.loop-round-preserved
loop-round-preserved g c = (
  written_next c.args.solver.now.settings.now c.args.solver.now.network.now c.args.book c.loop-round.current c.in-Ok.next c.args.rounds.now
      c.loop-round.round-index c.round-item.result (g.K.Sink.written c.args.out.now)
      (g.K.Sink.written c.loop-round.out) (g.K.Sink.written c.write_next.new.out) _ _ _ (omega arith) c.round-item.is c.loop-round.invariant.0
      c.in-Ok.ensures.round,
  omega (arith, c.loop-round.invariant.1, c.write_next.ensures.never_falls),
)

pub returns-in-Err-clause-rounds : goal.returns-in-Err-clause-rounds
returns-in-Err-clause-rounds g c =
    round_fault c.args.solver.now.settings.now c.args.solver.now.network.now c.args.book c.loop-round.current c.args.rounds.now c.loop-round.round-index
    c.round-item.result (g.K.Sink.written c.args.out.now)
    (g.K.Sink.written c.loop-round.out) (g.K.Sink.written c.write_next.new.out) _ _ _ (g.K.Sink.faults c.args.out.now) (g.K.Sink.faults c.loop-round.out)
    (g.K.Sink.faults c.write_next.new.out) c.in-Err.status
    (omega arith) c.round-item.is c.loop-round.invariant.1 c.loop-round.invariant.0 c.in-Err.ensures.round

pub returns-in-Err-clause-never_falls : goal.returns-in-Err-clause-never_falls
returns-in-Err-clause-never_falls g c = omega (arith, c.loop-round.invariant.1, c.write_next.ensures.never_falls)

pub returns-in-Ok-write_end-clause-rounds : goal.returns-in-Ok-write_end-clause-rounds
returns-in-Ok-write_end-clause-rounds g c =
    let settings = c.args.solver.now.settings.now in
    let roads = c.args.solver.now.network.now in
    let before = g.K.Sink.written c.args.out.now in
    let behind = g.K.Sink.written c.loop-round.out in
    run_written settings roads c.args.book c.loop-round.current c.args.rounds.now before behind (g.K.Sink.written c.write_end.new.sink) _ _
    c.next_position-position.result
    (written_whole settings roads c.args.book c.loop-round.current c.args.rounds.now c.loop-round.round-index before behind _ _ (omega arith)
    c.loop-round.invariant.0)
    c.next_position-position.ensures c.in-Ok-write_end.ensures.bytes

pub returns-in-Ok-write_end-clause-never_falls : goal.returns-in-Ok-write_end-clause-never_falls
returns-in-Ok-write_end-clause-never_falls g c = omega (arith, c.loop-round.invariant.1, c.write_end.ensures.never_falls)

pub returns-in-Err-write_end-clause-rounds : goal.returns-in-Err-write_end-clause-rounds
returns-in-Err-write_end-clause-rounds g c =
    let settings = c.args.solver.now.settings.now in
    let roads = c.args.solver.now.network.now in
    let before = g.K.Sink.written c.args.out.now in
    let behind = g.K.Sink.written c.loop-round.out in
    run_lacks_end settings roads c.args.book c.loop-round.current c.args.rounds.now before behind (g.K.Sink.written c.write_end.new.sink) _ _
    c.next_position-position.result
    (g.K.Sink.faults c.args.out.now) (g.K.Sink.faults c.loop-round.out) (g.K.Sink.faults c.write_end.new.sink) c.in-Err-write_end.fault c.status_of.result
    c.status_of.ensures
    (written_whole settings roads c.args.book c.loop-round.current c.args.rounds.now c.loop-round.round-index before behind _ _ (omega arith)
    c.loop-round.invariant.0)
    c.next_position-position.ensures c.in-Err-write_end.ensures.bytes c.loop-round.invariant.1 (λ is. c.in-Err-write_end.ensures.fault (ap Err is))

pub returns-in-Err-write_end-clause-never_falls : goal.returns-in-Err-write_end-clause-never_falls
returns-in-Err-write_end-clause-never_falls g c = omega (arith, c.loop-round.invariant.1, c.write_end.ensures.never_falls)
