use Rattle.std.proofs.Common.{arith}
use Rattle.pool_io.proofs.Common.{take_rest}
use Rattle.pool_io.proofs.Pieces.{Appends-take}
use Rattle.pool_io.proofs.writing.write_all.Goals as goal

pub writes-preserved : goal.writes-preserved
writes-preserved g c =
    let inv = c.writes.invariant in (
      omega (arith, c.in-Ok.ensures.within),
      Appends-take (g.K.Sink.written c.args.sink.now) (g.K.Sink.written c.writes.sink) (g.K.Sink.written c.write.new.self)
          c.writes.done c.in-Ok.count c.args.bytes.now inv.1 (rw take_rest at c.in-Ok.ensures.bytes),
      omega (arith, c.in-Ok.ensures.never_falls, inv.2),
    )
