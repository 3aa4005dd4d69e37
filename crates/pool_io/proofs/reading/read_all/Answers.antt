use Rattle.std.proofs.Common.{◌+◌, ◌≤◌, arith, take, length, ◌∙◌}
use Rattle.pool_io.proofs.Common.{Consumes-kept}
use Rattle.std.proofs.lemmas.List.{length-take-le}
use Rattle.pool_io.proofs.Pieces.{Consumes-take}
use Rattle.pool_io.proofs.reading.read_all.Goals as goal

pub returns-in-Err-clause-moved : goal.returns-in-Err-clause-moved
returns-in-Err-clause-moved g c =
    let inv = c.reads.invariant in
    let gone = Consumes-kept (g.S.Source.left c.args.source.now) (g.S.Source.left c.reads.source) (g.S.Source.left c.read_more.new.source)
    (take c.reads.filled c.reads.bytes.items) inv.3 c.in-Err.ensures.came in
    let long : c.reads.filled ≤ length c.reads.bytes.items = omega (arith, inv.0) in (
      c.reads.filled,
      omega (arith, inv.1),
      omega (arith, inv.4, c.in-Err.ensures.counted),
      (take c.reads.filled c.reads.bytes.items, gone, length-take-le c.reads.filled c.reads.bytes.items long),
    )

pub returns-then-filled-limit-clause-moved : goal.returns-then-filled-limit-clause-moved
returns-then-filled-limit-clause-moved g c =
    let inv = c.reads.invariant in
    let same = c.read_more.ensures.kept ∙ c.in_ok-make_room.ensures.kept in
    let gone = Consumes-take (g.S.Source.left c.args.source.now) (g.S.Source.left c.reads.source) (g.S.Source.left c.read_more.new.source) c.reads.filled
    c.in-Ok.count c.reads.bytes.items c.read_more.new.bytes.items inv.3 same c.in-Ok.ensures.came in
    let long : c.reads.filled + c.in-Ok.count ≤ length c.read_more.new.bytes.items = omega (arith, c.in-Ok.ensures.within) in (
      c.reads.filled + c.in-Ok.count,
      omega (arith, c.in-Ok.ensures.within, c.read_more.ensures.len, c.in_ok-make_room.ensures.capped),
      omega
          (arith, inv.4, c.in-Ok.ensures.counted),
      (
        take (c.reads.filled + c.in-Ok.count) c.read_more.new.bytes.items,
        gone,
        length-take-le
            (c.reads.filled + c.in-Ok.count) c.read_more.new.bytes.items long,
      ),
    )

pub reads-preserved : goal.reads-preserved
reads-preserved g c =
    let inv = c.reads.invariant in
    let same = c.read_more.ensures.kept ∙ c.in_ok-make_room.ensures.kept in
    let gone = Consumes-take (g.S.Source.left c.args.source.now) (g.S.Source.left c.reads.source) (g.S.Source.left c.read_more.new.source) c.reads.filled
    c.in-Ok.count c.reads.bytes.items c.read_more.new.bytes.items inv.3 same c.in-Ok.ensures.came in (
      omega (arith, c.in-Ok.ensures.within),
      omega arith,
      omega (arith, c.read_more.ensures.len, c.in_ok-make_room.ensures.capped),
      gone,
      omega
          (arith, inv.4, c.in-Ok.ensures.counted),
      omega (arith, inv.5, c.in-Ok.ensures.never_falls),
    )
