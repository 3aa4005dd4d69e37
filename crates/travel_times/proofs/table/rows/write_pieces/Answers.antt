use Rattle.std.proofs.Common.{◌*◌, length, subst, arith}
use Rattle.travel_times.proofs.Common.{slice_chunk, IsPieceWritten}
use Rattle.travel_times.proofs.table.Pieces.{piece_of_chunk, written_of_chunks}
use Rattle.travel_times.proofs.table.rows.write_pieces.Goals as goal

pub par_chunks_mut_for_each-requires-clause-accepts : goal.par_chunks_mut_for_each-requires-clause-accepts
par_chunks_mut_for_each-requires-clause-accepts g c κs within = λ start p is.
    let some = c.requires.rows in
    let most = c.requires.most in (
      c.requires.known,
      c.requires.few,
      omega arith,
      piece_of_chunk (length c.args.points.now) c.args.rows start c.args.cells.now p.now c.requires.rows
          (omega arith) c.requires.size c.requires.unwritten is,
    )

pub returns : goal.returns
returns g c =
    let some = c.requires.rows in
    let most = c.requires.most in
    let points = c.args.points.now in
    let before = c.args.cells.now in
    let after = c.par_chunks_mut_for_each.new.s in
    let size = c.args.rows * length points in
    let keeps = c.par_chunks_mut_for_each.auto.s in
    written_of_chunks c.args.arcs.now.network.now.arcs points c.args.rows before after c.requires.rows (omega arith) c.requires.size (omega arith) (λ p lt.
    let at = c.par_chunks_mut_for_each.ensures.chunks p lt in
    subst (λ x. IsPieceWritten c.args.arcs.now.network.now.arcs points (p * size) x (slice_chunk after size p)) at.argument_is
    (subst (λ y. IsPieceWritten c.args.arcs.now.network.now.arcs points (p * size) at.argument.now y) at.left at.call))
