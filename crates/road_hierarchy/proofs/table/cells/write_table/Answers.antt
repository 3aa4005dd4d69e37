use Rattle.std.proofs.Common.{length, get_or, arith}
use Rattle.road_hierarchy.proofs.table.Writing.{cell_of_piece, piece_of_chunk}
use Rattle.road_hierarchy.proofs.table.cells.write_table.Goals as goal

pub par_chunks_mut_for_each-requires-clause-accepts : goal.par_chunks_mut_for_each-requires-clause-accepts
par_chunks_mut_for_each-requires-clause-accepts g c κs within = λ start p is. (
  c.requires.few,
  c.requires.turned,
  piece_of_chunk (length c.args.points.now) c.args.rows start c.args.cells.now p.now c.requires.some c.requires.size
      c.requires.fresh is,
)

pub returns-clause-times : goal.returns-clause-times
returns-clause-times g c = λ roads part k lt.
    let at = (c.par_chunks_mut_for_each.ensures.by_index k 0 (omega (arith, lt, c.par_chunks_mut_for_each.auto.s))).1 in
    cell_of_piece roads c.args.points.now at.start at.offset k (get_or at.after_call.now at.offset 0)
    (get_or c.par_chunks_mut_for_each.new.s k 0) at.start_plus_offset at.new_element
    (at.call.1 roads part at.offset (omega (arith, at.offset_in_chunk, at.call.0)))
