use Rattle.std.proofs.Common.{ℕ, ◌+◌, ◌/◌, ◌%◌, length, slice_index, subst, arith}
use Rattle.travel_times.proofs.Common.{IsTimeBetween}
use Rattle.travel_times.proofs.labels.label_ways.write_table.Goals as goal

pub par_chunks_mut_for_each-requires-clause-accepts : goal.par_chunks_mut_for_each-requires-clause-accepts
par_chunks_mut_for_each-requires-clause-accepts g c κs within = λ start p is.
    (c.requires.known, c.requires.few, omega (arith, is.in_bounds, c.requires.size))

pub returns : goal.returns
returns g c = λ roads of k lt.
    let n : ℕ = length c.args.points.now in
    let points = c.args.points.now in
    let new = c.par_chunks_mut_for_each.new.s in
    let at = (c.par_chunks_mut_for_each.ensures.by_index k 0 (omega (arith, lt, c.par_chunks_mut_for_each.auto.s))).1 in
    let time = at.call.1 roads of at.offset (omega (arith, at.offset_in_chunk, at.call.0)) in
    subst (λ x. IsTimeBetween roads.arcs (slice_index points ((0 + k) / n)) (slice_index points ((0 + k) % n)) x) at.new_element
    (subst (λ x. IsTimeBetween roads.arcs (slice_index points (x / n)) (slice_index points (x % n)) (slice_index at.after_call.now at.offset))
    (let e = at.start_plus_offset in omega (arith, e)) time)
