use Rattle.std.proofs.Common.{◌+◌, ◌*◌, ◌<◌, ℕ, All, length, slice_index, sym, subst}
use Rattle.std.proofs.lemmas.List.{length-map}
use Rattle.road_network.specs.Walk.{IsTimeBetween}
use Rattle.road_hierarchy.proofs.table.ways.table_by.Goals as goal

pub cells_between-requires-clause-known : goal.cells_between-requires-clause-known
cells_between-requires-clause-known g c κs within = subst (λ n. All (λ point. point < n) c.deref.result.now) (sym c.requires.count)
    (rw c.deref.ensures.value c.in_ok-points.ensures.within)

pub cells_between-requires-clause-few : goal.cells_between-requires-clause-few
cells_between-requires-clause-few g c κs within = rw (c.deref.ensures.value, c.in_ok-points.ensures.indexes, length-map) c.requires.few

pub table_of_times-requires-clause-known : goal.table_of_times-requires-clause-known
table_of_times-requires-clause-known g c = rw c.deref-2.ensures.value c.in_ok-points.ensures.within

pub table_of_times-requires-clause-size : goal.table_of_times-requires-clause-size
table_of_times-requires-clause-size g c = rw c.deref-2.ensures.value (rw c.deref.ensures.value at c.in_ok-cells.ensures.size)

pub table_of_times-requires-clause-times : goal.table_of_times-requires-clause-times
table_of_times-requires-clause-times g c = rw c.deref-2.ensures.value (λ i j hi hj.
    let n : ℕ = length c.in_ok-points.points.items in
    let read : (i j : ℕ) → i < length c.in_ok-points.points.items → j < length c.in_ok-points.points.items
    → IsTimeBetween c.args.hierarchy.now.arcs (slice_index c.in_ok-points.points.items i) (slice_index c.in_ok-points.points.items j)
    (slice_index c.in_ok-cells.cells.items (i * length c.in_ok-points.points.items + j)) =
    rw c.deref.ensures.value at c.in_ok-cells.ensures.times in
    c.requires.times (slice_index c.in_ok-points.points.items i) (slice_index c.in_ok-points.points.items j)
    (slice_index c.in_ok-cells.cells.items (i * n + j)) (read i j hi hj))

pub returns : goal.returns
returns g c = rw (c.deref-2.ensures.value, c.in_ok-points.ensures.indexes) at c.table_of_times.ensures
