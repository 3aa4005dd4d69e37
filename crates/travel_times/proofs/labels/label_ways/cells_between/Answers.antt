use Rattle.std.proofs.Common.{◌≡◌, ◌++◌, length, take, drop, sym, subst, arith, ℕ, ◌*◌, ap}
use Rattle.travel_times.proofs.Common.{AreCells, take_at, length-replicate, never}
use Rattle.travel_times.proofs.labels.label_ways.cells_between.Goals as goal

pub returns-clause-times : goal.returns-clause-times
returns-clause-times g c = λ roads of.
    let new = c.write_table.new.cells in
    let items = c.in_ok-cells.cells.items in
    let held = c.in_ok-cells.cells.ok.0 in
    let size = c.write_table.auto.cells in
    let same : take c.in_ok-cells.cells.len (new ++ drop (length new) items) ≡ new = take_at new (drop (length new) items) c.in_ok-cells.cells.len
    (omega arith) in
    subst (λ xs. AreCells roads.arcs c.args.points.now 0 xs) (sym same) (c.write_table.ensures roads of)

pub returns-clause-size : goal.returns-clause-size
returns-clause-size g c =
    let new = c.write_table.new.cells in
    let items = c.in_ok-cells.cells.items in
    let n = length c.args.points.now in
    let held = c.in_ok-cells.cells.ok.0 in
    let size = c.write_table.auto.cells in
    let same : take c.in_ok-cells.cells.len (new ++ drop (length new) items) ≡ new = take_at new (drop (length new) items) c.in_ok-cells.cells.len
    (omega arith) in
    omega (arith, ap length same, size, ap length c.in_ok-cells.ensures, length-replicate {A = ℕ} (n * n) never)
