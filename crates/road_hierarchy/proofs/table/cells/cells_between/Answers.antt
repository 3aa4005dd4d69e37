use Rattle.std.proofs.Common.{◌≡◌, ◌≢◌, ◌+◌, ◌*◌, ◌<◌, ◌++◌, ℕ, All, length, slice_index, take, drop, refl, sym, ap, ◌∙◌, subst, arith}
use Rattle.std.proofs.lemmas.List.{length-replicate, take_at}
use Rattle.std.proofs.lemmas.List.Elements.{All-replicate}
use Rattle.road_network.specs.Walk.{IsTimeBetween}
use Rattle.road_hierarchy.specs.work.table.Part.{unwritten}
use Rattle.road_hierarchy.proofs.table.Writing.{cell_of_table}
use Rattle.road_hierarchy.proofs.table.cells.cells_between.Goals as goal

pub write_table-requires-clause-size : goal.write_table-requires-clause-size
write_table-requires-clause-size g c κs within =
    let n = length c.args.points.now in
    rw (c.deref_mut.ensures.value, c.in_ok-cells.ensures) (length-replicate (n * n) unwritten)

pub write_table-requires-clause-fresh : goal.write_table-requires-clause-fresh
write_table-requires-clause-fresh g c κs within =
    let n = length c.args.points.now in
    rw (c.deref_mut.ensures.value, c.in_ok-cells.ensures) (All-replicate (λ cell. cell ≡ unwritten) (n * n) unwritten refl)

pub returns-then-count-eq0-clause-size : goal.returns-then-count-eq0-clause-size
returns-then-count-eq0-clause-size g c =
    let n = length c.args.points.now in
    ap length c.in_ok-cells.ensures ∙ length-replicate {A = ℕ} (n * n) unwritten

pub returns-then-count-eq0-clause-times : goal.returns-then-count-eq0-clause-times
returns-then-count-eq0-clause-times g c =
    let none : length c.args.points.now ≡ 0 = omega arith in
    λ i j lt less. absurd (omega (arith, none, lt))

pub returns-clause-size : goal.returns-clause-size
returns-clause-size g c =
    let n = length c.args.points.now in
    let new = c.write_table.new.cells in
    let items = c.in_ok-cells.cells.items in
    let held = c.in_ok-cells.cells.ok.0 in
    let made = ap length c.in_ok-cells.ensures ∙ length-replicate {A = ℕ} (n * n) unwritten in
    let size = c.write_table.ensures.size in
    let same : take c.in_ok-cells.cells.len (new ++ drop (length new) items) ≡ new = take_at new (drop (length new) items) c.in_ok-cells.cells.len
    (omega arith) in
    omega (arith, ap length same, size, made, ap length c.deref_mut.ensures.value)

pub returns-clause-times : goal.returns-clause-times
returns-clause-times g c =
    let roads = c.args.hierarchy.now in
    let points = c.args.points.now in
    let n = length points in
    let new = c.write_table.new.cells in
    let items = c.in_ok-cells.cells.items in
    let held = c.in_ok-cells.cells.ok.0 in
    let made = ap length c.in_ok-cells.ensures ∙ length-replicate {A = ℕ} (n * n) unwritten in
    let size = c.write_table.ensures.size in
    let same : take c.in_ok-cells.cells.len (new ++ drop (length new) items) ≡ new = take_at new (drop (length new) items) c.in_ok-cells.cells.len
    (omega arith) in
    let all : length c.write_table.new.cells ≡ length c.args.points.now * length c.args.points.now = omega
    (arith, size, made, ap length c.deref_mut.ensures.value) in
    let read = c.deref.ensures.value ∙ same in
    let written : All (λ cell. cell ≢ unwritten) new = subst (λ xs. All (λ cell. cell ≢ unwritten) xs) read
    (c.are_written.ensures c.if-not-are_written.false) in
    subst (λ xs. (i j : ℕ) → i < n → j < n → IsTimeBetween roads.arcs (slice_index points i) (slice_index points j) (slice_index xs (i * n + j))) (sym same)
    (cell_of_table roads points new (c.write_table.ensures.times roads c.in_ok-part.ensures.part) all (λ k lt. written k 0 lt))
