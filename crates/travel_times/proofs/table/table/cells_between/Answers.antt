use Rattle.std.proofs.Common.{◌≡◌, ℕ, ◌+◌, ◌*◌, ◌<◌, ◌++◌, length, slice_index, take, drop, refl, ap, sym, ◌∙◌, subst, arith}
use Rattle.travel_times.proofs.Common.{length-replicate, never, AreRows}
use Rattle.std.proofs.lemmas.List.{take_at}
use Rattle.std.proofs.lemmas.List.Elements.{All-replicate}
use Rattle.travel_times.proofs.table.Pieces.{rows_of_written}
use Rattle.travel_times.proofs.table.table.cells_between.Goals as goal

pub write_pieces-requires-clause-size : goal.write_pieces-requires-clause-size
write_pieces-requires-clause-size g c κs within =
    let n = length c.args.points.now in
    rw (c.deref_mut.ensures.value, c.in_ok-cells.ensures) (length-replicate (n * n) never)

pub write_pieces-requires-clause-unwritten : goal.write_pieces-requires-clause-unwritten
write_pieces-requires-clause-unwritten g c κs within =
    let n = length c.args.points.now in
    rw (c.deref_mut.ensures.value, c.in_ok-cells.ensures) (All-replicate (λ cell. cell ≡ never) (n * n) never refl)

pub returns : goal.returns
returns g c =
    let arcs = c.args.network.now.arcs in
    let points = c.args.points.now in
    let n = length points in
    let new = c.write_pieces.new.cells in
    let items = c.in_ok-cells.cells.items in
    let held = c.in_ok-cells.cells.ok.0 in
    let made = ap length c.in_ok-cells.ensures ∙ length-replicate (n * n) never in
    let size = c.write_pieces.ensures.size in
    let same : take c.in_ok-cells.cells.len (new ++ drop (length new) items) ≡ new = take_at new (drop (length new) items) c.in_ok-cells.cells.len
    (omega arith) in
    let read = c.deref.ensures.value ∙ same in
    let all = subst (λ xs. (i : ℕ) → i < n → slice_index xs (i * n + i) ≡ never → ⊥) read (c.are_computed.ensures c.if-not-are_computed.false) in
    subst (λ xs. AreRows arcs points 0 n xs) (sym same) (rows_of_written arcs points new (rw c.in_ok-arcs.ensures at c.write_pieces.ensures) all)

pub returns-then-count-eq0 : goal.returns-then-count-eq0
returns-then-count-eq0 g c =
    let n = length c.args.points.now in
    let none : length c.args.points.now ≡ 0 = omega arith in
    record {
      size = ap length c.in_ok-cells.ensures ∙ length-replicate {A = ℕ} (n * n) never;
      times = λ i j lt less. absurd (omega (arith, none, lt));
    }
