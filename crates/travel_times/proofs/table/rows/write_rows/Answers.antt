use Rattle.std.proofs.Common.{◌+◌, ◌/◌, length, arith}
use Rattle.travel_times.proofs.table.Pieces.{writing_none, writing_more, writing_ends, row_within}
use Rattle.travel_times.proofs.table.rows.write_rows.Goals as goal

pub returns-in_default : goal.returns-in_default
returns-in_default c =
    let arcs = c.args.arcs.now.network.now.arcs in
    writing_ends arcs c.args.points.now c.args.start c.args.cells.now c.requires.some c.requires.piece 0 c.args.cells.now (omega arith)
    (writing_none arcs c.args.points.now c.args.start c.args.cells.now c.requires.some c.requires.piece)

pub loop-row-init : goal.loop-row-init
loop-row-init c = writing_none c.args.arcs.now.network.now.arcs c.args.points.now c.args.start c.args.cells.now c.requires.some c.requires.piece

pub bounds-points-from : goal.bounds-points-from
bounds-points-from c = row_within c.args.arcs.now.network.now.arcs c.args.points.now c.args.start c.args.cells.now c.requires.some c.requires.piece
    c.loop-row.row c.loop-row-test.true

pub run-requires-clause-start : goal.run-requires-clause-start
run-requires-clause-start c =
    c.requires.known (c.args.start / length c.args.points.now + c.loop-row.row) 0
    (row_within c.args.arcs.now.network.now.arcs c.args.points.now c.args.start c.args.cells.now c.requires.some c.requires.piece c.loop-row.row
    c.loop-row-test.true)

pub returns-in_default-run : goal.returns-in_default-run
returns-in_default-run c =
    writing_ends c.args.arcs.now.network.now.arcs c.args.points.now c.args.start c.args.cells.now c.requires.some c.requires.piece c.loop-row.row
    c.loop-row.cells
    (let lt = c.loop-row-test.true in omega arith) c.loop-row.invariant

pub loop-row-preserved : goal.loop-row-preserved
loop-row-preserved c =
    let arcs = c.args.arcs.now.network.now.arcs in
    let points = c.args.points.now in
    let within = row_within arcs points c.args.start c.args.cells.now c.requires.some c.requires.piece c.loop-row.row c.loop-row-test.true in
    let wrote = rw c.deref.ensures.value at c.write_row.ensures in
    let times = c.in-Ok-run.ensures.times in
    writing_more arcs points c.run.new.self.seconds.items (c.args.start / length points) (length c.args.cells.now / length points) c.loop-row.row
    (length c.args.arcs.now.network.now.nodes)
    c.loop-row.cells c.write_row.new.cells c.loop-row-test.true within c.requires.known (λ goal h. times.near goal h (times.bounded goal h)) wrote
    c.loop-row.invariant

pub returns : goal.returns
returns c =
    writing_ends c.args.arcs.now.network.now.arcs c.args.points.now c.args.start c.args.cells.now c.requires.some c.requires.piece c.loop-row.row
    c.loop-row.cells
    (let lt = c.loop-row.auto.row-end in omega arith) c.loop-row.invariant
