use Rattle.std.proofs.Common.{◌≡◌, ◌+◌, ◌*◌, ◌/◌, ◌≤◌, length, min, drop, inr, refl, ap, ◌∙◌, subst, arith}
use Rattle.std.proofs.lemmas.List.{take_at}
use Rattle.road_hierarchy.specs.work.table.Part.{IsWriting}
use Rattle.road_hierarchy.proofs.table.Writing.{block_within, writing_all, writing_none}
use Rattle.road_hierarchy.proofs.table.cells.write_rows.Goals as goal

pub returns-in_default-clause-times : goal.returns-in_default-clause-times
returns-in_default-clause-times c = λ roads part k lt. inr (c.requires.piece.fresh k 0 lt)

pub loop-block-init : goal.loop-block-init
loop-block-init c = record {
  size = refl;
  blocks = omega arith;
  times = λ roads part. subst (λ row. IsWriting roads c.args.points.now (c.args.start / length c.args.points.now) row c.args.cells.now)
      (let none : 0 ≡ min (0 * 16) (length c.args.cells.now / length c.args.points.now) = omega arith in none)
      (writing_none roads c.args.points.now (c.args.start / length c.args.points.now) c.args.cells.now c.requires.piece.fresh);
}

pub write_block-requires-clause-within : goal.write_block-requires-clause-within
write_block-requires-clause-within c =
    let few : c.loop-block.block * 16 + c.min-lanes.result ≤ length c.args.cells.now / length c.args.points.now = omega
    (arith, c.min-lanes.ensures, c.loop-block-test.true) in
    (block_within (length c.args.points.now) c.args.start (c.loop-block.block * 16) c.min-lanes.result c.args.cells.now c.requires.piece few).0

pub write_block-requires-clause-room : goal.write_block-requires-clause-room
write_block-requires-clause-room c =
    let few : c.loop-block.block * 16 + c.min-lanes.result ≤ length c.args.cells.now / length c.args.points.now = omega
    (arith, c.min-lanes.ensures, c.loop-block-test.true) in
    omega (
      arith,
      c.loop-block.invariant.size,
      (block_within (length c.args.points.now) c.args.start
          (c.loop-block.block * 16) c.min-lanes.result c.args.cells.now c.requires.piece few).1,
    )

pub loop-block-preserved : goal.loop-block-preserved
loop-block-preserved c =
    let new = c.write_block.new.blocks in
    let old = c.loop-block.blocks.items in
    let row_is : min (c.loop-block.block * 16) (length c.args.cells.now / length c.args.points.now) ≡ c.loop-block.block * 16 = omega
    (arith, c.loop-block-test.true) in
    let next : c.loop-block.block * 16 + c.min-lanes.result ≡ min ((c.loop-block.block + 1) * 16)
    (length c.args.cells.now / length c.args.points.now) = omega (arith, c.min-lanes.ensures, c.loop-block-test.true) in
    let long : length c.write_block.new.blocks ≡ c.args.part.now.nodes = c.write_block.ensures.blocks ∙ ap length c.deref_mut.ensures.value
    ∙ c.loop-block.invariant.blocks in
    record {
      size = c.write_block.ensures.size ∙ c.loop-block.invariant.size;
      blocks = ap length (take_at new (drop (length new) old) c.loop-block.blocks.len
          (omega (arith, long, c.loop-block.blocks.ok.0, c.loop-block.invariant.blocks))) ∙ long;
      times = λ roads part. subst (λ row. IsWriting roads c.args.points.now (c.args.start / length c.args.points.now) row c.write_block.new.cells) next
          (c.write_block.ensures.times roads part (subst (λ row. IsWriting roads c.args.points.now
          (c.args.start / length c.args.points.now) row c.loop-block.cells) row_is (c.loop-block.invariant.times roads part)));
    }

pub returns-clause-times : goal.returns-clause-times
returns-clause-times c = λ roads part.
    writing_all roads c.args.points.now c.args.start (min (c.loop-block.block * 16) (length c.args.cells.now / length c.args.points.now)) c.args.cells.now
    c.loop-block.cells c.requires.piece c.loop-block.invariant.size
    (c.loop-block.invariant.times roads part)
