use Rattle.std.proofs.Common.{length, slice_index, refl, arith}
use Rattle.road_hierarchy.proofs.sweeps.Beginning.{begun_none, begun_more, starts_of}
use Rattle.road_hierarchy.proofs.sweeps.block.begin.Goals as goal

pub loop-k-init : goal.loop-k-init
loop-k-init c = begun_none c.args.sources.now c.args.rows.now c.told-rows c.requires.all

pub loop-k-preserved : goal.loop-k-preserved
loop-k-preserved c =
    begun_more c.args.sources.now (length c.args.rows.now) c.loop-k.k c.loop-k.rows c.loop-k.invariant (omega (arith, c.requires.few))
    (slice_index c.args.sources.now c.loop-k.k) refl
    (omega (arith, c.requires.sources c.loop-k.k 0 (omega arith), c.loop-k.invariant.same_length))

pub returns-clause-start : goal.returns-clause-start
returns-clause-start c = λ k lt. starts_of c.args.sources.now (length c.args.rows.now) c.loop-k.k c.loop-k.rows c.loop-k.invariant k (omega (arith, lt))
    (omega (arith, lt, c.requires.few)) (c.requires.sources k 0 lt)
