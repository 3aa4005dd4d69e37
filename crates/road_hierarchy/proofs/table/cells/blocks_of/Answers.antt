use Rattle.std.proofs.Common.{◌+◌, ◌∙◌, ℕ, ap, replicate}
use Rattle.std.proofs.lemmas.List.{length_push}
use Rattle.road_hierarchy.specs.work.sweeps.Sweep.{far}
use Rattle.road_hierarchy.proofs.table.cells.blocks_of.Goals as goal

pub loop-preserved : goal.loop-preserved
loop-preserved c = rw c.in_ok-push.ensures.items (length_push c.loop.blocks.items (replicate 16 far) ∙ ap (λ (n : ℕ). n + 1) c.loop.invariant)
