use Rattle.std.proofs.Common.{ℕ, ◌<◌, ◌^◌, subst, arith}
use Rattle.report_audit.proofs.report.report.fetch_bounds.Goals as goal

pub returns : goal.returns
returns c = record {
  sizes = (subst (λ (k : ℕ). k < 2 ^ 64) c.node_count.ensures.count (omega arith), subst (λ (k : ℕ). k < 2 ^ 64) c.arc_count.ensures.count (omega arith));
  fleet = c.keeps.ensures;
  kept = c.keeps-2.ensures;
}
